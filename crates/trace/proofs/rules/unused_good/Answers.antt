-- `trace::rules::unused_good` meets its contract. The loop's invariant: the offsets from the first unused one to before k
-- are 0. Assumes nothing.
use Prim.Native.Nat.{ℕ, ◌+◌, ◌≤◌, ◌-◌}
use mathlib.Core.Path.{◌≡◌, sym, ap, ◌∙◌}
use mathlib.Core.List.{List}
use native.Mathlib.Omega.{arith}
use borrow.Author.Tests.{eq-eqb, ne_eqb}
use lib.Dec.{eqb}
use Rattle.table.proofs.Every.{every_none, every_more, every_fails}
use Rattle.trace.specs.Layout.{most_records, count_of, begin_of}
use Rattle.trace.specs.Rules.{unused_good}
use Rattle.trace.proofs.rules.unused_good.Invariants.{is_zero}
use Rattle.trace.proofs.rules.unused_good.Goals as goal

at_k : (f : List ℕ) (k : ℕ) → count_of f + 1 ≤ k → is_zero f (k - (count_of f + 1)) ≡ eqb (begin_of f k) 0
at_k f k l =
    let e : count_of f + 1 + (k - (count_of f + 1)) ≡ k = omega arith in
    ap (λ (i : ℕ). eqb (begin_of f i) 0) e

pub loop-k-init : goal.loop-k-init
loop-k-init c =
    let none : c.count.result + 1 - (count_of c.args.file.now + 1) ≡ 0 = omega (arith, c.count.ensures) in
    (omega (arith, c.count.ensures), rw none (every_none _))

pub returns-then-begin-ne0 : goal.returns-then-begin-ne0
unfolding unused_good
returns-then-begin-ne0 c =
    let l = c.loop-k in
    let f = c.args.file.now in
    let b = at_k f l.k (omega (arith, c.count.ensures, l.auto.k)) in
    sym (every_fails (most_records - count_of f) (is_zero f) (l.k - (count_of f + 1)) (omega (arith, c.count.ensures, l.auto.k)) (b ∙ rw (← c.begin.ensures) (ne_eqb _ _ c.if-begin-ne0.true)))

pub loop-k-preserved : goal.loop-k-preserved
loop-k-preserved c =
    let l = c.loop-k in
    let f = c.args.file.now in
    let b = at_k f l.k (omega (arith, c.count.ensures, l.auto.k)) in
    let one : l.k + 1 - (count_of f + 1) ≡ l.k - (count_of f + 1) + 1 = omega (arith, c.count.ensures, l.auto.k) in
    (omega (arith, c.count.ensures, l.auto.k), rw one (every_more _ _ l.invariant.1 (b ∙ rw (← c.begin.ensures) (eq-eqb _ _ c.if-begin-ne0.false))))

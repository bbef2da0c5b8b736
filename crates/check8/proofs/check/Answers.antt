-- `check8::check` meets its contract. The loop's invariant: what is left, from c on, gives the whole's check byte. Assumes nothing.
use mathlib.Core.Path.{sym, ap, ◌∙◌}
use Prim.Native.Nat.{ℕ, ◌+◌}
use native.Mathlib.Omega.{arith}
use lib.ListN.{drop}
use Rattle.check8.specs.Polynomial.{check_from}
use Rattle.check8.proofs.Laws.{one_more, at_end}
use Rattle.check8.proofs.check.Goals as goal

pub loop-b-preserved : goal.loop-b-preserved
loop-b-preserved c =
    let bs = c.args.bytes.now in
    let l = c.loop-b in
    ap (λ (x : ℕ). check_from x (drop (l.b-index + 1) bs)) c.step-c.ensures ∙ one_more bs l.c l.b-index (omega arith) ∙ l.invariant

pub returns : goal.returns
returns c =
    let bs = c.args.bytes.now in
    let l = c.loop-b in
    sym (at_end bs l.c l.b-index (omega arith)) ∙ l.invariant

-- The bound of a good node: while its head says that ticks may pass, none of its timers runs out in them. A tick that passes keeps it, and
-- what is left of each timer falls by one; a tick that goes through the entries finds it anew. Assumes nothing.
use Prim.Native.Nat.{ℕ, ◌-◌, ◌≤◌}
use mathlib.Core.Path.{◌≡◌, refl, sym, ◌∙◌}
use mathlib.Core.Logic.{◌≢◌}
use mathlib.Core.Bool.{Bool, true, false, not, ◌&&◌, true≢false}
use mathlib.Core.List.{List}
use native.Mathlib.Decide.{ℕ_discrete}
use native.Mathlib.Omega.{arith}
use lib.Dec.{eqb}
use borrow.Author.Tests.{eq-eqb, ne_eqb}
use Rattle.end_points.specs.States.{is_over}
use Rattle.end_points.specs.declared.State.{State}
use Rattle.end_points.specs.declared.State.TheVariants.{Closed, Enabled, Open, Failing}
use Rattle.end_points.specs.declared.EndPoint.{EndPoint}
use Rattle.waiting.specs.Port.{is_own}
use Rattle.timing.specs.Timing.{later, left_of}
use Rattle.timing.proofs.Falling.{left_pos, left_falls, none_due, bound_falls}
use Rattle.good.specs.Good.{Outlasts, Timely}
use Rattle.good.proofs.TickEntry.{Bound, Bounds}

and_false : (z : Bool) → (z && false) ≡ false
and_false true = refl
and_false false = refl

-- a timer of a good node, running or not, holds a number of the round
pub outlasts_number : (c q d : ℕ) → Outlasts c q d → d ≤ 65535
outlasts_number c q d h = sides (ℕ_discrete d 0)
  where
    sides : Dec (d ≡ 0) → d ≤ 65535
    sides (yes z) = omega arith
    sides (no runs) = (h runs).0

-- ---- a tick that passes

module _ (c q : ℕ) (small : c ≤ 65535) (some : q ≢ 0) where
  -- it passes over no timer of which one is left, and what is left of each falls by one, where it runs
  pub passes_none : (d : ℕ) → Outlasts c q d → (left_of c d ≢ 1) × (left_of (later c 1) d ≡ left_of c d - 1)
  passes_none d h = sides (ℕ_discrete d 0)
    where
      sides : Dec (d ≡ 0) → (left_of c d ≢ 1) × (left_of (later c 1) d ≡ left_of c d - 1)
      sides (yes z) = rw z ((λ e. omega arith), refl)
      sides (no runs) =
          let p = h runs in
          ((λ e. some (omega (arith, p.1, e))), left_falls c d small p.0 runs (none_due c d small p.0 runs q p.1 some))

  one_falls : (d : ℕ) → Outlasts c q d → Outlasts (later c 1) (q - 1) d
  one_falls d h runs = let p = h runs in (p.0, bound_falls c d small p.0 runs q p.1 some)

  pub falls_on : (b : List ℕ) (j : ℕ) (e : EndPoint) (s : State) → Timely c q b j e s → Timely (later c 1) (q - 1) b j e s
  falls_on b j e Closed h = tt
  falls_on b j e (Enabled d sent) h = λ u. one_falls d (h u)
  falls_on b j e Open h = λ k l u. one_falls _ (h k l u)
  falls_on b j e (Failing n) h = (λ k l u. one_falls _ (h.0 k l u), λ z u. absurd (some (h.1 z u)))

  -- nor over an end to recover
  pub passes_over : (b : List ℕ) (j : ℕ) (e : EndPoint) (s : State) → Timely c q b j e s → (is_over s && not (is_own b j)) ≡ false
  passes_over b j e Closed h = refl
  passes_over b j e (Enabled d sent) h = refl
  passes_over b j e Open h = refl
  passes_over b j e (Failing n) h = sides (is_own b j) refl
    where
      sides : (o : Bool) → is_own b j ≡ o → (eqb n 0 && not o) ≡ false
      sides true q = and_false (eqb n 0)
      sides false q = rw (ne_eqb n 0 (λ z. some (h.1 z q)))

-- ---- a tick that goes through the entries

-- the least that it found, less one, is the bound, whatever it was before
found_one : (c m d : ℕ) → (d ≢ 0 → d ≤ 65535) → Bound c m d → Outlasts c (m - 1) d
found_one c m d number h runs = let p = left_pos c d runs in let q = h runs in (number runs, omega (arith, p, q))

pub found_on : (c c₀ m q : ℕ) (b : List ℕ) (j : ℕ) (e : EndPoint) (s : State) → Bounds c m b j e s → Timely c₀ q b j e s → (is_over s && not (is_own b j)) ≡ false
    → Timely c (m - 1) b j e s
found_on c c₀ m q b j e Closed h o over = tt
found_on c c₀ m q b j e (Enabled d sent) h o over = λ u. found_one c m d (λ runs. (o u runs).0) (h u)
found_on c c₀ m q b j e Open h o over = λ k l u. found_one c m _ (λ runs. (o k l u runs).0) (h k l u)
found_on c c₀ m q b j e (Failing n) h o over = (
  λ k l u. found_one c m _ (λ runs. (o.0 k l u runs).0) (h k l u),
  λ z own. absurd (true≢false (sym (rw (eq-eqb n 0 z, own)) ∙ over)),
)

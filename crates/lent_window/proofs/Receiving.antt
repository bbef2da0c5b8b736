-- Laws of the window through which numbers arrive: lending it to `accept` and then to `pass` is the two steps by value; a good
-- window stays good, with its start not held; a number that is not new alters nothing, and one past the start passes nothing
-- (01, "End points"). Assumes nothing.
use mathlib.Core.Path.{◌≡◌, ap, ◌∙◌}
use mathlib.Core.Bool.{false}
use Prim.Native.Nat.{ℕ}
use Rattle.window.specs.Windows.{offset_of, held, Good, accept_of, pass_of}
use Rattle.window.specs.declared.Window.{Window}
use Rattle.window.specs.declared.Passed.{Passed}
use Rattle.window.specs.declared.Found.{Found}
use Rattle.window.specs.declared.Found.TheVariants.{New}
use Rattle.window.proofs.Accepting.{accept_same, accept_good}
use Rattle.window.proofs.Passing.{pass_run, pass_good, pass_first, pass_none, run_later}
use Rattle.lent_window.specs.Received.{stepped}
use Rattle.lent_window.specs.declared.Received.{Received}

module _ (w : Window) (s : ℕ) where
  -- what a driver finds in its record and has as answers, after `accept` and then `pass`
  pub lent_in_turn : (w₁ w₂ : Window) (f : Found) (n : ℕ) → f ≡ (accept_of w s).found → w₁ ≡ (accept_of w s).window → n ≡ (pass_of w₁).run → w₂ ≡ (pass_of w₁).window
      → ◌≡◌ {A = Received} (record { window = w₂; found = f; run = n }) (stepped w s)
  lent_in_turn w₁ w₂ f n ef e₁ en e₂ = rw (ef, en, e₂, e₁)

  -- a good window stays good
  pub received_good : Good w → Good (stepped w s).window
  received_good g = pass_good (accept_of w s).window (accept_good w s g)

  -- what the next number asks: the start is not held
  pub received_first : Good w → held (stepped w s).window 0 ≡ false
  received_first g = pass_first (accept_of w s).window (accept_good w s g)

  -- held already, or outside: dropped
  pub received_dropped : Good w → held w 0 ≡ false → ((accept_of w s).found ≡ New → ⊥)
      → stepped w s ≡ record { window = w; found = (accept_of w s).found; run = 0 }
  received_dropped g h n =
      ap (λ (p : Passed). record { window = p.window; found = (accept_of w s).found; run = p.run }) (ap pass_of (accept_same w s n) ∙ pass_none w g h)

  -- not the start: held until the start comes
  pub received_later : Good w → held w 0 ≡ false → (0 ≡ offset_of w s → ⊥) → (stepped w s).run ≡ 0
  received_later g h n = pass_run (accept_of w s).window ∙ run_later w s g n h

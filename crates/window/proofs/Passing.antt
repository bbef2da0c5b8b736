-- Laws of `pass`: the run is the longest without a gap, and afterwards every offset is lower by it. Assumes nothing.
use Rattle.std.proofs.Common.{◌≡◌, ℕ, ◌+◌, ◌/◌, ◌^◌, ◌<◌, ◌≤◌, true, false, sym, refl, ap, ◌∙◌, ap₂, true≢false, lt_of_le_of_lt, add-zero, mod-lt, zero-add, arith, pow_pos}
use mathlib.Core.Logic.{by_cases}
use native.Mathlib.Decide.{dec_lt}
use lib.Pow.{shr_le}
use Rattle.window.specs.Marks.{joined, bit}
use Rattle.window.specs.Numbers.{seq_of}
use Rattle.window.specs.Windows.{offset_of, held, run_of, Good, accept_of, moved_of, pass_of}
use Rattle.window.specs.declared.Window.{Window}
use Rattle.window.proofs.Accepting.{accept_other}
use Rattle.window.proofs.Bits.{bit_shr, bit_above}
use Rattle.window.proofs.Holding.{good_lt, held_beyond, same_window}
use Rattle.window.proofs.TrailingOnes.{run_in_held, run_in_stops}
use Rattle.window.proofs.TwoWords.{joined_parted}

module _ (w : Window) where
  -- ---- the run

  -- all of it is held
  pub run_held : (k : ℕ) → k < run_of w → held w k ≡ true
  unfolding held
  run_held k h = run_in_held 128 (joined w.marks) k h

  -- the offset after it is not
  pub run_stops : Good w → held w (run_of w) ≡ false
  unfolding held
  run_stops g =
      by_cases (dec_lt (run_of w) 128) (λ l. run_in_stops 128 (joined w.marks) l)
      (λ l. bit_above 128 (joined w.marks) (run_of w) (good_lt w g) (omega arith))

  pub run_le : Good w → run_of w ≤ w.size
  run_le g =
      by_cases (dec_lt w.size (run_of w))
      (λ l. absurd (true≢false (sym (run_held w.size l) ∙ held_beyond w g w.size (omega arith)))) (λ l. omega arith)

  -- it is empty where the start is not held
  pub run_none : held w 0 ≡ false → run_of w ≡ 0
  run_none h = by_cases (dec_lt 0 (run_of w)) (λ l. absurd (true≢false (sym (run_held 0 l) ∙ h))) (λ l. omega arith)

  -- ---- the window afterwards

  pub pass_run : (pass_of w).run ≡ run_of w
  unfolding pass_of
  pass_run = refl

  pub pass_start : (pass_of w).window.start ≡ seq_of (w.start.0 + run_of w)
  unfolding pass_of
  pass_start = refl

  pub pass_size : (pass_of w).window.size ≡ w.size
  unfolding pass_of
  pass_size = refl

  rest_number : Good w → joined (moved_of w (run_of w)).marks ≡ joined w.marks / 2 ^ run_of w
  rest_number g = joined_parted (joined w.marks / 2 ^ run_of w) (lt_of_le_of_lt (shr_le (joined w.marks) (run_of w)) (good_lt w g))

  pub pass_good : Good w → Good (pass_of w).window
  unfolding pass_of
  pass_good g =
      record {
        sized = g.sized;
        byte = mod-lt _ (pow_pos 8);
        word = mod-lt _ (pow_pos 64);
        below = rw (rest_number g) (lt_of_le_of_lt (shr_le (joined w.marks) (run_of w)) g.below);
      }

  pub pass_held : Good w → (k : ℕ) → held (pass_of w).window k ≡ held w (run_of w + k)
  unfolding held pass_of
  pass_held g k = ap (λ (n : ℕ). bit n k) (rest_number g) ∙ bit_shr (joined w.marks) (run_of w) k

  -- so the start is not held afterwards
  pub pass_first : Good w → held (pass_of w).window 0 ≡ false
  pass_first g = pass_held g 0 ∙ ap (held w) (add-zero (run_of w)) ∙ run_stops g

  -- and where it was not held before, nothing alters
  pub pass_none : Good w → held w 0 ≡ false → pass_of w ≡ record { window = w; run = 0 }
  pass_none g h =
      let r = run_none h in
      let start : (pass_of w).window.start ≡ w.start = pass_start ∙ ap (λ (n : ℕ). record { 0 = n }) (omega arith) in
      let window : (pass_of w).window ≡ w =
      same_window (pass_of w).window w (pass_good g).word g.word start pass_size
      (λ k. pass_held g k ∙ ap (λ (n : ℕ). held w (n + k)) r ∙ ap (held w) (zero-add k)) in
      ap₂ (λ (x : Window) (n : ℕ). record { window = x; run = n }) window (pass_run ∙ r)

-- ---- after an accept

-- a number that is accepted and is not the start lets nothing pass
pub run_later : (w : Window) (s : ℕ) → Good w → (0 ≡ offset_of w s → ⊥) → held w 0 ≡ false → run_of (accept_of w s).window ≡ 0
run_later w s g n h = run_none (accept_of w s).window (accept_other w s g 0 n ∙ h)

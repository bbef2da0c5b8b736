-- What is held of a window: nothing at or beyond its size, how many are, and that the view says all. Assumes nothing.
use Rattle.std.proofs.Common.{◌≡◌, ℕ, zero, suc, ◌+◌, ◌*◌, ◌/◌, ◌%◌, ◌^◌, ◌<◌, ◌≤◌, true, false, eqb, ◌↔◌, sym, refl, ap, ◌∙◌, ap₂, true≢false, lt_of_lt_of_le, mod-lt, mod-eq_of_lt, one-add, arith, pow_pos, pow_mono}
use mathlib.Core.Logic.{by_cases}
use native.Mathlib.Nat.{mod-one}
use native.Mathlib.Decide.{dec_lt}
use lib.Count.{ones, ones_cat}
use lib.Pow.{high, low, mod-pow-add}
use Rattle.units.specs.Refusals.{pick}
use Rattle.units.specs.declared.Seq.{Seq}
use Rattle.window.specs.Marks.{joined, bit}
use Rattle.window.specs.Windows.{held, held_count, Good}
use Rattle.window.specs.declared.Marks.{Marks}
use Rattle.window.specs.declared.Window.{Window}
use Rattle.window.proofs.Bits.{bit_above, bit_ext, bit_of_zero}
use Rattle.window.proofs.Sizes.{size_le, no_ones, ones_zero}

-- ---- nothing is held at or beyond the size

pub held_beyond : (w : Window) → Good w → (k : ℕ) → w.size ≤ k → held w k ≡ false
unfolding held
held_beyond w g k l = bit_above w.size (joined w.marks) k g.below l

pub held_below_holds : (w : Window) → Good w → (k : ℕ) → held w k ≡ true → k < w.size
held_below_holds w g k h = by_cases (dec_lt k w.size) (λ l. l) (λ l. absurd (true≢false (sym h ∙ held_beyond w g k (omega arith))))

-- so the marks are a number of 128 digits
pub good_lt : (w : Window) → Good w → joined w.marks < 2 ^ 128
good_lt w g = lt_of_lt_of_le g.below (pow_mono (size_le w.size g.sized))

-- ---- how many are held

-- how many of the offsets below n are
abbrev pub held_below : Window → ℕ → ℕ
held_below w zero = zero
held_below w (suc n) = pick (held w n) 1 0 + held_below w n

ones_digit : (d : ℕ) → d < 2 → ones d ≡ pick (eqb d 1) 1 0
unfolding ones
ones_digit zero h = refl
ones_digit (suc zero) h = refl
ones_digit (suc (suc d)) h = absurd (omega arith)

ones_below : (w : Window) (n : ℕ) → ones (joined w.marks % 2 ^ n) ≡ held_below w n
unfolding held bit
ones_below w zero = ap ones (mod-one (joined w.marks)) ∙ ones_zero
ones_below w (suc n) =
    let m = joined w.marks in
    let top : m % 2 ^ suc n ≡ m / 2 ^ n % 2 * 2 ^ n + m % 2 ^ n = ap (λ (x : ℕ). m % 2 ^ x) (sym (one-add n)) ∙ mod-pow-add m 1 n in
    ap ones top ∙ ones_cat n (m / 2 ^ n % 2) (m % 2 ^ n) (mod-lt m (pow_pos n))
    ∙ ap₂ (λ (x y : ℕ). x + y) (ones_digit (m / 2 ^ n % 2) (omega arith)) (ones_below w n)

pub count_below : (w : Window) → Good w → held_count w ≡ held_below w w.size
count_below w g = ap ones (sym (mod-eq_of_lt g.below)) ∙ ones_below w w.size

pub count_none : (w : Window) → (held_count w ≡ 0) ↔ ((k : ℕ) → held w k ≡ false)
unfolding held
count_none w = (
  (λ e k. ap (λ (n : ℕ). bit n k) (no_ones (joined w.marks) e) ∙ bit_of_zero k),
  (λ h. ap ones (bit_ext (joined w.marks) 0 (λ k. h k ∙ sym (bit_of_zero k))) ∙ ones_zero),
)

-- ---- the view says all: windows with the same start, size and held offsets are the same

same_marks : (a b : Marks) → a.0 < 2 ^ 64 → b.0 < 2 ^ 64 → joined a ≡ joined b → a ≡ b
same_marks a b fa fb e =
    ap₂ (λ (x y : ℕ). record { 0 = x; 1 = y })
    (sym (low a.1 64 fa) ∙ ap (λ (n : ℕ). n % 2 ^ 64) e ∙ low b.1 64 fb)
    (sym (high a.1 64 fa) ∙ ap (λ (n : ℕ). n / 2 ^ 64) e ∙ high b.1 64 fb)

pub same_window : (v w : Window) → v.marks.0 < 2 ^ 64 → w.marks.0 < 2 ^ 64
    → v.start ≡ w.start → v.size ≡ w.size → ((k : ℕ) → held v k ≡ held w k) → v ≡ w
unfolding held
same_window v w fv fw p q h =
    let m : v.marks ≡ w.marks = same_marks v.marks w.marks fv fw (bit_ext (joined v.marks) (joined w.marks) h) in
    ap (λ (x : Marks). record { start = v.start; size = v.size; marks = x }) m
    ∙ ap₂ (λ (x : Seq) (y : ℕ). record { start = x; size = y; marks = w.marks }) p q

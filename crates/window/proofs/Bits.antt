-- Laws of a number's binary digits: what `or`, a power of two and a shift do to each, and that they say all of the number.
-- Every law is over the width. Assumes nothing.
use Rattle.std.proofs.Common.{◌≡◌, ℕ, zero, suc, ◌+◌, ◌*◌, ◌/◌, ◌%◌, ◌^◌, ◌<◌, ◌≤◌, max, false, ◌||◌, eqb, sym, ap, ◌∙◌, lt_of_lt_of_le, le_of_suc-le-suc, not-suc-le-zero, zero-lt-suc, mul_comm, pow-suc, div-one, mul-div_cancel, arith, pow_mono, shr-shr, eq-eqb, ne_eqb, eqb-true}
use mathlib.Core.Logic.{by_cases}
use native.Mathlib.Nat.{div-eq_of_lt, div-div-eq-div-mul, mul-mod_left, zero-div}
use native.Mathlib.Decide.{ℕ_discrete}
use borrow.Author.Tests.{eqb-false}
use lib.Arith.{half_le, le-zero, digits_mod}
use lib.Bits.{bit_or, or_shr, or_step, block_half, block_odd}
use lib.Dec.{eqb-zero-suc, eqb-suc-zero, eqb-suc-suc}
use lib.Pow.{high}
use Rattle.window.specs.Marks.{bit}

-- ---- the lowest digit, and the others

pub bit_zero : (n : ℕ) → bit n 0 ≡ eqb (n % 2) 1
unfolding bit
bit_zero n = rw (div-one n)

pub bit_suc : (n k : ℕ) → bit n (suc k) ≡ bit (n / 2) k
unfolding bit
bit_suc n k = rw (pow-suc 2 k, mul_comm (2 ^ k) 2, ← div-div-eq-div-mul n 2 (2 ^ k))

pub bit_of_zero : (k : ℕ) → bit 0 k ≡ false
unfolding bit
bit_of_zero k = rw (zero-div (2 ^ k))

-- two numbers with the same digits are the same
same_odd : (a b : ℕ) → eqb (a % 2) 1 ≡ eqb (b % 2) 1 → a % 2 ≡ b % 2
same_odd a b e =
    by_cases (ℕ_discrete (b % 2) 1)
    (λ h. eqb-true (a % 2) 1 (e ∙ eq-eqb (b % 2) 1 h) ∙ sym h)
    (λ h. let g = eqb-false (a % 2) 1 (e ∙ ne_eqb (b % 2) 1 h) in omega arith)

ext_to : (n a b : ℕ) → a ≤ n → b ≤ n → ((k : ℕ) → bit a k ≡ bit b k) → a ≡ b
ext_to zero a b ha hb e = le-zero ha ∙ sym (le-zero hb)
ext_to (suc n) a b ha hb e =
    let h = ext_to n (a / 2) (b / 2) (half_le ha) (half_le hb) (λ k. sym (bit_suc a k) ∙ e (suc k) ∙ bit_suc b k) in
    let l = same_odd a b (sym (bit_zero a) ∙ e 0 ∙ bit_zero b) in
    omega arith

pub bit_ext : (a b : ℕ) → ((k : ℕ) → bit a k ≡ bit b k) → a ≡ b
bit_ext a b e = ext_to (a + b) a b (omega arith) (omega arith) e

-- ---- the digits of an or, of a power, of a quotient, of a short number

max_or : (a b : ℕ) → a < 2 → b < 2 → eqb (max a b) 1 ≡ (eqb a 1 || eqb b 1)
max_or zero b ha hb = let e : max 0 b ≡ b = omega arith in ap (λ (x : ℕ). eqb x 1) e
max_or (suc zero) b ha hb = eq-eqb (max 1 b) 1 (omega arith)
max_or (suc (suc a)) b ha hb = absurd (omega arith)

pub bit_or_holds : (a b k : ℕ) → bit (bit_or a b) k ≡ (bit a k || bit b k)
unfolding bit
bit_or_holds a b k =
    let x = a / 2 ^ k in
    let y = b / 2 ^ k in
    ap (λ (n : ℕ). eqb (n % 2) 1) (or_shr a b k ∙ or_step x y)
    ∙ ap (λ (n : ℕ). eqb n 1) (digits_mod (bit_or (x / 2) (y / 2)) (omega arith))
    ∙ max_or (x % 2) (y % 2) (omega arith) (omega arith)

pow_half : (d : ℕ) → 2 ^ suc d / 2 ≡ 2 ^ d
pow_half d = rw (pow-suc 2 d) (mul-div_cancel (2 ^ d) (zero-lt-suc 1))

pow_even : (d : ℕ) → 2 ^ suc d % 2 ≡ 0
pow_even d = rw (pow-suc 2 d) (mul-mod_left (2 ^ d) 2)

pub bit_pow : (d k : ℕ) → bit (2 ^ d) k ≡ eqb k d
bit_pow zero zero = bit_zero 1
bit_pow zero (suc k) = bit_suc 1 k ∙ bit_of_zero k ∙ sym (eqb-suc-zero k)
bit_pow (suc d) zero = bit_zero (2 ^ suc d) ∙ ap (λ (n : ℕ). eqb n 1) (pow_even d) ∙ sym (eqb-zero-suc d)
bit_pow (suc d) (suc k) = bit_suc (2 ^ suc d) k ∙ ap (λ (n : ℕ). bit n k) (pow_half d) ∙ bit_pow d k ∙ sym (eqb-suc-suc k d)

pub bit_shr : (n j k : ℕ) → bit (n / 2 ^ j) k ≡ bit n (j + k)
unfolding bit
bit_shr n j k = rw (shr-shr n j k)

pub bit_above : (j n k : ℕ) → n < 2 ^ j → j ≤ k → bit n k ≡ false
unfolding bit
bit_above j n k h l = rw (div-eq_of_lt (lt_of_lt_of_le h (pow_mono l)))

-- ---- the digits of a number of k digits with another above it

pub bit_low : (k a r i : ℕ) → i < k → bit (a * 2 ^ k + r) i ≡ bit r i
bit_low zero a r i h = absurd (not-suc-le-zero h)
bit_low (suc k) a r zero h =
    bit_zero (a * 2 ^ suc k + r) ∙ ap (λ (n : ℕ). eqb n 1) (block_odd a k r) ∙ sym (bit_zero r)
bit_low (suc k) a r (suc i) h =
    bit_suc (a * 2 ^ suc k + r) i ∙ ap (λ (n : ℕ). bit n i) (block_half a k r)
    ∙ bit_low k a (r / 2) i (le_of_suc-le-suc h) ∙ sym (bit_suc r i)

pub bit_high : (k a r i : ℕ) → r < 2 ^ k → bit (a * 2 ^ k + r) (k + i) ≡ bit a i
bit_high k a r i h = sym (bit_shr (a * 2 ^ k + r) k i) ∙ ap (λ (n : ℕ). bit n i) (high a k h)

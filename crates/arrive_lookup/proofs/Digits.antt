-- Laws of a number's binary digits: those of an `and`, and the lowest that is 1. Assumes nothing.
use Prim.Native.Nat.{ℕ, zero, suc, ◌/◌, ◌%◌, ◌^◌, ◌≤◌, ◌<◌, min, zero-le}
use mathlib.Core.Bool.{Bool, true, false, ◌&&◌, ◌||◌, true≢false, or-true, or-false}
use mathlib.Core.Path.{◌≡◌, refl, sym, ap, ◌∙◌}
use native.Mathlib.Decide.{dec_le}
use native.Mathlib.Nat.{le_of_suc-le-suc, not-suc-le-zero}
use native.Mathlib.Omega.{arith}
use lib.Arith.{digits_mod}
use lib.Bits.{bit_and, bit_or, and_shr, and_step}
use lib.Count.{count_trailing_zeros, under}
use lib.Dec.{eqb}
use borrow.Author.Tests.{eq-eqb, ne_eqb}
use Rattle.window.specs.Marks.{bit}
use Rattle.window.proofs.Bits.{bit_zero, bit_suc, bit_or_holds, bit_pow}
use Rattle.arrive_lookup.specs.Lookup.{first_from}
use Rattle.arrive_lookup.proofs.First.{first_is}

-- ---- an `and`

min_and : (a b : ℕ) → a < 2 → b < 2 → eqb (min a b) 1 ≡ (eqb a 1 && eqb b 1)
min_and zero b ha hb = let e : min 0 b ≡ 0 = omega arith in ap (λ (x : ℕ). eqb x 1) e
min_and (suc zero) b ha hb = let e : min 1 b ≡ b = omega arith in ap (λ (x : ℕ). eqb x 1) e
min_and (suc (suc a)) b ha hb = absurd (omega arith)

pub bit_and_holds : (a b k : ℕ) → bit (bit_and a b) k ≡ (bit a k && bit b k)
unfolding bit
bit_and_holds a b k =
    let x = a / 2 ^ k in
    let y = b / 2 ^ k in
    ap (λ (n : ℕ). eqb (n % 2) 1) (and_shr a b k ∙ and_step x y)
    ∙ ap (λ (n : ℕ). eqb n 1) (digits_mod (bit_and (x / 2) (y / 2)) (omega arith))
    ∙ min_and (x % 2) (y % 2) (omega arith) (omega arith)

-- ---- the zeros below the lowest 1

trailing_zero : (k n i : ℕ) → i < count_trailing_zeros k n → bit n i ≡ false
unfolding count_trailing_zeros
trailing_zero zero n i h = absurd (not-suc-le-zero h)
trailing_zero (suc k) n i h = go (n % 2) refl (trailing_zero k (n / 2)) i h
  where
    go : (d : ℕ) → n % 2 ≡ d → ((i : ℕ) → i < count_trailing_zeros k (n / 2) → bit (n / 2) i ≡ false) → (i : ℕ) → i < under d (count_trailing_zeros k (n / 2)) → bit n i ≡ false
    go zero e later zero h = bit_zero n ∙ ne_eqb (n % 2) 1 (λ o. omega arith)
    go zero e later (suc i) h = bit_suc n i ∙ later i (le_of_suc-le-suc h)
    go (suc d) e later i h = absurd (not-suc-le-zero h)

trailing_one : (k n : ℕ) → count_trailing_zeros k n < k → bit n (count_trailing_zeros k n) ≡ true
unfolding count_trailing_zeros
trailing_one zero n h = absurd (not-suc-le-zero h)
trailing_one (suc k) n h = go (n % 2) refl (trailing_one k (n / 2)) h
  where
    go : (d : ℕ) → n % 2 ≡ d → (count_trailing_zeros k (n / 2) < k → bit (n / 2) (count_trailing_zeros k (n / 2)) ≡ true)
        → under d (count_trailing_zeros k (n / 2)) < suc k → bit n (under d (count_trailing_zeros k (n / 2))) ≡ true
    go zero e later h = bit_suc n (count_trailing_zeros k (n / 2)) ∙ later (le_of_suc-le-suc h)
    go (suc d) e later h = bit_zero n ∙ eq-eqb (n % 2) 1 (omega arith)

-- ---- the lowest of 16, which a 1 above them ends

or_left : (a b : Bool) → (a || b) ≡ false → a ≡ false
or_left false b h = refl
or_left true b h = absurd (true≢false h)

module _ (n : ℕ) where
  abbrev ended : ℕ
  ended = bit_or n 65536

  ended_bit : (i : ℕ) → bit ended i ≡ (bit n i || eqb i 16)
  ended_bit i = bit_or_holds n (2 ^ 16) i ∙ ap (λ (b : Bool). bit n i || b) (bit_pow 16 i)

  ended_at : bit ended 16 ≡ true
  ended_at = ended_bit 16 ∙ or-true (bit n 16)

  ended_le : count_trailing_zeros 64 ended ≤ 16
  ended_le = sides (dec_le (count_trailing_zeros 64 ended) 16)
    where
      sides : Dec (count_trailing_zeros 64 ended ≤ 16) → count_trailing_zeros 64 ended ≤ 16
      sides (yes h) = h
      sides (no h) = absurd (true≢false (sym ended_at ∙ trailing_zero 64 ended 16 (omega arith)))

  pub lowest_is : first_from (bit n) 0 16 ≡ count_trailing_zeros 64 ended
  lowest_is =
      first_is (bit n) 0 16 (count_trailing_zeros 64 ended) zero-le ended_le
      (λ i l h. or_left (bit n i) (eqb i 16) (sym (ended_bit i) ∙ trailing_zero 64 ended i h))
      (λ h. sym (or-false (bit n (count_trailing_zeros 64 ended))) ∙ ap (λ (b : Bool). bit n (count_trailing_zeros 64 ended) || b) (sym (ne_eqb (count_trailing_zeros 64 ended) 16 (λ e. omega arith)))
      ∙ sym (ended_bit (count_trailing_zeros 64 ended)) ∙ trailing_one 64 ended (omega arith))

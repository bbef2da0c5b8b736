-- Laws of `run_in`, the run of ones from a number's lowest digit on: it is the longest, it is the count of zeros below the
-- complement's lowest one, and over two words it ends in the low one or goes on in the high one. Assumes nothing.
use Rattle.std.proofs.Common.{◌≡◌, ℕ, zero, suc, ◌+◌, ◌-◌, ◌*◌, ◌/◌, ◌%◌, ◌^◌, ◌<◌, ◌≤◌, Bool, true, false, eqb, sym, refl, ap, ◌∙◌, ap₂, suc-le-suc, zero-le, le_of_suc-le-suc, not-suc-le-zero, zero-lt-suc, pow-suc, arith, pow_pos}
use native.Mathlib.Decide.{dec_lt}
use lib.Arith.{le-zero}
use lib.Count.{count_trailing_zeros, under}
use Rattle.units.specs.Refusals.{pick}
use Rattle.window.specs.Marks.{bit, run_in}
use Rattle.window.proofs.Bits.{bit_zero, bit_suc, bit_low, bit_high}

-- ---- the run is the longest

pub run_in_le : (k n : ℕ) → run_in k n ≤ k
unfolding run_in
run_in_le zero n = zero-le
run_in_le (suc k) n = go (eqb (n % 2) 1) (run_in_le k (n / 2))
  where
    go : (b : Bool) → run_in k (n / 2) ≤ k → pick b (suc (run_in k (n / 2))) zero ≤ suc k
    go true h = suc-le-suc h
    go false h = zero-le

-- each digit in it is 1
pub run_in_held : (k n i : ℕ) → i < run_in k n → bit n i ≡ true
unfolding run_in
run_in_held zero n i h = absurd (not-suc-le-zero h)
run_in_held (suc k) n i h = go (run_in_held k (n / 2)) (eqb (n % 2) 1) refl i h
  where
    go : ((i : ℕ) → i < run_in k (n / 2) → bit (n / 2) i ≡ true)
        → (b : Bool) → eqb (n % 2) 1 ≡ b → (i : ℕ) → i < pick b (suc (run_in k (n / 2))) zero → bit n i ≡ true
    go ih true e zero h = bit_zero n ∙ e
    go ih true e (suc i) h = bit_suc n i ∙ ih i (le_of_suc-le-suc h)
    go ih false e i h = absurd (not-suc-le-zero h)

-- the one after it is not
pub run_in_stops : (k n : ℕ) → run_in k n < k → bit n (run_in k n) ≡ false
unfolding run_in
run_in_stops zero n h = absurd (not-suc-le-zero h)
run_in_stops (suc k) n h = go (run_in_stops k (n / 2)) (eqb (n % 2) 1) refl h
  where
    go : (run_in k (n / 2) < k → bit (n / 2) (run_in k (n / 2)) ≡ false)
        → (b : Bool) → eqb (n % 2) 1 ≡ b → pick b (suc (run_in k (n / 2))) zero < suc k
        → bit n (pick b (suc (run_in k (n / 2))) zero) ≡ false
    go ih true e h = bit_suc n (run_in k (n / 2)) ∙ ih (le_of_suc-le-suc h)
    go ih false e h = bit_zero n ∙ e

-- and no other length has both
pub run_in_unique : (k n j : ℕ) → j ≤ k → ((i : ℕ) → i < j → bit n i ≡ true) → (j < k → bit n j ≡ false) → run_in k n ≡ j
unfolding run_in
run_in_unique zero n j l h s = sym (le-zero l)
run_in_unique (suc k) n zero l h s =
    ap (λ (b : Bool). pick b (suc (run_in k (n / 2))) zero) (sym (bit_zero n) ∙ s (zero-lt-suc k))
run_in_unique (suc k) n (suc j) l h s =
    ap (λ (b : Bool). pick b (suc (run_in k (n / 2))) zero) (sym (bit_zero n) ∙ h 0 (zero-lt-suc j))
    ∙ ap suc
    (run_in_unique k (n / 2) j (le_of_suc-le-suc l) (λ i q. sym (bit_suc n i) ∙ h (suc i) (suc-le-suc q))
    (λ q. sym (bit_suc n j) ∙ s (suc-le-suc q)))

-- ---- as the machine counts it: the zeros below the lowest one of the complement

under_flip : (d : ℕ) → d < 2 → (t : ℕ) → under (1 - d) t ≡ pick (eqb d 1) (suc t) zero
under_flip zero h t = refl
under_flip (suc zero) h t = refl
under_flip (suc (suc d)) h t = absurd (omega arith)

pub run_in_not : (k n : ℕ) → n < 2 ^ k → count_trailing_zeros k (2 ^ k - 1 - n) ≡ run_in k n
unfolding run_in count_trailing_zeros
run_in_not zero n h = refl
run_in_not (suc k) n h =
    let p = pow_pos k in
    let e : 2 ^ suc k ≡ 2 ^ k * 2 = pow-suc 2 k in
    let half : (2 ^ suc k - 1 - n) / 2 ≡ 2 ^ k - 1 - n / 2 = omega arith in
    let odd : (2 ^ suc k - 1 - n) % 2 ≡ 1 - n % 2 = omega arith in
    ap₂ (λ (x y : ℕ). under x (count_trailing_zeros k y)) odd half
    ∙ ap (under (1 - n % 2)) (run_in_not k (n / 2) (omega arith))
    ∙ under_flip (n % 2) (omega arith) (run_in k (n / 2))

-- ---- over two words

pub run_in_low : (k j a r : ℕ) → run_in k r < k → run_in (k + j) (a * 2 ^ k + r) ≡ run_in k r
run_in_low k j a r h =
    run_in_unique (k + j) (a * 2 ^ k + r) (run_in k r) (omega arith)
    (λ i q. bit_low k a r i (omega arith) ∙ run_in_held k r i q)
    (λ q. bit_low k a r (run_in k r) h ∙ run_in_stops k r h)

pub run_in_high : (k j a r : ℕ) → r < 2 ^ k → run_in k r ≡ k → run_in (k + j) (a * 2 ^ k + r) ≡ k + run_in j a
run_in_high k j a r hr e =
    run_in_unique (k + j) (a * 2 ^ k + r) (k + run_in j a) (omega (arith, run_in_le j a))
    (λ i q. sides i q (dec_lt i k))
    (λ q. bit_high k a r (run_in j a) hr ∙ run_in_stops j a (omega arith))
  where
    sides : (i : ℕ) → i < k + run_in j a → Dec (i < k) → bit (a * 2 ^ k + r) i ≡ true
    sides i q (yes l) = bit_low k a r i l ∙ run_in_held k r i (omega arith)
    sides i q (no l) =
        let d : i ≡ k + (i - k) = omega arith in
        ap (bit (a * 2 ^ k + r)) d ∙ bit_high k a r (i - k) hr ∙ run_in_held j a (i - k) (omega arith)

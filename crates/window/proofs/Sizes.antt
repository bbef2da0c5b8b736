-- A window's size is a power of two, from 1 to 128. Assumes nothing.
use Rattle.std.proofs.lemmas.Bool.{and_parts}
use Rattle.std.proofs.Common.{◌≡◌, ℕ, zero, suc, ◌+◌, ◌/◌, ◌%◌, ◌^◌, ◌<◌, ◌≤◌, true, eqb, leb, refl, pow-suc, arith, pow_pos, pow_mono, eqb-true, leb-true}
use mathlib.Core.Logic.{by_cases}
use native.Mathlib.Decide.{dec_le}
use lib.Arith.{bin_ind}
use lib.Count.{ones, ones_step}
use Rattle.units.specs.Sizes.{is_size}

-- ---- how many ones a number has

pub no_ones : (n : ℕ) → ones n ≡ 0 → n ≡ 0
no_ones =
    bin_ind (λ (n : ℕ). ones n ≡ 0 → n ≡ 0) (λ e. refl)
    (λ n ih e.
    let s = ones_step n in
    let h = ih (omega arith) in
    omega arith)

pub ones_zero : ones 0 ≡ 0
unfolding ones
ones_zero = refl

-- a number with one of them is a power of two
one_bit : (n : ℕ) → ones n ≡ 1 → (j : ℕ) × (n ≡ 2 ^ j)
one_bit =
    bin_ind (λ (n : ℕ). ones n ≡ 1 → (j : ℕ) × (n ≡ 2 ^ j))
    (λ e. absurd (omega (arith, ones_zero)))
    (λ n ih e. go n ih e (n % 2) refl (ones_step n))
  where
    go : (n : ℕ) → (ones (n / 2) ≡ 1 → (j : ℕ) × (n / 2 ≡ 2 ^ j)) → ones n ≡ 1
        → (d : ℕ) → n % 2 ≡ d → ones n ≡ n % 2 + ones (n / 2) → (j : ℕ) × (n ≡ 2 ^ j)
    go n ih e zero p s =
        let r = ih (omega arith) in
        let q = r.1 in
        (suc r.0, omega (arith, pow-suc 2 r.0))
    go n ih e (suc d) p s =
        let h = no_ones (n / 2) (omega arith) in
        let t : n ≡ 1 = omega arith in
        (0, t)

-- ---- the size

pub size_le : (W : ℕ) → is_size W ≡ true → W ≤ 128
size_le W v = leb-true W 128 (and_parts (eqb (ones W) 1) (leb W 128) v).1

pub size_power : (W : ℕ) → is_size W ≡ true → (j : ℕ) × (W ≡ 2 ^ j) × (j ≤ 7)
size_power W v =
    let p = one_bit W (eqb-true (ones W) 1 (and_parts (eqb (ones W) 1) (leb W 128) v).0) in
    let e = p.1 in
    let l = size_le W v in
    (p.0, e, by_cases (dec_le p.0 7) (λ h. h) (λ h. absurd (omega (arith, pow_mono {i = 8} {j = p.0} (omega arith)))))

pub size_pos : (W : ℕ) → is_size W ≡ true → 0 < W
size_pos W v =
    let p = size_power W v in
    rw p.1 (pow_pos p.0)

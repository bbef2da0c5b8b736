-- What the functions on two words of marks compute: the digits of one number, set, counted and shifted.
-- Assumes nothing.
use Rattle.std.proofs.Common.{◌≡◌, ℕ, ◌+◌, ◌-◌, ◌*◌, ◌/◌, ◌%◌, ◌^◌, ◌<◌, ◌≤◌, sym, ap, ◌∙◌, subst, ap₂, lt_of_lt_of_le, lt_of_le_of_lt, add-zero, mod-lt, mod-eq_of_lt, mul_comm, add_comm, one-mul, zero-add, div-le_self, div-one, arith, lit<, pow_pos, pow_mono, pow-add, shl_exact, shr-shr, shr_lt}
use native.Mathlib.Nat.{div-eq_of_lt, mul-mod_left, mul-mod_right, mul-add-div_right, mod-mod}
use lib.Arith.{digits_lt}
use lib.Bits.{bit_or, or_block, or_lt, or_mod, or_shifted_r, or_zero_r}
use lib.Pow.{pow-lt, shr_mod, split, high, low, field, shl-shr, mod-pow-add, mod-mod-pow}
use Rattle.window.specs.Marks.{joined, parted}
use Rattle.window.specs.declared.Marks.{Marks}

-- ---- over the width w of a word

module _ (w lo hi : ℕ) (fits : lo < 2 ^ w) where
  -- 1 << k
  one_shl : (k : ℕ) → k < w → (1 * 2 ^ k) % 2 ^ w ≡ 2 ^ k
  one_shl k h = shl_exact {a = 1} 1 k w (lit< tt) (omega arith) ∙ one-mul (2 ^ k)

  or_low : (k : ℕ) → k < w → hi * 2 ^ w + bit_or lo ((1 * 2 ^ k) % 2 ^ w) ≡ bit_or (hi * 2 ^ w + lo) (2 ^ k)
  or_low k h =
      ap (λ (x : ℕ). hi * 2 ^ w + bit_or lo x) (one_shl k h)
      ∙ ap (λ (x : ℕ). x * 2 ^ w + bit_or lo (2 ^ k)) (sym (or_zero_r hi))
      ∙ sym (or_block w hi 0 lo (2 ^ k) fits (pow-lt h))
      ∙ ap (bit_or (hi * 2 ^ w + lo)) (omega arith)

  or_high : (i k : ℕ) → i < w → k ≡ w + i → bit_or hi ((1 * 2 ^ i) % 2 ^ w) * 2 ^ w + lo ≡ bit_or (hi * 2 ^ w + lo) (2 ^ k)
  or_high i k h e =
      let p : 2 ^ i * 2 ^ w + 0 ≡ 2 ^ k = add-zero _ ∙ mul_comm (2 ^ i) (2 ^ w) ∙ sym (pow-add 2 w i) ∙ ap (λ (x : ℕ). 2 ^ x) (sym e) in
      ap (λ (x : ℕ). bit_or hi x * 2 ^ w + lo) (one_shl i h)
      ∙ ap (λ (x : ℕ). bit_or hi (2 ^ i) * 2 ^ w + x) (sym (or_zero_r lo))
      ∙ sym (or_block w hi (2 ^ i) lo 0 fits (pow_pos w))
      ∙ ap (bit_or (hi * 2 ^ w + lo)) p

  shr_high : (n i : ℕ) → n ≡ w + i → hi / 2 ^ i ≡ (hi * 2 ^ w + lo) / 2 ^ n
  shr_high n i e =
      ap (λ (x : ℕ). x / 2 ^ i) (sym (high hi w fits)) ∙ shr-shr (hi * 2 ^ w + lo) w i ∙ ap (λ (x : ℕ). (hi * 2 ^ w + lo) / 2 ^ x) (sym e)

  both_lt : hi < 2 ^ w → hi * 2 ^ w + lo < 2 ^ (w + w)
  both_lt h = rw (pow-add 2 w w) (digits_lt h fits)

-- a shift by less than a word, where a word has n + j digits: what leaves the high word enters the low one
shr_low : (n j lo hi : ℕ) → lo < 2 ^ (n + j)
    → hi / 2 ^ n * 2 ^ (n + j) + bit_or (lo / 2 ^ n) ((hi * 2 ^ j) % 2 ^ (n + j)) ≡ (hi * 2 ^ (n + j) + lo) / 2 ^ n
shr_low n j lo hi fits =
    let word : 2 ^ (n + j) ≡ 2 ^ n * 2 ^ j = pow-add 2 n j in
    let moved : (hi * 2 ^ j) % 2 ^ (n + j) ≡ (hi % 2 ^ n) * 2 ^ j =
    mod-pow-add (hi * 2 ^ j) n j ∙ rw (shl-shr hi j, mul-mod_left hi (2 ^ j)) (add-zero _) in
    let short : lo / 2 ^ n < 2 ^ j = shr_lt j n (subst (λ (x : ℕ). lo < 2 ^ x) (add_comm n j) fits) in
    let entered : bit_or (lo / 2 ^ n) ((hi * 2 ^ j) % 2 ^ (n + j)) ≡ (hi % 2 ^ n) * 2 ^ j + lo / 2 ^ n =
    ap (bit_or (lo / 2 ^ n)) moved ∙ or_shifted_r (hi % 2 ^ n) j (lo / 2 ^ n) short in
    let parts : (hi / 2 ^ n * 2 ^ n + hi % 2 ^ n) * 2 ^ j ≡ hi * 2 ^ j = ap (λ (x : ℕ). x * 2 ^ j) (split hi n) in
    let sum : hi / 2 ^ n * (2 ^ n * 2 ^ j) + ((hi % 2 ^ n) * 2 ^ j + lo / 2 ^ n) ≡ hi * 2 ^ j + lo / 2 ^ n = omega arith in
    let same : hi * 2 ^ j * 2 ^ n + lo ≡ hi * 2 ^ (n + j) + lo = rw word (omega arith) in
    ap₂ (λ (x y : ℕ). hi / 2 ^ n * x + y) word entered ∙ sum
    ∙ sym (mul-add-div_right (pow_pos n) (hi * 2 ^ j) lo) ∙ ap (λ (x : ℕ). x / 2 ^ n) same

pow_mod : (j k : ℕ) → j ≤ k → 2 ^ k % 2 ^ j ≡ 0
pow_mod j k l =
    let e : k ≡ j + (k - j) = omega arith in
    ap (λ (x : ℕ). 2 ^ x % 2 ^ j) e ∙ ap (λ (x : ℕ). x % 2 ^ j) (pow-add 2 j (k - j)) ∙ mul-mod_right (2 ^ j) (2 ^ (k - j))

-- ---- words and their number

-- a number of 128 digits is that of its parts
pub joined_parted : (n : ℕ) → n < 2 ^ 128 → joined (parted n) ≡ n
joined_parted n h = ap (λ (x : ℕ). x * 2 ^ 64 + n % 2 ^ 64) (shr_mod 64 64 h) ∙ split n 64

-- digits past the 128th are not kept
parted_mod : (n : ℕ) → parted (n % 2 ^ 128) ≡ parted n
parted_mod n =
    ap₂ (λ (x y : ℕ). record { 0 = x; 1 = y }) (mod-mod-pow n 64 64)
    (ap (λ (x : ℕ). x % 2 ^ 64) (field n 64 64) ∙ mod-mod (n / 2 ^ 64) (2 ^ 64))

-- two words are the parts of their number
pub parted_is : (m : Marks) (n : ℕ) → m.0 < 2 ^ 64 → m.1 < 2 ^ 64 → joined m ≡ n → m ≡ parted n
parted_is m n l h e =
    ap₂ (λ (x y : ℕ). record { 0 = x; 1 = y })
    (sym (low m.1 64 l) ∙ ap (λ (x : ℕ). x % 2 ^ 64) e)
    (sym (mod-eq_of_lt h) ∙ ap (λ (x : ℕ). x % 2 ^ 64) (sym (high m.1 64 l)) ∙ ap (λ (x : ℕ). x / 2 ^ 64 % 2 ^ 64) e)

-- ---- each answer of the functions on marks

module _ (m : Marks) (lo : m.0 < 2 ^ 64) (hi : m.1 < 2 ^ 64) where
  pub joined_lt : joined m < 2 ^ 128
  joined_lt = both_lt 64 m.0 m.1 lo hi

  pub set_low : (k : ℕ) → k < 64 → record { 0 = bit_or m.0 ((1 * 2 ^ k) % 2 ^ 64); 1 = m.1 } ≡ parted (bit_or (joined m) (2 ^ k))
  set_low k h =
      parted_is _ _ (or_lt 64 m.0 ((1 * 2 ^ k) % 2 ^ 64) lo (mod-lt _ (pow_pos 64))) hi (or_low 64 m.0 m.1 lo k h)

  pub set_high : (k : ℕ) → 64 ≤ k → k < 128
      → record { 0 = m.0; 1 = bit_or m.1 ((1 * 2 ^ (k - 64)) % 2 ^ 64) } ≡ parted (bit_or (joined m) (2 ^ k))
  set_high k l h =
      parted_is _ _ lo (or_lt 64 m.1 ((1 * 2 ^ (k - 64)) % 2 ^ 64) hi (mod-lt _ (pow_pos 64)))
      (or_high 64 m.0 m.1 lo (k - 64) k (omega arith) (omega arith))

  pub set_past : (k : ℕ) → 128 ≤ k → m ≡ parted (bit_or (joined m) (2 ^ k))
  set_past k l =
      let same : bit_or (joined m) (2 ^ k) % 2 ^ 128 ≡ joined m =
      or_mod (joined m) (2 ^ k) 128 ∙ ap₂ bit_or (mod-eq_of_lt joined_lt) (pow_mod 128 k l) ∙ or_zero_r (joined m) in
      parted_is m (bit_or (joined m) (2 ^ k) % 2 ^ 128) lo hi (sym same) ∙ parted_mod (bit_or (joined m) (2 ^ k))

  pub shift_none : m ≡ parted (joined m / 2 ^ 0)
  shift_none = parted_is m _ lo hi (sym (div-one (joined m)))

  pub shift_low : (n : ℕ) → n < 64
      → record { 0 = bit_or (m.0 / 2 ^ n) ((m.1 * 2 ^ (64 - n)) % 2 ^ 64); 1 = m.1 / 2 ^ n } ≡ parted (joined m / 2 ^ n)
  shift_low n h =
      let e : 64 ≡ n + (64 - n) = omega arith in
      parted_is _ _
      (or_lt 64 (m.0 / 2 ^ n) ((m.1 * 2 ^ (64 - n)) % 2 ^ 64) (lt_of_le_of_lt (div-le_self m.0 (2 ^ n)) lo) (mod-lt _ (pow_pos 64)))
      (lt_of_le_of_lt (div-le_self m.1 (2 ^ n)) hi)
      (subst
      (λ (x : ℕ). m.0 < 2 ^ x → m.1 / 2 ^ n * 2 ^ x + bit_or (m.0 / 2 ^ n) ((m.1 * 2 ^ (64 - n)) % 2 ^ x) ≡ (m.1 * 2 ^ x + m.0) / 2 ^ n)
      (sym e) (shr_low n (64 - n) m.0 m.1) lo)

  pub shift_high : (n : ℕ) → 64 ≤ n → record { 0 = m.1 / 2 ^ (n - 64); 1 = 0 } ≡ parted (joined m / 2 ^ n)
  shift_high n l =
      parted_is _ _ (lt_of_le_of_lt (div-le_self m.1 (2 ^ (n - 64))) hi) (lit< tt)
      (zero-add _ ∙ shr_high 64 m.0 m.1 lo n (n - 64) (omega arith))

  pub shift_all : (n : ℕ) → 128 ≤ n → record { 0 = 0; 1 = 0 } ≡ parted (joined m / 2 ^ n)
  shift_all n l = ap parted (sym (div-eq_of_lt (lt_of_lt_of_le joined_lt (pow_mono l))))

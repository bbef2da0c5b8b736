-- The window law, once over W: where counts are near enough, the test on their bytes is the order of the counts;
-- and the numbers of one window have slots of their own. Assumes nothing.
use Rattle.std.proofs.Common.{◌≡◌, ℕ, ◌+◌, ◌-◌, ◌*◌, ◌/◌, ◌%◌, ◌^◌, ◌<◌, ◌≤◌, true, sym, ap, ◌∙◌, mul-le-mul_right, div-add-mod', arith}
use mathlib.Core.Logic.{by_cases}
use native.Mathlib.Decide.{dec_le, dec_lt}
use lib.Pow.{mod-mod-pow}
use Rattle.units.specs.Sizes.{is_size}
use Rattle.window.specs.Numbers.{distance_of, byte_of, slot_of}
use Rattle.window.specs.Law.{WindowLaw, SlotsDiffer}
use Rattle.window.proofs.Sizes.{size_power}

-- ---- in or out

-- from a count to a later one less than a turn away, the bytes' distance is the difference
pub window_distance : (start n : ℕ) → start ≤ n → n < start + 256 → distance_of (byte_of start) (byte_of n) ≡ n - start
window_distance start n h near = omega arith

-- a number lies as far after the start as its distance says
pub distance_back : (start s : ℕ) → start < 256 → s < 256 → byte_of (start + distance_of start s) ≡ s
distance_back start s hs h = omega arith

-- a count less than W after the start, or at most 256 - W before it, is in the window of bytes exactly when it is not before the start
pub window_law : WindowLaw
window_law W start n small front back = (
  (λ (l : distance_of (byte_of start) (byte_of n) < W). by_cases (dec_le start n) (λ h. h) (λ h. absurd (omega arith))),
  (λ h. omega arith),
)

-- ---- slots

-- folding a count leaves its slot
pub slot_byte : (W n : ℕ) → is_size W ≡ true → slot_of W (byte_of n) ≡ slot_of W n
slot_byte W n v =
    let p = size_power W v in
    let e : 8 ≡ (8 - p.0) + p.0 = (let l = p.2 in omega arith) in
    ap (λ (x : ℕ). n % 256 % x) p.1
    ∙ ap (λ (x : ℕ). n % 2 ^ x % 2 ^ p.0) e
    ∙ mod-mod-pow n (8 - p.0) p.0
    ∙ ap (λ (x : ℕ). n % x) (sym p.1)

-- two counts less than W apart have different slots
pub slots_apart : (W i j : ℕ) → i < j → j < i + W → slot_of W i ≡ slot_of W j → ⊥
slots_apart W i j l h e =
    let a = div-add-mod' i W in
    let b = div-add-mod' j W in
    by_cases (dec_lt (i / W) (j / W))
    (λ q. let m : (i / W + 1) * W ≤ j / W * W = mul-le-mul_right W (omega arith) in omega arith)
    (λ q. let m : j / W * W ≤ i / W * W = mul-le-mul_right W (omega arith) in omega arith)

-- a number's slot is that of the count as far after the start as the number lies
slot_at : (W start s : ℕ) → is_size W ≡ true → start < 256 → s < 256 → slot_of W s ≡ slot_of W (start + distance_of start s)
slot_at W start s v hs h = ap (slot_of W) (sym (distance_back start s hs h)) ∙ slot_byte W (start + distance_of start s) v

-- so two different numbers of one window have different slots
pub slots_differ : SlotsDiffer
slots_differ W start a b v hs ha hb ia ib e =
    let same : slot_of W (start + distance_of start a) ≡ slot_of W (start + distance_of start b) =
    sym (slot_at W start a v hs ha) ∙ e ∙ slot_at W start b v hs hb in
    by_cases (dec_lt (distance_of start a) (distance_of start b))
    (λ l. absurd (slots_apart W (start + distance_of start a) (start + distance_of start b) (omega arith) (omega arith) same))
    (λ l.
    by_cases (dec_lt (distance_of start b) (distance_of start a))
    (λ q. absurd (slots_apart W (start + distance_of start b) (start + distance_of start a) (omega arith) (omega arith) (sym same)))
    (λ q. omega arith))

-- ---- as specs/Law.antt states them

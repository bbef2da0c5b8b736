-- Laws of the window, once over its size W; proved in proofs/WindowLaw.antt. Assumes nothing.
use Rattle.std.specs.Prelude.{◌≡◌, ℕ, ◌+◌, ◌-◌, ◌<◌, ◌≤◌, true, ◌↔◌}
use Rattle.units.specs.Sizes.{is_size}
use Rattle.window.specs.Numbers.{distance_of, byte_of, slot_of}

-- THE WINDOW LAW: of a count less than W after the start, or at most 256 - W before it, the test on bytes says just
-- whether it is not before the start. 256 - W is what the label prints: how far a late frame may lag. [W4, O7]
abbrev pub WindowLaw : Type 0
WindowLaw = (W start n : ℕ) → W ≤ 256 → n < start + W → start ≤ n + (256 - W)
    → (distance_of (byte_of start) (byte_of n) < W) ↔ (start ≤ n)

-- two numbers of one window have slots of their own [S3]
abbrev pub SlotsDiffer : Type 0
SlotsDiffer = (W start a b : ℕ) → is_size W ≡ true → start < 256 → a < 256 → b < 256
    → distance_of start a < W → distance_of start b < W → slot_of W a ≡ slot_of W b → a ≡ b

-- The starred numbers, in one table, and what the table claims. Assumes nothing.
use Rattle.std.specs.Prelude.{◌≡◌, true, false, List, [], ◌∷◌, ℕ, ◌<◌, eqb}
use Rattle.check8.specs.Polynomial.{check_of}
use Rattle.window.specs.Marks.{parted}
use Rattle.window.specs.Numbers.{seq_of}
use Rattle.window.specs.Windows.{inside_of}
use Rattle.window.specs.declared.Window.{Window}

-- what a row gives: the check byte of some bytes; a number that is in a window, or out of it; a size at which only the
-- start is in [O6]
pub data Row : Type 0 where
  check : (bytes : List ℕ) (byte : ℕ) → Row
  is_in : (start size number : ℕ) → Row
  is_out : (start size number : ℕ) → Row
  only_start : (size : ℕ) → Row

-- a window with nothing held
abbrev pub window_at : ℕ → ℕ → Window
window_at start size = record { start = seq_of start; size = size; marks = parted 0 }

-- what a row says [O6]
abbrev pub Holds : Row → Type 0
Holds (check bytes byte) = check_of bytes ≡ byte
Holds (is_in start size s) = inside_of (window_at start size) s ≡ true
Holds (is_out start size s) = inside_of (window_at start size) s ≡ false
Holds (only_start size) = (start s : ℕ) → start < 256 → s < 256 → inside_of (window_at start size) s ≡ eqb s start

-- the claim: each row of a table holds [O6]
abbrev pub Claim : List Row → Type 0
Claim [] = Unit
Claim (r ∷ rs) = Holds r × Claim rs

-- the starred numbers, in the rules' order [V1, V2, V3, V4, V5, O6]
abbrev pub worked : List Row
worked =
    check [] 0xFF
    ∷ check (0xFF ∷ []) 0x00
    ∷ check (0x00 ∷ []) 0xF3
    ∷ check (0xFE ∷ []) 0x07
    ∷ check (0xFF ∷ 0xFF ∷ []) 0xF3
    ∷ is_in 250 16 9
    ∷ is_out 250 16 10
    ∷ is_out 250 16 249
    ∷ is_out 245 16 5
    ∷ is_in 246 16 5
    ∷ only_start 1
    ∷ is_in 200 128 71
    ∷ is_out 200 128 72
    ∷ []

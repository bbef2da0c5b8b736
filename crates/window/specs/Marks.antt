-- The marks of a window as one number: mark k is set where the number's binary digit k is 1. Cited by the functions
-- on marks and by the window. Assumes nothing.
use Rattle.std.specs.Prelude.{ℕ, zero, suc, ◌+◌, ◌*◌, ◌/◌, ◌%◌, ◌^◌, Bool, ◌==◌}
use Rattle.units.specs.Refusals.{pick}
use Rattle.window.specs.declared.Marks.{Marks}

-- two words as one number, the low word first
abbrev pub joined : Marks → ℕ
joined m = m.1 * 2 ^ 64 + m.0

-- the 128 lowest digits of a number as two words
abbrev pub parted : ℕ → Marks
parted n = record { 0 = n % 2 ^ 64; 1 = n / 2 ^ 64 % 2 ^ 64 }

-- whether the binary digit k of n is 1
unfoldable pub bit : ℕ → ℕ → Bool
bit n k = n / 2 ^ k % 2 == 1

-- how many of the k lowest digits of n are 1 without a gap, from the lowest on [G3]
unfoldable pub run_in : ℕ → ℕ → ℕ
run_in zero n = zero
run_in (suc k) n = pick (n % 2 == 1) (suc (run_in k (n / 2))) zero

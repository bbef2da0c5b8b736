-- The check byte, by polynomials over bits: a number's binary digits are the coefficients, bit_xor adds. Cited by the
-- frame, and by whoever speaks of a good one. Assumes nothing.
use Rattle.std.specs.Prelude.{ℕ, zero, suc, ◌*◌, cond, List, [], ◌∷◌, ltb}
use Rattle.std.specs.Int.Bits.{bit_xor}

-- one bit's step: times x, modulo x^8 + x^2 + x + 1 [C1, C4]
unfoldable pub times_x : ℕ → ℕ
times_x r = cond (ltb r 128) (r * 2) (bit_xor (r * 2) 0x107)

-- n steps: times x^n [C1, C4]
unfoldable pub times_xs : ℕ → ℕ → ℕ
times_xs zero r = r
times_xs (suc n) r = times_x (times_xs n r)

-- a byte more, in eight steps: its eight coefficients come in, highest first [C1, C4]
unfoldable pub step_byte : ℕ → ℕ → ℕ
step_byte c b = times_xs 8 (bit_xor c b)

-- a list of bytes more [C1]
unfoldable pub check_from : ℕ → List ℕ → ℕ
check_from c [] = c
check_from c (b ∷ bs) = check_from (step_byte c b) bs

-- the check byte of a list: the start is all ones [C2, V1]
abbrev pub check_of : List ℕ → ℕ
check_of bs = check_from 0xFF bs

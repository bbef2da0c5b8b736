-- `check8::times_x` meets its contract, in the definition's two cases. Assumes nothing.
-- below 128 no x^8 comes of it
use mathlib.Core.Path.{◌≡◌}
use Prim.Native.Nat.{ℕ, ◌<◌, ◌≤◌, ◌*◌}
use native.Mathlib.Omega.{arith}
use borrow.Author.Rules.{rules}
use borrow.Author.Tests.{lt-ltb, le-ltb}
use lib.Bits.{bit_xor}
use Rattle.check8.specs.Polynomial.{times_x}
use Rattle.check8.proofs.Laws.{times_x_lt}
use Rattle.check8.proofs.times_x.Goals as goal

none_out : (r : ℕ) → r < 128 → r * 2 ≡ times_x r
unfolding times_x
none_out r l = rw (lt-ltb r 128 l)

-- otherwise one does

one_out : (r : ℕ) → 128 ≤ r → bit_xor (r * 2) 0x107 ≡ times_x r
unfolding times_x
one_out r l = rw (le-ltb r 128 l)

pub returns-then-r-lt128 : goal.returns-then-r-lt128
returns-then-r-lt128 c = none_out c.args.r (omega arith)

pub overflow_cast-result-2 : goal.overflow_cast-result-2
overflow_cast-result-2 c = omega (arith, one_out c.args.r (omega arith), times_x_lt c.args.r (search rules))

pub returns : goal.returns
returns c = one_out c.args.r (omega arith)

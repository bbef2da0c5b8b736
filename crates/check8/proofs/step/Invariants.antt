-- `check8::step` meets its contract. The loop's invariant: after n steps r is times x^n what came in. Assumes nothing.
use mathlib.Core.Path.{◌≡◌}
use lib.Bits.{bit_xor}
use Rattle.check8.specs.Polynomial.{times_xs}
use Rattle.check8.proofs.step.Given as goal

abbrev pub invariant-loop : goal.invariant-loop
invariant-loop l = l.r ≡ times_xs l.counter (bit_xor l.c l.b)

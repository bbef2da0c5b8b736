-- `check8::check` meets its contract. The loop's invariant: what is left, from c on, gives the whole's check byte. Assumes nothing.
use mathlib.Core.Path.{◌≡◌}
use lib.ListN.{drop}
use Rattle.check8.specs.Polynomial.{check_from, check_of}
use Rattle.check8.proofs.check.Given as goal

abbrev pub invariant-loop-b : goal.invariant-loop-b
invariant-loop-b l = check_from l.c (drop l.b-index l.bytes) ≡ check_of l.bytes

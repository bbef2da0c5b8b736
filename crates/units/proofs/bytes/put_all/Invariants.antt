-- `units::bytes::put_all` meets its contract. The loop's invariant: the first k items are stored. Assumes nothing.
use mathlib.Core.Path.{◌≡◌}
use lib.ListN.{take}
use lib.Seq.{sets}
use Rattle.units.proofs.bytes.put_all.Given as goal

abbrev pub invariant-loop-k : goal.invariant-loop-k
invariant-loop-k g l = l.s ≡ sets l.initial.s l.i (take l.k l.items)

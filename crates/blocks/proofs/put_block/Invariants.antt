-- `blocks::put_block` meets its contract. The loop's invariant: the first j payloads are written, with their offsets. Assumes nothing.
use Prim.Native.Nat.{◌+◌, ◌*◌}
use Rattle.blocks.specs.Payloads.{payloads}
use Rattle.blocks.proofs.Appending.{Begun}
use Rattle.blocks.proofs.put_block.Given as goal

abbrev pub invariant-loop-j : goal.invariant-loop-j
invariant-loop-j l =
    Begun (6 + 4 * l.k) (payloads l.store l.book l.o.entry l.o.place l.o.largest l.o.window l.j) l.initial.out l.out l.end l.j

-- `slots::drop_slots` meets its contract. The loop's invariant: the first k numbers wait no more. Assumes nothing.
use mathlib.Core.Path.{◌≡◌}
use Rattle.slots.specs.Slots.{drop_slots}
use Rattle.slots.proofs.drop_slots.Given as goal

abbrev pub invariant-loop-k : goal.invariant-loop-k
invariant-loop-k l = l.book ≡ drop_slots l.i l.w l.handed l.k l.initial.book

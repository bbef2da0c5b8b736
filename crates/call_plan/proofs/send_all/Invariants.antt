-- `call_plan::send_all` meets its contract. The loop's invariant: the first j payloads are laid, and what all of them come to
-- is what the others come to, sent by an entry that has accepted j more. Assumes nothing.
use mathlib.Core.Path.{◌≡◌}
use Rattle.blocks.specs.Reading.{offset_in}
use Rattle.call_plan.proofs.Stepping.{Going}
use Rattle.call_plan.proofs.send_all.Given as goal

abbrev pub invariant-loop-j : goal.invariant-loop-j
invariant-loop-j l =
    (l.from ≡ offset_in l.block l.j) × Going l.node l.initial.book l.initial.store l.i l.block l.k l.e l.book l.store l.j

-- `waiting::acks::drop` meets its contract. The loop's invariant: so many turns are made. Assumes nothing.
use mathlib.Core.Path.{◌≡◌}
use Rattle.waiting.specs.Acks.{turns}
use Rattle.waiting.proofs.acks.drop.Given as goal

abbrev pub invariant-loop : goal.invariant-loop
invariant-loop l = l.node ≡ turns l.i l.counter l.initial.node

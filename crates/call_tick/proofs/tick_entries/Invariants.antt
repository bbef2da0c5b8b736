-- `call_tick::tick_entries` meets its contract. The loop's invariant: the first i entries have ticked. Assumes nothing.
use mathlib.Core.Path.{◌≡◌}
use mathlib.Core.List.{List, []}
use Prim.Native.Nat.{ℕ}
use Rattle.call_tick.specs.Ticking.{Scanned, tick_entries}
use Rattle.call_tick.proofs.tick_entries.Given as goal

abbrev pub state : List ℕ → List ℕ → ℕ → Scanned
state node book least = record { lent = record { node = node; book = book; store = []; out = [] }; least = least }

abbrev pub invariant-loop-i : goal.invariant-loop-i
invariant-loop-i l = state l.node l.book l.least ≡ tick_entries l.c l.i (state l.initial.node l.initial.book 65535)

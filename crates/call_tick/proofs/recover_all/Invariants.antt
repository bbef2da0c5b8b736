-- `call_tick::recover_all` meets its contract. The loop's invariant: the first i entries have had their turn, and their bits come to less than 2 ^ i.
-- Assumes nothing.
use mathlib.Core.Path.{◌≡◌}
use mathlib.Core.List.{List, []}
use Prim.Native.Nat.{ℕ, ◌^◌, ◌<◌}
use Rattle.call_tick.specs.Ticking.{Recovered, recover_all}
use Rattle.call_tick.proofs.recover_all.Given as goal

abbrev pub state : List ℕ → List ℕ → ℕ → Recovered
state node book bits = record { lent = record { node = node; book = book; store = []; out = [] }; bits = bits }

abbrev pub invariant-loop-i : goal.invariant-loop-i
invariant-loop-i l = record {
  below : l.bits < 2 ^ l.i;
  is : state l.node l.book l.bits ≡ recover_all l.i (state l.initial.node l.initial.book 0);
}

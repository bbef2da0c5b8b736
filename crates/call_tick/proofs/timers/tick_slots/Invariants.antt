-- `call_tick::timers::tick_slots` meets its contract. The loop's invariant: the first k timers have ticked. Assumes nothing.
use mathlib.Core.Path.{◌≡◌}
use Prim.Native.Nat.{◌≤◌}
use Rattle.call_tick.specs.Ticking.{tick_slots}
use Rattle.call_tick.proofs.timers.tick_slots.Given as goal

abbrev pub invariant-loop-k : goal.invariant-loop-k
invariant-loop-k l = record {
  few : l.running ≤ l.k;
  is :
      record { book = l.book; failing = l.failing; running = l.running; least = l.least }
      ≡ tick_slots l.c l.i l.e l.out l.k (record { book = l.initial.book; failing = l.initial.failing; running = 0; least = l.initial.least });
}

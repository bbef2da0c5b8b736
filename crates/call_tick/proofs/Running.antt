-- How many timers a tick can leave running: one more a number. Assumes nothing.
use mathlib.Core.Bool.{Bool, true, false}
use Prim.Native.Nat.{ℕ, ◌+◌, ◌≤◌}
use native.Mathlib.Omega.{arith}
use lib.Dec.{eqb, ltb}
use Rattle.units.specs.Refusals.{pick}
use Rattle.end_points.specs.declared.EndPoint.{EndPoint}
use Rattle.slots.specs.Slots.{cell, past, timer_in, retries_in}
use Rattle.call_tick.specs.Ticking.{Ticked, tick_slot}

pick_running : (b : Bool) (x y : Ticked) (m : ℕ) → x.running ≤ m → y.running ≤ m → (pick b x y).running ≤ m
pick_running true x y m p q = p
pick_running false x y m p q = q

pub running_le : (c i : ℕ) (e : EndPoint) (o k : ℕ) (t : Ticked) → (tick_slot c i e o k t).running ≤ t.running + 1
unfolding tick_slot
running_le c i e o k t =
    let g = cell i e.run.window (past e.run.window k) in
    let n = timer_in t.book g in
    pick_running (eqb (past e.run.window k) o) _ _ _ (pick_running (eqb n 0) _ _ _ (omega arith) (omega arith))
    (pick_running (eqb n 0) _ _ _ (omega arith)
    (pick_running (eqb n c) _ _ _
    (pick_running t.failing _ _ _ (omega arith) (pick_running (ltb (retries_in t.book g) e.entry.retries) _ _ _ (omega arith) (omega arith)))
    (omega arith)))

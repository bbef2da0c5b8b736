-- `call_tick::timers::tick_slots` meets its contract. The loop's invariant: the first k timers have ticked. Assumes nothing.
-- after k turns
use mathlib.Core.Path.{◌≡◌}
use Prim.Native.Nat.{ℕ, ◌+◌, ◌≤◌}
use native.Mathlib.Numerals.{add-one}
use native.Mathlib.Omega.{arith}
use Rattle.end_points.specs.declared.EndPoint.{EndPoint}
use Rattle.call_tick.specs.Ticking.{Ticked, tick_slot, tick_slots}
use Rattle.call_tick.proofs.Running.{running_le}
use Rattle.call_tick.proofs.timers.tick_slots.Goals as goal

one_more : (c i : ℕ) (e : EndPoint) (o k : ℕ) (a b z : Ticked) → b ≡ tick_slots c i e o k a → z ≡ tick_slot c i e o k b → z ≡ tick_slots c i e o (k + 1) a
unfolding tick_slots
one_more c i e o k a b z p q = rw (add-one, ← p) q

few_more : (c i : ℕ) (e : EndPoint) (o k : ℕ) (b z : Ticked) → z ≡ tick_slot c i e o k b → z.running ≤ b.running + 1
few_more c i e o k b z q = rw q (running_le c i e o k b)

pub loop-k-preserved : goal.loop-k-preserved
loop-k-preserved c =
    let l = c.loop-k in
    let q = c.tick_slot-t.ensures in
    let f = few_more _ _ _ _ _ _ _ q in
    record {
      few = omega (arith, l.invariant.few);
      is = one_more _ _ _ _ _ _ _ _ l.invariant.is q;
    }

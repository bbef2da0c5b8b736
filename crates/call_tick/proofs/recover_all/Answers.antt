-- `call_tick::recover_all` meets its contract. The loop's invariant: the first i entries have had their turn, and their bits come to less than 2 ^ i.
-- Assumes nothing.
use mathlib.Core.Path.{◌≡◌}
use Prim.Native.Nat.{ℕ, ◌+◌, ◌^◌, ◌<◌}
use native.Mathlib.Numerals.{add-one}
use Rattle.call_tick.specs.Ticking.{Recovered, recover, recover_all}
use Rattle.call_tick.proofs.Answering.{bits_lt}
use Rattle.call_tick.proofs.recover_all.Goals as goal

one_more : (i : ℕ) (x y z : Recovered) → y ≡ recover_all i x → z ≡ recover i y → z ≡ recover_all (i + 1) x
unfolding recover_all
one_more i x y z p q = rw (add-one, ← p) q

below_more : (i : ℕ) (y z : Recovered) → y.bits < 2 ^ i → z ≡ recover i y → z.bits < 2 ^ (i + 1)
below_more i y z h q = rw q (bits_lt i y h)

pub loop-i-preserved : goal.loop-i-preserved
loop-i-preserved c =
    let l = c.loop-i in
    let t = c.recover-bits in
    record {
      below = below_more _ _ _ l.invariant.below t.ensures;
      is = one_more _ _ _ _ l.invariant.is t.ensures;
    }

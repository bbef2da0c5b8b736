-- `table::areas::store_need` meets its contract. The loop's invariant: `need` is the place of entry i, and no area
-- so far came to 2^32 bytes. Assumes nothing.
use Prim.Native.Nat.{◌<◌}
use native.Mathlib.Omega.{arith}
use native.Mathlib.Numerals.{add-one}
use Rattle.table.specs.Areas.{place_of}
use Rattle.table.proofs.Places.{area_bound}
use Rattle.table.proofs.areas.store_need.Goals.{After-area-need}
use Rattle.table.proofs.areas.store_need.Goals as goal

small : (c : After-area-need) → c.area-need.result < 4294967296
small c = rw c.area-need.ensures (area_bound c.entry_at.result (omega arith) (omega arith))

pub overflow_add-need : goal.overflow_add-need
overflow_add-need c = omega (arith, small (goal.at.overflow_add-need c).After-area-need)

pub loop-i-preserved : goal.loop-i-preserved
unfolding place_of
loop-i-preserved c =
    let l = c.loop-i in
    (rw (add-one, ← l.invariant.0, ← c.entry_at.ensures, ← c.area-need.ensures), omega (arith, small (goal.at.loop-i-preserved c).After-area-need))

-- `table::areas::store_need` meets its contract. The loop's invariant: `need` is the place of entry i, and no area
-- so far came to 2^32 bytes. Assumes nothing.
use Prim.Native.Nat.{◌*◌, ◌≤◌}
use mathlib.Core.Path.{◌≡◌}
use Rattle.table.specs.Areas.{place_of}
use Rattle.table.proofs.areas.store_need.Given as goal

abbrev pub invariant-loop-i : goal.invariant-loop-i
invariant-loop-i l = (l.need ≡ place_of l.table l.i) × (l.need ≤ l.i * 4294967296)

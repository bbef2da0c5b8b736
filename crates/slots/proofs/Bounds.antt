-- How large a slot and a cell can be, for whatever the memory holds. Assumes nothing.
use Prim.Native.Nat.{ℕ, ◌%◌, ◌≤◌, ◌<◌}
use mathlib.Core.Bool.{Bool, true, false}
use native.Mathlib.Nat.{mod-le}
use native.Mathlib.Omega.{arith}
use lib.Dec.{eqb}
use Rattle.units.specs.Refusals.{pick}
use Rattle.window.specs.declared.Window.{Window}
use Rattle.slots.specs.Slots.{slot_for, cell}

pick_le : (b : Bool) (m n : ℕ) → m ≤ n → pick b 0 m ≤ n
pick_le true m n h = omega arith
pick_le false m n h = h

-- a slot is not above the number that uses it
pub slot_le : (w : Window) (s : ℕ) → slot_for w s ≤ s
slot_le w s = pick_le (eqb w.size 0) (s % w.size) s (mod-le s w.size)

-- so a cell's number fits 16 bits, and so does what stands for it among what waits
pub cell_lt : (i : ℕ) (w : Window) (s : ℕ) → i < 256 → s < 256 → cell i w s < 33024
cell_lt i w s a b = omega (arith, slot_le w s)

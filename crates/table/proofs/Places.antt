-- Laws of the entries' areas: how long one can be, that none reaches into another, and that a slot lies inside its own.
-- Assumes nothing.
use mathlib.Core.Path.{◌≡◌}
use mathlib.Core.List.{List}
use Prim.Native.Nat.{ℕ, zero, suc, ◌+◌, ◌*◌, ◌≤◌, ◌<◌}
use native.Mathlib.Decide.{dec_lt}
use native.Mathlib.Nat.{mul-le-mul, mul-le-mul_right, suc-mul}
use native.Mathlib.Omega.{arith}
use Rattle.table.specs.declared.Kind.{Kind}
use Rattle.table.specs.declared.Kind.TheVariants.{Sends, Receives}
use Rattle.table.specs.declared.Entry.{Entry}
use Rattle.table.specs.Layout.{count_of, entry_of}
use Rattle.table.specs.Areas.{slots_of, area_of, place_of, store_of}
use Rattle.table.specs.Laws.{AreasApart, AreasInside}

-- Slots in an area

-- a window and a payload of two bytes each
pub slots_bound : (k : Kind) (w : ℕ) → w < 65536 → slots_of k w ≤ 65536
slots_bound Sends w h = omega arith
slots_bound Receives w h = omega arith

pub area_bound : (e : Entry) → e.window < 65536 → e.largest < 65536 → area_of e < 4294967296
unfolding area_of
area_bound e w p =
    let q : e.largest ≤ 65535 = omega arith in
    let h : slots_of e.kind e.window * e.largest ≤ 65536 * 65535 = mul-le-mul (slots_bound e.kind e.window w) q in
    omega arith

-- every number of the window has a slot, and a sender's Urgent has one more
pub slot_of_window : (e : Entry) (k : ℕ) → k < e.window → k < slots_of e.kind e.window
slot_of_window e k l = sides e.kind
  where
    sides : (kind : Kind) → k < slots_of kind e.window
    sides Sends = omega arith
    sides Receives = l

pub slot_of_urgent : (e : Entry) → e.kind ≡ Sends → e.window < slots_of e.kind e.window
slot_of_urgent e h = rw h (omega arith)

-- two slots do not overlap
pub slots_apart : (p j k : ℕ) → j < k → j * p + p ≤ k * p
slots_apart p j k l = let h : suc j * p ≤ k * p = mul-le-mul_right p l in rw suc-mul at h

-- a slot lies inside its area
pub slot_inside : (e : Entry) (k : ℕ) → k < slots_of e.kind e.window → k * e.largest + e.largest ≤ area_of e
unfolding area_of
slot_inside e k l = slots_apart e.largest k (slots_of e.kind e.window) l

-- Areas in the store

-- no area reaches past the place of a later entry
pub areas_apart : AreasApart
unfolding place_of
areas_apart t i zero l = absurd (omega arith)
areas_apart t i (suc j) l = sides (areas_apart t i j) (dec_lt i j)
  where
    sides : (i < j → place_of t i + area_of (entry_of t i) ≤ place_of t j) → Dec (i < j) → place_of t i + area_of (entry_of t i) ≤ place_of t j + area_of (entry_of t j)
    sides below (yes p) = omega (arith, below p)
    sides below (no p) = let e : i ≡ j = omega arith in rw e (omega arith)

-- nor past the store
pub areas_inside : AreasInside
unfolding store_of
areas_inside t i l = areas_apart t i (count_of t) l

pub slot_in_store : (t : List ℕ) (i k : ℕ) → i < count_of t → k < slots_of (entry_of t i).kind (entry_of t i).window
    → place_of t i + k * (entry_of t i).largest + (entry_of t i).largest ≤ store_of t
slot_in_store t i k l m = omega (arith, areas_inside t i l, slot_inside (entry_of t i) k m)

-- ---- as specs/Laws.antt states them

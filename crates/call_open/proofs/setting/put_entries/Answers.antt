-- `call_open::setting::put_entries` meets its contract. The loop's invariant: the first k entries are in, and the place is where
-- entry k's area begins. Assumes nothing.
use mathlib.Core.Path.{◌≡◌, ap, ◌∙◌}
use Prim.Native.Nat.{◌+◌, ◌≤◌, ◌<◌}
use native.Mathlib.Omega.{arith}
use Rattle.table.specs.Layout.{count_of, entry_of}
use Rattle.table.specs.Areas.{area_of}
use Rattle.table.proofs.Places.{areas_inside}
use Rattle.table.proofs.Good.{good_head, store_fits}
use Rattle.call_open.proofs.setting.put_entries.Goals.{In-loop-k}
use Rattle.call_open.proofs.setting.put_entries.Goals as goal

few : (c : In-loop-k) → c.loop-k.k < 16
few c =
    omega (arith, c.loop-k-test.true, c.count-n.ensures, good_head c.args.table.now c.requires)

-- and the area of entry k ends within a store of at most 32,768 bytes

inside : (c : In-loop-k)
    → c.loop-k.place + area_of (entry_of c.args.table.now c.loop-k.k) ≤ 32768
inside c =
    let l = c.loop-k in
    let t = c.args.table.now in
    let m : l.k < count_of t = omega (arith, c.loop-k-test.true, c.count-n.ensures) in
    omega (arith, areas_inside t l.k m, store_fits t c.requires, l.invariant.0)

pub overflow_cast-place : goal.overflow_cast-place
overflow_cast-place c = omega (arith, inside (goal.at.overflow_cast-place c).In-loop-k)

pub put_entry-requires : goal.put_entry-requires
put_entry-requires c = omega (arith, few (goal.at.put_entry-requires c).In-loop-k)

pub overflow_add-place : goal.overflow_add-place
overflow_add-place c =
    let w : c.area-place.result ≡ area_of (entry_of c.args.table.now c.loop-k.k) = c.area-place.ensures ∙ ap area_of c.entry_at-e.ensures in
    omega (arith, inside (goal.at.overflow_add-place c).In-loop-k)

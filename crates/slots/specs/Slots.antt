-- The slots of an entry: which one a number uses, its cell in the book, its bytes in the store, and which numbers wait.
-- Cited by every call on payloads. Assumes nothing.
use Rattle.std.specs.Prelude.{ℕ, zero, suc, ◌+◌, ◌*◌, ◌%◌, Bool, not, ◌&&◌, ◌||◌, List, get_or, eqb, leb}
use Rattle.units.specs.Refusals.{pick}
use Rattle.memory.specs.Layout.{cell_of, cell_id, urgent_id, length_at, timer_at, retries_at}
use Rattle.waiting.specs.Queues.{unlinked}
use Rattle.window.specs.Numbers.{distance_of, byte_of}
use Rattle.window.specs.Windows.{held}
use Rattle.window.specs.declared.Window.{Window}
use Rattle.end_points.specs.declared.Run.{Run}

-- sequence s uses slot s mod W [S3]
abbrev pub slot_for : Window → ℕ → ℕ
slot_for w s = pick (eqb w.size 0) 0 (s % w.size)

-- its cell in the book, as entry i's
abbrev pub cell : ℕ → Window → ℕ → ℕ
cell i w s = cell_of i (slot_for w s)

-- where a slot begins in the store: the entry's area begins at a place and has slots of P bytes [S2, S5]
abbrev pub spot : ℕ → ℕ → ℕ → ℕ
spot place largest slot = place + slot * largest

-- the number k past the start [W2]
abbrev pub past : Window → ℕ → ℕ
past w k = byte_of (w.start.0 + k)

-- the number in the window that uses a slot
abbrev pub number_in : Window → ℕ → ℕ
number_in w slot = pick (eqb w.size 0) w.start.0 (past w (distance_of w.start.0 slot % w.size))

-- what the book says of a cell
abbrev pub length_in : List ℕ → ℕ → ℕ
length_in b g = get_or b (length_at g) 0

abbrev pub timer_in : List ℕ → ℕ → ℕ
timer_in b g = get_or b (timer_at g) 0

abbrev pub retries_in : List ℕ → ℕ → ℕ
retries_in b g = get_or b (retries_at g) 0

-- of an open sender the number k past the start waits where it was not handed out yet, or where it was, is not
-- acknowledged, and its timer does not run
unfoldable pub waits_in : List ℕ → ℕ → Window → ℕ → ℕ → Bool
waits_in b i w handed k = leb handed k || (not (held w k) && eqb (timer_in b (cell i w (past w k))) 0)

-- it waits no more
unfoldable pub drop_slot : ℕ → Window → ℕ → ℕ → List ℕ → List ℕ
drop_slot i w handed k b = pick (waits_in b i w handed k) (unlinked b (cell_id (cell i w (past w k)))) b

-- nor does any of the first n numbers
unfoldable pub drop_slots : ℕ → Window → ℕ → ℕ → List ℕ → List ℕ
drop_slots i w handed zero b = b
drop_slots i w handed (suc n) b = drop_slot i w handed n (drop_slots i w handed n b)

-- nothing of an open sender waits any more: its Urgent, where one of some length does, its data and retransmissions
-- [E7, D8]
unfoldable pub idled : ℕ → Run → List ℕ → List ℕ
idled i r b =
    drop_slots i r.window r.handed r.taken (pick (eqb r.urgent 0) b (unlinked b (urgent_id i)))

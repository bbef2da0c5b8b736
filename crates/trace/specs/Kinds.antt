-- The kinds of record: what a host or a driver asks of a node, and what its call takes. Cited by the rules of a trace
-- file and by the call that a record makes. Assumes nothing.
use Rattle.std.specs.Prelude.{ℕ, Bool, ◌&&◌, ◌||◌, eqb, leb, Result, Ok, Err}
use Rattle.units.specs.Refusals.{pick}
use Rattle.units.specs.declared.refusals.Refusal.{Refusal}
use Rattle.units.specs.declared.refusals.Refusal.TheVariants.{BadTrace}
use Rattle.trace.specs.declared.kinds.Kind.{Kind}
use Rattle.trace.specs.declared.kinds.Kind.TheVariants as kind

-- ---- the numbers

abbrev pub table_kind : ℕ
table_kind = 1

abbrev pub open_kind : ℕ
open_kind = 2

abbrev pub close_kind : ℕ
close_kind = 3

abbrev pub send_kind : ℕ
send_kind = 4

abbrev pub urgent_kind : ℕ
urgent_kind = 5

abbrev pub arrival_kind : ℕ
arrival_kind = 6

abbrev pub tick_kind : ℕ
tick_kind = 7

abbrev pub hand_out_kind : ℕ
hand_out_kind = 8

abbrev pub report_kind : ℕ
report_kind = 9

-- ---- what they are

-- the kind that a number stands for; no other number stands for one [L6, R21]
abbrev pub kind_of : ℕ → Result Kind Refusal
kind_of k =
    pick (eqb k table_kind) (Ok kind.Table)
    (pick (eqb k open_kind) (Ok kind.Open)
    (pick (eqb k close_kind) (Ok kind.Close)
    (pick (eqb k send_kind) (Ok kind.Send)
    (pick (eqb k urgent_kind) (Ok kind.Urgent)
    (pick (eqb k arrival_kind) (Ok kind.Arrival)
    (pick (eqb k tick_kind) (Ok kind.Tick)
    (pick (eqb k hand_out_kind) (Ok kind.HandOut)
    (pick (eqb k report_kind) (Ok kind.Report)
    (Err BadTrace)))))))))

-- there is such a kind [L6]
abbrev pub is_kind : ℕ → Bool
is_kind k = leb table_kind k && leb k report_kind

-- its call takes an index: open, close, send, urgent [L7]
abbrev pub takes_index : ℕ → Bool
takes_index k = leb open_kind k && leb k urgent_kind

-- its call takes bytes: a table, a payload or a frame [L7]
abbrev pub takes_bytes : ℕ → Bool
takes_bytes k = eqb k table_kind || (leb send_kind k && leb k arrival_kind)

-- Which trace files are not refused with 21. Cited by whatever takes a trace file. Assumes nothing.
use Rattle.std.specs.Prelude.{ℕ, ◌+◌, ◌-◌, Bool, not, ◌&&◌, ◌||◌, List, length, eqb, leb}
use Rattle.units.specs.Refusals.{pick}
use Rattle.table.specs.Rules.{every_below}
use Rattle.trace.specs.declared.Head.{Head}
use Rattle.trace.specs.Kinds.{table_kind, is_kind, takes_index, takes_bytes}
use Rattle.trace.specs.Layout.{most_records, header_size, most_bytes, count_of, begin_of, head_from, end_from}

-- the header is whole and the file not too long; 1 to 1,024 records, the first right behind the header; the last offset
-- that is used is the file's end [L1, L2, L3, L8]
unfoldable pub header_good : List ℕ → Bool
header_good f =
    leb header_size (length f)
    && leb (length f) most_bytes
    && leb 1 (count_of f)
    && leb (count_of f) most_records
    && eqb (begin_of f 0) header_size
    && eqb (begin_of f (count_of f)) (length f)

-- an index or a length is 0 where the call takes none [L7]
abbrev pub taken_or_zero : Bool → ℕ → Bool
taken_or_zero takes n = takes || eqb n 0

-- a record's head: a kind that there is, with its index and its length [L6, L7]
unfoldable pub form_good : Head → Bool
form_good h =
    is_kind h.kind
    && taken_or_zero (takes_index h.kind) h.index
    && taken_or_zero (takes_bytes h.kind) h.length

-- the first record is a table, and no other is [L8]
abbrev pub placed : ℕ → ℕ → Bool
placed k kind = pick (eqb k 0) (eqb kind table_kind) (not (eqb kind table_kind))

-- record k ends where the next begins, or the file ends: there is no gap; its head is good, and it is in its place
-- [L3, L5]
unfoldable pub record_good : List ℕ → ℕ → Bool
record_good f k =
    eqb (begin_of f (k + 1)) (end_from f (begin_of f k))
    && form_good (head_from f (begin_of f k))
    && placed k (head_from f (begin_of f k)).kind

-- the offsets behind the file's end are 0 [L4]
unfoldable pub unused_good : List ℕ → Bool
unused_good f = every_below (most_records - count_of f) (λ k. eqb (begin_of f (count_of f + 1 + k)) 0)

-- a file that breaks no rule [R21]
unfoldable pub good_trace : List ℕ → Bool
good_trace f = header_good f && every_below (count_of f) (record_good f) && unused_good f

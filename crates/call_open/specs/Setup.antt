-- Setup: which answer, and what node and book hold afterwards. Cited by setup. Assumes nothing.
use Rattle.std.specs.Prelude.{ℕ, zero, suc, not, List, [], ◌∷◌, length, replicate, ltb, Result, Ok, Err}
use Rattle.std.proofs.lemmas.List.Edits.{sets}
use Rattle.timing.specs.Timing.{round}
use Rattle.units.specs.Refusals.{pick, verdict, Verdict}
use Rattle.units.specs.declared.refusals.Refusal.TheVariants as refusal
use Rattle.memory.specs.Layout.{resets, urgents, resends, datas}
use Rattle.waiting.specs.Queues.{joined}
use Rattle.waiting.specs.Port.{ended}
use Rattle.window.specs.Windows.{new_of}
use Rattle.table.specs.Layout.{count_of, own_of, protocol_of, entry_of}
use Rattle.table.specs.Areas.{place_of, store_of}
use Rattle.table.specs.Rules.{good_table}
use Rattle.end_points.specs.Ends.{saved, saved_entry}
use Rattle.end_points.specs.Lent.{Lent}
use Rattle.end_points.specs.declared.State.TheVariants.{Closed}
use Rattle.end_points.specs.declared.Run.{Run}
use Rattle.arrive_lookup.specs.Lookup.{indexed}
use Rattle.units.specs.declared.refusals.Refusal.{Refusal}

-- 1, 6 [R1, R6, R31]
unfoldable pub setup_answer : Lent → List ℕ → Verdict
setup_answer x t =
    verdict ((not (good_table t), refusal.BadTable) ∷ (ltb (length x.store) (store_of t), refusal.TooShort) ∷ [])

-- how many bytes of store it needs: 1, or the sum of its entries' areas [S1, R1, R46]
unfoldable pub need_answer : List ℕ → Result ℕ Refusal
need_answer t = pick (good_table t) (Ok (store_of t)) (Err refusal.BadTable)

-- start 1, nothing taken, counts 0 [E3]
abbrev pub first_run : Run
first_run =
    record {
      window = new_of 0;
      taken = 0;
      handed = 0;
      accepted = record { 0 = 0 };
      confirmed = record { 0 = 0 };
      urgent = 0;
    }

-- the head: from the table, no acknowledgement waiting, the clock before its first tick; with no timer running as many
-- ticks may pass as the longest timer takes [T17]
abbrev pub headed : List ℕ → List ℕ → List ℕ
headed t ws = sets ws 0 (count_of t ∷ (own_of t).0 ∷ protocol_of t ∷ store_of t ∷ 0 ∷ 0 ∷ 0 ∷ round ∷ [])

-- then the first k entries, each Closed and in the index [E3]
abbrev pub entered : List ℕ → ℕ → List ℕ → List ℕ
entered t k ws = indexed (saved (saved_entry ws k (entry_of t k) (place_of t k)) k Closed first_run) k (entry_of t k)

unfoldable pub tabled : List ℕ → ℕ → List ℕ → List ℕ
tabled t zero ws = ws
tabled t (suc k) ws = entered t k (tabled t k ws)

-- nothing waits: each queue is followed by itself [E3]
unfoldable pub emptied : List ℕ → List ℕ
emptied b = joined (joined (joined (joined b resets resets) urgents urgents) resends resends) datas datas

-- refused, all is as it was; else the node is the table's, nothing waits and no frame is under way [E3, R44]
unfoldable pub setup_after : Lent → List ℕ → Verdict → Lent
setup_after x t (Err w) = x
setup_after x t (Ok _) =
    record {
      node = tabled t (count_of t) (headed t (replicate (length x.node) 0));
      book = ended (emptied x.book);
      store = x.store;
      out = x.out;
    }

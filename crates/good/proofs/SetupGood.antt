-- Setup gives a good node: every entry Closed as the table has it, nothing waits. Assumes that the table's elements are bytes.
use Prim.Native.Nat.{ℕ, zero, suc, ◌+◌, ◌<◌}
use mathlib.Core.Path.{◌≡◌, refl, sym, ap, subst, ◌∙◌}
use mathlib.Core.Logic.{◌≢◌}
use mathlib.Core.Bool.{true, not}
use mathlib.Core.List.Memᴰ
use mathlib.Core.List.{List, [], ◌∷◌, Memᴰ}
use native.Mathlib.Nat.{mod-eq_of_lt}
use native.Mathlib.Omega.{arith}
use lib.ListN.{length, get_or, replicate, length-replicate, get_or-replicate}
use lib.Seq.{length-sets}
use lib.Dec.{ltb}
use borrow.Author.Tests.{not-false}
use Rattle.units.specs.declared.refusals.Refusal.TheVariants as refusal
use Rattle.units.proofs.Judging.{clear}
use Rattle.units.proofs.Runs.{get_d_sets_after, get_d_sets_at}
use Rattle.memory.specs.Layout.{row_at, node_words, book_halves}
use Rattle.waiting.specs.Queues.{joined}
use Rattle.waiting.specs.Acks.{waiting_of}
use Rattle.waiting.specs.Order.{Adjacent, from, acks_in}
use Rattle.waiting.proofs.Linked.{joined_here, joined_there, joined_long}
use Rattle.window.proofs.Resetting.{new_good}
use Rattle.table.specs.Layout.{count_of, own_of, protocol_of, entry_of}
use Rattle.table.specs.Areas.{place_of, store_of}
use Rattle.table.specs.Rules.{good_table}
use Rattle.table.proofs.Good.{good_head, good_entry}
use Rattle.end_points.specs.Ends.{load_entry, place_in, end_of}
use Rattle.end_points.specs.Heads.{count_in}
use Rattle.end_points.specs.Lent.{Lent}
use Rattle.end_points.specs.declared.EndPoint.{EndPoint}
use Rattle.arrive_lookup.specs.Lookup.{row_in, Indexed}
use Rattle.arrive_lookup.proofs.Rows.{row_zero}
use Rattle.waiting.specs.Port.{ended}
use Rattle.good.proofs.Lined.{port_lines}
use Rattle.good.proofs.Porting.{ended_under}
use Rattle.call_open.specs.Setup.{setup_answer, headed, tabled, emptied, setup_after}
use Rattle.timing.specs.Timing.{clock_in, quiet_in}
use Rattle.good.specs.Good.{Lines, Entered, Timely, Tabled, Good}
use Rattle.good.proofs.Entering.{closed_at, tabled_long, tabled_head, tabled_at}
use Rattle.good.proofs.Indexing.{tabled_index}
use Rattle.std.specs.Prelude.{Ok}

-- ---- the node

module _ (t : List ℕ) (g : good_table t ≡ true) (bytes : (k : ℕ) → get_or t k 0 < 256) where
  abbrev head : List ℕ
  head = count_of t ∷ (own_of t).0 ∷ protocol_of t ∷ store_of t ∷ 0 ∷ 0 ∷ 0 ∷ 65535 ∷ []

  abbrev blank : List ℕ
  blank = headed t (replicate node_words 0)

  abbrev node : List ℕ
  node = tabled t (count_of t) blank

  blank_long : length blank ≡ node_words
  blank_long = length-sets (replicate node_words 0) 0 head ∙ length-replicate {A = ℕ} node_words 0

  -- the head's eight words
  node_head : (k : ℕ) → k < 8 → get_or node k 0 ≡ get_or head k 0
  node_head k h =
      let z : 0 + k ≡ k = omega arith in
      tabled_head t g bytes blank blank_long (count_of t) (omega arith) k (omega arith)
      ∙ (rw z at (get_d_sets_at head (replicate node_words 0) 0 k 0 h (omega (arith, length-replicate {A = ℕ} node_words 0))))

  node_end : (i : ℕ) → i < count_of t → end_of node i ≡ closed_at t i
  node_end i h = tabled_at t g bytes blank blank_long (count_of t) (omega arith) i h

  node_count : count_in node ≡ count_of t
  node_count = rw (node_head 0 (omega arith)) (mod-eq_of_lt (omega (arith, (good_head t g).count)))

  node_entry : (i : ℕ) → i < count_of t → (load_entry node i ≡ entry_of t i) × (place_in node i ≡ place_of t i)
  unfolding end_of
  node_entry i h = (ap (λ (e : EndPoint). e.entry) (node_end i h), ap (λ (e : EndPoint). e.place) (node_end i h))

  -- the index begins with no digits
  blank_row : (v : ℕ) → row_in blank v ≡ 0
  blank_row v =
      row_zero blank v
      (λ h. get_d_sets_after head (replicate node_words 0) 0 (row_at v) 0 (omega arith) ∙ get_or-replicate node_words (row_at v) 0 0 (omega arith))

  node_index : Indexed node
  node_index = tabled_index t g bytes blank blank_long blank_row node_count (λ i h. (node_entry i h).0)

  node_tabled : Tabled node t
  node_tabled =
      record {
        count = node_count;
        own = rw (node_head 1 (omega arith), mod-eq_of_lt (bytes 4));
        protocol = rw (node_head 2 (omega arith)) (mod-eq_of_lt (bytes 5));
        need = node_head 3 (omega arith);
        entry = λ i h. (node_entry i h).0;
        place = λ i h. (node_entry i h).1;
        index = node_index;
      }

  waits_none : waiting_of node ≡ 0
  waits_none = rw (node_head 5 (omega arith))

  acks_none : acks_in node ≡ []
  unfolding from
  acks_none = rw waits_none

-- ---- the book

-- joining a queue to itself leaves another that is
stays : (b : List ℕ) → length b ≡ book_halves → (q r : ℕ) → q < 4 → r < 4 → r ≢ q → Adjacent b r r → Adjacent (joined b q q) r r
stays b long q r hq hr n a = joined_there b long q q (omega arith) (omega arith) r r (omega arith) (omega arith) n n a

-- each queue is followed by itself
module _ (b : List ℕ) (long : length b ≡ book_halves) where
  abbrev resets_joined : List ℕ
  resets_joined = joined b 0 0

  abbrev urgents_joined : List ℕ
  urgents_joined = joined resets_joined 1 1

  abbrev resends_joined : List ℕ
  resends_joined = joined urgents_joined 2 2

  resets_long : length resets_joined ≡ book_halves
  resets_long = joined_long b long 0 0 (omega arith) (omega arith)

  urgents_long : length urgents_joined ≡ book_halves
  urgents_long = joined_long resets_joined resets_long 1 1 (omega arith) (omega arith)

  resends_long : length resends_joined ≡ book_halves
  resends_long = joined_long urgents_joined urgents_long 2 2 (omega arith) (omega arith)

  emptied_long : length (emptied b) ≡ book_halves
  unfolding emptied
  emptied_long = joined_long resends_joined resends_long 3 3 (omega arith) (omega arith)

  emptied_each : (q : ℕ) → q < 4 → Adjacent (emptied b) q q
  unfolding emptied
  emptied_each zero h =
      stays resends_joined resends_long 3 0 (omega arith) h (λ e. omega arith)
      (stays urgents_joined urgents_long 2 0 (omega arith) h (λ e. omega arith)
      (stays resets_joined resets_long 1 0 (omega arith) h (λ e. omega arith) (joined_here b long 0 0 (omega arith) (omega arith))))
  emptied_each (suc zero) h =
      stays resends_joined resends_long 3 1 (omega arith) h (λ e. omega arith)
      (stays urgents_joined urgents_long 2 1 (omega arith) h (λ e. omega arith) (joined_here resets_joined resets_long 1 1 (omega arith) (omega arith)))
  emptied_each (suc (suc zero)) h = stays resends_joined resends_long 3 2 (omega arith) h (λ e. omega arith) (joined_here urgents_joined urgents_long 2 2 (omega arith) (omega arith))
  emptied_each (suc (suc (suc zero))) h = joined_here resends_joined resends_long 3 3 (omega arith) (omega arith)
  emptied_each (suc (suc (suc (suc q)))) h = absurd (omega arith)

  emptied_lines : Lines (emptied b) (λ q. [])
  emptied_lines =
      record {
        long = emptied_long;
        queue = λ q h. record { chain = emptied_each q h; distinct = (tt, tt); below = (omega arith, tt) };
        high = λ q h x m. absurd (Memᴰ.not-nil m);
        apart = λ q r hq hr n x m k. Memᴰ.not-nil m;
      }

-- ---- setup

-- every entry is Closed, and nothing of it waits
closed_entered : (t b : List ℕ) → good_table t ≡ true → (i : ℕ) → i < count_of t → Entered b (λ q. []) i (closed_at t i)
closed_entered t b g i h =
    record {
      window = new_good (entry_of t i).window (good_entry t g i h).window;
      stated = record {
        fresh = record { window = refl; taken = refl; handed = refl; urgent = refl };
        silent = record { share = record { resets = refl; urgents = refl; datas = refl }; resends = refl };
      };
    }

set_up : (t b : List ℕ) → good_table t ≡ true → ((k : ℕ) → get_or t k 0 < 256) → length b ≡ book_halves
    → Good t (tabled t (count_of t) (headed t (replicate node_words 0))) (ended (emptied b)) (λ q. [])
set_up t b g bytes long =
    record {
      table = g;
      long = tabled_long t (count_of t) (headed t (replicate node_words 0)) ∙ blank_long t g bytes;
      tabled = node_tabled t g bytes;
      acks = omega (arith, waits_none t g bytes);
      owed = λ w m. absurd (Memᴰ.not-nil (subst (Memᴰ w) (acks_none t g bytes) m));
      lines = port_lines (emptied b) (λ q. []) (emptied_lines b long) 0;
      known = λ q h x m. absurd (Memᴰ.not-nil m);
      entered = λ i h. let l : i < count_of t = rw (node_count t g bytes) at h in
          subst (Entered (ended (emptied b)) (λ q. []) i) (sym (node_end t g bytes i l)) (closed_entered t (ended (emptied b)) g i l);
      under = λ h. absurd (h (ended_under (emptied b) (λ q. []) (emptied_lines b long)));
      timely = λ i h. let l : i < count_of t = rw (node_count t g bytes) at h in
          let ws = tabled t (count_of t) (headed t (replicate node_words 0)) in
          subst (λ (e : EndPoint). Timely (clock_in ws) (quiet_in ws) (ended (emptied b)) i e e.state) (sym (node_end t g bytes i l)) tt;
    }

passed_table : (x : Lent) (t : List ℕ) → setup_answer x t ≡ Ok tt → good_table t ≡ true
unfolding setup_answer
passed_table x t h =
    not-false _ (clear ((not (good_table t), refusal.BadTable) ∷ (ltb (length x.store) (store_of t), refusal.TooShort) ∷ []) h).0

-- Setup that passed gives a good node with nothing waiting.
pub setup_good : (x : Lent) (t : List ℕ) → length x.node ≡ node_words → length x.book ≡ book_halves → ((k : ℕ) → get_or t k 0 < 256) → setup_answer x t ≡ Ok tt
    → Good t (setup_after x t (Ok tt)).node (setup_after x t (Ok tt)).book (λ q. [])
unfolding setup_after
setup_good x t n b bytes h = rw n (set_up t x.book (passed_table x t h) bytes b)

-- and every entry is Closed, with no acknowledgement waiting
pub setup_ends : (x : Lent) (t : List ℕ) → length x.node ≡ node_words → ((k : ℕ) → get_or t k 0 < 256) → setup_answer x t ≡ Ok tt
    → ((i : ℕ) → i < count_of t → end_of (setup_after x t (Ok tt)).node i ≡ closed_at t i) × (acks_in (setup_after x t (Ok tt)).node ≡ [])
unfolding setup_after
setup_ends x t n bytes h = rw n (node_end t (passed_table x t h) bytes, acks_none t (passed_table x t h) bytes)

-- Setup enters each entry of the table, Closed and in the index, and leaves the others. Assumes that the table's elements are bytes.
use Prim.Native.Nat.{ℕ, zero, suc, ◌+◌, ◌%◌, ◌≤◌, ◌<◌}
use mathlib.Core.Path.{◌≡◌, refl, sym, ap, subst, ◌∙◌}
use mathlib.Core.Logic.{◌≢◌, ◌⊎◌, inl, inr}
use mathlib.Core.Bool.{Bool, true, ◌&&◌, ◌||◌}
use mathlib.Core.List.{List, ◌++◌}
use native.Mathlib.Decide.{ℕ_discrete, dec_lt}
use native.Mathlib.Nat.{mod-eq_of_lt}
use native.Mathlib.Omega.{arith}
use lib.ListN.{length, get_or}
use lib.Seq.{length-sets}
use lib.Dec.{eqb}
use Rattle.units.specs.Bytes.{get16_of}
use Rattle.units.proofs.Runs.{get_d_sets_before, get_d_sets_after, get_d_sets_at}
use Rattle.memory.specs.Layout.{row_at, entry_at, node_words}
use Rattle.end_points.proofs.Kept.{end_ext, saved_word, saved_other, saved_here, RunFits}
use Rattle.window.specs.Marks.{bit}
use Rattle.window.specs.Windows.{new_of}
use Rattle.table.specs.declared.Kind.{Kind}
use Rattle.table.specs.declared.Kind.TheVariants.{Sends, Receives}
use Rattle.table.specs.declared.Entry.{Entry}
use Rattle.table.specs.Layout.{count_of, start_of, entry_from, entry_of}
use Rattle.table.specs.Areas.{place_of}
use Rattle.table.specs.Rules.{good_table}
use Rattle.table.proofs.Good.{good_head, good_entry, store_fits}
use Rattle.table.proofs.Places.{areas_inside}
use Rattle.end_points.specs.Ends.{word, kind_of, load_entry, place_in, end_of, kind_number, entry_words, state_words, run_words, saved, saved_entry}
use Rattle.end_points.specs.States.{is_sends}
use Rattle.end_points.specs.declared.State.TheVariants.{Closed}
use Rattle.end_points.specs.declared.Run.{Run}
use Rattle.end_points.specs.declared.EndPoint.{EndPoint}
use Rattle.arrive_lookup.specs.Lookup.{row_in, channel_digit, remote_digit}
use Rattle.arrive_lookup.specs.Fitting.{same}
use Rattle.arrive_lookup.proofs.Rows.{row_ext, indexed_channel, indexed_remote, indexed_word, indexed_long}
use Rattle.call_open.specs.Setup.{first_run, entered, tabled}

-- ---- an entry in the node's words

-- it fits them
record EntryFits (e : Entry) : Type 0 where
  remote : e.remote.0 < 256
  channel : e.channel.0 < 256
  retries : e.retries < 256
  window : e.window < 65536
  largest : e.largest < 65536
  timeout : e.timeout < 65536

kind_back : (k : Kind) → kind_of (kind_number k) ≡ k
kind_back Sends = refl
kind_back Receives = refl

module _ (ws : List ℕ) (i : ℕ) (e : Entry) (place : ℕ) where
  -- words outside those eight stay
  put_before : (k : ℕ) → k < entry_at i → get_or (saved_entry ws i e place) k 0 ≡ get_or ws k 0
  unfolding saved_entry
  put_before k h = get_d_sets_before (entry_words e place) ws (entry_at i) k 0 h

  put_after : (k : ℕ) → entry_at i + 8 ≤ k → get_or (saved_entry ws i e place) k 0 ≡ get_or ws k 0
  unfolding saved_entry
  put_after k h = get_d_sets_after (entry_words e place) ws (entry_at i) k 0 h

  put_other : (j : ℕ) → j ≢ i → end_of (saved_entry ws i e place) j ≡ end_of ws j
  put_other j n = end_ext (saved_entry ws i e place) ws j (λ k l. sides k l (dec_lt j i))
    where
      sides : (k : ℕ) → k < 19 → Dec (j < i) → word (saved_entry ws i e place) j k ≡ word ws j k
      sides k l (yes h) = put_before (entry_at j + k) (omega arith)
      sides k l (no h) = put_after (entry_at j + k) (let g : i < j = omega arith in omega arith)

  put_long : length (saved_entry ws i e place) ≡ length ws
  unfolding saved_entry
  put_long = length-sets ws (entry_at i) (entry_words e place)

  module _ (long : length ws ≡ node_words) (low : i < 16) where
    put_at : (k : ℕ) → k < 8 → word (saved_entry ws i e place) i k ≡ get_or (entry_words e place) k 0
    unfolding saved_entry
    put_at k h = get_d_sets_at (entry_words e place) ws (entry_at i) k 0 h (omega arith)

    -- what is put is loaded
    put_entry : EntryFits e → load_entry (saved_entry ws i e place) i ≡ e
    unfolding load_entry
    put_entry f =
        let z : entry_at i + 0 ≡ entry_at i = omega arith in
        let h0 : get_or (saved_entry ws i e place) (entry_at i) 0 ≡ kind_number e.kind = rw z at (put_at 0 (omega arith)) in
        rw (
          h0,
          put_at 1 (omega arith),
          put_at 2 (omega arith),
          put_at 3 (omega arith),
          put_at 4 (omega arith),
          put_at 5 (omega arith),
          put_at 6 (omega arith),
          mod-eq_of_lt f.remote,
          mod-eq_of_lt f.channel,
          mod-eq_of_lt f.retries,
          mod-eq_of_lt f.window,
          mod-eq_of_lt f.largest,
          mod-eq_of_lt f.timeout,
          kind_back e.kind,
        )

    put_place : place < 65536 → place_in (saved_entry ws i e place) i ≡ place
    put_place h = rw (put_at 7 (omega arith), mod-eq_of_lt h)

-- ---- the table's entries

-- two bytes are a number below 65536
pair_small : (t : List ℕ) → ((k : ℕ) → get_or t k 0 < 256) → (i : ℕ) → get16_of t i < 65536
unfolding get16_of
pair_small t b i = omega (arith, b i, b (i + 1))

entry_bytes : (t : List ℕ) → ((k : ℕ) → get_or t k 0 < 256) → (i : ℕ)
    → ((entry_of t i).channel.0 < 256) × ((entry_of t i).retries < 256) × ((entry_of t i).timeout < 65536)
unfolding entry_of entry_from
entry_bytes t b i = (b (start_of i + 2), b (start_of i + 3), pair_small t b (start_of i + 8))

module _ (t : List ℕ) (g : good_table t ≡ true) (bytes : (k : ℕ) → get_or t k 0 < 256) (i : ℕ) (h : i < count_of t) where
  entry_fits : EntryFits (entry_of t i)
  entry_fits =
      let e = good_entry t g i h in
      let b = entry_bytes t bytes i in
      record {
        remote = omega (arith, e.remote_high);
        channel = b.0;
        retries = b.1;
        window = omega (arith, e.window_high);
        largest = omega (arith, e.largest_high);
        timeout = b.2;
      }

  place_fits : place_of t i < 65536
  place_fits = omega (arith, areas_inside t i h, store_fits t g)

-- ---- one entry is entered

-- the first run of a window of a size
abbrev pub first_of : ℕ → Run
first_of size = record { window = new_of size; taken = 0; handed = 0; accepted = record { 0 = 0 }; confirmed = record { 0 = 0 }; urgent = 0 }

first_fits : (size : ℕ) → RunFits (first_of size)
first_fits size = record { start = omega arith; taken = omega arith; handed = omega arith; accepted = omega arith; confirmed = omega arith; urgent = omega arith }

-- what setup makes of an entry: Closed, as the table has it. The window's size is the table's word, none is saved with the run.
abbrev pub closed_at : List ℕ → ℕ → EndPoint
closed_at t i = record { entry = entry_of t i; place = place_of t i; state = Closed; run = first_of (entry_of t i).window }

unsized : (ws : List ℕ) (i size : ℕ) → saved ws i Closed first_run ≡ saved ws i Closed (first_of size)
unfolding saved
unsized ws i size = refl

saved_long : (ws : List ℕ) (i : ℕ) → length (saved ws i Closed first_run) ≡ length ws
unfolding saved
saved_long ws i = length-sets ws (entry_at i + 8) (state_words Closed ++ run_words first_run)

module _ (t : List ℕ) (k : ℕ) (ws : List ℕ) where
  abbrev put : List ℕ
  put = saved_entry ws k (entry_of t k) (place_of t k)

  -- before it stands in the index
  abbrev closed : List ℕ
  closed = saved put k Closed first_run

  closed_long : length closed ≡ length ws
  closed_long = saved_long put k ∙ put_long ws k (entry_of t k) (place_of t k)

  closed_before : (j : ℕ) → j < entry_at k → get_or closed j 0 ≡ get_or ws j 0
  closed_before j h = saved_word put k Closed first_run j (inl (omega arith)) ∙ put_before ws k (entry_of t k) (place_of t k) j h

  pub entered_long : length (entered t k ws) ≡ length ws
  entered_long = indexed_long closed k (entry_of t k) ∙ closed_long

  module _ (g : good_table t ≡ true) (bytes : (j : ℕ) → get_or t j 0 < 256) (h : k < count_of t) (long : length ws ≡ node_words) where
    low : k < 16
    low = omega (arith, (good_head t g).count)

    room : (entry_at 0) ≤ length closed
    room = omega (arith, closed_long)

    -- the index alters rows alone
    row_only : (j : ℕ) → (j < 64) ⊎ ((entry_at 0) ≤ j) → get_or (entered t k ws) j 0 ≡ get_or closed j 0
    row_only = let f = entry_fits t g bytes k h in indexed_word closed room k low (entry_of t k) f.channel f.remote

    end_only : (j : ℕ) → end_of (entered t k ws) j ≡ end_of closed j
    end_only j = end_ext (entered t k ws) closed j (λ m l. row_only (entry_at j + m) (inr (omega arith)))

    entered_head : (j : ℕ) → j < 64 → get_or (entered t k ws) j 0 ≡ get_or ws j 0
    entered_head j l = row_only j (inl l) ∙ closed_before j (omega arith)

    entered_other : (j : ℕ) → j ≢ k → end_of (entered t k ws) j ≡ end_of ws j
    entered_other j n = end_only j ∙ saved_other put k j Closed first_run n ∙ put_other ws k (entry_of t k) (place_of t k) j n

    entered_here : end_of (entered t k ws) k ≡ closed_at t k
    entered_here =
        let e : load_entry put k ≡ entry_of t k = put_entry ws k (entry_of t k) (place_of t k) long low (entry_fits t g bytes k h) in
        let p : place_in put k ≡ place_of t k = put_place ws k (entry_of t k) (place_of t k) long low (place_fits t g bytes k h) in
        let s : (entry_of t k).window ≡ (load_entry put k).window % 256 = rw e (omega (arith, (good_entry t g k h).window_high)) in
        end_only k
        ∙ ap (λ (v : List ℕ). end_of v k) (unsized put k (entry_of t k).window)
        ∙ saved_here put k Closed (first_of (entry_of t k).window) (put_long ws k (entry_of t k) (place_of t k) ∙ long) low tt (first_fits (entry_of t k).window) s
        ∙ rw (e, p)

    -- what one entry more does to a row's digits
    row_same : (v : ℕ) → row_in closed v ≡ row_in ws v
    row_same v = row_ext closed ws v (λ l. closed_before (row_at v) (omega arith))

    pub entered_channel : (sends : Bool) (v i : ℕ) → i < 16
        → bit (row_in (entered t k ws) v) (channel_digit sends i)
        ≡ (bit (row_in ws v) (channel_digit sends i) || (eqb v (entry_of t k).channel.0 && (same sends (is_sends (entry_of t k).kind) && eqb i k)))
    entered_channel sends v i l =
        let f = entry_fits t g bytes k h in
        indexed_channel closed room k low (entry_of t k) f.channel f.remote sends v i l ∙ rw (row_same v)

    pub entered_remote : (v i : ℕ) → i < 16
        → bit (row_in (entered t k ws) v) (remote_digit i) ≡ (bit (row_in ws v) (remote_digit i) || (eqb v (entry_of t k).remote.0 && eqb i k))
    entered_remote v i l =
        let f = entry_fits t g bytes k h in
        indexed_remote closed room k low (entry_of t k) f.channel f.remote v i l ∙ rw (row_same v)

-- ---- all of them, one by one

pub tabled_long : (t : List ℕ) (k : ℕ) (ws : List ℕ) → length (tabled t k ws) ≡ length ws
unfolding tabled
tabled_long t zero ws = refl
tabled_long t (suc k) ws = entered_long t k (tabled t k ws) ∙ tabled_long t k ws

module _ (t : List ℕ) (g : good_table t ≡ true) (bytes : (j : ℕ) → get_or t j 0 < 256) (ws : List ℕ) (long : length ws ≡ node_words) where
  pub tabled_head : (k : ℕ) → k ≤ count_of t → (j : ℕ) → j < 64 → get_or (tabled t k ws) j 0 ≡ get_or ws j 0
  unfolding tabled
  tabled_head zero le j h = refl
  tabled_head (suc k) le j h =
      entered_head t k (tabled t k ws) g bytes (omega arith) (tabled_long t k ws ∙ long) j h ∙ tabled_head k (omega arith) j h

  -- those before the k-th are entered
  pub tabled_at : (k : ℕ) → k ≤ count_of t → (i : ℕ) → i < k → end_of (tabled t k ws) i ≡ closed_at t i
  unfolding tabled
  tabled_at zero le i h = absurd (omega arith)
  tabled_at (suc k) le i h = sides (λ m. tabled_at k (omega arith) i m) (ℕ_discrete i k)
    where
      sides : (i < k → end_of (tabled t k ws) i ≡ closed_at t i) → Dec (i ≡ k) → end_of (entered t k (tabled t k ws)) i ≡ closed_at t i
      sides below (yes e) =
          subst (λ (j : ℕ). end_of (entered t k (tabled t k ws)) j ≡ closed_at t j) (sym e)
          (entered_here t k (tabled t k ws) g bytes (omega arith) (tabled_long t k ws ∙ long))
      sides below (no n) = entered_other t k (tabled t k ws) g bytes (omega arith) (tabled_long t k ws ∙ long) i n ∙ below (omega arith)

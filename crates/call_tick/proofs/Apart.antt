-- What a tick makes of one entry leaves the head, the waiting acknowledgements, the table's words and every other end point as they
-- were; so what becomes of an end point is decided at its own turn. Assumes nothing.
use mathlib.Core.Bool.{Bool, true, false, not, ◌&&◌}
use mathlib.Core.List.{List, ◌++◌}
use mathlib.Core.Path.{◌≡◌, refl, sym, ap, ◌∙◌}
use Prim.Native.Nat.{ℕ, zero, suc, ◌+◌, ◌≤◌, ◌<◌}
use native.Mathlib.Decide.{dec_le}
use native.Mathlib.Nat.{add-zero}
use native.Mathlib.Omega.{arith}
use lib.ListN.{length, get_or}
use lib.Seq.{length-sets}
use lib.Dec.{eqb}
use Rattle.units.specs.Refusals.{pick}
use Rattle.units.proofs.Runs.{get_d_sets_before, get_d_sets_after}
use Rattle.memory.specs.Layout.{entry_at}
use Rattle.end_points.specs.Ends.{word, load_entry, load_run, end_of, state_words, run_words, saved}
use Rattle.end_points.specs.Lent.{Lent}
use Rattle.end_points.specs.declared.EndPoint.{EndPoint}
use Rattle.end_points.specs.declared.Run.{Run}
use Rattle.end_points.specs.declared.State.{State}
use Rattle.end_points.specs.declared.State.TheVariants.{Closed, Enabled, Open, Failing}
use Rattle.waiting.specs.Port.{under_in, is_own, is_reset}
use Rattle.call_tick.specs.Ticking.{ticked, Scanned, tick_state, tick_entry, tick_entries, Recovered, again, recover, recover_all, entries, scanned, scan_both}
use Rattle.end_points.specs.States.{is_over}

-- ---- two nodes that agree outside the state and the run of entry i

pub record Only (i : ℕ) (a b : List ℕ) : Type 0 where
  pub before : (k : ℕ) → k < entry_at i + 8 → get_or b k 0 ≡ get_or a k 0
  pub after : (k : ℕ) → entry_at i + 19 ≤ k → get_or b k 0 ≡ get_or a k 0
  pub long : length b ≡ length a

only_same : (i : ℕ) (a : List ℕ) → Only i a a
only_same i a = record { before = λ k h. refl; after = λ k h. refl; long = refl }

words_long : (s : State) (r : Run) → length (state_words s ++ run_words r) ≡ 11
words_long Closed r = refl
words_long (Enabled t sent) r = refl
words_long Open r = refl
words_long (Failing n) r = refl

pub only_saved : (a : List ℕ) (i : ℕ) (s : State) (r : Run) → Only i a (saved a i s r)
unfolding saved
only_saved a i s r =
    let vs = state_words s ++ run_words r in
    let n = words_long s r in
    record {
      before = λ k h. get_d_sets_before vs a (entry_at i + 8) k 0 h;
      after = λ k h. get_d_sets_after vs a (entry_at i + 8) k 0 (omega arith);
      long = length-sets a (entry_at i + 8) vs;
    }

-- every other end point is the same
pub only_end : {i : ℕ} {a b : List ℕ} → Only i a b → (j : ℕ) → (i ≡ j → ⊥) → end_of b j ≡ end_of a j
unfolding end_of load_entry load_run
only_end {i} {a} {b} o j d =
    rw (first, w 1 (omega arith), w 2 (omega arith), w 3 (omega arith), w 4 (omega arith), w 5 (omega arith), w 6 (omega arith), w 7 (omega arith), w 8 (omega arith), w 9 (omega arith), w 10 (omega arith), w 11 (omega arith), w 12 (omega arith), w 13 (omega arith), w 14 (omega arith), w 15 (omega arith), w 16 (omega arith), w 17 (omega arith), w 18 (omega arith))
  where
    side : (k : ℕ) → k < 32 → Dec (i ≤ j) → word b j k ≡ word a j k
    side k h (yes l) = o.after (entry_at j + k) (omega arith)
    side k h (no l) = o.before (entry_at j + k) (omega arith)

    w : (k : ℕ) → k < 32 → word b j k ≡ word a j k
    w k h = side k h (dec_le i j)

    first : get_or b (entry_at j) 0 ≡ get_or a (entry_at j) 0
    first = rw (add-zero (entry_at j)) at (w 0 (omega arith))

-- what the table says is the same of all
pub only_table : {i : ℕ} {a b : List ℕ} → Only i a b → (j : ℕ) → load_entry b j ≡ load_entry a j
unfolding load_entry
only_table {i} {a} {b} o j =
    rw (first, w 1 (omega arith), w 2 (omega arith), w 3 (omega arith), w 4 (omega arith), w 5 (omega arith), w 6 (omega arith))
  where
    side : (k : ℕ) → k < 8 → Dec (suc i ≤ j) → word b j k ≡ word a j k
    side k h (yes l) = o.after (entry_at j + k) (omega arith)
    side k h (no l) = o.before (entry_at j + k) (omega arith)

    w : (k : ℕ) → k < 8 → word b j k ≡ word a j k
    w k h = side k h (dec_le (suc i) j)

    first : get_or b (entry_at j) 0 ≡ get_or a (entry_at j) 0
    first = rw (add-zero (entry_at j)) at (w 0 (omega arith))

-- ---- an entry's turn

pick_only : {i : ℕ} {a : List ℕ} (t : Bool) {b c : List ℕ} → Only i a b → Only i a c → Only i a (pick t b c)
pick_only true p q = p
pick_only false p q = q

pick_scanned : {i : ℕ} {a : List ℕ} (t : Bool) (x y : Scanned) → Only i a x.lent.node → Only i a y.lent.node → Only i a (pick t x y).lent.node
pick_scanned true x y p q = p
pick_scanned false x y p q = q

state_only : (c : ℕ) (y : Scanned) (i : ℕ) (e : EndPoint) (s : State) → Only i y.lent.node (tick_state c y i e s).lent.node
unfolding tick_state
state_only c y i e Closed = only_same i y.lent.node
state_only c y i e (Enabled d sent) =
    pick_scanned (eqb d 0) _ _ (only_same i y.lent.node)
    (pick_scanned (is_reset (under_in y.lent.book) i) _ _ (only_same i y.lent.node)
    (pick_scanned (eqb d c) _ _ (only_saved y.lent.node i _ _) (only_same i y.lent.node)))
state_only c y i e Open = pick_only (ticked c i e false y.lent.book y.least).failing (only_saved y.lent.node i _ _) (only_same i y.lent.node)
state_only c y i e (Failing n) = only_saved y.lent.node i _ _

pub tick_only : (c i : ℕ) (y : Scanned) → Only i y.lent.node (tick_entry c i y).lent.node
unfolding tick_entry
tick_only c i y = state_only c y i (end_of y.lent.node i) (end_of y.lent.node i).state

pick_recovered : {i : ℕ} {a : List ℕ} (t : Bool) (x y : Recovered) → Only i a x.lent.node → Only i a y.lent.node → Only i a (pick t x y).lent.node
pick_recovered true x y p q = p
pick_recovered false x y p q = q

pub recover_only : (i : ℕ) (r : Recovered) → Only i r.lent.node (recover i r).lent.node
unfolding recover
recover_only i r =
    pick_recovered (is_over (end_of r.lent.node i).state && not (is_own r.lent.book i)) (again i r) r (only_saved r.lent.node i _ _) (only_same i r.lent.node)

-- ---- turns in table order, each of which alters its own entry alone

abbrev pub turns : {S : Type 0} → (ℕ → S → S) → ℕ → S → S
turns step zero s = s
turns step (suc n) s = step n (turns step n s)

module _ (S : Type 0) (node : S → List ℕ) (step : ℕ → S → S) (only : (i : ℕ) (s : S) → Only i (node s) (node (step i s))) where
  pub turns_head : (n : ℕ) (s : S) (k : ℕ) → k < 64 → get_or (node (turns step n s)) k 0 ≡ get_or (node s) k 0
  turns_head zero s k h = refl
  turns_head (suc n) s k h = (only n (turns step n s)).before k (omega arith) ∙ turns_head n s k h

  pub turns_long : (n : ℕ) (s : S) → length (node (turns step n s)) ≡ length (node s)
  turns_long zero s = refl
  turns_long (suc n) s = (only n (turns step n s)).long ∙ turns_long n s

  pub turns_table : (n j : ℕ) (s : S) → load_entry (node (turns step n s)) j ≡ load_entry (node s) j
  turns_table zero j s = refl
  turns_table (suc n) j s = only_table (only n (turns step n s)) j ∙ turns_table n j s

  -- an end point whose turn has not come
  pub turns_later : (n j : ℕ) (s : S) → n ≤ j → end_of (node (turns step n s)) j ≡ end_of (node s) j
  turns_later zero j s h = refl
  turns_later (suc n) j s h = only_end (only n (turns step n s)) j (λ e. omega arith) ∙ turns_later n j s (omega arith)

  last_turn : (n j : ℕ) (s : S) → j < suc n → Dec (n ≤ j)
      → (j < n → end_of (node (turns step n s)) j ≡ end_of (node (step j (turns step j s))) j)
      → end_of (node (turns step (suc n) s)) j ≡ end_of (node (step j (turns step j s))) j
  last_turn n j s h (yes l) f = let e : n ≡ j = omega arith in rw e
  last_turn n j s h (no l) f = only_end (only n (turns step n s)) j (λ e. omega arith) ∙ f (omega arith)

  -- one whose turn has come is as that turn left it
  pub turns_own : (n j : ℕ) (s : S) → j < n → end_of (node (turns step n s)) j ≡ end_of (node (step j (turns step j s))) j
  turns_own zero j s h = absurd (omega arith)
  turns_own (suc n) j s h = last_turn n j s h (dec_le n j) (λ l. turns_own n j s l)

-- ---- the two passes of a tick

tick_turns : (c n : ℕ) (y : Scanned) → tick_entries c n y ≡ turns (tick_entry c) n y
unfolding tick_entries
tick_turns c zero y = refl
tick_turns c (suc n) y = ap (tick_entry c n) (tick_turns c n y)

recover_turns : (n : ℕ) (r : Recovered) → recover_all n r ≡ turns recover n r
unfolding recover_all
recover_turns zero r = refl
recover_turns (suc n) r = ap (recover n) (recover_turns n r)

abbrev node_of : Scanned → List ℕ
node_of y = y.lent.node

abbrev lent_node : Recovered → List ℕ
lent_node r = r.lent.node

abbrev pub begun : Lent → Scanned
begun x = record { lent = x; least = 65535 }

-- all timers have ticked
abbrev pub timed : ℕ → Lent → Recovered
timed c x = record { lent = (scanned c x).lent; bits = 0 }

after_turns : (c : ℕ) (x : Lent) → (scan_both c x).lent.node ≡ lent_node (turns recover (entries x) (timed c x))
unfolding scan_both
after_turns c x = ap lent_node (recover_turns (entries x) (timed c x))

-- the head and the waiting acknowledgements stay, and what the table says
pub scan_head : (c : ℕ) (x : Lent) (k : ℕ) → k < 64 → get_or (scan_both c x).lent.node k 0 ≡ get_or x.node k 0
scan_head c x k h =
    ap (λ (l : List ℕ). get_or l k 0) (after_turns c x)
    ∙ turns_head Recovered lent_node recover recover_only (entries x) (timed c x) k h
    ∙ ap (λ (y : Scanned). get_or y.lent.node k 0) (tick_turns c (entries x) (begun x))
    ∙ turns_head Scanned node_of (tick_entry c) (tick_only c) (entries x) (begun x) k h

pub scan_long : (c : ℕ) (x : Lent) → length (scan_both c x).lent.node ≡ length x.node
scan_long c x =
    ap length (after_turns c x)
    ∙ turns_long Recovered lent_node recover recover_only (entries x) (timed c x)
    ∙ ap (λ (y : Scanned). length y.lent.node) (tick_turns c (entries x) (begun x))
    ∙ turns_long Scanned node_of (tick_entry c) (tick_only c) (entries x) (begun x)

pub scan_table : (c : ℕ) (x : Lent) (j : ℕ) → load_entry (scan_both c x).lent.node j ≡ load_entry x.node j
scan_table c x j =
    ap (λ (l : List ℕ). load_entry l j) (after_turns c x)
    ∙ turns_table Recovered lent_node recover recover_only (entries x) j (timed c x)
    ∙ ap (λ (y : Scanned). load_entry y.lent.node j) (tick_turns c (entries x) (begun x))
    ∙ turns_table Scanned node_of (tick_entry c) (tick_only c) (entries x) j (begun x)

-- an end point past the last entry stays
pub scan_later : (c : ℕ) (x : Lent) (j : ℕ) → entries x ≤ j → end_of (scan_both c x).lent.node j ≡ end_of x.node j
scan_later c x j h =
    ap (λ (l : List ℕ). end_of l j) (after_turns c x)
    ∙ turns_later Recovered lent_node recover recover_only (entries x) j (timed c x) h
    ∙ ap (λ (y : Scanned). end_of y.lent.node j) (tick_turns c (entries x) (begun x))
    ∙ turns_later Scanned node_of (tick_entry c) (tick_only c) (entries x) j (begun x) h

-- what an entry's timers find of its end point is what the tick found
pub tick_finds : (c : ℕ) (x : Lent) (j : ℕ) → end_of (tick_entries c j (begun x)).lent.node j ≡ end_of x.node j
tick_finds c x j = rw (tick_turns c j (begun x)) (turns_later Scanned node_of (tick_entry c) (tick_only c) j j (begun x) (omega arith))

-- what its recovery finds is what its timers left
pub recover_finds : (c : ℕ) (x : Lent) (j : ℕ) → j < entries x
    → end_of (recover_all j (timed c x)).lent.node j ≡ end_of (tick_entry c j (tick_entries c j (begun x))).lent.node j
recover_finds c x j h =
    ap (λ (r : Recovered). end_of (lent_node r) j) (recover_turns j (timed c x))
    ∙ turns_later Recovered lent_node recover recover_only j j (timed c x) (omega arith)
    ∙ ap (λ (y : Scanned). end_of y.lent.node j) (tick_turns c (entries x) (begun x))
    ∙ turns_own Scanned node_of (tick_entry c) (tick_only c) (entries x) j (begun x) h
    ∙ ap (λ (y : Scanned). end_of (tick_entry c j y).lent.node j) (sym (tick_turns c j (begun x)))

-- and the tick leaves what its recovery left
pub scan_own : (c : ℕ) (x : Lent) (j : ℕ) → j < entries x → end_of (scan_both c x).lent.node j ≡ end_of (recover j (recover_all j (timed c x))).lent.node j
scan_own c x j h =
    ap (λ (l : List ℕ). end_of l j) (after_turns c x)
    ∙ turns_own Recovered lent_node recover recover_only (entries x) j (timed c x) h
    ∙ ap (λ (r : Recovered). end_of (lent_node (recover j r)) j) (sym (recover_turns j (timed c x)))

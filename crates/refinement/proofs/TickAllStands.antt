-- A tick is the machine's: every entry in table order, then every end that is over and has no frame of its own under
-- way; and where no timer can run out, the clock alone moves, as every timer of the machine falls. Assumes nothing.
use Prim.Native.Nat.{ℕ, zero, suc, ◌+◌, ◌-◌, ◌^◌, min, ◌≤◌, ◌<◌}
use mathlib.Core.Path.{◌≡◌, refl, sym, ap, subst, ◌∙◌, fun_ext}
use mathlib.Core.Logic.{◌≢◌}
use mathlib.Core.Bool.{Bool, true, false, not, ◌&&◌, true≢false, and-false}
use mathlib.Core.Option.{Option, none, some}
use mathlib.Core.List.{List, [], ◌∷◌, ◌++◌, map}
use native.Mathlib.Decide.{dec_lt, ℕ_discrete}
use native.Mathlib.Omega.{arith}
use lib.ListN.{length}
use lib.Dec.{eqb, ltb}
use borrow.Author.Tests.{eq-eqb, ne_eqb, lt-ltb, le-ltb}
use Rattle.std.proofs.lemmas.Bool.{and_parts}
use Rattle.units.specs.Refusals.{pick}
use Rattle.memory.specs.Layout as layout
use Rattle.memory.specs.Layout.{reset_id}
use Rattle.waiting.specs.Queues.{appended}
use Rattle.waiting.specs.Port.{under_in, out_entry, is_own, no_number, data_out}
use Rattle.table.specs.Layout.{count_of}
use Rattle.table.specs.Areas.{store_of}
use Rattle.end_points.specs.Ends.{end_of, saved}
use Rattle.end_points.specs.Heads.{count_in}
use Rattle.end_points.specs.Runs as runs
use Rattle.end_points.specs.States.{is_sends, is_over}
use Rattle.end_points.specs.Lent.{Lent}
use Rattle.end_points.specs.declared.State.{State}
use Rattle.end_points.specs.declared.State.TheVariants.{Closed, Enabled, Open, Failing}
use Rattle.end_points.specs.declared.EndPoint.{EndPoint}
use Rattle.timing.specs.Timing.{clock_in, quiet_in, later, left_of, passed}
use Rattle.timing.proofs.Falling.{later_next, left_zero}
use Rattle.call_tick.specs.Ticking as memory
use Rattle.call_tick.specs.Ticking.{Scanned, Recovered, recover, recover_all, tick_entry, tick_entries, scan_both, scan_after, still_after, tick_both, tick_after, tick_answer}
use Rattle.good.specs.Good.{Lists, Silent, Stated, Good}
use Rattle.good.specs.Calls.{Memory, bare, kept_bare, answer, after}
use Rattle.machine.specs.Calls.{ticks}
use Rattle.good.proofs.Lined.{added}
use Rattle.good.proofs.Framing.{same_under, Within, apart_saved, count_low}
use Rattle.good.proofs.Porting.{none_idle, other_idle}
use Rattle.good.proofs.Turns.{turned_to, end_saved, run_fits, anew_fits, anew_size, saved_acks, sender_turn}
use Rattle.good.proofs.Senders.{reset_within, reset_under, reset_silent, enabled_sender}
use Rattle.good.proofs.Clocked.{Clocked, pass_clocked, pass_clock, clocked_end, clocked_acks}
use Rattle.good.proofs.Timely.{passes_over}
use Rattle.good.proofs.TickKeeps as keeps
use Rattle.good.proofs.TickKeeps.{Pass, Round, rounds, TickKept, tick_keeps}
use Rattle.good.proofs.Payloads.{unaltered}
use Rattle.machine.specs.Machine.{End, Item, Sort, acks, resets, urgents, resends, datas, Machine, listed, anew, enabled, answers, at, ticked, each, recovered}
use Rattle.machine.specs.Machine.{Out, is_of, may_recover, bits_from, ticking, step, node}
use Rattle.refinement.specs.Standing.{Reading, end_for, end_at, under_for, slot_item, plain_item, ack_item, waiting_for, stands_for, Stands, Follows}
use Rattle.machine.proofs.Listed.{length_listed, listed_ext, elem_listed}
use Rattle.refinement.proofs.Elsewhere.{Leaves}
use Rattle.refinement.proofs.Readings.{Readings, end_with, stands_with, StandsWith, still_with, turned_with}
use Rattle.refinement.proofs.Waiting.{items_stay, lists_are, waits_reset}
use Rattle.refinement.proofs.Following.{state_in, low_at, stated_at, enabled_end}
use Rattle.refinement.proofs.Numbers.{running_is}
use Rattle.refinement.proofs.TickStands.{entry_ticks}
use Rattle.refinement.proofs.TickQuiet.{entry_passes}
use Rattle.end_points.proofs.Telling.{is_over_holds}

abbrev tick_one : ℕ → End → Machine → Machine
tick_one i e m = ticked m i e e.state

-- the bits that a tick answers, once all entries' timers have ticked
abbrev bits_of : Machine → ℕ
bits_of m = bits_from m.under 0 m.ends

-- ---- the first k entries are read by tick c', the others by tick c

abbrev upto : ℕ → ℕ → ℕ → Readings
upto c c' k j = pick (ltb j k) (left_of c') (left_of c)

module _ (c c' k : ℕ) where
  upto_here : upto c c' k k ≡ left_of c
  upto_here = rw (le-ltb k k (omega arith))

  upto_next : upto c c' (suc k) k ≡ left_of c'
  upto_next = rw (lt-ltb k (suc k) (omega arith))

  upto_other : (j : ℕ) → j ≢ k → upto c c' (suc k) j ≡ upto c c' k j
  upto_other j d = sides (dec_lt j k)
    where
      sides : Dec (j < k) → upto c c' (suc k) j ≡ upto c c' k j
      sides (yes h) = rw (lt-ltb j (suc k) (omega arith), lt-ltb j k h)
      sides (no h) = rw (le-ltb j (suc k) (omega (arith, d, h)), le-ltb j k (omega arith))

-- read in another way that says the same
read_with : (R R' : Readings) {t : List ℕ} {n : Memory} {m : Machine} → StandsWith R t n m → ((j : ℕ) → j < count_of t → R' j ≡ R j)
    → StandsWith R' t n m
read_with R R' {t} {n} S same =
    subst (StandsWith R' t n) S.is
    (still_with R S.good S.room (λ j h. ap (λ (L : Reading). end_for L n.store n.book j (end_of n.node j)) (same j h)))

-- ---- every entry, in table order

module _ (t : List ℕ) (f : ℕ → End → Machine → Machine) (n : ℕ → Memory) (R : ℕ → Readings) (m : Machine) (N : ℕ) (most : N ≤ count_of t) where
  -- a step on entry k, on what stands for a machine after those before it
  abbrev Steps : Type 0
  Steps =
      (k : ℕ) → k < N → (l : Lists) → Good t (n k).node (n k).book l → store_of t ≤ length (n k).store
      → StandsWith (R (suc k)) t (n (suc k)) (f k (end_with (R k) (n k) k) (stands_with (R k) t (n k) l))

  each_stands : StandsWith (R 0) t (n 0) m → Steps → (k : ℕ) → k ≤ N → StandsWith (R k) t (n k) (each k f m)
  unfolding each
  each_stands base steps zero h = base
  each_stands base steps (suc k) h = further (each_stands base steps k (omega arith))
    where
      further : StandsWith (R k) t (n k) (each k f m) → StandsWith (R (suc k)) t (n (suc k)) (at (each k f m) k (each k f m) (λ e. f k e (each k f m)))
      further S =
          subst (λ (m : Machine). StandsWith (R (suc k)) t (n (suc k)) (at m k m (λ e. f k e m))) S.is
          (rw (elem_listed (count_of t) (end_with (R k) (n k)) k (omega arith)) (steps k (omega arith) S.lists S.good S.room))

bare_is : (n : Memory) (y : Lent) → y.store ≡ [] → y.out ≡ [] → bare (kept_bare n y) ≡ y
bare_is n y s o = rw (s, o)

module _ (t : List ℕ) (n : Memory) (l : Lists) (g : Good t n.node n.book l) (room : store_of t ≤ length n.store) where
  abbrev c : ℕ
  c = clock_in n.node

  abbrev now : ℕ
  now = later c 1

  none_yet : StandsWith (upto c now 0) t n (stands_for t n l)
  none_yet =
      still_with (λ j. left_of c) g room
      (λ j h. ap (λ (L : Reading). end_for L n.store n.book j (end_of n.node j)) (ap (λ (b : Bool). pick b (left_of now) (left_of c)) (le-ltb j 0 (omega arith))))

  all_read : {m : Machine} {n' : Memory} (k : ℕ) → count_of t ≤ k → StandsWith (upto c now k) t n' m → StandsWith (λ j. left_of now) t n' m
  all_read k h S = read_with (upto c now k) (λ j. left_of now) S (λ j lj. sym (ap (λ (b : Bool). pick b (left_of now) (left_of c)) (lt-ltb j k (omega arith))))

  -- where a timer can run out
  abbrev scan : ℕ → Scanned
  scan k = tick_entries now k (record { lent = bare n; least = 65535 })

  entries : quiet_in n.node ≡ 0 → (k : ℕ) → k ≤ count_in n.node → StandsWith (upto c now k) t (kept_bare n (scan k).lent) (each k tick_one (stands_for t n l))
  unfolding tick_entries
  entries idle =
      each_stands t tick_one (λ k. kept_bare n (scan k).lent) (upto c now) (stands_for t n l) (count_in n.node)
      (omega (arith, g.tabled.count)) none_yet
      (λ k h l' g' room'.
      let y = scan k in
      let P = keeps.passed t now (bare n) l g idle k (omega arith) in
      subst (λ (z : Lent). StandsWith (upto c now (suc k)) t (kept_bare n (tick_entry now k (record { lent = z; least = y.least })).lent)
      (tick_one k (end_with (upto c now k) (kept_bare n y.lent) k) (stands_with (upto c now k) t (kept_bare n y.lent) l'))) (bare_is n y.lent P.store P.out)
      (entry_ticks t (kept_bare n y.lent) l' g' room' P.idle k (let c = P.count in omega arith) c (omega arith) y.least
      (upto c now k) (upto c now (suc k)) (upto_here c now k) (upto_next c now k) (upto_other c now k)))

  -- where none can
  passing : quiet_in n.node ≢ 0 → (k : ℕ) → k ≤ count_in n.node → StandsWith (upto c now k) t n (each k tick_one (stands_for t n l))
  passing bound =
      each_stands t tick_one (λ k. n) (upto c now) (stands_for t n l) (count_in n.node) (omega (arith, g.tabled.count)) none_yet
      (λ k h l' g' room'. entry_passes t n l' g' room' bound k h (upto c now k) (upto c now (suc k)) (upto_here c now k) (upto_next c now k) (upto_other c now k))

-- ---- an end that is over becomes Enabled

-- the frame under way is entry i's own, in the machine as in the book
of_own : (b : List ℕ) (i : ℕ) → is_of i (under_for (under_in b)) ≡ is_own b i
of_own b i = sides (eqb (under_in b) 0) _
  where
    sides : (z : Bool) (f : Out) → is_of i (pick z none (some f)) ≡ (not z && eqb f.1.entry i)
    sides true f = refl
    sides false f = refl

-- where it is not, none of its numbers is under way
none_own : (b : List ℕ) (i : ℕ) → i < 16 → is_own b i ≡ false → data_out b i ≡ no_number
none_own b i low own = sides (ℕ_discrete (under_in b) 0)
  where
    other : under_in b ≢ 0 → i ≢ out_entry (under_in b)
    other d e = true≢false (sym (rw (ne_eqb (under_in b) 0 d, eq-eqb (out_entry (under_in b)) i (sym e))) ∙ own)

    sides : Dec (under_in b ≡ 0) → data_out b i ≡ no_number
    sides (yes z) = (none_idle b i z).data!
    sides (no d) = (other_idle b (out_entry (under_in b)) i low (other d) refl).data!

-- so an end recovers in the machine where it does in the memory: its timers that run are then all that the book counts
module _ {t ws b : List ℕ} {l : Lists} (g : Good t ws b l) {i : ℕ} (li : i < count_in ws) (c : ℕ) (st : List ℕ) where
  abbrev its : EndPoint
  its = end_of ws i

  abbrev E : End
  E = end_for (left_of c) st b i its

  over_in : data_out b i ≡ no_number → (s : State) (k : Bool) → Stated b l i its k s
      → is_over (state_in (left_of c) st b i its s) ≡ is_over s
  over_in free Closed k S = refl
  over_in free (Enabled d sent) k S = refl
  over_in free Open k S = refl
  over_in free (Failing m) true S =
      ap (λ (x : ℕ). eqb x 0) (running_is (left_of c) (left_zero c) st b i its free its.run.taken S.sending.handed ∙ sym S.timers)
  over_in free (Failing m) false S = absurd S

  over_reads : is_own b i ≡ false → is_over E.state ≡ is_over its.state
  unfolding end_for
  over_reads own = over_in (none_own b i (low_at g li) own) its.state (is_sends its.entry.kind) (g.entered i li).stated

  may_reads : may_recover (under_for (under_in b)) i E ≡ (is_over its.state && not (is_own b i))
  may_reads = ap (λ (o : Bool). is_over E.state && not o) (of_own b i) ∙ sides (is_own b i) refl
    where
      sides : (o : Bool) → is_own b i ≡ o → (is_over E.state && not o) ≡ (is_over its.state && not o)
      sides true h = and-false (is_over E.state) ∙ sym (and-false (is_over its.state))
      sides false h = ap (λ (z : Bool). z && true) (over_reads h)

module _ (t : List ℕ) (n : Memory) (l : Lists) (g : Good t n.node n.book l) (room : store_of t ≤ length n.store)
    (c : ℕ) (i : ℕ) (li : i < count_in n.node) where
  abbrev e : EndPoint
  e = end_of n.node i

  abbrev R : Readings
  R = λ j. left_of c

  low : i < 16
  low = low_at g li

  module _ (q : e.state ≡ Failing 0) where
    kind : is_sends e.entry.kind ≡ true
    kind = sides (is_sends e.entry.kind) refl
      where
        sides : (k : Bool) → is_sends e.entry.kind ≡ k → k ≡ true
        sides true h = refl
        sides false h = absurd (stated_at g li false h (Failing 0) q)

    quiet : Silent l i []
    quiet = (stated_at g li true kind (Failing 0) q).silent

    abbrev words : List ℕ
    words = saved n.node i (Enabled 0 false) (runs.anew e.run)

    abbrev book : List ℕ
    book = appended n.book layout.resets (reset_id i)

    abbrev l' : Lists
    l' = added l layout.resets (reset_id i)

    abbrev then : Memory
    then = record { node = words; book = book; store = n.store }

    v : Within i n.book book l l'
    v = reset_within n.book l g.lines i low quiet

    left : Leaves t n then l i
    left =
        record {
          lists = l';
          good = sender_turn t n.node n.book l g i li kind (Enabled 0 false) (runs.anew e.run) (omega arith)
              (anew_fits e.run (run_fits n.node i)) (anew_size e.run) book l' v
              (enabled_sender book l' i e kind (g.entered i li).window (reset_silent n.book l g.lines i low quiet)) (λ o runs. absurd (runs refl));
          apart = apart_saved i n.node (Enabled 0 false) (runs.anew e.run);
          within = v;
          stored = unaltered refl;
          under = reset_under n.book l g.lines i low quiet;
        }

    end : end_of words i ≡ turned_to e (Enabled 0 false) (runs.anew e.run)
    end =
        end_saved n.node i (Enabled 0 false) (runs.anew e.run) g.long low (omega arith) (anew_fits e.run (run_fits n.node i))
        (anew_size e.run)

    here : end_with R then i ≡ anew (Enabled 0 false) (end_with R n i)
    here = ap (end_for (left_of c) n.store book i) end ∙ enabled_end (left_of c) refl (left_of c) n.store book n.store n.book i e false

    over_stands : StandsWith R t then (enabled i (end_with R n i) (stands_with R t n l))
    unfolding enabled end_for
    over_stands =
        rw kind
        (turned_with g room li (λ j d. refl) left here
        (waits_reset left g.lines low quiet (saved_acks n.node i (Enabled 0 false) (runs.anew e.run)).1 refl))

  -- or stays as it is
  recover_stands : (bits : ℕ)
      → StandsWith R t (kept_bare n (recover i (record { lent = bare n; bits = bits })).lent) (recovered i (end_with R n i) (stands_with R t n l))
  unfolding recover
  recover_stands bits = rw (may_reads g li c n.store) (sides (is_over e.state && not (is_own n.book i)) refl)
    where
      sides : (z : Bool) → (is_over e.state && not (is_own n.book i)) ≡ z
          → StandsWith R t (kept_bare n
          (pick z (memory.again i (record { lent = bare n; bits = bits }))
          (record { lent = bare n; bits = bits })).lent) (pick z (enabled i (end_with R n i) (stands_with R t n l)) (stands_with R t n l))
      sides true z = over_stands (is_over_holds e.state (and_parts (is_over e.state) (not (is_own n.book i)) z).0)
      sides false z = still_with R g room (λ j h. refl)

-- ---- every end that is over

module _ (t : List ℕ) (n : Memory) (l : Lists) (g : Good t n.node n.book l) (room : store_of t ≤ length n.store) (c : ℕ) where
  abbrev by : Readings
  by = λ j. left_of c

  abbrev start : Recovered
  start = record { lent = bare n; bits = 0 }

  abbrev from : ℕ → Recovered
  from k = recover_all k start

  round : (k : ℕ) → k ≤ count_in n.node → Round t start (from k) k
  round k h = rounds t start l g refl k h

  recovers : (k : ℕ) → k ≤ count_in n.node → StandsWith by t (kept_bare n (from k).lent) (each k recovered (stands_with by t n l))
  unfolding recover_all
  recovers =
      each_stands t recovered (λ k. kept_bare n (from k).lent) (λ k. by) (stands_with by t n l) (count_in n.node)
      (omega (arith, g.tabled.count)) (still_with by g room (λ j h. refl))
      (λ k h l' g' room'.
      let r = from k in
      let P = round k (omega arith) in
      subst (λ (z : Lent). StandsWith by t (kept_bare n (recover k (record { lent = z; bits = r.bits })).lent)
      (recovered k (end_with by (kept_bare n r.lent) k) (stands_with by t (kept_bare n r.lent) l'))) (bare_is n r.lent P.store P.out)
      (recover_stands t (kept_bare n r.lent) l' g' room' c k (let c = P.count in omega arith) r.bits))

  -- none recovers
  abbrev Stay : Type 0
  Stay = (j : ℕ) → j < count_in n.node → (is_over (end_of n.node j).state && not (is_own n.book j)) ≡ false

  none_over : Stay → (k : ℕ) → k ≤ count_in n.node → StandsWith by t n (each k recovered (stands_with by t n l))
  none_over stay =
      each_stands t recovered (λ k. n) (λ k. by) (stands_with by t n l) (count_in n.node)
      (omega (arith, g.tabled.count)) (still_with by g room (λ j h. refl))
      (λ k h l' g' room'. rw (may_reads g' h c n.store, stay k h) (still_with by g' room' (λ j h. refl)))

  -- the bits
  abbrev u : Option Out
  u = under_for (under_in n.book)

  bits_snoc : (i : ℕ) (xs : List End) (x : End)
      → bits_from u i (xs ++ (x ∷ [])) ≡ bits_from u i xs + pick (may_recover u (i + length xs) x) (2 ^ (i + length xs)) 0
  unfolding bits_from
  bits_snoc i [] x = let z : i + 0 ≡ i = omega arith in rw z (omega arith)
  bits_snoc i (y ∷ ys) x =
      let z : suc i + length ys ≡ i + suc (length ys) = omega arith in
      rw (bits_snoc (suc i) ys x, z) (omega arith)

  -- one more of the entries
  bits_more : (k : ℕ) → k < count_in n.node → bits_from u 0 (listed (suc k) (end_with by n))
      ≡ bits_from u 0 (listed k (end_with by n)) + pick (is_over (end_of n.node k).state && not (is_own n.book k)) (2 ^ k) 0
  unfolding listed
  bits_more k h =
      let z : 0 + k ≡ k = omega arith in
      bits_snoc 0 (listed k (end_with by n)) (end_with by n k) ∙ rw (length_listed k (end_with by n), z, may_reads g h c n.store)

  bits_are : (k : ℕ) → k ≤ count_in n.node → (from k).bits ≡ bits_from u 0 (listed k (end_with by n))
  unfolding recover_all recover bits_from listed
  bits_are zero h = refl
  bits_are (suc k) h =
      let P = round k (omega arith) in
      ap (λ (e : EndPoint). (pick (is_over e.state && not (is_own (from k).lent.book k)) (memory.again k (from k)) (from k)).bits)
      (P.later k (omega arith))
      ∙ ap (λ (o : Bool). (pick (is_over (end_of n.node k).state && not o) (memory.again k (from k)) (from k)).bits)
      (same_under k n.book (from k).lent.book P.under).own
      ∙ sides (is_over (end_of n.node k).state && not (is_own n.book k)) (bits_are k (omega arith))
      ∙ sym (bits_more k h)
    where
      sides : (z : Bool) → (from k).bits ≡ bits_from u 0 (listed k (end_with by n))
          → (pick z (memory.again k (from k)) (from k)).bits ≡ bits_from u 0 (listed k (end_with by n)) + pick z (2 ^ k) 0
      sides true below = rw below
      sides false below = omega arith

  no_bits : Stay → (k : ℕ) → k ≤ count_in n.node → bits_from u 0 (listed k (end_with by n)) ≡ 0
  unfolding bits_from listed
  no_bits stay zero h = refl
  no_bits stay (suc k) h = bits_more k h ∙ rw (stay k h, no_bits stay k (omega arith))

-- ---- the clock's words

-- read by tick c, with the clock at tick c
clocked_stands : {t : List ℕ} (n : Memory) {m : Machine} (ws : List ℕ) (c : ℕ) → Clocked n.node ws → clock_in ws ≡ c
    → StandsWith (λ j. left_of c) t n m → {l : Lists} → Good t ws n.book l → Stands t (record { node = ws; book = n.book; store = n.store }) m
unfolding waiting_for
clocked_stands {t} n {m} ws c k clock S {l} g =
    record {
      lists = l;
      good = g;
      room = S.room;
      is =
          ap (λ (es : List End). node (stands_for t now l) es (waiting_for ws l)) (listed_ext (count_of t) (end_at now) (end_with (λ j. left_of c) n) (λ j h. ends j))
          ∙ ap (λ (w : Sort → List Item). node (stands_for t now l) (listed (count_of t) (end_with (λ j. left_of c) n)) w) (fun_ext waits) ∙ S.is;
    }
  where
    now : Memory
    now = record { node = ws; book = n.book; store = n.store }

    ends : (j : ℕ) → end_at now j ≡ end_with (λ j. left_of c) n j
    ends j =
        ap (λ (c : ℕ). end_for (left_of c) n.store n.book j (end_of ws j)) clock
        ∙ ap (end_for (left_of c) n.store n.book j) (clocked_end n.node ws k j)

    same : (q : ℕ) → q < 4 → l q ≡ S.lists q
    same = lists_are refl g.lines S.good.lines

    slotted : (q : ℕ) → q < 4 → map (slot_item ws) (l q) ≡ map (slot_item n.node) (S.lists q)
    slotted q h =
        ap (map (slot_item ws)) (same q h)
        ∙ items_stay n.node ws (S.lists q) (λ x m. ap (λ (e : EndPoint). e.run.window) (clocked_end n.node ws k _))

    waits : (q : Sort) → waiting_for ws l q ≡ waiting_for n.node S.lists q
    waits acks = ap (map ack_item) (clocked_acks n.node ws k)
    waits resets = ap (map plain_item) (same 0 (omega arith))
    waits urgents = ap (map plain_item) (same 1 (omega arith))
    waits resends = slotted 2 (omega arith)
    waits datas = slotted 3 (omega arith)

-- ---- the call

module _ (t : List ℕ) (n : Memory) (l : Lists) (g : Good t n.node n.book l) (room : store_of t ≤ length n.store) where
  abbrev N : ℕ
  N = count_in n.node

  abbrev C : ℕ
  C = later (clock_in n.node) 1

  abbrev read : Readings
  read = λ j. left_of C

  abbrev M₀ : Machine
  M₀ = stands_for t n l

  small : C ≤ 65535
  small = later_next (clock_in n.node) (omega arith)

  few : min N 16 ≡ N
  few = let c = count_low t n.node n.book l g in omega arith

  long : length M₀.ends ≡ N
  long = length_listed (count_of t) (end_at n) ∙ sym g.tabled.count

  K : TickKept t (bare n) (tick_after (bare n)) (tick_answer (bare n))
  K = tick_keeps t (bare n) l g

  step_is : step M₀ ticks ≡ answers (bits_of (each N tick_one M₀) ∷ []) [] (each N recovered (each N tick_one M₀))
  unfolding step ticking
  step_is = ap (λ (k : ℕ). answers (bits_of (each k tick_one M₀) ∷ []) [] (each k recovered (each k tick_one M₀))) long

  -- in short: the bits, and what is left
  goes : tick_answer (bare n) ≡ bits_of (each N tick_one M₀) → Stands t (kept_bare n (tick_after (bare n))) (each N recovered (each N tick_one M₀))
      → Follows t n M₀ ticks
  unfolding answer after
  goes bits S = record { answers = rw (step_is, bits); stands = rw step_is S }

  -- from the memory n₁, whose words then are ws
  stands_then : (n₁ : Memory) (q : ℕ) {m : Machine} → length n₁.node ≡ layout.node_words → n₁.store ≡ n.store
      → (tick_after (bare n)).node ≡ passed n₁.node C q → (tick_after (bare n)).book ≡ n₁.book → StandsWith read t n₁ m
      → Stands t (kept_bare n (tick_after (bare n))) m
  stands_then n₁ q {m} words store w b S =
      let g' : Good t (passed n₁.node C q) n₁.book K.lists =
      subst (λ (b : List ℕ). Good t (passed n₁.node C q) b K.lists) b
      (subst (λ (ws : List ℕ). Good t ws (tick_after (bare n)).book K.lists) w K.good) in
      rw (w, b, ← store) (clocked_stands n₁ (passed n₁.node C q) C (pass_clocked n₁.node C q) (pass_clock n₁.node C q words small) S g')

  -- where a timer can run out
  module _ (idle : quiet_in n.node ≡ 0) where
    abbrev y : Lent
    y = (tick_entries C N (record { lent = bare n; least = 65535 })).lent

    abbrev n₁ : Memory
    n₁ = kept_bare n y

    P : Pass t C (bare n) (tick_entries C N (record { lent = bare n; least = 65535 })) N
    P = keeps.passed t C (bare n) l g idle N (omega arith)

    S₁ : StandsWith read t n₁ (each N tick_one M₀)
    S₁ = all_read t n l g room N (omega (arith, g.tabled.count)) (entries t n l g room idle N (omega arith))

    abbrev last : Recovered
    last = recover_all N (record { lent = bare n₁; bits = 0 })

    scan_is : scan_both C (bare n) ≡ last
    unfolding scan_both
    scan_is = rw (few, bare_is n y P.store P.out)

    both_is : tick_both (bare n) ≡ scan_after C (bare n)
    unfolding tick_both
    both_is = rw idle

    within_count : N ≤ count_in n₁.node
    within_count = let c = P.count in omega arith

    S₂ : StandsWith read t (kept_bare n last.lent) (each N recovered (each N tick_one M₀))
    S₂ =
        subst (λ (m : Machine). StandsWith read t (kept_bare n last.lent) (each N recovered m)) S₁.is
        (recovers t n₁ S₁.lists S₁.good S₁.room C N within_count)

    bits_is : tick_answer (bare n) ≡ bits_of (each N tick_one M₀)
    unfolding tick_answer scan_after
    bits_is =
        ap (λ (r : Recovered). r.bits) both_is ∙ ap (λ (r : Recovered). r.bits) scan_is
        ∙ bits_are t n₁ S₁.lists S₁.good S₁.room C N within_count
        ∙ ap (λ (k : ℕ). bits_from (under_for (under_in n₁.book)) 0 (listed k (end_with read n₁))) g.tabled.count ∙ ap bits_of S₁.is

    abbrev q : ℕ
    q = (memory.scanned C (bare n)).least - 1

    words_are : (tick_after (bare n)).node ≡ passed last.lent.node C q
    unfolding tick_after scan_after
    words_are = ap (λ (r : Recovered). r.lent.node) both_is ∙ ap (λ (r : Recovered). passed r.lent.node C q) scan_is

    book_is : (tick_after (bare n)).book ≡ last.lent.book
    unfolding tick_after scan_after
    book_is = ap (λ (r : Recovered). r.lent.book) both_is ∙ ap (λ (r : Recovered). r.lent.book) scan_is

    scan_follows : Follows t n M₀ ticks
    scan_follows = goes bits_is (stands_then (kept_bare n last.lent) q S₂.good.long refl words_are book_is S₂)

  -- where none can
  module _ (bound : quiet_in n.node ≢ 0) where
    still_is : tick_both (bare n) ≡ still_after C (bare n)
    unfolding tick_both
    still_is = rw (ne_eqb (quiet_in n.node) 0 bound)

    stay : (j : ℕ) → j < N → (is_over (end_of n.node j).state && not (is_own n.book j)) ≡ false
    stay j h = passes_over (clock_in n.node) (quiet_in n.node) (omega arith) bound n.book j (end_of n.node j) (end_of n.node j).state (g.timely j h)

    Q₁ : StandsWith read t n (each N tick_one M₀)
    Q₁ = all_read t n l g room N (omega (arith, g.tabled.count)) (passing t n l g room bound N (omega arith))

    Q₂ : StandsWith read t n (each N recovered (each N tick_one M₀))
    Q₂ =
        subst (λ (m : Machine). StandsWith read t n (each N recovered m)) Q₁.is
        (none_over t n Q₁.lists Q₁.good Q₁.room C stay N (omega arith))

    zero_bits : tick_answer (bare n) ≡ bits_of (each N tick_one M₀)
    unfolding tick_answer
    zero_bits =
        ap (λ (r : Recovered). r.bits) still_is
        ∙ sym (no_bits t n Q₁.lists Q₁.good Q₁.room C stay N (omega arith))
        ∙ ap (λ (k : ℕ). bits_from (under_for (under_in n.book)) 0 (listed k (end_with read n))) g.tabled.count ∙ ap bits_of Q₁.is

    words_still : (tick_after (bare n)).node ≡ passed n.node C (quiet_in n.node - 1)
    unfolding tick_after
    words_still = ap (λ (r : Recovered). r.lent.node) still_is

    book_still : (tick_after (bare n)).book ≡ n.book
    unfolding tick_after
    book_still = ap (λ (r : Recovered). r.lent.book) still_is

    still_follows : Follows t n M₀ ticks
    still_follows = goes zero_bits (stands_then n (quiet_in n.node - 1) g.long refl words_still book_still Q₂)

  pub tick_follows : Follows t n M₀ ticks
  tick_follows = sides (ℕ_discrete (quiet_in n.node) 0)
    where
      sides : Dec (quiet_in n.node ≡ 0) → Follows t n M₀ ticks
      sides (yes z) = scan_follows z
      sides (no z) = still_follows z

-- The report of a frame's end is the machine's: the same timer starts, or none does. Assumes nothing.
use Prim.Native.Nat.{ℕ, ◌+◌, ◌/◌, ◌≤◌, ◌<◌}
use mathlib.Core.Path.{◌≡◌, refl, sym, ap, subst, ◌∙◌}
use mathlib.Core.Logic.{◌≢◌, ◌⊎◌, inl, inr}
use mathlib.Core.Bool.{Bool, true, false, not, ◌&&◌, true≢false, and-false}
use mathlib.Core.Option.{none}
use mathlib.Core.List.{List, [], ◌∷◌}
use native.Mathlib.Decide.{dec_lt, ℕ_discrete}
use native.Mathlib.Omega.{arith}
use lib.ListN.{length, set, length-set}
use lib.Seq.{get_or-set_same, get_or-set_other}
use lib.Dec.{eqb}
use borrow.Author.Tests.{eq-eqb, ne_eqb, lt-ltb}
use Rattle.units.specs.Refusals.{pick, Verdict}
use Rattle.units.specs.declared.refusals.Refusal.TheVariants.{NoneUnderWay}
use Rattle.memory.specs.Layout.{all_cells, under_at, book_halves, length_at, timer_at, retries_at, quiet_at}
use Rattle.waiting.specs.Port.{under_in, out_entry, out_number, is_data, is_reset, no_number, data_out, ended}
use Rattle.window.specs.Windows.{offset_of, held, Good as GoodWindow}
use Rattle.window.specs.declared.Window.{Window}
use Rattle.table.specs.Layout.{count_of}
use Rattle.table.specs.Areas.{store_of}
use Rattle.frame.specs.declared.FrameType.{FrameType}
use Rattle.frame.specs.declared.FrameType.TheVariants as type
use Rattle.end_points.specs.Ends.{end_of, saved}
use Rattle.end_points.specs.Heads.{count_in}
use Rattle.end_points.specs.States.{is_sends}
use Rattle.end_points.specs.Lent.{Lent}
use Rattle.end_points.specs.declared.State.{State}
use Rattle.end_points.specs.declared.State.TheVariants.{Closed, Enabled, Open, Failing}
use Rattle.end_points.specs.declared.EndPoint.{EndPoint}
use Rattle.end_points.specs.declared.Run.{Run}
use Rattle.slots.specs.Slots.{cell, past, timer_in, retries_in}
use Rattle.timing.specs.Timing.{clock_in, left_of, later, heeded, roused}
use Rattle.timing.proofs.Falling.{left_starts}
use Rattle.call_report.specs.Reporting.{report_answer, report_after, data_starts, started_node, started_book}
use Rattle.good.specs.Good.{Lists, Sending, Standing, EnabledSender, FailingSender, Stated, Good}
use Rattle.good.specs.Calls.{Memory, bare, kept_bare, answer, after}
use Rattle.machine.specs.Calls.{reports}
use Rattle.good.proofs.Framing.{cell_low}
use Rattle.good.proofs.Clocked.{clocked_set, clocked_end}
use Rattle.good.proofs.Porting.{Idle, none_idle, ended_under, port_cells}
use Rattle.good.proofs.Turns.{turned_to}
use Rattle.good.proofs.Senders.{Timed, sender_timeout, timeout_fits}
use Rattle.good.proofs.AckRuns.{Counts, counts_says}
use Rattle.good.proofs.ReportKeeps as keeps
use Rattle.good.proofs.ReportKeeps.{DataStarts, data_starts_holds, Ends, report_refused, report_goes, report_keeps}
use Rattle.good.proofs.Payloads.{unaltered}
use Rattle.machine.specs.Machine as machine
use Rattle.machine.specs.Machine.{End, Machine, listed, stated, numbered, number_at, data_timed, recounted, reset_timed, answers, done, port, turned}
use Rattle.machine.specs.Machine.{reported, reporting, step}
use Rattle.refinement.specs.Standing.{Reading, read_at, number_for, state_for, end_for, end_at, type_for, stands_for, Stands, Follows}
use Rattle.machine.proofs.Listed.{elem_listed, get_d_listed}
use Rattle.refinement.proofs.Readings.{zero_left}
use Rattle.refinement.proofs.Elsewhere.{timer_for, cells_read, still, ported_stands}
use Rattle.refinement.proofs.Waiting.{window_steady, waits_same}
use Rattle.refinement.proofs.Following.{state_in, low_at}
use Rattle.refinement.proofs.Numbers.{timer_unhanded, timer_under, timer_else, timed_end, counts_is}
use Rattle.std.specs.Prelude.{Ok, Err}

-- ---- what is under way, by its type

-- of entry i, which is its own
pub data Kind (u i : ℕ) : FrameType → Type 0 where
  of_data : is_data u i ≡ true → is_reset u i ≡ false → Kind u i type.Data
  of_reset : is_data u i ≡ false → is_reset u i ≡ true → Kind u i type.Reset
  of_ack : is_data u i ≡ false → is_reset u i ≡ false → Kind u i type.Acknowledge
  of_urgent : is_data u i ≡ false → is_reset u i ≡ false → Kind u i type.Urgent

pub kind_of : (u : ℕ) → 4096 ≤ u → u < 20480 → Kind u (out_entry u) (type_for u)
kind_of u least most = sides (ℕ_discrete (u / 4096) 1) (ℕ_discrete (u / 4096) 2) (ℕ_discrete (u / 4096) 3)
  where
    i : ℕ
    i = out_entry u

    data_not : u / 4096 ≢ 1 → is_data u i ≡ false
    data_not d = ne_eqb (u / 256) (16 + i) (λ z. d (omega (arith, z)))

    reset_not : u / 4096 ≢ 3 → is_reset u i ≡ false
    reset_not d = ne_eqb (u / 256) (48 + i) (λ z. d (omega (arith, z)))

    sides : Dec (u / 4096 ≡ 1) → Dec (u / 4096 ≡ 2) → Dec (u / 4096 ≡ 3) → Kind u i (type_for u)
    sides (yes a) b c =
        rw a (of_data (eq-eqb (u / 256) (16 + i) (omega (arith, a))) (reset_not (λ z. omega (arith, a, z))))
    sides (no a) (yes b) c =
        rw b (of_ack (data_not a) (reset_not (λ z. omega (arith, b, z))))
    sides (no a) (no b) (yes c) =
        rw c (of_reset (data_not a) (eq-eqb (u / 256) (48 + i) (omega (arith, c))))
    sides (no a) (no b) (no c) =
        let h : u / 4096 ≡ 4 = omega (arith, a, b, c, least, most) in
        rw h (of_urgent (data_not a) (reset_not c))

module _ (t : List ℕ) (n : Memory) (l : Lists) (g : Good t n.node n.book l) (room : store_of t ≤ length n.store)
    (some_under : under_in n.book ≢ 0) where
  abbrev M : Machine
  M = stands_for t n l

  abbrev L : Reading
  L = read_at n

  abbrev u : ℕ
  u = under_in n.book

  abbrev i : ℕ
  i = out_entry u

  abbrev s : ℕ
  s = out_number u

  abbrev e : EndPoint
  e = end_of n.node i

  abbrev w : Window
  w = e.run.window

  abbrev E : End
  E = end_at n i

  known : i < count_in n.node
  known = (g.under some_under).known

  low : i < 16
  low = low_at g known

  window : GoodWindow w
  window = (g.entered i known).window

  kind : Kind u i (type_for u)
  kind = kind_of u (g.under some_under).least (g.under some_under).most

  -- ---- what the machine makes of its end where nothing starts

  state_is : (z : State) → e.state ≡ z → E.state ≡ state_in L n.store n.book i e z
  unfolding end_for
  state_is z q = ap (state_in L n.store n.book i e) q

  same_count : (z : State) → e.state ≡ z → recounted E.state E ≡ E
  unfolding end_for
  same_count z q = subst (λ (y : State). recounted y E ≡ E) (sym (state_is z q)) (by z q)
    where
      by : (z : State) → e.state ≡ z → recounted (state_in L n.store n.book i e z) E ≡ E
      by Closed q = refl
      by (Enabled d sent) q = refl
      by Open q = refl
      by (Failing m) q = ap (λ (y : State). stated y E) (sym (state_is (Failing m) q))

  -- a Reset went out in this run of the entry
  abbrev Unsent : State → Type 0
  Unsent Closed = Unit {0}
  Unsent (Enabled d sent) = sent ≡ false
  Unsent Open = Unit {0}
  Unsent (Failing m) = Unit {0}

  no_reset : (z : State) → e.state ≡ z → Unsent z → reset_timed E.state E ≡ E
  no_reset z q h = subst (λ (y : State). reset_timed y E ≡ E) (sym (state_is z q)) (by z h)
    where
      by : (z : State) → Unsent z → reset_timed (state_in L n.store n.book i e z) E ≡ E
      by Closed h = refl
      by (Enabled d sent) h = rw h
      by Open h = refl
      by (Failing m) h = refl

  abbrev counts : Bool
  counts = (number_at E s).handed && not (number_at E s).acked

  machine_idle : (z : State) → e.state ≡ z → (is_data u i ≡ true → counts ≡ false) → (is_reset u i ≡ true → Unsent z)
      → machine.ended (type_for u) E s ≡ E
  machine_idle z q data! reset = by (type_for u) kind
    where
      by : (y : FrameType) → Kind u i y → machine.ended y E s ≡ E
      by type.Data (of_data d r) = rw (data! d) (same_count z q)
      by type.Reset (of_reset d r) = no_reset z q (reset r)
      by type.Acknowledge (of_ack d r) = refl
      by type.Urgent (of_urgent d r) = refl

  -- ---- what is read then, where nothing starts

  -- none of its numbers that was handed out stands
  abbrev Stopped : Type 0
  Stopped = (k : ℕ) → k < e.run.handed → past w k ≡ data_out n.book i → timer_in n.book (cell i w (past w k)) ≡ 0

  idle : Idle (ended n.book) i
  idle = none_idle (ended n.book) i (ended_under n.book l g.lines)

  idle_timers : Stopped → (k : ℕ) → timer_for L (ended n.book) i e.run k ≡ timer_for L n.book i e.run k
  idle_timers zeros k = sides (dec_lt k e.run.handed) (ℕ_discrete (past w k) (data_out n.book i))
    where
      then : k < e.run.handed → timer_for L (ended n.book) i e.run k ≡ L (timer_in n.book (cell i w (past w k)))
      then h =
          timer_else L (zero_left n) n.store (ended n.book) i e k h (λ z. let y : past w k ≡ no_number = z ∙ idle.data! in omega (arith, y))
          ∙ ap L (port_cells n.book 0 (timer_at (cell i w (past w k))) (omega arith))

      sides : Dec (k < e.run.handed) → Dec (past w k ≡ data_out n.book i)
          → timer_for L (ended n.book) i e.run k ≡ timer_for L n.book i e.run k
      sides (yes h) (yes o) = then h ∙ ap L (zeros k h o) ∙ sym (timer_under L (zero_left n) n.store n.book i e k o)
      sides (yes h) (no o) = then h ∙ sym (timer_else L (zero_left n) n.store n.book i e k h o)
      sides (no h) o =
          timer_unhanded L (zero_left n) n.store (ended n.book) i e k (omega arith)
          ∙ sym (timer_unhanded L (zero_left n) n.store n.book i e k (omega arith))

  -- in a state that the node may have put
  reads_as : Stopped → (z : State) → end_for L n.store (ended n.book) i (turned_to e z e.run)
      ≡ stated (state_for L false (listed e.run.taken (number_for L n.store n.book i e)) z) E
  unfolding end_for
  reads_as zeros z =
      cells_read L n.store n.book (ended n.book) i (turned_to e z e.run) (port_cells n.book 0) (idle_timers zeros)
      ∙ ap (λ (y : Bool). stated (state_for L y (listed e.run.taken (number_for L n.store n.book i e)) z) E) idle.reset

  -- where its Reset was under way its timer stands at 0
  abbrev Zeroed : State → Type 0
  Zeroed Closed = Unit {0}
  Zeroed (Enabled d sent) = is_reset u i ≡ true → d ≡ 0
  Zeroed Open = Unit {0}
  Zeroed (Failing m) = Unit {0}

  idle_end : (z : State) → e.state ≡ z → Stopped → Zeroed z → end_for L n.store (ended n.book) i e ≡ E
  unfolding end_for
  idle_end z q zeros h = reads_as zeros e.state ∙ subst (λ (y : State). stated (state_for L false ns y) E ≡ E) (sym q) (by z q h)
    where
      ns : List machine.Number
      ns = listed e.run.taken (number_for L n.store n.book i e)

      by : (z : State) → e.state ≡ z → Zeroed z → stated (state_for L false ns z) E ≡ E
      by Closed q h = ap (λ (y : State). stated y E) (sym (state_is Closed q))
      by (Enabled d sent) q h = ap (λ (y : State). stated y E) (reading (is_reset u i) refl ∙ sym (state_is (Enabled d sent) q))
        where
          reading : (y : Bool) → is_reset u i ≡ y → Enabled (L d) sent ≡ Enabled (pick y 0 (L d)) sent
          reading true r = ap (λ (k : ℕ). Enabled (L k) sent) (h r)
          reading false r = refl
      by Open q h = ap (λ (y : State). stated y E) (sym (state_is Open q))
      by (Failing m) q h = ap (λ (y : State). stated y E) (sym (state_is (Failing m) q))

  nothing_starts : (z : State) → e.state ≡ z → Stopped → Zeroed z → (is_data u i ≡ true → counts ≡ false)
      → (is_reset u i ≡ true → Unsent z) → end_for L n.store (ended n.book) i e ≡ machine.ended (type_for u) E s
  nothing_starts z q zeros h data! reset = idle_end z q zeros h ∙ sym (machine_idle z q data! reset)

  -- a run begun anew has handed nothing out, and its machine has taken no number
  none_handed : e.run.handed ≡ 0 → Stopped
  none_handed h k m o = absurd (omega (arith, h, m))

  none_counts : e.run.taken ≡ 0 → counts ≡ false
  unfolding end_for listed
  none_counts h = rw h

  -- ---- a sender's Data, at Open and Failing

  module _ (kind! : is_sends e.entry.kind ≡ true) (S : Sending n.book i e.run e.entry.largest)
      (stands : Standing n.book i e.run) where
    abbrev k : ℕ
    k = offset_of w s

    number_here : past w k ≡ s
    number_here = keeps.number_here t (bare n) l g some_under

    -- its timer starts where the number counts: handed out, and not acknowledged
    starts_counted : is_data u i ≡ true → counts ≡ true → data_starts n.book i e.run u ≡ true
    starts_counted d c =
        let C = counts_says e.run s (counts_is L (zero_left n) n.store n.book i e s S ∙ c) in
        let o : past w k ≡ data_out n.book i = number_here ∙ sym (keeps.under_number t (bare n) l g some_under d) in
        let z = ap (λ (v : ℕ). eqb (timer_in n.book (cell i w v)) 0) (sym number_here)
        ∙ ne_eqb (timer_in n.book (cell i w (past w k))) 0 (stands k C.handed C.missing o) in
        rw (d, lt-ltb k e.run.handed C.handed, z)

    counted_starts : DataStarts n.book i e u → counts ≡ true
    unfolding end_for
    counted_starts d =
        rw (
          get_d_listed e.run.taken (number_for L n.store n.book i e) k _ (omega (arith, d.handed, S.handed)),
          lt-ltb k e.run.handed d.handed,
          not_held (held w k) refl,
        )
      where
        not_held : (z : Bool) → held w k ≡ z → z ≡ false
        not_held true h = absurd (d.stands (ap (λ (v : ℕ). timer_in n.book (cell i w v)) (sym number_here) ∙ S.stopped k h))
        not_held false h = refl

    not_counted : data_starts n.book i e.run u ≡ false → is_data u i ≡ true → counts ≡ false
    not_counted z d = sides counts refl
      where
        sides : (c : Bool) → counts ≡ c → c ≡ false
        sides true c = absurd (true≢false (sym (starts_counted d c) ∙ z))
        sides false c = refl

    -- ---- it starts

    module _ (d : DataStarts n.book i e u) where
      abbrev over : ℕ
      over = later (clock_in n.node) e.entry.timeout

      abbrev book₁ : List ℕ
      book₁ = set n.book (timer_at (cell i w s)) over

      T : Timed n.book book₁ i w k over
      T = keeps.start_timed t (bare n) l g some_under kind! d S

      C : Counts e.run s
      C = counts_says e.run s (counts_is L (zero_left n) n.store n.book i e s S ∙ counted_starts d)

      none_then : data_out (ended book₁) i ≡ no_number
      none_then = (none_idle (ended book₁) i (ended_under book₁ l (keeps.start_within t (bare n) l g some_under kind! d S).lines)).data!

      others_not : (v : ℕ) → v < 256 → v ≢ past w k → eqb v (data_out (ended book₁) i) ≡ eqb v (data_out n.book i)
      others_not v h m =
          ne_eqb v (data_out (ended book₁) i) (λ z. let y : v ≡ no_number = z ∙ none_then in omega (arith, y, h))
          ∙ sym (ne_eqb v (data_out n.book i) (λ z. m (z ∙ keeps.under_number t (bare n) l g some_under d.data! ∙ sym number_here)))

      reads_full : timer_for L (ended book₁) i e.run k ≡ e.entry.timeout
      reads_full =
          timer_else L (zero_left n) n.store (ended book₁) i e k d.handed (λ z. let y : past w k ≡ no_number = z ∙ none_then in omega (arith, y))
          ∙ ap L (port_cells book₁ 0 (timer_at (cell i w (past w k))) (omega arith) ∙ T.here)
          ∙ left_starts (clock_in n.node) e.entry.timeout (omega arith) (sender_timeout t n.node n.book l g i known kind!)
          (omega (arith, timeout_fits n.node i))

      abbrev ns₁ : List machine.Number
      ns₁ = machine.timed e.entry.timeout false E (past w k)

      started_end : end_for L n.store (ended book₁) i e ≡ stated (state_for L (is_reset (under_in (ended book₁)) i) ns₁ e.state) (numbered E.start ns₁ E)
      started_end =
          timed_end L (zero_left n) n.store n.book i e window k (omega (arith, d.handed, S.handed)) S.taken (ended book₁) low kind! e.run.handed
          e.entry.timeout (λ c m. port_cells book₁ 0 (length_at c) (omega arith) ∙ T.lengths c m) retries
          (λ m c f. port_cells book₁ 0 (timer_at (cell i w (past w m))) (omega arith) ∙ T.there m c f) others_not reads_full d.handed
          C.missing (λ m f. refl)
        where
          retries : (c : ℕ) → c < all_cells → retries_in (ended book₁) c ≡ retries_in n.book c
          retries c h =
              port_cells book₁ 0 (retries_at c) (omega arith)
              ∙ get_or-set_other n.book (timer_at (cell i w s)) (retries_at c) over 0 (λ z. let y = cell_low i low w window s in omega arith)

      -- the machine's: the same number starts, and Failing counts it
      machine_starts : (z : State) → e.state ≡ z → (z ≡ Open) ⊎ ((m : ℕ) × (z ≡ Failing m))
          → machine.ended (type_for u) E s ≡ stated (state_for L (is_reset (under_in (ended book₁)) i) ns₁ z) (numbered E.start ns₁ E)
      unfolding end_for
      machine_starts z q which = by (type_for u) kind
        where
          timed_is : data_timed E s ≡ numbered E.start ns₁ E
          timed_is = rw (counted_starts d, number_here)

          states : (z : State) → e.state ≡ z → (z ≡ Open) ⊎ ((m : ℕ) × (z ≡ Failing m))
              → recounted E.state (numbered E.start ns₁ E)
              ≡ stated (state_for L (is_reset (under_in (ended book₁)) i) ns₁ z) (numbered E.start ns₁ E)
          states z q (inl o) = rw (q, o)
          states z q (inr m) = rw (q, m.1)

          by : (y : FrameType) → Kind u i y → machine.ended y E s ≡ stated (state_for L (is_reset (under_in (ended book₁)) i) ns₁ z) (numbered E.start ns₁ E)
          by type.Data (of_data f r) = ap (recounted E.state) timed_is ∙ states z q which
          by type.Reset (of_reset f r) = absurd (true≢false (sym d.data! ∙ f))
          by type.Acknowledge (of_ack f r) = absurd (true≢false (sym d.data! ∙ f))
          by type.Urgent (of_urgent f r) = absurd (true≢false (sym d.data! ∙ f))

      data_ends : (z : State) → e.state ≡ z → (z ≡ Open) ⊎ ((m : ℕ) × (z ≡ Failing m))
          → end_for L n.store (ended book₁) i e ≡ machine.ended (type_for u) E s
      data_ends z q which =
          started_end
          ∙ ap (λ (y : State). stated (state_for L (is_reset (under_in (ended book₁)) i) ns₁ y) (numbered E.start ns₁ E)) q
          ∙ sym (machine_starts z q which)

  -- ---- a Reset starts

  module _ (kind! : is_sends e.entry.kind ≡ true) (d : ℕ) (q : e.state ≡ Enabled d true) (A : EnabledSender n.book l i e d true)
      (r : is_reset u i ≡ true) where
    abbrev over_reset : ℕ
    over_reset = later (clock_in n.node) e.entry.timeout

    machine_resets : machine.ended (type_for u) E s ≡ stated (Enabled e.entry.timeout true) E
    unfolding end_for
    machine_resets = by (type_for u) kind
      where
        by : (y : FrameType) → Kind u i y → machine.ended y E s ≡ stated (Enabled e.entry.timeout true) E
        by type.Data (of_data f z) = absurd (true≢false (sym r ∙ z))
        by type.Reset (of_reset f z) =
            ap (λ (y : State). reset_timed y E) (state_is (Enabled d true) q)
        by type.Acknowledge (of_ack f z) = absurd (true≢false (sym r ∙ z))
        by type.Urgent (of_urgent f z) = absurd (true≢false (sym r ∙ z))

    reset_ends : end_for L n.store (ended n.book) i (turned_to e (Enabled over_reset true) e.run) ≡ machine.ended (type_for u) E s
    reset_ends =
        reads_as (none_handed A.fresh.handed) (Enabled over_reset true)
        ∙ ap (λ (v : ℕ). stated (Enabled v true) E)
        (left_starts (clock_in n.node) e.entry.timeout (omega arith) (sender_timeout t n.node n.book l g i known kind!)
        (omega (arith, timeout_fits n.node i)))
        ∙ sym machine_resets

  -- ---- by state

  abbrev ends_as : State → Type 0
  ends_as z = end_for L n.store (ended (started_book n.node n.book i e z u)) i (end_of (started_node n.node n.book i e z u) i)
      ≡ machine.ended (type_for u) E s

  roused_end : end_of (roused n.node) i ≡ e
  roused_end = clocked_end n.node (roused n.node) (clocked_set n.node quiet_at 0 (omega arith) (omega arith)) i

  heeded_end : end_of (heeded n.node e.entry.timeout) i ≡ e
  heeded_end = clocked_end n.node (heeded n.node e.entry.timeout) (clocked_set n.node quiet_at _ (omega arith) (omega arith)) i

  enabled_ends : (k : Bool) → is_sends e.entry.kind ≡ k → (d : ℕ) (sent : Bool) → e.state ≡ Enabled d sent → Stated n.book l i e k (Enabled d sent)
      → ends_as (Enabled d sent)
  unfolding started_node started_book
  enabled_ends true ke d sent q A = sides (is_reset u i) sent refl q A
    where
      said : Bool → Bool → List ℕ
      said r z = pick (r && z) (heeded (saved n.node i (Enabled (later (clock_in n.node) e.entry.timeout) true) e.run) e.entry.timeout) n.node

      sides : (r z : Bool) → is_reset u i ≡ r → e.state ≡ Enabled d z → EnabledSender n.book l i e d z
          → end_for L n.store (ended n.book) i (end_of (said r z) i) ≡ machine.ended (type_for u) E s
      sides true true r q A =
          ap (end_for L n.store (ended n.book) i) (keeps.reset_end t (bare n) l g some_under ke d q A r) ∙ reset_ends ke d q A r
      sides true false r q A =
          nothing_starts (Enabled d false) q (none_handed A.fresh.handed) (λ z. A.unsent refl) (λ z. none_counts A.fresh.taken) (λ z. refl)
      sides false z r q A =
          nothing_starts (Enabled d z) q (none_handed A.fresh.handed) (λ y. absurd (true≢false (sym y ∙ r))) (λ y. none_counts A.fresh.taken)
          (λ y. absurd (true≢false (sym y ∙ r)))
  enabled_ends false ke d sent q A =
      rw (A.2, and-false (is_reset u i))
      (nothing_starts (Enabled d sent) q (none_handed A.0.fresh.handed) (λ z. A.1) (λ z. none_counts A.0.fresh.taken) (λ z. A.2))

  open_ends : (k : Bool) → is_sends e.entry.kind ≡ k → e.state ≡ Open → Stated n.book l i e k Open → ends_as Open
  unfolding started_node started_book
  open_ends k ke q A = sides (data_starts n.book i e.run u) refl
    where
      starts : (k : Bool) → is_sends e.entry.kind ≡ k → Stated n.book l i e k Open → (d : DataStarts n.book i e u)
          → end_for L n.store (ended (set n.book (timer_at (cell i w s)) (later (clock_in n.node) e.entry.timeout))) i e ≡ machine.ended (type_for u) E s
      starts true ke A d = data_ends ke A.sending A.standing d Open q (inl refl)
      starts false ke A d = absurd (omega (arith, d.handed, A.receiving.handed))

      not_counts : (k : Bool) → is_sends e.entry.kind ≡ k → Stated n.book l i e k Open → data_starts n.book i e.run u ≡ false
          → is_data u i ≡ true → counts ≡ false
      not_counts true ke A z f = not_counted ke A.sending A.standing z f
      not_counts false ke A z f = none_counts A.receiving.taken

      sides : (z : Bool) → data_starts n.book i e.run u ≡ z
          → end_for L n.store (ended (pick z (set n.book (timer_at (cell i w s)) (later (clock_in n.node) e.entry.timeout)) n.book)) i
          (end_of (pick z (heeded n.node e.entry.timeout) n.node) i) ≡ machine.ended (type_for u) E s
      sides true z =
          let b₁ = ended (set n.book (timer_at (cell i w s)) (later (clock_in n.node) e.entry.timeout)) in
          ap (end_for L n.store b₁ i) heeded_end ∙ starts k ke A (data_starts_holds n.book i e u z)
      sides false z = nothing_starts Open q (keeps.stopped t (bare n) l g some_under z) tt (not_counts k ke A z) (λ y. tt)

  failing_ends : (m : ℕ) → is_sends e.entry.kind ≡ true → e.state ≡ Failing m → FailingSender n.book l i e m → ends_as (Failing m)
  unfolding started_node started_book
  failing_ends m ke q A = sides (data_starts n.book i e.run u) refl
    where
      sides : (z : Bool) → data_starts n.book i e.run u ≡ z
          → end_for L n.store (ended (pick z (set n.book (timer_at (cell i w s)) (later (clock_in n.node) e.entry.timeout)) n.book)) i
          (end_of (roused n.node) i) ≡ machine.ended (type_for u) E s
      sides true z =
          let b₁ = ended (set n.book (timer_at (cell i w s)) (later (clock_in n.node) e.entry.timeout)) in
          ap (end_for L n.store b₁ i) roused_end
          ∙ data_ends ke A.sending A.standing (data_starts_holds n.book i e u z) (Failing m) q (inr (m, refl))
      sides false z =
          ap (end_for L n.store (ended n.book) i) roused_end
          ∙ nothing_starts (Failing m) q (keeps.stopped t (bare n) l g some_under z) tt (not_counted ke A.sending A.standing z) (λ y. tt)

  by_state : (k : Bool) → is_sends e.entry.kind ≡ k → (z : State) → e.state ≡ z → Stated n.book l i e k z → ends_as z
  unfolding started_node started_book
  by_state k ke Closed q A = nothing_starts Closed q (none_handed A.fresh.handed) tt (λ z. none_counts A.fresh.taken) (λ z. tt)
  by_state k ke (Enabled d sent) q A = enabled_ends k ke d sent q A
  by_state k ke Open q A = open_ends k ke q A
  by_state true ke (Failing m) q A = failing_ends m ke q A
  by_state false ke (Failing m) q A = absurd A

  -- ---- the call

  abbrev x : Lent
  x = bare n

  K : Ends t x (report_after x (report_answer x)) l i
  K = report_keeps t x l g some_under

  abbrev now : Memory
  now = kept_bare n (report_after x (Ok tt))

  K-now : Ends t x (report_after x (Ok tt)) l i
  K-now = subst (λ (v : Verdict). Ends t x (report_after x v) l i) (report_goes x some_under) K

  end_now : end_at now i ≡ machine.ended (type_for u) E s
  unfolding report_after
  end_now =
      ap (λ (c : ℕ). end_for (left_of c) n.store now.book i (end_of now.node i)) K-now.apart.clock
      ∙ by_state (is_sends e.entry.kind) refl e.state refl (g.entered i known).stated

  none_now : under_in now.book ≡ 0
  unfolding report_after
  none_now =
      let b = started_book n.node n.book i e e.state u in
      let long : length (ended b) ≡ book_halves = K-now.good.lines.long in
      get_or-set_same b under_at 0 0 (omega (arith, long, length-set b under_at 0))

  abbrev ended_machine : Machine
  ended_machine = port none (turned i (machine.ended (type_for u) E s) M)

  stands_now : Stands t now ended_machine
  stands_now =
      ported_stands g room known K-now.good K-now.apart K-now.within (unaltered refl) end_now
      (waits_same K-now.apart (window_steady (ap (λ (r : Run). r.window) K-now.run)) K-now.acks (λ q h. refl))
      (rw none_now)

  step_is : step M reports ≡ done ended_machine
  unfolding step reporting reported
  step_is = rw (ne_eqb u 0 some_under, elem_listed (count_of t) (end_at n) i (omega (arith, known, g.tabled.count)))

  under_follows : Follows t n M reports
  unfolding answer after
  under_follows =
      let a = report_goes x some_under in
      record { answers = rw (a, step_is); stands = rw (a, step_is) stands_now }

pub report_follows : (t : List ℕ) (n : Memory) (l : Lists) → Good t n.node n.book l → store_of t ≤ length n.store
    → Follows t n (stands_for t n l) reports
unfolding answer after step reporting reported report_answer
report_follows t n l g room = sides (ℕ_discrete (under_in n.book) 0)
  where
    sides : Dec (under_in n.book ≡ 0) → Follows t n (stands_for t n l) reports
    sides (yes z) =
        let h = eq-eqb (under_in n.book) 0 z in
        let M = stands_for t n l in
        let a : report_answer (bare n) ≡ Err NoneUnderWay = rw h in
        let m : step M reports ≡ answers (20 ∷ []) [] M = rw h in
        record { answers = rw (a, m); stands = rw (m, report_refused (bare n) z) (still g room) }
    sides (no z) = under_follows t n l g room z

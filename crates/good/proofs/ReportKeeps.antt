-- The report of a frame's end keeps a good node good: of the entry whose frame it was a timer starts, or nothing does. Refused, it leaves
-- everything. Assumes nothing.
use Prim.Native.Nat.{ℕ, ◌+◌, ◌≤◌, ◌<◌}
use mathlib.Core.Path.{◌≡◌, refl, sym, ap, subst, ◌∙◌}
use mathlib.Core.Logic.{◌≢◌}
use mathlib.Core.Bool.{Bool, true, false, ◌&&◌, true≢false, and-false}
use mathlib.Core.List.{List}
use native.Mathlib.Decide.{ℕ_discrete}
use native.Mathlib.Omega.{arith}
use lib.ListN.{length, set}
use lib.Dec.{eqb, ltb}
use borrow.Author.Tests.{not-true, eq-eqb, ne_eqb, eqb-true, eqb-false, ltb-true, lt-ltb}
use Rattle.std.proofs.lemmas.Bool.{and_parts}
use Rattle.units.specs.Refusals.{pick}
use Rattle.memory.specs.Layout.{quiet_at, node_words, timer_at}
use Rattle.waiting.specs.Acks.{waiting_of}
use Rattle.waiting.specs.Order.{acks_in}
use Rattle.waiting.specs.Port.{under_in, out_entry, out_number, is_data, is_reset, data_out, ended}
use Rattle.timing.specs.Timing.{clock_in, quiet_in, later, heeded, roused}
use Rattle.timing.proofs.Falling.{later_runs}
use Rattle.window.specs.Windows.{offset_of, held, Good as GoodWindow}
use Rattle.window.specs.declared.Window.{Window}
use Rattle.window.proofs.WindowLaw.{distance_back}
use Rattle.end_points.specs.Ends.{end_of, saved}
use Rattle.end_points.specs.Heads.{count_in}
use Rattle.end_points.specs.States.{is_sends}
use Rattle.end_points.specs.Lent.{Lent}
use Rattle.end_points.specs.declared.State.{State}
use Rattle.end_points.specs.declared.State.TheVariants.{Closed, Enabled, Open, Failing}
use Rattle.end_points.specs.declared.EndPoint.{EndPoint}
use Rattle.slots.specs.Slots.{cell, past, timer_in}
use Rattle.call_report.specs.Reporting.{report_answer, report_after, data_starts, started_node, started_book}
use Rattle.good.specs.Good.{Lists, Resends, Sending, running, Standing, OpenSender, FailingSender, EnabledSender, Stated, Entered, Outlasts, Outlast, Timely, Good}
use Rattle.good.proofs.Known.{entered_as}
use Rattle.good.proofs.Framing.{Within, within_same, within_then, Apart, apart_same, apart_then, apart_saved, same_entered, outlasts_fewer, entry_low}
use Rattle.good.proofs.Porting.{within_ended, ended_under, none_idle, port_cells}
use Rattle.good.proofs.Clocked.{Clocked, clocked_set, clocked_end, clocked_waiting, clocked_acks, heeded_apart, heeded_quiet, roused_apart, roused_quiet, starts}
use Rattle.good.proofs.Offsets.{cell_inj}
use Rattle.good.proofs.Turns.{run_fits, turned_to, end_saved, saved_acks, book_turn, sender_put}
use Rattle.good.proofs.Senders.{Timed, timed_outlasts, timed_set, within_timed, running_alike, entry_window, sender_timeout, timeout_fits}
use Rattle.good.proofs.HandRuns.{timed_sending, timed_resends}
use Rattle.std.specs.Prelude.{Ok}

-- ---- when Data's timer starts

-- of what is under way: it is entry i's Data, its number is handed out, and its timer stands
pub record DataStarts (b : List ℕ) (i : ℕ) (e : EndPoint) (u : ℕ) : Type 0 where
  pub data! : is_data u i ≡ true
  pub handed : offset_of e.run.window (out_number u) < e.run.handed
  pub stands : timer_in b (cell i e.run.window (out_number u)) ≢ 0

pub data_starts_holds : (b : List ℕ) (i : ℕ) (e : EndPoint) (u : ℕ) → data_starts b i e.run u ≡ true → DataStarts b i e u
data_starts_holds b i e u h =
    let w = e.run.window in
    let p = and_parts (is_data u i) _ h in
    let q = and_parts (ltb (offset_of w (out_number u)) e.run.handed) _ p.1 in
    record {
      data! = p.0;
      handed = ltb-true (offset_of w (out_number u)) e.run.handed q.0;
      stands = eqb-false (timer_in b (cell i w (out_number u))) 0 (not-true (eqb (timer_in b (cell i w (out_number u))) 0) q.1);
    }

-- ---- the call

-- a good node is good afterwards with the same waiting, and only entry i's business altered, what is under way with it
pub record Ends (t : List ℕ) (x x' : Lent) (l : Lists) (i : ℕ) : Type 0 where
  pub good : Good t x'.node x'.book l
  pub apart : Apart i x.node x'.node
  pub within : Within i x.book x'.book l l
  pub run : (end_of x'.node i).run ≡ (end_of x.node i).run
  pub acks : acks_in x'.node ≡ acks_in x.node

module _ (t : List ℕ) (x : Lent) (l : Lists) (G : Good t x.node x.book l) (some : under_in x.book ≢ 0) where
  abbrev u : ℕ
  u = under_in x.book

  abbrev i : ℕ
  i = out_entry u

  abbrev e : EndPoint
  e = end_of x.node i

  abbrev w : Window
  w = e.run.window

  abbrev c : ℕ
  c = clock_in x.node

  pub known : i < count_in x.node
  known = (G.under some).known

  pub low : i < 16
  low = entry_low t x.node x.book l G i known

  pub window : GoodWindow w
  window = entry_window t x.node x.book l G i known

  -- the number under way, as the book tells it
  pub number_here : past w (offset_of w (out_number u)) ≡ out_number u
  number_here = distance_back w.start.0 (out_number u) window.byte (omega arith)

  pub under_number : is_data u i ≡ true → data_out x.book i ≡ out_number u
  under_number h = rw h

  -- none is under way any more: what a good node says of the entry holds as it did
  module _ (b : List ℕ) (within : Within i x.book b l l) (same : under_in b ≡ u) where
    ends_within : Within i x.book (ended b) l l
    ends_within =
        within_then i x.book b (ended b) l l l within (within_ended b l within.lines i (ap out_entry same))

    ends_entered : (e' : EndPoint) → Entered b l i e' → Entered (ended b) l i e'
    ends_entered e' n =
        let idle = none_idle (ended b) i (ended_under b l within.lines) in
        same_entered i low b (ended b) l l (λ k h o. port_cells b 0 k h) (λ q h. refl)
        (λ s h o. absurd (omega (arith, h, o, idle.data!))) (λ z. absurd (true≢false (sym z ∙ idle.reset))) e' n

  -- ---- nothing starts

  -- a number of which no timer stands is timely without being under way
  module _ (none : data_starts x.book i e.run u ≡ false) where
    pub stopped : (k : ℕ) → k < e.run.handed → past w k ≡ data_out x.book i → timer_in x.book (cell i w (past w k)) ≡ 0
    stopped k h o = sides (is_data u i) refl
      where
        more : is_data u i ≡ true → (z : Bool) → eqb (timer_in x.book (cell i w (past w k))) 0 ≡ z → timer_in x.book (cell i w (past w k)) ≡ 0
        more d true q = eqb-true (timer_in x.book (cell i w (past w k))) 0 q
        more d false q =
            let s : past w k ≡ out_number u = o ∙ under_number d in
            let at : offset_of w (out_number u) ≡ k = ap (offset_of w) (sym s) ∙ omega (arith, window.byte, h, (run_fits x.node i).handed) in
            absurd (true≢false (sym (rw (d, lt-ltb (offset_of w (out_number u)) e.run.handed (omega (arith, at, h)), ← s, q)) ∙ none))

        sides : (z : Bool) → is_data u i ≡ z → timer_in x.book (cell i w (past w k)) ≡ 0
        sides true d = more d (eqb (timer_in x.book (cell i w (past w k))) 0) refl
        sides false d = absurd (let y : past w k ≡ 256 = o ∙ rw d in omega (arith, y))

    idle_outlasts : (q : ℕ) → q ≤ quiet_in x.node → Outlast c (quiet_in x.node) x.book i e.run → Outlast c q (ended x.book) i e.run
    idle_outlasts q f was k h d =
        subst (Outlasts c q) (sym (port_cells x.book 0 (timer_at (cell i w (past w k))) (omega arith))) (sides (ℕ_discrete (past w k) (data_out x.book i)))
      where
        sides : Dec (past w k ≡ data_out x.book i) → Outlasts c q (timer_in x.book (cell i w (past w k)))
        sides (yes o) = λ runs. absurd (runs (stopped k h o))
        sides (no n) = outlasts_fewer c (quiet_in x.node) q _ f (was k h n)

  abbrev idle_book : List ℕ
  idle_book = ended x.book

  idle_within : Within i x.book idle_book l l
  idle_within = ends_within x.book (within_same i x.book l G.lines) refl

  idle_entered : Entered idle_book l i e
  idle_entered = ends_entered x.book (within_same i x.book l G.lines) refl e (G.entered i known)

  -- the node stays
  idle_kept : Timely c (quiet_in x.node) idle_book i e e.state → Ends t x (record { node = x.node; book = idle_book; store = x.store; out = x.out }) l i
  idle_kept soon =
      record {
        good = book_turn t x.node x.book l G i known idle_book l idle_within idle_entered soon;
        apart = apart_same i x.node;
        within = idle_within;
        run = refl;
        acks = refl;
      }

  -- ---- Data starts

  module _ (kind : is_sends e.entry.kind ≡ true) where
    timeout : (1 ≤ e.entry.timeout) × (e.entry.timeout ≤ 65535)
    timeout = (sender_timeout t x.node x.book l G i known kind, omega (arith, timeout_fits x.node i))

    abbrev over : ℕ
    over = later c e.entry.timeout

    pub over_runs : (over ≢ 0) × (over ≤ 65535)
    over_runs = later_runs c e.entry.timeout (omega arith) timeout.0 timeout.1

    module _ (d : DataStarts x.book i e u) (S : Sending x.book i e.run e.entry.largest) where
      abbrev k : ℕ
      k = offset_of w (out_number u)

      abbrev b₁ : List ℕ
      b₁ = set x.book (timer_at (cell i w (out_number u))) over

      pub inside : k < w.size
      inside = omega (arith, d.handed, S.handed, S.taken)

      pub start_timed : Timed x.book b₁ i w k over
      start_timed =
          subst (λ (s : ℕ). Timed x.book (set x.book (timer_at (cell i w s)) over) i w k over) number_here
          (timed_set i low w window k inside over x.book G.lines.long)

      pub start_within : Within i x.book b₁ l l
      start_within =
          subst (λ (s : ℕ). Within i x.book (set x.book (timer_at (cell i w s)) over) l l) number_here
          (within_timed i low w window k inside over x.book l G.lines)

      stood : timer_in x.book (cell i w (past w k)) ≢ 0
      stood z = d.stands (ap (λ (s : ℕ). timer_in x.book (cell i w s)) (sym number_here) ∙ z)

      pub missing : held w k ≡ false
      missing = sides (held w k) refl
        where
          sides : (z : Bool) → held w k ≡ z → z ≡ false
          sides true h = absurd (stood (S.stopped k h))
          sides false h = refl

      over_pos : 1 ≤ over
      over_pos = let n = over_runs.0 in omega arith

      start_sending : Sending b₁ i e.run e.entry.largest
      start_sending = timed_sending x.book b₁ i low e.run window k over over_pos inside missing start_timed e.entry.largest S

      start_resends : Resends x.book l i e.run → Resends b₁ l i e.run
      start_resends R =
          timed_resends x.book b₁ i low e.run window k over over_pos inside missing start_timed e.run.handed (omega arith) (λ j h n. h)
          (omega (arith, S.handed, S.taken)) l l R
          (λ y m. (
            m,
            λ z. let r = R.each y m in
                stood (ap (λ (j : ℕ). timer_in x.book (cell i w (past w j)))
                (sym (cell_at r.at (omega (arith, r.handed, S.handed, S.taken)) (sym r.is ∙ z))) ∙ r.idle),
          ))
          (λ y m n. m)
        where
          cell_at : (j : ℕ) → j < w.size → 64 + cell i w (past w j) ≡ 64 + cell i w (past w k) → j ≡ k
          cell_at j h z = cell_inj w window i j k h inside (omega (arith, z))

      start_standing : Standing b₁ i e.run
      start_standing j h m o z =
          let s : past w j ≡ out_number u = o ∙ ap (λ (v : ℕ). pick (is_data v i) (out_number v) 256) start_timed.under ∙ under_number d.data! in
          over_runs.0 (sym start_timed.here ∙ ap (λ (v : ℕ). timer_in b₁ (cell i w v)) (number_here ∙ sym s) ∙ z)

      start_running : (n : ℕ) → n ≡ running x.book i w e.run.handed → n ≡ running b₁ i w e.run.handed
      start_running n q = q ∙ sym (running_alike x.book b₁ i w e.run.handed (λ j h. alike j h (ℕ_discrete j k)))
        where
          alike : (j : ℕ) → j < e.run.handed → Dec (j ≡ k) → eqb (timer_in b₁ (cell i w (past w j))) 0 ≡ eqb (timer_in x.book (cell i w (past w j))) 0
          alike j h (yes z) =
              ap (λ (v : ℕ). eqb (timer_in b₁ (cell i w (past w v))) 0) z
              ∙ ne_eqb (timer_in b₁ (cell i w (past w k))) 0 (λ y. over_runs.0 (sym start_timed.here ∙ y))
              ∙ sym (ne_eqb (timer_in x.book (cell i w (past w k))) 0 stood) ∙ ap (λ (v : ℕ). eqb (timer_in x.book (cell i w (past w v))) 0) (sym z)
          alike j h (no n) = ap (λ (v : ℕ). eqb v 0) (start_timed.there j (omega (arith, S.handed, S.taken)) n)

      pub start_outlasts : (q : ℕ) → q ≤ quiet_in x.node → q < e.entry.timeout → Outlast c (quiet_in x.node) x.book i e.run → Outlast c q (ended b₁) i e.run
      start_outlasts q f soon was j h o =
          subst (Outlasts c q) (sym (port_cells b₁ 0 (timer_at (cell i w (past w j))) (omega arith)))
          (timed_outlasts x.book b₁ i w k over start_timed c q (λ n. n ≡ n) (λ z. starts c q e.entry.timeout (omega arith) soon timeout.1)
          e.run.handed (omega (arith, S.handed, S.taken)) (λ n m d' z. outlasts_fewer c (quiet_in x.node) q _ f (was n m (other n m d'))) j h refl)
        where
          other : (n : ℕ) → n < e.run.handed → n ≢ k → past w n ≢ data_out x.book i
          other n m d' z =
              d' (cell_inj w window i n k (omega (arith, S.handed, S.taken)) inside (ap (cell i w) (z ∙ under_number d.data! ∙ sym number_here)))

      abbrev start_book : List ℕ
      start_book = ended b₁

      pub start_book_within : Within i x.book start_book l l
      start_book_within = ends_within b₁ start_within start_timed.under

    -- at Open
    module _ (d : DataStarts x.book i e u) (s : e.state ≡ Open) (o : OpenSender x.book l i e) where
      abbrev open_node : List ℕ
      open_node = heeded x.node e.entry.timeout

      open_clocked : Clocked x.node open_node
      open_clocked = clocked_set x.node quiet_at _ (omega arith) (omega arith)

      open_apart : Apart i x.node open_node
      open_apart = heeded_apart x.node G.long e.entry.timeout i

      open_entered : Entered (start_book d o.sending) l i e
      open_entered =
          ends_entered (b₁ d o.sending) (start_within d o.sending) (start_timed d o.sending).under e
          (entered_as (b₁ d o.sending) l i e window true kind Open s
          (record {
            sending = start_sending d o.sending;
            share = o.share;
            resends = start_resends d o.sending o.resends;
            standing = start_standing d o.sending;
          }))

      open_kept : Ends t x (record { node = open_node; book = start_book d o.sending; store = x.store; out = x.out }) l i
      open_kept =
          let was = subst (Timely c (quiet_in x.node) x.book i e) s (G.timely i known) in
          record {
            good = sender_put t x.node x.book l G i known kind open_node open_apart (clocked_waiting x.node open_node open_clocked) (clocked_acks x.node open_node open_clocked)
                (start_book d o.sending) l (start_book_within d o.sending) e (clocked_end x.node open_node open_clocked i) open_entered
                (subst (Timely c (quiet_in open_node) (start_book d o.sending) i e) (sym s)
                (start_outlasts d o.sending (quiet_in open_node) open_apart.quiet (heeded_quiet x.node G.long e.entry.timeout timeout.0) was));
            apart = open_apart;
            within = start_book_within d o.sending;
            run = ap (λ (z : EndPoint). z.run) (clocked_end x.node open_node open_clocked i);
            acks = clocked_acks x.node open_node open_clocked;
          }

    -- at Failing the next tick goes through the entries
    module _ (n : ℕ) (s : e.state ≡ Failing n) (o : FailingSender x.book l i e n) where
      abbrev failing_node : List ℕ
      failing_node = roused x.node

      failing_clocked : Clocked x.node failing_node
      failing_clocked = clocked_set x.node quiet_at 0 (omega arith) (omega arith)

      failing_apart : Apart i x.node failing_node
      failing_apart = roused_apart x.node G.long i

      failing_quiet : quiet_in failing_node ≡ 0
      failing_quiet = roused_quiet x.node G.long

      failing_was : Outlast c (quiet_in x.node) x.book i e.run
      failing_was = (subst (Timely c (quiet_in x.node) x.book i e) s (G.timely i known)).0

      failing_kept : (b : List ℕ) → Within i x.book b l l → Entered b l i e → Outlast c (quiet_in failing_node) b i e.run
          → Ends t x (record { node = failing_node; book = b; store = x.store; out = x.out }) l i
      failing_kept b v n soon =
          record {
            good = sender_put t x.node x.book l G i known kind failing_node failing_apart (clocked_waiting x.node failing_node failing_clocked)
                (clocked_acks x.node failing_node failing_clocked) b l v e (clocked_end x.node failing_node failing_clocked i) n
                (subst (Timely c (quiet_in failing_node) b i e) (sym s) (soon, λ z h. failing_quiet));
            apart = failing_apart;
            within = v;
            run = ap (λ (z : EndPoint). z.run) (clocked_end x.node failing_node failing_clocked i);
            acks = clocked_acks x.node failing_node failing_clocked;
          }

      failing_idle : data_starts x.book i e.run u ≡ false → Ends t x (record { node = failing_node; book = idle_book; store = x.store; out = x.out }) l i
      failing_idle none = failing_kept idle_book idle_within idle_entered (idle_outlasts none (quiet_in failing_node) failing_apart.quiet failing_was)

      failing_starts : (d : DataStarts x.book i e u) → Ends t x (record { node = failing_node; book = start_book d o.sending; store = x.store; out = x.out }) l i
      failing_starts d =
          failing_kept (start_book d o.sending) (start_book_within d o.sending)
          (ends_entered (b₁ d o.sending) (start_within d o.sending) (start_timed d o.sending).under e
          (entered_as (b₁ d o.sending) l i e window true kind (Failing n) s
          (record {
            sending = start_sending d o.sending;
            urgent = o.urgent;
            silent = o.silent;
            timers = start_running d o.sending n o.timers;
            standing = start_standing d o.sending;
          })))
          (start_outlasts d o.sending (quiet_in failing_node) failing_apart.quiet (omega (arith, failing_quiet, timeout.0)) failing_was)

    -- a Reset starts
    module _ (d : ℕ) (s : e.state ≡ Enabled d true) (o : EnabledSender x.book l i e d true) (reset : is_reset u i ≡ true) where
      abbrev says : State
      says = Enabled over true

      abbrev reset_saved : List ℕ
      reset_saved = saved x.node i says e.run

      abbrev reset_node : List ℕ
      reset_node = heeded reset_saved e.entry.timeout

      reset_long : length reset_saved ≡ node_words
      reset_long = (apart_saved i x.node says e.run).long ∙ G.long

      reset_clocked : Clocked reset_saved reset_node
      reset_clocked = clocked_set reset_saved quiet_at _ (omega arith) (omega arith)

      reset_apart : Apart i x.node reset_node
      reset_apart =
          apart_then i x.node reset_saved reset_node (apart_saved i x.node says e.run) (heeded_apart reset_saved reset_long e.entry.timeout i)

      pub reset_end : end_of reset_node i ≡ turned_to e says e.run
      reset_end =
          clocked_end reset_saved reset_node reset_clocked i
          ∙ end_saved x.node i says e.run G.long low (omega (arith, over_runs.1)) (run_fits x.node i) refl

      reset_acks : (waiting_of reset_node ≡ waiting_of x.node) × (acks_in reset_node ≡ acks_in x.node)
      reset_acks =
          let p = saved_acks x.node i says e.run in
          (clocked_waiting reset_saved reset_node reset_clocked ∙ p.0, clocked_acks reset_saved reset_node reset_clocked ∙ p.1)

      reset_entered : Entered x.book l i (turned_to e says e.run)
      reset_entered =
          let ran = ne_eqb over 0 over_runs.0 in
          let was = ne_eqb d 0 (o.standing reset refl) in
          entered_as x.book l i (turned_to e says e.run) window true kind says refl
          (record { fresh = o.fresh; silent = rw ran (rw was at o.silent); unsent = λ h. absurd (true≢false h); standing = λ z h. over_runs.0 })

      reset_kept : Ends t x (record { node = reset_node; book = idle_book; store = x.store; out = x.out }) l i
      reset_kept =
          record {
            good = sender_put t x.node x.book l G i known kind reset_node reset_apart reset_acks.0 reset_acks.1 idle_book l idle_within
                (turned_to e says e.run) reset_end
                (ends_entered x.book (within_same i x.book l G.lines) refl (turned_to e says e.run) reset_entered)
                (λ z. starts c (quiet_in reset_node) e.entry.timeout (omega arith) (heeded_quiet reset_saved reset_long e.entry.timeout timeout.0) timeout.1);
            apart = reset_apart;
            within = idle_within;
            run = ap (λ (z : EndPoint). z.run) reset_end;
            acks = reset_acks.1;
          }

  -- ---- by state

  was : (s : State) → e.state ≡ s → Timely c (quiet_in x.node) x.book i e s
  was s q = subst (Timely c (quiet_in x.node) x.book i e) q (G.timely i known)

  abbrev then : State → Lent
  then s = record { node = started_node x.node x.book i e s u; book = ended (started_book x.node x.book i e s u); store = x.store; out = x.out }

  enabled_idle : (d : ℕ) (sent : Bool) → e.state ≡ Enabled d sent → (is_reset u i ≡ true → d ≡ 0) → Ends t x (record { node = x.node; book = idle_book; store = x.store; out = x.out }) l i
  enabled_idle d sent q zeroed =
      idle_kept (subst (Timely c (quiet_in x.node) idle_book i e) (sym q) (λ z. sides (is_reset u i) refl))
    where
      sides : (r : Bool) → is_reset u i ≡ r → Outlasts c (quiet_in x.node) d
      sides true r = λ runs. absurd (runs (zeroed r))
      sides false r = was (Enabled d sent) q r

  by_state : (k : Bool) → is_sends e.entry.kind ≡ k → (s : State) → e.state ≡ s → Stated x.book l i e k s → Ends t x (then s) l i
  unfolding started_node started_book
  by_state k ke Closed q h = idle_kept (subst (Timely c (quiet_in x.node) idle_book i e) (sym q) tt)
  by_state true ke (Enabled d sent) q h = sides (is_reset u i) sent refl q h
    where
      sides : (r z : Bool) → is_reset u i ≡ r → e.state ≡ Enabled d z → EnabledSender x.book l i e d z
          → Ends t x (record { node = pick (r && z) (heeded (saved x.node i (Enabled (later c e.entry.timeout) true) e.run) e.entry.timeout) x.node; book = idle_book; store = x.store; out = x.out }) l i
      sides true true r q h = reset_kept ke d q h r
      sides true false r q h = enabled_idle d false q (λ z. h.unsent refl)
      sides false z r q h = enabled_idle d z q (λ y. absurd (true≢false (sym y ∙ r)))
  by_state false ke (Enabled d sent) q h = rw (h.2, and-false (is_reset u i)) (enabled_idle d sent q (λ z. h.1))
  by_state true ke Open q h = sides (data_starts x.book i e.run u) refl
    where
      sides : (z : Bool) → data_starts x.book i e.run u ≡ z
          → Ends t x (record {
            node = pick z (heeded x.node e.entry.timeout) x.node;
            book = ended (pick z (set x.book (timer_at (cell i w (out_number u))) (later c e.entry.timeout)) x.book);
            store = x.store;
            out = x.out;
          }) l i
      sides true d = open_kept ke (data_starts_holds x.book i e u d) q h
      sides false d = idle_kept (subst (Timely c (quiet_in x.node) idle_book i e) (sym q) (idle_outlasts d (quiet_in x.node) (omega arith) (was Open q)))
  by_state false ke Open q h = sides (data_starts x.book i e.run u) refl
    where
      sides : (z : Bool) → data_starts x.book i e.run u ≡ z
          → Ends t x (record {
            node = pick z (heeded x.node e.entry.timeout) x.node;
            book = ended (pick z (set x.book (timer_at (cell i w (out_number u))) (later c e.entry.timeout)) x.book);
            store = x.store;
            out = x.out;
          }) l i
      sides true d = absurd (omega (arith, (data_starts_holds x.book i e u d).handed, h.receiving.handed))
      sides false d = idle_kept (subst (Timely c (quiet_in x.node) idle_book i e) (sym q) (idle_outlasts d (quiet_in x.node) (omega arith) (was Open q)))
  by_state true ke (Failing n) q h = sides (data_starts x.book i e.run u) refl
    where
      sides : (z : Bool) → data_starts x.book i e.run u ≡ z
          → Ends t x (record {
            node = roused x.node;
            book = ended (pick z (set x.book (timer_at (cell i w (out_number u))) (later c e.entry.timeout)) x.book);
            store = x.store;
            out = x.out;
          }) l i
      sides true d = failing_starts ke n q h (data_starts_holds x.book i e u d)
      sides false d = failing_idle ke n q h d
  by_state false ke (Failing n) q h = absurd h

  pub report_passed : Ends t x (report_after x (Ok tt)) l i
  unfolding report_after
  report_passed = by_state (is_sends e.entry.kind) refl e.state refl (G.entered i known).stated

-- none under way: everything stays
pub report_refused : (x : Lent) → under_in x.book ≡ 0 → report_after x (report_answer x) ≡ x
unfolding report_answer report_after
report_refused x h = rw (eq-eqb (under_in x.book) 0 h)

pub report_goes : (x : Lent) → under_in x.book ≢ 0 → report_answer x ≡ Ok tt
unfolding report_answer
report_goes x h = rw (ne_eqb (under_in x.book) 0 h)

pub report_keeps : (t : List ℕ) (x : Lent) (l : Lists) → Good t x.node x.book l → under_in x.book ≢ 0 → Ends t x (report_after x (report_answer x)) l (out_entry (under_in x.book))
report_keeps t x l g h = rw (report_goes x h) (report_passed t x l g h)

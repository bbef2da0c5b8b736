-- The laws of a tick (specs/LawsTick.antt), from its two passes over the entries. Assumes nothing.
use Prim.Native.Nat.{ℕ, zero, suc}
use mathlib.Core.Path.{◌≡◌, refl, sym, ap, subst, ◌∙◌}
use mathlib.Core.Logic.{◌≢◌}
use mathlib.Core.Bool.{Bool, true, false, not, ◌&&◌}
use mathlib.Core.Option.{Option, none, some}
use mathlib.Core.List.Memᴰ
use mathlib.Core.List.{List, [], ◌∷◌, ◌++◌, append-nil, Memᴰ}
use native.Mathlib.Omega.{arith}
use lib.ListN.{length, get_elem?}
use lib.Dec.{eqb}
use borrow.Author.Tests.{eq-eqb, ne_eqb}
use Rattle.units.specs.Refusals.{pick}
use Rattle.end_points.specs.States.{is_over}
use Rattle.end_points.specs.declared.State.{State}
use Rattle.end_points.specs.declared.State.TheVariants.{Enabled, Open}
use Rattle.machine.specs.Calls.{ticks}
use Rattle.machine.specs.Machine.{Number, End, Item, Sort, acks, resets, urgents, resends, datas, Out, Machine, found, only, past, numbered, anew, failing, ticked_all, any_spent, ticked, each, is_of, recovered, bits_from, ticking, step}
use Rattle.machine.specs.Laws.{Is, after, answer, item, share_of}
use Rattle.machine.specs.LawsTick.{timers, in_turn, in_table, fails, due_from, due, SendsAgain, ExpiredResends, Fails, ExpiredFails, FailingFalls, ResetFalls, ResetTimerFalls, ClosedStays, TimersWait, Recovers, TickRecovers, TickAlone}
use Rattle.machine.proofs.Items.{rank_other, without_none, without_in}
use Rattle.machine.proofs.Passes.{passed, pass_end, pass_count, pass_head, pass_waiting, pass_share}
use Rattle.machine.proofs.Timers.{fell, timed, due_own, nothing_due, ticked_is}
use Rattle.machine.proofs.Numbers.{all_fall, none_retried, due_retried, some_spent, none_spent, due_in}
use Rattle.machine.proofs.Recovering.{again, over_adds, again_by, adds_by, over_own, recovered_is, bit_iff}

-- ---- the two passes

abbrev pub tick_one : ℕ → End → Machine → Machine
tick_one i e m = ticked m i e e.state

-- whatever is under way
pub tick_is : (u : Option Out) (m : Machine) → m.under ≡ u → (i : ℕ) (e : End) → Is m i e → tick_one i e m ≡ passed (λ i. timed) fails due due_own i e m
tick_is u m under = ticked_is m

module _ (m : Machine) where
  pub timers_end : (i : ℕ) (e : End) → Is m i e → Is (timers m) i (timed e)
  timers_end = pass_end (λ i. timed) fails due due_own tick_one m (tick_is m.under)

  timers_count : length (timers m).ends ≡ length m.ends
  timers_count = pass_count (λ i. timed) fails due due_own tick_one m (tick_is m.under)

  pub timers_under : (timers m).under ≡ m.under
  timers_under = ap (λ (n : Machine). n.under) (pass_head (λ i. timed) fails due due_own tick_one m (tick_is m.under))

  timers_share : (q : Sort) (i : ℕ) (e : End) → Is m i e → share_of i ((timers m).waiting q) ≡ pick (fails e) [] (share_of i (m.waiting q)) ++ due q i e
  timers_share = pass_share (λ i. timed) fails due due_own tick_one m (tick_is m.under)

  -- then those that are over
  abbrev pub last : Machine
  last = each (length (timers m).ends) recovered (timers m)

  pub after_is : after m ticks ≡ last
  unfolding step ticking
  after_is = ap (λ (n : ℕ). each n recovered (timers m)) (sym timers_count)

  abbrev u : Option Out
  u = (timers m).under

  last_end : (i : ℕ) (e : End) → Is (timers m) i e → Is last i (again_by u i e)
  last_end = pass_end (again_by u) (λ e. false) (adds_by u) (over_own u) recovered (timers m) (recovered_is u)

  last_share : (q : Sort) (i : ℕ) (e : End) → Is (timers m) i e → share_of i (last.waiting q) ≡ share_of i ((timers m).waiting q) ++ adds_by u q i e
  last_share = pass_share (again_by u) (λ e. false) (adds_by u) (over_own u) recovered (timers m) (recovered_is u)

  last_waiting : (q : Sort) → last.waiting q ≡ (timers m).waiting q ++ in_table (timers m) (adds_by u q)
  last_waiting q =
      pass_waiting (again_by u) (λ e. false) (adds_by u) (over_own u) recovered (timers m) (recovered_is u) q
      ∙ ap (λ (l : List Item). l ++ in_table (timers m) (adds_by u q)) (without_none _ ((timers m).waiting q) (λ x z. stays (get_elem? (timers m).ends x.entry)))
    where
      stays : (o : Option End) → found o false (λ e. false) ≡ false
      stays none = refl
      stays (some e) = refl

  pub after_end : (i : ℕ) (e : End) → Is m i e → Is (after m ticks) i (again (is_of i m.under) (timed e))
  after_end i e h =
      subst (λ (v : Option Out). Is (after m ticks) i (again_by v i (timed e))) timers_under
      (subst (λ (n : Machine). Is n i (again_by u i (timed e))) (sym after_is) (last_end i (timed e) (timers_end i e h)))

  pub after_share : (q : Sort) (i : ℕ) (e : End) → Is m i e
      → share_of i ((after m ticks).waiting q) ≡ pick (fails e) [] (share_of i (m.waiting q)) ++ due q i e ++ over_adds (is_of i m.under) q i (timed e)
  after_share q i e h =
      ap (λ (n : Machine). share_of i (n.waiting q)) after_is ∙ last_share q i (timed e) (timers_end i e h)
      ∙ ap (λ (l : List Item). l ++ adds_by u q i (timed e)) (timers_share q i e h)
      ∙ ap (λ (v : Option Out). (pick (fails e) [] (share_of i (m.waiting q)) ++ due q i e) ++ adds_by v q i (timed e)) timers_under

pub timers_wait : TimersWait
unfolding TimersWait
timers_wait m q = pass_waiting (λ i. timed) fails due due_own tick_one m (tick_is m.under) q

pub tick_alone : TickAlone
tick_alone =
    record {
      becomes = λ under e. again under (timed e);
      keeps = λ under q i e xs. pick (fails e) [] xs ++ due q i e ++ over_adds under q i (timed e);
      end = after_end;
      share = λ m i e h q. after_share m q i e h;
    }

-- ---- after all timers

over_waits : (under : Bool) (q : Sort) → q ≢ resets → (i : ℕ) (e : End) → over_adds under q i e ≡ []
over_waits under acks d i e = refl
over_waits under resets d i e = absurd (d refl)
over_waits under urgents d i e = refl
over_waits under resends d i e = refl
over_waits under datas d i e = refl

turn_none : (n : ℕ) (f : ℕ → List Item) → ((i : ℕ) → f i ≡ []) → in_turn n f ≡ []
unfolding in_turn
turn_none zero f h = refl
turn_none (suc n) f h = rw (turn_none n f h, h n)

last_recovers : (m : Machine) → Recovers (timers m) (last m) (answer m ticks)
unfolding step ticking
last_recovers m =
    record {
      bits = bits_from (timers m).under 0 (timers m).ends;
      numbers = refl;
      bit = bit_iff (timers m).under (timers m).ends;
      over = λ i e h o. subst (λ (d : End). Is (last m) i d) (rw o) (last_end m i e h);
      others = λ i e h o. subst (λ (d : End). Is (last m) i d) (rw o) (last_end m i e h);
      count = pass_count (again_by (u m)) (λ e. false) (adds_by (u m)) (over_own (u m)) recovered (timers m) (recovered_is (u m));
      behind = last_waiting m resets;
      waiting = λ q d. last_waiting m q ∙ rw (turn_none _ _ (λ i. stays q d i (get_elem? (timers m).ends i))) (append-nil _);
    }
  where
    stays : (q : Sort) → q ≢ resets → (i : ℕ) (o : Option End) → found o [] (adds_by (u m) q i) ≡ []
    stays q d i none = refl
    stays q d i (some e) = over_waits (is_of i (u m)) q d i e

pub tick_recovers : TickRecovers
unfolding TickRecovers
tick_recovers m = subst (λ (n : Machine). Recovers (timers m) n (answer m ticks)) (sym (after_is m)) (last_recovers m)

-- ---- at Open

module _ (m : Machine) (i : ℕ) (e : End) (here : Is m i e) (state : e.state ≡ Open) where
  abbrev ns : List Number
  ns = ticked_all e.entry.retries true e.numbers

  -- a frame of its own is under way
  abbrev under : Bool
  under = is_of i m.under

  -- none is spent
  module _ (left : any_spent e.entry.retries e.numbers ≡ false) where
    stays_open : again under (timed e) ≡ numbered e.start ns e
    stays_open =
        let t : timed e ≡ numbered e.start ns e = ap (λ (s : State). fell s e) state ∙ rw left in
        ap (again under) t ∙ rw state

    none_over : (q : Sort) → over_adds under q i (timed e) ≡ []
    none_over acks = refl
    none_over resets =
        let t : timed e ≡ numbered e.start ns e = ap (λ (s : State). fell s e) state ∙ rw left in
        ap (over_adds under resets i) t ∙ rw state
    none_over urgents = refl
    none_over resends = refl
    none_over datas = refl

    none_fails : fails e ≡ false
    none_fails = rw (state, left)

    open_share : (q : Sort) → share_of i ((after m ticks).waiting q) ≡ share_of i (m.waiting q) ++ due q i e
    open_share q = after_share m q i e here ∙ rw (none_over q, none_fails) (append-nil _)

    others_stay : (q : Sort) → q ≢ resends → due q i e ≡ []
    others_stay acks d = refl
    others_stay resets d = rw state
    others_stay urgents d = refl
    others_stay resends d = absurd (d refl)
    others_stay datas d = refl

    resends_are : due resends i e ≡ due_from i e 0 e.numbers
    resends_are = rw (state, left)

    sends_again : SendsAgain m i e
    sends_again =
        record {
          numbers = ns;
          end = subst (λ (d : End). Is (after m ticks) i d) stays_open (after_end m i e here);
          fall = all_fall e.entry.retries true e.numbers;
          retried = due_retried e.entry.retries e.numbers left;
          waits = again_waits;
          all = λ k x h t. without_in _ ((after m ticks).waiting resends) _
              (subst (λ (l : List Item). Memᴰ (item i (past e k)) l) (sym again_waits)
              (Memᴰ.append_right (share_of i (m.waiting resends)) (subst (λ (j : ℕ). Memᴰ (item i (past e j)) (due_from i e 0 e.numbers)) (omega arith) (due_in i e 0 e.numbers k x h t))));
          others = λ q d. open_share q ∙ rw (others_stay q d) (append-nil _);
        }
      where
        again_waits : share_of i ((after m ticks).waiting resends) ≡ share_of i (m.waiting resends) ++ due_from i e 0 e.numbers
        again_waits = open_share resends ∙ rw resends_are

  -- one is
  module _ (spent : any_spent e.entry.retries e.numbers ≡ true) where
    now_fails : fails e ≡ true
    now_fails = rw (state, spent)

    none_due : (q : Sort) → due q i e ≡ []
    none_due = nothing_due i e (rw state) (rw (state, spent))

    fails_then : Fails m i e
    fails_then =
        let t : timed e ≡ failing ns e = ap (λ (s : State). fell s e) state ∙ rw spent in
        record {
          numbers = ns;
          fall = all_fall e.entry.retries true e.numbers;
          end = subst (λ (d : End). Is (after m ticks) i d) (ap (again under) t) (after_end m i e here);
          silent = λ q. timers_share m q i e here ∙ rw (now_fails, none_due q);
        }

pub expired_resends : ExpiredResends
unfolding ExpiredResends
expired_resends m i e here state h = sends_again m i e here state (none_spent e.entry.retries e.numbers h)

pub expired_fails : ExpiredFails
unfolding ExpiredFails
expired_fails m i e here state k x h t r = fails_then m i e here state (some_spent e.entry.retries e.numbers k x h t r)

-- ---- at Failing, Enabled and Closed

pub failing_falls : FailingFalls
unfolding FailingFalls
failing_falls m i e n here state =
    record {
      numbers = ticked_all e.entry.retries false e.numbers;
      fall = all_fall e.entry.retries false e.numbers;
      retried = none_retried e.entry.retries e.numbers;
      end = subst (λ (d : End). Is (after m ticks) i d) (ap (λ (s : State). again (is_of i m.under) (fell s e)) state) (after_end m i e here);
      stays = λ q. timers_share m q i e here ∙ same q;
    }
  where
    same : (q : Sort) → pick (fails e) [] (share_of i (m.waiting q)) ++ due q i e ≡ share_of i (m.waiting q)
    same q = let f : fails e ≡ false = rw state in rw (f, nothing_due i e (rw state) (rw state) q) (append-nil _)

module _ (m : Machine) (i : ℕ) (e : End) (here : Is m i e) (timer : ℕ) (sent : Bool) (state : e.state ≡ Enabled timer sent) where
  enabled_share : (q : Sort) (b : Bool) → eqb timer 1 ≡ b → share_of i ((after m ticks).waiting q) ≡ share_of i (m.waiting q) ++ only resets (λ l. pick b (item i 0 ∷ []) []) q []
  enabled_share q b z = after_share m q i e here ∙ sides q
    where
      sides : (q : Sort) → pick (fails e) [] (share_of i (m.waiting q)) ++ due q i e ++ over_adds (is_of i m.under) q i (timed e) ≡ share_of i (m.waiting q) ++ only resets (λ l. pick b (item i 0 ∷ []) []) q []
      sides acks = rw state (append-nil _)
      sides resets = rw (state, z) (append-nil _)
      sides urgents = rw state (append-nil _)
      sides resends = rw state (append-nil _)
      sides datas = rw state (append-nil _)

  enabled_falls : ResetFalls m i e timer sent
  enabled_falls =
      record {
        end = subst (λ (d : End). Is (after m ticks) i d) (ap (λ (s : State). again (is_of i m.under) (fell s e)) state) (after_end m i e here);
        waits = λ t. enabled_share resets true (eq-eqb timer 1 t);
        still = λ t. enabled_share resets false (ne_eqb timer 1 t) ∙ append-nil _;
        others = λ q d. enabled_share q (eqb timer 1) refl ∙ rw (rank_other q resets d) (append-nil _);
      }

pub reset_timer_falls : ResetTimerFalls
unfolding ResetTimerFalls
reset_timer_falls m i e timer sent here state = enabled_falls m i e here timer sent state

pub closed_stays : ClosedStays
unfolding ClosedStays
closed_stays m i e here state = (
  subst (λ (d : End). Is (after m ticks) i d) (ap (λ (s : State). pick (is_over s && not (is_of i m.under)) (anew (Enabled 0 false) e) e) state)
      (subst (λ (d : End). Is (after m ticks) i (again (is_of i m.under) d)) (ap (λ (s : State). fell s e) state) (after_end m i e here)),
  (λ q. after_share m q i e here ∙ same q),
)
  where
    same : (q : Sort) → pick (fails e) [] (share_of i (m.waiting q)) ++ due q i e ++ over_adds (is_of i m.under) q i (timed e) ≡ share_of i (m.waiting q)
    same acks = rw state (append-nil _ ∙ append-nil _)
    same resets = rw state (append-nil _ ∙ append-nil _)
    same urgents = rw state (append-nil _ ∙ append-nil _)
    same resends = rw state (append-nil _ ∙ append-nil _)
    same datas = rw state (append-nil _ ∙ append-nil _)

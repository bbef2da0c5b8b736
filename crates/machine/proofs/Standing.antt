-- What no call alters, which calls leave the frame under way, and that nothing is held at the start of a window
-- (specs/Laws.antt). Assumes nothing.
use Prim.Native.Nat.{ℕ, zero, suc, ◌<◌}
use mathlib.Core.Path.{◌≡◌, refl, sym, ap, subst, ◌∙◌}
use mathlib.Core.Logic.{◌⊎◌, inl, inr}
use mathlib.Core.Bool.{Bool, true, false, not, ◌&&◌}
use mathlib.Core.Option.{Option, none, some}
use mathlib.Core.List.Memᴰ
use mathlib.Core.List.{List, [], ◌∷◌, Memᴰ}
use native.Mathlib.Decide.{ℕ_discrete}
use native.Mathlib.Omega.{arith}
use lib.ListN.{length, length-set}
use Rattle.units.specs.Refusals.{pick}
use Rattle.units.specs.declared.refusals.Refusal.{Refusal}
use Rattle.table.specs.Layout.{count_of, entry_of}
use Rattle.frame.specs.Layout.{payload_of}
use Rattle.frame.specs.Reading.{header_of}
use Rattle.end_points.specs.States.{is_over}
use Rattle.end_points.specs.declared.State.{State}
use Rattle.end_points.specs.declared.State.TheVariants.{Closed, Enabled, Open, Failing}
use Rattle.machine.specs.Calls.{Call, opens, closes, counts, sends, urges, plans, arrives, hands_out, reports, ticks}
use Rattle.machine.specs.Machine.{End, Item, Sort, acks, resets, urgents, resends, datas, Out, Machine, Outcome, node, port, turned, anew, unless, on_entry, listed, first, begun, send_tests, entry_for, opening, closing, counting, sending, urgent_sending, planning, reading, arriving, handed, going_out, type_of, in_order, handing_out, reporting, any_spent, each, is_of, recovered, step}
use Rattle.machine.specs.Laws.{Is, after, Free, AllFree, Standing, TableStays, UnderWayStays, StartStaysFree}
use Rattle.machine.specs.LawsTick.{timers, fails, due}
use Rattle.machine.proofs.Entries.{elem_there, elem_lt, elem_in, elem_set_same, elem_set_other}
use Rattle.machine.proofs.Passes.{passed, pass_end, pass_count, pass_head}
use Rattle.machine.proofs.Timers.{fell, timed, due_own}
use Rattle.machine.proofs.Recovering.{again, again_by, adds_by, over_own, recovered_is}
use Rattle.machine.proofs.Ticking.{tick_one, tick_is, timers_under, after_is}
use Rattle.machine.proofs.Judged.{by_entry, by_verdict}
use Rattle.machine.proofs.Planning.{by_plan}
use Rattle.machine.proofs.Hosting.{open_tests, opened, close_tests, closed, count_tests, counts_of, sent, urgent_tests, urged}
use Rattle.machine.proofs.Handing.{out_tests, room_tests, gone, goes}
use Rattle.machine.proofs.Touching.{Follows, same_follows, anew_follows, none_held, Touched, as_was, turns, waited, silenced, stopped, enabled_touches, closed_touches, sent_touches, urged_touches, by_read, arrival_tests, by_done, by_reported}

record Stands (m m' : Machine) : Type 0 where
  standing : Standing m m'
  free : AllFree m → AllFree m'

-- ---- one entry altered

one_end : (m : Machine) (i : ℕ) (e d : End) → Is m i e → Is m i d → e ≡ d
one_end m i e d h g = let y : some e ≡ some d = sym h ∙ g in cc

as_was_stands : (m : Machine) → Stands m m
as_was_stands m =
    record {
      standing = record { head = refl; count = refl; entry = λ i e d h g. ap (λ (z : End). z.entry) (one_end m i d e g h) };
      free = λ f. f;
    }

turned_stands : (m m' : Machine) → Stands m m' → (i : ℕ) (c d : End) → Is m i c → Follows c d → Stands m (turned i d m')
turned_stands m m' u i c d here f =
    record {
      standing = record { head = u.standing.head; count = length-set m'.ends i d ∙ u.standing.count; entry = λ k e z h g. sides_entry k e z h g (ℕ_discrete k i) };
      free = λ F k e g. sides_free F k e g (ℕ_discrete k i);
    }
  where
    low : i < length m'.ends
    low = let n = u.standing.count in let l = elem_lt m.ends i here in omega arith

    now : (z : End) → Is (turned i d m') i z → z ≡ d
    now z g = one_end (turned i d m') i z d g (elem_set_same m'.ends i d low)

    sides_entry : (k : ℕ) (e z : End) → Is m k e → Is (turned i d m') k z → Dec (k ≡ i) → z.entry ≡ e.entry
    sides_entry k e z h g (yes y) =
        ap (λ (x : End). x.entry) (now z (subst (λ (j : ℕ). Is (turned i d m') j z) y g)) ∙ f.entry
        ∙ ap (λ (x : End). x.entry) (one_end m i c e here (subst (λ (j : ℕ). Is m j e) y h))
    sides_entry k e z h g (no y) = u.standing.entry k e z h (sym (elem_set_other m'.ends i k d y) ∙ g)

    sides_free : AllFree m → (k : ℕ) (e : End) → Is (turned i d m') k e → Dec (k ≡ i) → Free e
    sides_free F k e g (yes y) = subst Free (sym (now e (subst (λ (j : ℕ). Is (turned i d m') j e) y g))) (f.free (F i c here))
    sides_free F k e g (no y) = u.free F k e (sym (elem_set_other m'.ends i k d y) ∙ g)

-- whatever waits then
waiting_stands : (m m' : Machine) → Stands m m' → (w : Sort → List Item) → Stands m (node m' m'.ends w)
waiting_stands m m' u w =
    record { standing = record { head = u.standing.head; count = u.standing.count; entry = u.standing.entry }; free = u.free }

-- whatever is under way then
port_stands : (m m' : Machine) → Stands m m' → (u : Option Out) → Stands m (port u m')
port_stands m m' u f =
    record { standing = record { head = u.standing.head; count = u.standing.count; entry = u.standing.entry }; free = u.free }

touched_stands : (m : Machine) (i : ℕ) {m' : Machine} → Touched i m m' → Stands m m'
touched_stands m i as_was = as_was_stands m
touched_stands m i (turns c d {m'} h f t) = turned_stands m m' (touched_stands m i t) i c d h f
touched_stands m i (waited q s {m'} t) = waiting_stands m m' (touched_stands m i t) _
touched_stands m i (silenced {m'} t) = waiting_stands m m' (touched_stands m i t) _
touched_stands m i (stopped s {m'} t) = waiting_stands m m' (touched_stands m i t) _

-- ---- handing out

handed_follows : (q : Sort) (e : End) (s : ℕ) → Follows e (handed q e s)
handed_follows acks e s = same_follows e refl refl
handed_follows resets e s = same_follows e refl refl
handed_follows urgents e s = same_follows e refl refl
handed_follows resends e s = same_follows e refl refl
handed_follows datas e s = same_follows e refl refl

module _ (m : Machine) where
  abbrev Leaves : Outcome → Type 0
  Leaves o = Stands m o.machine

  going_stands : (out : List ℕ) (q : Sort) (l : List Item) (other : Outcome) → Leaves other → Leaves (going_out m out q l other)
  unfolding going_out
  going_stands out q [] other k = k
  going_stands out q (x ∷ xs) other k =
      by_entry Leaves m x.entry other (goes m out q x) k
      (λ e h. by_verdict Leaves (room_tests m out q x e) out m (gone m out q x e) (λ w. as_was_stands m)
      (λ v. port_stands m _ (waiting_stands m (turned x.entry (handed q e x.number) m)
      (turned_stands m m (as_was_stands m) x.entry e (handed q e x.number) h (handed_follows q e x.number)) _) (some (type_of q, x))))

  order_stands : (out : List ℕ) (qs : List Sort) → Leaves (in_order m out qs)
  unfolding in_order
  order_stands out [] = as_was_stands m
  order_stands out (q ∷ qs) = going_stands out q (m.waiting q) (in_order m out qs) (order_stands out qs)

-- ---- a tick

both_stand : (a b c : Machine) → Stands a b → Stands b c → Stands a c
both_stand a b c u v =
    record {
      standing = record {
        head = ap (λ (z : Machine). port a.under (node z a.ends a.waiting)) v.standing.head ∙ u.standing.head;
        count = v.standing.count ∙ u.standing.count;
        entry = λ i e d h g.
            let t = elem_there b.ends i (let n = u.standing.count in let l = elem_lt a.ends i h in omega arith) in
            v.standing.entry i t.0 d t.1 g ∙ u.standing.entry i e t.0 h t.1;
      };
      free = λ f. v.free (u.free f);
    }

module _ (become : ℕ → End → End) (gone : End → Bool) (adds : Sort → ℕ → End → List Item) (own : (q : Sort) (i : ℕ) (e : End) (x : Item) → Memᴰ x (adds q i e) → x.entry ≡ i)
    (f : ℕ → End → Machine → Machine) (m : Machine) (is : (n : Machine) → n.under ≡ m.under → (i : ℕ) (e : End) → Is n i e → f i e n ≡ passed become gone adds own i e n)
    (follows : (i : ℕ) (e : End) → Follows e (become i e)) where
  abbrev whole : Machine
  whole = each (length m.ends) f m

  pass_stands : Stands m whole
  pass_stands =
      record {
        standing = record {
          head = ap (port m.under) (pass_head become gone adds own f m is);
          count = pass_count become gone adds own f m is;
          entry = λ i e d h g. ap (λ (z : End). z.entry) (now i e d h g) ∙ (follows i e).entry;
        };
        free = λ F i d g.
            let t = elem_there m.ends i (let n = pass_count become gone adds own f m is in let l = elem_lt whole.ends i g in omega arith) in
            subst Free (sym (now i t.0 d t.1 g)) ((follows i t.0).free (F i t.0 t.1));
      }
    where
      now : (i : ℕ) (e d : End) → Is m i e → Is whole i d → d ≡ become i e
      now i e d h g = one_end whole i d (become i e) g (pass_end become gone adds own f m is i e h)

timed_follows : (e : End) → Follows e (timed e)
timed_follows e = by e.state
  where
    one_of : (b : Bool) (x y : End) → Follows e x → Follows e y → Follows e (pick b x y)
    one_of true x y a c = a
    one_of false x y a c = c

    by : (s : State) → Follows e (fell s e)
    by Closed = same_follows e refl refl
    by (Enabled t sent) = same_follows e refl refl
    by Open = one_of (any_spent e.entry.retries e.numbers) _ _ (same_follows e refl refl) (same_follows e refl refl)
    by (Failing n) = same_follows e refl refl

again_follows : (under : Bool) (e : End) → Follows e (again under e)
again_follows under e = by (is_over e.state && not under)
  where
    by : (b : Bool) → Follows e (pick b (anew (Enabled 0 false) e) e)
    by true = anew_follows e refl refl
    by false = same_follows e refl refl

tick_stands : (m : Machine) → Stands m (after m ticks)
tick_stands m =
    subst (Stands m) (sym (after_is m))
    (both_stand m (timers m) _ (pass_stands (λ i. timed) fails due due_own tick_one m (tick_is m.under) (λ i. timed_follows))
    (pass_stands (again_by u) (λ e. false) (adds_by u) (over_own u) recovered (timers m) (recovered_is u) (λ i. again_follows (is_of i u))))
  where
    u : Option Out
    u = (timers m).under

-- ---- every call

module _ (m : Machine) where
  -- by the host, on entry i
  host_stands : (i : ℕ) (tests : End → List (Bool × Refusal)) (g : End → Outcome) → ((e : End) → Is m i e → Touched i m (g e).machine)
      → Leaves m (on_entry m i (λ e. unless (tests e) [] m (g e)))
  host_stands i tests g t = by_done (Leaves m) m i tests g (λ w. as_was_stands m) (λ e h. touched_stands m i (t e h))

  open_stands : (i : ℕ) → Leaves m (opening m i)
  unfolding opening
  open_stands i = host_stands i open_tests (opened m i) (enabled_touches m i)

  close_stands : (i : ℕ) → Leaves m (closing m i)
  unfolding closing
  close_stands i = host_stands i close_tests (closed m i) (closed_touches m i)

  counts_stand : (i : ℕ) → Leaves m (counting m i)
  unfolding counting
  counts_stand i = host_stands i count_tests (counts_of m) (λ e h. as_was)

  send_stands : (i : ℕ) (p : List ℕ) → Leaves m (sending m i p)
  unfolding sending
  send_stands i p = host_stands i (λ e. send_tests m e p) (sent m i p) (λ e. sent_touches m i e p)

  urgent_stands : (i : ℕ) (p : List ℕ) → Leaves m (urgent_sending m i p)
  unfolding urgent_sending
  urgent_stands i p = host_stands i (urgent_tests m p) (urged m i p) (λ e. urged_touches m i e p)

  arrive_stands : (block f : List ℕ) → Leaves m (arriving m block f)
  unfolding arriving
  arrive_stands block f =
      by_verdict (Leaves m) (arrival_tests m f) block m (reading m block (header_of f) (payload_of f)) (λ w. as_was_stands m)
      (λ v. by_read (Leaves m) m block (λ w. as_was_stands m) (header_of f) (payload_of f) (λ h z m' t ns out' l. touched_stands m (entry_for m h) t))

  hand_stands : (buffer : List ℕ) → Leaves m (handing_out m buffer)
  unfolding handing_out
  hand_stands buffer =
      by_verdict (Leaves m) (out_tests m) buffer m (in_order m buffer (acks ∷ resets ∷ urgents ∷ resends ∷ datas ∷ [])) (λ w. as_was_stands m)
      (λ v. order_stands m buffer (acks ∷ resets ∷ urgents ∷ resends ∷ datas ∷ []))

  report_stands : Leaves m (reporting m)
  unfolding reporting
  report_stands =
      by_reported (Leaves m) m m.under (as_was_stands m)
      (λ f z m' t. port_stands m m' (touched_stands m f.1.entry t) none)

-- what is altered once, and then again
then_stands : {m k l : Machine} → Stands m k → Stands k l → Stands m l
then_stands {m} {k} {l} a b =
    record {
      standing = record {
        head = ap (λ (x : Machine). port m.under (node x m.ends m.waiting)) b.standing.head ∙ a.standing.head;
        count = b.standing.count ∙ a.standing.count;
        entry = λ i e d h g. between i e d h g;
      };
      free = λ f. b.free (a.free f);
    }
  where
    between : (i : ℕ) (e d : End) → Is m i e → Is l i d → d.entry ≡ e.entry
    between i e d h g =
        let n = a.standing.count in
        let low = elem_lt m.ends i h in
        let c = elem_there k.ends i (omega arith) in
        b.standing.entry i c.0 d c.1 g ∙ a.standing.entry i e c.0 h c.1

plan_stands : (m : Machine) (i : ℕ) (block : List ℕ) → Leaves m (planning m i block)
plan_stands m i block =
    by_plan (λ k o. Stands k o.machine) i (λ k ns. as_was_stands k) (λ k p o s. then_stands (send_stands k i p) s)
    (λ k w. as_was_stands k) m block

call_stands : (m : Machine) (c : Call) → Leaves m (step m c)
unfolding step
call_stands m (opens i) = open_stands m i
call_stands m (closes i) = close_stands m i
call_stands m (counts i) = counts_stand m i
call_stands m (sends i p) = send_stands m i p
call_stands m (urges i p) = urgent_stands m i p
call_stands m (plans i block) = plan_stands m i block
call_stands m (arrives block f) = arrive_stands m block f
call_stands m (hands_out buffer) = hand_stands m buffer
call_stands m reports = report_stands m
call_stands m ticks = tick_stands m

pub table_stays : TableStays
unfolding TableStays
table_stays m c = (call_stands m c).standing

-- ---- the frame under way

touched_under : (m : Machine) (i : ℕ) {m' : Machine} → Touched i m m' → m'.under ≡ m.under
touched_under m i as_was = refl
touched_under m i (turns c d h f t) = touched_under m i t
touched_under m i (waited q s t) = touched_under m i t
touched_under m i (silenced t) = touched_under m i t
touched_under m i (stopped s t) = touched_under m i t

module _ (m : Machine) where
  abbrev Same : Outcome → Type 0
  Same o = o.machine.under ≡ m.under

  host_same : (i : ℕ) (tests : End → List (Bool × Refusal)) (g : End → Outcome) → ((e : End) → Is m i e → Touched i m (g e).machine)
      → Same (on_entry m i (λ e. unless (tests e) [] m (g e)))
  host_same i tests g t = by_done Same m i tests g (λ w. refl) (λ e h. touched_under m i (t e h))

  arrive_same : (block f : List ℕ) → Same (arriving m block f)
  unfolding arriving
  arrive_same block f =
      by_verdict Same (arrival_tests m f) block m (reading m block (header_of f) (payload_of f)) (λ w. refl)
      (λ v. by_read Same m block (λ w. refl) (header_of f) (payload_of f) (λ h z m' t ns out' l. touched_under m (entry_for m h) t))

  tick_same : (after m ticks).under ≡ m.under
  tick_same =
      let u = (timers m).under in
      ap (λ (n : Machine). n.under)
      (after_is m) ∙ ap (λ (n : Machine). n.under) (pass_head (again_by u) (λ e. false) (adds_by u) (over_own u) recovered (timers m) (recovered_is u))
      ∙ timers_under m

pub under_way_stays : UnderWayStays
unfolding UnderWayStays step opening closing counting sending urgent_sending
under_way_stays m (opens i) a = host_same m i open_tests (opened m i) (enabled_touches m i)
under_way_stays m (closes i) a = host_same m i close_tests (closed m i) (closed_touches m i)
under_way_stays m (counts i) a = host_same m i count_tests (counts_of m) (λ e h. as_was)
under_way_stays m (sends i p) a = host_same m i (λ e. send_tests m e p) (sent m i p) (λ e. sent_touches m i e p)
under_way_stays m (urges i p) a = host_same m i (urgent_tests m p) (urged m i p) (λ e. urged_touches m i e p)
under_way_stays m (plans i block) a =
    by_plan (λ k o. o.machine.under ≡ k.under) i (λ k ns. refl) (λ k p o h. h ∙ sent_same k p) (λ k w. refl) m block
  where
    sent_same : (k : Machine) (p : List ℕ) → (sending k i p).machine.under ≡ k.under
    sent_same k p = host_same k i (λ e. send_tests k e p) (sent k i p) (λ e. sent_touches k i e p)
under_way_stays m (arrives block f) a = arrive_same m block f
under_way_stays m (hands_out buffer) a = absurd a
under_way_stays m reports a = absurd a
under_way_stays m ticks a = tick_same m

-- ---- setup

listed_all : (P : End → Type 0) (n : ℕ) (f : ℕ → End) → ((i : ℕ) → P (f i)) → (e : End) → Memᴰ e (listed n f) → P e
unfolding listed
listed_all P zero f h e z = absurd (Memᴰ.not-nil z)
listed_all P (suc n) f h e z = sides (listed_all P n f h e) (Memᴰ.append_cases (listed n f) z)
  where
    sides : (Memᴰ e (listed n f) → P e) → Memᴰ e (listed n f) ⊎ Memᴰ e (f n ∷ []) → P e
    sides below (inl y) = below y
    sides below (inr y) = subst P (sym (Memᴰ.eq_of_singleton y)) (h n)

pub start_stays_free : StartStaysFree
unfolding begun
start_stays_free =
    record {
      first = λ t room i e h. listed_all Free (count_of t) (λ i. first (entry_of t i)) (λ i. none_held (entry_of t i).window) e (elem_in _ i h);
      then = λ m c. (call_stands m c).free;
    }

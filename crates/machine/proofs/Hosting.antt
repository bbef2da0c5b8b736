-- The laws of the host's calls (specs/LawsCalls.antt). Assumes nothing.
use Prim.Native.Nat.{ℕ}
use mathlib.Core.Path.{◌≡◌, refl, sym, ap, subst, ◌∙◌}
use mathlib.Core.Logic.{◌≢◌}
use mathlib.Core.Bool.{Bool, true, false, not}
use mathlib.Core.Option.{Option, none, some}
use mathlib.Core.List.{List, [], ◌∷◌, ◌++◌}
use native.Mathlib.Omega.{arith}
use lib.ListN.{length, set}
use borrow.Author.Tests.{eq-eqb, ne_eqb, eqb-false, le-ltb, ltb-false, lt-leb, leb-false, not-false}
use Rattle.units.specs.Limits.{most_accepted}
use Rattle.units.specs.Refusals.{pick}
use Rattle.units.specs.declared.refusals.Refusal.{Refusal}
use Rattle.units.specs.declared.refusals.Refusal.TheVariants as refusal
use Rattle.units.proofs.Judging.{Clear}
use Rattle.end_points.specs.Answers.{counted_of}
use Rattle.end_points.specs.States.{is_sends, is_closed, is_open}
use Rattle.end_points.specs.declared.State.{State}
use Rattle.end_points.specs.declared.State.TheVariants.{Closed, Enabled, Open, Failing}
use Rattle.machine.specs.Machine.{End, resets, urgents, datas, Machine, Outcome, turned, waits, silent, past, anew, enabled, answers, done, too_short, opening, closing, counting, sender_tests, send_tests, taking, sending, is_some, urging, urgent_sending, step}
use Rattle.machine.specs.Laws.{Is, Anew, of_entry}
use Rattle.machine.specs.LawsCalls.{OpenGoes, Enables, OpenEnables, CloseGoes, Closes, CloseCloses, CountsGo, CountsTell, MaySend, SendGoes, Takes, SendTakes, MayUrge, UrgentGoes, Urges, UrgentTakes}
use Rattle.machine.proofs.Entries.{elem_lt, elem_set_same}
use Rattle.machine.proofs.Items.{share_gone, waits_last}
use Rattle.machine.proofs.Judged.{by_entry, by_verdict, done_is, only_done}
use Rattle.std.specs.Prelude.{Ok}
use Rattle.end_points.proofs.Telling.{is_closed_holds, is_open_holds}

-- ---- states by their tests

pub not_closed : (s : State) → s ≢ Closed → is_closed s ≡ false
not_closed Closed h = absurd (h refl)
not_closed (Enabled t sent) h = refl
not_closed Open h = refl
not_closed (Failing n) h = refl

is_none : (o : Option (List ℕ)) → is_some o ≡ false → o ≡ none
is_none none h = refl
is_none (some p) h = absurd (let z : ◌≡◌ {A = ℕ} 0 1 = cc in omega arith)

true_false : {A : Type 0} → true ≡ false → A
true_false h = absurd (let z : ◌≡◌ {A = ℕ} 0 1 = cc in omega arith)

-- ---- open

abbrev pub open_tests : End → List (Bool × Refusal)
open_tests e = (not (is_closed e.state), refusal.WrongState) ∷ []

abbrev pub opened : Machine → ℕ → End → Outcome
opened m i e = done (enabled i e m)

pub open_goes : OpenGoes
unfolding OpenGoes step opening
open_goes m i = (
  (λ h. let d = only_done m i [] open_tests (opened m i) h in (d.0, d.1, is_closed_holds d.0.state (not-false _ d.2.0))),
  (λ d. ap (λ (o : Outcome). o.answer.numbers) (done_is m i d.0 open_tests (opened m i) d.1 (rw d.2, tt))),
)

pub anew_is : (s : State) (e : End) → Anew s e (anew s e)
anew_is s e = record { entry = refl; state = refl; start = refl; numbers = refl; places = refl; urgent = refl }

pub open_enables : OpenEnables
unfolding OpenEnables step opening enabled
open_enables m i e here closed =
    subst (λ (o : Outcome). Enables m o.machine i e) (sym (done_is m i e open_tests (opened m i) here (rw closed, tt)))
    (sides (is_sends e.entry.kind) refl)
  where
    e' : End
    e' = anew (Enabled 0 false) e

    is : Is (turned i e' m) i e'
    is = elem_set_same m.ends i e' (elem_lt m.ends i here)

    sides : (b : Bool) → is_sends e.entry.kind ≡ b → Enables m (pick b (waits resets i 0 (turned i e' m)) (turned i e' m)) i e
    sides true h =
        record {
          end = e';
          is = is;
          anew = anew_is (Enabled 0 false) e;
          counts = record { accepted = refl; confirmed = refl };
          sends = λ z. waits_last m (set m.ends i e') resets i 0;
          receives = λ z. true_false (sym h ∙ z);
        }
    sides false h =
        record {
          end = e';
          is = is;
          anew = anew_is (Enabled 0 false) e;
          counts = record { accepted = refl; confirmed = refl };
          sends = λ z. true_false (sym z ∙ h);
          receives = λ z q. refl;
        }

-- ---- close

abbrev pub close_tests : End → List (Bool × Refusal)
close_tests e = (is_closed e.state, refusal.WrongState) ∷ []

abbrev pub closed : Machine → ℕ → End → Outcome
closed m i e = done (silent i (turned i (anew Closed e) m))

pub close_goes : CloseGoes
unfolding CloseGoes step closing
close_goes m i = (
  (λ h. let d = only_done m i [] close_tests (closed m i) h in (d.0, d.1, (λ c. true_false (ap is_closed (sym c) ∙ d.2.0)))),
  (λ d. ap (λ (o : Outcome). o.answer.numbers) (done_is m i d.0 close_tests (closed m i) d.1 (not_closed d.0.state d.2, tt))),
)

pub close_closes : CloseCloses
unfolding CloseCloses step closing
close_closes m i e here other =
    subst (λ (o : Outcome). Closes m o.machine i e) (sym (done_is m i e close_tests (closed m i) here (not_closed e.state other, tt)))
    (record {
      end = anew Closed e;
      is = elem_set_same m.ends i (anew Closed e) (elem_lt m.ends i here);
      anew = anew_is Closed e;
      counts = record { accepted = refl; confirmed = refl };
      silent = λ q. share_gone (of_entry i) i (m.waiting q) (λ x h. eq-eqb x.entry i h);
      others = λ q. refl;
    })

-- ---- counts

abbrev pub count_tests : End → List (Bool × Refusal)
count_tests e = (not (is_sends e.entry.kind), refusal.OtherKind) ∷ []

abbrev pub counts_of : Machine → End → Outcome
counts_of m e = answers (counted_of (Ok (record { accepted = record { 0 = e.accepted }; confirmed = record { 0 = e.confirmed } }))) [] m

pub counts_go : CountsGo
unfolding CountsGo step counting
counts_go m i a c = (
  (λ h. let d = only_done m i (a ∷ c ∷ []) count_tests (counts_of m) h in told d.0 d.1 (not-false _ d.2.0) d.3),
  (λ d. ap (λ (o : Outcome). o.answer.numbers) (done_is m i d.0 count_tests (counts_of m) d.1 (rw d.2, tt)) ∙ rw (d.3, d.4)),
)
  where
    told : (e : End) → Is m i e → is_sends e.entry.kind ≡ true → 0 ∷ e.accepted ∷ e.confirmed ∷ [] ≡ 0 ∷ a ∷ c ∷ []
        → (e : End) × Is m i e × (is_sends e.entry.kind ≡ true) × (e.accepted ≡ a) × (e.confirmed ≡ c)
    told e h s z = (e, h, s, (let y : e.accepted ≡ a = cc in y), (let y : e.confirmed ≡ c = cc in y))

pub counts_tell : CountsTell
unfolding CountsTell step counting
counts_tell m i =
    by_entry (λ o. o.machine ≡ m) m i _ _ refl (λ e h. by_verdict (λ o. o.machine ≡ m) (count_tests e) [] m (counts_of m e) (λ w. refl) (λ v. refl))

-- ---- send

abbrev pub sent : Machine → ℕ → List ℕ → End → Outcome
sent m i p e = done (waits datas i (past e (length e.numbers)) (turned i (taking p e) m))

send_clear : (m : Machine) (i : ℕ) (e : End) (p : List ℕ) → MaySend m i e p → Clear (send_tests m e p)
send_clear m i e p y = (
  ap not y.sends,
  (
    ap (λ (s : State). not (is_open s)) y.opened,
    (
      ne_eqb (length p) 0 (λ h. let z = y.some in omega arith),
      (
        le-ltb e.entry.largest (length p) y.most,
        (ne_eqb e.accepted most_accepted y.counted, (lt-leb e.entry.window (length e.numbers) y.room, (le-ltb m.room m.need y.store, tt))),
      ),
    ),
  ),
)

pub clear_send : (m : Machine) (i : ℕ) (e : End) (p : List ℕ) → Is m i e → Clear (send_tests m e p) → MaySend m i e p
clear_send m i e p h c =
    record {
      there = h;
      sends = not-false _ c.0;
      opened = is_open_holds e.state (not-false _ c.1.0);
      some = let z = eqb-false (length p) 0 c.1.1.0 in omega arith;
      most = ltb-false e.entry.largest (length p) c.1.1.1.0;
      counted = eqb-false e.accepted most_accepted c.1.1.1.1.0;
      room = leb-false e.entry.window (length e.numbers) c.1.1.1.1.1.0;
      store = ltb-false m.room m.need c.1.1.1.1.1.1.0;
    }

pub send_goes : SendGoes
unfolding SendGoes step sending
send_goes m i p = (
  (λ h. let d = only_done m i [] (λ e. send_tests m e p) (sent m i p) h in (d.0, clear_send m i d.0 p d.1 d.2)),
  (λ d. ap (λ (o : Outcome). o.answer.numbers) (done_is m i d.0 (λ e. send_tests m e p) (sent m i p) d.1.there (send_clear m i d.0 p d.1))),
)

pub send_takes : SendTakes
unfolding SendTakes step sending
send_takes m i e p y =
    subst (λ (o : Outcome). Takes m o.machine i e p) (sym (done_is m i e (λ e. send_tests m e p) (sent m i p) y.there (send_clear m i e p y)))
    (record {
      end = taking p e;
      is = elem_set_same m.ends i (taking p e) (elem_lt m.ends i y.there);
      entry = refl;
      state = y.opened;
      accepted = refl;
      confirmed = refl;
      start = refl;
      numbers = refl;
      places = refl;
      urgent = refl;
      waits = waits_last m (set m.ends i (taking p e)) datas i (past e (length e.numbers));
    })

-- ---- Urgent

abbrev pub urgent_tests : Machine → List ℕ → End → List (Bool × Refusal)
urgent_tests m p e = sender_tests e p ++ (is_some e.urgent, refusal.UrgentWaits) ∷ too_short m ∷ []

abbrev pub urged : Machine → ℕ → List ℕ → End → Outcome
urged m i p e = done (waits urgents i 0 (turned i (urging (some p) e) m))

urge_clear : (m : Machine) (i : ℕ) (e : End) (p : List ℕ) → MayUrge m i e p → Clear (urgent_tests m p e)
urge_clear m i e p y = (
  ap not y.sends,
  (
    ap (λ (s : State). not (is_open s)) y.opened,
    (
      ne_eqb (length p) 0 (λ h. let z = y.some in omega arith),
      (le-ltb e.entry.largest (length p) y.most, (ap is_some y.no_other, (le-ltb m.room m.need y.store, tt))),
    ),
  ),
)

clear_urge : (m : Machine) (i : ℕ) (e : End) (p : List ℕ) → Is m i e → Clear (urgent_tests m p e) → MayUrge m i e p
clear_urge m i e p h c =
    record {
      there = h;
      sends = not-false _ c.0;
      opened = is_open_holds e.state (not-false _ c.1.0);
      some = let z = eqb-false (length p) 0 c.1.1.0 in omega arith;
      most = ltb-false e.entry.largest (length p) c.1.1.1.0;
      no_other = is_none e.urgent c.1.1.1.1.0;
      store = ltb-false m.room m.need c.1.1.1.1.1.0;
    }

pub urgent_goes : UrgentGoes
unfolding UrgentGoes step urgent_sending
urgent_goes m i p = (
  (λ h. let d = only_done m i [] (urgent_tests m p) (urged m i p) h in (d.0, clear_urge m i d.0 p d.1 d.2)),
  (λ d. ap (λ (o : Outcome). o.answer.numbers) (done_is m i d.0 (urgent_tests m p) (urged m i p) d.1.there (urge_clear m i d.0 p d.1))),
)

pub urgent_takes : UrgentTakes
unfolding UrgentTakes step urgent_sending
urgent_takes m i e p y =
    subst (λ (o : Outcome). Urges m o.machine i e p) (sym (done_is m i e (urgent_tests m p) (urged m i p) y.there (urge_clear m i e p y)))
    (record {
      end = elem_set_same m.ends i (urging (some p) e) (elem_lt m.ends i y.there);
      waits = waits_last m (set m.ends i (urging (some p) e)) urgents i 0;
    })

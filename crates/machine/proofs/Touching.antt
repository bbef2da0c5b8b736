-- What a call may do to the machine: it is refused, or it alters its own entry in a few ways and what waits of it. Handing
-- out and the report alter the frame under way besides.
-- Assumes nothing.
use Prim.Native.Nat.{ℕ, zero, suc}
use mathlib.Core.Path.{◌≡◌, refl, sym, subst}
use mathlib.Core.Logic.{◌≢◌}
use mathlib.Core.Bool.{Bool, true, false, not, ◌&&◌}
use mathlib.Core.Option.{Option, none, some}
use mathlib.Core.List.{List, [], ◌∷◌, ◌++◌}
use native.Mathlib.Omega.{arith}
use lib.ListN.{length, drop, get_elem?, set, replicate}
use lib.Seq.{length-sets}
use lib.Dec.{eqb}
use Rattle.units.specs.Refusals.{pick}
use Rattle.units.specs.declared.refusals.Refusal.{Refusal}
use Rattle.units.specs.declared.refusals.Refusal.TheVariants as refusal
use Rattle.frame.specs.Faults.{refused_of}
use Rattle.frame.specs.Reading.{sound_of}
use Rattle.frame.specs.declared.Header.{Header}
use Rattle.frame.specs.declared.FrameType.{FrameType}
use Rattle.frame.specs.declared.FrameType.TheVariants as type
use Rattle.end_points.specs.declared.State.{State}
use Rattle.end_points.specs.declared.State.TheVariants.{Closed, Enabled, Open, Failing}
use Rattle.end_points.specs.declared.answers.Was.TheVariants as was
use Rattle.end_points.specs.States.{is_sends}
use Rattle.blocks.specs.Blocks.{block_of}
use Rattle.machine.specs.Machine.{Number, End, Sort, acks, resets, urgents, datas, Out, Machine, Outcome, port, stated, counted, found, turned, waits, silent, not_again, past, taking, urging, anew, enabled, answers, done, unless, on_entry, offset, number_at, timed, acked_run, running, passing, told, acked, acking, held_run, delivering, handing_on, is_new, receiving, resetting, taken_in, entry_tests, entry_for, reading, is_ours, recounted, data_timed, reset_timed, ended, reported}
use Rattle.machine.specs.Laws.{Is, Free}
use Rattle.machine.proofs.Entries.{not_none}
use Rattle.machine.proofs.Blocks.{Places}
use Rattle.machine.proofs.Judged.{by_entry, by_verdict}
use Rattle.std.specs.Prelude.{Result, Ok, Err}

-- ---- an end point and what it may become

-- of the same entry, and with nothing held at the start where nothing was
pub record Follows (e d : End) : Type 0 where
  pub entry : d.entry ≡ e.entry
  pub free : Free e → Free d

-- its places as they were
pub same_follows : (e : End) {d : End} → d.entry ≡ e.entry → d.places ≡ e.places → Follows e d
same_follows e {d} x h = record { entry = x; free = λ f. subst (λ (ps : Places). (p : List ℕ) → get_elem? ps 0 ≢ some (some p)) (sym h) f }

-- with none held
pub none_held : (n : ℕ) (p : List ℕ) → get_elem? {A = Option (List ℕ)} (replicate n none) 0 ≢ some (some p)
none_held zero p h = not_none h
none_held (suc n) p h = absurd (let z : ◌≡◌ {A = ℕ} 0 1 = cc in omega arith)

pub anew_follows : (e : End) {d : End} → d.entry ≡ e.entry → d.places ≡ replicate e.entry.window none → Follows e d
anew_follows e {d} x h =
    record { entry = x; free = λ f. subst (λ (ps : Places). (p : List ℕ) → get_elem? ps 0 ≢ some (some p)) (sym h) (none_held e.entry.window) }

-- the start has passed what was held without a gap
moved_free : (ps rs : Places) → ((p : List ℕ) → get_elem? rs 0 ≢ some (some p)) → (p : List ℕ) → get_elem? (drop (length (held_run ps)) ps ++ rs) 0 ≢ some (some p)
unfolding held_run
moved_free [] rs f p h = f p h
moved_free (none ∷ ps) rs f p h = absurd (let z : ◌≡◌ {A = ℕ} 0 1 = cc in omega arith)
moved_free (some q ∷ ps) rs f p h = moved_free ps rs f p h

pub moved_follows : (ps : Places) (e : End) → Follows e (handing_on (length (held_run ps)) ps e)
moved_follows ps e = record { entry = refl; free = λ f. moved_free ps (replicate (length (held_run ps)) none) (none_held (length (held_run ps))) }

-- ---- what a call may do to entry i

pub data Touched (i : ℕ) (m : Machine) : Machine → Type 0 where
  as_was : Touched i m m
  turns : (e d : End) {m' : Machine} → Is m i e → Follows e d → Touched i m m' → Touched i m (turned i d m')
  waited : (q : Sort) (s : ℕ) {m' : Machine} → Touched i m m' → Touched i m (waits q i s m')
  silenced : {m' : Machine} → Touched i m m' → Touched i m (silent i m')
  stopped : (s : ℕ) {m' : Machine} → Touched i m m' → Touched i m (not_again i s m')

pub enabled_touches : (m : Machine) (i : ℕ) (e : End) → Is m i e → Touched i m (enabled i e m)
unfolding enabled
enabled_touches m i e here = sides (is_sends e.entry.kind)
  where
    e' : End
    e' = anew (Enabled 0 false) e

    sides : (b : Bool) → Touched i m (pick b (waits resets i 0 (turned i e' m)) (turned i e' m))
    sides true = waited resets 0 (turns e e' here (anew_follows e refl refl) as_was)
    sides false = turns e e' here (anew_follows e refl refl) as_was

pub closed_touches : (m : Machine) (i : ℕ) (e : End) → Is m i e → Touched i m (silent i (turned i (anew Closed e) m))
closed_touches m i e here = silenced (turns e (anew Closed e) here (anew_follows e refl refl) as_was)

pub sent_touches : (m : Machine) (i : ℕ) (e : End) (p : List ℕ) → Is m i e → Touched i m (waits datas i (past e (length e.numbers)) (turned i (taking p e) m))
sent_touches m i e p here = waited datas _ (turns e (taking p e) here (same_follows e refl refl) as_was)

pub urged_touches : (m : Machine) (i : ℕ) (e : End) (p : List ℕ) → Is m i e → Touched i m (waits urgents i 0 (turned i (urging (some p) e) m))
urged_touches m i e p here = waited urgents 0 (turns e (urging (some p) e) here (same_follows e refl refl) as_was)

-- a frame that is taken in is answered with 0 and more, and does no more than this
module _ (P : Outcome → Type 0) (m : Machine) (out : List ℕ) (i : ℕ) (e : End) (here : Is m i e)
    (touches : (m' : Machine) → Touched i m m' → (ns out' : List ℕ) → length out' ≡ length out → P (answers (0 ∷ ns) out' m')) where
  by_pick : (b : Bool) (x y : Outcome) → P x → P y → P (pick b x y)
  by_pick true x y p q = p
  by_pick false x y p q = q

  by_acked : (s : ℕ) (g : End → Machine) → ((n : ℕ) (ns : List Number) → Touched i m (g (passing n ns e))) → P (acked m out i e s g)
  by_acked s g t =
      by_pick ((number_at e s).handed && not (number_at e s).acked) (told i (was.Acknowledged (acked_run (timed 0 true e s))) out (g (passing (acked_run (timed 0 true e s)) (timed 0 true e s) e))) (told i was.Ignored out m)
      (touches _ (t (acked_run (timed 0 true e s)) (timed 0 true e s)) _ _ refl) (touches m as_was _ _ refl)

  by_state : (s : ℕ) (z : State) → P (acking m out i e s z)
  unfolding acking
  by_state s Closed = touches m as_was _ _ refl
  by_state s (Enabled timer sent) =
      by_pick (sent && eqb s 0) (told i was.Opened out (silent i (turned i (counted 0 0 (anew Open e)) m))) (told i was.Ignored out m) (touches _ (silenced (turns e (counted 0 0 (anew Open e)) here (anew_follows e refl refl) as_was)) _ _ refl) (touches m as_was _ _ refl)
  by_state s Open = by_acked s (λ d. not_again i s (turned i d m)) (λ n ns. stopped s (turns e (passing n ns e) here (same_follows e refl refl) as_was))
  by_state s (Failing n) = by_acked s (λ d. turned i (stated (Failing (running d.numbers)) d) m) (λ n ns. turns e (stated (Failing (running (drop n ns))) (passing n ns e)) here (same_follows e refl refl) as_was)

  pub by_taken : (q : FrameType) (s : ℕ) (p : List ℕ) → P (taken_in m out i e q s p)
  unfolding taken_in receiving resetting
  by_taken type.Data s p =
      let ps = set e.places (offset e s) (some p) in
      let e' = handing_on (length (held_run ps)) ps e in
      by_pick (is_new e s) (delivering i was.Data (held_run ps) out (waits acks i s (turned i e' m))) (delivering i was.Data [] out (waits acks i s m))
      (touches _ (waited acks s (turns e e' here (moved_follows ps e) as_was)) _ _ (length-sets out 0 (block_of (held_run ps)))) (touches _ (waited acks s as_was) _ _ (length-sets out 0 (block_of [])))
  by_taken type.Acknowledge s p = by_state s e.state
  by_taken type.Reset s p = touches _ (waited acks 0 (silenced (turns e (anew Open e) here (anew_follows e refl refl) as_was))) _ _ refl
  by_taken type.Urgent s p = touches m as_was _ _ (length-sets out 0 (block_of (p ∷ [])))

-- an arrival is refused, or the frame is taken in by the entry that it is for
module _ (P : Outcome → Type 0) (m : Machine) (out : List ℕ) (refused : (w : Refusal) → P (answers (refused_of w) out m)) where
  pub by_read : (r : Result Header Refusal) (p : List ℕ)
      → ((h : Header) → r ≡ Ok h → (m' : Machine) → Touched (entry_for m h) m m' → (ns out' : List ℕ) → length out' ≡ length out → P (answers (0 ∷ ns) out' m')) → P (reading m out r p)
  unfolding reading
  by_read (Err w) p t = refused w
  by_read (Ok h) p t =
      by_entry P m (entry_for m h) _ _ (refused refusal.NoEndPoint)
      (λ e z. by_verdict P (entry_tests m e h.kind h.length (length out)) out m (taken_in m out (entry_for m h) e h.kind h.seq.0 p) refused
      (λ v. by_taken P m out (entry_for m h) e z (t h refl) h.kind h.seq.0 p))

abbrev pub arrival_tests : Machine → List ℕ → List (Bool × Refusal)
arrival_tests m f = (not (sound_of f), refusal.BadFrame) ∷ (not (is_ours m f), refusal.NotOurs) ∷ []

-- a call of the host's on entry i is refused, or done
pub by_done : (P : Outcome → Type 0) (m : Machine) (i : ℕ) (tests : End → List (Bool × Refusal)) (g : End → Outcome)
    → ((w : Refusal) → P (answers (refused_of w) [] m)) → ((e : End) → Is m i e → P (g e)) → P (on_entry m i (λ e. unless (tests e) [] m (g e)))
by_done P m i tests g refused done =
    by_entry P m i _ _ (refused refusal.NoEntry) (λ e h. by_verdict P (tests e) [] m (g e) refused (λ v. done e h))

-- ---- the report

either : (P : End → Type 0) (b : Bool) (x y : End) → P x → P y → P (pick b x y)
either P true x y p q = p
either P false x y p q = q

-- what the end of a frame makes of its end point
pub ended_follows : (q : FrameType) (e : End) (s : ℕ) → Follows e (ended q e s)
ended_follows type.Data e s = by e.state
  where
    timed_follows : Follows e (data_timed e s)
    timed_follows = either (Follows e) ((number_at e s).handed && not (number_at e s).acked) _ _ (same_follows e refl refl) (same_follows e refl refl)

    by : (z : State) → Follows e (recounted z (data_timed e s))
    by Closed = timed_follows
    by (Enabled timer sent) = timed_follows
    by Open = timed_follows
    by (Failing n) = record { entry = timed_follows.entry; free = timed_follows.free }
ended_follows type.Acknowledge e s = same_follows e refl refl
ended_follows type.Reset e s = by e.state
  where
    by : (z : State) → Follows e (reset_timed z e)
    by Closed = same_follows e refl refl
    by (Enabled timer sent) = either (Follows e) sent _ _ (same_follows e refl refl) (same_follows e refl refl)
    by Open = same_follows e refl refl
    by (Failing n) = same_follows e refl refl
ended_follows type.Urgent e s = same_follows e refl refl

-- it is refused, or the frame under way is none any more and its entry at most is altered
pub by_reported : (P : Outcome → Type 0) (m : Machine) (u : Option Out) → P (answers (refused_of refusal.NoneUnderWay) [] m)
    → ((f : Out) → u ≡ some f → (m' : Machine) → Touched f.1.entry m m' → P (done (port none m'))) → P (reported m u)
unfolding reported
by_reported P m none refused ends = refused
by_reported P m (some f) refused ends = sides (get_elem? m.ends f.1.entry) refl
  where
    sides : (o : Option End) → get_elem? m.ends f.1.entry ≡ o
        → P (done (port none (found o m (λ e. turned f.1.entry (ended f.0 e f.1.number) m))))
    sides none h = ends f refl m as_was
    sides (some e) h = ends f refl _ (turns e (ended f.0 e f.1.number) h (ended_follows f.0 e f.1.number) as_was)

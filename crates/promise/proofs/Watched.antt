-- One entry of a machine, watched: it is seen as an end point of the channel, and each call is to be a step of that.
-- Here the host's calls and the report, for a sender and a receiver alike. Assumes nothing.
use Prim.Native.Nat.{ℕ}
use mathlib.Core.Path.{◌≡◌, refl, sym, ap, subst, ◌∙◌}
use mathlib.Core.Bool.{Bool, true, false, true≢false, ◌&&◌}
use mathlib.Core.Option.{Option, none, some}
use mathlib.Core.List.{List, []}
use native.Mathlib.Decide.{ℕ_discrete}
use lib.ListN.{length, get_elem?, set}
use lib.Dec.{eqb}
use borrow.Author.Tests.{eq-eqb, ne_eqb}
use Rattle.units.specs.Refusals.{pick}
use Rattle.units.specs.declared.refusals.Refusal.{Refusal}
use Rattle.units.proofs.Judging.{Clear, clear, refused_not_zero}
use Rattle.frame.specs.Faults.{refused_of}
use Rattle.frame.specs.Layout.{payload_of}
use Rattle.frame.specs.Reading.{read_of}
use Rattle.frame.specs.declared.FrameType.{FrameType}
use Rattle.end_points.specs.States.{is_sends}
use Rattle.end_points.specs.declared.State.TheVariants.{Closed, Enabled}
use Rattle.machine.specs.Calls.{Call, opens, closes, counts, sends, urges, arrives, hands_out, reports, Answer}
use Rattle.machine.specs.Machine.{End, acks, resets, urgents, datas, Out, Machine, Outcome, turned, urging, anew, enabled, silent, waits, past, done, unless, on_entry, send_tests, taking, opening, closing, sending, urgent_sending, ended, reported, reporting, is_of, step}
use Rattle.machine.specs.Sound.{Sound}
use Rattle.machine.specs.Laws.{item, On, Untouched, OthersStay}
use Rattle.machine.specs.LawsCalls.{CountsTell}
use Rattle.machine.specs.LawsReporting.{ReportEnds}
use Rattle.machine.proofs.Entries.{elem_lt, elem_set_same}
use Rattle.machine.proofs.Judged.{by_verdict}
use Rattle.machine.proofs.Hosting.{open_tests, close_tests, urgent_tests, counts_tell}
use Rattle.machine.proofs.Reporting.{ended_is, report_ends}
use Rattle.machine.proofs.Apart.{others_stay}
use Rattle.promise.specs.Seen.{is_done, frame_in}
use Rattle.promise.specs.Link.{owed_to}
use Rattle.promise.proofs.Owing.{owed_share}
use Rattle.std.specs.Prelude.{Result, Err}
use Rattle.frame.specs.declared.Header.{Header}

-- ---- what is to be shown

-- how an entry is watched
pub record Watch : Type 1 where
  pub View : Type 0  -- what it is seen as: an end point of the channel
  pub Seen : Type 0  -- what is seen of a call
  pub Next : View → Seen → View → Type 0  -- the end point's steps, by what is seen
  pub quiet : Seen  -- nothing is seen
  pub same : (v : View) → Next v quiet v
  pub view : End → List ℕ → View  -- the entry's end, with the acknowledgements that wait for it
  pub seen : Call → Answer → Seen
  -- of an arrival and of handing out: by the frame as it reads, its payload, and the host's block
  pub inward : Result Header Refusal → List ℕ → List ℕ → Seen
  pub outward : Result Header Refusal → List ℕ → Seen
  pub comes : (block f : List ℕ) (a : Answer)
      → seen (arrives block f) a ≡ pick (is_done a.numbers) (inward (read_of f) (payload_of f) a.out) quiet
  pub goes : (buffer : List ℕ) (a : Answer) → seen (hands_out buffer) a
      ≡ pick (is_done a.numbers) (outward (read_of (frame_in a)) (payload_of (frame_in a))) quiet
  pub unread : (w : Refusal) (p : List ℕ) → outward (Err w) p ≡ quiet

-- the acknowledgements that wait for entry i
abbrev pub owed : ℕ → Machine → List ℕ
owed i m = owed_to i (m.waiting acks)

module _ (K : Watch) (i : ℕ) (m : Machine) (e : End) where
  -- entry i, which was e, is after the outcome o an end point that follows e, where s is seen
  pub record Follows (s : K.Seen) (o : Outcome) : Type 0 where
    pub end : End
    pub there : get_elem? o.machine.ends i ≡ some end
    pub next : K.Next (K.view e (owed i m)) s (K.view end (owed i o.machine))

  -- of the call c
  abbrev pub Step : Call → Outcome → Type 0
  Step c o = Follows (K.seen c o.answer) o

  -- so too where it is what was seen
  pub seen_as : {s s' : K.Seen} {o : Outcome} → s' ≡ s → Follows s o → Follows s' o
  seen_as {o = o} q f = subst (λ (z : K.Seen). Follows z o) (sym q) f

  -- nothing is seen, and the entry is seen as before
  pub still : (s : K.Seen) (o : Outcome) (x : End) → get_elem? o.machine.ends i ≡ some x
      → K.view x (owed i o.machine) ≡ K.view e (owed i m) → s ≡ K.quiet → Follows s o
  still s o x h q z =
      seen_as z (record { end = x; there = h; next = subst (K.Next _ K.quiet) (sym q) (K.same _) })

  -- or the call does not touch it
  pub untouched : get_elem? m.ends i ≡ some e → (s : K.Seen) (o : Outcome) → Untouched m o.machine i
      → s ≡ K.quiet → Follows s o
  untouched there s o u z = still s o e (u.end ∙ there) (ap (K.view e) waits) z
    where
      waits : owed i o.machine ≡ owed i m
      waits =
          sym (owed_share i (o.machine.waiting acks)) ∙ ap (owed_to i) (u.share acks) ∙ owed_share i (m.waiting acks)

-- ---- refusals, and becoming Enabled

pub refused_done : (w : Refusal) → is_done (refused_of w) ≡ false
refused_done w = refused_not_zero w

-- what is not done is not seen
pub never : {A : Type 0} (b : Bool) (own quiet : A) → pick (b && false) own quiet ≡ quiet
never true own quiet = refl
never false own quiet = refl

-- it alters one entry, and no acknowledgement, whether a Reset waits then or not
enabled_leaves : (j : ℕ) (x : End) (m : Machine)
    → ((enabled j x m).ends ≡ set m.ends j (anew (Enabled 0 false) x))
    × ((enabled j x m).waiting acks ≡ m.waiting acks)
unfolding enabled
enabled_leaves j x m = sides (is_sends x.entry.kind)
  where
    e' : End
    e' = anew (Enabled 0 false) x

    sides : (b : Bool) → ((pick b (waits resets j 0 (turned j e' m)) (turned j e' m)).ends ≡ set m.ends j e')
        × ((pick b (waits resets j 0 (turned j e' m)) (turned j e' m)).waiting acks ≡ m.waiting acks)
    sides true = (refl, refl)
    sides false = (refl, refl)

-- ---- a call of the host

module _ (K : Watch) (t : List ℕ) (m : Machine) (S : Sound t m) (i : ℕ) (e : End)
    (there : get_elem? m.ends i ≡ some e) where
  -- not on entry i
  pub elsewhere : (c : Call) → (On m c i → ⊥) → K.seen c (step m c).answer ≡ K.quiet → Step K i m e c (step m c)
  unfolding OthersStay
  elsewhere c n q = untouched K i m e there _ (step m c) (others_stay t m S c i n) q

  pub counts_step : (j : ℕ) → K.seen (counts j) (step m (counts j)).answer ≡ K.quiet
      → Step K i m e (counts j) (step m (counts j))
  unfolding CountsTell
  counts_step j q = untouched K i m e there _ _ (rw (counts_tell m j) (record { end = refl; share = λ k. refl })) q

  -- on entry j, behind its tests: own is seen where it is done and j is i
  abbrev SeenAs : (ℕ → Call) → K.Seen → Type 0
  SeenAs c own = (j : ℕ) (a : Answer) → K.seen (c j) a ≡ pick (is_done a.numbers && eqb j i) own K.quiet

  -- and entry i is then x, with w waiting
  abbrev Goes : List (Bool × Refusal) → K.Seen → End → List ℕ → Type 0
  Goes tests own x w = Clear tests → K.Next (K.view e (owed i m)) own (K.view x w)

  module _ (c : ℕ → Call) (on : (j : ℕ) → On m (c j) i → j ≡ i) (own : K.Seen) (seen : SeenAs c own)
      (tests : End → List (Bool × Refusal)) (next : Machine) (end : End) where
    entry_step : step m (c i) ≡ on_entry m i (λ x. unless (tests x) [] m (done next)) → next.ends ≡ set m.ends i end
        → Goes (tests e) own end (owed i next) → (j : ℕ) → Step K i m e (c j) (step m (c j))
    entry_step is ends goes j = sides (ℕ_discrete j i)
      where
        here : Step K i m e (c i) (unless (tests e) [] m (done next))
        here =
            by_verdict (Step K i m e (c i)) (tests e) [] m (done next)
            (λ w. still K i m e _ _ e there refl (seen i _ ∙ rw (refused_done w)))
            (λ p. seen_as K i m e (seen i _ ∙ rw (eq-eqb i i refl)) (record {
              end = end;
              there = rw ends (elem_set_same m.ends i end (elem_lt m.ends i there));
              next = goes (clear (tests e) p);
            }))

        sides : Dec (j ≡ i) → Step K i m e (c j) (step m (c j))
        sides (yes q) = rw q (subst (Step K i m e (c i)) (sym (is ∙ rw there)) here)
        sides (no d) =
            elsewhere (c j) (λ h. d (on j h))
            (seen j _ ∙ rw (ne_eqb j i d) (never (is_done (step m (c j)).answer.numbers) own K.quiet))

  -- where nothing is seen of it
  pub unseen : (c : ℕ → Call) → ((j : ℕ) (a : Answer) → K.seen (c j) a ≡ K.quiet) → SeenAs c K.quiet
  unseen c h j a = h j a ∙ sides (is_done a.numbers && eqb j i)
    where
      sides : (b : Bool) → K.quiet ≡ pick b K.quiet K.quiet
      sides true = refl
      sides false = refl

  pub opens_step : (own : K.Seen) → SeenAs opens own → Goes (open_tests e) own (anew (Enabled 0 false) e) (owed i m)
      → (j : ℕ) → Step K i m e (opens j) (step m (opens j))
  unfolding step opening
  opens_step own seen goes =
      let l = enabled_leaves i e m in
      entry_step opens (λ j h. h) own seen open_tests (enabled i e m) (anew (Enabled 0 false) e) (rw there) l.0
      (λ p. rw l.1 (goes p))

  pub closes_step : (own : K.Seen) → SeenAs closes own → Goes (close_tests e) own (anew Closed e) (owed i (silent i m))
      → (j : ℕ) → Step K i m e (closes j) (step m (closes j))
  unfolding step closing
  closes_step own seen =
      entry_step closes (λ j h. h) own seen close_tests (silent i (turned i (anew Closed e) m)) (anew Closed e)
      (rw there) refl

  pub sends_step : (p : List ℕ) (own : K.Seen) → SeenAs (λ j. sends j p) own
      → Goes (send_tests m e p) own (taking p e) (owed i m) → (j : ℕ) → Step K i m e (sends j p) (step m (sends j p))
  unfolding step sending
  sends_step p own seen =
      entry_step (λ j. sends j p) (λ j h. h) own seen (λ x. send_tests m x p)
      (waits datas i (past e (length e.numbers)) (turned i (taking p e) m)) (taking p e) (rw there) refl

  pub urges_step : (p : List ℕ) (own : K.Seen) → SeenAs (λ j. urges j p) own
      → Goes (urgent_tests m p e) own (urging (some p) e) (owed i m)
      → (j : ℕ) → Step K i m e (urges j p) (step m (urges j p))
  unfolding step urgent_sending
  urges_step p own seen =
      entry_step (λ j. urges j p) (λ j h. h) own seen (urgent_tests m p)
      (waits urgents i 0 (turned i (urging (some p) e) m)) (urging (some p) e) (rw there) refl

  -- ---- the report

  -- the end of a frame of entry i leaves its end point seen as before; of another's it leaves all
  pub reports_step : ((q : FrameType) (s : ℕ) → K.view (ended q e s) (owed i m) ≡ K.view e (owed i m))
      → K.seen reports (step m reports).answer ≡ K.quiet → Step K i m e reports (step m reports)
  unfolding ReportEnds step reporting reported
  reports_step stays q = sides m.under refl
    where
      other : is_of i m.under ≡ false → Step K i m e reports (step m reports)
      other n = elsewhere reports (λ h. true≢false (sym h ∙ n)) q

      here : (f : Out) → m.under ≡ some f → f.1.entry ≡ i
          → get_elem? (step m reports).machine.ends i ≡ some (ended f.0 e f.1.number)
      here f under c = ended_is f.0 m (under ∙ ap (λ (j : ℕ). some (f.0, item j f.1.number)) c) there

      waits : owed i (step m reports).machine ≡ owed i m
      waits = ap (owed_to i) ((report_ends m).waiting acks)

      own : (f : Out) → m.under ≡ some f → Dec (f.1.entry ≡ i) → Step K i m e reports (step m reports)
      own f under (yes c) =
          let d = ended f.0 e f.1.number in
          still K i m e _ (step m reports) d (here f under c) (ap (K.view d) waits ∙ stays f.0 f.1.number) q
      own f under (no d) = other (ap (is_of i) under ∙ ne_eqb f.1.entry i d)

      sides : (u : Option Out) → m.under ≡ u → Step K i m e reports (step m reports)
      sides none under = other (ap (is_of i) under)
      sides (some f) under = own f under (ℕ_discrete f.1.entry i)

-- An arrival at a machine: refused, and all is as it was; or taken in by one entry, and so not on any other. By that a
-- bystander sees a step of the entry that he watches. Assumes nothing.
use Prim.Native.Nat.{ℕ}
use mathlib.Core.Path.{◌≡◌, refl, sym, ap, subst, ◌∙◌}
use mathlib.Core.Logic.{◌≢◌, ◌⊎◌, inl, inr}
use mathlib.Core.Bool.{Bool, true, false, not, ◌&&◌}
use mathlib.Core.Option.{Option, none, some, some-injective}
use mathlib.Core.List.{List, [], ◌∷◌}
use lib.ListN.{length, get_elem?}
use lib.Dec.{eqb}
use native.Mathlib.Decide.{ℕ_discrete}
use borrow.Author.Tests.{not-false}
use Rattle.units.specs.Refusals.{pick, verdict, Verdict}
use Rattle.units.specs.declared.refusals.Refusal.{Refusal}
use Rattle.units.specs.declared.refusals.Refusal.TheVariants as refusal
use Rattle.units.proofs.Judging.{Clear, clear}
use Rattle.table.specs.Layout.{entry_of}
use Rattle.frame.specs.Faults.{refused_of}
use Rattle.frame.specs.Layout.{payload_of}
use Rattle.frame.specs.Reading.{sound_of, header_of, read_of}
use Rattle.frame.specs.Types.{for_sender}
use Rattle.frame.specs.declared.Header.{Header}
use Rattle.frame.specs.declared.FrameType.{FrameType}
use Rattle.frame.specs.declared.FrameType.TheVariants as type
use Rattle.frame.proofs.ReadLaws.{whole_read}
use Rattle.end_points.specs.States.{is_sends}
use Rattle.end_points.specs.declared.State.{State}
use Rattle.end_points.specs.declared.State.TheVariants.{Closed, Enabled, Open, Failing}
use Rattle.arrive_lookup.proofs.Found.{Fitting}
use Rattle.machine.specs.Machine.{End, Machine, Outcome, found, judged, answers, is_ours, entry_tests, entry_for, is_new, number_at, acking, receiving, resetting, taken_in, reading, arriving, step}
use Rattle.machine.specs.Calls.{arrives}
use Rattle.machine.specs.Sound.{Sound}
use Rattle.machine.specs.Laws.{On}
use Rattle.promise.specs.Seen.{is_done, names}
use Rattle.promise.proofs.Entries.{found_fits, names_own, names_other}
use Rattle.promise.proofs.Watched.{Watch, Follows, Step, seen_as, still, refused_done, elsewhere}
use Rattle.std.specs.Prelude.{Result, Ok, Err}

-- ---- refused, or taken in

record Refused (m : Machine) (block f : List ℕ) : Type 0 where
  why : Refusal
  is : arriving m block f ≡ answers (refused_of why) block m

pub record Taken (m : Machine) (block f : List ℕ) : Type 0 where
  pub header : Header
  pub head : header_of f ≡ Ok header
  pub read : read_of f ≡ Ok header
  pub end : End
  pub there : get_elem? m.ends (entry_for m header) ≡ some end
  pub fit : Fitting end.entry (for_sender header.kind) header.source.0 header.channel.0
  pub clear : Clear (entry_tests m end header.kind header.length (length block))
  pub is : arriving m block f ≡ taken_in m block (entry_for m header) end header.kind header.seq.0 (payload_of f)

module _ (m : Machine) (block f : List ℕ) where
  abbrev frame_tests : List (Bool × Refusal)
  frame_tests = (not (sound_of f), refusal.BadFrame) ∷ (not (is_ours m f), refusal.NotOurs) ∷ []

  abbrev tests : Header → End → List (Bool × Refusal)
  tests h e = entry_tests m e h.kind h.length (length block)

  -- what is made of the entry that a header is for
  abbrev entered : Header → Option End → Outcome
  entered h z =
      found z (answers (refused_of refusal.NoEndPoint) block m)
      (λ e. judged (verdict (tests h e)) block m (taken_in m block (entry_for m h) e h.kind h.seq.0 (payload_of f)))

  by_header : arriving m block f ≡ judged (verdict frame_tests) block m (reading m block (header_of f) (payload_of f))
  unfolding arriving
  by_header = refl

  by_entry : (h : Header) → reading m block (Ok h) (payload_of f) ≡ entered h (get_elem? m.ends (entry_for m h))
  unfolding reading
  by_entry h = refl

  refused_read : (w : Refusal) → reading m block (Err w) (payload_of f) ≡ answers (refused_of w) block m
  unfolding reading
  refused_read w = refl

  module _ (p : verdict frame_tests ≡ Ok tt) where
    read_as : (r : Result Header Refusal) → header_of f ≡ r → arriving m block f ≡ reading m block r (payload_of f)
    read_as r q = by_header ∙ rw (p, q)

    module _ (h : Header) (q : header_of f ≡ Ok h) where
      found_as : (z : Option End) → get_elem? m.ends (entry_for m h) ≡ z → arriving m block f ≡ entered h z
      found_as z g = read_as (Ok h) q ∙ by_entry h ∙ rw g

      at_entry : (e : End) → get_elem? m.ends (entry_for m h) ≡ some e → (v : Verdict) → verdict (tests h e) ≡ v
          → Refused m block f ⊎ Taken m block f
      at_entry e g (Ok _) z =
          inr (record {
            header = h;
            head = q;
            read = whole_read f h (not-false (sound_of f) (clear frame_tests p).0) q;
            end = e;
            there = g;
            fit = found_fits m h e g;
            clear = clear (tests h e) z;
            is = found_as (some e) g ∙ rw z;
          })
      at_entry e g (Err w) z = inl (record { why = w; is = found_as (some e) g ∙ rw z })

      at_found : (z : Option End) → get_elem? m.ends (entry_for m h) ≡ z → Refused m block f ⊎ Taken m block f
      at_found none g = inl (record { why = refusal.NoEndPoint; is = found_as none g })
      at_found (some e) g = at_entry e g (verdict (tests h e)) refl

    at_read : (r : Result Header Refusal) → header_of f ≡ r → Refused m block f ⊎ Taken m block f
    at_read (Err w) q = inl (record { why = w; is = read_as (Err w) q ∙ refused_read w })
    at_read (Ok h) q = at_found h q (get_elem? m.ends (entry_for m h)) refl

  at_frame : (v : Verdict) → verdict frame_tests ≡ v → Refused m block f ⊎ Taken m block f
  at_frame (Ok _) p = at_read p (header_of f) refl
  at_frame (Err w) p = inl (record { why = w; is = by_header ∙ rw p })

  arrival : Refused m block f ⊎ Taken m block f
  arrival = at_frame (verdict frame_tests) refl

-- what another entry takes in is not on entry i
not_on : (m : Machine) (block f : List ℕ) (a : Taken m block f) (i : ℕ) → i ≢ entry_for m a.header
    → On m (arrives block f) i → ⊥
not_on m block f a i d (h, q, z) = d (sym z ∙ ap (entry_for m) (same (sym q ∙ a.head)))
  where
    same : ◌≡◌ {A = Result Header Refusal} (Ok h) (Ok a.header) → h ≡ a.header
    same e = cc

-- ---- what is taken in is done

module _ (m : Machine) (out : List ℕ) (k : ℕ) (x : End) (s : ℕ) (p : List ℕ) where
  abbrev Done : Outcome → Type 0
  Done o = is_done o.answer.numbers ≡ true

  -- of two outcomes what holds of both
  either : (b : Bool) (o o' : Outcome) → Done o → Done o' → Done (pick b o o')
  either true o o' h h' = h
  either false o o' h h' = h'

  ack_done : (st : State) → Done (acking m out k x s st)
  unfolding acking
  ack_done Closed = refl
  ack_done (Enabled t sent) = either (sent && eqb s 0) _ _ refl refl
  ack_done Open = either ((number_at x s).handed && not (number_at x s).acked) _ _ refl refl
  ack_done (Failing n) = either ((number_at x s).handed && not (number_at x s).acked) _ _ refl refl

  taken_done : (q : FrameType) → Done (taken_in m out k x q s p)
  unfolding taken_in receiving resetting
  taken_done type.Data = either (is_new x s) _ _ refl refl
  taken_done type.Acknowledge = ack_done x.state
  taken_done type.Reset = refl
  taken_done type.Urgent = refl

-- ---- as a step of entry i

module _ (K : Watch) (t : List ℕ) (m : Machine) (S : Sound t m) (i : ℕ) (e : End)
    (there : get_elem? m.ends i ≡ some e) (block f : List ℕ) where
  abbrev Comes : Outcome → Type 0
  Comes = Step K i m e (arrives block f)

  refused : Refused m block f → Comes (step m (arrives block f))
  unfolding step
  refused r =
      subst Comes (sym r.is) (still K i m e _ _ e there refl (K.comes block f _ ∙ rw (refused_done r.why)))

  -- taken in by entry k, which is x, as a frame of type q
  module _ (a : Taken m block f) (q : FrameType) (kind : a.header.kind ≡ q) where
    abbrev k : ℕ
    k = entry_for m a.header

    abbrev s : ℕ
    s = a.header.seq.0

    abbrev pub o : Outcome
    o = taken_in m block k a.end q s (payload_of f)

    -- what is seen of it
    abbrev came : K.Seen
    came = K.inward (Ok a.header) (payload_of f) o.answer.out

    arrives_is : step m (arrives block f) ≡ o
    unfolding step
    arrives_is = a.is ∙ ap (λ (z : FrameType). taken_in m block k a.end z s (payload_of f)) kind

    pub seen : K.seen (arrives block f) o.answer ≡ came
    seen = K.comes block f o.answer ∙ rw (taken_done m block k a.end s (payload_of f) q, a.read)

    same : i ≡ k → a.end ≡ e
    same c = some-injective _ _ (sym a.there ∙ sym (ap (λ (j : ℕ). get_elem? m.ends j) c) ∙ there)

    kinds : is_sends a.end.entry.kind ≡ for_sender q
    kinds = a.fit.kind ∙ ap for_sender kind

    -- it is for another entry, and unseen
    apart : i ≢ k → came ≡ K.quiet → Comes o
    apart d z =
        subst Comes arrives_is
        (elsewhere K t m S i e there (arrives block f) (not_on m block f a i d)
        (ap (λ (v : Outcome). K.seen (arrives block f) v.answer) arrives_is ∙ seen ∙ z))

    -- so it is where it is for the other kind
    pub other_kind : is_sends e.entry.kind ≢ for_sender q → came ≡ K.quiet → Comes o
    other_kind d = apart (λ c. d (ap (λ (x : End). is_sends x.entry.kind) (sym (same c)) ∙ kinds))

    -- it is for entry i, or for another that it names
    pub named : (own : Outcome → K.Seen) → is_sends e.entry.kind ≡ for_sender q
        → came ≡ pick (names (entry_of t i) a.header.source.0 a.header.channel.0) (own o) K.quiet
        → (Clear (entry_tests m e q a.header.length (length block))
        → Follows K i m e (own (taken_in m block i e q s (payload_of f))) (taken_in m block i e q s (payload_of f)))
        → Comes o
    named own b z here = sides (ℕ_discrete i k)
      where
        fit : names (entry_of t i) a.header.source.0 a.header.channel.0
            ≡ names (entry_of t i) a.end.entry.remote.0 a.end.entry.channel.0
        fit = rw (a.fit.source, a.fit.channel)

        by_name : (b : Bool) → names (entry_of t i) a.end.entry.remote.0 a.end.entry.channel.0 ≡ b
            → came ≡ pick b (own o) K.quiet
        by_name b h = z ∙ ap (λ (v : Bool). pick v (own o) K.quiet) (fit ∙ h)

        tests : i ≡ k → Clear (entry_tests m e q a.header.length (length block))
        tests c = rw (kind, same c) at a.clear

        is : i ≡ k → taken_in m block i e q s (payload_of f) ≡ o
        is c =
            ap (λ (j : ℕ). taken_in m block j e q s (payload_of f)) c
            ∙ ap (λ (x : End). taken_in m block k x q s (payload_of f)) (sym (same c))

        sides : Dec (i ≡ k) → Comes o
        sides (yes c) =
            seen_as K i m e (seen ∙ by_name true (rw (same c) (names_own t m S i e there)))
            (subst (λ (v : Outcome). Follows K i m e (own v) v) (is c) (here (tests c)))
        sides (no d) = apart d (by_name false (names_other t m S i e there k a.end a.there (b ∙ sym kinds) d))

  pub by_kind : ((a : Taken m block f) (q : FrameType) (kind : a.header.kind ≡ q) → Comes (o a q kind))
      → Comes (step m (arrives block f))
  by_kind h = sides (arrival m block f)
    where
      sides : Refused m block f ⊎ Taken m block f → Comes (step m (arrives block f))
      sides (inl r) = refused r
      sides (inr a) = subst Comes (sym (arrives_is a a.header.kind refl)) (h a a.header.kind refl)

-- An arrival at the sender's machine: an acknowledgement for the entry is a step of its end point; all else is nothing
-- for it. Assumes nothing.
use Prim.Native.Nat.{ℕ, ◌≤◌}
use mathlib.Core.Path.{◌≡◌, refl, sym, subst, ◌∙◌}
use mathlib.Core.Bool.{Bool, true, false, true≢false, not, ◌&&◌}
use mathlib.Core.Option.{some}
use mathlib.Core.List.{List}
use lib.ListN.{length, get_elem?, set}
use lib.Dec.{eqb}
use Rattle.std.proofs.lemmas.Bool.{and_parts}
use Rattle.table.specs.Layout.{entry_of}
use Rattle.frame.specs.declared.FrameType.{FrameType}
use Rattle.frame.specs.declared.FrameType.TheVariants as type
use Rattle.end_points.specs.States.{is_sends}
use Rattle.end_points.specs.declared.State.{State}
use Rattle.end_points.specs.declared.State.TheVariants.{Closed, Enabled, Open, Failing}
use Rattle.machine.specs.Calls.{arrives}
use Rattle.machine.specs.Machine.{End, Number, Machine, Outcome, turned, not_again, counted, anew, stated, offset, number_at, timed, acked_run, running, passing, acked, acking, taken_in, step}
use Rattle.machine.specs.Sound.{Sound}
use Rattle.machine.proofs.Entries.{elem_lt, elem_set_same}
use Rattle.promise.specs.History.{s_hears}
use Rattle.promise.specs.Seen.{s_state_of}
use Rattle.promise.proofs.Channel.{s_ack, s_count}
use Rattle.promise.proofs.Laws.{SNext, sn_hear}
use Rattle.promise.proofs.Watched.{Watch, Follows}
use Rattle.promise.proofs.Arrivals.{Taken, o, named, other_kind, by_kind}
use Rattle.promise.proofs.SenderView.{send_of, counts_same, passed_view}
use Rattle.promise.proofs.SenderCalls.{s_watch, SStep}

module _ (t : List ℕ) (m : Machine) (S : Sound t m) (i : ℕ) (e : End) (there : get_elem? m.ends i ≡ some e) where
  abbrev K : Watch
  K = s_watch t i

  abbrev W : ℕ
  W = (entry_of t i).window

  -- ---- an acknowledgement for the entry

  module _ (out : List ℕ) (s : ℕ) where
    narrow : length e.numbers ≤ W
    narrow = (S.bounded i e there).taken

    abbrev Hears : Outcome → Type 0
    Hears = Follows K i m e (s_hears s)

    -- x is what it leaves of the entry
    leaves : (o : Outcome) (x : End) → get_elem? o.machine.ends i ≡ some x → send_of x ≡ s_ack W (send_of e) s
        → Hears o
    leaves o x h v =
        record { end = x; there = h; next = subst (SNext W (send_of e) (s_hears s)) (sym v) (sn_hear (send_of e) s) }

    placed : (x : End) → get_elem? (set m.ends i x) i ≡ some x
    placed x = elem_set_same m.ends i x (elem_lt m.ends i there)

    abbrev ns : List Number
    ns = timed 0 true e s

    abbrev counts : Bool
    counts = (number_at e s).handed && not (number_at e s).acked

    -- where it counts the start passes, and the entry is then as next has it
    counting : (st : State) → s_state_of st ≡ s_state_of e.state → (next : End → Machine)
        → (next (passing (acked_run ns) ns e)).ends ≡ set m.ends i (stated st (passing (acked_run ns) ns e))
        → s_ack W (send_of e) s ≡ s_count W (send_of e) (offset e s) → Hears (acked m out i e s next)
    counting st q next ends is = sides counts refl
      where
        sides : (b : Bool) → counts ≡ b → Hears (acked m out i e s next)
        sides true h =
            rw h (leaves _ (stated st (passing (acked_run ns) ns e)) (rw ends (placed _))
            (passed_view e s W narrow (and_parts (number_at e s).handed (not (number_at e s).acked) h).0 st q
            ∙ sym (is ∙ rw (counts_same e s W narrow, h))))
        sides false h = rw h (leaves _ e there (sym (is ∙ rw (counts_same e s W narrow, h))))

    hears : (st : State) → e.state ≡ st → Hears (acking m out i e s st)
    unfolding acking
    hears Closed q = leaves _ e there (rw q)
    hears (Enabled timer sent) q = sides (sent && eqb s 0) refl
      where
        sides : (b : Bool) → (sent && eqb s 0) ≡ b → Hears (acking m out i e s (Enabled timer sent))
        sides true h = rw h (leaves _ (counted 0 0 (anew Open e)) (placed _) (rw (q, h)))
        sides false h = rw h (leaves _ e there (rw (q, h)))
    hears Open q = counting e.state refl (λ x. not_again i s (turned i x m)) refl (rw q)
    hears (Failing timers) q =
        let n = running (passing (acked_run ns) ns e).numbers in
        counting (Failing n) (rw q) (λ x. turned i (stated (Failing (running x.numbers)) x) m) refl (rw q)

  -- ---- an arrival

  module _ (sends : is_sends e.entry.kind ≡ true) (block f : List ℕ) where
    comes : (a : Taken m block f) (q : FrameType) (kind : a.header.kind ≡ q)
        → SStep t m i e (arrives block f) (o K t m S i e there block f a q kind)
    unfolding taken_in
    comes a type.Acknowledge kind =
        named K t m S i e there block f a type.Acknowledge kind (λ v. s_hears a.header.seq.0) sends (rw kind)
        (λ c. hears block a.header.seq.0 e.state refl)
    comes a type.Data kind =
        other_kind K t m S i e there block f a type.Data kind (λ c. true≢false (sym sends ∙ c)) (rw kind)
    comes a type.Reset kind =
        other_kind K t m S i e there block f a type.Reset kind (λ c. true≢false (sym sends ∙ c)) (rw kind)
    comes a type.Urgent kind =
        other_kind K t m S i e there block f a type.Urgent kind (λ c. true≢false (sym sends ∙ c)) (rw kind)

    pub s_arrives : SStep t m i e (arrives block f) (step m (arrives block f))
    s_arrives = by_kind K t m S i e there block f comes

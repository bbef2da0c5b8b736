-- The receiver's entry as it is watched, and the host's calls and the report on the receiver's machine. Assumes
-- nothing.
use Prim.Native.Nat.{ℕ}
use mathlib.Core.Path.{◌≡◌, refl, sym, ap, ◌∙◌}
use mathlib.Core.Bool.{false, true≢false, not}
use mathlib.Core.Option.{some}
use mathlib.Core.List.{List, [], ◌∷◌}
use native.Mathlib.Decide.{ℕ_discrete}
use lib.ListN.{get_elem?}
use borrow.Author.Tests.{not-false}
use Rattle.units.specs.Refusals.{pick}
use Rattle.units.specs.declared.refusals.Refusal.TheVariants as refusal
use Rattle.frame.specs.Faults.{refused_of}
use Rattle.table.specs.Layout.{entry_of}
use Rattle.table.specs.declared.Entry.{Entry}
use Rattle.frame.specs.Layout.{payload_of}
use Rattle.frame.specs.Reading.{read_of}
use Rattle.end_points.specs.States.{is_sends, is_closed}
use Rattle.blocks.specs.Reading.{read_block}
use Rattle.machine.specs.Calls.{Call, opens, closes, counts, sends, urges, plans, arrives, hands_out, reports, Answer}
use Rattle.machine.specs.Machine.{End, acks, Machine, Outcome, answers, unless, sending, sending_all, planning, step}
use Rattle.machine.specs.Sound.{Sound}
use Rattle.machine.proofs.Judged.{by_verdict}
use Rattle.machine.proofs.Planning.{plan_tests}
use Rattle.promise.specs.History.{RSeen, r_quiet, r_closes}
use Rattle.promise.specs.Seen.{is_done, frame_in, r_in, r_out, r_seen}
use Rattle.promise.proofs.Channel.{Recv}
use Rattle.promise.proofs.Laws.{RNext, rn_same, rn_open, rn_close}
use Rattle.promise.proofs.Owing.{owed_gone}
use Rattle.promise.proofs.Watched.{Watch, owed, Step, still, untouched, elsewhere, counts_step, unseen, opens_step, closes_step, sends_step, urges_step, reports_step}
use Rattle.promise.proofs.ReceiverView.{r_state_of, recv_of, ended_view}
use Rattle.end_points.proofs.Telling.{is_closed_holds}

pub r_comes : (e : Entry) (j : ℕ) (block f : List ℕ) (a : Answer) → r_seen e j (arrives block f) a
    ≡ pick (is_done a.numbers) (r_in e (read_of f) (payload_of f) (read_block a.out)) r_quiet
unfolding r_seen
r_comes e j block f a = refl

pub r_goes : (e : Entry) (j : ℕ) (buffer : List ℕ) (a : Answer)
    → r_seen e j (hands_out buffer) a ≡ pick (is_done a.numbers) (r_out e (read_of (frame_in a))) r_quiet
unfolding r_seen
r_goes e j buffer a = refl

abbrev pub r_watch : List ℕ → ℕ → Watch
r_watch t j =
    record {
      View = Recv;
      Seen = RSeen;
      Next = RNext (entry_of t j).window;
      quiet = r_quiet;
      same = rn_same;
      view = recv_of;
      seen = r_seen (entry_of t j) j;
      inward = λ r p out. r_in (entry_of t j) r p (read_block out);
      outward = λ r p. r_out (entry_of t j) r;
      comes = r_comes (entry_of t j) j;
      goes = r_goes (entry_of t j) j;
      unread = λ w p. refl;
    }

-- a call on m, whose entry j is e
abbrev pub RStep : List ℕ → Machine → ℕ → End → Call → Outcome → Type 0
RStep t m j = Step (r_watch t j) j m

module _ (t : List ℕ) (m : Machine) (S : Sound t m) (j : ℕ) (e : End) (there : get_elem? m.ends j ≡ some e)
    (receives : is_sends e.entry.kind ≡ false) where
  abbrev K : Watch
  K = r_watch t j

  -- a receiver is refused what is for senders
  no_sender : {A : Type 0} → not (is_sends e.entry.kind) ≡ false → A
  no_sender h = absurd (true≢false (sym (not-false (is_sends e.entry.kind) h) ∙ receives))

  pub r_opens : (k : ℕ) → RStep t m j e (opens k) (step m (opens k))
  unfolding r_seen
  r_opens =
      opens_step K t m S j e there r_quiet (unseen K t m S j e there opens (λ k a. refl))
      (λ c. rn_open _ _ (ap r_state_of (is_closed_holds e.state (not-false (is_closed e.state) c.0))) refl refl)

  pub r_closes_it : (k : ℕ) → RStep t m j e (closes k) (step m (closes k))
  unfolding r_seen
  r_closes_it =
      closes_step K t m S j e there r_closes (λ k a. refl) (λ c. rn_close _ _ refl (owed_gone j (m.waiting acks)))

  pub r_counts : (k : ℕ) → RStep t m j e (counts k) (step m (counts k))
  unfolding r_seen
  r_counts k = counts_step K t m S j e there k refl

  pub r_sends : (k : ℕ) (p : List ℕ) → RStep t m j e (sends k p) (step m (sends k p))
  unfolding r_seen
  r_sends k p =
      sends_step K t m S j e there p r_quiet (unseen K t m S j e there (λ i. sends i p) (λ i a. refl))
      (λ c. no_sender c.0) k

  pub r_urges : (k : ℕ) (p : List ℕ) → RStep t m j e (urges k p) (step m (urges k p))
  unfolding r_seen
  r_urges k p =
      urges_step K t m S j e there p r_quiet (unseen K t m S j e there (λ i. urges i p) (λ i a. refl))
      (λ c. no_sender c.0) k

  -- no send of a plan goes through, so that all is as it was
  send_refused : (p : List ℕ) → sending m j p ≡ answers (refused_of refusal.OtherKind) [] m
  unfolding sending
  send_refused p = rw (there, receives)

  all_refused : (n : ℕ) (ps : List (List ℕ)) → (sending_all m j n ps).machine ≡ m
  unfolding sending_all
  all_refused n [] = refl
  all_refused n (p ∷ ps) = rw (send_refused p)

  pub r_plans : (k : ℕ) (block : List ℕ) → RStep t m j e (plans k block) (step m (plans k block))
  unfolding r_seen step planning
  r_plans k block = sides (ℕ_discrete k j)
    where
      here : RStep t m j e (plans j block) (unless (plan_tests block) [] m (sending_all m j 0 (read_block block)))
      here =
          by_verdict (Step K j m e (plans j block)) (plan_tests block) [] m (sending_all m j 0 (read_block block))
          (λ w. still K j m e _ _ e there refl refl)
          (λ v. untouched K j m e there _ _ (rw (all_refused 0 (read_block block)) (record { end = refl; share = λ q. refl })) refl)

      sides : Dec (k ≡ j) → RStep t m j e (plans k block) (step m (plans k block))
      sides (yes q) = rw q here
      sides (no d) = elsewhere K t m S j e there (plans k block) d refl

  -- the end of a frame: a timer starts at most
  pub r_reports : RStep t m j e reports (step m reports)
  unfolding r_seen
  r_reports = reports_step K t m S j e there (ended_view (owed j m) e) refl

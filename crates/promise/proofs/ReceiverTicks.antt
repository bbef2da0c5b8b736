-- A tick at the receiver's machine: a receiver has no timers, so nothing is seen of it. Assumes nothing.
use Prim.Native.Nat.{ℕ}
use mathlib.Core.Path.{◌≡◌, refl, sym, ap, ◌∙◌}
use mathlib.Core.Bool.{Bool, false, and-false}
use mathlib.Core.Option.{some}
use mathlib.Core.List.{List, append-nil}
use lib.ListN.{get_elem?}
use Rattle.end_points.specs.States.{is_open}
use Rattle.end_points.specs.declared.State.{State}
use Rattle.end_points.specs.declared.State.TheVariants.{Closed, Enabled, Open, Failing}
use Rattle.machine.specs.Calls.{ticks}
use Rattle.machine.specs.Machine.{End, acks, Machine, any_spent, is_of, step}
use Rattle.machine.specs.Sound.{Receives}
use Rattle.machine.specs.Laws.{share_of}
use Rattle.machine.specs.LawsTick.{fails}
use Rattle.machine.proofs.Timers.{fell, timed}
use Rattle.machine.proofs.Recovering.{again}
use Rattle.machine.proofs.Ticking.{after_end, after_share}
use Rattle.promise.specs.Seen.{r_seen}
use Rattle.promise.specs.Link.{owed_to}
use Rattle.promise.proofs.Owing.{owed_share}
use Rattle.promise.proofs.Watched.{owed, still}
use Rattle.promise.proofs.ReceiverView.{recv_of}
use Rattle.promise.proofs.ReceiverCalls.{r_watch, RStep}

module _ (t : List ℕ) (m : Machine) (j : ℕ) (e : End) (there : get_elem? m.ends j ≡ some e) (R : Receives e) where
  -- whether a frame of its own is under way
  abbrev under : Bool
  under = is_of j m.under

  -- it does not fail
  spent_none : any_spent e.entry.retries e.numbers ≡ false
  unfolding any_spent
  spent_none = rw R.numbers

  stays : fails e ≡ false
  stays = rw spent_none (and-false (is_open e.state))

  -- and is seen as before
  same : (w : List ℕ) (s : State) → e.state ≡ s → recv_of (again under (fell s e)) w ≡ recv_of e w
  same w Closed q = rw q
  same w (Enabled timer sent) q = rw q
  same w Open q = rw (spent_none, q)
  same w (Failing n) q = absurd (R.runs n q)

  owed_then : owed j (step m ticks).machine ≡ owed j m
  owed_then =
      let none = append-nil (share_of j (m.waiting acks)) in
      let share : share_of j ((step m ticks).machine.waiting acks) ≡ share_of j (m.waiting acks) =
      after_share m acks j e there ∙ rw (stays, none, none) in
      sym (owed_share j ((step m ticks).machine.waiting acks)) ∙ ap (owed_to j) share ∙ owed_share j (m.waiting acks)

  pub r_ticks : RStep t m j e ticks (step m ticks)
  unfolding r_seen
  r_ticks =
      still (r_watch t j) j m e _ (step m ticks) (again under (timed e)) (after_end m j e there)
      (ap (recv_of (again under (timed e))) owed_then ∙ same (owed j m) e.state refl) refl

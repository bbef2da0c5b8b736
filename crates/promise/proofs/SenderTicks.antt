-- A tick at the sender's machine: the entry fails, or its run ends with its bit in the answer, or nothing is seen of
-- it. Assumes nothing.
use Prim.Native.Nat.{ℕ, ◌/◌, ◌%◌, ◌^◌}
use mathlib.Core.Path.{◌≡◌, refl, sym, ap, subst, ◌∙◌}
use mathlib.Core.Bool.{Bool, true, false, true≢false}
use mathlib.Core.Option.{some, some-injective}
use mathlib.Core.List.{List}
use lib.ListN.{get_elem?}
use lib.Dec.{eqb}
use borrow.Author.Tests.{eq-eqb, ne_eqb}
use Rattle.units.specs.Refusals.{pick}
use Rattle.table.specs.Layout.{entry_of}
use Rattle.end_points.specs.declared.State.{State}
use Rattle.end_points.specs.declared.State.TheVariants.{Closed, Enabled, Open, Failing}
use Rattle.machine.specs.Calls.{ticks}
use Rattle.machine.specs.Machine.{End, Machine, anew, any_spent, ticked_all, may_recover, step}
use Rattle.machine.specs.LawsTick.{timers, Recovers, TickRecovers}
use Rattle.machine.proofs.Timers.{fell, timed}
use Rattle.machine.proofs.Ticking.{timers_end, tick_recovers}
use Rattle.promise.specs.History.{SState, s_quiet, s_ends, s_failing}
use Rattle.promise.specs.Seen.{s_seen, s_state_of}
use Rattle.promise.proofs.Channel.{Send}
use Rattle.promise.proofs.Laws.{SNext, sn_same, sn_fail, sn_end}
use Rattle.promise.proofs.Watched.{seen_as}
use Rattle.promise.proofs.SenderView.{view, send_of, ticked_view}
use Rattle.promise.proofs.SenderCalls.{s_watch, SStep}

-- what the timers make of the end point is nothing, or that it fails
module _ (W : ℕ) (e : End) where
  abbrev Quiet : Send → Type 0
  Quiet = SNext W (send_of e) s_quiet

  -- its numbers read as before
  reads : (s : SState) (again : Bool)
      → view s e.start (ticked_all e.entry.retries again e.numbers) e.accepted e.confirmed
      ≡ view s e.start e.numbers e.accepted e.confirmed
  reads s again = ticked_view s e.start e.entry.retries again e.numbers e.accepted e.confirmed

  at_open : e.state ≡ Open → (b : Bool) → any_spent e.entry.retries e.numbers ≡ b → Quiet (send_of (fell Open e))
  at_open q true h = rw h (subst Quiet (sym (reads s_failing true)) (sn_fail (send_of e) (ap s_state_of q)))
  at_open q false h = rw h (subst Quiet (sym (reads (s_state_of e.state) true)) (sn_same (send_of e)))

  fallen : (s : State) → e.state ≡ s → Quiet (send_of (fell s e))
  fallen Closed q = sn_same (send_of e)
  fallen (Enabled timer sent) q = subst Quiet (rw q) (sn_same (send_of e))
  fallen Open q = at_open q (any_spent e.entry.retries e.numbers) refl
  fallen (Failing n) q = subst Quiet (sym (reads s_failing false ∙ rw q)) (sn_same (send_of e))

module _ (t : List ℕ) (m : Machine) (i : ℕ) (e : End) (there : get_elem? m.ends i ≡ some e) where
  fell_there : get_elem? (timers m).ends i ≡ some (timed e)
  fell_there = timers_end m i e there

  recovers : Recovers (timers m) (step m ticks).machine (step m ticks).answer
  unfolding TickRecovers
  recovers = tick_recovers m

  abbrev bit : ℕ
  bit = recovers.bits / 2 ^ i % 2

  seen : s_seen (entry_of t i) i ticks (step m ticks).answer ≡ pick (eqb bit 1) s_ends s_quiet
  unfolding s_seen
  seen = rw recovers.numbers

  over : may_recover (timers m).under i (timed e) ≡ true → SStep t m i e ticks (step m ticks)
  over o =
      let b : bit ≡ 1 = (recovers.bit i).1 (timed e, fell_there, o) in
      seen_as (s_watch t i) i m e (seen ∙ rw (eq-eqb bit 1 b)) (record {
        end = anew (Enabled 0 false) (timed e);
        there = recovers.over i (timed e) fell_there o;
        next = sn_end _ _;
      })

  still : may_recover (timers m).under i (timed e) ≡ false → SStep t m i e ticks (step m ticks)
  still o =
      seen_as (s_watch t i) i m e (seen ∙ rw (ne_eqb bit 1 none)) (record {
        end = timed e;
        there = recovers.others i (timed e) fell_there o;
        next = fallen (entry_of t i).window e e.state refl;
      })
    where
      none : bit ≡ 1 → ⊥
      none b =
          let x = (recovers.bit i).0 b in
          let same : x.0 ≡ timed e = some-injective _ _ (sym x.1 ∙ fell_there) in
          true≢false (sym x.2 ∙ ap (may_recover (timers m).under i) same ∙ o)

  pub s_ticks : SStep t m i e ticks (step m ticks)
  s_ticks = sides (may_recover (timers m).under i (timed e)) refl
    where
      sides : (b : Bool) → may_recover (timers m).under i (timed e) ≡ b → SStep t m i e ticks (step m ticks)
      sides true o = over o
      sides false o = still o

-- Record after record: a replay is so many single calls, and ends where its table is refused (specs/Replayed.antt).
-- Assumes nothing.
use Prim.Native.Nat.{ℕ, zero, suc, ◌≤◌, ◌<◌}
use mathlib.Core.Path.{◌≡◌, refl, sym, ap, subst, ◌∙◌}
use mathlib.Core.Bool.{true}
use mathlib.Core.List.{List}
use native.Mathlib.Omega.{arith}
use borrow.Author.Tests.{lt-ltb}
use Rattle.end_points.specs.Lent.{Lent}
use Rattle.call_open.specs.Setup.{setup_answer, setup_after}
use Rattle.trace.specs.Layout.{count_of, begin_of, head_from, bytes_from}
use Rattle.trace.specs.Laws.{GoodIsFilled, GoodIsRecorded, Recorded, Filled}
use Rattle.trace.proofs.Good.{good_is_filled, good_is_recorded}
use Rattle.trace_step.specs.Told.{told_of}
use Rattle.trace_step.specs.Steps.{Outcome, stored_of, set_up, call_of, call_from, step_of}
use Rattle.trace_step.specs.Replay.{state_after, told_at, is_refused, made_of}
use Rattle.good.specs.Calls.{kept, SetUp, Reach, at_setup, by_call}
use Rattle.replayed.specs.Replayed.{table_in, call_at, Single, Given, SingleCalls, ReplayIsCalls, RefusedEnds, ReplayReaches}
use Rattle.replayed.proofs.Made.{record_bytes, made}
use Rattle.std.specs.Prelude.{Ok}
use Rattle.units.specs.Refusals.{Verdict}

module _ (x : Lent) (f : List ℕ) (given : Given x f) where
  fills : Filled f
  unfolding GoodIsFilled
  fills = good_is_filled f given.good

  recorded : (k : ℕ) → k < count_of f → Recorded f k
  unfolding GoodIsRecorded
  recorded = good_is_recorded f given.good

  -- record k there is
  there : (y : Lent) (k : ℕ) → k < count_of f → step_of y f k ≡ call_from y f (begin_of f k)
  unfolding step_of
  there y k l = rw (lt-ltb k (count_of f) l)

  -- the first is a setup
  pub first_is : step_of x f 0 ≡ set_up x (table_in f)
  unfolding call_of
  first_is = there x 0 fills.some ∙ rw ((recorded 0 fills.some).table refl)

  -- and each one after it a single call, on whatever is lent
  pub step_made : (y : Lent) (k : ℕ) → 0 < k → k < count_of f → Single y (step_of y f k).lent (call_at f k y.out) (told_of (step_of y f k).told)
  step_made y k p l =
      let r = recorded k l in
      let h = head_from f (begin_of f k) in
      subst (λ (o : Outcome). Single y o.lent (call_at f k y.out) (told_of o.told)) (sym (there y k l))
      (made y h.index (bytes_from f (begin_of f k)) (record_bytes f given.bytes (begin_of f k)) h.kind r.known (r.other (λ e. omega arith)))

  pub later_is : (k : ℕ) → 0 < k → k < count_of f → let y = state_after x f k in
      Single y (state_after x f (suc k)) (call_at f k y.out) (told_of (told_at x f k))
  unfolding state_after
  later_is k p l = step_made (state_after x f k) k p l

  -- what the first leaves where it is not refused
  pub step_sets_up : setup_answer (stored_of x) (table_in f) ≡ Ok tt → SetUp (table_in f) (kept (step_of x f 0).lent)
  step_sets_up begins =
      record {
        before = stored_of x;
        node = given.node;
        book = given.book;
        bytes = record_bytes f given.bytes (begin_of f 0);
        passed = begins;
        is = ap (λ (o : Outcome). kept o.lent) first_is ∙ ap (λ (v : Verdict). kept (setup_after (stored_of x) (table_in f) v)) begins;
      }

  module _ (begins : setup_answer (stored_of x) (table_in f) ≡ Ok tt) where
    sets_up : SetUp (table_in f) (kept (state_after x f 1))
    unfolding state_after
    sets_up = step_sets_up begins

    single_calls : SingleCalls x f
    single_calls = record { first = sets_up; then = later_is }

    pub reaches : (n : ℕ) → suc n ≤ count_of f → Reach (table_in f) (kept (state_after x f (suc n)))
    reaches zero l = at_setup _ sets_up
    reaches (suc n) l =
        let s = later_is (suc n) (omega arith) (omega arith) in
        subst (Reach (table_in f)) (sym s.left) (by_call _ _ s.fed (reaches n (omega arith)))

pub replay_is_calls : ReplayIsCalls
unfolding ReplayIsCalls
replay_is_calls = single_calls

pub replay_reaches : ReplayReaches
unfolding ReplayReaches
replay_reaches x f given begins zero p l = absurd (omega arith)
replay_reaches x f given begins (suc n) p l = reaches x f given begins n l

-- ---- a table that is refused

pub refused_ends : RefusedEnds
unfolding RefusedEnds made_of state_after setup_after
refused_ends x f given w h =
    let o = first_is x f given in
    let refused : is_refused (step_of x f 0).told ≡ true = ap (λ (o : Outcome). is_refused o.told) o ∙ rw h in
    record {
      made = rw refused;
      left = ap (λ (o : Outcome). o.lent) o ∙ rw h;
    }

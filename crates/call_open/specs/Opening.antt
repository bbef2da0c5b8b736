-- Open, close, counts and state: which answer, and what all that was lent holds afterwards. Cited by these calls.
-- Assumes nothing.
use Rattle.std.specs.Prelude.{ℕ, false, not, List, [], ◌∷◌, eqb, leb, Result, Ok, Err}
use Rattle.units.specs.Refusals.{pick, verdict, Verdict}
use Rattle.units.specs.declared.refusals.Refusal.TheVariants as refusal
use Rattle.memory.specs.Layout.{resets, reset_id}
use Rattle.waiting.specs.Queues.{appended, unlinked}
use Rattle.waiting.specs.Acks.{dropped}
use Rattle.end_points.specs.Ends.{end_of, saved}
use Rattle.end_points.specs.Heads.{count_in}
use Rattle.end_points.specs.States.{is_sends, is_closed}
use Rattle.end_points.specs.Runs.{anew}
use Rattle.end_points.specs.Lent.{Lent}
use Rattle.end_points.specs.declared.EndPoint.{EndPoint}
use Rattle.end_points.specs.declared.State.{State}
use Rattle.end_points.specs.declared.State.TheVariants as state
use Rattle.end_points.specs.declared.Run.{Run}
use Rattle.slots.specs.Slots.{idled}
use Rattle.units.specs.declared.refusals.Refusal.{Refusal}
use Rattle.end_points.specs.declared.answers.Counts.{Counts}

-- ---- open: 2, 4

-- 2 where there is no such entry, 4 where it is not Closed [R2, R4, R32]
unfoldable pub open_answer : Lent → ℕ → Verdict
open_answer x i =
    verdict
    ((leb (count_in x.node) i, refusal.NoEntry)
    ∷ (not (is_closed (end_of x.node i).state), refusal.WrongState)
    ∷ [])

-- Enabled, its Reset waiting where it sends [E4, E5, E8]
abbrev pub enabled : Lent → ℕ → EndPoint → Lent
enabled x i e =
    record {
      node = saved x.node i (state.Enabled 0 false) (anew e.run);
      book = pick (is_sends e.entry.kind) (appended x.book resets (reset_id i)) x.book;
      store = x.store;
      out = x.out;
    }

-- refused, all is as it was [R44]
unfoldable pub open_after : Lent → ℕ → Verdict → Lent
open_after x i (Err w) = x
open_after x i (Ok _) = enabled x i (end_of x.node i)

-- ---- close: 2, 4

-- 2 where there is no such entry, 4 where it is Closed [R2, R4, R33]
unfoldable pub close_answer : Lent → ℕ → Verdict
close_answer x i =
    verdict
    ((leb (count_in x.node) i, refusal.NoEntry)
    ∷ (is_closed (end_of x.node i).state, refusal.WrongState)
    ∷ [])

-- what of a sender waits, waits no more: at Enabled its Reset, where its timer's place is 0; at Open Urgent, data and
-- retransmissions [E7]
unfoldable pub silenced : ℕ → State → Run → List ℕ → List ℕ
silenced i state.Closed r b = b
silenced i (state.Enabled t sent) r b = pick (eqb t 0) (unlinked b (reset_id i)) b
silenced i state.Open r b = idled i r b
silenced i (state.Failing n) r b = b

-- a sender's frames and a receiver's acknowledgements wait no more [E6, E7, E8]
abbrev pub closed : Lent → ℕ → EndPoint → Lent
closed x i e =
    record {
      node = saved (pick (is_sends e.entry.kind) x.node (dropped i x.node)) i state.Closed (anew e.run);
      book = pick (is_sends e.entry.kind) (silenced i e.state e.run x.book) x.book;
      store = x.store;
      out = x.out;
    }

-- refused, all is as it was [R44]
unfoldable pub close_after : Lent → ℕ → Verdict → Lent
close_after x i (Err w) = x
close_after x i (Ok _) = closed x i (end_of x.node i)

-- ---- counts: 2, 3

abbrev pub counted_as : Verdict → Run → Result Counts Refusal
counted_as (Ok _) r = Ok (record { accepted = r.accepted; confirmed = r.confirmed })
counted_as (Err w) r = Err w

-- 2 where there is no such entry, 3 where it receives; else accepted and confirmed [E17, R2, R3, R34]
unfoldable pub counts_answer : List ℕ → ℕ → Result Counts Refusal
counts_answer ws i =
    counted_as
    (verdict
    ((leb (count_in ws) i, refusal.NoEntry)
    ∷ (not (is_sends (end_of ws i).entry.kind), refusal.OtherKind)
    ∷ []))
    (end_of ws i).run

-- ---- state

abbrev pub stated_as : Verdict → State → Result State Refusal
stated_as (Ok _) s = Ok s
stated_as (Err w) s = Err w

-- 2 where there is no such entry; else its state [E1, R2, R45]
unfoldable pub state_answer : List ℕ → ℕ → Result State Refusal
state_answer ws i = stated_as (verdict ((leb (count_in ws) i, refusal.NoEntry) ∷ [])) (end_of ws i).state

-- The whole theorem: every call does what the machine does, and so every node that setup and calls can give stands for
-- a machine. Assumes nothing.
use Prim.Native.Nat.{ℕ, ◌≤◌, ◌<◌}
use mathlib.Core.Path.{◌≡◌, refl, ap, subst}
use mathlib.Core.List.{List, [], ◌∷◌}
use native.Mathlib.Decide.{dec_lt}
use native.Mathlib.Omega.{arith}
use lib.ListN.{length}
use borrow.Author.Tests.{le-leb, lt-leb}
use Rattle.table.specs.Areas.{store_of}
use Rattle.table.specs.Layout.{count_of}
use Rattle.end_points.specs.Answers.{state_number, stated_of}
use Rattle.end_points.specs.Ends.{end_of}
use Rattle.end_points.specs.Heads.{count_in}
use Rattle.end_points.specs.declared.State.{State}
use Rattle.end_points.specs.declared.State.TheVariants.{Closed, Enabled, Open, Failing}
use Rattle.call_open.specs.Opening.{state_answer}
use Rattle.good.specs.Good.{Lists, Good}
use Rattle.good.specs.Calls.{Memory, relent, at_setup, by_call, by_store}
use Rattle.machine.specs.Calls.{Call, Fed, opens, closes, counts, sends, urges, plans, arrives, hands_out, reports, ticks}
use Rattle.machine.specs.Machine.{Machine, begun, stating, step}
use Rattle.machine.proofs.Listed.{elem_listed, elem_none}
use Rattle.refinement.specs.Standing.{read_at, end_for, end_at}
use Rattle.refinement.specs.Standing.{stands_for, Stands, Follows, Begins, Refines, StatesAnswer, ReachStands}
use Rattle.refinement.proofs.Following.{state_in}
use Rattle.refinement.proofs.SetupStands.{begins}
use Rattle.refinement.proofs.OpenStands.{open_follows, close_follows, counts_follow}
use Rattle.refinement.proofs.SendStands.{send_follows, urgent_follows}
use Rattle.refinement.proofs.PlanStands.{Does, plans_do}
use Rattle.refinement.proofs.ArriveStands.{arrive_follows}
use Rattle.refinement.proofs.HandStands.{hand_follows}
use Rattle.refinement.proofs.ReportStands.{report_follows}
use Rattle.refinement.proofs.TickAllStands.{tick_follows}

-- a plan: each of its sends follows
plan_follows : (t : List ℕ) (n : Memory) (m : Machine) → Stands t n m → (i : ℕ) (block : List ℕ) → Follows t n m (plans i block)
plan_follows t n m S i block =
    let d = plans_do (Stands t) i one n m block S in
    record { answers = d.0; stands = d.1 }
  where
    one : (n : Memory) (m : Machine) (p : List ℕ) → Stands t n m → Does (Stands t) i n m (sends i p)
    one n m p S =
        let f = subst (λ (m : Machine). Follows t n m (sends i p)) S.is (send_follows t n S.lists S.good S.room i p) in
        (f.answers, f.stands)

-- of the machine that the memory stands for
follows_at : (t : List ℕ) (n : Memory) (l : Lists) → Good t n.node n.book l → store_of t ≤ length n.store → (c : Call) → Fed c
    → Follows t n (stands_for t n l) c
follows_at t n l g room (opens i) f = open_follows t n l g room i
follows_at t n l g room (closes i) f = close_follows t n l g room i
follows_at t n l g room (counts i) f = counts_follow t n l g room i
follows_at t n l g room (sends i p) f = send_follows t n l g room i p
follows_at t n l g room (urges i p) f = urgent_follows t n l g room i p
follows_at t n l g room (plans i block) f =
    plan_follows t n (stands_for t n l) (record { lists = l; good = g; room = room; is = refl }) i block
follows_at t n l g room (arrives block frame) f = arrive_follows t n l g room block frame f
follows_at t n l g room (hands_out buffer) f = hand_follows t n l g room buffer
follows_at t n l g room reports f = report_follows t n l g room
follows_at t n l g room ticks f = tick_follows t n l g room

pub refines : Refines
unfolding Refines
refines t n m s c f = subst (λ (m : Machine). Follows t n m c) s.is (follows_at t n s.lists s.good s.room c f)

pub states_answer : StatesAnswer
unfolding StatesAnswer state_answer stating end_for
states_answer t n m S i = subst (λ (m : Machine). stated_of (state_answer n.node i) ≡ stating m i) S.is (sides (dec_lt i (count_in n.node)))
  where
    count : count_in n.node ≡ count_of t
    count = S.good.tabled.count

    same : (s : State) → state_number s ≡ state_number (state_in (read_at n) n.store n.book i (end_of n.node i) s)
    same Closed = refl
    same (Enabled timer sent) = refl
    same Open = refl
    same (Failing timers) = refl

    sides : Dec (i < count_in n.node) → stated_of (state_answer n.node i) ≡ stating (stands_for t n S.lists) i
    sides (yes h) =
        rw (lt-leb (count_in n.node) i h, elem_listed (count_of t) (end_at n) i (omega (arith, count)))
        (ap (λ (k : ℕ). 0 ∷ k ∷ []) (same (end_of n.node i).state))
    sides (no h) =
        rw (le-leb (count_in n.node) i (omega arith), elem_none (count_of t) (end_at n) i (omega (arith, count)))

-- with another store the memory stands for the machine that has the payloads found there
pub restored : (t : List ℕ) (n : Memory) (m : Machine) (S : Stands t n m) (s : List ℕ) → store_of t ≤ length s
    → Stands t (relent s n) (stands_for t (relent s n) S.lists)
restored t n m S s long = record { lists = S.lists; good = S.good; room = long; is = refl }

pub reach_stands : ReachStands
unfolding ReachStands Begins Refines
reach_stands t n (at_setup _ s) = (begun t (length n.store), begins t n s)
reach_stands t _ (by_call n c f r) = let s = reach_stands t n r in ((step s.0 c).machine, (refines t n s.0 s.1 c f).stands)
reach_stands t _ (by_store n s long r) =
    let S = (reach_stands t n r).1 in
    (stands_for t (relent s n) S.lists, restored t n (reach_stands t n r).0 S s long)

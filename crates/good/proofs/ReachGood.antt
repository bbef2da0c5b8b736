-- Every node that setup and calls can give is good: setup gives it, and each call keeps it. Assumes nothing.
use Prim.Native.Nat.{ℕ, ◌≤◌, ◌<◌}
use mathlib.Core.Path.{◌≡◌, refl, sym, subst}
use mathlib.Core.Logic.{◌⊎◌, inl, inr}
use mathlib.Core.Bool.{Bool, true, false, not}
use mathlib.Core.List.{List, [], ◌∷◌}
use native.Mathlib.Decide.{ℕ_discrete, dec_lt}
use native.Mathlib.Omega.{arith}
use lib.ListN.{length, get_or}
use lib.Seq.{length-sets}
use lib.Dec.{ltb}
use borrow.Author.Tests.{ltb-false}
use Rattle.units.specs.declared.refusals.Refusal.TheVariants as refusal
use Rattle.table.specs.Rules.{good_table}
use Rattle.units.proofs.Judging.{clear}
use Rattle.table.specs.Areas.{store_of}
use Rattle.end_points.specs.Heads.{count_in}
use Rattle.end_points.specs.Lent.{Lent}
use Rattle.call_open.specs.Setup.{setup_answer, setup_after}
use Rattle.call_send.specs.Sending.{send_answer, send_after, urgent_answer, urgent_after}
use Rattle.window.specs.Windows.{accept_of}
use Rattle.frame.specs.declared.FrameType.{FrameType}
use Rattle.frame.specs.declared.FrameType.TheVariants as type
use Rattle.end_points.specs.Runs.{is_new}
use Rattle.end_points.specs.declared.EndPoint.{EndPoint}
use Rattle.arrive_data.specs.Receiving.{reset_after, first_time, repeated, data_after, urgent_after as received_urgent}
use Rattle.units.specs.Refusals.{pick, Verdict}
use Rattle.call_arrive.specs.Arriving.{taken_in_after}
use Rattle.good.specs.Good.{Lists, Good}
use Rattle.good.specs.Calls.{Memory, lent, bare, after, SetUp, at_setup, by_call, by_store}
use Rattle.machine.specs.Calls.{Call, opens, closes, counts, sends, urges, plans, arrives, hands_out, reports, ticks}
use Rattle.machine.specs.Calls.{Fed}
use Rattle.good.specs.Reaching.{ReachIsGood}
use Rattle.good.proofs.SetupGood.{setup_good}
use Rattle.good.proofs.OpenKeeps.{open_keeps, open_refused}
use Rattle.good.proofs.CloseKeeps.{close_keeps, close_refused}
use Rattle.good.proofs.SendKeeps.{send_keeps, send_refused}
use Rattle.good.proofs.UrgentKeeps.{urgent_keeps, urgent_refused}
use Rattle.good.proofs.Arrivals.{Taken, Refused as Turned, arrives as comes}
use Rattle.good.proofs.ArriveKeeps.{arrive_keeps}
use Rattle.good.proofs.HandKeeps.{hand_keeps}
use Rattle.good.proofs.Planned.{by_plan}
use Rattle.good.proofs.ReportKeeps.{report_refused, report_keeps}
use Rattle.waiting.specs.Port.{under_in}
use Rattle.good.proofs.TickKeeps.{tick_keeps}
use Rattle.std.specs.Prelude.{Ok, Err}

abbrev Holds : List ℕ → Memory → Type 0
Holds t n = (l : Lists) × Good t n.node n.book l × (store_of t ≤ length n.store)

-- ---- setup

setup_room : (x : Lent) (t : List ℕ) → setup_answer x t ≡ Ok tt → store_of t ≤ length x.store
unfolding setup_answer
setup_room x t h = ltb-false (length x.store) (store_of t) (clear ((not (good_table t), refusal.BadTable) ∷ (ltb (length x.store) (store_of t), refusal.TooShort) ∷ []) h).1.0

setup_store : (x : Lent) (t : List ℕ) → (setup_after x t (Ok tt)).store ≡ x.store
unfolding setup_after
setup_store x t = refl

pub setup_holds : (t : List ℕ) (n : Memory) → SetUp t n → Holds t n
setup_holds t n s =
    subst (Holds t) (sym s.is) (
      (λ q. []),
      setup_good s.before t s.node s.book s.bytes s.passed,
      rw (setup_store s.before t) (setup_room s.before t s.passed),
    )

-- ---- a store is as long as it was

send_long : (x : Lent) (i : ℕ) (p : List ℕ) (v : Verdict) → length (send_after x i p v).store ≡ length x.store
unfolding send_after
send_long x i p (Err w) = refl
send_long x i p (Ok _) = length-sets x.store _ p

urgent_long : (x : Lent) (i : ℕ) (p : List ℕ) (v : Verdict) → length (urgent_after x i p v).store ≡ length x.store
unfolding urgent_after
urgent_long x i p (Err w) = refl
urgent_long x i p (Ok _) = length-sets x.store _ p

data_long : (x : Lent) (i : ℕ) (e : EndPoint) (s : ℕ) (p : List ℕ) → length (data_after x i e s p).store ≡ length x.store
unfolding data_after
data_long x i e s p = sides (is_new (accept_of e.run.window s).found)
  where
    sides : (t : Bool) → length (pick t (first_time x i e s p) (repeated x i s)).store ≡ length x.store
    sides true = length-sets x.store _ p
    sides false = refl

taken_long : (x : Lent) (i : ℕ) (e : EndPoint) (q : FrameType) (s : ℕ) (p : List ℕ) → length (taken_in_after x i e q s p).store ≡ length x.store
unfolding taken_in_after reset_after received_urgent
taken_long x i e type.Data s p = data_long x i e s p
taken_long x i e type.Acknowledge s p = refl
taken_long x i e type.Reset s p = refl
taken_long x i e type.Urgent s p = refl

-- ---- each call

module _ (t : List ℕ) (n : Memory) (l : Lists) (g : Good t n.node n.book l) (room : store_of t ≤ length n.store) where
  open_holds : (i : ℕ) → Dec (i < count_in n.node) → Holds t (after n (opens i))
  unfolding after
  open_holds i (yes h) = let k = open_keeps t (bare n) l i g h in (k.lists, k.good, room)
  open_holds i (no h) = (l, subst (λ (x : Lent). Good t x.node x.book l) (sym (open_refused (bare n) i (omega arith))) g, room)

  close_holds : (i : ℕ) → Dec (i < count_in n.node) → Holds t (after n (closes i))
  unfolding after
  close_holds i (yes h) = let k = close_keeps t (bare n) l i g h in (k.lists, k.good, room)
  close_holds i (no h) = (l, subst (λ (x : Lent). Good t x.node x.book l) (sym (close_refused (bare n) i (omega arith))) g, room)

  send_holds : (i : ℕ) (p : List ℕ) → Dec (i < count_in n.node) → Holds t (after n (sends i p))
  unfolding after
  send_holds i p (yes h) =
      let k = send_keeps t (lent n []) l i p g h in
      (k.lists, k.good, rw (send_long (lent n []) i p (send_answer (lent n []) i p)) room)
  send_holds i p (no h) = (
    l,
    subst (λ (x : Lent). Good t x.node x.book l) (sym (send_refused (lent n []) i p (omega arith))) g,
    rw (send_long (lent n []) i p (send_answer (lent n []) i p)) room,
  )

  urgent_holds : (i : ℕ) (p : List ℕ) → Dec (i < count_in n.node) → Holds t (after n (urges i p))
  unfolding after
  urgent_holds i p (yes h) =
      let k = urgent_keeps t (lent n []) l i p g h in
      (k.lists, k.good, rw (urgent_long (lent n []) i p (urgent_answer (lent n []) i p)) room)
  urgent_holds i p (no h) = (
    l,
    subst (λ (x : Lent). Good t x.node x.book l) (sym (urgent_refused (lent n []) i p (omega arith))) g,
    rw (urgent_long (lent n []) i p (urgent_answer (lent n []) i p)) room,
  )

  arrive_holds : (block f : List ℕ) → ((k : ℕ) → get_or f k 0 < 256) → Turned (lent n block) f ⊎ Taken (lent n block) f → Holds t (after n (arrives block f))
  unfolding after
  arrive_holds block f b (inl r) =
      let e = r.after in
      (l, subst (λ (x : Lent). Good t x.node x.book l) (sym e) g, subst (λ (x : Lent). store_of t ≤ length x.store) (sym e) room)
  arrive_holds block f b (inr a) =
      let k = arrive_keeps t (lent n block) l f g b a in
      (k.lists, k.good, subst (λ (x : Lent). store_of t ≤ length x.store) (sym a.after) (rw (taken_long (lent n block) a.entry _ a.header.kind _ _) room))

  hand_holds : (buffer : List ℕ) → Holds t (after n (hands_out buffer))
  unfolding after
  hand_holds buffer = let k = hand_keeps t (lent n buffer) l g in (k.lists, k.good, rw k.store room)

  report_holds : Dec (under_in n.book ≡ 0) → Holds t (after n reports)
  unfolding after
  report_holds (yes h) = (l, subst (λ (x : Lent). Good t x.node x.book l) (sym (report_refused (bare n) h)) g, room)
  report_holds (no h) = let k = report_keeps t (bare n) l g h in (l, k.good, room)

  tick_holds : Holds t (after n ticks)
  unfolding after
  tick_holds = let k = tick_keeps t (bare n) l g in (k.lists, k.good, room)

pub call_holds : (t : List ℕ) (n : Memory) (c : Call) → Fed c → Holds t n → Holds t (after n c)
unfolding after
call_holds t n (opens i) f h = open_holds t n h.0 h.1 h.2 i (dec_lt i (count_in n.node))
call_holds t n (closes i) f h = close_holds t n h.0 h.1 h.2 i (dec_lt i (count_in n.node))
call_holds t n (counts i) f h = h
call_holds t n (sends i p) f h = send_holds t n h.0 h.1 h.2 i p (dec_lt i (count_in n.node))
call_holds t n (urges i p) f h = urgent_holds t n h.0 h.1 h.2 i p (dec_lt i (count_in n.node))
call_holds t n (plans i block) f h =
    by_plan (λ k m. Holds t k → Holds t m) i (λ k g. g)
    (λ k p m s g. s (send_holds t k g.0 g.1 g.2 i p (dec_lt i (count_in k.node)))) n block h
call_holds t n (arrives block f) b h = arrive_holds t n h.0 h.1 h.2 block f b (comes (lent n block) h.1.tabled.index f)
call_holds t n (hands_out buffer) f h = hand_holds t n h.0 h.1 h.2 buffer
call_holds t n reports f h = report_holds t n h.0 h.1 h.2 (ℕ_discrete (under_in n.book) 0)
call_holds t n ticks f h = tick_holds t n h.0 h.1 h.2

-- Reach implies Good.
pub reach_is_good : ReachIsGood
unfolding ReachIsGood
reach_is_good t n (at_setup _ s) = setup_holds t n s
reach_is_good t n (by_call m c f r) = call_holds t m c f (reach_is_good t m r)
reach_is_good t n (by_store m s long r) = let h = reach_is_good t m r in (h.0, h.1, long)

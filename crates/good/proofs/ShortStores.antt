-- A store that is too short is refused by every call that is lent one: the test for it is among the last, and what is
-- tested after it answers 6 too. Assumes nothing.
use Prim.Native.Nat.{ℕ, ◌≤◌, ◌<◌}
use mathlib.Core.Path.{◌≡◌, refl, sym, ap, ◌∙◌}
use mathlib.Core.Bool.{Bool, true, false, not, ◌&&◌}
use mathlib.Core.List.{List, [], ◌∷◌, ◌++◌}
use native.Mathlib.Omega.{arith}
use lib.ListN.{length}
use lib.Dec.{eqb, leb, ltb}
use borrow.Author.Tests.{le-ltb, lt-ltb}
use Rattle.units.specs.Refusals.{number_of, pick, verdict, Verdict}
use Rattle.units.specs.declared.refusals.Refusal.{Refusal}
use Rattle.units.specs.declared.refusals.Refusal.TheVariants as refusal
use Rattle.units.proofs.Judging.{refused_not_zero}
use Rattle.table.specs.Areas.{store_of}
use Rattle.frame.specs.Layout.{payload_of}
use Rattle.frame.specs.Types.{carries, answered}
use Rattle.frame.specs.Reading.{header_of}
use Rattle.frame.specs.declared.Header.{Header}
use Rattle.waiting.specs.Acks.{waiting_of}
use Rattle.waiting.specs.Port.{under_in}
use Rattle.end_points.specs.Ends.{end_of}
use Rattle.end_points.specs.Heads.{count_in, need_in}
use Rattle.end_points.specs.States.{is_closed, is_open}
use Rattle.end_points.specs.Lent.{Lent}
use Rattle.end_points.specs.Answers.{handed_of}
use Rattle.call_send.specs.Sending.{sender_tests, send_answer, send_after, urgent_answer, urgent_after}
use Rattle.call_plan.specs.Planning.{InOrder, sent_in_order, sent_block, plan_answer, plan_after}
use Rattle.call_arrive.specs.Arriving.{entry_of, entry_verdict, answer_as, after_as, block_room}
use Rattle.call_arrive.specs.Arriving.{entry_answer, entry_after, read_answer, read_after, frame_tests, arrival_answer, arrival_after}
use Rattle.call_hand_out.specs.Handing.{frame_out, next_out, hand_out_answer, hand_out_after}
use Rattle.machine.specs.Calls.{Call, opens, closes, counts, sends, urges, plans, arrives, hands_out, reports, ticks}
use Rattle.good.specs.Good.{Lists, Good}
use Rattle.good.specs.Calls.{Memory, lent, kept, answer, after, relent}
use Rattle.good.specs.Reaching.{Stored, shortened, Declined, ReachIsGood, ShortIsRefused, ShortStopsPlans}
use Rattle.good.proofs.ReachGood.{reach_is_good}
use Rattle.std.specs.Prelude.{Result, Ok, Err}
use Rattle.end_points.specs.declared.answers.Arrival.{Arrival}

-- ---- a verdict with the longer store, and with the shorter one

-- 6 where it let the call through
abbrev or_short : Verdict → Verdict
or_short (Ok _) = Err refusal.TooShort
or_short (Err w) = Err w

-- an arrival's answer
abbrev or_short_at : Result Arrival Refusal → Result Arrival Refusal
or_short_at (Ok a) = Err refusal.TooShort
or_short_at (Err w) = Err w

-- the test for the store stands after ts; where it does not fit, what comes after it passes or answers 6 too
or_short_holds : (ts more : List (Bool × Refusal)) → or_short (verdict more) ≡ Err refusal.TooShort
    → verdict (ts ++ ((true, refusal.TooShort) ∷ more)) ≡ or_short (verdict (ts ++ ((false, refusal.TooShort) ∷ more)))
or_short_holds [] more h = sym h
or_short_holds (t ∷ ts) more h = sides t.0 (verdict (ts ++ ((false, refusal.TooShort) ∷ more))) (or_short_holds ts more h)
  where
    sides : (b : Bool) {u : Verdict} (v : Verdict) → u ≡ or_short v
        → pick b (Err t.1) u ≡ or_short (pick b (Err t.1) v)
    sides true v e = refl
    sides false v e = e

module _ (t : List ℕ) (n : Memory) (l : Lists) (g : Good t n.node n.book l) (long : store_of t ≤ length n.store)
    (s : List ℕ) (short : length s < store_of t) where
  abbrev m : Memory
  m = relent s n

  abbrev ws : List ℕ
  ws = n.node

  lacks : ltb (length s) (need_in ws) ≡ true
  lacks = lt-ltb (length s) (need_in ws) (omega (arith, g.tabled.need))

  enough : ltb (length n.store) (need_in ws) ≡ false
  enough = le-ltb (length n.store) (need_in ws) (omega (arith, g.tabled.need))

  -- ---- send and Urgent

  send_tests : (i : ℕ) (p : List ℕ) → send_answer (lent m []) i p ≡ or_short (send_answer (lent n []) i p)
  unfolding send_answer
  send_tests i p =
      let e = end_of ws i in
      let before : List (Bool × Refusal) =
      (leb (count_in ws) i, refusal.NoEntry)
      ∷ (sender_tests e (length p)
      ++ ((eqb e.run.accepted.0 4294967295, refusal.RunFull)
      ∷ (leb e.run.window.size e.run.taken, refusal.WindowFull) ∷ [])) in
      rw (lacks, enough) (or_short_holds before [] refl)

  send_declined : (i : ℕ) (p : List ℕ) (v : Verdict) → send_answer (lent n []) i p ≡ v → Declined n s (sends i p)
  unfolding answer after send_after
  send_declined i p (Ok _) e = let d = send_tests i p ∙ ap or_short e in record { answered = rw (d, e) refl; left = rw d refl }
  send_declined i p (Err w) e =
      let d = send_tests i p ∙ ap or_short e in record { answered = rw (d, e, refused_not_zero w) refl; left = rw d refl }

  urgent_tests : (i : ℕ) (p : List ℕ) → urgent_answer (lent m []) i p ≡ or_short (urgent_answer (lent n []) i p)
  unfolding urgent_answer
  urgent_tests i p =
      let e = end_of ws i in
      let before : List (Bool × Refusal) =
      (leb (count_in ws) i, refusal.NoEntry)
      ∷ (sender_tests e (length p) ++ ((not (eqb e.run.urgent 0), refusal.UrgentWaits) ∷ [])) in
      rw (lacks, enough) (or_short_holds before [] refl)

  urgent_declined : (i : ℕ) (p : List ℕ) (v : Verdict) → urgent_answer (lent n []) i p ≡ v → Declined n s (urges i p)
  unfolding answer after urgent_after
  urgent_declined i p (Ok _) e =
      let d = urgent_tests i p ∙ ap or_short e in record { answered = rw (d, e) refl; left = rw d refl }
  urgent_declined i p (Err w) e =
      let d = urgent_tests i p ∙ ap or_short e in record { answered = rw (d, e, refused_not_zero w) refl; left = rw d refl }

  -- ---- an arrival

  module _ (block : List ℕ) where
    -- the block's test comes after the store's, and answers 6 too
    entry_tests : (i : ℕ) (h : Header) → entry_verdict (lent m block) i h ≡ or_short (entry_verdict (lent n block) i h)
    entry_tests i h =
        let e = end_of ws i in
        let t = h.kind in
        let before : List (Bool × Refusal) =
        (leb (count_in ws) i, refusal.NoEndPoint)
        ∷ (is_closed e.state, refusal.NoEndPoint)
        ∷ (carries t && not (is_open e.state), refusal.NoEndPoint)
        ∷ (carries t && ltb e.entry.largest h.length, refusal.PayloadLength)
        ∷ (answered t && leb 32 (waiting_of ws), refusal.AcksFull)
        ∷ [] in
        rw (lacks, enough)
        (or_short_holds before ((carries t && ltb (length block) (block_room e), refusal.TooShort) ∷ [])
        (last (carries t && ltb (length block) (block_room e))))
      where
        last : (b : Bool) → or_short (verdict ((b, refusal.TooShort) ∷ [])) ≡ Err refusal.TooShort
        last true = refl
        last false = refl

    read_short : (r : Result Header Refusal) (p : List ℕ) → read_answer (lent m block) r p ≡ or_short_at (read_answer (lent n block) r p)
    unfolding read_answer entry_answer
    read_short (Err w) p = refl
    read_short (Ok h) p = sides (entry_verdict (lent n block) (entry_of (lent n block) h) h) refl
      where
        sides : (v : Verdict) → entry_verdict (lent n block) (entry_of (lent n block) h) h ≡ v
            → read_answer (lent m block) (Ok h) p ≡ or_short_at (read_answer (lent n block) (Ok h) p)
        sides (Ok _) e = rw (entry_tests (entry_of (lent n block) h) h, e) refl
        sides (Err w) e = rw (entry_tests (entry_of (lent n block) h) h, e) refl

    read_stays : (r : Result Header Refusal) (p : List ℕ) → read_after (lent m block) r p ≡ lent m block
    unfolding read_after entry_after
    read_stays (Err w) p = refl
    read_stays (Ok h) p = sides (entry_verdict (lent n block) (entry_of (lent n block) h) h) refl
      where
        sides : (v : Verdict) → entry_verdict (lent n block) (entry_of (lent n block) h) h ≡ v
            → read_after (lent m block) (Ok h) p ≡ lent m block
        sides (Ok _) e = rw (entry_tests (entry_of (lent n block) h) h, e) refl
        sides (Err w) e = rw (entry_tests (entry_of (lent n block) h) h, e) refl

    arrive_tests : (f : List ℕ) → arrival_answer (lent m block) f ≡ or_short_at (arrival_answer (lent n block) f)
    unfolding arrival_answer
    arrive_tests f =
        sides (verdict (frame_tests ws f)) (read_answer (lent n block) (header_of f) (payload_of f)) (read_short (header_of f) (payload_of f))
      where
        sides : (v : Verdict) {a : Result Arrival Refusal} (b : Result Arrival Refusal) → a ≡ or_short_at b → answer_as v a ≡ or_short_at (answer_as v b)
        sides (Ok _) b e = e
        sides (Err w) b e = refl

    arrive_stays : (f : List ℕ) → arrival_after (lent m block) f ≡ lent m block
    unfolding arrival_after
    arrive_stays f = sides (verdict (frame_tests ws f)) (read_stays (header_of f) (payload_of f))
      where
        sides : (v : Verdict) {x y : Lent} → y ≡ x → after_as v x y ≡ x
        sides (Ok _) e = e
        sides (Err w) e = refl

    arrive_declined : (f : List ℕ) (a : Result Arrival Refusal) → arrival_answer (lent n block) f ≡ a → Declined n s (arrives block f)
    unfolding answer after
    arrive_declined f (Ok a) e =
        let d = arrive_tests f ∙ ap or_short_at e in
        record { answered = rw (d, e, arrive_stays f) refl; left = rw (arrive_stays f) refl }
    arrive_declined f (Err w) e =
        let d = arrive_tests f ∙ ap or_short_at e in
        record { answered = rw (d, e, arrive_stays f, refused_not_zero w) refl; left = rw (arrive_stays f) refl }

  -- ---- handing out

  hand_declined : (buffer : List ℕ) → Declined n s (hands_out buffer)
  unfolding answer after hand_out_answer hand_out_after
  hand_declined buffer = by (eqb (under_in n.book) 0) refl
    where
      sides : (b : Bool) (k : ℕ)
          → record { numbers = number_of refusal.TooShort ∷ []; out = buffer }
          ≡ shortened (hands_out buffer)
          (record { numbers = handed_of (pick b (Err refusal.TooShort) (Ok k)); out = buffer })
      sides true k = refl
      sides false k = refl

      by : (z : Bool) → eqb (under_in n.book) 0 ≡ z → Declined n s (hands_out buffer)
      by true e =
          record {
            answered =
                let frame = frame_out (lent n buffer) (next_out ws n.book) in
                rw (e, lacks, enough) (sides (ltb (length buffer) (length frame)) (length frame));
            left = rw (e, lacks) refl;
          }
      by false e = record { answered = rw e refl; left = rw e refl }

  declined : (c : Call) → Stored c → Declined n s c
  declined (opens i) f = absurd f
  declined (closes i) f = absurd f
  declined (counts i) f = absurd f
  declined (sends i p) f = send_declined i p (send_answer (lent n []) i p) refl
  declined (urges i p) f = urgent_declined i p (urgent_answer (lent n []) i p) refl
  declined (plans i block) f = absurd f
  declined (arrives block b) f = arrive_declined block b (arrival_answer (lent n block) b) refl
  declined (hands_out buffer) f = hand_declined buffer
  declined reports f = absurd f
  declined ticks f = absurd f

pub short_is_refused : ShortIsRefused
unfolding ShortIsRefused ReachIsGood
short_is_refused t n r s short c f = let h = reach_is_good t n r in declined t n h.0 h.1 h.2 s short c f

-- ---- a plan

-- its first send is refused, and so it is the last
stops : (n : Memory) (i : ℕ) (p : List ℕ) (ps : List (List ℕ)) (w : Refusal) → send_answer (lent n []) i p ≡ Err w
    → sent_in_order (lent n []) i 0 (p ∷ ps) ≡ record { accepted = 0; stop = Err w; left = lent n [] }
unfolding sent_in_order send_after
stops n i p ps w e = rw e

pub short_stops_plans : ShortStopsPlans
unfolding ShortStopsPlans ReachIsGood answer after plan_answer plan_after
short_stops_plans t n r s short i block p ps plan read =
    let h = reach_is_good t n r in
    sides (send_answer (lent n []) i p) (send_tests t n h.0 h.1 h.2 s short i p)
  where
    by : (w : Refusal) → send_answer (lent (relent s n) []) i p ≡ Err w
        → ((answer (relent s n) (plans i block)).numbers ≡ 0 ∷ 0 ∷ (answer (relent s n) (sends i p)).numbers)
        × (after (relent s n) (plans i block) ≡ relent s n)
    by w e =
        let o = stops (relent s n) i p ps w e in
        let b : sent_block (lent (relent s n) []) i block ≡ record { accepted = 0; stop = Err w; left = lent (relent s n) [] } = rw read o in
        (rw (plan, b, e), rw plan (ap (λ (x : InOrder). kept x.left) b))

    sides : (v : Verdict) → send_answer (lent (relent s n) []) i p ≡ or_short v
        → ((answer (relent s n) (plans i block)).numbers ≡ 0 ∷ 0 ∷ (answer (relent s n) (sends i p)).numbers)
        × (after (relent s n) (plans i block) ≡ relent s n)
    sides (Ok _) e = by refusal.TooShort e
    sides (Err w) e = by w e

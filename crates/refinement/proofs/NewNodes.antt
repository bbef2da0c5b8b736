-- A new node, all zeros but for its clock, is the blank machine: no entry, nothing waits, and no call but setup alters more than the clock.
-- Assumes nothing.
use Prim.Native.Nat.{ℕ}
use mathlib.Core.Path.{◌≡◌, refl, ap}
use mathlib.Core.Bool.{Bool, true, false}
use mathlib.Core.List.{List, [], ◌∷◌}
use lib.ListN.{length}
use native.Mathlib.Omega.{arith}
use lib.Dec.{leb, eqb}
use borrow.Author.Tests.{le-leb, le-ltb}
use Rattle.units.specs.Refusals.{pick, verdict, Verdict}
use Rattle.frame.specs.Layout.{payload_of}
use Rattle.frame.specs.Reading.{header_of}
use Rattle.end_points.specs.Heads.{count_in}
use Rattle.end_points.specs.Lent.{Lent}
use Rattle.end_points.specs.Answers.{arrived_of}
use Rattle.call_open.specs.Opening.{open_answer, close_answer, counts_answer}
use Rattle.call_send.specs.Sending.{send_answer, urgent_answer}
use Rattle.call_arrive.specs.Arriving as memory
use Rattle.call_hand_out.specs.Handing.{next_out, frame_out, hand_out_answer, hand_out_after, out_node, out_book}
use Rattle.call_report.specs.Reporting.{report_answer}
use Rattle.timing.specs.Timing.{clock_in, later}
use Rattle.call_tick.specs.Ticking.{tick_answer, tick_both, scan_after, scan_both, still_after, recover_all, tick_entries}
use Rattle.good.specs.Calls.{Memory, lent, bare, answer}
use Rattle.good.specs.NewNode.{new_at}
use Rattle.good.proofs.NewStays.{send_same}
use Rattle.machine.specs.Calls.{Call, opens, closes, counts, sends, urges, plans, arrives, hands_out, reports, ticks, Answer}
use Rattle.machine.specs.Machine.{Machine, Outcome, blank, opening, closing, counting, sending, urgent_sending, reading, arriving, going_out, in_order, handing_out, reported, reporting, each, bits_from, ticking, judged, step}
use Rattle.refinement.specs.Standing.{NewIsBlank}
use Rattle.refinement.proofs.PlanStands.{Does, plans_do}
use Rattle.std.specs.Prelude.{Result, Ok, Err}
use Rattle.frame.specs.declared.Header.{Header}
use Rattle.units.specs.declared.refusals.Refusal.{Refusal}

module _ (store : List ℕ) (c q : ℕ) where
  abbrev M : Machine
  M = blank (length store)

  abbrev new : Memory
  new = new_at store c q

  abbrev same : Call → Type 0
  same k = (answer new k ≡ (step M k).answer) × ((step M k).machine ≡ M)

  -- there is no entry
  none : (i : ℕ) → leb (count_in new.node) i ≡ true
  none i = le-leb (count_in new.node) i (omega arith)

  opens_same : (i : ℕ) → same (opens i)
  unfolding answer step opening open_answer
  opens_same i = (rw (none i), refl)

  closes_same : (i : ℕ) → same (closes i)
  unfolding answer step closing close_answer
  closes_same i = (rw (none i), refl)

  counts_same : (i : ℕ) → same (counts i)
  unfolding answer step counting counts_answer
  counts_same i = (rw (none i), refl)

  sends_same : (i : ℕ) (p : List ℕ) → same (sends i p)
  unfolding answer step sending send_answer
  sends_same i p = (rw (none i), refl)

  urges_same : (i : ℕ) (p : List ℕ) → same (urges i p)
  unfolding answer step urgent_sending urgent_answer
  urges_same i p = (rw (none i), refl)

  -- a plan is sends, each of which leaves all as it was
  plans_same : (i : ℕ) (block : List ℕ) → same (plans i block)
  plans_same i block =
      let d = plans_do (λ n m. (n ≡ new) × (m ≡ M)) i one new M block (refl, refl) in
      (d.0, d.1.1)
    where
      one : (n : Memory) (m : Machine) (p : List ℕ) → (n ≡ new) × (m ≡ M) → Does (λ n m. (n ≡ new) × (m ≡ M)) i n m (sends i p)
      one n m p (e, f) =
          let s = sends_same i p in
          rw (e, f) (s.0, (send_same store c q i p, s.1))

  hands_same : (buffer : List ℕ) → same (hands_out buffer)
  unfolding answer step handing_out in_order going_out hand_out_answer hand_out_after next_out frame_out out_node out_book
  hands_same buffer =
      let long = le-ltb (length store) 0 (omega arith) in
      (rw (long, le-ltb (length buffer) 0 (omega arith)), rw long)

  -- no frame is under way
  reports_same : same reports
  unfolding answer step reporting reported report_answer
  reports_same = (refl, refl)

  -- a tick that passes, and one that goes through no entries
  abbrev d : ℕ
  d = later (clock_in new.node) 1

  ticks_same : same ticks
  unfolding answer step ticking each bits_from tick_answer tick_both scan_after scan_both recover_all tick_entries
  ticks_same = (ap (λ (k : ℕ). record { numbers = k ∷ []; out = [] }) (sides (eqb q 0)), refl)
    where
      sides : (z : Bool) → (pick z (scan_after d (bare new)) (still_after d (bare new))).bits ≡ 0
      sides true = refl
      sides false = refl

  -- an arrival is refused: by the same tests of the frame, or since no entry is there
  module _ (block f : List ℕ) where
    abbrev x : Lent
    x = lent new block

    abbrev answered : Verdict → Result Header Refusal → Answer
    answered v r =
        record {
          numbers = arrived_of (memory.answer_as v (memory.read_answer x r (payload_of f)));
          out = (memory.after_as v x (memory.read_after x r (payload_of f))).out;
        }

    abbrev outcome : Verdict → Result Header Refusal → Outcome
    outcome v r = judged v block M (reading M block r (payload_of f))

    refused : (v : Verdict) (r : Result Header Refusal) → (answered v r ≡ (outcome v r).answer) × ((outcome v r).machine ≡ M)
    unfolding reading memory.read_answer memory.read_after memory.entry_answer memory.entry_after
    refused (Err w) r = (refl, refl)
    refused (Ok _) (Err w) = (refl, refl)
    refused (Ok _) (Ok h) = (rw (none (memory.entry_of x h)), refl)

    arrives_same : same (arrives block f)
    unfolding answer step arriving memory.arrival_answer memory.arrival_after
    arrives_same = refused (verdict (memory.frame_tests new.node f)) (header_of f)

  all_same : (k : Call) → same k
  all_same (opens i) = opens_same i
  all_same (closes i) = closes_same i
  all_same (counts i) = counts_same i
  all_same (sends i p) = sends_same i p
  all_same (urges i p) = urges_same i p
  all_same (plans i block) = plans_same i block
  all_same (arrives block f) = arrives_same block f
  all_same (hands_out buffer) = hands_same buffer
  all_same reports = reports_same
  all_same ticks = ticks_same

pub new_is_blank : NewIsBlank
unfolding NewIsBlank
new_is_blank store c q k = let s = all_same store c q k in record { answers = s.0; machine = s.1 }

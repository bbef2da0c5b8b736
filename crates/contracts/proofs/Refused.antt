-- A refused call leaves all that was lent as it was, by the contract's own text: a theorem for every function that
-- refuses and alters, of the node, below it and for C. Of the node's calls `counts`, `state` and
-- `store_need` alter nothing and `tick` refuses nothing. Assumes
-- nothing.
use Prim.Native.Nat.{ℕ}
use mathlib.Core.Path.{◌≡◌, refl, sym, subst, ◌∙◌}
use mathlib.Core.List.{List, []}
use native.Mathlib.Omega.{arith}
use borrow.Author.Tests.{ne_eqb}
use lib.ListN.{length}
use Rattle.units.specs.Refusals.{verdict}
use Rattle.units.specs.declared.refusals.Refusal.{Refusal}
use Rattle.frame.specs.Layout.{payload_of}
use Rattle.frame.specs.Reading.{header_of, read_of}
use Rattle.frame.specs.Writing.{write_tests, write_answer, written_of, written_as, bytes_as}
use Rattle.frame.specs.declared.Fields.{Fields}
use Rattle.end_points.specs.Answers.{answer_of, counted_of, planned_of, arrived_of, handed_of, stated_of, needed_of}
use Rattle.end_points.specs.Lent.{Lent, bare, stored, whole}
use Rattle.call_open.specs.Opening.{open_answer, open_after, close_answer, close_after, counts_answer, state_answer}
use Rattle.call_open.specs.Setup.{need_answer, setup_answer, setup_after}
use Rattle.call_send.specs.Sending.{send_answer, send_after, urgent_answer, urgent_after}
use Rattle.call_plan.specs.Planning.{plan_answer, plan_after}
use Rattle.call_arrive.specs.Arriving.{frame_tests, entry_of, entry_verdict, answer_as, after_as, entry_answer}
use Rattle.call_arrive.specs.Arriving.{entry_after, read_answer, read_after, arrival_answer, arrival_after}
use Rattle.call_hand_out.specs.Handing.{hand_out_answer, hand_out_after}
use Rattle.call_report.specs.Reporting.{report_answer, report_after}
use Rattle.firmware.specs.Firmware.{read_number, read_fields, fields_in, write_number}
use Rattle.firmware.specs.Nodes.{refusal_in, value_in, pair_in, arrived_in}
use Rattle.node.proofs.setup.Reads as node_setup
use Rattle.node.proofs.open.Reads as node_open
use Rattle.node.proofs.close.Reads as node_close
use Rattle.node.proofs.send.Reads as node_send
use Rattle.node.proofs.plan.Reads as node_plan
use Rattle.node.proofs.urgent.Reads as node_urgent
use Rattle.node.proofs.arrival.Reads as node_arrival
use Rattle.node.proofs.hand_out.Reads as node_hand_out
use Rattle.node.proofs.report.Reads as node_report
use Rattle.call_open.proofs.setup.Reads as call_open_setup
use Rattle.call_open.proofs.open.Reads as call_open_open
use Rattle.call_open.proofs.close.Reads as call_open_close
use Rattle.call_send.proofs.send.Reads as call_send_send
use Rattle.call_send.proofs.urgent.Reads as call_send_urgent
use Rattle.call_plan.proofs.plan.Reads as call_plan_plan
use Rattle.call_arrive.proofs.arrive.Reads as call_arrive_arrive
use Rattle.call_hand_out.proofs.hand_out.Reads as call_hand_out_hand_out
use Rattle.call_report.proofs.report.Reads as call_report_report
use Rattle.frame.proofs.writing.write.Reads as frame_write
use Rattle.firmware.proofs.shelugvar_frame_read.Reads as shelugvar_frame_read
use Rattle.firmware.proofs.shelugvar_frame_write.Reads as shelugvar_frame_write
use Rattle.firmware.proofs.nodes.shelugvar_setup.Reads as shelugvar_setup
use Rattle.firmware.proofs.nodes.shelugvar_open.Reads as shelugvar_open
use Rattle.firmware.proofs.nodes.shelugvar_close.Reads as shelugvar_close
use Rattle.firmware.proofs.nodes.shelugvar_counts.Reads as shelugvar_counts
use Rattle.firmware.proofs.nodes.shelugvar_entry_state.Reads as shelugvar_entry_state
use Rattle.firmware.proofs.nodes.shelugvar_store_need.Reads as shelugvar_store_need
use Rattle.firmware.proofs.nodes.shelugvar_send.Reads as shelugvar_send
use Rattle.firmware.proofs.nodes.shelugvar_plan.Reads as shelugvar_plan
use Rattle.firmware.proofs.nodes.shelugvar_urgent.Reads as shelugvar_urgent
use Rattle.firmware.proofs.nodes.shelugvar_arrival.Reads as shelugvar_arrival
use Rattle.firmware.proofs.nodes.shelugvar_hand_out.Reads as shelugvar_hand_out
use Rattle.firmware.proofs.nodes.shelugvar_report.Reads as shelugvar_report
use Rattle.contracts.specs.Outcome.{Spares, IsRefused, NotZero}
use Rattle.contracts.proofs.Stores.{but_store}
use Rattle.std.specs.Prelude.{Result, Ok, Err}
use Rattle.frame.specs.declared.Header.{Header}
use Rattle.units.specs.Refusals.{Verdict}
use Rattle.end_points.specs.declared.answers.Plan.{Plan}
use Rattle.end_points.specs.declared.answers.Arrival.{Arrival}

-- ---- the node's calls

pub node_setup_refused : Spares node_setup.Post IsRefused (λ e. bare e.0.now e.1.0.now)
unfolding setup_after
node_setup_refused u a r e p w = but_store a.1.1.0.now (cc (p.1, w.1))

pub node_open_refused : Spares node_open.Post IsRefused (λ e. bare e.0.now e.1.0.now)
unfolding open_after
node_open_refused u a r e p w = cc (p.1, w.1)

pub node_close_refused : Spares node_close.Post IsRefused (λ e. bare e.0.now e.1.0.now)
unfolding close_after
node_close_refused u a r e p w = cc (p.1, w.1)

pub node_send_refused : Spares node_send.Post IsRefused
    (λ e. stored e.0.now e.1.0.now e.1.1.0.now)
unfolding send_after
node_send_refused u a r e p w = cc (p.1, w.1)

pub node_plan_refused : Spares node_plan.Post IsRefused
    (λ e. stored e.0.now e.1.0.now e.1.1.0.now)
unfolding plan_after
node_plan_refused u a r e p w = cc (p.1, w.1)

pub node_urgent_refused : Spares node_urgent.Post IsRefused
    (λ e. stored e.0.now e.1.0.now e.1.1.0.now)
unfolding urgent_after
node_urgent_refused u a r e p w = cc (p.1, w.1)

pub node_hand_out_refused : Spares node_hand_out.Post IsRefused
    (λ e. whole e.0.now e.1.0.now [] e.1.1.1.0.now)
unfolding hand_out_after
node_hand_out_refused u a r e p w = but_store a.1.1.0.now (cc (p.1, w.1))

pub node_report_refused : Spares node_report.Post IsRefused (λ e. bare e.0.now e.1.0.now)
unfolding report_after
node_report_refused u a r e p w = cc (p.1, w.1)

-- ---- an arrival: refused by a test, it alters nothing; taken in, it is not refused

module _ (w : Refusal) where
  -- each verdict gives answer and memory alike
  judged : (v : Verdict) (a : Result Arrival Refusal) (x y : Lent) → (a ≡ Err w → y ≡ x) → answer_as v a
      ≡ Err w → after_as v x y ≡ x
  judged (Ok _) a x y h e = h e
  judged (Err v) a x y h e = refl

  read_on : (x : Lent) (r : Result Header Refusal) (p : List ℕ) → read_answer x r p ≡ Err w → read_after x r p ≡ x
  unfolding read_answer read_after entry_answer entry_after
  read_on x (Err v) p e = refl
  read_on x (Ok h) p e =
      judged (entry_verdict x (entry_of x h) h) _ x _ (λ q. let z : ◌≡◌ {A = ℕ} 0 1 = cc in absurd (omega arith)) e

  pub arrival_spared : (x : Lent) (f : List ℕ) → arrival_answer x f ≡ Err w → arrival_after x f ≡ x
  unfolding arrival_answer arrival_after
  arrival_spared x f e = judged (verdict (frame_tests x.node f)) _ x _ (read_on x (header_of f) (payload_of f)) e

pub node_arrival_refused : Spares node_arrival.Post IsRefused
    (λ e. whole e.0.now e.1.0.now e.1.1.0.now e.1.1.1.0.now)
node_arrival_refused u a r e p w =
    let x = whole a.0.now a.1.0.now a.1.1.0.now a.1.1.1.0.now in
    p.1 ∙ arrival_spared w.0 x a.1.1.1.1.0.now (sym p.0 ∙ w.1)

-- ---- the calls on which those stand

pub call_open_setup_refused : Spares call_open_setup.Post IsRefused
    (λ e. bare e.0.now e.1.0.now)
unfolding setup_after
call_open_setup_refused u a r e p w = but_store a.1.1.0.now (cc (p.1, w.1))

pub call_open_open_refused : Spares call_open_open.Post IsRefused
    (λ e. bare e.0.now e.1.0.now)
unfolding open_after
call_open_open_refused u a r e p w = cc (p.1, w.1)

pub call_open_close_refused : Spares call_open_close.Post IsRefused
    (λ e. bare e.0.now e.1.0.now)
unfolding close_after
call_open_close_refused u a r e p w = cc (p.1, w.1)

pub call_send_send_refused : Spares call_send_send.Post IsRefused
    (λ e. stored e.0.now e.1.0.now e.1.1.0.now)
unfolding send_after
call_send_send_refused u a r e p w = cc (p.1, w.1)

pub call_plan_plan_refused : Spares call_plan_plan.Post IsRefused
    (λ e. stored e.0.now e.1.0.now e.1.1.0.now)
unfolding plan_after
call_plan_plan_refused u a r e p w = cc (p.1, w.1)

pub call_send_urgent_refused : Spares call_send_urgent.Post IsRefused
    (λ e. stored e.0.now e.1.0.now e.1.1.0.now)
unfolding urgent_after
call_send_urgent_refused u a r e p w = cc (p.1, w.1)

pub call_arrive_arrive_refused : Spares call_arrive_arrive.Post IsRefused
    (λ e. whole e.0.now e.1.0.now e.1.1.0.now e.1.1.1.0.now)
call_arrive_arrive_refused u a r e p w =
    let x = whole a.0.now a.1.0.now a.1.1.0.now a.1.1.1.0.now in
    p.1 ∙ arrival_spared w.0 x a.1.1.1.1.0.now (sym p.0 ∙ w.1)

pub call_hand_out_hand_out_refused : Spares call_hand_out_hand_out.Post IsRefused
    (λ e. whole e.0.now e.1.0.now [] e.1.1.1.0.now)
unfolding hand_out_after
call_hand_out_hand_out_refused u a r e p w = but_store a.1.1.0.now (cc (p.1, w.1))

pub call_report_report_refused : Spares call_report_report.Post IsRefused
    (λ e. bare e.0.now e.1.0.now)
unfolding report_after
call_report_report_refused u a r e p w = cc (p.1, w.1)

-- ---- the frame writer

-- each verdict gives answer and bytes alike
as_written : (v : Verdict) (n : ℕ) (new old : List ℕ) (w : Refusal)
    → written_as v n ≡ Err w → bytes_as v new old ≡ old
as_written (Ok _) n new old w e = let z : ◌≡◌ {A = ℕ} 0 1 = cc in absurd (omega arith)
as_written (Err v) n new old w e = refl

write_spared : (d : Fields) (p b : List ℕ) (w : Refusal) → write_answer d p b ≡ Err w → written_of d p b ≡ b
unfolding write_answer written_of
write_spared d p b w = as_written (verdict (write_tests d (length p) (length b))) _ _ _ w

pub frame_write_refused : Spares frame_write.Post IsRefused (λ e. e.0.now)
frame_write_refused u a r e p w =
    p.1 ∙ write_spared a.1.0 a.1.1.0.now a.0.now w.0 (sym p.0 ∙ w.1)

-- ---- for C: an answer other than 0

module _ (x : Lent) (after : Verdict → Lent) (refused : (w : Refusal) → after (Err w) ≡ x) where
  told : (v : Verdict) → NotZero (refusal_in (answer_of v)) → after v ≡ x
  told (Ok _) n = absurd (n refl)
  told (Err w) n = refused w

setup_told : (x : Lent) (t : List ℕ) → NotZero (refusal_in (answer_of (setup_answer x t)))
    → setup_after x t (setup_answer x t) ≡ x
unfolding setup_after
setup_told x t = told x (setup_after x t) (λ w. refl) (setup_answer x t)

pub shelugvar_setup_refused : Spares shelugvar_setup.Post NotZero (λ e. bare e.0.now e.1.0.now)
shelugvar_setup_refused u a r e p z =
    let x = stored a.0.now a.1.0.now a.1.1.0.now in but_store a.1.1.0.now
    (p.1 ∙ setup_told x a.1.1.1.0.now (subst NotZero p.0 z))

open_told : (x : Lent) (i : ℕ) → NotZero (refusal_in (answer_of (open_answer x i)))
    → open_after x i (open_answer x i) ≡ x
unfolding open_after
open_told x i = told x (open_after x i) (λ w. refl) (open_answer x i)

pub shelugvar_open_refused : Spares shelugvar_open.Post NotZero (λ e. bare e.0.now e.1.0.now)
shelugvar_open_refused u a r e p z =
    let x = bare a.0.now a.1.0.now in p.1 ∙ open_told x a.1.1.0 (subst NotZero p.0 z)

close_told : (x : Lent) (i : ℕ) → NotZero (refusal_in (answer_of (close_answer x i)))
    → close_after x i (close_answer x i) ≡ x
unfolding close_after
close_told x i = told x (close_after x i) (λ w. refl) (close_answer x i)

pub shelugvar_close_refused : Spares shelugvar_close.Post NotZero (λ e. bare e.0.now e.1.0.now)
shelugvar_close_refused u a r e p z =
    let x = bare a.0.now a.1.0.now in p.1 ∙ close_told x a.1.1.0 (subst NotZero p.0 z)

send_told : (x : Lent) (i : ℕ) (p : List ℕ) → NotZero (refusal_in (answer_of (send_answer x i p)))
    → send_after x i p (send_answer x i p) ≡ x
unfolding send_after
send_told x i p = told x (send_after x i p) (λ w. refl) (send_answer x i p)

pub shelugvar_send_refused : Spares shelugvar_send.Post NotZero
    (λ e. stored e.0.now e.1.0.now e.1.1.0.now)
shelugvar_send_refused u a r e p z =
    let x = stored a.0.now a.1.0.now a.1.1.0.now in p.1 ∙ send_told x a.1.1.1.0
    a.1.1.1.1.0.now (subst NotZero p.0 z)

urgent_told : (x : Lent) (i : ℕ) (p : List ℕ) → NotZero (refusal_in (answer_of (urgent_answer x i p)))
    → urgent_after x i p (urgent_answer x i p) ≡ x
unfolding urgent_after
urgent_told x i p = told x (urgent_after x i p) (λ w. refl) (urgent_answer x i p)

pub shelugvar_urgent_refused : Spares shelugvar_urgent.Post NotZero
    (λ e. stored e.0.now e.1.0.now e.1.1.0.now)
shelugvar_urgent_refused u a r e p z =
    let x = stored a.0.now a.1.0.now a.1.1.0.now in p.1 ∙ urgent_told x a.1.1.1.0
    a.1.1.1.1.0.now (subst NotZero p.0 z)

report_told : (x : Lent) → NotZero (refusal_in (answer_of (report_answer x))) → report_after x (report_answer x) ≡ x
unfolding report_after
report_told x = told x (report_after x) (λ w. refl) (report_answer x)

pub shelugvar_report_refused : Spares shelugvar_report.Post NotZero (λ e. bare e.0.now e.1.0.now)
shelugvar_report_refused u a r e p z =
    let x = bare a.0.now a.1.0.now in p.1 ∙ report_told x (subst NotZero p.0 z)

-- the place of a value, of two and of what an arrival was
value_spared : (a : List ℕ) (old : ℕ) → NotZero (refusal_in a) → value_in a old ≡ old
unfolding value_in
value_spared a old z = rw (ne_eqb (refusal_in a) 0 z)

pair_spared : (a old : List ℕ) → NotZero (refusal_in a) → pair_in a old ≡ old
unfolding pair_in
pair_spared a old z = rw (ne_eqb (refusal_in a) 0 z)

arrived_spared : (a old : List ℕ) → NotZero (refusal_in a) → arrived_in a old ≡ old
unfolding arrived_in
arrived_spared a old z = rw (ne_eqb (refusal_in a) 0 z)

pub shelugvar_counts_refused : Spares shelugvar_counts.Post NotZero (λ e. e.1.1.0.now)
shelugvar_counts_refused u a r e p z =
    p.1 ∙ pair_spared (counted_of (counts_answer a.0.now a.1.0)) a.1.1.0.now (subst NotZero p.0 z)

pub shelugvar_entry_state_refused : Spares shelugvar_entry_state.Post NotZero (λ e. e.1.1.0.now)
shelugvar_entry_state_refused u a r e p z =
    p.1 ∙ value_spared (stated_of (state_answer a.0.now a.1.0)) a.1.1.0.now (subst NotZero p.0 z)

pub shelugvar_store_need_refused : Spares shelugvar_store_need.Post NotZero (λ e. e.1.0.now)
shelugvar_store_need_refused u a r e p z =
    p.1 ∙ value_spared (needed_of (need_answer a.0.now)) a.1.0.now (subst NotZero p.0 z)

plan_told : (x : Lent) (i : ℕ) (block : List ℕ) (a : Result Plan Refusal) → NotZero (refusal_in (planned_of a)) → plan_after x i block a ≡ x
unfolding plan_after
plan_told x i block (Ok a) z = absurd (z refl)
plan_told x i block (Err w) z = refl

pub shelugvar_plan_refused : Spares {M = Lent × List ℕ} shelugvar_plan.Post NotZero
    (λ e. (stored e.0.now e.1.0.now e.1.1.0.now, e.1.1.1.1.1.0.now))
shelugvar_plan_refused u a r e p z =
    let x = stored a.0.now a.1.0.now a.1.1.0.now in
    let i = a.1.1.1.0 in
    let block = a.1.1.1.1.0.now in
    let k = subst NotZero p.0 z in
    let v = pair_spared (planned_of (plan_answer x i block)) a.1.1.1.1.1.0.now k in
    cc (p.1.0, p.1.1, plan_told x i block (plan_answer x i block) k, v)

arrival_told : (x : Lent) (f : List ℕ) (a : Result Arrival Refusal) → arrival_answer x f ≡ a → NotZero (refusal_in (arrived_of a))
    → arrival_after x f ≡ x
arrival_told x f (Ok a) e z = absurd (z refl)
arrival_told x f (Err w) e z = arrival_spared w x f e

pub shelugvar_arrival_refused : Spares {M = Lent × List ℕ} shelugvar_arrival.Post NotZero
    (λ e. (whole e.0.now e.1.0.now e.1.1.0.now e.1.1.1.0.now, e.1.1.1.1.1.0.now))
shelugvar_arrival_refused u a r e p z =
    let x = whole a.0.now a.1.0.now a.1.1.0.now a.1.1.1.0.now in
    let f = a.1.1.1.1.0.now in
    let k = subst NotZero p.0 z in
    let v = arrived_spared (arrived_of (arrival_answer x f)) a.1.1.1.1.1.0.now k in
    cc (p.1.0, p.1.1, arrival_told x f (arrival_answer x f) refl k, v)

hand_out_told : (x : Lent) (a : Result ℕ Refusal) → NotZero (refusal_in (handed_of a)) → hand_out_after x a ≡ x
unfolding hand_out_after
hand_out_told x (Ok n) z = absurd (z refl)
hand_out_told x (Err w) z = refl

pub shelugvar_hand_out_refused : Spares {M = Lent × ℕ} shelugvar_hand_out.Post NotZero
    (λ e. (whole e.0.now e.1.0.now [] e.1.1.1.0.now, e.1.1.1.1.0.now))
shelugvar_hand_out_refused u a r e p z =
    let x = whole a.0.now a.1.0.now a.1.1.0.now a.1.1.1.0.now in
    let k = subst NotZero p.0 z in
    let v = value_spared (handed_of (hand_out_answer x)) a.1.1.1.1.0.now k in
    let l : whole e.0.now e.1.0.now [] e.1.1.1.0.now
    ≡ whole a.0.now a.1.0.now [] a.1.1.1.0.now =
    but_store a.1.1.0.now (p.1.0 ∙ hand_out_told x (hand_out_answer x) k) in
    cc (l, p.1.1, v)

read_in : (r : Result Header Refusal) (fields : List ℕ) → NotZero (read_number r) → read_fields r fields ≡ fields
unfolding read_fields
read_in (Ok h) fields z = absurd (z refl)
read_in (Err w) fields z = refl

pub shelugvar_frame_read_refused : Spares shelugvar_frame_read.Post NotZero (λ e. e.1.0.now)
shelugvar_frame_read_refused u a r e p z =
    p.1 ∙ read_in (read_of a.0.now) a.1.0.now (subst NotZero p.0 z)

written_in : (v : Verdict) (n : ℕ) (new old : List ℕ) → NotZero (write_number (written_as v n)) → bytes_as v new old ≡ old
written_in (Ok _) n new old z = absurd (z refl)
written_in (Err w) n new old z = refl

write_told : (d : Fields) (p b : List ℕ) → NotZero (write_number (write_answer d p b)) → written_of d p b ≡ b
unfolding write_answer written_of
write_told d p b = written_in (verdict (write_tests d (length p) (length b))) _ _ _

pub shelugvar_frame_write_refused : Spares shelugvar_frame_write.Post NotZero (λ e. e.0.now)
shelugvar_frame_write_refused u a r e p z =
    p.1 ∙ write_told (fields_in a.1.0.now) a.1.1.0.now a.0.now (subst NotZero p.0 z)

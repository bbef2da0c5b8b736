-- From contract to call, for each call of a node. Assumes nothing.
use Prim.Native.Nat.{ℕ}
use mathlib.Core.Path.{refl, sym, ap, ◌∙◌}
use mathlib.Core.List.{List, [], ◌∷◌}
use Rattle.node.proofs.setup.Reads as node_setup
use Rattle.node.proofs.open.Reads as node_open
use Rattle.node.proofs.close.Reads as node_close
use Rattle.node.proofs.counts.Reads as node_counts
use Rattle.node.proofs.send.Reads as node_send
use Rattle.node.proofs.plan.Reads as node_plan
use Rattle.node.proofs.urgent.Reads as node_urgent
use Rattle.node.proofs.arrival.Reads as node_arrival
use Rattle.node.proofs.hand_out.Reads as node_hand_out
use Rattle.node.proofs.report.Reads as node_report
use Rattle.node.proofs.tick.Reads as node_tick
use Rattle.end_points.specs.Lent as lent
use Rattle.end_points.specs.Answers.{answer_of, counted_of, planned_of, arrived_of, handed_of}
use Rattle.call_open.specs.Setup.{setup_after}
use Rattle.call_open.specs.Opening.{open_after, close_after}
use Rattle.call_send.specs.Sending.{send_after, urgent_after}
use Rattle.call_plan.specs.Planning.{plan_after}
use Rattle.call_hand_out.specs.Handing.{hand_out_after}
use Rattle.call_report.specs.Reporting.{report_after}
use Rattle.good.specs.Calls.{kept, kept_bare, answer, after}
use Rattle.machine.specs.Calls.{opens, closes, counts, sends, urges, plans, arrives, hands_out, reports, ticks}
use Rattle.contracts.specs.Gives.{memory, plain, Gives, SetsUp}

-- a setup that passed; node and book have the lengths of their types, and a table's bytes are bytes
pub setup_gives : SetsUp node_setup.Post (λ a. lent.stored a.0.now a.1.0.now a.1.1.0.now)
    (λ a. a.1.1.1.0.now) (λ a e. memory e.0 e.1.0 a.1.1.0.now)
setup_gives u a r e p q node book bytes =
    let x = lent.stored a.0.now a.1.0.now a.1.1.0.now in
    record {
      before = x;
      node = node;
      book = book;
      bytes = bytes;
      passed = sym p.0 ∙ q;
      is = ap kept (p.1 ∙ ap (setup_after x a.1.1.1.0.now) q);
    }

-- a host keeps a store that is not lent
pub open_gives : (s : List ℕ) → Gives node_open.Post (λ a. opens a.1.1.0) (λ r e. plain (answer_of r))
    (λ a. memory a.0 a.1.0 s) (λ a e. memory e.0 e.1.0 s)
unfolding answer after
open_gives s u a r e p f =
    let x = lent.bare a.0.now a.1.0.now in
    record {
      fed = f;
      answered = cc p.0;
      left = ap (kept_bare (memory a.0 a.1.0 s)) (p.1 ∙ ap (open_after x a.1.1.0) p.0);
    }

pub close_gives : (s : List ℕ) → Gives node_close.Post (λ a. closes a.1.1.0) (λ r e. plain (answer_of r))
    (λ a. memory a.0 a.1.0 s) (λ a e. memory e.0 e.1.0 s)
unfolding answer after
close_gives s u a r e p f =
    let x = lent.bare a.0.now a.1.0.now in
    record {
      fed = f;
      answered = cc p.0;
      left = ap (kept_bare (memory a.0 a.1.0 s)) (p.1 ∙ ap (close_after x a.1.1.0) p.0);
    }

-- and to counts the node alone is lent
pub counts_gives : (b s : List ℕ) → Gives node_counts.Post (λ a. counts a.1.0) (λ r e. plain (counted_of r))
    (λ a. record { node = a.0.now; book = b; store = s }) (λ a e. record { node = a.0.now; book = b; store = s })
unfolding answer after
counts_gives b s u a r e p f = record { fed = f; answered = cc (p); left = refl }

pub send_gives : Gives node_send.Post (λ a. sends a.1.1.1.0 a.1.1.1.1.0.now) (λ r e. plain (answer_of r))
    (λ a. memory a.0 a.1.0 a.1.1.0.now) (λ a e. memory e.0 e.1.0 e.1.1.0.now)
unfolding answer after
send_gives u a r e p f =
    let x = lent.stored a.0.now a.1.0.now a.1.1.0.now in
    record {
      fed = f;
      answered = cc p.0;
      left = ap kept (p.1 ∙ ap (send_after x a.1.1.1.0 a.1.1.1.1.0.now) p.0);
    }

pub urgent_gives :
    Gives node_urgent.Post (λ a. urges a.1.1.1.0 a.1.1.1.1.0.now) (λ r e. plain (answer_of r))
    (λ a. memory a.0 a.1.0 a.1.1.0.now) (λ a e. memory e.0 e.1.0 e.1.1.0.now)
unfolding answer after
urgent_gives u a r e p f =
    let x = lent.stored a.0.now a.1.0.now a.1.1.0.now in
    record {
      fed = f;
      answered = cc p.0;
      left = ap kept (p.1 ∙ ap (urgent_after x a.1.1.1.0 a.1.1.1.1.0.now) p.0);
    }

pub plan_gives : Gives node_plan.Post (λ a. plans a.1.1.1.0 a.1.1.1.1.0.now) (λ r e. plain (planned_of r))
    (λ a. memory a.0 a.1.0 a.1.1.0.now) (λ a e. memory e.0 e.1.0 e.1.1.0.now)
unfolding answer after
plan_gives u a r e p f =
    let x = lent.stored a.0.now a.1.0.now a.1.1.0.now in
    record {
      fed = f;
      answered = cc p.0;
      left = ap kept (p.1 ∙ ap (plan_after x a.1.1.1.0 a.1.1.1.1.0.now) p.0);
    }

-- the answer of an arrival has the block afterwards, that of handing out the frame buffer
pub arrival_gives :
    Gives node_arrival.Post (λ a. arrives a.1.1.1.0.now a.1.1.1.1.0.now)
    (λ r e. record { numbers = arrived_of r; out = e.1.1.1.0.now })
    (λ a. memory a.0 a.1.0 a.1.1.0.now) (λ a e. memory e.0 e.1.0 e.1.1.0.now)
unfolding answer after
arrival_gives u a r e p f =
    let out = ap (λ (x : lent.Lent). x.out) p.1 in
    record { fed = f; answered = cc (p.0, out); left = ap kept p.1 }

-- the store that handing out is lent is read alone
pub hand_out_gives :
    Gives node_hand_out.Post (λ a. hands_out a.1.1.1.0.now)
    (λ r e. record { numbers = handed_of r; out = e.1.1.1.0.now })
    (λ a. memory a.0 a.1.0 a.1.1.0.now) (λ a e. memory e.0 e.1.0 a.1.1.0.now)
unfolding answer after
hand_out_gives u a r e p f =
    let x = lent.whole a.0.now a.1.0.now a.1.1.0.now a.1.1.1.0.now in
    let left = p.1 ∙ ap (hand_out_after x) p.0 in
    let out = ap (λ (y : lent.Lent). y.out) left in
    record { fed = f; answered = cc (p.0, out); left = ap kept left }

pub report_gives : (s : List ℕ) → Gives node_report.Post (λ a. reports) (λ r e. plain (answer_of r))
    (λ a. memory a.0 a.1.0 s) (λ a e. memory e.0 e.1.0 s)
unfolding answer after
report_gives s u a r e p f =
    let x = lent.bare a.0.now a.1.0.now in
    record {
      fed = f;
      answered = cc p.0;
      left = ap (kept_bare (memory a.0 a.1.0 s)) (p.1 ∙ ap (report_after x) p.0);
    }

pub tick_gives : (s : List ℕ) → Gives node_tick.Post (λ a. ticks) (λ r e. plain (r ∷ []))
    (λ a. memory a.0 a.1.0 s) (λ a e. memory e.0 e.1.0 s)
unfolding answer after
tick_gives s u a r e p f =
    record { fed = f; answered = cc p.0; left = ap (kept_bare (memory a.0 a.1.0 s)) p.1 }

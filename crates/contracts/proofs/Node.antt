-- One outcome: the node's calls. A theorem a function, over its contract's own text. Assumes nothing.
use mathlib.Core.List.{[]}
use Rattle.node.proofs.setup.Reads as node_setup
use Rattle.node.proofs.open.Reads as node_open
use Rattle.node.proofs.close.Reads as node_close
use Rattle.node.proofs.counts.Reads as node_counts
use Rattle.node.proofs.state.Reads as node_state
use Rattle.node.proofs.store_need.Reads as node_store_need
use Rattle.node.proofs.send.Reads as node_send
use Rattle.node.proofs.plan.Reads as node_plan
use Rattle.node.proofs.urgent.Reads as node_urgent
use Rattle.node.proofs.arrival.Reads as node_arrival
use Rattle.node.proofs.hand_out.Reads as node_hand_out
use Rattle.node.proofs.report.Reads as node_report
use Rattle.node.proofs.tick.Reads as node_tick
use Rattle.end_points.specs.Lent.{bare, stored, whole}
use Rattle.contracts.proofs.Stores.{but_store}
use Rattle.contracts.specs.Outcome.{One, OneAnswer}

-- ---- node

pub node_setup_one : One node_setup.Post (λ e. bare e.0.now e.1.0.now)
node_setup_one u v a r₁ r₂ e₁ e₂ p q = (cc (p.0, q.0), but_store a.1.1.0.now (cc (p.0, q.0, p.1, q.1)))

pub node_open_one : One node_open.Post (λ e. bare e.0.now e.1.0.now)
node_open_one u v a r₁ r₂ e₁ e₂ p q = (cc (p.0, q.0), cc (p.0, q.0, p.1, q.1))

pub node_close_one : One node_close.Post (λ e. bare e.0.now e.1.0.now)
node_close_one u v a r₁ r₂ e₁ e₂ p q = (cc (p.0, q.0), cc (p.0, q.0, p.1, q.1))

pub node_store_need_one : OneAnswer node_store_need.Post (λ r. r)
node_store_need_one u v a r₁ r₂ e₁ e₂ p q = cc

pub node_state_one : OneAnswer node_state.Post (λ r. r)
node_state_one u v a r₁ r₂ e₁ e₂ p q = cc

pub node_counts_one : OneAnswer node_counts.Post (λ r. r)
node_counts_one u v a r₁ r₂ e₁ e₂ p q = cc

pub node_send_one : One node_send.Post (λ e. stored e.0.now e.1.0.now e.1.1.0.now)
node_send_one u v a r₁ r₂ e₁ e₂ p q = (cc (p.0, q.0), cc (p.0, q.0, p.1, q.1))

pub node_plan_one : One node_plan.Post (λ e. stored e.0.now e.1.0.now e.1.1.0.now)
node_plan_one u v a r₁ r₂ e₁ e₂ p q = (cc (p.0, q.0), cc (p.0, q.0, p.1, q.1))

pub node_urgent_one : One node_urgent.Post (λ e. stored e.0.now e.1.0.now e.1.1.0.now)
node_urgent_one u v a r₁ r₂ e₁ e₂ p q = (cc (p.0, q.0), cc (p.0, q.0, p.1, q.1))

pub node_arrival_one : One node_arrival.Post (λ e. whole e.0.now e.1.0.now e.1.1.0.now
    e.1.1.1.0.now)
node_arrival_one u v a r₁ r₂ e₁ e₂ p q = (cc (p.0, q.0), cc (p.1, q.1))

pub node_hand_out_one : One node_hand_out.Post (λ e. whole e.0.now e.1.0.now [] e.1.1.1.0.now)
node_hand_out_one u v a r₁ r₂ e₁ e₂ p q = (cc (p.0, q.0), but_store a.1.1.0.now (cc (p.0, q.0, p.1, q.1)))

pub node_report_one : One node_report.Post (λ e. bare e.0.now e.1.0.now)
node_report_one u v a r₁ r₂ e₁ e₂ p q = (cc (p.0, q.0), cc (p.0, q.0, p.1, q.1))

pub node_tick_one : One node_tick.Post (λ e. bare e.0.now e.1.0.now)
node_tick_one u v a r₁ r₂ e₁ e₂ p q = (cc (p.0, q.0), cc (p.1, q.1))

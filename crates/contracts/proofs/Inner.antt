-- One outcome: the inner calls, on which those of the node stand. A theorem a function, over its contract's own
-- text. Assumes nothing.
use Prim.Native.Nat.{ℕ}
use mathlib.Core.List.{List, []}
use Rattle.arrive_lookup.proofs.entry_for.Reads as arrive_lookup_entry_for
use Rattle.arrive_lookup.proofs.put_in_index.Reads as arrive_lookup_put_in_index
use Rattle.call_open.proofs.open.Reads as call_open_open
use Rattle.call_open.proofs.close.Reads as call_open_close
use Rattle.call_open.proofs.counts.Reads as call_open_counts
use Rattle.call_open.proofs.state.Reads as call_open_state
use Rattle.call_open.proofs.store_need.Reads as call_open_store_need
use Rattle.call_open.proofs.setup.Reads as call_open_setup
use Rattle.call_send.proofs.send.Reads as call_send_send
use Rattle.call_send.proofs.urgent.Reads as call_send_urgent
use Rattle.call_send.proofs.judging.judge_send.Reads as call_send_judge_send
use Rattle.call_send.proofs.judging.judge_urgent.Reads as call_send_judge_urgent
use Rattle.call_send.proofs.lay.Reads as call_send_lay
use Rattle.call_plan.proofs.plan.Reads as call_plan_plan
use Rattle.arrive_ack.proofs.acknowledge.Reads as arrive_ack_acknowledge
use Rattle.blocks.proofs.put_block.Reads as blocks_put_block
use Rattle.blocks.proofs.put_none.Reads as blocks_put_none
use Rattle.blocks.proofs.put_one.Reads as blocks_put_one
use Rattle.blocks.proofs.lent.count.Reads as blocks_count
use Rattle.blocks.proofs.lent.offset.Reads as blocks_offset
use Rattle.blocks.proofs.lent.between.Reads as blocks_between
use Rattle.blocks.proofs.lent.is_plan.Reads as blocks_is_plan
use Rattle.arrive_data.proofs.take_reset.Reads as arrive_data_take_reset
use Rattle.arrive_data.proofs.take_data.Reads as arrive_data_take_data
use Rattle.arrive_data.proofs.take_urgent.Reads as arrive_data_take_urgent
use Rattle.call_arrive.proofs.arrive.Reads as call_arrive_arrive
use Rattle.call_hand_out.proofs.hand_out.Reads as call_hand_out_hand_out
use Rattle.call_report.proofs.report.Reads as call_report_report
use Rattle.call_tick.proofs.tick.Reads as call_tick_tick
use Rattle.end_points.specs.Lent.{bare, stored, whole}
use Rattle.contracts.proofs.Stores.{but_store}
use Rattle.contracts.specs.Outcome.{One, OneAnswer, OneAfter}

-- ---- arrive_lookup

pub arrive_lookup_entry_for_one : OneAnswer arrive_lookup_entry_for.Post (λ r. r)
arrive_lookup_entry_for_one u v a r₁ r₂ e₁ e₂ p q = cc

pub arrive_lookup_put_in_index_one : OneAfter arrive_lookup_put_in_index.Post (λ e. e.0.now)
arrive_lookup_put_in_index_one u v a r₁ r₂ e₁ e₂ p q = cc

-- ---- call_open

pub call_open_open_one : One call_open_open.Post (λ e. bare e.0.now e.1.0.now)
call_open_open_one u v a r₁ r₂ e₁ e₂ p q = (cc (p.0, q.0), cc (p.0, q.0, p.1, q.1))

pub call_open_close_one : One call_open_close.Post (λ e. bare e.0.now e.1.0.now)
call_open_close_one u v a r₁ r₂ e₁ e₂ p q = (cc (p.0, q.0), cc (p.0, q.0, p.1, q.1))

pub call_open_counts_one : OneAnswer call_open_counts.Post (λ r. r)
call_open_counts_one u v a r₁ r₂ e₁ e₂ p q = cc

pub call_open_state_one : OneAnswer call_open_state.Post (λ r. r)
call_open_state_one u v a r₁ r₂ e₁ e₂ p q = cc

pub call_open_store_need_one : OneAnswer call_open_store_need.Post (λ r. r)
call_open_store_need_one u v a r₁ r₂ e₁ e₂ p q = cc

pub call_open_setup_one : One call_open_setup.Post (λ e. bare e.0.now e.1.0.now)
call_open_setup_one u v a r₁ r₂ e₁ e₂ p q = (cc (p.0, q.0), but_store a.1.1.0.now (cc (p.0, q.0, p.1, q.1)))

-- ---- call_send

pub call_send_send_one : One call_send_send.Post (λ e. stored e.0.now e.1.0.now e.1.1.0.now)
call_send_send_one u v a r₁ r₂ e₁ e₂ p q = (cc (p.0, q.0), cc (p.0, q.0, p.1, q.1))

pub call_send_urgent_one : One call_send_urgent.Post (λ e. stored e.0.now e.1.0.now e.1.1.0.now)
call_send_urgent_one u v a r₁ r₂ e₁ e₂ p q = (cc (p.0, q.0), cc (p.0, q.0, p.1, q.1))

pub call_send_judge_send_one : OneAnswer call_send_judge_send.Post (λ r. r)
call_send_judge_send_one u v a r₁ r₂ e₁ e₂ p q = cc

pub call_send_judge_urgent_one : OneAnswer call_send_judge_urgent.Post (λ r. r)
call_send_judge_urgent_one u v a r₁ r₂ e₁ e₂ p q = cc

pub call_send_lay_one : OneAfter {M = List ℕ × List ℕ} call_send_lay.Post (λ e. (e.0.now, e.1.0.now))
call_send_lay_one u v a r₁ r₂ e₁ e₂ p q = cc (p.0, q.0, p.1, q.1)

-- ---- call_plan

pub call_plan_plan_one : One call_plan_plan.Post (λ e. stored e.0.now e.1.0.now e.1.1.0.now)
call_plan_plan_one u v a r₁ r₂ e₁ e₂ p q = (cc (p.0, q.0), cc (p.0, q.0, p.1, q.1))

-- ---- arrive_ack

pub arrive_ack_acknowledge_one : One arrive_ack_acknowledge.Post (λ e. bare e.0.now e.1.0.now)
arrive_ack_acknowledge_one u v a r₁ r₂ e₁ e₂ p q = (cc (p.0, q.0), cc (p.1.0, q.1.0, p.1.1, q.1.1))

-- ---- blocks

pub blocks_put_block_one : One blocks_put_block.Post (λ e. e.0.now)
blocks_put_block_one u v a r₁ r₂ e₁ e₂ p q = (cc (p.0, q.0), cc (p.1, q.1))

pub blocks_put_none_one : One blocks_put_none.Post (λ e. e.0.now)
blocks_put_none_one u v a r₁ r₂ e₁ e₂ p q = (cc (p.0, q.0), cc (p.1, q.1))

pub blocks_put_one_one : One blocks_put_one.Post (λ e. e.0.now)
blocks_put_one_one u v a r₁ r₂ e₁ e₂ p q = (cc (p.0, q.0), cc (p.1, q.1))

pub blocks_count_one : OneAnswer blocks_count.Post (λ r. r)
blocks_count_one u v a r₁ r₂ e₁ e₂ p q = cc

pub blocks_offset_one : OneAnswer blocks_offset.Post (λ r. r)
blocks_offset_one u v a r₁ r₂ e₁ e₂ p q = cc

pub blocks_between_one : OneAnswer blocks_between.Post (λ r. r.now)
blocks_between_one u v a r₁ r₂ e₁ e₂ p q = cc

pub blocks_is_plan_one : OneAnswer blocks_is_plan.Post (λ r. r)
blocks_is_plan_one u v a r₁ r₂ e₁ e₂ p q = cc

-- ---- arrive_data

pub arrive_data_take_reset_one : One arrive_data_take_reset.Post (λ e. e.0.now)
arrive_data_take_reset_one u v a r₁ r₂ e₁ e₂ p q = (cc (p.0, q.0), cc (p.1, q.1))

pub arrive_data_take_data_one : One arrive_data_take_data.Post
    (λ e. whole e.0.now e.1.0.now e.1.1.0.now e.1.1.1.0.now)
arrive_data_take_data_one u v a r₁ r₂ e₁ e₂ p q = (cc (p.0, q.0), cc (p.1, q.1))

pub arrive_data_take_urgent_one : One arrive_data_take_urgent.Post (λ e. e.0.now)
arrive_data_take_urgent_one u v a r₁ r₂ e₁ e₂ p q = (cc (p.0, q.0), cc (p.1, q.1))

-- ---- call_arrive

pub call_arrive_arrive_one : One call_arrive_arrive.Post
    (λ e. whole e.0.now e.1.0.now e.1.1.0.now e.1.1.1.0.now)
call_arrive_arrive_one u v a r₁ r₂ e₁ e₂ p q = (cc (p.0, q.0), cc (p.1, q.1))

-- ---- call_hand_out

pub call_hand_out_hand_out_one : One call_hand_out_hand_out.Post
    (λ e. whole e.0.now e.1.0.now [] e.1.1.1.0.now)
call_hand_out_hand_out_one u v a r₁ r₂ e₁ e₂ p
    q = (cc (p.0, q.0), but_store a.1.1.0.now (cc (p.0, q.0, p.1, q.1)))

-- ---- call_report

pub call_report_report_one : One call_report_report.Post (λ e. bare e.0.now e.1.0.now)
call_report_report_one u v a r₁ r₂ e₁ e₂ p q = (cc (p.0, q.0), cc (p.0, q.0, p.1, q.1))

-- ---- call_tick

pub call_tick_tick_one : One call_tick_tick.Post (λ e. bare e.0.now e.1.0.now)
call_tick_tick_one u v a r₁ r₂ e₁ e₂ p q = (cc (p.0, q.0), cc (p.1, q.1))

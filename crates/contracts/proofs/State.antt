-- One outcome: the state's crates: memory, what waits, timers, end points, slots. A theorem a function, over its
-- contract's own text. Assumes nothing.
use Rattle.memory.proofs.word_at.Reads as memory_word_at
use Rattle.memory.proofs.half_at.Reads as memory_half_at
use Rattle.waiting.proofs.acks.U64FromAck.from.Reads as waiting_word
use Rattle.waiting.proofs.acks.AckFromU64.from.Reads as waiting_ack
use Rattle.waiting.proofs.acks.waiting.Reads as waiting_waiting
use Rattle.waiting.proofs.acks.oldest.Reads as waiting_oldest
use Rattle.waiting.proofs.acks.push.Reads as waiting_push
use Rattle.waiting.proofs.acks.pop.Reads as waiting_pop
use Rattle.waiting.proofs.acks.drop.Reads as waiting_drop
use Rattle.waiting.proofs.queues.first.Reads as waiting_first
use Rattle.waiting.proofs.queues.append.Reads as waiting_append
use Rattle.waiting.proofs.queues.unlink.Reads as waiting_unlink
use Rattle.waiting.proofs.port.under.Reads as waiting_under
use Rattle.waiting.proofs.port.begin.Reads as waiting_begin
use Rattle.waiting.proofs.port.end.Reads as waiting_end
use Rattle.waiting.proofs.port.is_own.Reads as waiting_is_own
use Rattle.waiting.proofs.port.entry.Reads as waiting_entry
use Rattle.waiting.proofs.port.number.Reads as waiting_number
use Rattle.waiting.proofs.port.is_data.Reads as waiting_is_data
use Rattle.waiting.proofs.port.is_reset.Reads as waiting_is_reset
use Rattle.waiting.proofs.port.data_out.Reads as waiting_data_out
use Rattle.timing.proofs.clock.Reads as timing_clock
use Rattle.timing.proofs.quiet.Reads as timing_quiet
use Rattle.timing.proofs.later.Reads as timing_later
use Rattle.timing.proofs.left.Reads as timing_left
use Rattle.timing.proofs.soonest.Reads as timing_soonest
use Rattle.timing.proofs.pass.Reads as timing_pass
use Rattle.timing.proofs.heed.Reads as timing_heed
use Rattle.timing.proofs.rouse.Reads as timing_rouse
use Rattle.end_points.proofs.answers.state_number.Reads as end_points_state_number
use Rattle.end_points.proofs.answers.what.Reads as end_points_what
use Rattle.end_points.proofs.answers.value.Reads as end_points_value
use Rattle.end_points.proofs.heads.count.Reads as end_points_count
use Rattle.end_points.proofs.heads.own.Reads as end_points_own
use Rattle.end_points.proofs.heads.protocol.Reads as end_points_protocol
use Rattle.end_points.proofs.heads.need.Reads as end_points_need
use Rattle.end_points.proofs.load_entry.Reads as end_points_load_entry
use Rattle.end_points.proofs.load_place.Reads as end_points_load_place
use Rattle.end_points.proofs.load_state.Reads as end_points_load_state
use Rattle.end_points.proofs.load_run.Reads as end_points_load_run
use Rattle.end_points.proofs.load.Reads as end_points_load
use Rattle.end_points.proofs.run_of.Reads as end_points_run_of
use Rattle.end_points.proofs.save.Reads as end_points_save
use Rattle.end_points.proofs.save_entry.Reads as end_points_save_entry
use Rattle.end_points.proofs.states.is_sends.Reads as end_points_is_sends
use Rattle.end_points.proofs.states.is_closed.Reads as end_points_is_closed
use Rattle.end_points.proofs.states.is_open.Reads as end_points_is_open
use Rattle.end_points.proofs.states.is_new.Reads as end_points_is_new
use Rattle.end_points.proofs.states.anew_run.Reads as end_points_anew_run
use Rattle.end_points.proofs.states.without_urgent.Reads as end_points_without_urgent
use Rattle.slots.proofs.cells.Cell.of_slot.Reads as slots_of_slot
use Rattle.slots.proofs.cells.Cell.with_id.Reads as slots_with_id
use Rattle.slots.proofs.cells.Cell.id.Reads as slots_id
use Rattle.slots.proofs.cells.Cell.length.Reads as slots_length
use Rattle.slots.proofs.cells.Cell.put_length.Reads as slots_put_length
use Rattle.slots.proofs.cells.Cell.timer.Reads as slots_timer
use Rattle.slots.proofs.cells.Cell.put_timer.Reads as slots_put_timer
use Rattle.slots.proofs.cells.Cell.retries.Reads as slots_retries
use Rattle.slots.proofs.cells.Cell.put_retries.Reads as slots_put_retries
use Rattle.slots.proofs.slot_for.Reads as slots_slot_for
use Rattle.slots.proofs.cell_of.Reads as slots_cell_of
use Rattle.slots.proofs.spot_of.Reads as slots_spot_of
use Rattle.slots.proofs.number_in.Reads as slots_number_in
use Rattle.slots.proofs.waits.Reads as slots_waits
use Rattle.slots.proofs.drop_slots.Reads as slots_drop_slots
use Rattle.slots.proofs.idle.Reads as slots_idle
use Rattle.contracts.specs.Outcome.{OneAnswer, OneAfter}

-- ---- memory

pub memory_word_at_one : OneAnswer memory_word_at.Post (λ r. r)
memory_word_at_one u v a r₁ r₂ e₁ e₂ p q = cc

pub memory_half_at_one : OneAnswer memory_half_at.Post (λ r. r)
memory_half_at_one u v a r₁ r₂ e₁ e₂ p q = cc

-- ---- waiting

pub waiting_word_one : OneAnswer waiting_word.Post (λ r. r)
waiting_word_one u v a r₁ r₂ e₁ e₂ p q = cc

pub waiting_ack_one : OneAnswer waiting_ack.Post (λ r. r)
waiting_ack_one u v a r₁ r₂ e₁ e₂ p q = cc

pub waiting_waiting_one : OneAnswer waiting_waiting.Post (λ r. r)
waiting_waiting_one u v a r₁ r₂ e₁ e₂ p q = cc

pub waiting_oldest_one : OneAnswer waiting_oldest.Post (λ r. r)
waiting_oldest_one u v a r₁ r₂ e₁ e₂ p q = cc

pub waiting_push_one : OneAfter waiting_push.Post (λ e. e.0.now)
waiting_push_one u v a r₁ r₂ e₁ e₂ p q = cc

pub waiting_pop_one : OneAfter waiting_pop.Post (λ e. e.0.now)
waiting_pop_one u v a r₁ r₂ e₁ e₂ p q = cc

pub waiting_drop_one : OneAfter waiting_drop.Post (λ e. e.0.now)
waiting_drop_one u v a r₁ r₂ e₁ e₂ p q = cc

pub waiting_first_one : OneAnswer waiting_first.Post (λ r. r)
waiting_first_one u v a r₁ r₂ e₁ e₂ p q = cc

pub waiting_append_one : OneAfter waiting_append.Post (λ e. e.0.now)
waiting_append_one u v a r₁ r₂ e₁ e₂ p q = cc

pub waiting_unlink_one : OneAfter waiting_unlink.Post (λ e. e.0.now)
waiting_unlink_one u v a r₁ r₂ e₁ e₂ p q = cc

pub waiting_under_one : OneAnswer waiting_under.Post (λ r. r)
waiting_under_one u v a r₁ r₂ e₁ e₂ p q = cc

pub waiting_begin_one : OneAfter waiting_begin.Post (λ e. e.0.now)
waiting_begin_one u v a r₁ r₂ e₁ e₂ p q = cc

pub waiting_end_one : OneAfter waiting_end.Post (λ e. e.0.now)
waiting_end_one u v a r₁ r₂ e₁ e₂ p q = cc

pub waiting_is_own_one : OneAnswer waiting_is_own.Post (λ r. r)
waiting_is_own_one u v a r₁ r₂ e₁ e₂ p q = cc

pub waiting_entry_one : OneAnswer waiting_entry.Post (λ r. r)
waiting_entry_one u v a r₁ r₂ e₁ e₂ p q = cc

pub waiting_number_one : OneAnswer waiting_number.Post (λ r. r.0)
waiting_number_one u v a r₁ r₂ e₁ e₂ p q = cc

pub waiting_is_data_one : OneAnswer waiting_is_data.Post (λ r. r)
waiting_is_data_one u v a r₁ r₂ e₁ e₂ p q = cc

pub waiting_is_reset_one : OneAnswer waiting_is_reset.Post (λ r. r)
waiting_is_reset_one u v a r₁ r₂ e₁ e₂ p q = cc

pub waiting_data_out_one : OneAnswer waiting_data_out.Post (λ r. r)
waiting_data_out_one u v a r₁ r₂ e₁ e₂ p q = cc

-- ---- timing

pub timing_clock_one : OneAnswer timing_clock.Post (λ r. r)
timing_clock_one u v a r₁ r₂ e₁ e₂ p q = cc

pub timing_quiet_one : OneAnswer timing_quiet.Post (λ r. r)
timing_quiet_one u v a r₁ r₂ e₁ e₂ p q = cc

pub timing_later_one : OneAnswer timing_later.Post (λ r. r)
timing_later_one u v a r₁ r₂ e₁ e₂ p q = cc

pub timing_left_one : OneAnswer timing_left.Post (λ r. r)
timing_left_one u v a r₁ r₂ e₁ e₂ p q = cc

pub timing_soonest_one : OneAnswer timing_soonest.Post (λ r. r)
timing_soonest_one u v a r₁ r₂ e₁ e₂ p q = cc

pub timing_pass_one : OneAfter timing_pass.Post (λ e. e.0.now)
timing_pass_one u v a r₁ r₂ e₁ e₂ p q = cc

pub timing_heed_one : OneAfter timing_heed.Post (λ e. e.0.now)
timing_heed_one u v a r₁ r₂ e₁ e₂ p q = cc

pub timing_rouse_one : OneAfter timing_rouse.Post (λ e. e.0.now)
timing_rouse_one u v a r₁ r₂ e₁ e₂ p q = cc

-- ---- end_points

pub end_points_state_number_one : OneAnswer end_points_state_number.Post (λ r. r)
end_points_state_number_one u v a r₁ r₂ e₁ e₂ p q = cc

pub end_points_what_one : OneAnswer end_points_what.Post (λ r. r)
end_points_what_one u v a r₁ r₂ e₁ e₂ p q = cc

pub end_points_value_one : OneAnswer end_points_value.Post (λ r. r)
end_points_value_one u v a r₁ r₂ e₁ e₂ p q = cc

pub end_points_count_one : OneAnswer end_points_count.Post (λ r. r)
end_points_count_one u v a r₁ r₂ e₁ e₂ p q = cc

pub end_points_own_one : OneAnswer end_points_own.Post (λ r. r)
end_points_own_one u v a r₁ r₂ e₁ e₂ p q = cc

pub end_points_protocol_one : OneAnswer end_points_protocol.Post (λ r. r)
end_points_protocol_one u v a r₁ r₂ e₁ e₂ p q = cc

pub end_points_need_one : OneAnswer end_points_need.Post (λ r. r)
end_points_need_one u v a r₁ r₂ e₁ e₂ p q = cc

pub end_points_load_entry_one : OneAnswer end_points_load_entry.Post (λ r. r)
end_points_load_entry_one u v a r₁ r₂ e₁ e₂ p q = cc

pub end_points_load_place_one : OneAnswer end_points_load_place.Post (λ r. r)
end_points_load_place_one u v a r₁ r₂ e₁ e₂ p q = cc

pub end_points_load_state_one : OneAnswer end_points_load_state.Post (λ r. r)
end_points_load_state_one u v a r₁ r₂ e₁ e₂ p q = cc

pub end_points_load_run_one : OneAnswer end_points_load_run.Post (λ r. r)
end_points_load_run_one u v a r₁ r₂ e₁ e₂ p q = cc

pub end_points_run_of_one : OneAnswer end_points_run_of.Post (λ r. r)
end_points_run_of_one u v a r₁ r₂ e₁ e₂ p q = cc

pub end_points_load_one : OneAnswer end_points_load.Post (λ r. r)
end_points_load_one u v a r₁ r₂ e₁ e₂ p q = cc

pub end_points_save_one : OneAfter end_points_save.Post (λ e. e.0.now)
end_points_save_one u v a r₁ r₂ e₁ e₂ p q = cc

pub end_points_save_entry_one : OneAfter end_points_save_entry.Post (λ e. e.0.now)
end_points_save_entry_one u v a r₁ r₂ e₁ e₂ p q = cc

pub end_points_is_sends_one : OneAnswer end_points_is_sends.Post (λ r. r)
end_points_is_sends_one u v a r₁ r₂ e₁ e₂ p q = cc

pub end_points_is_closed_one : OneAnswer end_points_is_closed.Post (λ r. r)
end_points_is_closed_one u v a r₁ r₂ e₁ e₂ p q = cc

pub end_points_is_open_one : OneAnswer end_points_is_open.Post (λ r. r)
end_points_is_open_one u v a r₁ r₂ e₁ e₂ p q = cc

pub end_points_is_new_one : OneAnswer end_points_is_new.Post (λ r. r)
end_points_is_new_one u v a r₁ r₂ e₁ e₂ p q = cc

pub end_points_anew_run_one : OneAnswer end_points_anew_run.Post (λ r. r)
end_points_anew_run_one u v a r₁ r₂ e₁ e₂ p q = cc

pub end_points_without_urgent_one : OneAnswer end_points_without_urgent.Post (λ r. r)
end_points_without_urgent_one u v a r₁ r₂ e₁ e₂ p q = cc

-- ---- slots

pub slots_of_slot_one : OneAnswer slots_of_slot.Post (λ r. r)
slots_of_slot_one u v a r₁ r₂ e₁ e₂ p q = cc

pub slots_with_id_one : OneAnswer slots_with_id.Post (λ r. r)
slots_with_id_one u v a r₁ r₂ e₁ e₂ p q = cc

pub slots_id_one : OneAnswer slots_id.Post (λ r. r)
slots_id_one u v a r₁ r₂ e₁ e₂ p q = cc

pub slots_length_one : OneAnswer slots_length.Post (λ r. r)
slots_length_one u v a r₁ r₂ e₁ e₂ p q = cc

pub slots_put_length_one : OneAfter slots_put_length.Post (λ e. e.1.0.now)
slots_put_length_one u v a r₁ r₂ e₁ e₂ p q = cc

pub slots_timer_one : OneAnswer slots_timer.Post (λ r. r)
slots_timer_one u v a r₁ r₂ e₁ e₂ p q = cc

pub slots_put_timer_one : OneAfter slots_put_timer.Post (λ e. e.1.0.now)
slots_put_timer_one u v a r₁ r₂ e₁ e₂ p q = cc

pub slots_retries_one : OneAnswer slots_retries.Post (λ r. r)
slots_retries_one u v a r₁ r₂ e₁ e₂ p q = cc

pub slots_put_retries_one : OneAfter slots_put_retries.Post (λ e. e.1.0.now)
slots_put_retries_one u v a r₁ r₂ e₁ e₂ p q = cc

pub slots_slot_for_one : OneAnswer slots_slot_for.Post (λ r. r)
slots_slot_for_one u v a r₁ r₂ e₁ e₂ p q = cc

pub slots_cell_of_one : OneAnswer slots_cell_of.Post (λ r. r)
slots_cell_of_one u v a r₁ r₂ e₁ e₂ p q = cc

pub slots_spot_of_one : OneAnswer slots_spot_of.Post (λ r. r)
slots_spot_of_one u v a r₁ r₂ e₁ e₂ p q = cc

pub slots_number_in_one : OneAnswer slots_number_in.Post (λ r. r.0)
slots_number_in_one u v a r₁ r₂ e₁ e₂ p q = cc

pub slots_waits_one : OneAnswer slots_waits.Post (λ r. r)
slots_waits_one u v a r₁ r₂ e₁ e₂ p q = cc

pub slots_drop_slots_one : OneAfter slots_drop_slots.Post (λ e. e.0.now)
slots_drop_slots_one u v a r₁ r₂ e₁ e₂ p q = cc

pub slots_idle_one : OneAfter slots_idle.Post (λ e. e.0.now)
slots_idle_one u v a r₁ r₂ e₁ e₂ p q = cc

-- One outcome: the functions for C, and lines of text. A theorem a function, over its contract's own text. Assumes
-- nothing.
use Prim.Native.Nat.{ℕ}
use denote.RattleType.{RattleType}
use denote.Param.Laws.{Laws, IsCopy}
use mir.Syntax.{Dict}
use Rattle.std.specs.declared.io.traits.Write as Write
use Rattle.std.specs.declared.clone.Clone as Clone
use Rattle.lines.specs.declared.AsNumber as AsNumber
use mathlib.Core.Path.{◌≡◌, refl}
use mathlib.Core.List.{List, []}
use Rattle.firmware.proofs.shelugvar_frame_read.Reads as shelugvar_frame_read
use Rattle.firmware.proofs.shelugvar_fault_byte.Reads as shelugvar_fault_byte
use Rattle.firmware.proofs.shelugvar_frame_write.Reads as shelugvar_frame_write
use Rattle.firmware.proofs.shelugvar_window_test.Reads as shelugvar_window_test
use Rattle.firmware.proofs.nodes.shelugvar_setup.Reads as shelugvar_setup
use Rattle.firmware.proofs.nodes.shelugvar_open.Reads as shelugvar_open
use Rattle.firmware.proofs.nodes.shelugvar_close.Reads as shelugvar_close
use Rattle.firmware.proofs.nodes.shelugvar_counts.Reads as shelugvar_counts
use Rattle.firmware.proofs.nodes.shelugvar_send.Reads as shelugvar_send
use Rattle.firmware.proofs.nodes.shelugvar_plan.Reads as shelugvar_plan
use Rattle.firmware.proofs.nodes.shelugvar_urgent.Reads as shelugvar_urgent
use Rattle.firmware.proofs.nodes.shelugvar_arrival.Reads as shelugvar_arrival
use Rattle.firmware.proofs.nodes.shelugvar_hand_out.Reads as shelugvar_hand_out
use Rattle.firmware.proofs.nodes.shelugvar_report.Reads as shelugvar_report
use Rattle.firmware.proofs.nodes.shelugvar_tick.Reads as shelugvar_tick
use Rattle.firmware.proofs.nodes.shelugvar_entry_state.Reads as shelugvar_entry_state
use Rattle.firmware.proofs.nodes.shelugvar_store_need.Reads as shelugvar_store_need
use Rattle.firmware.proofs.nodes.shelugvar_version.Reads as shelugvar_version
use Rattle.lines.proofs.Page.text.Reads as lines_text
use Rattle.lines.proofs.Page.number.Reads as lines_number
use Rattle.lines.proofs.Page.value.Reads as lines_value
use Rattle.lines.proofs.Page.values.Reads as lines_values
use Rattle.lines.proofs.Page.refused.Reads as lines_refused
use Rattle.lines.proofs.Page.stopped.Reads as lines_stopped
use Rattle.lines.proofs.Page.refused_all.Reads as lines_refused_all
use Rattle.lines.proofs.Page.done.Reads as lines_done
use Rattle.lines.proofs.Page.verdict.Reads as lines_verdict
use Rattle.lines.proofs.Page.counted.Reads as lines_counted
use Rattle.lines.proofs.Page.planned.Reads as lines_planned
use Rattle.lines.proofs.Page.handed.Reads as lines_handed
use Rattle.lines.proofs.Page.arrived.Reads as lines_arrived
use Rattle.end_points.specs.Lent.{Lent, bare, stored, whole}
use Rattle.contracts.proofs.Stores.{but_store}
use Rattle.contracts.specs.Outcome.{One, OneAnswer, OneBehind, left_in}

-- ---- firmware

pub shelugvar_frame_read_one : One shelugvar_frame_read.Post (λ e. e.1.0.now)
shelugvar_frame_read_one u v a r₁ r₂ e₁ e₂ p q = (cc (p.0, q.0), cc (p.1, q.1))

pub shelugvar_fault_byte_one : OneAnswer shelugvar_fault_byte.Post (λ r. r)
shelugvar_fault_byte_one u v a r₁ r₂ e₁ e₂ p q = cc

pub shelugvar_frame_write_one : One shelugvar_frame_write.Post (λ e. e.0.now)
shelugvar_frame_write_one u v a r₁ r₂ e₁ e₂ p q = (cc (p.0, q.0), cc (p.1, q.1))

pub shelugvar_window_test_one : OneAnswer shelugvar_window_test.Post (λ r. r)
shelugvar_window_test_one u v a r₁ r₂ e₁ e₂ p q = cc

pub shelugvar_setup_one : One shelugvar_setup.Post (λ e. bare e.0.now e.1.0.now)
shelugvar_setup_one u v a r₁ r₂ e₁ e₂ p q = (cc (p.0, q.0), but_store a.1.1.0.now (cc (p.1, q.1)))

pub shelugvar_open_one : One shelugvar_open.Post (λ e. bare e.0.now e.1.0.now)
shelugvar_open_one u v a r₁ r₂ e₁ e₂ p q = (cc (p.0, q.0), cc (p.1, q.1))

pub shelugvar_close_one : One shelugvar_close.Post (λ e. bare e.0.now e.1.0.now)
shelugvar_close_one u v a r₁ r₂ e₁ e₂ p q = (cc (p.0, q.0), cc (p.1, q.1))

pub shelugvar_counts_one : One shelugvar_counts.Post (λ e. e.1.1.0.now)
shelugvar_counts_one u v a r₁ r₂ e₁ e₂ p q = (cc (p.0, q.0), cc (p.1, q.1))

pub shelugvar_send_one : One shelugvar_send.Post (λ e. stored e.0.now e.1.0.now e.1.1.0.now)
shelugvar_send_one u v a r₁ r₂ e₁ e₂ p q = (cc (p.0, q.0), cc (p.1, q.1))

pub shelugvar_plan_one : One {M = Lent × List ℕ} shelugvar_plan.Post
    (λ e. (stored e.0.now e.1.0.now e.1.1.0.now, e.1.1.1.1.1.0.now))
shelugvar_plan_one u v a r₁ r₂ e₁ e₂ p q = (cc (p.0, q.0), cc (p.1.0, q.1.0, p.1.1, q.1.1))

pub shelugvar_urgent_one : One shelugvar_urgent.Post (λ e. stored e.0.now e.1.0.now e.1.1.0.now)
shelugvar_urgent_one u v a r₁ r₂ e₁ e₂ p q = (cc (p.0, q.0), cc (p.1, q.1))

pub shelugvar_arrival_one : One {M = Lent × List ℕ} shelugvar_arrival.Post
    (λ e. (whole e.0.now e.1.0.now e.1.1.0.now e.1.1.1.0.now, e.1.1.1.1.1.0.now))
shelugvar_arrival_one u v a r₁ r₂ e₁ e₂ p q = (cc (p.0, q.0), cc (p.1.0, q.1.0, p.1.1, q.1.1))

pub shelugvar_hand_out_one : One {M = Lent × ℕ} shelugvar_hand_out.Post
    (λ e. (whole e.0.now e.1.0.now [] e.1.1.1.0.now, e.1.1.1.1.0.now))
shelugvar_hand_out_one u v a r₁ r₂ e₁ e₂ p q =
    let l : whole e₁.0.now e₁.1.0.now [] e₁.1.1.1.0.now
    ≡ whole e₂.0.now e₂.1.0.now [] e₂.1.1.1.0.now =
    but_store a.1.1.0.now (cc (p.1.0, q.1.0)) in
    (cc (p.0, q.0), cc (l, p.1.1, q.1.1))

pub shelugvar_report_one : One shelugvar_report.Post (λ e. bare e.0.now e.1.0.now)
shelugvar_report_one u v a r₁ r₂ e₁ e₂ p q = (cc (p.0, q.0), cc (p.1, q.1))

pub shelugvar_tick_one : One shelugvar_tick.Post (λ e. bare e.0.now e.1.0.now)
shelugvar_tick_one u v a r₁ r₂ e₁ e₂ p q = (cc (p.0, q.0), cc (p.1, q.1))

pub shelugvar_entry_state_one : One shelugvar_entry_state.Post (λ e. e.1.1.0.now)
shelugvar_entry_state_one u v a r₁ r₂ e₁ e₂ p q = (cc (p.0, q.0), cc (p.1, q.1))

pub shelugvar_store_need_one : One shelugvar_store_need.Post (λ e. e.1.0.now)
shelugvar_store_need_one u v a r₁ r₂ e₁ e₂ p q = (cc (p.0, q.0), cc (p.1, q.1))

pub shelugvar_version_one : OneAnswer shelugvar_version.Post (λ r. r)
shelugvar_version_one u v a r₁ r₂ e₁ e₂ p q = cc

-- ---- lines: over every two types of sinks' writers

module _ (T T' : RattleType) (L : Laws T) (L' : Laws T') (W : Write.Ghosts T.Denot) (W' : Write.Ghosts T'.Denot)
    (D D' : Dict) where
  pub lines_text_one : OneBehind (lines_text.Post T L W D) (lines_text.Post T' L' W' D') (λ e. left_in e.0.now) (λ e. left_in e.0.now)
  lines_text_one u v page s t a r₁ r₂ e₁ e₂ p q = (refl, cc (p.0.name, q.0.name, p.1.0, q.1.0))

  pub lines_number_one : OneBehind (lines_number.Post T L W D) (lines_number.Post T' L' W' D') (λ e. left_in e.0.now) (λ e. left_in e.0.now)
  lines_number_one u v page s t a r₁ r₂ e₁ e₂ p q = (refl, cc (p.0.name, q.0.name, p.1.0, q.1.0))

  pub lines_value_one : OneBehind (lines_value.Post T L W D) (lines_value.Post T' L' W' D') (λ e. left_in e.0.now) (λ e. left_in e.0.now)
  lines_value_one u v page s t a r₁ r₂ e₁ e₂ p q = (refl, cc (p.0.name, q.0.name, p.1.0, q.1.0))

  pub lines_refused_one : OneBehind (lines_refused.Post T L W D) (lines_refused.Post T' L' W' D') (λ e. left_in e.0.now) (λ e. left_in e.0.now)
  lines_refused_one u v page s t a r₁ r₂ e₁ e₂ p q = (refl, cc (p.0.name, q.0.name, p.1.0, q.1.0))

  pub lines_stopped_one : OneBehind (lines_stopped.Post T L W D) (lines_stopped.Post T' L' W' D') (λ e. left_in e.0.now) (λ e. left_in e.0.now)
  lines_stopped_one u v page s t a r₁ r₂ e₁ e₂ p q = (refl, cc (p.0.name, q.0.name, p.1.0, q.1.0))

  pub lines_refused_all_one : OneBehind (lines_refused_all.Post T L W D) (lines_refused_all.Post T' L' W' D') (λ e. left_in e.0.now) (λ e. left_in e.0.now)
  lines_refused_all_one u v page s t a r₁ r₂ e₁ e₂ p q = (refl, cc (p.0.name, q.0.name, p.1.0, q.1.0))

  pub lines_done_one : OneBehind (lines_done.Post T L W D) (lines_done.Post T' L' W' D') (λ e. left_in e.0.now) (λ e. left_in e.0.now)
  lines_done_one u v page s t a r₁ r₂ e₁ e₂ p q = (refl, cc (p.0.name, q.0.name, p.1.0, q.1.0))

  pub lines_verdict_one : OneBehind (lines_verdict.Post T L W D) (lines_verdict.Post T' L' W' D') (λ e. left_in e.0.now) (λ e. left_in e.0.now)
  lines_verdict_one u v page s t a r₁ r₂ e₁ e₂ p q = (refl, cc (p.0.name, q.0.name, p.1.0, q.1.0))

  pub lines_counted_one : OneBehind (lines_counted.Post T L W D) (lines_counted.Post T' L' W' D') (λ e. left_in e.0.now) (λ e. left_in e.0.now)
  lines_counted_one u v page s t a r₁ r₂ e₁ e₂ p q = (refl, cc (p.0.name, q.0.name, p.1.0, q.1.0))

  pub lines_planned_one : OneBehind (lines_planned.Post T L W D) (lines_planned.Post T' L' W' D') (λ e. left_in e.0.now) (λ e. left_in e.0.now)
  lines_planned_one u v page s t a r₁ r₂ e₁ e₂ p q = (refl, cc (p.0.name, q.0.name, p.1.0, q.1.0))

  pub lines_handed_one : OneBehind (lines_handed.Post T L W D) (lines_handed.Post T' L' W' D') (λ e. left_in e.0.now) (λ e. left_in e.0.now)
  lines_handed_one u v page s t a r₁ r₂ e₁ e₂ p q = (refl, cc (p.0.name, q.0.name, p.1.0, q.1.0))

  pub lines_arrived_one : OneBehind (lines_arrived.Post T L W D) (lines_arrived.Post T' L' W' D') (λ e. left_in e.0.now) (λ e. left_in e.0.now)
  lines_arrived_one u v page s t a r₁ r₂ e₁ e₂ p q = (refl, cc (p.0.name, q.0.name, p.1.0, q.1.0))

-- and over every type of numbers: of bytes and of numbers of 64 bits, as of any that is told as a number
module _ (T T' : RattleType) (L : Laws T) (L' : Laws T') (W : Write.Ghosts T.Denot) (W' : Write.Ghosts T'.Denot)
    (D D' : Dict) (X : RattleType) (M : Laws X) (C : IsCopy X) (N : AsNumber.Ghosts X.Denot) (K : Clone.Ghosts X.Denot)
    (G H : Dict) where
  pub lines_values_one : OneBehind (lines_values.Post T X L M C W D N G K H) (lines_values.Post T' X L' M C W' D' N G K H) (λ e. left_in e.0.now) (λ e. left_in e.0.now)
  lines_values_one u v page s t a r₁ r₂ e₁ e₂ p q = (refl, cc (p.0.name, q.0.name, p.1.0, q.1.0))

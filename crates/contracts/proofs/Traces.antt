-- Traces: one outcome a function, refused calls spare all, and what a record's contract allows is the single call that
-- crates/replayed speaks of; over the contracts' own text. Assumes nothing.
use Prim.Native.Nat.{ℕ}
use denote.RattleType.{RattleType}
use denote.Param.Laws.{Laws}
use mir.Syntax.{Dict}
use Rattle.std.specs.declared.io.traits.Write as Write
use mathlib.Core.Path.{◌≡◌, refl, sym, ap, subst, ◌∙◌}
use mathlib.Core.Bool.{Bool, true, false}
use mathlib.Core.List.{List}
use lib.Dec.{eqb, ltb}
use Rattle.std.specs.Borrow.{GName}
use Rattle.units.specs.Refusals.{pick}
use Rattle.lines.specs.Lines.{Page}
use Rattle.end_points.specs.Lent.{Lent, whole}
use Rattle.call_open.specs.Setup.{setup_answer, setup_after}
use Rattle.call_open.specs.Opening.{open_after, close_after}
use Rattle.call_send.specs.Sending.{send_after, urgent_after}
use Rattle.call_hand_out.specs.Handing.{hand_out_after}
use Rattle.call_report.specs.Reporting.{report_after}
use Rattle.trace.specs.Kinds.{table_kind, open_kind, close_kind, send_kind, urgent_kind, arrival_kind}
use Rattle.trace.specs.Kinds.{tick_kind, hand_out_kind, report_kind}
use Rattle.trace.specs.Layout.{count_of, begin_of, head_from, bytes_from}
use Rattle.trace_step.specs.Steps.{Outcome, stored_of, call_of, step_of}
use Rattle.trace_step.specs.declared.Told.TheVariants as told
use Rattle.good.specs.Calls.{kept, SetUp}
use Rattle.trace_lines.specs.Lines.{replay_lent}
use Rattle.replayed.specs.Replayed.{table_in}
use Rattle.replayed.proofs.Made.{made}
use Rattle.replayed.proofs.Replaying.{first_is, step_made, step_sets_up}
use Rattle.trace.proofs.kinds.KindTryFromU8.try_from.Reads as trace_kind
use Rattle.trace.proofs.kinds.is_kind.Reads as trace_is_kind
use Rattle.trace.proofs.kinds.takes_index.Reads as trace_takes_index
use Rattle.trace.proofs.kinds.takes_bytes.Reads as trace_takes_bytes
use Rattle.trace.proofs.layout.count.Reads as trace_count
use Rattle.trace.proofs.layout.begin.Reads as trace_begin
use Rattle.trace.proofs.layout.head.Reads as trace_head
use Rattle.trace.proofs.layout.bytes.Reads as trace_bytes
use Rattle.trace.proofs.is_good.Reads as trace_is_good
use Rattle.trace_step.proofs.call.Reads as trace_step_call
use Rattle.trace_step.proofs.step.Reads as trace_step_step
use Rattle.trace_lines.proofs.begun.Reads as trace_lines_begun
use Rattle.trace_lines.proofs.replay.Reads as trace_lines_replay
use Rattle.contracts.specs.Gives.{Makes, Steps, Replays}
use Rattle.contracts.specs.Outcome.{One, OneAnswer, OneBehind, left_in, Spares, ToldRefused}
use Rattle.contracts.proofs.Refused.{arrival_spared}
use Rattle.std.specs.Prelude.{Ok}

-- ---- one outcome: the file

pub trace_kind_one : OneAnswer trace_kind.Post (λ r. r)
trace_kind_one u v a r₁ r₂ e₁ e₂ p q = cc

pub trace_is_kind_one : OneAnswer trace_is_kind.Post (λ r. r)
trace_is_kind_one u v a r₁ r₂ e₁ e₂ p q = cc

pub trace_takes_index_one : OneAnswer trace_takes_index.Post (λ r. r)
trace_takes_index_one u v a r₁ r₂ e₁ e₂ p q = cc

pub trace_takes_bytes_one : OneAnswer trace_takes_bytes.Post (λ r. r)
trace_takes_bytes_one u v a r₁ r₂ e₁ e₂ p q = cc

pub trace_count_one : OneAnswer trace_count.Post (λ r. r)
trace_count_one u v a r₁ r₂ e₁ e₂ p q = cc

pub trace_begin_one : OneAnswer trace_begin.Post (λ r. r)
trace_begin_one u v a r₁ r₂ e₁ e₂ p q = cc

pub trace_head_one : OneAnswer trace_head.Post (λ r. r)
trace_head_one u v a r₁ r₂ e₁ e₂ p q = cc

pub trace_bytes_one : OneAnswer trace_bytes.Post (λ r. r.now)
trace_bytes_one u v a r₁ r₂ e₁ e₂ p q = cc

pub trace_is_good_one : OneAnswer trace_is_good.Post (λ r. r)
trace_is_good_one u v a r₁ r₂ e₁ e₂ p q = cc

-- ---- one outcome: a record's call, and the lines

pub trace_step_call_one : One trace_step_call.Post (λ e. whole e.0.now e.1.0.now e.1.1.0.now
    e.1.1.1.0.now)
trace_step_call_one u v a r₁ r₂ e₁ e₂ p q = (cc (p.0, q.0), cc (p.1, q.1))

pub trace_step_step_one : One trace_step_step.Post (λ e. whole e.0.now e.1.0.now e.1.1.0.now
    e.1.1.1.0.now)
trace_step_step_one u v a r₁ r₂ e₁ e₂ p q = (cc (p.0, q.0), cc (p.1, q.1))

module _ (T T' : RattleType) (L : Laws T) (L' : Laws T') (W : Write.Ghosts T.Denot) (W' : Write.Ghosts T'.Denot)
    (D D' : Dict) where
  pub trace_lines_begun_one :
      OneBehind (trace_lines_begun.Post T L W D) (trace_lines_begun.Post T' L' W' D') (λ e. left_in e.0.now) (λ e. left_in e.0.now)
  trace_lines_begun_one u v page s t a r₁ r₂ e₁ e₂ p q = (refl, cc (p.0.name, q.0.name, p.1.0, q.1.0))

  pub trace_lines_replay_one : OneBehind {M = (Page × GName) × Lent}
      (trace_lines_replay.Post T L W D) (trace_lines_replay.Post T' L' W' D')
      (λ e. (left_in e.0.now, whole e.1.1.1.0.now e.1.1.1.1.0.now e.1.1.1.1.1.0.now e.1.1.1.1.1.1.0.now))
      (λ e. (left_in e.0.now, whole e.1.1.1.0.now e.1.1.1.1.0.now e.1.1.1.1.1.0.now e.1.1.1.1.1.1.0.now))
  trace_lines_replay_one u v page s t a r₁ r₂ e₁ e₂ p q = (refl, cc (p.0.name, q.0.name, p.1.0, q.1.0, p.1.1.0, q.1.1.0))

-- ---- a record's call that is refused alters nothing

either : (P : Outcome → Type 0) (b : Bool) {o p : Outcome} → P o → P p → P (pick b o p)
either P true h k = h
either P false h k = k

module _ (x : Lent) where
  -- refused with all as it was, or not refused
  abbrev Keeps : Outcome → Type 0
  Keeps o = ToldRefused o.told → o.lent ≡ x

  called : (kind i : ℕ) (b : List ℕ) → Keeps (call_of x kind i b)
  unfolding call_of setup_after open_after close_after send_after urgent_after hand_out_after report_after
  called kind i b =
      either Keeps (eqb kind table_kind) (λ r. rw r.1)
      (either Keeps (eqb kind open_kind) (λ r. rw r.1)
      (either Keeps (eqb kind close_kind) (λ r. rw r.1)
      (either Keeps (eqb kind send_kind) (λ r. rw r.1)
      (either Keeps (eqb kind urgent_kind) (λ r. rw r.1)
      (either Keeps (eqb kind arrival_kind) (λ r. arrival_spared r.0 x b r.1)
      (either Keeps (eqb kind tick_kind) (λ r. absurd r)
      (either Keeps (eqb kind hand_out_kind) (λ r. rw r.1)
      (either Keeps (eqb kind report_kind) (λ r. rw r.1)
      (λ r. refl)))))))))

  stepped : (f : List ℕ) (k : ℕ) → Keeps (step_of x f k)
  unfolding step_of
  stepped f k =
      let at = begin_of f k in
      either Keeps (ltb k (count_of f)) (called (head_from f at).kind (head_from f at).index (bytes_from f at)) (λ r. refl)

pub trace_step_call_refused : Spares trace_step_call.Post ToldRefused
    (λ e. whole e.0.now e.1.0.now e.1.1.0.now e.1.1.1.0.now)
trace_step_call_refused u a r e p w =
    let x = whole a.0.now a.1.0.now a.1.1.0.now a.1.1.1.0.now in
    p.1 ∙ called x a.1.1.1.1.0 a.1.1.1.1.1.0 a.1.1.1.1.1.1.0.now (subst ToldRefused p.0 w)

pub trace_step_step_refused : Spares trace_step_step.Post ToldRefused
    (λ e. whole e.0.now e.1.0.now e.1.1.0.now e.1.1.1.0.now)
trace_step_step_refused u a r e p w =
    let x = whole a.0.now a.1.0.now a.1.1.0.now a.1.1.1.0.now in
    p.1 ∙ stepped x a.1.1.1.1.0.now a.1.1.1.1.1.0 (subst ToldRefused p.0 w)

-- ---- from contract to call

-- a record's call is one single call of the node
pub call_makes : Makes trace_step_call.Post
    (λ a. whole a.0.now a.1.0.now a.1.1.0.now a.1.1.1.0.now) (λ a. a.1.1.1.1.0)
    (λ a. a.1.1.1.1.1.0) (λ a. a.1.1.1.1.1.1.0.now)
call_makes u a r e p bytes known other =
    let x = whole a.0.now a.1.0.now a.1.1.0.now a.1.1.1.0.now in
    let kind = a.1.1.1.1.0 in
    let i = a.1.1.1.1.1.0 in
    let b = a.1.1.1.1.1.1.0.now in
    rw (p.0, p.1) (made x i b bytes kind known other)

-- so is the step to a record of a good file, and the first is a setup
pub step_makes : Steps trace_step_step.Post
    (λ a. whole a.0.now a.1.0.now a.1.1.0.now a.1.1.1.0.now) (λ a. a.1.1.1.1.0.now)
    (λ a. a.1.1.1.1.1.0)
step_makes u a r e p given l =
    record { first = first; then = λ z. rw (p.0, p.1) (step_made x f given x k z l) }
  where
    x : Lent
    x = whole a.0.now a.1.0.now a.1.1.0.now a.1.1.1.0.now

    f : List ℕ
    f = a.1.1.1.1.0.now

    k : ℕ
    k = a.1.1.1.1.1.0

    first : k ≡ 0 → r ≡ told.Plain (Ok tt) → SetUp (table_in f) (kept (whole e.0.now e.1.0.now e.1.1.0.now e.1.1.1.0.now))
    first z t =
        let same : told.Plain (setup_answer (stored_of x) (table_in f)) ≡ told.Plain (Ok tt) =
        sym (ap (λ (o : Outcome). o.told) (first_is x f given)) ∙ ap (λ (j : ℕ). (step_of x f j).told) (sym z) ∙ sym p.0 ∙ t in
        let begins : setup_answer (stored_of x) (table_in f) ≡ (Ok tt) = cc in
        subst (λ (y : Lent). SetUp (table_in f) (kept y)) (sym (p.1 ∙ ap (λ (j : ℕ). (step_of x f j).lent) z)) (step_sets_up x f given begins)

-- a replay leaves what its records leave
pub replay_leaves : (T : RattleType) (L : Laws T) (W : Write.Ghosts T.Denot) (D : Dict)
    → Replays (trace_lines_replay.Post T L W D)
    (λ a. whole a.1.1.1.0.now a.1.1.1.1.0.now a.1.1.1.1.1.0.now a.1.1.1.1.1.1.0.now)
    (λ a. a.1.1.0.now)
unfolding replay_lent
replay_leaves T L W D u a r e p good = rw good at p.1.1.0

-- One record more, and the two ends: a table that is refused, and the last record.
use Rattle.std.specs.declared.option.Option.{Option}
use Rattle.lines.specs.Sink.{Says, HasRoom}
use Rattle.lines.specs.declared.sink.Sink.{Sink}
use Rattle.lines.proofs.Saying.{says_nothing, says_then}
use Rattle.std.proofs.Common.{length, ◌≡◌, ℕ, ◌+◌, List, refl, sym, ap, ◌∙◌, arith}
use native.Mathlib.Numerals.{add-one}
use Rattle.end_points.specs.Lent.{Lent}
use Rattle.lines.specs.Lines.{SameBuffer, Page}
use Rattle.lines.specs.declared.Page as lent
use Rattle.trace.specs.Layout.{count_of}
use Rattle.trace.specs.Laws.{GoodIsFilled}
use Rattle.trace.proofs.Good.{good_is_filled}
use Rattle.trace_step.specs.Told.{told_of}
use Rattle.trace_step.specs.declared.Told.{Told}
use Rattle.trace_step.specs.Steps.{step_of}
use Rattle.trace_step.specs.Replay.{state_after, told_at, is_refused, made_of}
use Rattle.trace_lines.specs.Lines.{lines_text, line_text, replay_text, line_of, kind_of, lines_after, replay_page}
use Rattle.trace_lines.specs.Lines.{replay_lent}
use Rattle.trace_lines.proofs.replay.Invariants.{Replayed}
use Rattle.trace_lines.proofs.replay.Goals.{else-k-eq-FIRST-via-then-k-eq-FIRST+else-is_refused}
use Rattle.trace_lines.proofs.replay.Goals.{else-k-eq-FIRST-via-else-k-eq-FIRST}
use Rattle.trace_lines.proofs.replay.Goals as goal

same_then : {x y z : lent.Page} → SameBuffer x y → SameBuffer y z → SameBuffer x z
same_then a b = record { name = b.name ∙ a.name; long = b.long ∙ a.long }

-- one record more
module _ {f : List ℕ} {p q : Page} {x y : Lent} {n k : ℕ} (r : Replayed f p q x y n k) {t : Told} {q' : Page} {y' : Lent}
    (told : t ≡ (step_of y f k).told) (left : y' ≡ (step_of y f k).lent) (line : q' ≡ line_of q k (kind_of f k) (told_of t)) where
  told_more : t ≡ told_at x f k
  told_more = told ∙ ap (λ (z : Lent). (step_of z f k).told) r.state

  lines_more : q' ≡ lines_after p x f (k + 1)
  unfolding lines_after
  lines_more = rw add-one (line ∙ ap (λ (z : Page). line_of z k (kind_of f k) (told_of t)) r.lines ∙ ap (λ (z : Told). line_of (lines_after p x f k) k (kind_of f k) (told_of z)) told_more)

  -- the first one, and what is told of it
  first_told : k ≡ 0 → is_refused t ≡ is_refused (told_at x f 0)
  first_told z = ap is_refused (told_more ∙ ap (told_at x f) z)

  state_more : y' ≡ state_after x f (k + 1)
  unfolding state_after
  state_more = rw add-one (left ∙ ap (λ (z : Lent). (step_of z f k).lent) r.state)

  -- what is said, with the line of record k
  said_more : {W : Type 0} {contents : W → Option (List ℕ)} {u v w : Sink W} → HasRoom p → length q.bytes ≡ length p.bytes
      → Says contents u p v q (lines_text x f k)
      → (HasRoom q → Says contents v q w q' (line_text k (kind_of f k) (told_of t)))
      → Says contents u p w q' (lines_text x f (k + 1))
  unfolding lines_text
  said_more room long so_far more =
      let here = more (record { within = so_far.within; room = omega (arith, room.room, long) }) in
      rw (add-one, ← told_more) (says_then so_far here)

pub loop-k-init : goal.loop-k-init
unfolding lines_after state_after lines_text
loop-k-init g c =
    record {
      lent = record { name = refl; long = refl };
      replayed =
          record {
            good = sym c.is_good.ensures ∙ c.if-not-is_good.false;
            all = c.count-n.ensures;
            few = omega arith;
            lines = refl;
            state = refl;
            goes_on = λ l. absurd (omega arith);
            store_long = refl;
            out_long = refl;
          };
      said = λ room. says_nothing room.within;
    }

pub loop-k-preserved : goal.loop-k-preserved
loop-k-preserved g c =
    let r = c.loop-k.invariant.replayed in
    let s = c.step-t.ensures in
    let line = c.line.ensures.after in
    record {
      lent = same_then c.loop-k.invariant.lent c.line.ensures.lent;
      replayed =
          record {
            good = r.good;
            all = r.all;
            few = r.few;
            lines = lines_more r s.answer s.after line;
            state = state_more r s.answer s.after line;
            goes_on = λ _.
                elim c.else-k-eq-FIRST.branch [
                  | else-k-eq-FIRST-via-then-k-eq-FIRST+else-is_refused w ↦ sym (first_told r s.answer s.after line w.if-k-eq-FIRST.true) ∙ sym w.is_refused.ensures ∙ w.if-is_refused.false
                  | else-k-eq-FIRST-via-else-k-eq-FIRST w ↦ r.goes_on (omega (arith, w.if-k-eq-FIRST.false))
                ];
            store_long = c.step-t.auto.store ∙ r.store_long;
            out_long = c.step-t.auto.out ∙ r.out_long;
          };
      said = λ room. said_more r s.answer s.after line room c.loop-k.invariant.lent.long (c.loop-k.invariant.said room) c.line.ensures.written;
    }

pub returns-then-is_refused : goal.returns-then-is_refused
unfolding replay_page replay_lent replay_text made_of
returns-then-is_refused g c =
    let i = c.loop-k.invariant in
    let r = i.replayed in
    let s = c.step-t.ensures in
    let line = c.line.ensures in
    let first = c.if-k-eq-FIRST.true in
    let good = r.good in
    let told = sym (first_told r s.answer s.after line.after first) ∙ sym c.is_refused.ensures ∙ c.if-is_refused.true in
    let lines = rw first at (lines_more r s.answer s.after line.after) in
    let state = rw first at (state_more r s.answer s.after line.after) in
    record {
      lent = same_then i.lent line.lent;
      text = rw (good, told) lines;
      after = rw (good, told) state;
      written = λ room.
          let said = said_more r s.answer s.after line.after room i.lent.long (i.said room) line.written in
          rw (good, told) (rw first at said);
    }

pub returns : goal.returns
unfolding replay_page replay_lent replay_text made_of GoodIsFilled
returns g c =
    let i = c.loop-k.invariant in
    let r = i.replayed in
    let some = (good_is_filled c.args.file.now r.good).some in
    let last : c.loop-k.k ≡ count_of c.args.file.now = omega (arith, r.all) in
    let goes_on = r.goes_on (omega (arith, r.all)) in
    let good = r.good in
    let lines = rw last at r.lines in
    let state = rw last at r.state in
    record {
      lent = i.lent;
      text = rw (good, goes_on) lines;
      after = rw (good, goes_on) state;
      written = λ room. rw (good, goes_on) (rw last at (i.said room));
    }

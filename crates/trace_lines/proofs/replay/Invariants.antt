-- The lines and the state are those after the first k records.
use Rattle.std.proofs.Common.{◌≡◌, ℕ, ◌≤◌, ◌<◌, false, true, List, length}
use Rattle.end_points.specs.Lent.{Lent, whole}
use Rattle.lines.specs.Lines.{SameBuffer, Page, seen}
use Rattle.lines.specs.Sink.{Says, HasRoom}
use Rattle.trace.specs.Layout.{count_of}
use Rattle.trace.specs.Rules.{good_trace}
use Rattle.trace_step.specs.Replay.{state_after, told_at, is_refused}
use Rattle.trace_lines.specs.Lines.{lines_after, lines_text}
use Rattle.trace_lines.proofs.replay.Given as goal

pub record Replayed (f : List ℕ) (p q : Page) (x y : Lent) (n k : ℕ) : Type 0 where
  pub good : good_trace f ≡ true
  pub all : n ≡ count_of f
  pub few : n ≤ 4294967295
  pub lines : q ≡ lines_after p x f k
  pub state : y ≡ state_after x f k
  pub goes_on : 0 < k → is_refused (told_at x f 0) ≡ false
  pub store_long : length y.store ≡ length x.store
  pub out_long : length y.out ≡ length x.out

abbrev pub invariant-loop-k : goal.invariant-loop-k
invariant-loop-k g l = record {
  lent : SameBuffer l.initial.page l.page;
  replayed :
      Replayed l.file (seen l.initial.page) (seen l.page)
      (whole l.initial.node l.initial.book l.initial.store l.initial.buffer) (whole l.node l.book l.store l.buffer) l.n l.k;
  said :
      HasRoom (seen l.initial.page) →
      Says g.W.Write.contents l.initial.to (seen l.initial.page) l.to (seen l.page)
      (lines_text (whole l.initial.node l.initial.book l.initial.store l.initial.buffer) l.file l.k);
}

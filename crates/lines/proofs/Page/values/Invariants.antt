-- The first of them are appended, and said.
use Rattle.std.proofs.Common.{map, take}
use Rattle.lines.specs.Lines.{SameBuffer, seen}
use Rattle.lines.specs.Sink.{Says, HasRoom, values_text}
use Rattle.lines.proofs.Pages.{Begun}
use Rattle.lines.proofs.Page.values.Given as goal

abbrev pub invariant-loop-v : goal.invariant-loop-v
invariant-loop-v g l = record {
  lent : SameBuffer l.fn.self l.self;
  begun : Begun (seen l.fn.self) (map g.T.AsNumber.number l.vs) (seen l.self) l.v-index;
  said : HasRoom (seen l.fn.self) → Says g.W.Write.contents l.fn.to (seen l.fn.self) l.to (seen l.self) (values_text (take l.v-index (map g.T.AsNumber.number l.vs)));
}

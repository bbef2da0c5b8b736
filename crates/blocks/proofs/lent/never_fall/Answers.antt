-- `blocks::lent::never_fall` meets its contract. The loop's invariant: whether the offsets behind offset j fall is left to
-- tell, and `last` is that offset. Assumes nothing.
use mathlib.Core.Path.{◌∙◌}
use Prim.Native.Nat.{◌+◌}
use borrow.Author.Tests.{le-leb}
use Rattle.blocks.specs.Reading.{offset_in}
use Rattle.blocks.proofs.lent.never_fall.Invariants.{one}
use Rattle.blocks.proofs.lent.never_fall.Goals as goal

pub loop-j-preserved : goal.loop-j-preserved
loop-j-preserved c =
    let l = c.loop-j in
    let q = c.offset-next in
    let a = c.args in
    record {
      is = q.ensures;
      rest = l.invariant.rest ∙ one a.block.now a.k l.j c.loop-j-test.true ∙ rw (le-leb (offset_in a.block.now l.j) (offset_in a.block.now (l.j + 1)) (rw (l.invariant.is, q.ensures) at c.if-next-last.false));
    }

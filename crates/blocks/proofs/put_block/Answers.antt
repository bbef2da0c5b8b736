-- `blocks::put_block` meets its contract. The loop's invariant: the first j payloads are written, with their offsets. Assumes nothing.
use mathlib.Core.Path.{◌≡◌, ◌∙◌}
use native.Mathlib.Omega.{arith}
use Rattle.blocks.proofs.Appending.{begun_more, begun_long, begun_done, payloads_more}
use Rattle.blocks.proofs.put_block.Goals as goal

pub loop-j-preserved : goal.loop-j-preserved
loop-j-preserved c =
    begun_more
    c.payload-p.result.now
    c.loop-j.invariant
    (omega arith)
    c.payload-p.ensures.short
    c.put_offset.ensures
    c.put_all.ensures
    (payloads_more _ _ _ _ _ _ _ _ c.payload-p.ensures.is)

pub returns : goal.returns
returns c =
    let l = c.loop-j in
    let h : l.j ≡ c.args.k = omega arith in
    let w = begun_done c.args.out.now (rw h at l.invariant) c.put16.ensures c.put_offset-2.ensures in
    record {
      length = omega (arith, w.0, c.put_offset-2.auto.out ∙ begun_long l.invariant ∙ c.put16.auto.s);
      written = w.1;
    }

-- `call_plan::send_all` meets its contract. The loop's invariant: the first j payloads are laid, and what all of them come to
-- is what the others come to, sent by an entry that has accepted j more. Assumes nothing.
use mathlib.Core.Path.{◌≡◌, sym, ◌∙◌}
use native.Mathlib.Omega.{arith}
use Rattle.blocks.specs.Reading.{payload_in}
use Rattle.call_plan.specs.Planning.{sent_in_order}
use Rattle.call_plan.proofs.Stepping.{payloads_none, one_more, one_refused}
use Rattle.call_plan.proofs.send_all.Goals.{After-between-p}
use Rattle.call_plan.proofs.send_all.Goals as goal

payload_is : (c : After-between-p) → c.between-p.result.now ≡ payload_in c.args.block.now c.loop-j.j
unfolding payload_in
payload_is c = rw (c.between-p.ensures, c.offset-to.ensures, c.loop-j.invariant.0)

pub loop-j-preserved : goal.loop-j-preserved
loop-j-preserved c =
    let a = c.args in
    let e = c.more.ensures in
    let v = c.in_default.is in
    let q = rw (e, c.need-need.ensures) at (sym c.send_one.ensures.answer ∙ v) in (
      c.offset-to.ensures,
      one_more a.node.now a.i (omega (arith, c.load-arg-1.given)) c.requires.0 c.loop-j.invariant.1 c.loop-j-test.true c.between-p.result.now (payload_is (goal.at.loop-j-preserved c).After-between-p)
          (omega (arith, c.load-e.type_inv)) q c.send_one.auto.book c.send_one.auto.store (rw (v, e) at c.send_one.ensures.book) (rw (v, e) at c.send_one.ensures.store),
    )

pub returns-in-Err-clause-is : goal.returns-in-Err-clause-is
returns-in-Err-clause-is c =
    let a = c.args in
    let e = c.more.ensures in
    let v = c.in-Err.is in
    let q = rw (e, c.need-need.ensures) at (sym c.send_one.ensures.answer ∙ v) in
    let g = c.loop-j.invariant.1 in one_refused a.node.now a.i (omega (arith, c.load-arg-1.given)) c.requires.0 g c.loop-j-test.true c.between-p.result.now (payload_is (goal.at.returns-in-Err-clause-is c).After-between-p) _ q
    ∙ rw (rw v at c.send_one.ensures.book, rw v at c.send_one.ensures.store)

pub returns-clause-is : goal.returns-clause-is
unfolding sent_in_order
returns-clause-is c =
    let g = c.loop-j.invariant.1 in
    let a = c.args in
    let j : c.loop-j.j ≡ a.k = omega (arith, g.within, c.loop-j-test.false) in
    let left = rw (j, payloads_none a.block.now a.k a.k (omega arith)) at g.rest in left

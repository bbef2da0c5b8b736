-- `call_hand_out::framing::put_frame` meets its contract. Assumes nothing.
use Rattle.call_hand_out.proofs.Outcomes.{too_short, long_enough}
use Rattle.call_hand_out.proofs.framing.put_frame.Goals as goal

pub returns-then-frame-n-clause-answer : goal.returns-then-frame-n-clause-answer
returns-then-frame-n-clause-answer c =
    let a = c.args in too_short a.frame.now a.fields a.payload.now c.if-frame-n.true

pub returns-clause-answer : goal.returns-clause-answer
returns-clause-answer c =
    let a = c.args in long_enough a.frame.now a.fields a.payload.now c.if-frame-n.false

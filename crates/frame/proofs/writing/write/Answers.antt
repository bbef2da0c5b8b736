-- `frame::writing::write` meets its contract. Assumes nothing.
use Rattle.std.proofs.Common.{◌≡◌, ◌∙◌, sym, ◌+◌, ◌≤◌, length, Ok}
use borrow.Author.Tests.{ltb-false}
use Rattle.units.specs.Refusals.{verdict}
use Rattle.frame.specs.Writing.{write_tests, written_of}
use Rattle.frame.proofs.WriteLaws.{frame_front}
use Rattle.units.proofs.Judging.{clear}
use Rattle.frame.proofs.writing.write.Goals as goal

pub returns-clause-after : goal.returns-clause-after
unfolding written_of
returns-clause-after c =
    let a = c.args in
    let d = a.fields in
    let p = a.payload.now in
    let b = a.buffer.now in
    let v : verdict (write_tests d (length p) (length b)) ≡ Ok tt = sym c.judge.ensures ∙ c.in_ok-judge.was in
    let room : length p + 9 ≤ length b = ltb-false (length b) (length p + 9) (clear (write_tests d (length p) (length b)) v).1.1.1.1.0 in
    rw v (c.emit.ensures ∙ frame_front d p b room)

-- `window::Window::accept` meets its contract. Assumes nothing.
use Rattle.std.proofs.Common.{arith, le-ltb, lt-ltb}
use Rattle.window.specs.Windows.{offset_of, held, accept_of}
use Rattle.window.proofs.Window.accept.Goals as goal

pub returns-then-self-offset : goal.returns-then-self-offset
unfolding accept_of
returns-then-self-offset c =
    let a = c.args in
    rw (le-ltb (offset_of a.self a.s.0) a.self.size (omega arith))

pub returns-then-is_set : goal.returns-then-is_set
unfolding accept_of held
returns-then-is_set c =
    let a = c.args in
    let d = c.distance-offset.ensures in
    rw (lt-ltb (offset_of a.self a.s.0) a.self.size (omega arith), ← d, ← c.is_set.ensures, c.if-is_set.true)

pub returns : goal.returns
unfolding accept_of held
returns c =
    let a = c.args in
    let d = c.distance-offset.ensures in
    rw (lt-ltb (offset_of a.self a.s.0) a.self.size (omega arith), ← d, ← c.is_set.ensures, c.if-is_set.false, c.with_set-marks.ensures)

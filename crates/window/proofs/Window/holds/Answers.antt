-- `window::Window::holds` meets its contract. Assumes nothing.
use Rattle.window.specs.Windows.{held}
use Rattle.window.proofs.Window.holds.Goals as goal

pub returns : goal.returns
unfolding held
returns c = c.is_set.ensures

-- What each function says of the window that it is lent: the window before and the number, the answer, the window
-- after. A contract each, cited whole by the function. Assumes nothing.
use Rattle.std.specs.Prelude.{ℕ, ◌≡◌, Bool}
use Rattle.window.specs.Windows.{inside_of, accept_of, pass_of, reset_of}
use Rattle.window.specs.declared.Found.{Found}
use Rattle.window.specs.declared.Window.{Window}

-- whether the number lies in it [W4, G8]
pub record Tests (w : Window) (s : ℕ) (r : Bool) : Type 0 where
  pub answer : r ≡ inside_of w s

-- the number is held too, where it lies in it and is new [W4, W6, G8]
pub record Accepts (w : Window) (s : ℕ) (r : Found) (w' : Window) : Type 0 where
  pub answer : r ≡ (accept_of w s).found
  pub after : w' ≡ (accept_of w s).window

-- all that is held from the start on without a gap is passed [W5, G8]
pub record Passes (w : Window) (r : ℕ) (w' : Window) : Type 0 where
  pub answer : r ≡ (pass_of w).run
  pub after : w' ≡ (pass_of w).window

-- it starts at 1 again, with nothing held [E8, G8]
pub record Resets (w : Window) (w' : Window) : Type 0 where
  pub after : w' ≡ reset_of w

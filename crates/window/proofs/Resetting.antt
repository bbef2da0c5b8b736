-- Laws of `new` and `reset`: nothing is held, and the window is good. Assumes nothing.
use Rattle.std.proofs.Common.{◌≡◌, ℕ, true, false, lit<, pow_pos}
use Rattle.units.specs.Sizes.{is_size}
use Rattle.window.specs.Windows.{held, held_count, Good, new_of, reset_of}
use Rattle.window.specs.declared.Window.{Window}
use Rattle.window.proofs.Bits.{bit_of_zero}
use Rattle.window.proofs.Sizes.{ones_zero}

pub new_held : (W k : ℕ) → held (new_of W) k ≡ false
unfolding held
new_held W k = bit_of_zero k

pub new_count : (W : ℕ) → held_count (new_of W) ≡ 0
new_count W = ones_zero

pub new_good : (W : ℕ) → is_size W ≡ true → Good (new_of W)
new_good W v = record { sized = v; byte = lit< tt; word = lit< tt; below = pow_pos W }

pub reset_held : (w : Window) (k : ℕ) → held (reset_of w) k ≡ false
reset_held w k = new_held w.size k

pub reset_count : (w : Window) → held_count (reset_of w) ≡ 0
reset_count w = new_count w.size

pub reset_good : (w : Window) → Good w → Good (reset_of w)
reset_good w g = new_good w.size g.sized

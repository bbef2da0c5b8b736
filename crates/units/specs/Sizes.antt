-- Window sizes. Cited by the window, the table and whatever is lent one. Assumes nothing.
use Rattle.std.specs.Prelude.{ℕ, Bool, ◌&&◌, ◌||◌, eqb, leb}
use Rattle.std.specs.Int.Count.{ones}
use Rattle.units.specs.Limits.{most_window}
use Rattle.units.specs.Refusals.{pick}

-- what 0 stands for [T11]
unfoldable pub default_size : ℕ
default_size = 8

-- exactly one bit set, and at most 128 [T10, G2]
abbrev pub is_size : ℕ → Bool
is_size w = eqb (ones w) 1 && leb w most_window

-- what a table may write: 0, or a size [T10, V6]
abbrev pub may_write : ℕ → Bool
may_write w = eqb w 0 || is_size w

-- the size that is in force where w is written [T11, V6]
abbrev pub in_force : ℕ → ℕ
in_force w = pick (eqb w 0) default_size w

-- A window as its callers see it, where each offset from the start is held or not, and what each step makes of it.
-- Cited by the window and by the end points. Assumes nothing.
use Rattle.std.specs.Prelude.{◌≡◌, ℕ, ◌+◌, ◌/◌, ◌^◌, ◌<◌, Bool, true, bit_or, count_ones, nat_lt}
use Rattle.units.specs.Refusals.{pick}
use Rattle.units.specs.Sizes.{is_size}
use Rattle.window.specs.Marks.{joined, parted, bit, run_in}
use Rattle.window.specs.Numbers.{distance_of, byte_of, seq_of}
use Rattle.window.specs.declared.Window.{Window}
use Rattle.window.specs.declared.Accepted.{Accepted}
use Rattle.window.specs.declared.Passed.{Passed}
use Rattle.window.specs.declared.Found.TheVariants.{New, Held, Outside}

-- ---- the view

-- how far the number s lies from the window's start [W1]
abbrev pub offset_of : Window → ℕ → ℕ
offset_of w s = distance_of w.start.0 s

-- whether s lies in the window [W1, O7]
abbrev pub inside_of : Window → ℕ → Bool
inside_of w s = nat_lt (offset_of w s) w.size

-- whether the offset k is held [W4]
unfoldable pub held : Window → ℕ → Bool
held w k = bit (joined w.marks) k

-- how many offsets are held [E13]
abbrev pub held_count : Window → ℕ
held_count w = count_ones (joined w.marks)

-- how many are held from the start on without a gap [W5, W8, G3]
abbrev pub run_of : Window → ℕ
run_of w = run_in 128 (joined w.marks)

-- the unfolded count c stands at the window's start [U2]
abbrev pub At : Window → ℕ → Type 0
At w c = w.start.0 ≡ byte_of c

-- a window that `new` and the steps can give: a size of `is_size`, parts in range, nothing held at or beyond the size
-- [T10]
pub record Good (w : Window) : Type 0 where
  pub sized : is_size w.size ≡ true
  pub byte : w.start.0 < 256
  pub word : w.marks.0 < 2 ^ 64
  pub below : joined w.marks < 2 ^ w.size

-- ---- the steps

-- start 1, nothing held [E3, E8]
abbrev pub new_of : ℕ → Window
new_of size = record { start = seq_of 1; size = size; marks = parted 0 }

-- so it is after a reset too [E8, G6]
abbrev pub reset_of : Window → Window
reset_of w = new_of w.size

-- the window with the offset k held too; there is no mark for an offset of 128 or more [W4]
abbrev pub with_held : Window → ℕ → Window
with_held w k = record { start = w.start; size = w.size; marks = parted (bit_or (joined w.marks) (2 ^ k)) }

-- a number in the window and new is held from now on; any other leaves the window as it is [W4, W6, G6]
unfoldable pub accept_of : Window → ℕ → Accepted
accept_of w s =
    pick (inside_of w s)
    (pick (held w (offset_of w s))
    (record { window = w; found = Held })
    (record { window = with_held w (offset_of w s); found = New }))
    (record { window = w; found = Outside })

-- the window n numbers further on [W5, W8]
abbrev pub moved_of : Window → ℕ → Window
moved_of w n = record { start = seq_of (w.start.0 + n); size = w.size; marks = parted (joined w.marks / 2 ^ n) }

-- past all that is held from the start on without a gap [W5, W8, G6]
unfoldable pub pass_of : Window → Passed
pass_of w = record { window = moved_of w (run_of w); run = run_of w }

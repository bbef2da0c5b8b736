-- What a receive window makes of a number that arrives: the two steps by value, one after the other. Cited by the
-- function with plain parameters. Assumes nothing.
use Rattle.std.specs.Prelude.{ℕ}
use Rattle.units.specs.declared.Seq.{Seq}
use Rattle.window.specs.Windows.{accept_of, pass_of}
use Rattle.window.specs.declared.Marks.{Marks}
use Rattle.window.specs.declared.Window.{Window}
use Rattle.lent_window.specs.declared.Received.{Received}

-- the number is accepted, and then all that is held from the start on without a gap is passed [W4, W5, W6, G8]
abbrev pub stepped : Window → ℕ → Received
stepped w s =
    record {
      window = (pass_of (accept_of w s).window).window;
      found = (accept_of w s).found;
      run = (pass_of (accept_of w s).window).run;
    }

-- the same of a window that is given by its parts [G8]
abbrev pub received_of : Seq → ℕ → Marks → ℕ → Received
received_of start size marks s = stepped (record { start = start; size = size; marks = marks }) s

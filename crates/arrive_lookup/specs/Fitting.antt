-- An entry that fits a frame: of the fitting kind, with the frame's source as remote address and its channel. Cited
-- by the index and by the machine. Assumes nothing.
use Rattle.std.specs.Prelude.{ℕ, Bool, true, false, not, ◌&&◌, eqb}
use Rattle.table.specs.declared.Entry.{Entry}
use Rattle.end_points.specs.States.{is_sends}

abbrev pub same : Bool → Bool → Bool
same true b = b
same false b = not b

-- an entry fits a kind, a source and a channel [F16, R13]
unfoldable pub fits : Entry → Bool → ℕ → ℕ → Bool
fits e sends source channel = eqb e.channel.0 channel
    && (eqb e.remote.0 source && same sends (is_sends e.kind))

-- What lies in the buffer so far is what the reader gave.
use Rattle.std.proofs.Common.{length, ◌-◌, ◌≡◌, ◌≤◌, take}
use Rattle.std.specs.Io.KnownBytes.{Consumes}
use Rattle.intake.proofs.read_full.Given as goal

abbrev pub invariant-loop-at : goal.invariant-loop-at
invariant-loop-at g l = record {
  sized : length l.buffer ≡ length l.initial.buffer;
  within : l.at ≤ length l.buffer;
  taken : Consumes (g.R.Read.remaining l.fn.from) (g.R.Read.remaining l.from) (take l.at l.buffer);
}

abbrev pub decreases-loop-at : goal.decreases-loop-at
decreases-loop-at g l = length l.initial.buffer - l.at

-- Each record takes at least a byte.
use Rattle.std.proofs.Common.{length, ◌-◌, ◌≤◌}
use Rattle.frames.proofs.run.Given as goal

abbrev pub invariant-loop-i : goal.invariant-loop-i
invariant-loop-i g l = (l.count ≤ l.i) × (l.i ≤ length l.input)

abbrev pub decreases-loop-i : goal.decreases-loop-i
decreases-loop-i g l = length l.input - l.i

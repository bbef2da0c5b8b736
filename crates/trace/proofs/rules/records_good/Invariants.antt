-- `trace::rules::records_good` meets its contract. The loop's invariant: the first k records keep their rules. Assumes
-- nothing.
use mathlib.Core.Path.{◌≡◌}
use mathlib.Core.Bool.{true}
use Rattle.table.specs.Rules.{every_below}
use Rattle.trace.specs.Rules.{record_good}
use Rattle.trace.proofs.rules.records_good.Given as goal

abbrev pub invariant-loop-k : goal.invariant-loop-k
invariant-loop-k l = every_below l.k (record_good l.file) ≡ true

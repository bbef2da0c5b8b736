-- `table::rules::entries_good` meets its contract. The loop's invariant: the first i entries keep their rules. Assumes nothing.
use mathlib.Core.Path.{◌≡◌}
use mathlib.Core.Bool.{true}
use Rattle.table.specs.Rules.{every_below, entry_good}
use Rattle.table.proofs.rules.entries_good.Given as goal

abbrev pub invariant-loop-i : goal.invariant-loop-i
invariant-loop-i l = every_below l.i (entry_good l.table) ≡ true

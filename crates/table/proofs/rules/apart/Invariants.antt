-- `table::rules::apart` meets its contract. The loop's invariant: entry i agrees with none of the first j. Assumes nothing.
use mathlib.Core.Path.{◌≡◌}
use mathlib.Core.Bool.{true, not}
use Rattle.table.specs.Layout.{entry_of}
use Rattle.table.specs.Rules.{every_below, agree}
use Rattle.table.proofs.rules.apart.Given as goal

abbrev pub invariant-loop-j : goal.invariant-loop-j
invariant-loop-j l = every_below l.j (λ k. not (agree (entry_of l.table l.i) (entry_of l.table k))) ≡ true

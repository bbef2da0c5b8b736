-- `trace::rules::unused_good` meets its contract. The loop's invariant: the offsets from the first unused one to before k
-- are 0. Assumes nothing.
use Prim.Native.Nat.{ℕ, ◌+◌, ◌≤◌, ◌-◌}
use mathlib.Core.Path.{◌≡◌}
use mathlib.Core.Bool.{Bool, true}
use mathlib.Core.List.{List}
use lib.Dec.{eqb}
use Rattle.table.specs.Rules.{every_below}
use Rattle.trace.specs.Layout.{most_records, count_of, begin_of}
use Rattle.trace.proofs.rules.unused_good.Given as goal

-- offset j of the unused ones is 0
abbrev pub is_zero : List ℕ → ℕ → Bool
is_zero f j = eqb (begin_of f (count_of f + 1 + j)) 0

abbrev pub invariant-loop-k : goal.invariant-loop-k
invariant-loop-k l =
    (l.k - (count_of l.file + 1) ≤ most_records - count_of l.file) × (every_below (l.k - (count_of l.file + 1)) (is_zero l.file) ≡ true)

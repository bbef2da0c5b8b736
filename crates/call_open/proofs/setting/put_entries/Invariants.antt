-- `call_open::setting::put_entries` meets its contract. The loop's invariant: the first k entries are in, and the place is where
-- entry k's area begins. Assumes nothing.
use mathlib.Core.Path.{◌≡◌}
use Rattle.table.specs.Areas.{place_of}
use Rattle.call_open.specs.Setup.{tabled}
use Rattle.call_open.proofs.setting.put_entries.Given as goal

abbrev pub invariant-loop-k : goal.invariant-loop-k
invariant-loop-k l = (l.place ≡ place_of l.table l.k) × (l.node ≡ tabled l.table l.k l.initial.node)

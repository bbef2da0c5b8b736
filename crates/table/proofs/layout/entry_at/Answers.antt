-- `table::layout::entry_at` meets its contract. Assumes nothing.
use mathlib.Core.Path.{◌∙◌}
use native.Mathlib.Omega.{arith}
use Rattle.table.specs.Layout.{entry_of}
use Rattle.table.proofs.Past.{entry_past}
use Rattle.table.proofs.layout.entry_at.Goals as goal

pub returns-then-table-i : goal.returns-then-table-i
unfolding entry_of
returns-then-table-i c = c.entry_from.ensures ∙ entry_past _ _ _ (omega arith) (omega arith)

pub returns : goal.returns
unfolding entry_of
returns c = c.entry_from-2.ensures

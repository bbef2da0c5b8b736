-- `table::rules::entries_good` meets its contract. Assumes nothing.
use mathlib.Core.Path.{sym}
use native.Mathlib.Omega.{arith}
use Rattle.table.proofs.Every.{every_fails}
use Rattle.table.proofs.rules.entries_good.Goals as goal

pub returns-then-not-entry_good : goal.returns-then-not-entry_good
returns-then-not-entry_good c = sym (every_fails _ _ c.loop-i.i (omega arith) (rw (← c.entry_good.ensures) c.if-not-entry_good.true))

-- `trace::rules::records_good` meets its contract. Assumes nothing.
use mathlib.Core.Path.{sym}
use native.Mathlib.Omega.{arith}
use Rattle.table.proofs.Every.{every_fails}
use Rattle.trace.proofs.rules.records_good.Goals as goal

pub returns-then-not-record_good : goal.returns-then-not-record_good
returns-then-not-record_good c = sym (every_fails _ _ c.loop-k.k (omega arith) (rw (← c.record_good.ensures) c.if-not-record_good.true))

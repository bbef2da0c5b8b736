-- `table::rules::is_address` meets its contract. Assumes nothing.
use borrow.Author.Tests.{le-leb, lt-leb}
use Rattle.table.specs.Rules.{is_address}
use Rattle.table.proofs.rules.is_address.Goals as goal

pub returns-then-a-ge32 : goal.returns-then-a-ge32
unfolding is_address
returns-then-a-ge32 c = rw (le-leb _ _ c.if-a-ge32.true)

pub returns-else-a-ge32 : goal.returns-else-a-ge32
unfolding is_address
returns-else-a-ge32 c = rw (lt-leb _ _ c.if-a-ge32.false)

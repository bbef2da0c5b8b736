-- `table::rules::entry_good` meets its contract. Assumes nothing.
use Rattle.table.specs.Rules.{entry_good}
use Rattle.table.proofs.rules.entry_good.Goals as goal

pub returns-then-form_good : goal.returns-then-form_good
unfolding entry_good
returns-then-form_good c = rw (← c.form_good.ensures, c.if-form_good.true) c.apart.ensures

pub returns-else-form_good : goal.returns-else-form_good
unfolding entry_good
returns-else-form_good c = rw (← c.form_good.ensures, c.if-form_good.false)

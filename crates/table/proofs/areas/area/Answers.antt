-- `table::areas::area` meets its contract. Assumes nothing.
use Rattle.table.specs.Areas.{area_of}
use Rattle.table.proofs.areas.area.Goals as goal

pub returns : goal.returns
unfolding area_of
returns c = rw c.slots.ensures

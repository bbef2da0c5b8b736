-- A good table's windows are at most 128.
use Rattle.std.proofs.Common.{arith}
use Rattle.table.proofs.Good.{good_entry}
use Rattle.label.proofs.print_entries.Goals as goal

pub print_entry-requires : goal.print_entry-requires
print_entry-requires g c = rw c.entry_at.ensures (good_entry c.args.table.now c.requires c.loop-i.i (omega arith)).window_high

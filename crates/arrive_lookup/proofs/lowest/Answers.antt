-- `arrive_lookup::lowest` meets its contract. Assumes nothing.
use mathlib.Core.Path.{sym}
use Rattle.arrive_lookup.proofs.Digits.{lowest_is}
use Rattle.arrive_lookup.proofs.lowest.Goals as goal

pub returns : goal.returns
returns c = sym (lowest_is c.args.set)

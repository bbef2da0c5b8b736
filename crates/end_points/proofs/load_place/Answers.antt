-- `end_points::load_place` meets its contract. Assumes nothing.
use mathlib.Core.Path.{◌∙◌}
use native.Mathlib.Omega.{arith}
use Rattle.end_points.proofs.Cut.{cut}
use Rattle.end_points.proofs.load_place.Goals as goal

pub returns : goal.returns
returns c = rw (c.word_at.ensures ∙ cut c.args.node.now c.args.i c.words_of.ensures 7 (omega arith))

-- `end_points::load_run` meets its contract. Assumes nothing.
use mathlib.Core.Path.{◌∙◌}
use native.Mathlib.Omega.{arith}
use Rattle.end_points.proofs.Cut.{cut}
use Rattle.end_points.specs.Ends.{load_run}
use Rattle.end_points.proofs.load_run.Goals as goal

pub returns : goal.returns
unfolding load_run
returns c =
    let here = cut c.args.node.now c.args.i c.words_of-ws.ensures in
    rw (
      c.word_at-urgent.ensures ∙ here 18 (omega arith),
      c.word_at-confirmed.ensures ∙ here 17 (omega arith),
      c.word_at-accepted.ensures ∙ here 16 (omega arith),
      c.word_at-handed.ensures ∙ here 15 (omega arith),
      c.word_at-taken.ensures ∙ here 14 (omega arith),
      c.word_at-high.ensures ∙ here 13 (omega arith),
      c.word_at-low.ensures ∙ here 12 (omega arith),
      c.word_at-start.ensures ∙ here 11 (omega arith),
    )

-- `end_points::load_state` meets its contract. Assumes nothing.
use mathlib.Core.Path.{◌∙◌}
use native.Mathlib.Omega.{arith}
use Rattle.end_points.proofs.Cut.{cut}
use Rattle.end_points.proofs.load_state.Goals as goal

pub returns : goal.returns
returns c =
    let here = cut c.args.node.now c.args.i c.words_of-ws.ensures in
    rw (
      c.state_of.ensures,
      c.word_at-flag.ensures ∙ here 10 (omega arith),
      c.word_at-value.ensures ∙ here 9 (omega arith),
      c.word_at-tag.ensures ∙ here 8 (omega arith),
    )

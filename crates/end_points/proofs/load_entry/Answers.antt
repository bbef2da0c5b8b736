-- `end_points::load_entry` meets its contract. Assumes nothing.
use mathlib.Core.Path.{◌∙◌}
use native.Mathlib.Omega.{arith}
use Rattle.end_points.proofs.Cut.{cut, first}
use Rattle.end_points.specs.Ends.{load_entry}
use Rattle.end_points.proofs.load_entry.Goals as goal

pub returns : goal.returns
unfolding load_entry
returns c =
    let here = cut c.args.node.now c.args.i c.words_of-ws.ensures in
    rw (
      c.word_at-timeout.ensures ∙ here 6 (omega arith),
      c.word_at-largest.ensures ∙ here 5 (omega arith),
      c.word_at-window.ensures ∙ here 4 (omega arith),
      c.word_at-retries.ensures ∙ here 3 (omega arith),
      c.word_at-channel.ensures ∙ here 2 (omega arith),
      c.word_at-remote.ensures ∙ here 1 (omega arith),
      c.kind_of-kind.ensures,
      c.word_at.ensures ∙ first c.args.node.now c.args.i c.words_of-ws.ensures,
    )

-- `window::words::trailing_ones` meets its contract. Assumes nothing.
use Rattle.std.proofs.Common.{rules, ◌∙◌}
use Rattle.window.proofs.TrailingOnes.{run_in_not}
use Rattle.window.proofs.words.trailing_ones.Goals as goal

pub returns : goal.returns
returns c = c.trailing_ones.ensures ∙ run_in_not 64 c.args.word (search rules)

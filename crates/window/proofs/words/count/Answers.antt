-- `window::words::count` meets its contract. Assumes nothing.
use Rattle.std.proofs.Common.{sym, ◌∙◌, add_comm, rules}
use lib.Count.{ones, ones_cat}
use Rattle.window.proofs.words.count.Goals as goal

pub returns : goal.returns
returns c =
    let m = c.args.m in
    add_comm (ones m.0) (ones m.1) ∙ sym (ones_cat 64 m.1 m.0 (search rules))

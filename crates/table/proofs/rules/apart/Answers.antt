-- `table::rules::apart` meets its contract. The loop's invariant: entry i agrees with none of the first j. Assumes nothing.
use mathlib.Core.Path.{◌≡◌, sym}
use Rattle.table.specs.Layout.{entry_of}
use Rattle.table.specs.Rules.{agree, apart}
use Rattle.table.proofs.Every.{every_none, every_more, every_fails}
use Rattle.table.proofs.rules.apart.Goals.{After-agree}
use Rattle.table.proofs.rules.apart.Goals as goal

told : (c : After-agree) → c.agree.result ≡ agree (entry_of c.args.table.now c.args.i) (entry_of c.args.table.now c.loop-j.j)
told c = rw (← c.entry_at.ensures, ← c.entry_at-e.ensures) c.agree.ensures

pub loop-j-init : goal.loop-j-init
loop-j-init c = every_none _

pub returns-then-agree : goal.returns-then-agree
unfolding apart
returns-then-agree c = sym (every_fails _ _ c.loop-j.j c.loop-j-test.true (rw (← told (goal.at.returns-then-agree c).After-agree, c.if-agree.true)))

pub loop-j-preserved : goal.loop-j-preserved
loop-j-preserved c = every_more _ _ c.loop-j.invariant (rw (← told (goal.at.loop-j-preserved c).After-agree, c.if-agree.false))

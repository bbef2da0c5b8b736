-- A call on a node leaves every entry that it is not on, and what a tick makes of an entry depends on that entry alone.
-- Assumes nothing.
use Rattle.machine.specs.Calls.{ticks}
use Rattle.machine.specs.Machine.{step}
use Rattle.machine.specs.Laws.{OthersStay}
use Rattle.machine.proofs.Apart.{others_stay}
use Rattle.machine.proofs.Ticking.{tick_alone}
use Rattle.refinement.specs.Standing.{Refines, StandsSound}
use Rattle.refinement.specs.Independence.{OthersStayAtNodes, TickAloneAtNodes}
use Rattle.refinement.proofs.Refining.{refines}
use Rattle.refinement.proofs.Sounding.{stands_sound}

pub others_stay_at_nodes : OthersStayAtNodes
unfolding OthersStayAtNodes OthersStay Refines StandsSound
others_stay_at_nodes t n m s c f i off =
    ((step m c).machine, (refines t n m s c f).stands, others_stay t m (stands_sound t n m s) c i off)

pub tick_alone_at_nodes : TickAloneAtNodes tick_alone
unfolding TickAloneAtNodes Refines
tick_alone_at_nodes t n m s i e here =
    ((step m ticks).machine, (refines t n m s ticks tt).stands, tick_alone.end m i e here, tick_alone.share m i e here)

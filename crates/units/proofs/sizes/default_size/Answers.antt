-- `units::sizes::default_size` meets its contract. Assumes nothing.
use mathlib.Core.Path.{refl}
use Rattle.units.specs.Sizes.{default_size}
use Rattle.units.proofs.sizes.default_size.Goals as goal

pub returns : goal.returns
unfolding default_size
returns c = refl

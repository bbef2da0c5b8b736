-- What send and Urgent ask alike of an entry and a payload, where no test fits. Assumes nothing.
use Prim.Native.Nat.{ℕ, ◌≤◌, ◌<◌}
use mathlib.Core.Path.{◌≡◌}
use mathlib.Core.Bool.{true}
use mathlib.Core.List.{List}
use lib.ListN.{length}
use Rattle.end_points.specs.Ends.{end_of}
use Rattle.end_points.specs.Heads.{count_in, need_in}
use Rattle.end_points.specs.States.{is_sends}
use Rattle.end_points.specs.Lent.{Lent}
use Rattle.end_points.specs.declared.State.{State}
use Rattle.end_points.specs.declared.State.TheVariants.{Open}

pub record Asked (x : Lent) (i : ℕ) (p : List ℕ) : Type 0 where
  pub known : i < count_in x.node
  pub sends : is_sends (end_of x.node i).entry.kind ≡ true
  pub opened : (end_of x.node i).state ≡ Open
  pub some : 1 ≤ length p
  pub most : length p ≤ (end_of x.node i).entry.largest
  pub need : need_in x.node ≤ length x.store

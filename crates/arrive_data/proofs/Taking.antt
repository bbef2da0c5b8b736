-- Data taken in, case by case: a number in the window and new, and any other. Assumes nothing.
use mathlib.Core.Path.{◌≡◌}
use mathlib.Core.Bool.{true, false}
use mathlib.Core.List.{List}
use Prim.Native.Nat.{ℕ}
use Rattle.window.specs.Windows.{accept_of}
use Rattle.end_points.specs.Lent.{Lent}
use Rattle.end_points.specs.Runs.{is_new}
use Rattle.end_points.specs.declared.EndPoint.{EndPoint}
use Rattle.arrive_data.specs.Receiving.{first_time, repeated, data_after}

module _ (x : Lent) (i : ℕ) (e : EndPoint) (s : ℕ) (p : List ℕ) where
  pub data_after_new : is_new (accept_of e.run.window s).found ≡ true → data_after x i e s p ≡ first_time x i e s p
  unfolding data_after
  data_after_new h = rw h

  pub data_after_other : is_new (accept_of e.run.window s).found ≡ false → data_after x i e s p ≡ repeated x i s
  unfolding data_after
  data_after_other h = rw h

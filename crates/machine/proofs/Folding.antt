-- The number k past a window's start lies k past it, whether the byte has gone round or not. Assumes nothing.
use native.Mathlib.Omega.{arith}
use Rattle.machine.specs.Laws.{WindowFolds}

pub window_folds : WindowFolds
unfolding WindowFolds
window_folds e start k h = omega (arith, start, h)

-- `trace::layout::begin` meets its contract. Assumes nothing.
use mathlib.Core.Path.{sym}
use Prim.Native.Nat.{◌+◌, ◌*◌}
use native.Mathlib.Omega.{arith}
use Rattle.units.proofs.Runs.{far32}
use Rattle.trace.specs.Layout.{begin_of}
use Rattle.trace.proofs.layout.begin.Goals as goal

pub returns-then-file-k : goal.returns-then-file-k
unfolding begin_of
returns-then-file-k c =
    let a = c.args in
    sym (far32 a.file.now (4 + 4 * a.k) (omega arith))

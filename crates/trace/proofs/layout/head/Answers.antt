-- `trace::layout::head` meets its contract. Assumes nothing.
-- past the end there is nothing but zeros
use mathlib.Core.Path.{◌≡◌, sym}
use mathlib.Core.List.{List}
use Prim.Native.Nat.{ℕ, ◌+◌, ◌≤◌}
use native.Mathlib.Omega.{arith}
use lib.ListN.{length, get_or, get_or-eq_default}
use Rattle.units.proofs.Runs.{far16}
use Rattle.trace.specs.Layout.{head_from}
use Rattle.trace.proofs.layout.head.Goals as goal

nothing : (f : List ℕ) (at : ℕ) → length f ≤ at → head_from f at ≡ record { kind = 0; index = 0; length = 0 }
unfolding head_from
nothing f at h =
    let kind : get_or f at 0 ≡ 0 = get_or-eq_default f 0 h in
    let index : get_or f (at + 1) 0 ≡ 0 = get_or-eq_default f 0 (omega arith) in
    rw (kind, index, far16 f (at + 2) (omega arith))

pub returns-then-file-at : goal.returns-then-file-at
returns-then-file-at c =
    let a = c.args in
    sym (nothing a.file.now a.at c.if-file-at.true)

-- `blocks::lent::never_fall` meets its contract. The loop's invariant: whether the offsets behind offset j fall is left to
-- tell, and `last` is that offset. Assumes nothing.
use mathlib.Core.Path.{◌≡◌}
use mathlib.Core.Bool.{◌&&◌}
use mathlib.Core.List.{List}
use Prim.Native.Nat.{ℕ, suc, ◌+◌, ◌-◌, ◌<◌}
use native.Mathlib.Omega.{arith}
use lib.Dec.{leb}
use Rattle.blocks.specs.Reading.{offset_in, never_fall}
use Rattle.blocks.proofs.lent.never_fall.Given as goal

pub record Left (s : List ℕ) (k last j : ℕ) : Type 0 where
  pub is : last ≡ offset_in s j
  pub rest : never_fall s 0 k ≡ never_fall s j (k - j)

-- one offset more

pub one : (s : List ℕ) (k j : ℕ) → j < k
    → never_fall s j (k - j) ≡ (leb (offset_in s j) (offset_in s (j + 1)) && never_fall s (j + 1) (k - (j + 1)))
unfolding never_fall
one s k j h = let z : k - j ≡ suc (k - (j + 1)) = omega arith in rw z

abbrev pub invariant-loop-j : goal.invariant-loop-j
invariant-loop-j l = Left l.block l.k l.last l.j

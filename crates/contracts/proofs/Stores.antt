-- A store that is lent to be read alone stays as it was: what is equal with it is equal without. Assumes nothing.
use Prim.Native.Nat.{ℕ}
use mathlib.Core.Path.{◌≡◌, ap}
use mathlib.Core.List.{List, []}
use Rattle.end_points.specs.Lent.{Lent, whole}

pub but_store :
    (s : List ℕ) {n m b c o p : List ℕ} → whole n b s o ≡ whole m c s p → whole n b [] o ≡ whole m c [] p
but_store s e = ap (λ (x : Lent). whole x.node x.book [] x.out) e

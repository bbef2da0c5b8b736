-- Laws of the check byte; proved in proofs/Laws.antt. Assumes nothing.
use Rattle.std.specs.Prelude.{ℕ, ◌<◌, ◌≡◌, List, [], ◌∷◌, ◌++◌, T}
use Rattle.std.proofs.Math.Pow.{are_bytes}
use Rattle.check8.specs.Polynomial.{check_of}

-- over bytes followed by their check byte it comes to 0 [C5]
abbrev pub OwnCheck : Type 0
OwnCheck = (bs : List ℕ) → check_of (bs ++ check_of bs ∷ []) ≡ 0

-- and over bytes followed by any other byte it does not [C5]
abbrev pub OnlyCheck : Type 0
OnlyCheck = (bs : List ℕ) (x : ℕ) → T (are_bytes bs) → x < 256 → check_of (bs ++ x ∷ []) ≡ 0 → x ≡ check_of bs

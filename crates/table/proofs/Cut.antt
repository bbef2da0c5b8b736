-- A byte of an entry is the same in the entry's own bytes, cut out of the table, as in the table. Assumes nothing.
use mathlib.Core.Path.{◌≡◌, ap, ◌∙◌}
use mathlib.Core.List.{List}
use Prim.Native.Nat.{ℕ, ◌+◌, ◌<◌}
use native.Mathlib.Omega.{arith}
use lib.ListN.{get_or, take, drop}
use lib.Seq.{get_or-take, get_or-drop}
use Rattle.units.specs.Bytes.{get16_of}

-- byte k of what was cut out at a byte
pub cut : (t bytes : List ℕ) (at k : ℕ) → bytes ≡ take 12 (drop at t) → k < 12 → get_or bytes k 0 ≡ get_or t (at + k) 0
cut t bytes at k is below =
    ap (λ (l : List ℕ). get_or l k 0) is ∙ get_or-take 12 (drop at t) k 0 below ∙ get_or-drop at t k 0

-- and its first
pub first : (t bytes : List ℕ) (at : ℕ) → bytes ≡ take 12 (drop at t) → get_or bytes 0 0 ≡ get_or t at 0
first t bytes at is =
    let here : at + 0 ≡ at = omega arith in
    cut t bytes at 0 is (omega arith) ∙ ap (λ (k : ℕ). get_or t k 0) here

-- a number of two of its bytes
pub cut16 : (t bytes : List ℕ) (at k : ℕ) → bytes ≡ take 12 (drop at t) → k < 11 → get16_of bytes k ≡ get16_of t (at + k)
unfolding get16_of
cut16 t bytes at k is below =
    let next : at + (k + 1) ≡ at + k + 1 = omega arith in
    rw (cut t bytes at k is (omega arith), cut t bytes at (k + 1) is (omega arith), next)

-- A word of an entry is the same in the entry's own words, cut out of the node, as in the node. Cited where a part of an end point
-- is read. Assumes nothing.
use mathlib.Core.Path.{◌≡◌, ap, ◌∙◌}
use mathlib.Core.List.{List}
use Prim.Native.Nat.{ℕ, ◌+◌, ◌<◌}
use native.Mathlib.Omega.{arith}
use lib.ListN.{get_or, take, drop}
use lib.Seq.{get_or-take, get_or-drop}
use Rattle.memory.specs.Layout.{entry_at}
use Rattle.end_points.specs.Ends.{word}

-- word k of what was cut out for entry i
pub cut : (ws : List ℕ) {part : List ℕ} (i : ℕ) → part ≡ take 32 (drop (entry_at i) ws) → (k : ℕ) → k < 32 → get_or part k 0 ≡ word ws i k
cut ws i is k below =
    ap (λ (l : List ℕ). get_or l k 0) is ∙ get_or-take 32 (drop (entry_at i) ws) k 0 below ∙ get_or-drop (entry_at i) ws k 0

-- and its first
pub first : (ws : List ℕ) {part : List ℕ} (i : ℕ) → part ≡ take 32 (drop (entry_at i) ws) → get_or part 0 0 ≡ get_or ws (entry_at i) 0
first ws i is =
    let at : entry_at i + 0 ≡ entry_at i = omega arith in
    cut ws i is 0 (omega arith) ∙ ap (λ (k : ℕ). get_or ws k 0) at

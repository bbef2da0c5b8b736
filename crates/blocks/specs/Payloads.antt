-- The payloads of an entry's numbers as store and book have them. Cited by whatever delivers. Assumes nothing.
use Rattle.std.specs.Prelude.{ℕ, zero, suc, List, [], ◌∷◌, ◌++◌, take, drop}
use Rattle.window.specs.declared.Window.{Window}
use Rattle.slots.specs.Slots.{slot_for, cell, spot, past, length_in}

-- the payload of number k past the start, as store and book have it for an entry i at its place with slots of P bytes
-- [S3, S5]
abbrev pub payload_at : List ℕ → List ℕ → ℕ → ℕ → ℕ → Window → ℕ → List ℕ
payload_at store b i place largest w k =
    take (length_in b (cell i w (past w k))) (drop (spot place largest (slot_for w (past w k))) store)

-- those of the first k numbers, in order
unfoldable pub payloads : List ℕ → List ℕ → ℕ → ℕ → ℕ → Window → ℕ → List (List ℕ)
payloads store b i place largest w zero = []
payloads store b i place largest w (suc k) = payloads store b i place largest w k ++
    (payload_at store b i place largest w k ∷ [])

-- How a block is read: how many payloads, and each from its offset to the next; and which bytes are a block at all.
-- Cited by the plan, which is lent one, and by the law that nothing is lost in a block. Assumes nothing.
use Rattle.std.specs.Prelude.{ℕ, zero, suc, ◌+◌, ◌*◌, ◌-◌, ◌≤◌, ◌<◌, ◌≡◌, Bool, true, ◌&&◌, List, [], ◌∷◌}
use Rattle.std.specs.Prelude.{length, take, drop, get_or, eqb, leb}
use Rattle.std.proofs.lemmas.List.Edits.{sets}
use Rattle.units.specs.Bytes.{get16_of, get32_of}
use Rattle.units.specs.Limits.{most_planned}
use Rattle.blocks.specs.Blocks.{offsets_at, offset_bytes, empty, block_of}

-- ---- the payloads

-- how many payloads a block counts, and where payload j begins [B1]
abbrev pub count_in : List ℕ → ℕ
count_in s = get16_of s 0

abbrev pub offset_in : List ℕ → ℕ → ℕ
offset_in s j = get32_of s (offsets_at + offset_bytes * j)

unfoldable pub payload_in : List ℕ → ℕ → List ℕ
payload_in s j = take (offset_in s (j + 1) - offset_in s j) (drop (offset_in s j) s)

-- n payloads from payload j on
unfoldable pub payloads_in : List ℕ → ℕ → ℕ → List (List ℕ)
payloads_in s j zero = []
payloads_in s j (suc n) = payload_in s j ∷ payloads_in s (j + 1) n

-- the payloads of a block [B1]
unfoldable pub read_block : List ℕ → List (List ℕ)
read_block s = payloads_in s 0 (count_in s)

-- ---- what is a block

-- n offsets from the one behind offset j on: none falls below the one before it [B5]
unfoldable pub never_fall : List ℕ → ℕ → ℕ → Bool
never_fall s j zero = true
never_fall s j (suc n) = leb (offset_in s j) (offset_in s (j + 1)) && never_fall s (j + 1) n

-- the offsets start right after themselves, never fall, and end at the block's end: so there is no byte too many and
-- none too few [B1, B5]
unfoldable pub is_block : List ℕ → Bool
is_block s =
    eqb (offset_in s 0) (empty + offset_bytes * count_in s)
    && (never_fall s 0 (count_in s) && eqb (offset_in s (count_in s)) (length s))

-- a plan is a block, of 64 payloads at most [B5]
unfoldable pub is_plan : List ℕ → Bool
is_plan s = leb (count_in s) most_planned && is_block s

-- ---- the laws, proved in proofs/Reading.antt and proofs/Whole.antt

-- what was written into a buffer with room for it is read out again [B1]
abbrev pub ReadsBack : Type 0
ReadsBack = (l : List ℕ) (ps : List (List ℕ)) → length (block_of ps) ≤ length l
    → read_block (sets l 0 (block_of ps)) ≡ ps

-- what was written is a block [B5]
unfoldable pub WrittenIsBlock : Type 0
WrittenIsBlock = (ps : List (List ℕ)) → is_block (block_of ps) ≡ true

-- and no other bytes are one: a block is what is written of the payloads that are read out of it [B1, B5]
unfoldable pub BlockIsWritten : Type 0
BlockIsWritten = (s : List ℕ) → ((k : ℕ) → get_or s k 0 < 256) → is_block s ≡ true → block_of (read_block s) ≡ s

-- so what a receiver wrote into a buffer with room for it can be handed on as a plan: as many bytes as were written,
-- where they count at most 64 payloads [B5]
unfoldable pub HandsOn : Type 0
HandsOn = (l : List ℕ) (ps : List (List ℕ)) → length (block_of ps) ≤ length l → length ps ≤ most_planned
    → is_plan (take (length (block_of ps)) (sets l 0 (block_of ps))) ≡ true

-- What was written is a block, and a block is what is written of the payloads that are read out of it. Assumes nothing.
use mathlib.Core.Path.{◌≡◌, refl, sym, ap, ◌∙◌}
use mathlib.Core.Bool.{true}
use mathlib.Core.List.{List, [], ◌∷◌, ◌++◌, append_assoc, append-nil}
use Prim.Native.Nat.{ℕ, zero, suc, ◌+◌, ◌*◌, ◌-◌, ◌/◌, ◌%◌, ◌≤◌, ◌<◌}
use native.Mathlib.Numerals.{add-one, add-two}
use native.Mathlib.Omega.{arith}
use borrow.Author.Tests.{le-leb, leb-true, eq-eqb, eqb-true}
use lib.ListN.{length, get_or, take, drop, length-append, length-take, length-drop, take-append-drop}
use lib.Seq.{sets, sets-eq, take_at, append_snoc, drop-length, drop-cons, drop-drop}
use lib.Dec.{leb}
use Rattle.std.proofs.lemmas.Bool.{and_parts}
use Rattle.units.specs.Bytes.{get16_of, get32_of, be16, be32}
use Rattle.blocks.specs.Blocks.{offsets, joined_up, block_of}
use Rattle.blocks.specs.Reading.{count_in, offset_in, payload_in, payloads_in, read_block, never_fall, is_block, is_plan, WrittenIsBlock, HandsOn, BlockIsWritten}
use Rattle.blocks.proofs.Appending.{length_block}
use Rattle.blocks.proofs.Reading.{count, offset, offset_next}

-- ---- what was written is a block

-- the offsets written for qs behind ps never fall
written_never_fall : (ps qs : List (List ℕ)) (t : List ℕ) → never_fall (block_of (ps ++ qs) ++ t) (length ps) (length qs) ≡ true
unfolding never_fall
written_never_fall ps [] t = refl
written_never_fall ps (q ∷ qs) t =
    let r = rw (append_snoc ps q qs, length-append ps (q ∷ [])) at (written_never_fall (ps ++ (q ∷ [])) qs t) in
    let s : List ℕ = block_of (ps ++ (q ∷ qs)) ++ t in
    let l : offset_in s (length ps) ≤ offset_in s (length ps + 1) = omega (arith, offset ps (q ∷ qs) t, offset_next ps q qs t, length-append (joined_up ps) q) in
    rw (le-leb _ _ l) r

pub written_is_block : WrittenIsBlock
unfolding WrittenIsBlock is_block joined_up
written_is_block ps =
    let s : List ℕ = block_of ps in
    let c : count_in s ≡ length ps = rw append-nil at (count ps []) in
    let first : offset_in s 0 ≡ 6 + 4 * length ps + 0 = simp append-nil at (offset [] ps []) in
    let last : offset_in s (length ps) ≡ 6 + 4 * length ps + length (joined_up ps) = simp append-nil at (offset ps [] []) in
    let n : never_fall s 0 (length ps) ≡ true = simp append-nil at (written_never_fall [] ps []) in
    rw (c, eq-eqb (offset_in s 0) (6 + 4 * length ps) (omega arith), n) (eq-eqb (offset_in s (length ps)) (length s) (omega (arith, length_block ps)))

-- and a plan where it counts few enough: so the first bytes of a buffer that it was written into
pub hands_on : HandsOn
unfolding HandsOn is_plan WrittenIsBlock
hands_on l ps long few =
    let first : take (length (block_of ps)) (sets l 0 (block_of ps)) ≡ block_of ps =
    ap (take (length (block_of ps))) (sets-eq (block_of ps) l 0 (omega arith)) ∙ take_at (block_of ps) _ (length (block_of ps)) refl in
    let c : count_in (block_of ps) ≡ length ps = rw append-nil at (count ps []) in
    rw (first, c, le-leb (length ps) 64 few) (written_is_block ps)

-- ---- numbers in bytes

-- a number's bytes are those that it was read from
module _ (s : List ℕ) (bytes : (k : ℕ) → get_or s k 0 < 256) where
  be16_get : (i : ℕ) → i + 2 ≤ length s → be16 (get16_of s i) ++ drop (i + 2) s ≡ drop i s
  unfolding be16 get16_of
  be16_get i h =
      let high : get16_of s i / 256 ≡ get_or s i 0 = omega (arith, bytes (i + 1)) in
      let low : get16_of s i % 256 ≡ get_or s (i + 1) 0 = omega (arith, bytes (i + 1)) in
      rw (high, low, add-one i, add-two i, ← drop-cons s (suc i) 0 (omega arith), ← drop-cons s i 0 (omega arith))

  be32_get : (i : ℕ) → i + 4 ≤ length s → be32 (get32_of s i) ++ drop (i + 4) s ≡ drop i s
  unfolding be32 be16 get32_of get16_of
  be32_get i h =
      let high : get32_of s i / 65536 ≡ get16_of s i = omega (arith, bytes (i + 2), bytes (i + 2 + 1)) in
      let low : get32_of s i % 65536 ≡ get16_of s (i + 2) = omega (arith, bytes (i + 2), bytes (i + 2 + 1)) in
      let e : i + 4 ≡ i + 2 + 2 = omega arith in
      rw (high, low, e, be16_get (i + 2) (omega arith)) (be16_get i (omega arith))

-- ---- a block is what is written of its payloads

-- the tests that it passes
record Passed (s : List ℕ) : Type 0 where
  first : offset_in s 0 ≡ 6 + 4 * count_in s
  rising : never_fall s 0 (count_in s) ≡ true
  last : offset_in s (count_in s) ≡ length s

passed : (s : List ℕ) → is_block s ≡ true → Passed s
unfolding is_block
passed s h =
    let p = and_parts _ _ h in
    let q = and_parts _ _ p.1 in
    record { first = eqb-true _ _ p.0; rising = q.0; last = eqb-true _ _ q.1 }

module _ (s : List ℕ) (bytes : (k : ℕ) → get_or s k 0 < 256) (p : Passed s) where
  -- no offset falls below the one before it
  never_fall_holds : (n j : ℕ) → j + n ≡ count_in s → never_fall s j n ≡ true
  unfolding never_fall
  never_fall_holds n zero e = let f : n ≡ count_in s = omega arith in rw f p.rising
  never_fall_holds n (suc j) e = rw (← add-one j) (and_parts (leb (offset_in s j) (offset_in s (j + 1))) _ (never_fall_holds (suc n) j (omega arith))).1

  rises : (n j : ℕ) → j + suc n ≡ count_in s → offset_in s j ≤ offset_in s (j + 1)
  unfolding never_fall
  rises n j e = leb-true _ _ (and_parts _ _ (never_fall_holds (suc n) j e)).0

  -- so every payload begins inside the block, the first one too, and there is room for the offsets
  inside : (n j : ℕ) → j + n ≡ count_in s → offset_in s j ≤ length s
  inside zero j e = let f : j ≡ count_in s = omega arith in rw f (omega arith)
  inside (suc n) j e = omega (arith, rises n j e, inside n (j + 1) (omega arith))

  room : 6 + 4 * count_in s ≤ length s
  room = omega (arith, inside (count_in s) 0 (omega arith))

  -- of the n payloads from payload j on, up to the last: how many they are, that they are the rest of the block from where payload j begins,
  -- and that their offsets are what stands between the place of the first and the payloads
  length_payloads : (n j : ℕ) → length (payloads_in s j n) ≡ n
  unfolding payloads_in
  length_payloads zero j = refl
  length_payloads (suc n) j = ap suc (length_payloads n (j + 1))

  joined_rest : (n j : ℕ) → j + n ≡ count_in s → joined_up (payloads_in s j n) ≡ drop (offset_in s j) s
  unfolding joined_up payloads_in payload_in
  joined_rest zero j e = let f : j ≡ count_in s = omega arith in rw (f, p.last) (sym (drop-length s))
  joined_rest (suc n) j e =
      let size : ℕ = offset_in s (j + 1) - offset_in s j in
      let f : offset_in s j + size ≡ offset_in s (j + 1) = omega (arith, rises n j e) in
      rw (joined_rest n (j + 1) (omega arith)) (rw (drop-drop size (offset_in s j) s, f) at (take-append-drop size (drop (offset_in s j) s)))

  offsets_rest : (n j : ℕ) → j + n ≡ count_in s → offsets (offset_in s j) (payloads_in s j n) ++ drop (6 + 4 * count_in s) s ≡ drop (2 + 4 * j) s
  unfolding offsets payloads_in payload_in
  offsets_rest zero j e =
      let f : 6 + 4 * count_in s ≡ 2 + 4 * j + 4 = omega arith in
      rw f (be32_get s bytes (2 + 4 * j) (omega (arith, room)))
  offsets_rest (suc n) j e =
      let next : offset_in s j + length (payload_in s j) ≡ offset_in s (j + 1) = rw (length-take, length-drop) (omega (arith, rises n j e, inside n (j + 1) (omega arith))) in
      let f : 2 + 4 * (j + 1) ≡ 2 + 4 * j + 4 = omega arith in
      rw (next, append_assoc, offsets_rest n (j + 1) (omega arith), f) (be32_get s bytes (2 + 4 * j) (omega (arith, room)))

  whole : block_of (read_block s) ≡ s
  unfolding block_of read_block
  whole =
      let o = rw p.first at (offsets_rest (count_in s) 0 (omega arith)) in
      rw (length_payloads (count_in s) 0, joined_rest (count_in s) 0 (omega arith), p.first, o) (be16_get s bytes 0 (omega (arith, room)))

pub block_is_written : BlockIsWritten
unfolding BlockIsWritten
block_is_written s bytes h = whole s bytes (passed s h)

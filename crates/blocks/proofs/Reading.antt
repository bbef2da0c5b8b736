-- What is read out of a block is what it was made of, whatever stands behind it. Assumes nothing.
use mathlib.Core.Path.{◌≡◌, refl, ap, ◌∙◌}
use mathlib.Core.List.{List, [], ◌∷◌, ◌++◌, append_assoc}
use Prim.Native.Nat.{ℕ, suc, ◌+◌, ◌*◌, ◌-◌, ◌/◌, ◌%◌}
use native.Mathlib.Omega.{arith}
use lib.ListN.{length, get_or, drop, length-append}
use lib.Seq.{sets-eq, get_or-append-add, append_snoc, take_at, drop_at}
use Rattle.units.specs.Bytes.{get16_of, get32_of, be16, be32}
use Rattle.blocks.specs.Blocks.{offsets, joined_up, block_of}
use Rattle.blocks.specs.Reading.{payload_in, payloads_in, read_block, ReadsBack}
use Rattle.blocks.proofs.Appending.{length_be16, length_be32, length_offsets, joined_up_more}

-- ---- numbers in bytes

pub get16_append : (s t : List ℕ) (i : ℕ) → get16_of (s ++ t) (length s + i) ≡ get16_of t i
unfolding get16_of
get16_append s t i =
    let a : get_or (s ++ t) (length s + i) 0 ≡ get_or t i 0 = get_or-append-add s t i 0 in
    let b : get_or (s ++ t) (length s + i + 1) 0 ≡ get_or t (i + 1) 0 = ap (λ (n : ℕ). get_or (s ++ t) n 0) (omega arith) ∙ get_or-append-add s t (i + 1) 0 in
    rw (a, b)

pub get32_append : (s t : List ℕ) (i : ℕ) → get32_of (s ++ t) (length s + i) ≡ get32_of t i
unfolding get32_of
get32_append s t i =
    let b : get16_of (s ++ t) (length s + i + 2) ≡ get16_of t (i + 2) = ap (get16_of (s ++ t)) (omega arith) ∙ get16_append s t (i + 2) in
    rw (get16_append s t i, b)

pub get16_be16 : (v : ℕ) (t : List ℕ) → get16_of (be16 v ++ t) 0 ≡ v
unfolding get16_of be16
get16_be16 v t = omega arith

pub get32_be32 : (v : ℕ) (t : List ℕ) → get32_of (be32 v ++ t) 0 ≡ v
unfolding get32_of be32
get32_be32 v t =
    let a : get16_of (be16 (v / 65536) ++ (be16 (v % 65536) ++ t)) 0 ≡ v / 65536 = get16_be16 (v / 65536) (be16 (v % 65536) ++ t) in
    let b : get16_of (be16 (v / 65536) ++ (be16 (v % 65536) ++ t)) 2 ≡ v % 65536 = ap (get16_of (be16 (v / 65536) ++ (be16 (v % 65536) ++ t))) (omega (arith, length_be16 (v / 65536))) ∙ get16_append (be16 (v / 65536)) (be16 (v % 65536) ++ t) 0 ∙ get16_be16 (v % 65536) t in
    rw (append_assoc, a, b) (omega arith)

-- ---- offsets and payloads

pub joined_up_append : (ps qs : List (List ℕ)) → joined_up (ps ++ qs) ≡ joined_up ps ++ joined_up qs
unfolding joined_up
joined_up_append [] qs = refl
joined_up_append (p ∷ ps) qs = rw (joined_up_append ps qs, append_assoc)

-- the offset of what comes behind ps
pub get32_offsets : (at : ℕ) (ps qs : List (List ℕ)) (t : List ℕ) → get32_of (offsets at (ps ++ qs) ++ t) (4 * length ps) ≡ at + length (joined_up ps)
unfolding offsets joined_up
get32_offsets at [] [] t = rw (get32_be32 at t) (omega arith)
get32_offsets at [] (q ∷ qs) t = rw (append_assoc, get32_be32 at) (omega arith)
get32_offsets at (p ∷ ps) qs t =
    let e : 4 * suc (length ps) ≡ length (be32 at) + 4 * length ps = omega (arith, length_be32 at) in
    rw (append_assoc (be32 at), e, get32_append (be32 at), get32_offsets (at + length p) ps qs t, length-append p (joined_up ps)) (omega arith)

-- ---- the block

-- its parts, with what stands behind it
parts : (ps : List (List ℕ)) (t : List ℕ) → block_of ps ++ t ≡ be16 (length ps) ++ (offsets (6 + 4 * length ps) ps ++ (joined_up ps ++ t))
unfolding block_of
parts ps t = simp append_assoc

pub count : (ps : List (List ℕ)) (t : List ℕ) → get16_of (block_of ps ++ t) 0 ≡ length ps
count ps t = rw (parts ps t) (get16_be16 (length ps) _)

pub offset : (ps qs : List (List ℕ)) (t : List ℕ) → get32_of (block_of (ps ++ qs) ++ t) (2 + 4 * length ps) ≡ 6 + 4 * length (ps ++ qs) + length (joined_up ps)
offset ps qs t =
    let e : 2 + 4 * length ps ≡ length (be16 (length (ps ++ qs))) + 4 * length ps = omega (arith, length_be16 (length (ps ++ qs))) in
    rw (parts (ps ++ qs) t, e, get32_append (be16 (length (ps ++ qs)))) (get32_offsets (6 + 4 * length (ps ++ qs)) ps qs (joined_up (ps ++ qs) ++ t))

-- the offset of what comes behind ps and p
pub offset_next : (ps : List (List ℕ)) (p : List ℕ) (qs : List (List ℕ)) (t : List ℕ)
    → get32_of (block_of (ps ++ (p ∷ qs)) ++ t) (2 + 4 * (length ps + 1)) ≡ 6 + 4 * length (ps ++ (p ∷ qs)) + length (joined_up ps ++ p)
offset_next ps p qs t = rw (append_snoc ps p qs, length-append ps (p ∷ []), joined_up_more ps p) at (offset (ps ++ (p ∷ [])) qs t)

-- what stands from the offset of what comes behind ps on
behind : (ps qs : List (List ℕ)) (t : List ℕ) → drop (6 + 4 * length (ps ++ qs) + length (joined_up ps)) (block_of (ps ++ qs) ++ t) ≡ joined_up qs ++ t
behind ps qs t =
    let n : ℕ = length (ps ++ qs) in
    let o : List ℕ = offsets (6 + 4 * n) (ps ++ qs) in
    let e : block_of (ps ++ qs) ++ t ≡ (be16 n ++ (o ++ joined_up ps)) ++ (joined_up qs ++ t) = parts (ps ++ qs) t ∙ simp (joined_up_append ps qs, append_assoc) in
    let l : length (be16 n ++ (o ++ joined_up ps)) ≡ 6 + 4 * n + length (joined_up ps) =
    omega (arith, length-append (be16 n) (o ++ joined_up ps), length-append o (joined_up ps), length_be16 n, length_offsets (6 + 4 * n) (ps ++ qs)) in
    rw e (drop_at (be16 n ++ (o ++ joined_up ps)) (joined_up qs ++ t) _ l)

payload : (ps : List (List ℕ)) (p : List ℕ) (qs : List (List ℕ)) (t : List ℕ) → payload_in (block_of (ps ++ (p ∷ qs)) ++ t) (length ps) ≡ p
unfolding payload_in joined_up
payload ps p qs t =
    let a : get32_of (block_of (ps ++ (p ∷ qs)) ++ t) (2 + 4 * length ps) ≡ 6 + 4 * length (ps ++ (p ∷ qs)) + length (joined_up ps) = offset ps (p ∷ qs) t in
    let n : get32_of (block_of (ps ++ (p ∷ qs)) ++ t) (2 + 4 * (length ps + 1)) - get32_of (block_of (ps ++ (p ∷ qs)) ++ t) (2 + 4 * length ps) ≡ length p =
    omega (arith, a, offset_next ps p qs t, length-append (joined_up ps) p) in
    rw (n, a, behind ps (p ∷ qs) t, append_assoc) (take_at p (joined_up qs ++ t) (length p) refl)

rest : (ps qs : List (List ℕ)) (t : List ℕ) → payloads_in (block_of (ps ++ qs) ++ t) (length ps) (length qs) ≡ qs
unfolding payloads_in
rest ps [] t = refl
rest ps (q ∷ qs) t =
    let r = rw (append_snoc ps q qs, length-append ps (q ∷ [])) at (rest (ps ++ (q ∷ [])) qs t) in
    rw (payload ps q qs t, r)

-- what is read is what was written
pub read_block_holds : (ps : List (List ℕ)) (t : List ℕ) → read_block (block_of ps ++ t) ≡ ps
unfolding read_block
read_block_holds ps t = rw (count ps t) (rest [] ps t)

-- and so it is read out of memory that has room for it
pub reads_back : ReadsBack
reads_back l ps h = rw (sets-eq (block_of ps) l 0 (omega arith)) (read_block_holds ps (drop (0 + length (block_of ps)) l))

-- A block as it is written, payload by payload: one payload more behind the others, and how long each part is. Assumes nothing.
use mathlib.Core.Path.{◌≡◌, refl, sym, ap, ◌∙◌}
use mathlib.Core.List.{List, [], ◌∷◌, ◌++◌, append_assoc, append-nil}
use Prim.Native.Nat.{ℕ, zero, suc, ◌+◌, ◌*◌, ◌≤◌, ◌<◌}
use native.Mathlib.Numerals.{add-one}
use native.Mathlib.Omega.{arith}
use lib.ListN.{length, set, length-append}
use lib.Seq.{sets, set_comm, length-sets}
use Rattle.units.specs.Bytes.{be16, be32}
use Rattle.units.proofs.Runs.{sets_append}
use Rattle.window.specs.declared.Window.{Window}
use Rattle.blocks.specs.Blocks.{offsets, joined_up, block_of}
use Rattle.blocks.specs.Payloads.{payload_at, payloads}

-- ---- one payload more

pub offsets_more : (at : ℕ) (ps : List (List ℕ)) (p : List ℕ) → offsets at (ps ++ (p ∷ [])) ≡ offsets at ps ++ be32 (at + length (joined_up ps) + length p)
unfolding offsets joined_up
offsets_more at [] p = ap (λ (n : ℕ). be32 at ++ be32 n) (omega arith)
offsets_more at (q ∷ qs) p =
    let e : at + length q + length (joined_up qs) + length p ≡ at + length (q ++ joined_up qs) + length p = omega (arith, length-append q (joined_up qs)) in
    rw (offsets_more (at + length q) qs p, e, append_assoc)

pub joined_up_more : (ps : List (List ℕ)) (p : List ℕ) → joined_up (ps ++ (p ∷ [])) ≡ joined_up ps ++ p
unfolding joined_up
joined_up_more [] p = append-nil p
joined_up_more (q ∷ qs) p = rw (joined_up_more qs p, append_assoc)

-- ---- lengths

pub length_be16 : (v : ℕ) → length (be16 v) ≡ 2
unfolding be16
length_be16 v = refl

pub length_be32 : (v : ℕ) → length (be32 v) ≡ 4
unfolding be32 be16
length_be32 v = refl

pub length_offsets : (at : ℕ) (ps : List (List ℕ)) → length (offsets at ps) ≡ 4 + 4 * length ps
unfolding offsets
length_offsets at [] = length_be32 at
length_offsets at (p ∷ ps) = rw (length-append (be32 at) (offsets (at + length p) ps), length_be32 at, length_offsets (at + length p) ps) (omega arith)

pub length_block : (ps : List (List ℕ)) → length (block_of ps) ≡ 6 + 4 * length ps + length (joined_up ps)
unfolding block_of
length_block ps =
    omega (
      arith,
      length-append (be16 (length ps)) (offsets (6 + 4 * length ps) ps ++ joined_up ps),
      length-append (offsets (6 + 4 * length ps) ps) (joined_up ps),
      length_be16 (length ps),
      length_offsets (6 + 4 * length ps) ps,
    )

module _ (store b : List ℕ) (i place largest : ℕ) (w : Window) where
  pub length_payloads : (k : ℕ) → length (payloads store b i place largest w k) ≡ k
  unfolding payloads
  length_payloads zero = refl
  length_payloads (suc k) = rw (length-append (payloads store b i place largest w k) (payload_at store b i place largest w k ∷ []), length_payloads k) (omega arith)

  pub payloads_more : (k : ℕ) (p : List ℕ) → p ≡ payload_at store b i place largest w k → payloads store b i place largest w (k + 1) ≡ payloads store b i place largest w k ++ (p ∷ [])
  unfolding payloads
  payloads_more k p e = rw (add-one k, e)

-- ---- what stands in memory

-- runs that lie apart can be stored in either order
set_sets : (ys l : List ℕ) (i v j : ℕ) → i < j → sets (set l i v) j ys ≡ set (sets l j ys) i v
set_sets [] l i v j h = refl
set_sets (y ∷ ys) l i v j h = rw (set_comm l i j v y (omega arith)) (set_sets ys (set l j y) i v (suc j) (omega arith))

pub sets_apart : (xs ys l : List ℕ) (i j : ℕ) → i + length xs ≤ j → sets (sets l j ys) i xs ≡ sets (sets l i xs) j ys
sets_apart [] ys l i j h = refl
sets_apart (x ∷ xs) ys l i j h = rw (← set_sets ys l i x j (omega arith)) (sets_apart xs ys (set l i x) (suc i) j (omega arith))

-- the payloads so far are written and their offsets too, all but the last one's end
pub record Begun (at : ℕ) (ps : List (List ℕ)) (before after : List ℕ) (end j : ℕ) : Type 0 where
  pub many : length ps ≡ j
  pub fits : end ≤ at + 65535 * j
  pub ends : end ≡ at + length (joined_up ps)
  pub is : sets after (2 + 4 * j) (be32 end) ≡ sets (sets before 2 (offsets at ps)) at (joined_up ps)

pub begun_long : {at : ℕ} {ps : List (List ℕ)} {before after : List ℕ} {end j : ℕ} → Begun at ps before after end j → length after ≡ length before
begun_long {at} {ps} {before} {after} {end} {j} b =
    sym (length-sets after (2 + 4 * j) (be32 end)) ∙ ap length b.is ∙ length-sets (sets before 2 (offsets at ps)) at (joined_up ps) ∙ length-sets before 2 (offsets at ps)

-- one payload more
pub begun_more : {at : ℕ} {ps qs : List (List ℕ)} {before after y z : List ℕ} {end j : ℕ} (p : List ℕ)
    → Begun at ps before after end j
    → 10 + 4 * j ≤ at
    → length p < 65536
    → y ≡ sets after (2 + 4 * j) (be32 end)
    → z ≡ sets y end p
    → qs ≡ ps ++ (p ∷ [])
    → Begun at qs before z (end + length p) (j + 1)
begun_more {at} {ps} {qs} {before} {after} {y} {z} {end} {j} p b room short e f q =
    let n : ℕ = 2 + 4 * (j + 1) in
    let last : List ℕ = be32 (end + length p) in
    let o : List ℕ = sets before 2 (offsets at ps) in
    let g : at + length (joined_up ps) + length p ≡ end + length p = omega (arith, b.ends) in
    let h : 2 + length (offsets at ps) ≡ n = omega (arith, b.many, length_offsets at ps) in
    let l : length last ≡ 4 = length_be32 (end + length p) in
    let code : sets z n last ≡ sets (sets (sets o n last) at (joined_up ps)) end p =
    rw (f, e, b.is) (sets_apart last p (sets o at (joined_up ps)) n end (omega (arith, b.ends)) ∙ ap (λ (r : List ℕ). sets r end p) (sets_apart last (joined_up ps) o n at (omega arith))) in
    let block : sets (sets before 2 (offsets at qs)) at (joined_up qs) ≡ sets (sets (sets o n last) at (joined_up ps)) end p =
    rw (q, offsets_more at ps p, g, sets_append (offsets at ps) last before 2, h, joined_up_more ps p, sets_append (joined_up ps) p (sets o n last) at, ← b.ends) in
    record {
      many = ap length q ∙ length-append ps (p ∷ []) ∙ ap (λ (n : ℕ). n + 1) b.many;
      fits = omega (arith, b.fits);
      ends = rw (q, joined_up_more ps p, length-append (joined_up ps) p) (omega (arith, b.ends));
      is = code ∙ sym block;
    }

-- count, offsets and payloads, one after the other, are the block
pub sets_block : (l : List ℕ) (ps : List (List ℕ)) (k : ℕ) → length ps ≡ k
    → sets (sets (sets l 0 (be16 k)) 2 (offsets (6 + 4 * k) ps)) (6 + 4 * k) (joined_up ps) ≡ sets l 0 (block_of ps)
unfolding block_of
sets_block l ps k e =
    let f : 0 + length (be16 k) ≡ 2 = omega (arith, length_be16 k) in
    let g : 2 + length (offsets (6 + 4 * k) ps) ≡ 6 + 4 * k = omega (arith, e, length_offsets (6 + 4 * k) ps) in
    rw (e, sets_append (be16 k) (offsets (6 + 4 * k) ps ++ joined_up ps) l 0, f, sets_append (offsets (6 + 4 * k) ps) (joined_up ps) (sets l 0 (be16 k)) 2, g)

-- so it is once the last offset is written
pub begun_done : (l : List ℕ) {before after z : List ℕ} {ps : List (List ℕ)} {end k : ℕ}
    → Begun (6 + 4 * k) ps before after end k
    → before ≡ sets l 0 (be16 k)
    → z ≡ sets after (2 + 4 * k) (be32 end)
    → (end ≡ length (block_of ps)) × (z ≡ sets l 0 (block_of ps))
begun_done l {before} {after} {z} {ps} {end} {k} b e f =
    (omega (arith, b.ends, b.many, length_block ps), rw (f, b.is, e) (sets_block l ps k b.many))

-- the same of one payload
pub sets_one : (l p : List ℕ)
    → sets (sets (sets (sets l 0 (be16 1)) 2 (be32 10)) 6 (be32 (10 + length p))) 10 p ≡ sets l 0 (block_of (p ∷ []))
unfolding block_of offsets joined_up be32 be16
sets_one l p = rw (append-nil p)

pub length_one : (p : List ℕ) → length (block_of (p ∷ [])) ≡ 10 + length p
unfolding joined_up
length_one p = length_block (p ∷ []) ∙ rw (append-nil p)

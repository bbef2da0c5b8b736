-- Laws of items stored one after the other, `sets`: past the end, end to end, and what stands where afterwards.
-- Assumes nothing.
use mathlib.Core.Path.{◌≡◌, refl, sym, ap, ◌∙◌}
use mathlib.Core.List.{List, [], ◌∷◌, ◌++◌}
use Prim.Native.Nat.{ℕ, zero, suc, ◌+◌, ◌-◌, ◌≤◌, ◌<◌, min}
use native.Mathlib.Nat.{add-zero, add-suc, suc-add}
use native.Mathlib.Numerals.{add-one}
use native.Mathlib.Decide.{dec_le}
use native.Mathlib.Omega.{arith}
use lib.ListN.{length, get_or, set, take, length-set, length-take, get_or-eq_default}
use lib.Seq.{sets, set_out, get_or-set_same, get_or-set_other, take-suc, take_all}
use Rattle.units.specs.Bytes.{get16_of, get32_of}

-- a number past the end
pub far16 : (s : List ℕ) (i : ℕ) → length s ≤ i → get16_of s i ≡ 0
unfolding get16_of
far16 s i h =
    let a : get_or s i 0 ≡ 0 = get_or-eq_default s 0 h in
    let b : get_or s (i + 1) 0 ≡ 0 = get_or-eq_default s 0 (omega arith) in
    rw (a, b)

pub far32 : (s : List ℕ) (i : ℕ) → length s ≤ i → get32_of s i ≡ 0
unfolding get32_of
far32 s i h = rw (far16 s i h, far16 s (i + 2) (omega arith))

-- past the end nothing alters
pub sets_out : {A : Type 0} (vs l : List A) (i : ℕ) → length l ≤ i → sets l i vs ≡ l
sets_out [] l i h = refl
sets_out (v ∷ vs) l i h = rw (set_out l i v h) (sets_out vs l (suc i) (omega arith))

-- two runs, one after the other
pub sets_append : {A : Type 0} (xs ys l : List A) (i : ℕ) → sets l i (xs ++ ys) ≡ sets (sets l i xs) (i + length xs) ys
sets_append [] ys l i = rw (add-zero i)
sets_append (x ∷ xs) ys l i = sets_append xs ys (set l i x) (suc i) ∙ ap (λ (k : ℕ). sets (sets (set l i x) (suc i) xs) k ys) (suc-add i (length xs) ∙ sym (add-suc i (length xs)))

-- one element more of a run
pub sets_more : {A : Type 0} (vs l : List A) (i k : ℕ) (d : A) → k < length vs
    → set (sets l i (take k vs)) (i + k) (get_or vs k d) ≡ sets l i (take (k + 1) vs)
sets_more vs l i k d h =
    let e : length (take k vs) ≡ k = rw (length-take k vs) (omega arith) in
    rw (add-one, take-suc vs k d h, sets_append (take k vs) (get_or vs k d ∷ []) l i, e)

-- what does not fit is not stored
pub sets_clip : {A : Type 0} (vs l : List A) (i n : ℕ) → length l ≤ i + n → sets l i (take n vs) ≡ sets l i vs
sets_clip [] l i zero h = refl
sets_clip [] l i (suc n) h = refl
sets_clip (v ∷ vs) l i zero h = sym (sets_out (v ∷ vs) l i (omega arith))
sets_clip (v ∷ vs) l i (suc n) h = sets_clip vs (set l i v) (suc i) n (rw (length-set l i v) (omega arith))

-- outside the run an element stays
pub get_d_sets_before : (vs l : List ℕ) (i k d : ℕ) → k < i → get_or (sets l i vs) k d ≡ get_or l k d
get_d_sets_before [] l i k d h = refl
get_d_sets_before (v ∷ vs) l i k d h = get_d_sets_before vs (set l i v) (suc i) k d (omega arith) ∙ get_or-set_other l i k v d (omega arith)

pub get_d_sets_after : (vs l : List ℕ) (i k d : ℕ) → i + length vs ≤ k → get_or (sets l i vs) k d ≡ get_or l k d
get_d_sets_after [] l i k d h = refl
get_d_sets_after (v ∷ vs) l i k d h = get_d_sets_after vs (set l i v) (suc i) k d (omega arith) ∙ get_or-set_other l i k v d (omega arith)

-- inside it stands what was stored
pub get_d_sets_at : (vs l : List ℕ) (i k d : ℕ) → k < length vs → i + k < length l → get_or (sets l i vs) (i + k) d ≡ get_or vs k d
get_d_sets_at [] l i k d h f = absurd (omega arith)
get_d_sets_at (v ∷ vs) l i zero d h f = rw (add-zero i) (get_d_sets_before vs (set l i v) (suc i) i d (omega arith) ∙ get_or-set_same l i v d (omega arith))
get_d_sets_at (v ∷ vs) l i (suc k) d h f =
    ap (λ (n : ℕ). get_or (sets (set l i v) (suc i) vs) n d) (add-suc i k ∙ sym (suc-add i k))
    ∙ get_d_sets_at vs (set l i v) (suc i) k d (omega arith) (rw (length-set l i v) (omega arith))

-- a run that ends with the bytes or with the room is the whole
pub sets_whole : {A : Type 0} (s bs : List A) (i k : ℕ) → i ≤ length s → min (length s - i) (length bs) ≤ k → sets s i (take k bs) ≡ sets s i bs
sets_whole s bs i k f h = sides (dec_le (length bs) k)
  where
    sides : Dec (length bs ≤ k) → sets s i (take k bs) ≡ sets s i bs
    sides (yes l) = ap (sets s i) (take_all k bs l)
    sides (no l) = sets_clip bs s i k (omega arith)

-- Lists of what waits: members, one taken out, an entry's share. Assumes nothing.
use Prim.Native.Nat.{ℕ, ◌<◌}
use mathlib.Core.Path.{◌≡◌, refl, sym, ap, ◌∙◌}
use mathlib.Core.Logic.{◌≢◌, ◌⊎◌, inl, inr}
use mathlib.Core.Bool.{Bool, true, false}
use mathlib.Core.List.Memᴰ
use mathlib.Core.List.{List, [], ◌∷◌, ◌++◌, Memᴰ}
use native.Mathlib.Omega.{arith}
use lib.Dec.{eqb}
use borrow.Author.Tests.{eq-eqb, ne_eqb, eqb-true, eqb-false}
use Rattle.units.specs.Refusals.{pick}
use Rattle.waiting.specs.Order.{Out, Below, Distinct}
use Rattle.waiting.proofs.Linked.{last, first}
use Rattle.memory.specs.Layout.{owner_of}
use Rattle.good.specs.Good.{mine}

-- ---- members

pub out_mem : (x : ℕ) (ys : List ℕ) → Out x ys → Memᴰ x ys → ⊥
out_mem x [] o m = Memᴰ.not-nil m
out_mem x (y ∷ ys) o m = sides (out_mem x ys o.1) (Memᴰ.cases_cons m)
  where
    sides : (Memᴰ x ys → ⊥) → (x ≡ y) ⊎ Memᴰ x ys → ⊥
    sides below (inl e) = o.0 e
    sides below (inr n) = below n

pub mem_out : (x : ℕ) (ys : List ℕ) → (Memᴰ x ys → ⊥) → Out x ys
mem_out x [] n = tt
mem_out x (y ∷ ys) n = (λ e. n (Memᴰ.head e), mem_out x ys (λ m. n (Memᴰ.tail m)))

pub below_mem : (n x : ℕ) (ys : List ℕ) → Below n ys → Memᴰ x ys → x < n
below_mem n x [] l m = absurd (Memᴰ.not-nil m)
below_mem n x (y ∷ ys) l m = sides (below_mem n x ys l.1) (Memᴰ.cases_cons m)
  where
    sides : (Memᴰ x ys → x < n) → (x ≡ y) ⊎ Memᴰ x ys → x < n
    sides below (inl e) = rw e l.0
    sides below (inr k) = below k

pub last_mem : (x : ℕ) (ys : List ℕ) → (last x ys ≡ x) ⊎ Memᴰ (last x ys) ys
last_mem x [] = inl refl
last_mem x (y ∷ ys) = sides (last_mem y ys)
  where
    sides : (last y ys ≡ y) ⊎ Memᴰ (last y ys) ys → (last y ys ≡ x) ⊎ Memᴰ (last y ys) (y ∷ ys)
    sides (inl e) = inr (Memᴰ.head e)
    sides (inr m) = inr (Memᴰ.tail m)

pub first_mem : (zs : List ℕ) (q : ℕ) → (first zs q ≡ q) ⊎ Memᴰ (first zs q) zs
first_mem [] q = inl refl
first_mem (z ∷ zs) q = inr (Memᴰ.head refl)

-- where a member stands
pub record Split (x : ℕ) (xs : List ℕ) : Type 0 where
  pub before : List ℕ
  pub after : List ℕ
  pub parts : xs ≡ before ++ (x ∷ after)

pub split : (x : ℕ) (xs : List ℕ) → Memᴰ x xs → Split x xs
split x [] m = absurd (Memᴰ.not-nil m)
split x (y ∷ ys) m = sides (split x ys) (Memᴰ.cases_cons m)
  where
    sides : (Memᴰ x ys → Split x ys) → (x ≡ y) ⊎ Memᴰ x ys → Split x (y ∷ ys)
    sides below (inl e) = record { before = []; after = ys; parts = ap (λ (z : ℕ). z ∷ ys) (sym e) }
    sides below (inr n) = let s = below n in record { before = y ∷ s.before; after = s.after; parts = ap (λ (l : List ℕ). y ∷ l) s.parts }

-- a member of distinct ones stands once
pub distinct_mid : (x : ℕ) (ys zs : List ℕ) → Distinct (ys ++ (x ∷ zs)) → Out x ys × Out x zs
distinct_mid x [] zs d = (tt, d.0)
distinct_mid x (y ∷ ys) zs d =
    let p = distinct_mid x ys zs d.1 in
    ((λ e. out_mem y (ys ++ (x ∷ zs)) d.0 (Memᴰ.append_right ys (Memᴰ.head (sym e))), p.0), p.1)

-- ---- one taken out

abbrev pub without : ℕ → List ℕ → List ℕ
without x [] = []
without x (y ∷ ys) = pick (eqb y x) (without x ys) (y ∷ without x ys)

pub without_out : (x : ℕ) (ys : List ℕ) → Out x ys → without x ys ≡ ys
without_out x [] o = refl
without_out x (y ∷ ys) o = rw (ne_eqb y x (λ e. o.0 (sym e)), without_out x ys o.1)

pub without_mid : (x : ℕ) (ys zs : List ℕ) → Out x ys → Out x zs → without x (ys ++ (x ∷ zs)) ≡ ys ++ zs
without_mid x [] zs oy oz = rw (eq-eqb x x refl, without_out x zs oz)
without_mid x (y ∷ ys) zs oy oz = rw (ne_eqb y x (λ e. oy.0 (sym e)), without_mid x ys zs oy.1 oz)

-- what is left of it
pub without_in : (x y : ℕ) (ys : List ℕ) → Memᴰ y (without x ys) → Memᴰ y ys × (y ≢ x)
without_in x y [] m = absurd (Memᴰ.not-nil m)
without_in x y (z ∷ zs) m = sides (without_in x y zs) (eqb z x) refl m
  where
    deeper : Memᴰ y zs × (y ≢ x) → Memᴰ y (z ∷ zs) × (y ≢ x)
    deeper p = (Memᴰ.tail p.0, p.1)

    here : (Memᴰ y (without x zs) → Memᴰ y zs × (y ≢ x)) → eqb z x ≡ false → (y ≡ z) ⊎ Memᴰ y (without x zs)
        → Memᴰ y (z ∷ zs) × (y ≢ x)
    here below n (inl e) = (Memᴰ.head e, λ h. eqb-false z x n (sym e ∙ h))
    here below n (inr k) = deeper (below k)

    sides : (Memᴰ y (without x zs) → Memᴰ y zs × (y ≢ x)) → (t : Bool) → eqb z x ≡ t → Memᴰ y (pick t (without x zs) (z ∷ without x zs)) → Memᴰ y (z ∷ zs) × (y ≢ x)
    sides below true e k = deeper (below k)
    sides below false e k = here below e (Memᴰ.cases_cons k)

pub without_keeps : (x y : ℕ) (ys : List ℕ) → Memᴰ y ys → y ≢ x → Memᴰ y (without x ys)
without_keeps x y [] m n = absurd (Memᴰ.not-nil m)
without_keeps x y (z ∷ zs) m n = sides (λ k. without_keeps x y zs k n) (eqb z x) refl (Memᴰ.cases_cons m)
  where
    sides : (Memᴰ y zs → Memᴰ y (without x zs)) → (t : Bool) → eqb z x ≡ t → (y ≡ z) ⊎ Memᴰ y zs → Memᴰ y (pick t (without x zs) (z ∷ without x zs))
    sides below true e (inl h) = absurd (n (h ∙ eqb-true z x e))
    sides below true e (inr k) = below k
    sides below false e (inl h) = Memᴰ.head h
    sides below false e (inr k) = Memᴰ.tail (below k)

-- ---- an entry's share

pub mine_in : (i x : ℕ) (xs : List ℕ) → Memᴰ x (mine i xs) → Memᴰ x xs × (owner_of x ≡ i)
mine_in i x [] m = absurd (Memᴰ.not-nil m)
mine_in i x (y ∷ ys) m = sides (mine_in i x ys) (eqb (owner_of y) i) refl m
  where
    deeper : Memᴰ x ys × (owner_of x ≡ i) → Memᴰ x (y ∷ ys) × (owner_of x ≡ i)
    deeper p = (Memᴰ.tail p.0, p.1)

    here : (Memᴰ x (mine i ys) → Memᴰ x ys × (owner_of x ≡ i)) → eqb (owner_of y) i ≡ true → (x ≡ y) ⊎ Memᴰ x (mine i ys)
        → Memᴰ x (y ∷ ys) × (owner_of x ≡ i)
    here below o (inl e) = (Memᴰ.head e, ap owner_of e ∙ eqb-true (owner_of y) i o)
    here below o (inr k) = deeper (below k)

    sides : (Memᴰ x (mine i ys) → Memᴰ x ys × (owner_of x ≡ i)) → (t : Bool) → eqb (owner_of y) i ≡ t → Memᴰ x (pick t (y ∷ mine i ys) (mine i ys)) → Memᴰ x (y ∷ ys) × (owner_of x ≡ i)
    sides below true e k = here below e (Memᴰ.cases_cons k)
    sides below false e k = deeper (below k)

pub mine_all : (i x : ℕ) (xs : List ℕ) → Memᴰ x xs → owner_of x ≡ i → Memᴰ x (mine i xs)
mine_all i x [] m o = absurd (Memᴰ.not-nil m)
mine_all i x (y ∷ ys) m o = sides (λ k. mine_all i x ys k o) (eqb (owner_of y) i) refl (Memᴰ.cases_cons m)
  where
    sides : (Memᴰ x ys → Memᴰ x (mine i ys)) → (t : Bool) → eqb (owner_of y) i ≡ t → (x ≡ y) ⊎ Memᴰ x ys → Memᴰ x (pick t (y ∷ mine i ys) (mine i ys))
    sides below true e (inl h) = Memᴰ.head h
    sides below true e (inr k) = Memᴰ.tail (below k)
    sides below false e (inl h) = absurd (eqb-false (owner_of y) i e (ap owner_of (sym h) ∙ o))
    sides below false e (inr k) = below k

pub mine_append : (i : ℕ) (xs ys : List ℕ) → mine i (xs ++ ys) ≡ mine i xs ++ mine i ys
mine_append i [] ys = refl
mine_append i (x ∷ xs) ys = sides (mine_append i xs ys) (eqb (owner_of x) i)
  where
    sides : mine i (xs ++ ys) ≡ mine i xs ++ mine i ys → (t : Bool) → pick t (x ∷ mine i (xs ++ ys)) (mine i (xs ++ ys)) ≡ pick t (x ∷ mine i xs) (mine i xs) ++ mine i ys
    sides below true = ap (λ (l : List ℕ). x ∷ l) below
    sides below false = below

pub mine_own : (i x : ℕ) → owner_of x ≡ i → mine i (x ∷ []) ≡ x ∷ []
mine_own i x o = rw (eq-eqb (owner_of x) i o)

pub mine_other : (i x : ℕ) → owner_of x ≢ i → mine i (x ∷ []) ≡ []
mine_other i x o = rw (ne_eqb (owner_of x) i o)

-- taking out commutes with the share, and leaves another's
pub mine_without : (i x : ℕ) (xs : List ℕ) → mine i (without x xs) ≡ without x (mine i xs)
mine_without i x [] = refl
mine_without i x (y ∷ ys) = sides (mine_without i x ys) (eqb y x) (eqb (owner_of y) i) refl refl
  where
    sides : mine i (without x ys) ≡ without x (mine i ys) → (t u : Bool) → eqb y x ≡ t → eqb (owner_of y) i ≡ u
        → mine i (pick t (without x ys) (y ∷ without x ys)) ≡ without x (pick u (y ∷ mine i ys) (mine i ys))
    sides below true true e o = rw e below
    sides below true false e o = below
    sides below false true e o = rw (e, o) (ap (λ (l : List ℕ). y ∷ l) below)
    sides below false false e o = rw o below

pub mine_apart : (i x : ℕ) (xs : List ℕ) → owner_of x ≢ i → mine i (without x xs) ≡ mine i xs
mine_apart i x xs n = mine_without i x xs ∙ without_out x (mine i xs) (mem_out x (mine i xs) (λ m. n (mine_in i x xs m).1))

-- ---- what is not entry i's, in its order

abbrev pub rest : ℕ → List ℕ → List ℕ
rest i [] = []
rest i (x ∷ xs) = pick (eqb (owner_of x) i) (rest i xs) (x ∷ rest i xs)

pub rest_append : (i : ℕ) (xs ys : List ℕ) → rest i (xs ++ ys) ≡ rest i xs ++ rest i ys
rest_append i [] ys = refl
rest_append i (x ∷ xs) ys = sides (rest_append i xs ys) (eqb (owner_of x) i)
  where
    sides : rest i (xs ++ ys) ≡ rest i xs ++ rest i ys → (t : Bool) → pick t (rest i (xs ++ ys)) (x ∷ rest i (xs ++ ys)) ≡ pick t (rest i xs) (x ∷ rest i xs) ++ rest i ys
    sides below true = below
    sides below false = ap (λ (l : List ℕ). x ∷ l) below

pub rest_own : (i x : ℕ) → owner_of x ≡ i → rest i (x ∷ []) ≡ []
rest_own i x o = rw (eq-eqb (owner_of x) i o)

pub rest_without : (i x : ℕ) (xs : List ℕ) → owner_of x ≡ i → rest i (without x xs) ≡ rest i xs
rest_without i x [] o = refl
rest_without i x (y ∷ ys) o = sides (rest_without i x ys o) (eqb y x) refl
  where
    sides : rest i (without x ys) ≡ rest i ys → (t : Bool) → eqb y x ≡ t → rest i (pick t (without x ys) (y ∷ without x ys)) ≡ pick (eqb (owner_of y) i) (rest i ys) (y ∷ rest i ys)
    sides below true e = rw (eq-eqb (owner_of y) i (ap owner_of (eqb-true y x e) ∙ o)) below
    sides below false e = rw below

-- where nothing is entry i's that is all
pub rest_all : (i : ℕ) (xs : List ℕ) → mine i xs ≡ [] → rest i xs ≡ xs
rest_all i [] h = refl
rest_all i (x ∷ xs) h = sides (rest_all i xs) (eqb (owner_of x) i) h
  where
    sides : (mine i xs ≡ [] → rest i xs ≡ xs) → (t : Bool) → pick t (x ∷ mine i xs) (mine i xs) ≡ [] → pick t (rest i xs) (x ∷ rest i xs) ≡ x ∷ xs
    sides below true e = absurd (let z : ◌≡◌ {A = ℕ} 0 1 = cc in omega arith)
    sides below false e = ap (λ (l : List ℕ). x ∷ l) (below e)

pub rest_in : (i x : ℕ) (xs : List ℕ) → Memᴰ x (rest i xs) → Memᴰ x xs × (owner_of x ≢ i)
rest_in i x [] m = absurd (Memᴰ.not-nil m)
rest_in i x (y ∷ ys) m = sides (rest_in i x ys) (eqb (owner_of y) i) refl m
  where
    deeper : Memᴰ x ys × (owner_of x ≢ i) → Memᴰ x (y ∷ ys) × (owner_of x ≢ i)
    deeper p = (Memᴰ.tail p.0, p.1)

    here : (Memᴰ x (rest i ys) → Memᴰ x ys × (owner_of x ≢ i)) → eqb (owner_of y) i ≡ false → (x ≡ y) ⊎ Memᴰ x (rest i ys)
        → Memᴰ x (y ∷ ys) × (owner_of x ≢ i)
    here below e (inl z) = (Memᴰ.head z, λ o. eqb-false (owner_of y) i e (ap owner_of (sym z) ∙ o))
    here below e (inr k) = deeper (below k)

    sides : (Memᴰ x (rest i ys) → Memᴰ x ys × (owner_of x ≢ i)) → (t : Bool) → eqb (owner_of y) i ≡ t → Memᴰ x (pick t (rest i ys) (y ∷ rest i ys))
        → Memᴰ x (y ∷ ys) × (owner_of x ≢ i)
    sides below true e k = deeper (below k)
    sides below false e k = here below e (Memᴰ.cases_cons k)

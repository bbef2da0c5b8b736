-- What stands at a place of a list, and after one was put anew or the first were dropped. Assumes nothing.
use Prim.Native.Nat.{ℕ, zero, suc, ◌+◌, ◌<◌, ◌≤◌}
use mathlib.Core.Path.{◌≡◌, refl, sym, ap, ◌∙◌}
use mathlib.Core.Logic.{◌≢◌}
use mathlib.Core.Option.{none, some}
use mathlib.Core.List.{List, [], ◌∷◌, Memᴰ}
use native.Mathlib.Omega.{arith}
use lib.ListN.{length, get_or, drop, get_elem?, set}

-- none and some are never equal
pub not_none : {A B : Type 0} {a : A} → none ≡ some a → B
not_none h = absurd (let z : ◌≡◌ {A = ℕ} 0 1 = cc in omega arith)

module _ {A : Type 0} where
  pub elem_there : (l : List A) (i : ℕ) → i < length l → (a : A) × (get_elem? l i ≡ some a)
  elem_there [] i h = absurd (omega arith)
  elem_there (x ∷ xs) zero h = (x, refl)
  elem_there (x ∷ xs) (suc i) h = elem_there xs i (omega arith)

  pub elem_lt : (l : List A) (i : ℕ) {a : A} → get_elem? l i ≡ some a → i < length l
  elem_lt [] i h = not_none h
  elem_lt (x ∷ xs) zero h = omega arith
  elem_lt (x ∷ xs) (suc i) h = omega (arith, elem_lt xs i h)

  pub elem_past : (l : List A) (i : ℕ) → length l ≤ i → get_elem? l i ≡ none
  elem_past [] i h = refl
  elem_past (x ∷ xs) zero h = absurd (omega arith)
  elem_past (x ∷ xs) (suc i) h = elem_past xs i (omega arith)

  pub elem_get_d : (l : List A) (i : ℕ) (d : A) {a : A} → get_elem? l i ≡ some a → get_or l i d ≡ a
  elem_get_d [] i d h = not_none h
  elem_get_d (x ∷ xs) zero d h = cc
  elem_get_d (x ∷ xs) (suc i) d h = elem_get_d xs i d h

  pub get_d_elem : (l : List A) (i : ℕ) (d : A) → i < length l → get_elem? l i ≡ some (get_or l i d)
  get_d_elem l i d h = let t = elem_there l i h in t.1 ∙ ap some (sym (elem_get_d l i d t.1))

  pub elem_set_same : (l : List A) (i : ℕ) (a : A) → i < length l → get_elem? (set l i a) i ≡ some a
  elem_set_same [] i a h = absurd (omega arith)
  elem_set_same (x ∷ xs) zero a h = refl
  elem_set_same (x ∷ xs) (suc i) a h = elem_set_same xs i a (omega arith)

  pub elem_set_other : (l : List A) (i j : ℕ) (a : A) → j ≢ i → get_elem? (set l i a) j ≡ get_elem? l j
  elem_set_other [] i j a h = refl
  elem_set_other (x ∷ xs) zero zero a h = absurd (h refl)
  elem_set_other (x ∷ xs) zero (suc j) a h = refl
  elem_set_other (x ∷ xs) (suc i) zero a h = refl
  elem_set_other (x ∷ xs) (suc i) (suc j) a h = elem_set_other xs i j a (λ e. h (omega arith))

  pub set_same : (l : List A) (i : ℕ) {a : A} → get_elem? l i ≡ some a → set l i a ≡ l
  set_same [] i h = refl
  set_same (x ∷ xs) zero {a} h = let z : a ≡ x = cc in ap (λ (y : A). y ∷ xs) z
  set_same (x ∷ xs) (suc i) h = ap (λ (l : List A). x ∷ l) (set_same xs i h)

  pub elem_drop : (n : ℕ) (l : List A) (i : ℕ) → get_elem? (drop n l) i ≡ get_elem? l (n + i)
  elem_drop zero l i = let z : i ≡ 0 + i = omega arith in ap (get_elem? l) z
  elem_drop (suc n) [] i = refl
  elem_drop (suc n) (x ∷ xs) i = let z : suc n + i ≡ suc (n + i) = omega arith in rw z (elem_drop n xs i)

  pub elem_in : (l : List A) (i : ℕ) {a : A} → get_elem? l i ≡ some a → Memᴰ a l
  elem_in [] i h = not_none h
  elem_in (x ∷ xs) zero {a} h = let z : a ≡ x = cc in Memᴰ.head z
  elem_in (x ∷ xs) (suc i) h = Memᴰ.tail (elem_in xs i h)

-- What waits: sorts are told apart by their rank; and laws of what is left of a list without some of it. Assumes nothing.
use Prim.Native.Nat.{ℕ, zero, suc, ◌<◌}
use mathlib.Core.Path.{◌≡◌, refl, sym, ap, ◌∙◌}
use mathlib.Core.Logic.{◌≢◌, ◌⊎◌, inl, inr}
use mathlib.Core.Bool.{Bool, true, false, not, ◌||◌, or-true}
use mathlib.Core.List.Memᴰ
use mathlib.Core.List.{List, [], ◌∷◌, ◌++◌, Memᴰ}
use native.Mathlib.Omega.{arith}
use lib.Dec.{eqb}
use borrow.Author.Tests.{eq-eqb, ne_eqb, eqb-true}
use Rattle.units.specs.Refusals.{pick}
use Rattle.machine.specs.Machine.{End, Item, Sort, acks, resets, urgents, resends, datas, Machine, node, rank, waits, without}
use Rattle.machine.specs.Laws.{share_of, WaitsLast}

-- ---- sorts

pub sort_of : ℕ → Sort
sort_of zero = acks
sort_of (suc zero) = resets
sort_of (suc (suc zero)) = urgents
sort_of (suc (suc (suc zero))) = resends
sort_of (suc (suc (suc (suc n)))) = datas

pub sort_of_rank : (q : Sort) → sort_of (rank q) ≡ q
unfolding sort_of
sort_of_rank acks = refl
sort_of_rank resets = refl
sort_of_rank urgents = refl
sort_of_rank resends = refl
sort_of_rank datas = refl

pub rank_of_sort : (k : ℕ) → k < 5 → rank (sort_of k) ≡ k
unfolding sort_of
rank_of_sort zero h = refl
rank_of_sort (suc zero) h = refl
rank_of_sort (suc (suc zero)) h = refl
rank_of_sort (suc (suc (suc zero))) h = refl
rank_of_sort (suc (suc (suc (suc n)))) h = omega arith

pub rank_low : (q : Sort) → rank q < 5
rank_low acks = omega arith
rank_low resets = omega arith
rank_low urgents = omega arith
rank_low resends = omega arith
rank_low datas = omega arith

pub rank_same : (q : Sort) → eqb (rank q) (rank q) ≡ true
rank_same q = eq-eqb (rank q) (rank q) refl

same_rank : (r q : Sort) → rank r ≡ rank q → r ≡ q
same_rank r q h = sym (sort_of_rank r) ∙ ap sort_of h ∙ sort_of_rank q

pub rank_is : (r q : Sort) → eqb (rank r) (rank q) ≡ true → r ≡ q
rank_is r q h = same_rank r q (eqb-true (rank r) (rank q) h)

pub rank_other : (r q : Sort) → r ≢ q → eqb (rank r) (rank q) ≡ false
rank_other r q d = ne_eqb (rank r) (rank q) (λ h. d (same_rank r q h))

-- ---- without some

pub without_append : (test : Item → Bool) (xs ys : List Item) → without test (xs ++ ys) ≡ without test xs ++ without test ys
unfolding without
without_append test [] ys = refl
without_append test (x ∷ xs) ys = sides (test x) (without_append test xs ys)
  where
    sides : (b : Bool) → without test (xs ++ ys) ≡ without test xs ++ without test ys
        → pick b (without test (xs ++ ys)) (x ∷ without test (xs ++ ys)) ≡ pick b (without test xs) (x ∷ without test xs) ++ without test ys
    sides true h = h
    sides false h = ap (λ (l : List Item). x ∷ l) h

pub without_ext : (f g : Item → Bool) (xs : List Item) → ((x : Item) → Memᴰ x xs → f x ≡ g x) → without f xs ≡ without g xs
unfolding without
without_ext f g [] h = refl
without_ext f g (x ∷ xs) h = rw (h x (Memᴰ.head refl), without_ext f g xs (λ y m. h y (Memᴰ.tail m)))

pub without_none : (test : Item → Bool) (xs : List Item) → ((x : Item) → Memᴰ x xs → test x ≡ false) → without test xs ≡ xs
unfolding without
without_none test [] h = refl
without_none test (x ∷ xs) h = rw (h x (Memᴰ.head refl), without_none test xs (λ y m. h y (Memᴰ.tail m)))

pub without_all : (test : Item → Bool) (xs : List Item) → ((x : Item) → Memᴰ x xs → test x ≡ true) → without test xs ≡ []
unfolding without
without_all test [] h = refl
without_all test (x ∷ xs) h = rw (h x (Memᴰ.head refl), without_all test xs (λ y m. h y (Memᴰ.tail m)))

pub without_twice : (f g : Item → Bool) (xs : List Item) → without g (without f xs) ≡ without (λ x. f x || g x) xs
unfolding without
without_twice f g [] = refl
without_twice f g (x ∷ xs) = sides (f x) (g x) refl (without_twice f g xs)
  where
    sides : (a b : Bool) → g x ≡ b → without g (without f xs) ≡ without (λ x. f x || g x) xs
        → without g (pick a (without f xs) (x ∷ without f xs)) ≡ pick (a || b) (without (λ x. f x || g x) xs) (x ∷ without (λ x. f x || g x) xs)
    sides true b e h = h
    sides false true e h = rw e h
    sides false false e h = rw e (ap (λ (l : List Item). x ∷ l) h)

-- ---- an entry's share

-- is untouched where none of its own goes
pub share_kept : (test : Item → Bool) (i : ℕ) (xs : List Item) → ((x : Item) → x.entry ≡ i → test x ≡ false) → share_of i (without test xs) ≡ share_of i xs
share_kept test i xs h = without_twice test (λ x. not (eqb x.entry i)) xs ∙ without_ext _ _ xs (λ x m. sides x (eqb x.entry i) refl)
  where
    sides : (x : Item) (b : Bool) → eqb x.entry i ≡ b → (test x || not b) ≡ not b
    sides x true e = rw (h x (eqb-true x.entry i e))
    sides x false e = or-true (test x)

-- is empty where all of its own went
pub share_gone : (test : Item → Bool) (i : ℕ) (xs : List Item) → ((x : Item) → x.entry ≡ i → test x ≡ true) → share_of i (without test xs) ≡ []
share_gone test i xs h = without_twice test (λ x. not (eqb x.entry i)) xs ∙ without_all _ xs (λ x m. sides x (eqb x.entry i) refl)
  where
    sides : (x : Item) (b : Bool) → eqb x.entry i ≡ b → (test x || not b) ≡ true
    sides x true e = rw (h x (eqb-true x.entry i e))
    sides x false e = or-true (test x)

-- of items that are all its own, or none
pub share_own : (i : ℕ) (xs : List Item) → ((x : Item) → Memᴰ x xs → x.entry ≡ i) → share_of i xs ≡ xs
share_own i xs h = without_none _ xs (λ x m. rw (eq-eqb x.entry i (h x m)))

pub share_other : (i : ℕ) (xs : List Item) → ((x : Item) → Memᴰ x xs → x.entry ≢ i) → share_of i xs ≡ []
share_other i xs h = without_all _ xs (λ x m. rw (ne_eqb x.entry i (h x m)))

-- ---- what is left was there

pub without_in : (test : Item → Bool) (xs : List Item) (x : Item) → Memᴰ x (without test xs) → Memᴰ x xs
unfolding without
without_in test [] x h = h
without_in test (y ∷ ys) x h = sides (test y) (without_in test ys x) h
  where
    first : (Memᴰ x (without test ys) → Memᴰ x ys) → (x ≡ y) ⊎ Memᴰ x (without test ys) → Memᴰ x (y ∷ ys)
    first below (inl z) = Memᴰ.head z
    first below (inr z) = Memᴰ.tail (below z)

    sides : (b : Bool) → (Memᴰ x (without test ys) → Memᴰ x ys) → Memᴰ x (pick b (without test ys) (y ∷ without test ys)) → Memᴰ x (y ∷ ys)
    sides true below z = Memᴰ.tail (below z)
    sides false below z = first below (Memᴰ.cases_cons z)

-- ---- one more waits

pub waits_last : (m : Machine) (es : List End) (q : Sort) (i s : ℕ) → WaitsLast m (waits q i s (node m es m.waiting)) q i s
waits_last m es q i s = record { last = rw (rank_same q); others = λ r d. rw (rank_other r q d) }

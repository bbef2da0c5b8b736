-- The acknowledgements that wait for an entry, out of all that wait. Assumes nothing.
use Prim.Native.Nat.{ℕ}
use mathlib.Core.Path.{◌≡◌, refl, sym, ap, ◌∙◌}
use mathlib.Core.Bool.{Bool, true, false, not}
use mathlib.Core.List.{List, [], ◌∷◌, ◌++◌}
use lib.Dec.{eqb}
use borrow.Author.Tests.{eq-eqb}
use Rattle.units.specs.Refusals.{pick}
use Rattle.machine.specs.Machine.{Item, without}
use Rattle.machine.specs.Laws.{share_of}
use Rattle.machine.proofs.Items.{share_gone}
use Rattle.promise.specs.Link.{owed_to}

module _ (j : ℕ) where
  owed_append : (xs ys : List Item) → owed_to j (xs ++ ys) ≡ owed_to j xs ++ owed_to j ys
  owed_append [] ys = refl
  owed_append (x ∷ xs) ys = sides (eqb x.entry j) (owed_append xs ys)
    where
      sides : (b : Bool) → owed_to j (xs ++ ys) ≡ owed_to j xs ++ owed_to j ys
          → pick b (x.number ∷ owed_to j (xs ++ ys)) (owed_to j (xs ++ ys))
          ≡ pick b (x.number ∷ owed_to j xs) (owed_to j xs) ++ owed_to j ys
      sides true h = ap (λ (l : List ℕ). x.number ∷ l) h
      sides false h = h

  -- one more of its own
  pub owed_own : (xs : List Item) (s : ℕ)
      → owed_to j (xs ++ (record { entry = j; number = s } ∷ [])) ≡ owed_to j xs ++ (s ∷ [])
  owed_own xs s = owed_append xs (record { entry = j; number = s } ∷ []) ∙ rw (eq-eqb j j refl)

  -- by its share alone
  pub owed_share : (xs : List Item) → owed_to j (share_of j xs) ≡ owed_to j xs
  unfolding without
  owed_share [] = refl
  owed_share (x ∷ xs) = sides (eqb x.entry j) refl (owed_share xs)
    where
      sides : (b : Bool) → eqb x.entry j ≡ b → owed_to j (share_of j xs) ≡ owed_to j xs
          → owed_to j (pick (not b) (share_of j xs) (x ∷ share_of j xs)) ≡ pick b (x.number ∷ owed_to j xs) (owed_to j xs)
      sides true q h = rw q (ap (λ (l : List ℕ). x.number ∷ l) h)
      sides false q h = h

  -- without all of its own
  pub owed_gone : (xs : List Item) → owed_to j (without (λ x. eqb x.entry j) xs) ≡ []
  owed_gone xs =
      sym (owed_share (without (λ x. eqb x.entry j) xs))
      ∙ ap (owed_to j) (share_gone (λ x. eqb x.entry j) j xs (λ x h. eq-eqb x.entry j h))

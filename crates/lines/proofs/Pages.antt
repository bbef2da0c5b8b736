-- Laws of pages: where text goes, and numbers appended one after the other. Assumes nothing.
use mathlib.Core.Path.{◌≡◌, refl, ap, ◌∙◌}
use mathlib.Core.Bool.{Bool, true, false}
use mathlib.Core.List.{List, [], ◌∷◌, foldl-append}
use Prim.Native.Nat.{ℕ, ◌+◌, ◌≤◌, ◌<◌}
use native.Mathlib.Numerals.{add-one}
use native.Mathlib.Omega.{arith}
use borrow.Author.Tests.{leb-true}
use lib.Dec.{leb}
use lib.ListN.{length, get_or, take}
use lib.Seq.{take-suc, take_all}
use Rattle.units.specs.Refusals.{pick}
use Rattle.lines.specs.Lines.{Page, place_of, valued, valued_all}

-- text goes within the buffer
pub place_le : (size at n : ℕ) → place_of size at n ≤ size
place_le size at n = go (leb (at + n) size) refl
  where
    go : (b : Bool) → leb (at + n) size ≡ b → pick b at 0 ≤ size
    go true e = omega (arith, leb-true (at + n) size e)
    go false e = omega arith

-- what a loop over numbers keeps: `q` is `p` with the first i of them appended
pub record Begun (p : Page) (vs : List ℕ) (q : Page) (i : ℕ) : Type 0 where
  pub within : i ≤ length vs
  pub first : q ≡ valued_all p (take i vs)

module _ {p q : Page} {vs : List ℕ} {i : ℕ} (b : Begun p vs q i) where
  -- one number more
  pub more : {r : Page} → i < length vs → r ≡ valued q (get_or vs i 0) → Begun p vs r (i + 1)
  unfolding valued_all
  more h e = record {
    within = omega arith;
    first = rw (add-one, take-suc vs i 0 h, foldl-append valued p (take i vs) (get_or vs i 0 ∷ [])) (e ∙ ap (λ (x : Page). valued x (get_or vs i 0)) b.first);
  }

  -- all of them
  pub all : length vs ≤ i → q ≡ valued_all p vs
  all h = rw (take_all i vs h) at b.first

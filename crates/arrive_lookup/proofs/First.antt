-- Laws of `first_from`, the search for the first number that something holds of. Assumes nothing.
use Prim.Native.Nat.{ℕ, zero, suc, ◌+◌, ◌≤◌, ◌<◌}
use mathlib.Core.Bool.{Bool, true, false}
use mathlib.Core.Path.{◌≡◌, refl, subst}
use native.Mathlib.Decide.{ℕ_discrete}
use native.Mathlib.Omega.{arith}
use Rattle.units.specs.Refusals.{pick}
use Rattle.arrive_lookup.specs.Lookup.{first_from}

-- what is found is one of those it holds of
pub first_holds : (p : ℕ → Bool) (k n : ℕ) → first_from p k n < k + n → p (first_from p k n) ≡ true
unfolding first_from
first_holds p k zero h = absurd (omega arith)
first_holds p k (suc n) h = go (p k) refl (first_holds p (suc k) n) h
  where
    go : (b : Bool) → p k ≡ b → (first_from p (suc k) n < suc k + n → p (first_from p (suc k) n) ≡ true)
        → pick b k (first_from p (suc k) n) < k + suc n → p (pick b k (first_from p (suc k) n)) ≡ true
    go true e later h = e
    go false e later h = later (omega arith)

-- the first is found, or the end
pub first_is : (p : ℕ → Bool) (k n j : ℕ) → k ≤ j → j ≤ k + n → ((i : ℕ) → k ≤ i → i < j → p i ≡ false) → (j < k + n → p j ≡ true) → first_from p k n ≡ j
unfolding first_from
first_is p k zero j low high before here = omega arith
first_is p k (suc n) j low high before here = sides (ℕ_discrete k j) (λ l. first_is p (suc k) n j l (omega arith) (λ i a b. before i (omega arith) b) (λ l. here (omega arith)))
  where
    sides : Dec (k ≡ j) → (suc k ≤ j → first_from p (suc k) n ≡ j) → pick (p k) k (first_from p (suc k) n) ≡ j
    sides (yes e) later =
        let h : p k ≡ true = subst (λ (i : ℕ). p i ≡ true) (omega arith) (here (omega arith)) in
        rw h e
    sides (no d) later = rw (before k (omega arith) (omega arith)) (later (omega arith))

-- it depends on what holds of those that are looked at, and on nothing else
pub first_ext : (p q : ℕ → Bool) (k n : ℕ) → ((i : ℕ) → i < k + n → p i ≡ q i) → first_from p k n ≡ first_from q k n
unfolding first_from
first_ext p q k zero h = refl
first_ext p q k (suc n) h = rw (h k (omega arith), first_ext p q (suc k) n (λ i l. h i (omega arith)))

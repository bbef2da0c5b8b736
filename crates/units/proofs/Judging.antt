-- Laws of an ordered list of tests: what is known where it passes, and which test is the first to fit; and that a
-- refusal's number is not 0. Assumes nothing.
use mathlib.Core.Path.{◌≡◌, refl, sym, ap}
use mathlib.Core.Logic.Iff
use mathlib.Core.Logic.{◌≢◌, ◌↔◌}
use mathlib.Core.Bool.{Bool, true, false, not, ◌&&◌, true≢false}
use mathlib.Core.List.{List, [], ◌∷◌}
use Prim.Native.Nat.{ℕ, ◌≤◌, ◌<◌}
use native.Mathlib.Omega.{arith}
use borrow.Author.Tests.{ne_eqb, eqb-false, ltb-true}
use lib.Dec.{eqb, ltb}
use Rattle.std.proofs.lemmas.Bool.{and_parts, not-true}
use Rattle.units.specs.declared.refusals.Refusal.{Refusal}
use Rattle.units.specs.declared.refusals.Refusal.TheVariants as refusal
use Rattle.units.specs.Refusals.{number_of, pick, verdict, Verdict}
use Rattle.std.specs.Prelude.{Ok, Err}

-- no test fits
abbrev pub Clear : List (Bool × Refusal) → Type 0
Clear [] = Unit
Clear (t ∷ ts) = (t.0 ≡ false) × Clear ts

pick_passed : (b : Bool) (w : Refusal) (v : Verdict) → pick b (Err w) v ≡ Ok tt → (b ≡ false) × (v ≡ Ok tt)
pick_passed true w v h = let z : ◌≡◌ {A = ℕ} 0 1 = cc in absurd (omega arith)
pick_passed false w v h = (refl, h)

-- where the tests pass none fits
pub clear : (ts : List (Bool × Refusal)) → verdict ts ≡ Ok tt → Clear ts
clear [] h = tt
clear (t ∷ ts) h =
    let p = pick_passed t.0 t.1 (verdict ts) h in
    (p.0, clear ts p.1)

-- ---- a refusal's number is not 0

pub refused_some : (w : Refusal) → 1 ≤ number_of w
refused_some refusal.BadTable = omega arith
refused_some refusal.NoEntry = omega arith
refused_some refusal.OtherKind = omega arith
refused_some refusal.WrongState = omega arith
refused_some refusal.PayloadLength = omega arith
refused_some refusal.TooShort = omega arith
refused_some refusal.WindowFull = omega arith
refused_some refusal.RunFull = omega arith
refused_some refusal.UrgentWaits = omega arith
refused_some refusal.BadFrame = omega arith
refused_some refusal.NotOurs = omega arith
refused_some refusal.NoEndPoint = omega arith
refused_some refusal.AcksFull = omega arith
refused_some refusal.UnknownType = omega arith
refused_some refusal.UserBits = omega arith
refused_some refusal.LengthAgainstType = omega arith
refused_some refusal.WrongSequence = omega arith
refused_some refusal.UnderWay = omega arith
refused_some refusal.NoneUnderWay = omega arith
refused_some refusal.BadTrace = omega arith
refused_some refusal.BadBlock = omega arith

pub refused_not_zero : (w : Refusal) → eqb (number_of w) 0 ≡ false
refused_not_zero w = ne_eqb (number_of w) 0 (λ e. omega (arith, refused_some w))

-- ---- the first test that fits

-- refusals of different numbers are different
pub differ : (u w : Refusal) → eqb (number_of u) (number_of w) ≡ false → u ≢ w
differ u w h e = eqb-false (number_of u) (number_of w) h (ap number_of e)

-- a test before does not fit
pub passed_over : {A B : Type 0} (t : Bool × Refusal) (ts : List (Bool × Refusal)) (w : Refusal) → t.1 ≢ w
    → (t.0 ≡ false) ↔ A → (verdict ts ≡ Err w) ↔ B → (verdict (t ∷ ts) ≡ Err w) ↔ (A × B)
passed_over t ts w n p q = Iff.trans (sides t.0 (verdict ts)) (Iff.and p q)
  where
    sides : (b : Bool) (v : Verdict) → (pick b (Err t.1) v ≡ Err w) ↔ ((b ≡ false) × (v ≡ Err w))
    sides true v = (λ e. absurd (n cc), λ k. absurd (true≢false k.0))
    sides false v = (λ e. (refl, e), λ k. k.1)

-- no test of a list refuses with a number
abbrev pub lacks : ℕ → List (Bool × Refusal) → Bool
lacks n [] = true
lacks n (t ∷ ts) = not (eqb (number_of t.1) n) && lacks n ts

pub not_given : (ts : List (Bool × Refusal)) (w : Refusal) → lacks (number_of w) ts ≡ true → verdict ts ≢ Err w
not_given [] w h e = let z : ◌≡◌ {A = ℕ} 0 1 = cc in absurd (omega arith)
not_given (t ∷ ts) w h e =
    let k = and_parts (not (eqb (number_of t.1) (number_of w))) (lacks (number_of w) ts) h in
    not_given ts w k.1 ((passed_over t ts w (differ t.1 w (not-true (eqb (number_of t.1) (number_of w)) k.0)) Iff.rfl Iff.rfl).0 e).1

-- so where its numbers are all below another
abbrev pub below : ℕ → List (Bool × Refusal) → Bool
below n [] = true
below n (t ∷ ts) = ltb (number_of t.1) n && below n ts

pub below_lacks : (ts : List (Bool × Refusal)) (n k : ℕ) → n ≤ k → below n ts ≡ true → lacks k ts ≡ true
below_lacks [] n k h e = refl
below_lacks (t ∷ ts) n k h e =
    let a = and_parts (ltb (number_of t.1) n) (below n ts) e in
    let less : number_of t.1 < n = ltb-true (number_of t.1) n a.0 in
    rw (ne_eqb (number_of t.1) k (λ z. omega arith)) (below_lacks ts n k h a.1)

-- the test itself fits, where none that follows refuses with the same
pub fits_here : {A : Type 0} (b : Bool) (w : Refusal) (ts : List (Bool × Refusal)) → lacks (number_of w) ts ≡ true
    → (b ≡ true) ↔ A → (verdict ((b, w) ∷ ts) ≡ Err w) ↔ A
fits_here b w ts n p = Iff.trans (sides b (verdict ts) (not_given ts w n)) p
  where
    sides : (b : Bool) (v : Verdict) → v ≢ Err w → (pick b (Err w) v ≡ Err w) ↔ (b ≡ true)
    sides true v n = (λ e. refl, λ e. refl)
    sides false v n = (λ e. absurd (n e), λ e. absurd (true≢false (sym e)))

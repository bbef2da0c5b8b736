-- The text that is written for a number of 64 bits is its `decimal_of`. Assumes nothing.
use mathlib.Core.Path.{◌≡◌, ap}
use mathlib.Core.List.{List, [], ◌∷◌, ◌++◌}
use Prim.Native.Nat.{ℕ, zero, suc, ◌+◌, ◌/◌, ◌%◌, ◌^◌, ◌≤◌, ◌<◌}
use native.Mathlib.Nat.{pow-suc}
use native.Mathlib.Omega.{arith}
use borrow.Author.Tests.{lt-ltb, le-ltb}
use Rattle.std.specs.Prelude.{decimal}
use Rattle.std.proofs.lemmas.Fmt.{decimal_by_steps}
use Rattle.lines.specs.Lines.{decimal_in, decimal_of}

-- `text` is all that `decimal_in` gives, where that may give as many digits
Spells : ℕ → List ℕ → Type 0
Spells v text = (k : ℕ) → v < 10 ^ (suc k) → text ≡ decimal_in (suc k) v

one_digit : (v : ℕ) → v < 10 → Spells v ((48 + v) ∷ [])
unfolding Spells decimal_in
one_digit v l k h = let same : v % 10 ≡ v = omega arith in rw (lt-ltb v 10 l, same)

one_more : (v : ℕ) (text : List ℕ) → 10 ≤ v → Spells (v / 10) text → Spells v (text ++ ((48 + v % 10) ∷ []))
unfolding Spells decimal_in
one_more v text l s zero h = absurd (omega (arith, h))
one_more v text l s (suc k) h =
    let below : v / 10 < 10 ^ (suc k) = omega (arith, h, pow-suc 10 (suc k)) in
    rw (le-ltb v 10 l) (ap (λ (t : List ℕ). t ++ ((48 + v % 10) ∷ [])) (s k below))

pub spelt : (v : ℕ) → v < 2 ^ 64 → decimal v ≡ decimal_of v
unfolding Spells decimal_of
spelt v h = decimal_by_steps Spells one_digit one_more v h 19 (omega arith)

-- Laws of a test that holds of every number below one, `every_below`. Assumes nothing.
use mathlib.Core.Path.{◌≡◌, refl}
use mathlib.Core.Bool.{Bool, true, false}
use Prim.Native.Nat.{ℕ, zero, suc, ◌+◌, ◌<◌}
use native.Mathlib.Decide.{dec_lt}
use native.Mathlib.Numerals.{add-one}
use native.Mathlib.Omega.{arith}
use Rattle.std.proofs.lemmas.Bool.{and_parts}
use Rattle.table.specs.Rules.{every_below}

-- none below 0 fails
pub every_none : (test : ℕ → Bool) → every_below 0 test ≡ true
unfolding every_below
every_none test = refl

-- one more that holds
pub every_more : (n : ℕ) (test : ℕ → Bool) → every_below n test ≡ true → test n ≡ true → every_below (n + 1) test ≡ true
unfolding every_below
every_more n test h p = rw (add-one, h) p

-- it holds of each
pub every_at : (n : ℕ) (test : ℕ → Bool) → every_below n test ≡ true → (i : ℕ) → i < n → test i ≡ true
unfolding every_below
every_at zero test h i l = absurd (omega arith)
every_at (suc n) test h i l =
    let parts = and_parts (every_below n test) (test n) h in
    sides (every_at n test parts.0 i) parts.1 (dec_lt i n)
  where
    sides : (i < n → test i ≡ true) → test n ≡ true → Dec (i < n) → test i ≡ true
    sides below last (yes p) = below p
    sides below last (no p) = let e : i ≡ n = omega arith in rw e last

-- one that fails
pub every_fails : (n : ℕ) (test : ℕ → Bool) (i : ℕ) → i < n → test i ≡ false → every_below n test ≡ false
every_fails n test i l f = sides (every_below n test) refl
  where
    sides : (b : Bool) → every_below n test ≡ b → every_below n test ≡ false
    sides false e = e
    sides true e =
        let t : test i ≡ true = every_at n test e i l in
        let z : ◌≡◌ {A = ℕ} 0 1 = cc in
        absurd (omega arith)

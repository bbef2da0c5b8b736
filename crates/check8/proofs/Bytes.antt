-- What holds of every number below a bound, by one test that antt computes at each. Assumes nothing.
use mathlib.Core.Path.{◌≡◌}
use mathlib.Core.Bool.{Bool, true, false, ◌&&◌}
use Prim.Native.Nat.{ℕ, zero, suc, ◌<◌}
use native.Mathlib.Omega.{arith}
use native.Mathlib.Decide.{dec_lt}
use lib.Dec.{T}

-- a test passes at each number below n
abbrev pub every : (ℕ → Bool) → ℕ → Bool
every f zero = true
every f (suc n) = f n && every f n

pub T-left : (a b : Bool) → T (a && b) → T a
T-left true b t = tt
T-left false b t = t

pub T-right : (a b : Bool) → T (a && b) → T b
T-right true b t = t
T-right false b t = absurd t

pub at : (f : ℕ → Bool) (n : ℕ) → T (every f n) → (k : ℕ) → k < n → T (f k)
at f zero t k h = absurd (omega arith)
at f (suc n) t k h = sides (at f n (T-right (f n) (every f n) t) k) (dec_lt k n)
  where
    sides : (k < n → T (f k)) → Dec (k < n) → T (f k)
    sides below (yes l) = below l
    sides below (no l) =
        let e : k ≡ n = omega arith in
        rw e (T-left (f n) (every f n) t)

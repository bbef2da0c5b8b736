-- Windows of numbers counted without folding: what the test on bytes says of them, and tables and marks by the offset
-- from a window's start. Proved over every window size. Assumes nothing.
use Prim.Native.Nat.{ℕ, zero, suc, ◌+◌, ◌-◌, ◌≤◌, ◌<◌}
use mathlib.Core.Path.{◌≡◌, refl, sym, ◌∙◌}
use mathlib.Core.Logic.{◌≢◌, ◌⊎◌, inl, inr, by_cases}
use mathlib.Core.Bool.{Bool, true, false}
use native.Mathlib.Nat.{add-zero, add-suc, suc-add}
use native.Mathlib.Decide.{ℕ_discrete}
use native.Mathlib.Omega.{arith}
use borrow.Author.Tests.{eq-eqb, ne_eqb}
use lib.Dec.{eqb}
use Rattle.units.specs.Refusals.{pick}
use Rattle.units.specs.Sizes.{is_size}
use Rattle.window.specs.Numbers.{distance_of, byte_of}
use Rattle.window.proofs.Sizes.{size_le}
use Rattle.window.proofs.WindowLaw.{window_law, window_distance}
use Rattle.promise.specs.History.{NotLate}

-- ---- the test on bytes

-- a number that is not late, and in the window of bytes, is not before the start
pub in_window : (W start n : ℕ) → is_size W ≡ true → n < start + W → NotLate W start n
    → distance_of (byte_of start) (byte_of n) < W → start ≤ n
in_window W start n w front back = let small = size_le W w in (window_law W start n (omega arith) front back).0

-- from the start on, the distance is the difference
pub distance_is : (W start n : ℕ) → is_size W ≡ true → n < start + W → start ≤ n
    → distance_of (byte_of start) (byte_of n) ≡ n - start
distance_is W start n w front h = let small = size_le W w in window_distance start n h (omega arith)

-- ---- tables by the offset from the start

-- one entry is put anew
abbrev pub put : {A : Type 0} → ℕ → A → (ℕ → A) → ℕ → A
put k v f i = pick (eqb i k) v (f i)

pub put_same : {A : Type 0} (k : ℕ) (v : A) (f : ℕ → A) → put k v f k ≡ v
put_same k v f = rw (eq-eqb k k refl)

pub put_other : {A : Type 0} (k : ℕ) (v : A) (f : ℕ → A) (i : ℕ) → i ≢ k → put k v f i ≡ f i
put_other k v f i h = rw (ne_eqb i k h)

-- seen from the start k numbers further on
abbrev pub shift : {A : Type 0} → ℕ → (ℕ → A) → ℕ → A
shift k f i = f (k + i)

-- ---- marks

-- which offsets from the start are marked
abbrev pub Marks : Type 0
Marks = ℕ → Bool

abbrev pub none : Marks
none i = false

-- the offset d is marked too
abbrev pub mark : ℕ → Marks → Marks
mark d m = put d true m

-- how many are marked without a gap from i on, w at most
unfoldable pub run : ℕ → ℕ → Marks → ℕ
run zero i m = 0
run (suc w) i m = pick (m i) (suc (run w (suc i) m)) 0

-- what is marked was marked now or before
pub mark_cases : (d i : ℕ) (m : Marks) → mark d m i ≡ true → (i ≡ d) ⊎ (m i ≡ true)
mark_cases d i m h = by_cases (ℕ_discrete i d) inl (λ ne. inr (sym (put_other d true m i ne) ∙ h))

pub mark_keeps : (d i : ℕ) (m : Marks) → m i ≡ true → mark d m i ≡ true
mark_keeps d i m h = by_cases (ℕ_discrete i d) (λ e. rw e (put_same d true m)) (λ ne. put_other d true m i ne ∙ h)

-- a run's numbers are marked
pub run_all : (w i : ℕ) (m : Marks) (j : ℕ) → j < run w i m → m (i + j) ≡ true
unfolding run
run_all zero i m j h = absurd (omega arith)
run_all (suc w) i m j h = go (m i) refl (λ k l. run_all w (suc i) m k l) j h
  where
    go : (b : Bool) → m i ≡ b → ((k : ℕ) → k < run w (suc i) m → m (suc i + k) ≡ true)
        → (j : ℕ) → j < pick b (suc (run w (suc i) m)) 0 → m (i + j) ≡ true
    go true e below zero h = rw add-zero e
    go true e below (suc j) h = rw add-suc (rw suc-add at (below j (omega arith)))
    go false e below j h = absurd (omega arith)

-- the number after a run is not, where the run ends inside the window
pub run_end : (w i : ℕ) (m : Marks) → run w i m < w → m (i + run w i m) ≡ false
unfolding run
run_end zero i m h = absurd (omega arith)
run_end (suc w) i m h = go (m i) refl (run_end w (suc i) m) h
  where
    go : (b : Bool) → m i ≡ b → (run w (suc i) m < w → m (suc i + run w (suc i) m) ≡ false)
        → pick b (suc (run w (suc i) m)) 0 < suc w → m (i + pick b (suc (run w (suc i) m)) 0) ≡ false
    go true e below h = rw add-suc (rw suc-add at (below (omega arith)))
    go false e below h = rw add-zero e

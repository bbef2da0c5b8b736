-- Lists read by the offset from a window's start, as the tables and marks of Windows.antt. Assumes nothing.
use Prim.Native.Nat.{ℕ, zero, suc, ◌+◌, ◌≤◌, ◌<◌}
use mathlib.Core.Path.{◌≡◌, sym, ap, ◌∙◌}
use mathlib.Core.Bool.{Bool, false}
use mathlib.Core.List.{List, [], ◌∷◌}
use native.Mathlib.Decide.{ℕ_discrete}
use native.Mathlib.Nat.{add-zero, add-suc, suc-add}
use native.Mathlib.Omega.{arith}
use lib.ListN.{length, get_or, set}
use lib.Seq.{get_or-set_same, get_or-set_other}
use Rattle.units.specs.Refusals.{pick}
use Rattle.promise.proofs.Windows.{Marks, put, put_same, put_other, run}

-- where an entry is put that was there, nothing alters
pub put_stays : {A : Type 0} (f : ℕ → A) (d : ℕ) (a : A) → f d ≡ a → (k : ℕ) → put d a f k ≡ f k
put_stays f d a e k = sides (ℕ_discrete k d)
  where
    sides : Dec (k ≡ d) → put d a f k ≡ f k
    sides (yes q) = rw q (put_same d a f ∙ sym e)
    sides (no n) = put_other d a f k n

module _ {A : Type 0} (none : A) where
  -- the table that a list reads as
  abbrev pub reading : {B : Type 0} → (A → B) → List A → ℕ → B
  reading read l k = read (get_or l k none)

  -- an element is put anew
  pub put_reads : {B : Type 0} (read : A → B) (l : List A) (d : ℕ) (x : A) → d < length l → (k : ℕ)
      → reading read (set l d x) k ≡ put d (read x) (reading read l) k
  put_reads read l d x h k = sides (ℕ_discrete k d)
    where
      sides : Dec (k ≡ d) → reading read (set l d x) k ≡ put d (read x) (reading read l) k
      sides (yes e) = rw (e, put_same d (read x) (reading read l), get_or-set_same l d x none h)
      sides (no n) = rw (put_other d (read x) (reading read l) k n, get_or-set_other l d k x none n)

  -- what counts the marked without a gap is the marks' run
  module _ (marked : A → Bool) (count : List A → ℕ) (at_end : count [] ≡ 0)
      (at_one : (x : A) (xs : List A) → count (x ∷ xs) ≡ pick (marked x) (suc (count xs)) 0)
      (unmarked : marked none ≡ false) where
    pub run_marks : (w i : ℕ) (l : List A) (m : Marks) → ((k : ℕ) → m (i + k) ≡ reading marked l k) → length l ≤ w
        → count l ≡ run w i m
    unfolding run
    run_marks zero i [] m f l = at_end
    run_marks zero i (x ∷ xs) m f l = absurd (omega arith)
    run_marks (suc w) i [] m f l = at_end ∙ rw (sym (ap m (add-zero i)) ∙ f 0 ∙ unmarked)
    run_marks (suc w) i (x ∷ xs) m f l =
        let below = run_marks w (suc i) xs m (λ k. ap m (suc-add i k ∙ sym (add-suc i k)) ∙ f (suc k)) (omega arith) in
        at_one x xs ∙ rw (sym (ap m (add-zero i)) ∙ f 0, below)

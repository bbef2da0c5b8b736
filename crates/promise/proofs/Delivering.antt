-- The receiver's start passes all that is held without a gap, and delivers it: what is delivered then is still the first of what
-- was accepted. Assumes nothing.
use Prim.Native.Nat.{ℕ, zero, suc, ◌+◌, ◌-◌, ◌≤◌, ◌<◌}
use mathlib.Core.Path.{◌≡◌, refl, ap, ◌∙◌}
use mathlib.Core.Logic.{inl, inr}
use mathlib.Core.Bool.{Bool, true, false}
use mathlib.Core.List.{List, [], ◌++◌, append-nil}
use lib.ListN.{length, take, get_or}
use lib.Seq.{take-suc, length-take-le, append_snoc}
use native.Mathlib.Nat.{zero-add, add-zero, add-suc, suc-add, add_assoc}
use native.Mathlib.Decide.{dec_lt}
use native.Mathlib.Omega.{arith}
use Rattle.promise.specs.History.{Pay}
use Rattle.promise.proofs.Windows.{Marks, shift, run, run_all, run_end}
use Rattle.promise.proofs.Channel.{outs}
use Rattle.promise.proofs.Invariant.{Got, Holding, Shelf, Receiving}

-- k payloads that are the accepted ones from d + i on, given after those before them
outs_take : (f : ℕ → Pay) (acc : List Pay) (d k i : ℕ)
    → ((j : ℕ) → j < i + k → (d + j < length acc) × (f j ≡ get_or acc (d + j) []))
    → take (d + i) acc ++ outs f i k ≡ take (d + (i + k)) acc
unfolding outs
outs_take f acc d zero i h = rw (append-nil, add-zero)
outs_take f acc d (suc k) i h =
    let here = h i (omega arith) in
    rw (here.1, ← (append_snoc (take (d + i) acc) (get_or acc (d + i) []) (outs f (suc i) k)))
    (rw (← (take-suc acc (d + i) [] here.0), ← (add-suc d i), add-suc i k, ← (suc-add i k))
    (outs_take f acc d k (suc i) (λ j l. h j (omega arith))))

-- with the held numbers m and their payloads f, less than a window of them
module _ (W : ℕ) {v : Shelf} {del acc : List Pay} (was : Receiving v del acc) {m : Marks} {f : ℕ → Pay}
    (hold : Holding m f (length del) acc) (bound : length acc ≤ length del + W) where
  -- how many the start passes
  abbrev k : ℕ
  k = run W 0 m

  -- what is delivered now
  abbrev now : List Pay
  now = del ++ outs f 0 k

  passed : (i : ℕ) → i < k → m i ≡ true
  passed i l = rw zero-add at (run_all W 0 m i l)

  -- no further than what was accepted
  reach : length del + k ≤ length acc
  reach = go k refl
    where
      go : (j : ℕ) → k ≡ j → length del + j ≤ length acc
      go zero e = omega (arith, was.ahead)
      go (suc j) e = let q = hold.held_in j (passed j (omega arith)) in omega arith

  whole : now ≡ take (length del + k) acc
  whole =
      rw (add-zero, zero-add, ← was.prefix) at (outs_take f acc (length del) k 0
      (λ i l. let q = passed i (omega arith) in (hold.held_in i q, hold.held_is i q)))

  pub pass_length : length now ≡ length del + k
  pass_length = ap length whole ∙ length-take-le (length del + k) acc reach

  -- the number at which the run ends is not held: there is none, or it is beyond the window
  ended : m (k + 0) ≡ false
  ended = rw add-zero (go (dec_lt k W))
    where
      off : (c : Bool) → m k ≡ c → W ≤ k → m k ≡ false
      off true e h = let q = hold.held_in k e in absurd (omega arith)
      off false e h = e

      go : Dec (k < W) → m k ≡ false
      go (yes h) = rw zero-add at (run_end W 0 m h)
      go (no h) = off (m k) refl (omega arith)

  pub pass_receiving : Receiving (record { held = shift k m; payloads = shift k f }) now acc
  pass_receiving = record {
    ahead = omega (arith, pass_length, reach);
    prefix = rw pass_length whole;
    holding = rw pass_length (record {
      held_in = λ i h. let q = hold.held_in (k + i) h in omega arith;
      held_is = λ i h. rw add_assoc (hold.held_is (k + i) h);
    });
    gap = ended;
  }

  -- what the receiver had it has
  pub pass_got : (j : ℕ) → Got del m j → Got now (shift k m) j
  pass_got j (inl h) = inl (omega (arith, pass_length))
  pass_got j (inr (i, e, h)) = go (dec_lt i k)
    where
      go : Dec (i < k) → Got now (shift k m) j
      go (yes l) = inl (omega (arith, pass_length))
      go (no l) = let q : k + (i - k) ≡ i = omega arith in inr (i - k, omega (arith, pass_length), ap m q ∙ h)

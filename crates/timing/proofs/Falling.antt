-- What is left of a timer falls by one a tick (01, "Tick"), whatever the clock; a timer that starts at T has T left; and while as many ticks
-- as the bound says have not passed, none is due. Assumes nothing.
use mathlib.Core.Path.{◌≡◌, refl, sym, ◌∙◌}
use mathlib.Core.Logic.{◌≢◌, ◌⊎◌, inl, inr}
use mathlib.Core.Bool.{Bool, true, false}
use Prim.Native.Nat.{ℕ, suc, ◌+◌, ◌-◌, ◌≤◌, ◌<◌}
use native.Mathlib.Omega.{arith}
use native.Mathlib.Decide.{dec_le, ℕ_discrete}
use lib.Dec.{eqb}
use borrow.Author.Tests.{eq-eqb, ne_eqb, le-leb, lt-leb, lt-ltb, le-ltb}
use Rattle.units.specs.Refusals.{pick}
use Rattle.timing.specs.Timing.{later, left_of}

-- ---- what the tests decide, as facts on numbers

-- the number n ticks on, within the round or in the next
abbrev On : ℕ → ℕ → Type 0
On c n = ((c + n ≤ 65535) × (later c n ≡ c + n)) ⊎ ((65535 < c + n) × (later c n ≡ c + n - 65535))

on : (c n : ℕ) → On c n
on c n = sides (dec_le (c + n) 65535)
  where
    sides : Dec (c + n ≤ 65535) → On c n
    sides (yes h) = inl (h, simp (le-leb (c + n) 65535 h))
    sides (no h) = let g : 65535 < c + n = omega arith in inr (g, simp (lt-leb (c + n) 65535 g))

-- the next number
abbrev Next : ℕ → Type 0
Next c = ((c < 65535) × (later c 1 ≡ c + 1)) ⊎ ((c ≡ 65535) × (later c 1 ≡ 1))

next : (c : ℕ) → c ≤ 65535 → Next c
next c small = sides (on c 1)
  where
    sides : On c 1 → Next c
    sides (inl h) = inl (omega (arith, h.0), h.1)
    sides (inr h) = inr (omega (arith, h.0), omega (arith, h.0, h.1))

-- what is left of a timer that runs out at d, in this round or in the next
abbrev Left : ℕ → ℕ → Type 0
Left c d = ((c < d) × (left_of c d ≡ d - c)) ⊎ ((d ≤ c) × (left_of c d ≡ d + (65535 - c)))

left : (c d : ℕ) → d ≢ 0 → Left c d
left c d e = sides (dec_le (suc c) d)
  where
    sides : Dec (suc c ≤ d) → Left c d
    sides (yes h) = inl (h, simp (ne_eqb d 0 e, lt-ltb c d h))
    sides (no h) = let g : d ≤ c = omega arith in inr (g, simp (ne_eqb d 0 e, le-ltb c d g))

-- ---- a timer that runs

pub left_pos : (c d : ℕ) → d ≢ 0 → 1 ≤ left_of c d
left_pos c d runs = sides (left c d runs)
  where
    sides : Left c d → 1 ≤ left_of c d
    sides (inl h) = omega (arith, h.0, h.1)
    sides (inr h) = omega (arith, h.1, runs)

module _ (c d : ℕ) (clock : c ≤ 65535) (number : d ≤ 65535) (runs : d ≢ 0) where
  pub left_most : left_of c d ≤ 65535
  left_most = sides (left c d runs)
    where
      sides : Left c d → left_of c d ≤ 65535
      sides (inl h) = omega (arith, h.0, h.1)
      sides (inr h) = omega (arith, h.0, h.1)

  -- it falls by one a tick, unless the tick is the one at which it runs out
  pub left_falls : d ≢ later c 1 → left_of (later c 1) d ≡ left_of c d - 1
  left_falls e = sides (next c clock) (left c d runs) (left (later c 1) d runs)
    where
      sides : Next c → Left c d → Left (later c 1) d → left_of (later c 1) d ≡ left_of c d - 1
      sides (inl a) (inl b) (inl f) = omega (arith, a.0, a.1, b.0, b.1, f.0, f.1, e)
      sides (inl a) (inl b) (inr f) = omega (arith, a.0, a.1, b.0, b.1, f.0, f.1, e)
      sides (inl a) (inr b) (inl f) = omega (arith, a.0, a.1, b.0, b.1, f.0, f.1, e)
      sides (inl a) (inr b) (inr f) = omega (arith, a.0, a.1, b.0, b.1, f.0, f.1, e)
      sides (inr a) (inl b) (inl f) = omega (arith, a.0, a.1, b.0, b.1, f.0, f.1, e)
      sides (inr a) (inl b) (inr f) = omega (arith, a.0, a.1, b.0, b.1, f.0, f.1, e)
      sides (inr a) (inr b) (inl f) = omega (arith, a.0, a.1, b.0, b.1, f.0, f.1, e)
      sides (inr a) (inr b) (inr f) = omega (arith, a.0, a.1, b.0, b.1, f.0, f.1, e)

  -- which is the tick at which one was left
  pub left_due : left_of c d ≡ 1 → d ≡ later c 1
  left_due e = sides (next c clock) (left c d runs)
    where
      sides : Next c → Left c d → d ≡ later c 1
      sides (inl a) (inl b) = omega (arith, a.0, a.1, b.0, b.1, e)
      sides (inl a) (inr b) = omega (arith, a.0, a.1, b.0, b.1, e)
      sides (inr a) (inl b) = omega (arith, a.0, a.1, b.0, b.1, e)
      sides (inr a) (inr b) = omega (arith, a.0, a.1, b.0, b.1, e)

  pub due_left : d ≡ later c 1 → left_of c d ≡ 1
  due_left e = sides (next c clock) (left c d runs)
    where
      sides : Next c → Left c d → left_of c d ≡ 1
      sides (inl a) (inl b) = omega (arith, a.0, a.1, b.0, b.1, e)
      sides (inl a) (inr b) = omega (arith, a.0, a.1, b.0, b.1, e)
      sides (inr a) (inl b) = omega (arith, a.0, a.1, b.0, b.1, e)
      sides (inr a) (inr b) = omega (arith, a.0, a.1, b.0, b.1, e)

  -- before the bound none is due, and the bound goes down with what is left
  pub none_due : (q : ℕ) → q < left_of c d → q ≢ 0 → d ≢ later c 1
  none_due q h n e = let o = due_left e in n (omega (arith, h, o))

  pub bound_falls : (q : ℕ) → q < left_of c d → q ≢ 0 → q - 1 < left_of (later c 1) d
  bound_falls q h n = let f = left_falls (none_due q h n) in omega (arith, f, h, n)

-- ---- any timer

-- nothing is left of a timer exactly where it does not run
pub left_zero : (c d : ℕ) → eqb (left_of c d) 0 ≡ eqb d 0
left_zero c d = sides (ℕ_discrete d 0)
  where
    sides : Dec (d ≡ 0) → eqb (left_of c d) 0 ≡ eqb d 0
    sides (yes e) = rw e
    sides (no n) = let h = left_pos c d n in ne_eqb (left_of c d) 0 (λ z. omega (arith, h, z)) ∙ sym (ne_eqb d 0 n)

module _ (c d : ℕ) (clock : c ≤ 65535) (number : d ≤ 65535) where
  -- one that runs runs out in the next tick exactly where one is left of it
  pub left_one : d ≢ 0 → eqb (left_of c d) 1 ≡ eqb d (later c 1)
  left_one runs = sides (ℕ_discrete d (later c 1))
    where
      sides : Dec (d ≡ later c 1) → eqb (left_of c d) 1 ≡ eqb d (later c 1)
      sides (yes e) = eq-eqb (left_of c d) 1 (due_left c d clock number runs e) ∙ sym (eq-eqb d (later c 1) e)
      sides (no n) = ne_eqb (left_of c d) 1 (λ z. n (left_due c d clock number runs z)) ∙ sym (ne_eqb d (later c 1) n)

  -- the next tick, which stops the one that is due, takes one off what is left of any
  pub left_ticks : left_of (later c 1) (pick (eqb d (later c 1)) 0 d) ≡ left_of c d - 1
  left_ticks = sides (ℕ_discrete d 0) (ℕ_discrete d (later c 1))
    where
      none : (t : Bool) → left_of (later c 1) (pick t 0 0) ≡ 0 - 1
      none true = refl
      none false = refl

      sides : Dec (d ≡ 0) → Dec (d ≡ later c 1) → left_of (later c 1) (pick (eqb d (later c 1)) 0 d) ≡ left_of c d - 1
      sides (yes z) e = rw z (none (eqb 0 (later c 1)))
      sides (no runs) (yes e) = let h = due_left c d clock number runs e in rw (eq-eqb d (later c 1) e, h)
      sides (no runs) (no n) = rw (ne_eqb d (later c 1) n) (left_falls c d clock number runs n)

-- ---- the clock, and a start

pub later_next : (c : ℕ) → c ≤ 65535 → later c 1 ≤ 65535
later_next c h = sides (next c h)
  where
    sides : Next c → later c 1 ≤ 65535
    sides (inl a) = omega (arith, a.0, a.1)
    sides (inr a) = omega (arith, a.1)

-- a timer that starts at T has T left, and runs
module _ (c t : ℕ) (clock : c ≤ 65535) (some : 1 ≤ t) (most : t ≤ 65535) where
  pub later_runs : (later c t ≢ 0) × (later c t ≤ 65535)
  later_runs = sides (on c t)
    where
      sides : On c t → (later c t ≢ 0) × (later c t ≤ 65535)
      sides (inl a) = ((λ e. omega (arith, a.0, a.1, e)), omega (arith, a.0, a.1))
      sides (inr a) = ((λ e. omega (arith, a.0, a.1, e)), omega (arith, a.0, a.1))

  pub left_starts : left_of c (later c t) ≡ t
  left_starts = sides (on c t) (left c (later c t) later_runs.0)
    where
      sides : On c t → Left c (later c t) → left_of c (later c t) ≡ t
      sides (inl a) (inl b) = omega (arith, a.0, a.1, b.0, b.1)
      sides (inl a) (inr b) = omega (arith, a.0, a.1, b.0, b.1)
      sides (inr a) (inl b) = omega (arith, a.0, a.1, b.0, b.1)
      sides (inr a) (inr b) = omega (arith, a.0, a.1, b.0, b.1)

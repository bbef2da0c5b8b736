-- Laws of `accept`: each answer from what is true of the number, and back; what is held afterwards. Assumes nothing.
use Rattle.std.proofs.Common.{◌≡◌, ℕ, ◌^◌, ◌<◌, Bool, true, false, ◌||◌, eqb, sym, refl, ap, ◌∙◌, lt_of_lt_of_le, mod-lt, pow_pos, pow_mono, ltb-true, eq-eqb, ne_eqb}
use mathlib.Core.Bool.{or_comm}
use mathlib.Core.Logic.{by_cases}
use native.Mathlib.Decide.{ℕ_discrete}
use lib.Bits.{bit_or, or_lt}
use lib.Pow.{pow-lt}
use Rattle.units.specs.Refusals.{pick}
use Rattle.window.specs.Marks.{joined, bit}
use Rattle.window.specs.Windows.{offset_of, inside_of, held, Good, with_held, accept_of}
use Rattle.window.specs.declared.Window.{Window}
use Rattle.window.specs.declared.Accepted.{Accepted}
use Rattle.window.specs.declared.Found.{Found}
use Rattle.window.specs.declared.Found.TheVariants.{New, Held, Outside}
use Rattle.window.proofs.Bits.{bit_or_holds, bit_pow}
use Rattle.window.proofs.Sizes.{size_le}
use Rattle.window.proofs.TwoWords.{joined_parted}

-- ---- what the laws go by

-- the answer by whether the number lies in the window and is held: w is the window, v what a new number makes of it
abbrev answer : Bool → Bool → Window → Window → Accepted
answer inside again w v =
    pick inside (pick again (record { window = w; found = Held }) (record { window = v; found = New })) (record { window = w; found = Outside })

-- what each answer says of a number: whether it lies in the window, and whether it was held
abbrev Says : Found → Bool → Bool → Type 0
Says New inside again = (inside ≡ true) × (again ≡ false)
Says Held inside again = (inside ≡ true) × (again ≡ true)
Says Outside inside again = inside ≡ false

-- a window with one offset more
module _ (w : Window) (g : Good w) (d : ℕ) (below : d < w.size) where
  more_lt : bit_or (joined w.marks) (2 ^ d) < 2 ^ w.size
  more_lt = or_lt w.size (joined w.marks) (2 ^ d) g.below (pow-lt below)

  more_number : joined (with_held w d).marks ≡ bit_or (joined w.marks) (2 ^ d)
  more_number =
      joined_parted (bit_or (joined w.marks) (2 ^ d)) (lt_of_lt_of_le more_lt (pow_mono (size_le w.size g.sized)))

  more_held : (k : ℕ) → held (with_held w d) k ≡ (eqb k d || held w k)
  unfolding held
  more_held k =
      ap (λ (n : ℕ). bit n k) more_number ∙ bit_or_holds (joined w.marks) (2 ^ d) k
      ∙ or_comm (bit (joined w.marks) k) (bit (2 ^ d) k) ∙ ap (λ (b : Bool). b || held w k) (bit_pow d k)

  more_good : Good (with_held w d)
  more_good = record { sized = g.sized; byte = g.byte; word = mod-lt _ (pow_pos 64); below = rw more_number more_lt }

module _ (w : Window) (s : ℕ) where
  -- ---- each answer, from what is true of the number

  pub accept_outside : inside_of w s ≡ false → accept_of w s ≡ record { window = w; found = Outside }
  unfolding accept_of
  accept_outside o = rw o

  pub accept_again : inside_of w s ≡ true → held w (offset_of w s) ≡ true → accept_of w s ≡ record { window = w; found = Held }
  unfolding accept_of
  accept_again i h = rw (i, h)

  pub accept_new : inside_of w s ≡ true → held w (offset_of w s) ≡ false
      → accept_of w s ≡ record { window = with_held w (offset_of w s); found = New }
  unfolding accept_of
  accept_new i h = rw (i, h)

  -- ---- and back

  accept_says : Says (accept_of w s).found (inside_of w s) (held w (offset_of w s))
  unfolding accept_of
  accept_says = go (inside_of w s) (held w (offset_of w s))
    where
      go : (i h : Bool) → Says (answer i h w (with_held w (offset_of w s))).found i h
      go true true = (refl, refl)
      go true false = (refl, refl)
      go false h = refl

  pub found_new : (accept_of w s).found ≡ New → (inside_of w s ≡ true) × (held w (offset_of w s) ≡ false)
  found_new e = rw e at accept_says

  -- ---- what stays

  pub accept_same : ((accept_of w s).found ≡ New → ⊥) → (accept_of w s).window ≡ w
  unfolding accept_of
  accept_same n = go (inside_of w s) (held w (offset_of w s)) n
    where
      go : (i h : Bool) → ((answer i h w (with_held w (offset_of w s))).found ≡ New → ⊥)
          → (answer i h w (with_held w (offset_of w s))).window ≡ w
      go true true n = refl
      go true false n = absurd (n refl)
      go false h n = refl

  pub accept_start : (accept_of w s).window.start ≡ w.start
  unfolding accept_of
  accept_start = go (inside_of w s) (held w (offset_of w s))
    where
      go : (i h : Bool) → (answer i h w (with_held w (offset_of w s))).window.start ≡ w.start
      go true true = refl
      go true false = refl
      go false h = refl

  pub accept_size : (accept_of w s).window.size ≡ w.size
  unfolding accept_of
  accept_size = go (inside_of w s) (held w (offset_of w s))
    where
      go : (i h : Bool) → (answer i h w (with_held w (offset_of w s))).window.size ≡ w.size
      go true true = refl
      go true false = refl
      go false h = refl

  pub accept_good : Good w → Good (accept_of w s).window
  unfolding accept_of
  accept_good g = go (inside_of w s) refl (held w (offset_of w s))
    where
      go : (i : Bool) → inside_of w s ≡ i → (h : Bool) → Good (answer i h w (with_held w (offset_of w s))).window
      go true e true = g
      go true e false = more_good w g (offset_of w s) (ltb-true (offset_of w s) w.size e)
      go false e h = g

  -- ---- what is held afterwards

  -- of a number in the window: its own offset, and those held before
  pub accept_held : Good w → inside_of w s ≡ true → (k : ℕ) → held (accept_of w s).window k ≡ (eqb k (offset_of w s) || held w k)
  accept_held g i k = go (held w (offset_of w s)) refl
    where
      go : (h : Bool) → held w (offset_of w s) ≡ h → held (accept_of w s).window k ≡ (eqb k (offset_of w s) || held w k)
      go true h =
          ap (λ (a : Accepted). held a.window k) (accept_again i h)
          ∙ by_cases (ℕ_discrete k (offset_of w s))
          (λ e. ap (held w) e ∙ h ∙ sym (ap (λ (b : Bool). b || held w k) (eq-eqb k (offset_of w s) e)))
          (λ n. sym (ap (λ (b : Bool). b || held w k) (ne_eqb k (offset_of w s) n)))
      go false h =
          ap (λ (a : Accepted). held a.window k) (accept_new i h)
          ∙ more_held w g (offset_of w s) (ltb-true (offset_of w s) w.size i) k

  -- and of any number the other offsets are as before
  pub accept_other : Good w → (k : ℕ) → (k ≡ offset_of w s → ⊥) → held (accept_of w s).window k ≡ held w k
  accept_other g k n = go (inside_of w s) refl
    where
      go : (i : Bool) → inside_of w s ≡ i → held (accept_of w s).window k ≡ held w k
      go true i = accept_held g i k ∙ ap (λ (b : Bool). b || held w k) (ne_eqb k (offset_of w s) n)
      go false o = ap (λ (a : Accepted). held a.window k) (accept_outside o)

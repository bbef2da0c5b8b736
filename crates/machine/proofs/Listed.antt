-- Lists by their numbers: what stands at each place, and one of them put anew. Assumes nothing.
use Prim.Native.Nat.{ℕ, zero, suc, ◌≤◌, ◌<◌}
use mathlib.Core.Path.{◌≡◌, refl, sym, ap, ◌∙◌}
use mathlib.Core.Logic.{◌≢◌}
use mathlib.Core.Option.{none, some}
use mathlib.Core.List.{[], ◌∷◌, ◌++◌}
use native.Mathlib.Decide.{dec_lt, ℕ_discrete}
use native.Mathlib.Omega.{arith}
use lib.ListN.{length, get_or, get_elem?, set, replicate, length-append, length-set, length-replicate, get_or-replicate, get_or-append}
use lib.Seq.{ext_get_or, get_or_at, get_or-set_same, get_or-set_other}
use Rattle.machine.specs.Machine.{listed}
use Rattle.machine.proofs.Entries.{get_d_elem, elem_past}

module _ {A : Type 0} where
  pub length_listed : (n : ℕ) (f : ℕ → A) → length (listed n f) ≡ n
  unfolding listed
  length_listed zero f = refl
  length_listed (suc n) f = length-append (listed n f) (f n ∷ []) ∙ rw (length_listed n f) (omega arith)

  pub get_d_listed : (n : ℕ) (f : ℕ → A) (i : ℕ) (d : A) → i < n → get_or (listed n f) i d ≡ f i
  unfolding listed
  get_d_listed zero f i d h = absurd (omega arith)
  get_d_listed (suc n) f i d h = sides (dec_lt i n) (get_d_listed n f i d)
    where
      sides : Dec (i < n) → (i < n → get_or (listed n f) i d ≡ f i) → get_or (listed n f ++ (f n ∷ [])) i d ≡ f i
      sides (yes l) below = get_or-append (listed n f) (f n ∷ []) d i (rw (length_listed n f) l) ∙ below l
      sides (no l) below = let e : n ≡ i = omega arith in get_or_at (listed n f) (f n) [] d i (length_listed n f ∙ e) ∙ ap f e

  pub listed_ext : (n : ℕ) (f g : ℕ → A) → ((i : ℕ) → i < n → f i ≡ g i) → listed n f ≡ listed n g
  unfolding listed
  listed_ext zero f g h = refl
  listed_ext (suc n) f g h = rw (listed_ext n f g (λ i l. h i (omega arith)), h n (omega arith))

  -- all alike
  pub listed_replicate : (n : ℕ) (f : ℕ → A) (a : A) → ((k : ℕ) → f k ≡ a) → listed n f ≡ replicate n a
  listed_replicate n f a h =
      ext_get_or a (listed n f) (replicate n a) (length_listed n f ∙ sym (length-replicate n a))
      (λ k l. let hk : k < n = omega (arith, length_listed n f) in get_d_listed n f k a hk ∙ h k ∙ sym (get_or-replicate n k a a hk))

  -- what there is at a place of it
  pub elem_listed : (n : ℕ) (f : ℕ → A) (i : ℕ) → i < n → get_elem? (listed n f) i ≡ some (f i)
  elem_listed n f i h = get_d_elem (listed n f) i (f i) (rw (length_listed n f) h) ∙ ap some (get_d_listed n f i (f i) h)

  pub elem_none : (n : ℕ) (f : ℕ → A) (i : ℕ) → n ≤ i → get_elem? (listed n f) i ≡ none
  elem_none n f i h = elem_past (listed n f) i (rw (length_listed n f) h)

  -- one put anew
  pub set_listed : (n : ℕ) (f g : ℕ → A) (i : ℕ) (v : A) → i < n → g i ≡ v → ((j : ℕ) → j < n → j ≢ i → g j ≡ f j)
      → listed n g ≡ set (listed n f) i v
  set_listed n f g i v l here there =
      ext_get_or v (listed n g) (set (listed n f) i v)
      (length_listed n g ∙ sym (length-set (listed n f) i v ∙ length_listed n f))
      (λ j h. let hj : j < n = omega (arith, length_listed n g) in get_d_listed n g j v hj ∙ sides j hj (ℕ_discrete j i))
    where
      sides : (j : ℕ) → j < n → Dec (j ≡ i) → g j ≡ get_or (set (listed n f) i v) j v
      sides j h (yes e) = rw e (here ∙ sym (get_or-set_same (listed n f) i v v (rw (length_listed n f) l)))
      sides j h (no d) = there j h d ∙ sym (get_or-set_other (listed n f) i j v v d ∙ get_d_listed n f j v h)

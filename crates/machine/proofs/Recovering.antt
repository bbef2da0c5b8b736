-- The ends that have no timer running and no frame of their own under way become Enabled: as one pass over the entries,
-- and the bits that tell which. Assumes nothing.
use Prim.Native.Nat.{ℕ, zero, suc, ◌+◌, ◌*◌, ◌/◌, ◌%◌, ◌^◌}
use mathlib.Core.Path.{◌≡◌, refl, sym, ap, ◌∙◌, fun_ext}
use mathlib.Core.Logic.{◌↔◌}
use mathlib.Core.Bool.{Bool, true, false, not, ◌&&◌}
use mathlib.Core.Option.{Option, none, some}
use mathlib.Core.List.Memᴰ
use mathlib.Core.List.{List, [], ◌∷◌, ◌++◌, append-nil, Memᴰ}
use native.Mathlib.Nat.{zero-div, pow-succ'}
use native.Mathlib.Omega.{arith}
use lib.ListN.{get_elem?, set}
use lib.Pow.{shr-shr}
use Rattle.units.specs.Refusals.{pick}
use Rattle.end_points.specs.States.{is_sends, is_over}
use Rattle.end_points.specs.declared.State.TheVariants.{Enabled}
use Rattle.machine.specs.Machine.{End, Item, Sort, acks, resets, urgents, resends, datas, Out, Machine, node, found, turned, waits, anew, enabled, is_of, may_recover, recovered, bits_from}
use Rattle.machine.specs.Laws.{Is, item}
use Rattle.machine.proofs.Entries.{set_same}
use Rattle.machine.proofs.Passes.{passed}
use Rattle.machine.proofs.Timers.{one_own}

-- ---- a pass

-- what an end becomes, given whether a frame of its own is under way
abbrev pub again : Bool → End → End
again under e = pick (is_over e.state && not under) (anew (Enabled 0 false) e) e

-- and what of it begins to wait
abbrev pub over_adds : Bool → Sort → ℕ → End → List Item
over_adds under acks i e = []
over_adds under resets i e = pick ((is_over e.state && not under) && is_sends e.entry.kind) (item i 0 ∷ []) []
over_adds under urgents i e = []
over_adds under resends i e = []
over_adds under datas i e = []

-- the same with u under way, for entry i
abbrev pub again_by : Option Out → ℕ → End → End
again_by u i = again (is_of i u)

abbrev pub adds_by : Option Out → Sort → ℕ → End → List Item
adds_by u q i = over_adds (is_of i u) q i

pub over_own : (u : Option Out) (q : Sort) (i : ℕ) (e : End) (x : Item) → Memᴰ x (adds_by u q i e) → x.entry ≡ i
over_own u acks i e x h = absurd (Memᴰ.not-nil h)
over_own u resets i e x h = one_own (may_recover u i e && is_sends e.entry.kind) i 0 x h
over_own u urgents i e x h = absurd (Memᴰ.not-nil h)
over_own u resends i e x h = absurd (Memᴰ.not-nil h)
over_own u datas i e x h = absurd (Memᴰ.not-nil h)

pub recovered_is : (u : Option Out) (m : Machine) → m.under ≡ u → (i : ℕ) (e : End) → Is m i e
    → recovered i e m ≡ passed (again_by u) (λ e. false) (adds_by u) (over_own u) i e m
unfolding enabled
recovered_is u m under i e here =
    ap (λ (v : Option Out). pick (may_recover v i e) (enabled i e m) m) under
    ∙ sides (may_recover u i e) (is_sends e.entry.kind) refl refl
  where
    waiting : (w : Sort → List Item) → ((q : Sort) → w q ≡ m.waiting q ++ adds_by u q i e) → (d : End)
        → node m (set m.ends i d) w ≡ node m (set m.ends i d) (λ q. m.waiting q ++ adds_by u q i e)
    waiting w h d = ap (λ (f : Sort → List Item). node m (set m.ends i d) f) (fun_ext h)

    as_were : (may_recover u i e && is_sends e.entry.kind) ≡ false → (q : Sort) → m.waiting q ≡ m.waiting q ++ adds_by u q i e
    as_were n acks = sym (append-nil _)
    as_were n resets = sym (rw n (append-nil _))
    as_were n urgents = sym (append-nil _)
    as_were n resends = sym (append-nil _)
    as_were n datas = sym (append-nil _)

    with_reset : (may_recover u i e && is_sends e.entry.kind) ≡ true → (q : Sort) → (waits resets i 0 m).waiting q ≡ m.waiting q ++ adds_by u q i e
    with_reset y acks = sym (append-nil _)
    with_reset y resets = rw y
    with_reset y urgents = sym (append-nil _)
    with_reset y resends = sym (append-nil _)
    with_reset y datas = sym (append-nil _)

    sides : (a b : Bool) → may_recover u i e ≡ a → is_sends e.entry.kind ≡ b
        → pick a (pick b (waits resets i 0 (turned i (anew (Enabled 0 false) e) m)) (turned i (anew (Enabled 0 false) e) m)) m
        ≡ node m (set m.ends i (pick a (anew (Enabled 0 false) e) e)) (λ q. m.waiting q ++ adds_by u q i e)
    sides true true y z = waiting (waits resets i 0 m).waiting (with_reset (rw (y, z))) (anew (Enabled 0 false) e)
    sides true false y z = waiting m.waiting (as_were (rw (y, z))) (anew (Enabled 0 false) e)
    sides false b y z =
        ap (λ (l : List End). node m l m.waiting) (sym (set_same m.ends i here)) ∙ waiting m.waiting (as_were (rw y)) e

-- ---- the bits

module _ (u : Option Out) where
  -- the bits of the entries from j on, with the lowest at k: an entry and its bit are counted apart
  bits_at : (j k : ℕ) → List End → ℕ
  bits_at j k [] = 0
  bits_at j k (e ∷ es) = pick (may_recover u j e) (2 ^ k) 0 + bits_at (suc j) (suc k) es

  bits_are : (i : ℕ) (es : List End) → bits_from u i es ≡ bits_at i i es
  unfolding bits_from bits_at
  bits_are i [] = refl
  bits_are i (e ∷ es) = ap (λ (n : ℕ). pick (may_recover u i e) (2 ^ i) 0 + n) (bits_are (suc i) es)

  bits_double : (j k : ℕ) (es : List End) → bits_at j (suc k) es ≡ 2 * bits_at j k es
  unfolding bits_at
  bits_double j k [] = refl
  bits_double j k (e ∷ es) =
      rw (bits_double (suc j) (suc k) es) (sides (may_recover u j e) (2 ^ suc k) (2 ^ k) (bits_at (suc j) (suc k) es) (pow-succ' 2 k))
    where
      sides : (b : Bool) (x y n : ℕ) → x ≡ 2 * y → pick b x 0 + 2 * n ≡ 2 * (pick b y 0 + n)
      sides true x y n h = omega arith
      sides false x y n h = omega arith

  over_at : ℕ → List End → ℕ → Bool
  over_at j es i = found (get_elem? es i) false (may_recover u (j + i))

  bit_at : (j : ℕ) (es : List End) (i : ℕ) → bits_at j 0 es / 2 ^ i % 2 ≡ pick (over_at j es i) 1 0
  unfolding bits_at over_at
  bit_at j [] i = rw (zero-div (2 ^ i))
  bit_at j (e ∷ es) zero =
      let n : j + 0 ≡ j = omega arith in
      rw (n, bits_double (suc j) 0 es) (sides (may_recover u j e))
    where
      sides : (b : Bool) → (pick b (2 ^ 0) 0 + 2 * bits_at (suc j) 0 es) / 2 ^ 0 % 2 ≡ pick b 1 0
      sides true = omega arith
      sides false = omega arith
  bit_at j (e ∷ es) (suc i) =
      let n : suc i ≡ 1 + i = omega arith in
      let k : j + (1 + i) ≡ suc j + i = omega arith in
      rw (n, ← shr-shr (bits_at j 0 (e ∷ es)) 1 i, bits_double (suc j) 0 es, sides (may_recover u j e), k) (bit_at (suc j) es i)
    where
      sides : (b : Bool) → (pick b (2 ^ 0) 0 + 2 * bits_at (suc j) 0 es) / 2 ^ 1 ≡ bits_at (suc j) 0 es
      sides true = omega arith
      sides false = omega arith

  pub bit_iff : (es : List End) (i : ℕ) → (bits_from u 0 es / 2 ^ i % 2 ≡ 1) ↔ ((e : End) × (get_elem? es i ≡ some e) × (may_recover u i e ≡ true))
  unfolding over_at
  bit_iff es i = (λ h. there (get_elem? es i) refl (sym here ∙ h), λ t. here ∙ rw (t.1, t.2))
    where
      here : bits_from u 0 es / 2 ^ i % 2 ≡ pick (found (get_elem? es i) false (may_recover u i)) 1 0
      here = let n : 0 + i ≡ i = omega arith in rw (bits_are 0 es) (bit_at 0 es i ∙ rw n)

      there : (o : Option End) → get_elem? es i ≡ o → ◌≡◌ {A = ℕ} (pick (found o false (may_recover u i)) 1 0) 1
          → (e : End) × (get_elem? es i ≡ some e) × (may_recover u i e ≡ true)
      there none h z = absurd (omega arith)
      there (some e) h z = (e, h, sides (may_recover u i e) z)
        where
          sides : (b : Bool) → ◌≡◌ {A = ℕ} (pick b 1 0) 1 → b ≡ true
          sides true z = refl
          sides false z = absurd (omega arith)

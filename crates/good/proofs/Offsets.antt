-- The numbers of a window as cells and as what waits: whose they are, that no two are the same, and how they move with the start.
-- Assumes nothing.
use Prim.Native.Nat.{ℕ, zero, suc, ◌+◌, ◌-◌, ◌%◌, ◌^◌, ◌≤◌, ◌<◌}
use mathlib.Core.Path.{◌≡◌, sym, ap, subst, ◌∙◌}
use mathlib.Core.Logic.{◌⊎◌, inl, inr}
use mathlib.Core.List.Memᴰ
use mathlib.Core.List.{List, [], ◌∷◌, ◌++◌, Memᴰ}
use native.Mathlib.Decide.{dec_lt}
use native.Mathlib.Nat.{add-zero, add-suc, suc-add}
use native.Mathlib.Omega.{arith}
use borrow.Author.Tests.{ne_eqb, lt-ltb, le-ltb}
use Rattle.units.specs.declared.Seq.{Seq}
use Rattle.memory.specs.Layout.{ids_end, reset_id, urgent_id}
use Rattle.window.specs.Windows.{accept_of, pass_of, run_of, Good as GoodWindow}
use Rattle.window.specs.declared.Window.{Window}
use Rattle.window.proofs.Accepting.{accept_start, accept_size}
use Rattle.window.proofs.Sizes.{size_pos, size_power}
use Rattle.window.proofs.WindowLaw.{slot_byte, slots_apart}
use Rattle.slots.specs.Slots.{slot_for, cell, past, number_in}
use Rattle.memory.specs.Layout.{owner_of, Ranged}
use Rattle.good.specs.Good.{id_at, ids}
use Rattle.good.proofs.Framing.{slot_small}

-- ---- whose it is

pub reset_owner : (i : ℕ) → i < 16 → owner_of (reset_id i) ≡ i
unfolding owner_of
reset_owner i h = rw (lt-ltb (16 + i) 32 (omega arith)) (omega arith)

pub urgent_owner : (i : ℕ) → i < 16 → owner_of (urgent_id i) ≡ i
unfolding owner_of
urgent_owner i h = rw (le-ltb (32 + i) 32 (omega arith), lt-ltb (32 + i) 64 (omega arith)) (omega arith)

pub reset_ranged : (i : ℕ) → i < 16 → Ranged 0 (reset_id i)
unfolding Ranged
reset_ranged i h = (omega arith, omega arith)

pub urgent_ranged : (i : ℕ) → i < 16 → Ranged 1 (urgent_id i)
unfolding Ranged
urgent_ranged i h = (omega arith, omega arith)

module _ (i : ℕ) (low : i < 16) (w : Window) (g : GoodWindow w) where
  pub id_low : (k : ℕ) → 64 ≤ id_at i w k
  id_low k = omega arith

  pub id_high : (k : ℕ) → id_at i w k < ids_end
  id_high k = let h = slot_small w g (past w k) in omega arith

  pub id_owner : (k : ℕ) → owner_of (id_at i w k) ≡ i
  unfolding owner_of
  id_owner k =
      let h = slot_small w g (past w k) in
      rw (le-ltb (id_at i w k) 32 (omega arith), le-ltb (id_at i w k) 64 (omega arith)) (omega arith)

  pub resend_ranged : (k : ℕ) → Ranged 2 (id_at i w k)
  unfolding Ranged
  resend_ranged k = (id_low k, id_high k)

  pub data_ranged : (k : ℕ) → Ranged 3 (id_at i w k)
  unfolding Ranged
  data_ranged k = (id_low k, id_high k)

-- ---- where it lies

-- how far back from a slot the window's start lies, for each size
back : (j W s k : ℕ) → j ≤ 7 → W ≡ 2 ^ j → s < 256 → k < W → ((s + k) % W + (256 - s)) % W ≡ k
back zero W s k l e b h =
    let f : (s k : ℕ) → s < 256 → k < 1 → ((s + k) % 1 + (256 - s)) % 1 ≡ k = λ s k b h. omega arith in
    subst (λ (x : ℕ). ((s + k) % x + (256 - s)) % x ≡ k) (sym e) (f s k b (rw e at h))
back (suc zero) W s k l e b h =
    let f : (s k : ℕ) → s < 256 → k < 2 → ((s + k) % 2 + (256 - s)) % 2 ≡ k = λ s k b h. omega arith in
    subst (λ (x : ℕ). ((s + k) % x + (256 - s)) % x ≡ k) (sym e) (f s k b (rw e at h))
back (suc (suc zero)) W s k l e b h =
    let f : (s k : ℕ) → s < 256 → k < 4 → ((s + k) % 4 + (256 - s)) % 4 ≡ k = λ s k b h. omega arith in
    subst (λ (x : ℕ). ((s + k) % x + (256 - s)) % x ≡ k) (sym e) (f s k b (rw e at h))
back (suc (suc (suc zero))) W s k l e b h =
    let f : (s k : ℕ) → s < 256 → k < 8 → ((s + k) % 8 + (256 - s)) % 8 ≡ k = λ s k b h. omega arith in
    subst (λ (x : ℕ). ((s + k) % x + (256 - s)) % x ≡ k) (sym e) (f s k b (rw e at h))
back (suc (suc (suc (suc zero)))) W s k l e b h =
    let f : (s k : ℕ) → s < 256 → k < 16 → ((s + k) % 16 + (256 - s)) % 16 ≡ k = λ s k b h. omega arith in
    subst (λ (x : ℕ). ((s + k) % x + (256 - s)) % x ≡ k) (sym e) (f s k b (rw e at h))
back (suc (suc (suc (suc (suc zero))))) W s k l e b h =
    let f : (s k : ℕ) → s < 256 → k < 32 → ((s + k) % 32 + (256 - s)) % 32 ≡ k = λ s k b h. omega arith in
    subst (λ (x : ℕ). ((s + k) % x + (256 - s)) % x ≡ k) (sym e) (f s k b (rw e at h))
back (suc (suc (suc (suc (suc (suc zero)))))) W s k l e b h =
    let f : (s k : ℕ) → s < 256 → k < 64 → ((s + k) % 64 + (256 - s)) % 64 ≡ k = λ s k b h. omega arith in
    subst (λ (x : ℕ). ((s + k) % x + (256 - s)) % x ≡ k) (sym e) (f s k b (rw e at h))
back (suc (suc (suc (suc (suc (suc (suc zero))))))) W s k l e b h =
    let f : (s k : ℕ) → s < 256 → k < 128 → ((s + k) % 128 + (256 - s)) % 128 ≡ k = λ s k b h. omega arith in
    subst (λ (x : ℕ). ((s + k) % x + (256 - s)) % x ≡ k) (sym e) (f s k b (rw e at h))
back (suc (suc (suc (suc (suc (suc (suc (suc j)))))))) W s k l e b h = absurd (omega arith)

module _ (w : Window) (g : GoodWindow w) where
  pub slot_at : (k : ℕ) → slot_for w (past w k) ≡ (w.start.0 + k) % w.size
  slot_at k =
      let p = size_pos w.size g.sized in
      rw (ne_eqb w.size 0 (λ e. omega arith)) (slot_byte w.size (w.start.0 + k) g.sized)

  -- two numbers of the window lie apart
  pub slot_inj : (a b : ℕ) → a < w.size → b < w.size → slot_for w (past w a) ≡ slot_for w (past w b) → a ≡ b
  slot_inj a b ha hb e = sides (dec_lt a b) (dec_lt b a)
    where
      same : (w.start.0 + a) % w.size ≡ (w.start.0 + b) % w.size
      same = sym (slot_at a) ∙ e ∙ slot_at b

      sides : Dec (a < b) → Dec (b < a) → a ≡ b
      sides (yes p) q = absurd (slots_apart w.size (w.start.0 + a) (w.start.0 + b) (omega arith) (omega arith) same)
      sides (no p) (yes q) = absurd (slots_apart w.size (w.start.0 + b) (w.start.0 + a) (omega arith) (omega arith) (sym same))
      sides (no p) (no q) = omega arith

  pub cell_inj : (i a b : ℕ) → a < w.size → b < w.size → cell i w (past w a) ≡ cell i w (past w b) → a ≡ b
  cell_inj i a b ha hb e = slot_inj a b ha hb (omega arith)

  pub id_inj : (i a b : ℕ) → a < w.size → b < w.size → id_at i w a ≡ id_at i w b → a ≡ b
  id_inj i a b ha hb e = slot_inj a b ha hb (omega arith)

  -- the number that uses the slot of the number k past the start is that one
  pub number_at : (k : ℕ) → k < w.size → number_in w (slot_for w (past w k)) ≡ past w k
  number_at k h =
      let p = size_power w.size g.sized in
      let n = size_pos w.size g.sized in
      rw (ne_eqb w.size 0 (λ e. omega arith)) (ap (past w)
      (slot_byte w.size (past w k % w.size + (256 - w.start.0)) g.sized
      ∙ ap (λ (x : ℕ). (x + (256 - w.start.0)) % w.size) (slot_byte w.size (w.start.0 + k) g.sized)
      ∙ back p.0 w.size w.start.0 k p.2 p.1 g.byte h))

-- ---- when the start moves

-- the numbers of a window that took a number in and passed what it could, and where they lay before
pub number_pass : (w : Window) (s k : ℕ) → past (pass_of (accept_of w s).window).window k ≡ past w (run_of (accept_of w s).window + k)
unfolding pass_of
number_pass w s k =
    let e : (accept_of w s).window.start.0 ≡ w.start.0 = ap (λ (q : Seq). q.0) (accept_start w s) in
    rw e (omega arith)

pub cell_pass : (i : ℕ) (w : Window) (s k : ℕ)
    → cell i (pass_of (accept_of w s).window).window (past (pass_of (accept_of w s).window).window k) ≡ cell i w (past w (run_of (accept_of w s).window + k))
unfolding pass_of
cell_pass i w s k = rw (number_pass w s k, accept_size w s)

-- ---- several of them

pub ids_more : (i : ℕ) (w : Window) (k n : ℕ) → ids i w k (suc n) ≡ ids i w k n ++ (id_at i w (k + n) ∷ [])
unfolding ids
ids_more i w k zero = rw (add-zero k)
ids_more i w k (suc n) = ap (λ (l : List ℕ). id_at i w k ∷ l) (ids_more i w (suc k) n ∙ ap (λ (j : ℕ). ids i w (suc k) n ++ (id_at i w j ∷ [])) (suc-add k n ∙ sym (add-suc k n)))

pub record Among (i : ℕ) (w : Window) (k n x : ℕ) : Type 0 where
  pub at : ℕ
  pub low : k ≤ at
  pub high : at < k + n
  pub is : x ≡ id_at i w at

pub ids_in : (i : ℕ) (w : Window) (k n x : ℕ) → Memᴰ x (ids i w k n) → Among i w k n x
unfolding ids
ids_in i w k zero x m = absurd (Memᴰ.not-nil m)
ids_in i w k (suc n) x m = ids_step i w k n x (ids_in i w (suc k) n x) (Memᴰ.cases_cons m)
  where
    ids_step : (i : ℕ) (w : Window) (k n x : ℕ) → (Memᴰ x (ids i w (suc k) n) → Among i w (suc k) n x) → (x ≡ id_at i w k) ⊎ Memᴰ x (ids i w (suc k) n) → Among i w k (suc n) x
    ids_step i w k n x below (inl e) = record { at = k; low = omega arith; high = omega arith; is = e }
    ids_step i w k n x below (inr m) = let a = below m in record { at = a.at; low = omega (arith, a.low); high = omega (arith, a.high); is = a.is }

pub ids_all : (i : ℕ) (w : Window) (k n j : ℕ) → k ≤ j → j < k + n → Memᴰ (id_at i w j) (ids i w k n)
unfolding ids
ids_all i w k zero j l h = absurd (omega arith)
ids_all i w k (suc n) j l h = ids_either (λ m. ids_all i w (suc k) n j m (omega arith)) (dec_lt k j)
  where
    ids_either : (k < j → Memᴰ (id_at i w j) (ids i w (suc k) n)) → Dec (k < j) → Memᴰ (id_at i w j) (id_at i w k ∷ ids i w (suc k) n)
    ids_either below (yes p) = Memᴰ.tail (below p)
    ids_either below (no p) = Memᴰ.head (let e : j ≡ k = omega arith in ap (id_at i w) e)

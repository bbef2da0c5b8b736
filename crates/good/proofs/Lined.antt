-- The four queues together: one more at the end of one, one out of the middle of one, and a store beyond the links. Assumes nothing.
use Prim.Native.Nat.{ℕ, ◌≤◌, ◌<◌}
use mathlib.Core.Path.{◌≡◌, refl, sym, ap, subst, ◌∙◌}
use mathlib.Core.Logic.{◌≢◌, ◌⊎◌, inl, inr}
use mathlib.Core.Bool.{Bool, true, false}
use mathlib.Core.List.Memᴰ
use mathlib.Core.List.{List, [], ◌∷◌, ◌++◌, Memᴰ}
use native.Mathlib.Decide.{ℕ_discrete}
use native.Mathlib.Omega.{arith}
use lib.ListN.{length, get_or, set, length-set}
use lib.Dec.{eqb}
use borrow.Author.Tests.{eq-eqb, ne_eqb, eqb-true}
use Rattle.units.specs.Refusals.{pick}
use Rattle.memory.specs.Layout.{cells_at, ids_end, under_at, next_at, prev_at, book_halves}
use Rattle.waiting.specs.Queues.{prev_of, next_of, joined, appended, unlinked}
use Rattle.waiting.specs.Order.{Queue, Out}
use Rattle.waiting.specs.Port.{under_in}
use Rattle.waiting.proofs.Linked.{last, first, append_queue, append_other, append_beyond, append_aside, unlink_queue, unlink_other, unlink_beyond, unlink_aside, beyond_queue, aside_queue}
use Rattle.good.specs.Good.{Lists, Lines}
use Rattle.good.proofs.Members.{mem_out, below_mem, last_mem, first_mem, Split, split, distinct_mid, without, without_out, without_mid, without_in}

-- the lists with x last in q, and without x
abbrev pub added : Lists → ℕ → ℕ → Lists
added l q x = λ r. pick (eqb r q) (l r ++ (x ∷ [])) (l r)

abbrev pub less : Lists → ℕ → Lists
less l x = λ r. without x (l r)

pub added_here : (l : Lists) (q x : ℕ) → added l q x q ≡ l q ++ (x ∷ [])
added_here l q x = rw (eq-eqb q q refl)

pub added_there : (l : Lists) (q x r : ℕ) → r ≢ q → added l q x r ≡ l r
added_there l q x r n = rw (ne_eqb r q n)

-- who waits then
pub added_in : (l : Lists) (q x r y : ℕ) → Memᴰ y (added l q x r) → Memᴰ y (l r) ⊎ ((r ≡ q) × (y ≡ x))
added_in l q x r y m = sides (eqb r q) refl m
  where
    one : r ≡ q → Memᴰ y (l r) ⊎ Memᴰ y (x ∷ []) → Memᴰ y (l r) ⊎ ((r ≡ q) × (y ≡ x))
    one e (inl k) = inl k
    one e (inr k) = inr (e, Memᴰ.eq_of_singleton k)

    sides : (t : Bool) → eqb r q ≡ t → Memᴰ y (pick t (l r ++ (x ∷ [])) (l r)) → Memᴰ y (l r) ⊎ ((r ≡ q) × (y ≡ x))
    sides true e k = one (eqb-true r q e) (Memᴰ.append_cases (l r) k)
    sides false e k = inl k

module _ (b : List ℕ) (l : Lists) (L : Lines b l) where
  -- a queue's own number waits in none
  pub own_out : (q r : ℕ) → q < 4 → r < 4 → q ≢ r → Out q (r ∷ l r)
  own_out q r hq hr n = (n, mem_out q (l r) (λ m. let h = L.high r hr q m in omega arith))

  -- nor does what waits in one wait in another, or stand for it
  apart_out : (q r : ℕ) → q < 4 → r < 4 → q ≢ r → (x : ℕ) → (x ≡ q) ⊎ Memᴰ x (l q) → Out x (r ∷ l r)
  apart_out q r hq hr n x (inl e) = subst (λ (y : ℕ). Out y (r ∷ l r)) (sym e) (own_out q r hq hr n)
  apart_out q r hq hr n x (inr m) =
      (λ e. let h = L.high q hq x m in omega arith, mem_out x (l r) (λ k. L.apart q r hq hr n x m k))

  -- nor does the number in whose place the frame under way stands
  port_out : (q : ℕ) → q < 4 → Out under_at (q ∷ l q)
  port_out q hq = (λ e. omega arith, mem_out under_at (l q) (λ m. let h = L.high q hq under_at m in omega arith))

  pub waits_below : (q : ℕ) → q < 4 → (x : ℕ) → Memᴰ x (l q) → x < ids_end
  waits_below q h x m = below_mem ids_end x (l q) (L.queue q h).below.1 m

  module _ (q x : ℕ) (hq : q < 4) (low : 16 ≤ x) (hx : x < ids_end) (none : (r : ℕ) → r < 4 → Memᴰ x (l r) → ⊥) where
    alone : Out x (q ∷ l q)
    alone = (λ e. omega arith, mem_out x (l q) (none q hq))

    append_each : (r : ℕ) → r < 4 → Queue (appended b q x) r (added l q x r)
    append_each r hr = sides (ℕ_discrete r q)
      where
        sides : Dec (r ≡ q) → Queue (appended b q x) r (added l q x r)
        sides (yes e) =
            subst (λ (k : ℕ). Queue (appended b q x) k (added l q x k)) (sym e)
            (subst (λ (k : List ℕ). Queue (appended b q x) q k) (sym (added_here l q x)) (append_queue b L.long q x (l q) (L.queue q hq) hx alone))
        sides (no n) =
            subst (λ (k : List ℕ). Queue (appended b q x) r k) (sym (added_there l q x r n))
            (append_other b L.long q x (l q) (L.queue q hq) hx alone r (l r) (L.queue r hr) (own_out q r hq hr (λ e. n (sym e)))
            (λ e. omega arith, mem_out x (l r) (none r hr))
            (apart_out q r hq hr (λ e. n (sym e)) (last q (l q)) (last_mem q (l q))))

    append_apart : (r s : ℕ) → r < 4 → s < 4 → r ≢ s → (y : ℕ) → Memᴰ y (added l q x r) → Memᴰ y (added l q x s) → ⊥
    append_apart r s hr hs n y m k = sides (added_in l q x r y m) (added_in l q x s y k)
      where
        sides : Memᴰ y (l r) ⊎ ((r ≡ q) × (y ≡ x)) → Memᴰ y (l s) ⊎ ((s ≡ q) × (y ≡ x)) → ⊥
        sides (inl a) (inl c) = L.apart r s hr hs n y a c
        sides (inl a) (inr c) = none r hr (Memᴰ.cast (sym c.1) a)
        sides (inr a) (inl c) = none s hs (Memᴰ.cast (sym a.1) c)
        sides (inr a) (inr c) = n (a.0 ∙ sym c.0)

    pub append_long : length (appended b q x) ≡ book_halves
    unfolding appended
    append_long =
        length-set (set (joined b (prev_of b q) x) (next_at x) q) (prev_at q) x
        ∙ length-set (joined b (prev_of b q) x) (next_at x) q
        ∙ length-set (set b (next_at (prev_of b q)) x) (prev_at x) (prev_of b q)
        ∙ length-set b (next_at (prev_of b q)) x
        ∙ L.long

    pub append_lines : Lines (appended b q x) (added l q x)
    append_lines =
        record {
          long = append_long;
          queue = append_each;
          high = λ r hr y m. sides y (L.high r hr y) (added_in l q x r y m);
          apart = append_apart;
        }
      where
        sides : {r : ℕ} (y : ℕ) → (Memᴰ y (l r) → 16 ≤ y) → Memᴰ y (l r) ⊎ ((r ≡ q) × (y ≡ x)) → 16 ≤ y
        sides y h (inl m) = h m
        sides y h (inr e) = rw e.1 low

    pub append_cells : (k : ℕ) → cells_at ≤ k → get_or (appended b q x) k 0 ≡ get_or b k 0
    append_cells k h = append_beyond b L.long q x (l q) (L.queue q hq) hx alone k h

    -- what is under way stays
    pub append_under : under_in (appended b q x) ≡ under_in b
    append_under = append_aside b L.long q x (l q) (L.queue q hq) hx alone under_at (omega arith) (λ e. omega arith) (port_out q hq)

  module _ (q x : ℕ) (hq : q < 4) (m : Memᴰ x (l q)) where
    s : Split x (l q)
    s = split x (l q) m

    -- the queue as it stands around x
    w : Queue b q (s.before ++ (x ∷ s.after))
    w = subst (Queue b q) s.parts (L.queue q hq)

    once : Out x s.before × Out x s.after
    once = distinct_mid x s.before s.after w.distinct.1

    left : without x (l q) ≡ s.before ++ s.after
    left = ap (without x) s.parts ∙ without_mid x s.before s.after once.0 once.1

    was_before : (y : ℕ) → Memᴰ y s.before → Memᴰ y (l q)
    was_before y k = subst (λ (ys : List ℕ). Memᴰ y ys) (sym s.parts) (Memᴰ.append_left (x ∷ s.after) k)

    was_after : (y : ℕ) → Memᴰ y s.after → Memᴰ y (l q)
    was_after y k = subst (λ (ys : List ℕ). Memᴰ y ys) (sym s.parts) (Memᴰ.append_right s.before (Memᴰ.tail k))

    unlink_each : (r : ℕ) → r < 4 → Queue (unlinked b x) r (less l x r)
    unlink_each r hr = sides (ℕ_discrete r q)
      where
        around : (r ≢ q) → (y : ℕ) → (y ≡ q) ⊎ Memᴰ y (l q) → Out y (r ∷ l r)
        around n y h = apart_out q r hq hr (λ e. n (sym e)) y h

        lift : {ys : List ℕ} (y : ℕ) → ((z : ℕ) → Memᴰ z ys → Memᴰ z (l q)) → (y ≡ q) ⊎ Memᴰ y ys → (y ≡ q) ⊎ Memᴰ y (l q)
        lift y f (inl e) = inl e
        lift y f (inr k) = inr (f y k)

        sides : Dec (r ≡ q) → Queue (unlinked b x) r (less l x r)
        sides (yes e) =
            subst (λ (k : ℕ). Queue (unlinked b x) k (less l x k)) (sym e)
            (subst (Queue (unlinked b x) q) (sym left) (unlink_queue b L.long q x s.before s.after w))
        sides (no n) =
            subst (Queue (unlinked b x) r) (sym (without_out x (l r) (around n x (inr m)).1))
            (unlink_other b L.long q x s.before s.after w r (l r) (L.queue r hr)
            (around n (last q s.before) (lift (last q s.before) was_before (last_mem q s.before)))
            (around n (first s.after q) (lift (first s.after q) was_after (first_mem s.after q))))

    unlink_long : length (unlinked b x) ≡ book_halves
    unfolding unlinked
    unlink_long = length-set (set b (next_at (prev_of b x)) (next_of b x)) (prev_at (next_of b x)) (prev_of b x) ∙ length-set b (next_at (prev_of b x)) (next_of b x) ∙ L.long

    pub unlink_lines : Lines (unlinked b x) (less l x)
    unlink_lines =
        record {
          long = unlink_long;
          queue = unlink_each;
          high = λ r hr y k. L.high r hr y (without_in x y (l r) k).0;
          apart = λ r t hr ht n y k j. L.apart r t hr ht n y (without_in x y (l r) k).0 (without_in x y (l t) j).0;
        }

    pub unlink_cells : (k : ℕ) → cells_at ≤ k → get_or (unlinked b x) k 0 ≡ get_or b k 0
    unlink_cells k h = unlink_beyond b L.long q x s.before s.after w k h

    pub unlink_under : under_in (unlinked b x) ≡ under_in b
    unlink_under =
        let o : Out under_at (q ∷ s.before) = (λ e. omega arith, mem_out under_at s.before (λ k. let h = L.high q hq under_at (was_before under_at k) in omega arith)) in
        unlink_aside b L.long q x s.before s.after w under_at (omega arith) o

  -- another frame is under way, or none
  pub port_lines : (u : ℕ) → Lines (set b under_at u) l
  port_lines u =
      record {
        long = length-set b under_at u ∙ L.long;
        queue = λ r hr. aside_queue b under_at u r (l r) (omega arith) (port_out r hr) (L.queue r hr);
        high = L.high;
        apart = L.apart;
      }

  pub set_lines : (k v : ℕ) → cells_at ≤ k → Lines (set b k v) l
  set_lines k v h =
      record {
        long = length-set b k v ∙ L.long;
        queue = λ r hr. beyond_queue b k v r (l r) h (L.queue r hr);
        high = L.high;
        apart = L.apart;
      }

-- Laws of the ring of acknowledgements: pushing is one more at the end, popping takes the oldest, dropping an entry's leaves the others in
-- their order. Assumes nothing.
use Prim.Native.Nat.{ℕ, zero, suc, ◌+◌, ◌-◌, ◌/◌, ◌%◌, ◌≤◌, ◌<◌}
use mathlib.Core.Path.{◌≡◌, refl, sym, ap, ◌∙◌, subst}
use mathlib.Core.Bool.{Bool, true, false}
use mathlib.Core.List.{List, [], ◌∷◌, ◌++◌, append_assoc}
use native.Mathlib.Nat.{mod-lt}
use native.Mathlib.Numerals.{add-one}
use native.Mathlib.Omega.{arith}
use lib.ListN.{length, get_or, set, take, drop, length-set, drop_of_length-le}
use lib.Seq.{get_or-set_same, get_or-set_other, drop-cons, take-suc, take_all}
use lib.Dec.{eqb}
use Rattle.units.specs.Refusals.{pick}
use Rattle.memory.specs.Layout.{oldest_at, acks_at, ack_at}
use Rattle.waiting.specs.Acks.{place_of, waiting_of, oldest_of, pushed, popped, turned, turns, dropped}
use Rattle.waiting.specs.Order.{from, acks_in, not_of}

-- a node whose ring is one: it has all its places, and no more wait than they hold
pub record Ring (ws : List ℕ) : Type 0 where
  pub long : 64 ≤ length ws
  pub most : waiting_of ws ≤ 32

-- ---- the places

-- the place d past k, seen from one further
step : (k d : ℕ) → k < 32 → ((k + 1) % 32 + d) % 32 ≡ (k + suc d) % 32
step k d h = omega arith

apart : (k d : ℕ) → k < 32 → d < 31 → k ≡ (k + suc d) % 32 → ⊥
apart k d h l e = omega arith

-- a store that is none of the ring's places leaves what waits
elsewhere : (ws : List ℕ) (j v k n : ℕ) → ((m : ℕ) → m < 32 → ack_at m ≡ j → ⊥) → k < 32 → from (set ws j v) k n ≡ from ws k n
unfolding from
elsewhere ws j v k zero h l = refl
elsewhere ws j v k (suc n) h l =
    let g : get_or (set ws j v) (ack_at k) 0 ≡ get_or ws (ack_at k) 0 = get_or-set_other ws j (ack_at k) v 0 (h k l) in
    let r : from (set ws j v) ((k + 1) % 32) n ≡ from ws ((k + 1) % 32) n = elsewhere ws j v ((k + 1) % 32) n h (mod-lt (k + 1) (omega arith)) in
    rw (g, r)

-- a store right behind the n that wait is one more
behind : (ws : List ℕ) (v k n : ℕ) → 64 ≤ length ws → k < 32 → n < 32 → from (set ws (ack_at ((k + n) % 32)) v) k (suc n) ≡ from ws k n ++ (v ∷ [])
unfolding from
behind ws v k zero l p m =
    let e : (k + 0) % 32 ≡ k = omega arith in
    rw (e, get_or-set_same ws (ack_at k) v 0 (omega arith))
behind ws v k (suc n) l p m =
    let g : get_or (set ws (ack_at ((k + suc n) % 32)) v) (ack_at k) 0 ≡ get_or ws (ack_at k) 0 =
    get_or-set_other ws (ack_at ((k + suc n) % 32)) (ack_at k) v 0 (λ e. apart k n p (omega arith) (omega arith)) in
    let r : from (set ws (ack_at ((k + suc n) % 32)) v) ((k + 1) % 32) (suc n) ≡ from ws ((k + 1) % 32) n ++ (v ∷ []) =
    subst (λ (x : ℕ). from (set ws (ack_at x) v) ((k + 1) % 32) (suc n) ≡ from ws ((k + 1) % 32) n ++ (v ∷ [])) (step k n p)
    (behind ws v ((k + 1) % 32) n l (mod-lt (k + 1) (omega arith)) (omega arith)) in
    rw g (ap (λ (t : List ℕ). get_or ws (ack_at k) 0 ∷ t) r)

pub from_length : (ws : List ℕ) (k n : ℕ) → length (from ws k n) ≡ n
unfolding from
from_length ws k zero = refl
from_length ws k (suc n) = ap suc (from_length ws ((k + 1) % 32) n)

off_ring : (j : ℕ) → j < 32 → (m : ℕ) → m < 32 → ack_at m ≡ j → ⊥
off_ring j h m l e = omega arith

-- ---- one more, and one less

module _ (ws : List ℕ) (r : Ring ws) where
  abbrev at : ℕ → ℕ
  at w = ack_at ((place_of ws + waiting_of ws) % 32)

  pub push_place : (w : ℕ) → place_of (pushed ws w) ≡ place_of ws
  unfolding pushed
  push_place w =
      ap (λ (x : ℕ). x % 32)
      (get_or-set_other (set ws (at w) w) acks_at oldest_at (waiting_of ws + 1) 0 (λ e. omega arith) ∙ get_or-set_other ws (at w) oldest_at w 0 (λ e. omega arith))

  pub push_waiting : (w : ℕ) → waiting_of ws < 32 → waiting_of (pushed ws w) ≡ waiting_of ws + 1
  unfolding pushed
  push_waiting w h =
      let e : get_or (set (set ws (at w) w) acks_at (waiting_of ws + 1)) acks_at 0 ≡ waiting_of ws + 1 =
      get_or-set_same (set ws (at w) w) acks_at (waiting_of ws + 1) 0 (rw (length-set ws (at w) w) (let l = r.long in omega arith)) in
      rw e (omega arith)

  push_from : (w : ℕ) → waiting_of ws < 32 → from (pushed ws w) (place_of ws) (suc (waiting_of ws)) ≡ from ws (place_of ws) (waiting_of ws) ++ (w ∷ [])
  unfolding pushed
  push_from w h =
      elsewhere (set ws (at w) w) acks_at (waiting_of ws + 1) (place_of ws) (suc (waiting_of ws)) (off_ring acks_at (omega arith)) (omega arith)
      ∙ behind ws w (place_of ws) (waiting_of ws) r.long (omega arith) h

  pub push_acks : (w : ℕ) → waiting_of ws < 32 → acks_in (pushed ws w) ≡ acks_in ws ++ (w ∷ [])
  push_acks w h = rw (push_place w, push_waiting w h, add-one (waiting_of ws)) (push_from w h)

  pub push_ring : (w : ℕ) → waiting_of ws < 32 → Ring (pushed ws w)
  unfolding pushed
  push_ring w h =
      record {
        long = rw (length-set (set ws (at w) w) acks_at (waiting_of ws + 1), length-set ws (at w) w) r.long;
        most = rw (push_waiting w h) (omega arith);
      }

  -- the rest of the node stays
  pub push_rest : (w k : ℕ) → 64 ≤ k → get_or (pushed ws w) k 0 ≡ get_or ws k 0
  unfolding pushed
  push_rest w k h =
      get_or-set_other (set ws (at w) w) acks_at k (waiting_of ws + 1) 0 (λ e. omega arith) ∙ get_or-set_other ws (at w) k w 0 (λ e. omega arith)

  pub pop_place : place_of (popped ws) ≡ (place_of ws + 1) % 32
  unfolding popped
  pop_place =
      let e : get_or (set (set ws oldest_at ((place_of ws + 1) % 32)) acks_at ((waiting_of ws + 63) % 64)) oldest_at 0 ≡ (place_of ws + 1) % 32 =
      get_or-set_other (set ws oldest_at ((place_of ws + 1) % 32)) acks_at oldest_at ((waiting_of ws + 63) % 64) 0 (λ e. omega arith)
      ∙ get_or-set_same ws oldest_at ((place_of ws + 1) % 32) 0 (let l = r.long in omega arith) in
      rw e (omega arith)

  pub pop_waiting : 0 < waiting_of ws → waiting_of (popped ws) ≡ waiting_of ws - 1
  unfolding popped
  pop_waiting h =
      let e : get_or (set (set ws oldest_at ((place_of ws + 1) % 32)) acks_at ((waiting_of ws + 63) % 64)) acks_at 0 ≡ (waiting_of ws + 63) % 64 =
      get_or-set_same (set ws oldest_at ((place_of ws + 1) % 32)) acks_at ((waiting_of ws + 63) % 64) 0 (rw (length-set ws oldest_at ((place_of ws + 1) % 32)) (let l = r.long in omega arith)) in
      rw e (let m = r.most in omega arith)

  pop_from : from (popped ws) ((place_of ws + 1) % 32) (waiting_of ws - 1) ≡ from ws ((place_of ws + 1) % 32) (waiting_of ws - 1)
  unfolding popped
  pop_from =
      elsewhere (set ws oldest_at ((place_of ws + 1) % 32)) acks_at ((waiting_of ws + 63) % 64) ((place_of ws + 1) % 32) (waiting_of ws - 1) (off_ring acks_at (omega arith)) (mod-lt (place_of ws + 1) (omega arith))
      ∙ elsewhere ws oldest_at ((place_of ws + 1) % 32) ((place_of ws + 1) % 32) (waiting_of ws - 1) (off_ring oldest_at (omega arith)) (mod-lt (place_of ws + 1) (omega arith))

  -- those that wait are the oldest and what a pop leaves
  pub pop_acks : 0 < waiting_of ws → acks_in ws ≡ oldest_of ws ∷ acks_in (popped ws)
  unfolding from
  pop_acks h =
      let c : waiting_of ws ≡ suc (waiting_of ws - 1) = omega arith in
      rw (pop_place, pop_waiting h, pop_from)
      (subst (λ (n : ℕ). from ws (place_of ws) n ≡ from ws (place_of ws) (suc (waiting_of ws - 1))) (sym c) refl)

  pub pop_ring : 0 < waiting_of ws → Ring (popped ws)
  unfolding popped
  pop_ring h =
      record {
        long = rw (length-set (set ws oldest_at ((place_of ws + 1) % 32)) acks_at ((waiting_of ws + 63) % 64), length-set ws oldest_at ((place_of ws + 1) % 32)) r.long;
        most = rw (pop_waiting h) (let m = r.most in omega arith);
      }

  pub pop_rest : (k : ℕ) → 64 ≤ k → get_or (popped ws) k 0 ≡ get_or ws k 0
  unfolding popped
  pop_rest k h =
      get_or-set_other (set ws oldest_at ((place_of ws + 1) % 32)) acks_at k ((waiting_of ws + 63) % 64) 0 (λ e. omega arith)
      ∙ get_or-set_other ws oldest_at k ((place_of ws + 1) % 32) 0 (λ e. omega arith)

-- ---- an entry's are dropped

append_nil : (a : List ℕ) → a ++ [] ≡ a
append_nil [] = refl
append_nil (x ∷ a) = ap (λ (l : List ℕ). x ∷ l) (append_nil a)

pick_append : (b : Bool) (x : ℕ) (a c : List ℕ) → pick b (a ++ c) (x ∷ (a ++ c)) ≡ pick b a (x ∷ a) ++ c
pick_append true x a c = refl
pick_append false x a c = refl

pub not_append : (i : ℕ) (xs ys : List ℕ) → not_of i (xs ++ ys) ≡ not_of i xs ++ not_of i ys
not_append i [] ys = refl
not_append i (x ∷ xs) ys = rw (not_append i xs ys) (pick_append (eqb (x / 256 % 256) i) x (not_of i xs) (not_of i ys))

-- one turn
turn_acks : (i : ℕ) (ws : List ℕ) → Ring ws → (x : ℕ) (xs : List ℕ) → acks_in ws ≡ x ∷ xs
    → (acks_in (turned i ws) ≡ xs ++ not_of i (x ∷ [])) × Ring (turned i ws) × ((k : ℕ) → 64 ≤ k → get_or (turned i ws) k 0 ≡ get_or ws k 0)
unfolding turned
turn_acks i ws r x xs e = cases (eqb (oldest_of ws / 256 % 256) i) refl
  where
    some : 0 < waiting_of ws
    some = omega (arith, sym (from_length ws (place_of ws) (waiting_of ws)) ∙ ap length e)

    both : oldest_of ws ∷ acks_in (popped ws) ≡ x ∷ xs
    both = sym (pop_acks ws r some) ∙ e

    is_x : oldest_of ws ≡ x
    is_x = cc both

    rest : acks_in (popped ws) ≡ xs
    rest = cc both

    room : waiting_of (popped ws) < 32
    room = omega (arith, pop_waiting ws r some, r.most)

    cases : (b : Bool) → eqb (oldest_of ws / 256 % 256) i ≡ b
        → (acks_in (pick b (popped ws) (pushed (popped ws) (oldest_of ws))) ≡ xs ++ pick (eqb (x / 256 % 256) i) [] (x ∷ []))
        × Ring (pick b (popped ws) (pushed (popped ws) (oldest_of ws)))
        × ((k : ℕ) → 64 ≤ k → get_or (pick b (popped ws) (pushed (popped ws) (oldest_of ws))) k 0 ≡ get_or ws k 0)
    cases true t = (rw (← is_x, t) (rest ∙ sym (append_nil xs)), pop_ring ws r some, λ k h. pop_rest ws r k h)
    cases false t = (
      rw (← is_x, t) (push_acks (popped ws) (pop_ring ws r some) (oldest_of ws) room ∙ ap (λ (l : List ℕ). l ++ (oldest_of ws ∷ [])) rest),
      push_ring (popped ws) (pop_ring ws r some) (oldest_of ws) room,
      λ k h. push_rest (popped ws) (pop_ring ws r some) (oldest_of ws) k h ∙ pop_rest ws r k h,
    )

-- after k turns: those not yet seen, and then those that stay of those seen
turns_acks : (i k : ℕ) (ws : List ℕ) → Ring ws → k ≤ waiting_of ws
    → (acks_in (turns i k ws) ≡ drop k (acks_in ws) ++ not_of i (take k (acks_in ws))) × Ring (turns i k ws) × ((j : ℕ) → 64 ≤ j → get_or (turns i k ws) j 0 ≡ get_or ws j 0)
unfolding turns
turns_acks i zero ws r h = (sym (append_nil (acks_in ws)), r, λ j l. refl)
turns_acks i (suc k) ws r h =
    let xs = acks_in ws in
    let t = turns_acks i k ws r (omega arith) in
    let l : k < length xs = omega (arith, from_length ws (place_of ws) (waiting_of ws)) in
    let u = turn_acks i (turns i k ws) t.1 (get_or xs k 0) (drop (suc k) xs ++ not_of i (take k xs)) (t.0 ∙ ap (λ (z : List ℕ). z ++ not_of i (take k xs)) (drop-cons xs k 0 l)) in
    (u.0 ∙ rw (take-suc xs k 0, not_append, append_assoc) refl, u.1, λ j m. u.2 j m ∙ t.2 j m)

module _ (i : ℕ) (ws : List ℕ) (r : Ring ws) where
  -- a full turn leaves those of the others, in their order
  pub drop_acks : acks_in (dropped i ws) ≡ not_of i (acks_in ws)
  drop_acks =
      let l = from_length ws (place_of ws) (waiting_of ws) in
      (turns_acks i (waiting_of ws) ws r (omega arith)).0
      ∙ rw (drop_of_length-le (acks_in ws) {i = waiting_of ws} (omega (arith, l)), take_all (waiting_of ws) (acks_in ws) (omega (arith, l)))

  pub drop_ring : Ring (dropped i ws)
  drop_ring = (turns_acks i (waiting_of ws) ws r (omega arith)).1

  pub drop_rest : (k : ℕ) → 64 ≤ k → get_or (dropped i ws) k 0 ≡ get_or ws k 0
  drop_rest k h = (turns_acks i (waiting_of ws) ws r (omega arith)).2 k h

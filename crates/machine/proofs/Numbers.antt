-- A sender's numbers as a tick leaves them, by their position: timers and retries, which number is spent, and which wait
-- again. Assumes nothing.
use Prim.Native.Nat.{ℕ, zero, suc, ◌+◌, ◌-◌, ◌≤◌, ◌<◌}
use mathlib.Core.Path.{◌≡◌, refl, sym, ap, subst, ◌∙◌}
use mathlib.Core.Bool.{Bool, true, false, not, ◌&&◌, ◌||◌, or-true}
use mathlib.Core.Option.{some}
use mathlib.Core.List.{List, [], ◌∷◌, Memᴰ}
use native.Mathlib.Omega.{arith}
use lib.ListN.{length, get_elem?}
use lib.Dec.{eqb, leb}
use borrow.Author.Tests.{eq-eqb, eqb-true, le-leb, lt-leb}
use Rattle.std.proofs.lemmas.Bool.{or_parts}
use Rattle.units.specs.Refusals.{pick}
use Rattle.machine.specs.Machine.{Number, End, past, is_spent, fallen, ticked_all, any_spent}
use Rattle.machine.specs.Laws.{item}
use Rattle.machine.specs.LawsTick.{due_from, Falls, AllFall, Retried}
use Rattle.machine.proofs.Entries.{not_none}

-- ---- timers

pub count_fallen : (M : ℕ) (again : Bool) (xs : List Number) → length (ticked_all M again xs) ≡ length xs
unfolding ticked_all
count_fallen M again [] = refl
count_fallen M again (x ∷ xs) = ap suc (count_fallen M (again && not (is_spent M x)) xs)

fallen_falls : (again : Bool) (x x' y : Number) → x ≡ x' → fallen again x ≡ y → Falls x' y
fallen_falls again x x' y a b =
    record {
      timer = ap (λ (n : Number). n.timer) (sym b) ∙ ap (λ (n : Number). n.timer - 1) a;
      payload = ap (λ (n : Number). n.payload) (sym b) ∙ ap (λ (n : Number). n.payload) a;
      handed = ap (λ (n : Number). n.handed) (sym b) ∙ ap (λ (n : Number). n.handed) a;
      acked = ap (λ (n : Number). n.acked) (sym b) ∙ ap (λ (n : Number). n.acked) a;
    }

each_falls : (M : ℕ) (again : Bool) (xs : List Number) (k : ℕ) (x y : Number) → get_elem? xs k ≡ some x → get_elem? (ticked_all M again xs) k ≡ some y → Falls x y
unfolding ticked_all
each_falls M again [] k x y h g = not_none h
each_falls M again (z ∷ zs) zero x y h g = fallen_falls (again && not (is_spent M z)) z x y (cc) (cc)
each_falls M again (z ∷ zs) (suc k) x y h g = each_falls M (again && not (is_spent M z)) zs k x y h g

pub all_fall : (M : ℕ) (again : Bool) (xs : List Number) → AllFall xs (ticked_all M again xs)
all_fall M again xs = record { count = count_fallen M again xs; each = each_falls M again xs }

-- ---- retries

pub none_retried : (M : ℕ) (xs : List Number) → Retried (λ x. 0) xs (ticked_all M false xs)
unfolding ticked_all
none_retried M [] k x y h g = not_none h
none_retried M (z ∷ zs) zero x y h g =
    let a : z ≡ x = cc in
    let b : fallen false z ≡ y = cc in
    let c : y.retries ≡ x.retries = ap (λ (n : Number). n.retries) (sym b) ∙ ap (λ (n : Number). n.retries) a in
    omega arith
none_retried M (z ∷ zs) (suc k) x y h g = none_retried M zs k x y h g

pub due_retried : (M : ℕ) (xs : List Number) → any_spent M xs ≡ false → Retried (λ x. pick (eqb x.timer 1) 1 0) xs (ticked_all M true xs)
unfolding ticked_all any_spent
due_retried M [] n k x y h g = not_none h
due_retried M (z ∷ zs) n zero x y h g =
    let s = or_parts (is_spent M z) (any_spent M zs) n in
    let a : z ≡ x = cc in
    let b : fallen (not (is_spent M z)) z ≡ y = cc in
    rw (← b, ← a, s.0) (sides (eqb z.timer 1))
  where
    sides : (b : Bool) → pick b (z.retries + 1) z.retries ≡ z.retries + pick b 1 0
    sides true = refl
    sides false = omega arith
due_retried M (z ∷ zs) n (suc k) x y h g =
    let s = or_parts (is_spent M z) (any_spent M zs) n in
    due_retried M zs s.1 k x y h (subst (λ (b : Bool). get_elem? (ticked_all M (not b) zs) k ≡ some y) s.0 g)

-- ---- which is spent

pub some_spent : (M : ℕ) (xs : List Number) (k : ℕ) (x : Number) → get_elem? xs k ≡ some x → x.timer ≡ 1 → M ≤ x.retries → any_spent M xs ≡ true
unfolding any_spent
some_spent M [] k x h t r = not_none h
some_spent M (z ∷ zs) zero x h t r =
    let a : z ≡ x = cc in
    rw (a, eq-eqb x.timer 1 t, le-leb M x.retries r)
some_spent M (z ∷ zs) (suc k) x h t r = rw (some_spent M zs k x h t r) (or-true (is_spent M z))

pub none_spent : (M : ℕ) (xs : List Number) → ((k : ℕ) (x : Number) → get_elem? xs k ≡ some x → x.timer ≡ 1 → x.retries < M) → any_spent M xs ≡ false
unfolding any_spent
none_spent M [] h = refl
none_spent M (z ∷ zs) h = rw (none_spent M zs (λ k. h (suc k))) (sides (eqb z.timer 1) refl)
  where
    sides : (b : Bool) → eqb z.timer 1 ≡ b → (b && leb M z.retries || false) ≡ false
    sides true t = rw (lt-leb M z.retries (h 0 z refl (eqb-true z.timer 1 t)))
    sides false t = refl

-- ---- which wait again

pub due_in : (i : ℕ) (e : End) (j : ℕ) (xs : List Number) (k : ℕ) (x : Number) → get_elem? xs k ≡ some x → x.timer ≡ 1
    → Memᴰ (item i (past e (j + k))) (due_from i e j xs)
unfolding due_from
due_in i e j [] k x h t = not_none h
due_in i e j (z ∷ zs) zero x h t =
    let a : z ≡ x = cc in
    let n : j + 0 ≡ j = omega arith in
    rw (a, eq-eqb x.timer 1 t, n) (Memᴰ.head refl)
due_in i e j (z ∷ zs) (suc k) x h t =
    let n : j + suc k ≡ suc j + k = omega arith in
    rw n (sides (eqb z.timer 1) (due_in i e (suc j) zs k x h t))
  where
    sides : (b : Bool) → Memᴰ (item i (past e (suc j + k))) (due_from i e (suc j) zs)
        → Memᴰ (item i (past e (suc j + k))) (pick b (item i (past e j) ∷ due_from i e (suc j) zs) (due_from i e (suc j) zs))
    sides true d = Memᴰ.tail d
    sides false d = d

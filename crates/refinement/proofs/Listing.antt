-- Counts and maps over lists; and the book: a queue holds one list only, and what it holds once two cells are put and
-- one more waits. Assumes nothing.
use Prim.Native.Nat.{ℕ, zero, suc, ◌≤◌, ◌<◌}
use mathlib.Core.Path.{◌≡◌, refl, sym, ap, subst, ◌∙◌}
use mathlib.Core.Logic.{◌≢◌}
use mathlib.Core.List.{List, [], ◌∷◌, ◌++◌, map, Memᴰ}
use native.Mathlib.Decide.{dec_lt}
use native.Mathlib.Omega.{arith}
use lib.ListN.{get_or, set, length-set}
use lib.Seq.{get_or-set_same, get_or-set_other}
use Rattle.memory.specs.Layout.{cells_at, ids_end, under_at, reset_id, book_halves}
use Rattle.waiting.specs.Queues.{appended}
use Rattle.waiting.specs.Order.{Chain, Out, Queue}
use Rattle.waiting.specs.Port.{under_in}
use Rattle.good.specs.Good.{Lists, Lines}
use Rattle.good.proofs.Lined.{added, append_lines, append_cells, append_under, set_lines}

-- ---- what no step alters from m on

pub beyond : {A : Type 0} (f : ℕ → A) (m : ℕ) → ((k : ℕ) → m ≤ k → f (suc k) ≡ f k) → (k : ℕ) → m ≤ k → f k ≡ f m
beyond f m h zero l = let z : 0 ≡ m = omega arith in ap f z
beyond f m h (suc k) l = sides (beyond f m h k) (dec_lt k m)
  where
    sides : (m ≤ k → f k ≡ f m) → Dec (k < m) → f (suc k) ≡ f m
    sides below (yes d) = let z : suc k ≡ m = omega arith in ap f z
    sides below (no d) = h k (omega arith) ∙ below (omega arith)

-- ---- a count over a list, one more at its end

pub count_snoc : {A : Type 0} (f : List A → ℕ) (s : A → ℕ → ℕ) → ((x : A) (xs : List A) → f (x ∷ xs) ≡ s x (f xs))
    → ((x y : A) (n : ℕ) → s x (s y n) ≡ s y (s x n)) → (xs : List A) (x : A) → f (xs ++ (x ∷ [])) ≡ s x (f xs)
count_snoc f s more swap [] x = more x []
count_snoc f s more swap (y ∷ ys) x = rw (more y (ys ++ (x ∷ [])), count_snoc f s more swap ys x, more y ys) (swap y x (f ys))

-- ---- a map over what waits

pub map_ext : {B : Type 0} (f g : ℕ → B) (xs : List ℕ) → ((x : ℕ) → Memᴰ x xs → f x ≡ g x) → map f xs ≡ map g xs
map_ext f g [] h = refl
map_ext f g (x ∷ xs) h = rw (h x (Memᴰ.head refl), map_ext f g xs (λ y m. h y (Memᴰ.tail m)))

-- ---- a queue holds one list

chain_same : (b : List ℕ) (x z : ℕ) (xs ys : List ℕ) → Out z xs → Out z ys → Chain b x xs z → Chain b x ys z → xs ≡ ys
chain_same b x z [] [] o p c d = refl
chain_same b x z [] (y ∷ ys) o p c d = absurd (p.0 (sym c.ahead ∙ d.0.ahead))
chain_same b x z (y ∷ xs) [] o p c d = absurd (o.0 (sym d.ahead ∙ c.0.ahead))
chain_same b x z (y ∷ xs) (v ∷ ys) o p c d =
    let e : v ≡ y = sym d.0.ahead ∙ c.0.ahead in
    rw e (ap (λ (l : List ℕ). y ∷ l) (chain_same b y z xs ys o.1 p.1 c.1 (subst (λ (u : ℕ). Chain b u ys z) e d.1)))

pub queue_same : (b : List ℕ) (q : ℕ) (xs ys : List ℕ) → Queue b q xs → Queue b q ys → xs ≡ ys
queue_same b q xs ys c d = chain_same b q q xs ys c.distinct.0 d.distinct.0 c.chain d.chain

-- ---- two cells of the book put, and one more that waits

pub record Put (b b' : List ℕ) (l : Lists) (c v d w q x : ℕ) : Type 0 where
  pub lines : Lines b' (added l q x)
  pub first : get_or b' c 0 ≡ v
  pub second : get_or b' d 0 ≡ w
  pub others : (k : ℕ) → cells_at ≤ k → k ≢ c → k ≢ d → get_or b' k 0 ≡ get_or b k 0
  pub under : under_in b' ≡ under_in b

pub put_both : {b : List ℕ} {l : Lists} → Lines b l → (c v d w q x : ℕ) → cells_at ≤ c → c < d → d < book_halves → q < 4 → reset_id 0 ≤ x → x < ids_end
    → ((r : ℕ) → r < 4 → Memᴰ x (l r) → ⊥) → Put b (appended (set (set b c v) d w) q x) l c v d w q x
put_both {b} {l} L c v d w q x hc hd long hq hx low free =
    record {
      lines = append_lines (set (set b c v) d w) l both q x hq hx low free;
      first = cells c hc ∙ get_or-set_other (set b c v) d c w 0 (λ z. omega arith) ∙ get_or-set_same b c v 0 (omega (arith, L.long));
      second = cells d (omega arith) ∙ get_or-set_same (set b c v) d w 0 (omega (arith, L.long, length-set b c v));
      others = λ k h n m. cells k h ∙ get_or-set_other (set b c v) d k w 0 m ∙ get_or-set_other b c k v 0 n;
      under =
          append_under (set (set b c v) d w) l both q x hq hx low free ∙ get_or-set_other (set b c v) d under_at w 0 (λ e. omega arith)
          ∙ get_or-set_other b c under_at v 0 (λ e. omega arith);
    }
  where
    both : Lines (set (set b c v) d w) l
    both = set_lines (set b c v) l (set_lines b l L c v hc) d w (omega arith)

    cells : (k : ℕ) → cells_at ≤ k → get_or (appended (set (set b c v) d w) q x) k 0 ≡ get_or (set (set b c v) d w) k 0
    cells = append_cells (set (set b c v) d w) l both q x hq hx low free

-- Nothing of an open sender waits after `idled`: its Urgent, data and retransmissions are gone from the queues, and nothing else altered.
-- Assumes nothing.
use Prim.Native.Nat.{ℕ, zero, suc, ◌-◌, ◌≤◌, ◌<◌}
use mathlib.Core.Path.{◌≡◌, refl, sym, ap, subst, ◌∙◌}
use mathlib.Core.Logic.{◌≢◌, ◌⊎◌, inl, inr}
use mathlib.Core.Bool.{Bool, true, false, not, ◌&&◌, ◌||◌, true≢false}
use mathlib.Core.List.Memᴰ
use mathlib.Core.List.{List, [], ◌∷◌, Memᴰ}
use native.Mathlib.Decide.{ℕ_discrete, dec_le}
use native.Mathlib.Omega.{arith}
use lib.ListN.{get_or}
use lib.Dec.{eqb, leb}
use borrow.Author.Tests.{eq-eqb, eqb-true, eqb-false, leb-true, leb-false}
use Rattle.units.specs.Refusals.{pick}
use Rattle.memory.specs.Layout.{cells_at, resets, urgents, resends, datas, urgent_id, timer_at}
use Rattle.waiting.specs.Queues.{unlinked}
use Rattle.waiting.specs.Port.{under_in}
use Rattle.window.specs.Windows.{held, Good as GoodWindow}
use Rattle.window.specs.declared.Window.{Window}
use Rattle.end_points.specs.declared.Run.{Run}
use Rattle.end_points.specs.declared.EndPoint.{EndPoint}
use Rattle.slots.specs.Slots.{cell, past, timer_in, waits_in, drop_slot, drop_slots, idled}
use Rattle.good.specs.Good.{Lists, Lines, mine, id_at, ids, Resends, Silent, OpenSender}
use Rattle.good.proofs.Members.{without, without_in, without_keeps, mine_in, mine_all, mine_without}
use Rattle.good.proofs.Lined.{less, unlink_cells, unlink_under}
use Rattle.good.proofs.Framing.{Within, within_same, within_then, within_unlink}
use Rattle.good.proofs.Offsets.{urgent_owner, id_low, id_owner, id_inj, ids_in, ids_all}

-- ---- general

pub none_nil : (xs : List ℕ) → ((x : ℕ) → Memᴰ x xs → ⊥) → xs ≡ []
none_nil [] n = refl
none_nil (x ∷ xs) n = absurd (n x (Memᴰ.head refl))

-- nothing of a share stays nothing when one is taken out
pub less_nil : (i : ℕ) (l : Lists) (q x : ℕ) → mine i (l q) ≡ [] → mine i (less l x q) ≡ []
less_nil i l q x h = mine_without i x (l q) ∙ ap (without x) h

-- ---- what is left after the first n numbers

pub record Idled (i : ℕ) (b b' : List ℕ) (l : Lists) : Type 0 where
  pub lists : Lists
  pub within : Within i b b' l lists
  pub cells : (k : ℕ) → cells_at ≤ k → get_or b' k 0 ≡ get_or b k 0
  pub under : under_in b' ≡ under_in b
  pub silent : Silent lists i (mine i (l resets))

record Dropped (i : ℕ) (w : Window) (n : ℕ) (b b' : List ℕ) (l : Lists) : Type 0 where
  lists : Lists
  within : Within i b b' l lists
  cells : (k : ℕ) → cells_at ≤ k → get_or b' k 0 ≡ get_or b k 0
  under : under_in b' ≡ under_in b
  reset : mine i (lists resets) ≡ []
  urgent : mine i (lists urgents) ≡ []
  fewer : (q x : ℕ) → Memᴰ x (lists q) → Memᴰ x (l q)
  stay : (q k : ℕ) → n ≤ k → k < w.size → Memᴰ (id_at i w k) (l q) → Memᴰ (id_at i w k) (lists q)
  gone : (q k : ℕ) → 2 ≤ q → q < 4 → k < n → Memᴰ (id_at i w k) (lists q) → ⊥

module _ (i : ℕ) (low : i < 16) (w : Window) (g : GoodWindow w) (b : List ℕ) (l : Lists) where
  -- the number n waits: it is taken out
  drop_one : (n : ℕ) (b' : List ℕ) → n < w.size → (d : Dropped i w n b b' l) → (q : ℕ) → q < 4 → Memᴰ (id_at i w n) (l q)
      → Dropped i w (suc n) b (unlinked b' (id_at i w n)) l
  drop_one n b' hn d q hq m =
      let x = id_at i w n in
      let k = d.stay q n (omega arith) hn m in
      let v = within_unlink i b' d.lists d.within.lines q x hq k (id_owner i low w g n) in
      record {
        lists = less d.lists x;
        within = within_then i b b' (unlinked b' x) l d.lists (less d.lists x) d.within v;
        cells = λ j h. unlink_cells b' d.lists d.within.lines q x hq k j h ∙ d.cells j h;
        under = unlink_under b' d.lists d.within.lines q x hq k ∙ d.under;
        reset = less_nil i d.lists resets x d.reset;
        urgent = less_nil i d.lists urgents x d.urgent;
        fewer = λ r y h. d.fewer r y (without_in x y (d.lists r) h).0;
        stay = λ r j h s h'. without_keeps x (id_at i w j) (d.lists r) (d.stay r j (omega arith) s h')
            (λ e. let z = id_inj w g i j n s hn e in omega arith);
        gone = λ r j lo hi h h'. past_it r j lo hi h (without_in x (id_at i w j) (d.lists r) h') (dec_le n j);
      }
    where
      past_it : (r j : ℕ) → 2 ≤ r → r < 4 → j < suc n → Memᴰ (id_at i w j) (d.lists r) × (id_at i w j ≢ id_at i w n) → Dec (n ≤ j) → ⊥
      past_it r j lo hi h p (yes z) = p.1 (let e : j ≡ n = omega arith in ap (id_at i w) e)
      past_it r j lo hi h p (no z) = d.gone r j lo hi (omega arith) p.0

  -- it does not wait
  drop_none : (n : ℕ) (b' : List ℕ) → (d : Dropped i w n b b' l) → ((q : ℕ) → 2 ≤ q → q < 4 → Memᴰ (id_at i w n) (l q) → ⊥)
      → Dropped i w (suc n) b b' l
  drop_none n b' d none =
      record {
        lists = d.lists;
        within = d.within;
        cells = d.cells;
        under = d.under;
        reset = d.reset;
        urgent = d.urgent;
        fewer = d.fewer;
        stay = λ q k h. d.stay q k (omega arith);
        gone = λ q k lo hi h m. past_it q k lo hi h m (dec_le n k);
      }
    where
      past_it : (q k : ℕ) → 2 ≤ q → q < 4 → k < suc n → Memᴰ (id_at i w k) (d.lists q) → Dec (n ≤ k) → ⊥
      past_it q k lo hi h m (yes z) = let e : k ≡ n = omega arith in none q lo hi (d.fewer q (id_at i w n) (subst (λ (j : ℕ). Memᴰ (id_at i w j) (d.lists q)) e m))
      past_it q k lo hi h m (no z) = d.gone q k lo hi (omega arith) m

  -- ---- the Urgent

  no_urgent : (u : ℕ) → Lines b l → mine i (l resets) ≡ [] → mine i (l urgents) ≡ pick (eqb u 0) [] (urgent_id i ∷ [])
      → Dropped i w 0 b (pick (eqb u 0) b (unlinked b (urgent_id i))) l
  no_urgent u L nr nu = sides (eqb u 0) nu
    where
      sides : (t : Bool) → mine i (l urgents) ≡ pick t [] (urgent_id i ∷ []) → Dropped i w 0 b (pick t b (unlinked b (urgent_id i))) l
      sides true h =
          record {
            lists = l;
            within = within_same i b l L;
            cells = λ k j. refl;
            under = refl;
            reset = nr;
            urgent = h;
            fewer = λ q x m. m;
            stay = λ q k n s m. m;
            gone = λ q k lo hi n m. absurd (omega arith);
          }
      sides false h =
          let x = urgent_id i in
          let m = (mine_in i x (l urgents) (subst (λ (ys : List ℕ). Memᴰ x ys) (sym h) (Memᴰ.head refl))).0 in
          record {
            lists = less l x;
            within = within_unlink i b l L urgents x (omega arith) m (urgent_owner i low);
            cells = unlink_cells b l L urgents x (omega arith) m;
            under = unlink_under b l L urgents x (omega arith) m;
            reset = less_nil i l resets x nr;
            urgent = mine_without i x (l urgents) ∙ ap (without x) h ∙ rw (eq-eqb x x refl);
            fewer = λ q y k. (without_in x y (l q) k).0;
            stay = λ q k n s j. without_keeps x (id_at i w k) (l q) j (λ e. let z = id_low i low w g k in omega arith);
            gone = λ q k lo hi n j. absurd (omega arith);
          }

-- ---- which numbers wait

either_true : (a c d : Bool) → (a || (not c && d)) ≡ true → (a ≡ true) ⊎ ((c ≡ false) × (d ≡ true))
either_true true c d h = inl refl
either_true false true d h = absurd (true≢false (sym h))
either_true false false d h = inr (refl, h)

either_false : (a c d : Bool) → (a || (not c && d)) ≡ false → (a ≡ false) × ((c ≡ false) → d ≡ false)
either_false true c d h = absurd (true≢false h)
either_false false true d h = (refl, λ e. absurd (true≢false e))
either_false false false d h = (refl, λ e. h)

module _ (b : List ℕ) (l : Lists) (i : ℕ) (r : Run) where
  waits_is : (b' : List ℕ) → ((k : ℕ) → cells_at ≤ k → get_or b' k 0 ≡ get_or b k 0) → (k : ℕ) → waits_in b' i r.window r.handed k ≡ waits_in b i r.window r.handed k
  unfolding waits_in
  waits_is b' cells k =
      ap (λ (t : ℕ). leb r.handed k || (not (held r.window k) && eqb t 0)) (cells (timer_at (cell i r.window (past r.window k))) (omega arith))

  waits_so : (k : ℕ) → waits_in b i r.window r.handed k ≡ true
      → (r.handed ≤ k) ⊎ ((held r.window k ≡ false) × (timer_in b (cell i r.window (past r.window k)) ≡ 0))
  unfolding waits_in
  waits_so k h = waits_read (either_true (leb r.handed k) (held r.window k) (eqb (timer_in b (cell i r.window (past r.window k))) 0) h)
    where
      waits_read : (leb r.handed k ≡ true) ⊎ ((held r.window k ≡ false) × (eqb (timer_in b (cell i r.window (past r.window k))) 0 ≡ true))
          → (r.handed ≤ k) ⊎ ((held r.window k ≡ false) × (timer_in b (cell i r.window (past r.window k)) ≡ 0))
      waits_read (inl p) = inl (leb-true r.handed k p)
      waits_read (inr p) = inr (p.0, eqb-true (timer_in b (cell i r.window (past r.window k))) 0 p.1)

  waits_not : (k : ℕ) → waits_in b i r.window r.handed k ≡ false
      → (k < r.handed) × (held r.window k ≡ false → timer_in b (cell i r.window (past r.window k)) ≢ 0)
  unfolding waits_in
  waits_not k h =
      let p = either_false (leb r.handed k) (held r.window k) (eqb (timer_in b (cell i r.window (past r.window k))) 0) h in
      (leb-false r.handed k p.0, λ m. eqb-false (timer_in b (cell i r.window (past r.window k))) 0 (p.1 m))

  module _ (low : i < 16) (g : GoodWindow r.window) (most : r.taken ≤ r.window.size) (out : r.handed ≤ r.taken)
      (first : mine i (l datas) ≡ ids i r.window r.handed (r.taken - r.handed)) (again : Resends b l i r) where
    -- where the number k waits it is in a queue
    waits_in_holds : (k : ℕ) → k < r.taken → waits_in b i r.window r.handed k ≡ true
        → Memᴰ (id_at i r.window k) (l datas) ⊎ Memᴰ (id_at i r.window k) (l resends)
    waits_in_holds k hk h = sides (dec_le r.handed k) (waits_so k h)
      where
        sides : Dec (r.handed ≤ k) → (r.handed ≤ k) ⊎ ((held r.window k ≡ false) × (timer_in b (cell i r.window (past r.window k)) ≡ 0))
            → Memᴰ (id_at i r.window k) (l datas) ⊎ Memᴰ (id_at i r.window k) (l resends)
        sides (yes p) s =
            let m = ids_all i r.window r.handed (r.taken - r.handed) k p (omega arith) in
            inl (mine_in i (id_at i r.window k) (l datas) (subst (λ (ys : List ℕ). Memᴰ (id_at i r.window k) ys) (sym first) m)).0
        sides (no p) (inl s) = absurd (p s)
        sides (no p) (inr s) =
            inr (mine_in i (id_at i r.window k) (l resends)
            (again.all (id_at i r.window k) (record { at = k; handed = omega arith; missing = s.0; idle = s.1; is = refl }))).0

    -- where it does not, in none
    waits_out : (k : ℕ) → k < r.taken → waits_in b i r.window r.handed k ≡ false → (q : ℕ) → 2 ≤ q → q < 4 → Memᴰ (id_at i r.window k) (l q) → ⊥
    waits_out k hk h q lo hi m = sides (waits_not k h) (ℕ_discrete q datas)
      where
        here : Memᴰ (id_at i r.window k) (mine i (l q))
        here = mine_all i (id_at i r.window k) (l q) m (id_owner i low r.window g k)

        sides : (k < r.handed) × (held r.window k ≡ false → timer_in b (cell i r.window (past r.window k)) ≢ 0) → Dec (q ≡ datas) → ⊥
        sides n (yes e) =
            let a = ids_in i r.window r.handed (r.taken - r.handed) (id_at i r.window k)
            (subst (λ (ys : List ℕ). Memᴰ (id_at i r.window k) ys) (ap (λ (j : ℕ). mine i (l j)) e ∙ first) here) in
            let z = id_inj r.window g i k a.at (omega arith) (omega (arith, a.high)) a.is in
            omega (arith, a.low, n.0)
        sides n (no d) =
            let e : q ≡ resends = omega arith in
            let a = again.each (id_at i r.window k) (subst (λ (j : ℕ). Memᴰ (id_at i r.window k) (mine i (l j))) e here) in
            let z = id_inj r.window g i k a.at (omega arith) (omega (arith, a.handed)) a.is in
            n.1 (subst (λ (j : ℕ). held r.window j ≡ false) (sym z) a.missing)
            (subst (λ (j : ℕ). timer_in b (cell i r.window (past r.window j)) ≡ 0) (sym z) a.idle)

    drop_step : (n : ℕ) (b' : List ℕ) → n < r.taken → Dropped i r.window n b b' l → Dropped i r.window (suc n) b (drop_slot i r.window r.handed n b') l
    unfolding drop_slot
    drop_step n b' hn d = sides (waits_in b' i r.window r.handed n) (sym (waits_is b' d.cells n))
      where
        found : Memᴰ (id_at i r.window n) (l datas) ⊎ Memᴰ (id_at i r.window n) (l resends) → Dropped i r.window (suc n) b (unlinked b' (id_at i r.window n)) l
        found (inl m) = drop_one i low r.window g b l n b' (omega arith) d datas (omega arith) m
        found (inr m) = drop_one i low r.window g b l n b' (omega arith) d resends (omega arith) m

        sides : (t : Bool) → waits_in b i r.window r.handed n ≡ t → Dropped i r.window (suc n) b (pick t (unlinked b' (id_at i r.window n)) b') l
        sides true e = found (waits_in_holds n hn e)
        sides false e = drop_none i low r.window g b l n b' d (waits_out n hn e)

    drop_all : (n : ℕ) (b' : List ℕ) → n ≤ r.taken → Dropped i r.window 0 b b' l → Dropped i r.window n b (drop_slots i r.window r.handed n b') l
    unfolding drop_slots
    drop_all zero b' h d = d
    drop_all (suc n) b' h d = drop_step n (drop_slots i r.window r.handed n b') (omega arith) (drop_all n b' (omega arith) d)

    -- nothing is left then
    drop_data : (b' : List ℕ) (d : Dropped i r.window r.taken b b' l) → mine i (d.lists datas) ≡ []
    drop_data b' d = none_nil (mine i (d.lists datas)) left
      where
        left : (x : ℕ) → Memᴰ x (mine i (d.lists datas)) → ⊥
        left x m =
            let p = mine_in i x (d.lists datas) m in
            let a = ids_in i r.window r.handed (r.taken - r.handed) x
            (subst (λ (ys : List ℕ). Memᴰ x ys) first (mine_all i x (l datas) (d.fewer datas x p.0) p.1)) in
            d.gone datas a.at (omega arith) (omega arith) (omega (arith, a.high)) (Memᴰ.cast (sym a.is) p.0)

    drop_resend : (b' : List ℕ) (d : Dropped i r.window r.taken b b' l) → mine i (d.lists resends) ≡ []
    drop_resend b' d = none_nil (mine i (d.lists resends)) left
      where
        left : (x : ℕ) → Memᴰ x (mine i (d.lists resends)) → ⊥
        left x m =
            let p = mine_in i x (d.lists resends) m in
            let a = again.each x (mine_all i x (l resends) (d.fewer resends x p.0) p.1) in
            d.gone resends a.at (omega arith) (omega arith) (omega (arith, a.handed)) (Memᴰ.cast (sym a.is) p.0)

    drop_idled : (b' : List ℕ) → mine i (l resets) ≡ [] → Dropped i r.window r.taken b b' l → Idled i b b' l
    drop_idled b' nr d =
        record {
          lists = d.lists;
          within = d.within;
          cells = d.cells;
          under = d.under;
          silent = record { share = record { resets = d.reset ∙ sym nr; urgents = d.urgent; datas = drop_data b' d }; resends = drop_resend b' d };
        }

pub idle : (b : List ℕ) (l : Lists) (i : ℕ) → i < 16 → Lines b l → (e : EndPoint) → GoodWindow e.run.window → OpenSender b l i e
    → Idled i b (idled i e.run b) l
unfolding idled
idle b l i low L e g o =
    let s = o.sending in
    let h = o.share in
    drop_idled b l i e.run low g s.taken s.handed h.datas o.resends
    (idled i e.run b) h.resets
    (drop_all b l i e.run low g s.taken s.handed h.datas o.resends e.run.taken
    (pick (eqb e.run.urgent 0) b (unlinked b (urgent_id i))) (omega arith)
    (no_urgent i low e.run.window g b l e.run.urgent L h.resets h.urgents))

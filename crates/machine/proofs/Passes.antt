-- Something done to every entry in table order, which makes of each entry what depends on that entry alone and on the
-- frame under way, may take its waiting frames and may add some behind: what it makes of the whole machine. Assumes
-- nothing.
use Prim.Native.Nat.{ℕ, zero, suc, ◌≤◌, ◌<◌}
use mathlib.Core.Path.{◌≡◌, refl, sym, ap, subst, ◌∙◌}
use mathlib.Core.Logic.{◌⊎◌, inl, inr}
use mathlib.Core.Bool.{Bool, true, false, ◌&&◌, ◌||◌, and-true, and-false, or-false}
use mathlib.Core.Option.{Option, none, some}
use mathlib.Core.List.Memᴰ
use mathlib.Core.List.{List, [], ◌++◌, append-nil, append_assoc, Memᴰ}
use native.Mathlib.Decide.{dec_lt, ℕ_discrete}
use native.Mathlib.Omega.{arith}
use lib.ListN.{length, get_elem?, set, length-set}
use lib.Dec.{eqb, ltb}
use borrow.Author.Tests.{lt-ltb, le-ltb, eq-eqb, ne_eqb}
use Rattle.units.specs.Refusals.{pick}
use Rattle.machine.specs.Machine.{End, Item, Sort, Machine, node, at, found, without, each}
use Rattle.machine.specs.Laws.{Is, share_of}
use Rattle.machine.specs.LawsTick.{in_turn, in_table}
use Rattle.machine.proofs.Entries.{elem_there, elem_lt, elem_past, elem_set_same, elem_set_other}
use Rattle.machine.proofs.Items.{without_append, without_ext, without_none, without_twice, share_kept, share_gone, share_own, share_other}

-- what an entry becomes, whether its waiting frames go, and what of it begins to wait
module _ (become : ℕ → End → End) (gone : End → Bool) (adds : Sort → ℕ → End → List Item)
    (own : (q : Sort) (i : ℕ) (e : End) (x : Item) → Memᴰ x (adds q i e) → x.entry ≡ i) where
  abbrev pub passed : ℕ → End → Machine → Machine
  passed i e m =
      node m (set m.ends i (become i e))
      (λ q. pick (gone e) (without (λ x. eqb x.entry i) (m.waiting q)) (m.waiting q) ++ adds q i e)

  -- those of the first k entries that go, and what those add
  abbrev goes : Machine → ℕ → Item → Bool
  goes m k x = ltb x.entry k && at m x.entry false gone

  abbrev added : Machine → Sort → ℕ → List Item
  added m q i = at m i [] (adds q i)

  record Upto (m : Machine) (k : ℕ) (m' : Machine) : Type 0 where
    done : (i : ℕ) (e : End) → i < k → Is m i e → Is m' i (become i e)
    left : (i : ℕ) → k ≤ i → get_elem? m'.ends i ≡ get_elem? m.ends i
    count : length m'.ends ≡ length m.ends
    head : node m' m.ends m.waiting ≡ m
    waiting : (q : Sort) → m'.waiting q ≡ without (goes m k) (m.waiting q) ++ in_turn k (added m q)

  -- what was added is of the entries before
  added_own : (m : Machine) (q : Sort) (i : ℕ) (x : Item) → Memᴰ x (added m q i) → x.entry ≡ i
  added_own m q i x = sides (get_elem? m.ends i)
    where
      sides : (o : Option End) → Memᴰ x (found o [] (adds q i)) → x.entry ≡ i
      sides none h = absurd (Memᴰ.not-nil h)
      sides (some e) h = own q i e x h

  turn_low : (m : Machine) (q : Sort) (k : ℕ) (x : Item) → Memᴰ x (in_turn k (added m q)) → x.entry < k
  unfolding in_turn
  turn_low m q zero x h = absurd (Memᴰ.not-nil h)
  turn_low m q (suc k) x h = sides (turn_low m q k x) (Memᴰ.append_cases (in_turn k (added m q)) h)
    where
      sides : (Memᴰ x (in_turn k (added m q)) → x.entry < k) → Memᴰ x (in_turn k (added m q)) ⊎ Memᴰ x (added m q k) → x.entry < suc k
      sides below (inl z) = omega (arith, below z)
      sides below (inr z) = omega (arith, added_own m q k x z)

  -- one more entry
  goes_more : (m : Machine) (k : ℕ) (e : End) → Is m k e → (x : Item) → goes m (suc k) x ≡ (goes m k x || (gone e && eqb x.entry k))
  goes_more m k e h x = sides (ℕ_discrete x.entry k) (dec_lt x.entry k)
    where
      sides : Dec (x.entry ≡ k) → Dec (x.entry < k) → goes m (suc k) x ≡ (goes m k x || (gone e && eqb x.entry k))
      sides (yes y) l = rw (y, lt-ltb k (suc k) (omega arith), le-ltb k k (omega arith), h, eq-eqb k k refl) (sym (and-true (gone e)))
      sides (no y) (yes l) =
          rw (lt-ltb x.entry (suc k) (omega arith), lt-ltb x.entry k l, ne_eqb x.entry k y, and-false (gone e)) (sym (or-false _))
      sides (no y) (no l) =
          rw (le-ltb x.entry (suc k) (omega arith), le-ltb x.entry k (omega arith), ne_eqb x.entry k y, and-false (gone e))

  waits_more : (m : Machine) (k : ℕ) (e : End) → Is m k e → (q : Sort) (xs : List Item) → xs ≡ without (goes m k) (m.waiting q) ++ in_turn k (added m q)
      → pick (gone e) (without (λ x. eqb x.entry k) xs) xs ++ adds q k e ≡ without (goes m (suc k)) (m.waiting q) ++ in_turn (suc k) (added m q)
  unfolding in_turn
  waits_more m k e h q xs w =
      rw (h, w) (ap (λ (l : List Item). l ++ adds q k e) (sides (gone e) refl)
      ∙ append_assoc (without (goes m (suc k)) (m.waiting q)) (in_turn k (added m q)) (adds q k e))
    where
      kept : List Item
      kept = in_turn k (added m q)

      sides : (b : Bool) → gone e ≡ b
          → pick b (without (λ x. eqb x.entry k) (without (goes m k) (m.waiting q) ++ kept)) (without (goes m k) (m.waiting q) ++ kept)
          ≡ without (goes m (suc k)) (m.waiting q) ++ kept
      sides true g =
          without_append _ (without (goes m k) (m.waiting q)) kept
          ∙ rw (without_twice (goes m k) (λ x. eqb x.entry k) (m.waiting q), without_none (λ x. eqb x.entry k) kept (λ x z. ne_eqb x.entry k (λ y. let l = turn_low m q k x z in omega arith)))
          (ap (λ (l : List Item). l ++ kept) (without_ext _ _ (m.waiting q) (λ x z. sym (goes_more m k e h x ∙ rw g))))
      sides false g =
          ap (λ (l : List Item). l ++ kept) (without_ext _ _ (m.waiting q) (λ x z. sym (goes_more m k e h x ∙ rw g (or-false _))))

  upto_more : (m m' : Machine) (k : ℕ) → Upto m k m' → (e : End) → Is m k e → Upto m (suc k) (passed k e m')
  upto_more m m' k u e h =
      record {
        done = λ i d l z. sides i d z l (ℕ_discrete i k);
        left = λ i l. elem_set_other m'.ends k i (become k e) (λ y. omega arith) ∙ u.left i (omega arith);
        count = length-set m'.ends k (become k e) ∙ u.count;
        head = u.head;
        waiting = λ q. waits_more m k e h q (m'.waiting q) (u.waiting q);
      }
    where
      sides : (i : ℕ) (d : End) → Is m i d → i < suc k → Dec (i ≡ k) → get_elem? (set m'.ends k (become k e)) i ≡ some (become i d)
      sides i d z l (yes y) =
          let same : d ≡ e = (let a : some d ≡ some e = sym z ∙ ap (get_elem? m.ends) y ∙ h in cc) in
          rw (y, same) (elem_set_same m'.ends k (become k e) (let c = u.count in let b = elem_lt m.ends k h in omega arith))
      sides i d z l (no y) = elem_set_other m'.ends k i (become k e) y ∙ u.done i d (omega arith) z

  upto_none : (m : Machine) → Upto m 0 m
  unfolding in_turn
  upto_none m =
      record {
        done = λ i e l z. absurd (omega arith);
        left = λ i l. refl;
        count = refl;
        head = refl;
        waiting = λ q. sym (append-nil (without (goes m 0) (m.waiting q)) ∙ without_none (goes m 0) (m.waiting q) (λ x z. rw (le-ltb x.entry 0 (omega arith))));
      }

  -- it is such a pass at every machine that has the frame of m under way
  module _ (f : ℕ → End → Machine → Machine) (m : Machine)
      (is : (n : Machine) → n.under ≡ m.under → (i : ℕ) (e : End) → Is n i e → f i e n ≡ passed i e n) where
    -- one entry more, as one equation: the proof below is too dear for the kernel where it unfolds the pass
    each_more : (k : ℕ) (e : End) → Is (each k f m) k e → each (suc k) f m ≡ f k e (each k f m)
    unfolding each
    each_more k e h = ap (λ (o : Option End). found o (each k f m) (λ e. f k e (each k f m))) h

    upto : (k : ℕ) → k ≤ length m.ends → Upto m k (each k f m)
    unfolding each
    upto zero h = upto_none m
    upto (suc k) h =
        let u = upto k (omega arith) in
        let t = elem_there m.ends k (omega arith) in
        let here : Is (each k f m) k t.0 = u.left k (omega arith) ∙ t.1 in
        subst (Upto m (suc k))
        (sym (each_more k t.0 here ∙ is (each k f m) (ap (λ (n : Machine). n.under) u.head) k t.0 here))
        (upto_more m (each k f m) k u t.0 t.1)

    abbrev whole : Machine
    whole = each (length m.ends) f m

    all : Upto m (length m.ends) whole
    all = upto (length m.ends) (omega arith)

    pub pass_end : (i : ℕ) (e : End) → Is m i e → Is whole i (become i e)
    pass_end i e h = all.done i e (elem_lt m.ends i h) h

    pub pass_count : length whole.ends ≡ length m.ends
    pass_count = all.count

    pub pass_head : node whole m.ends m.waiting ≡ m
    pass_head = all.head

    pub pass_waiting : (q : Sort) → whole.waiting q ≡ without (λ x. at m x.entry false gone) (m.waiting q) ++ in_table m (adds q)
    pass_waiting q = all.waiting q ∙ ap (λ (l : List Item). l ++ in_table m (adds q)) (without_ext _ _ (m.waiting q) (λ x z. sides x (dec_lt x.entry (length m.ends))))
      where
        sides : (x : Item) → Dec (x.entry < length m.ends) → goes m (length m.ends) x ≡ at m x.entry false gone
        sides x (yes l) = rw (lt-ltb x.entry (length m.ends) l)
        sides x (no l) = rw (le-ltb x.entry (length m.ends) (omega arith), elem_past m.ends x.entry (omega arith))

    -- an entry's share
    share_turn : (q : Sort) (i k : ℕ) → share_of i (in_turn k (added m q)) ≡ pick (ltb i k) (added m q i) []
    unfolding in_turn
    share_turn q i zero = rw (le-ltb i 0 (omega arith)) (share_other i [] (λ x z. absurd (Memᴰ.not-nil z)))
    share_turn q i (suc k) =
        without_append _ (in_turn k (added m q)) (added m q k) ∙ rw (share_turn q i k) (sides (ℕ_discrete k i) (dec_lt i k))
      where
        sides : Dec (k ≡ i) → Dec (i < k) → pick (ltb i k) (added m q i) [] ++ share_of i (added m q k) ≡ pick (ltb i (suc k)) (added m q i) []
        sides (yes y) l = rw (y, le-ltb i i (omega arith), lt-ltb i (suc i) (omega arith)) (share_own i (added m q i) (added_own m q i))
        sides (no y) (yes l) =
            rw (lt-ltb i k l, lt-ltb i (suc k) (omega arith), share_other i (added m q k) (λ x z o. y (sym (added_own m q k x z) ∙ o))) (append-nil (added m q i))
        sides (no y) (no l) =
            rw (le-ltb i k (omega arith), le-ltb i (suc k) (omega arith)) (share_other i (added m q k) (λ x z o. y (sym (added_own m q k x z) ∙ o)))

    pub pass_share : (q : Sort) (i : ℕ) (e : End) → Is m i e → share_of i (whole.waiting q) ≡ pick (gone e) [] (share_of i (m.waiting q)) ++ adds q i e
    pass_share q i e h =
        ap (share_of i) (pass_waiting q)
        ∙ without_append _ (without (λ x. at m x.entry false gone) (m.waiting q)) (in_table m (adds q))
        ∙ rw (share_turn q i (length m.ends), lt-ltb i (length m.ends) (elem_lt m.ends i h), h)
        (ap (λ (l : List Item). l ++ adds q i e) (sides (gone e) refl))
      where
        sides : (b : Bool) → gone e ≡ b → share_of i (without (λ x. at m x.entry false gone) (m.waiting q)) ≡ pick b [] (share_of i (m.waiting q))
        sides true g = share_gone _ i (m.waiting q) (λ x o. rw (o, h) g)
        sides false g = share_kept _ i (m.waiting q) (λ x o. rw (o, h) g)

-- Another store: a memory stands for the same machine where it has the same bytes in the entries' areas, or where no end
-- point has a payload. Assumes nothing.
use Prim.Native.Nat.{ℕ, zero, suc, ◌+◌, ◌≤◌, ◌<◌}
use mathlib.Core.Path.{◌≡◌, refl, sym, ap, subst, ◌∙◌}
use mathlib.Core.Bool.{Bool, true, false}
use mathlib.Core.Option.{Option, none, some}
use mathlib.Core.List.{List, [], ◌∷◌, Memᴰ}
use native.Mathlib.Omega.{arith}
use lib.ListN.{length, take, drop, replicate, get_elem?}
use lib.Dec.{eqb}
use borrow.Author.Tests.{eqb-true, eq-eqb}
use Rattle.units.specs.Refusals.{pick}
use Rattle.window.specs.Windows.{held}
use Rattle.window.specs.declared.Window.{Window}
use Rattle.window.proofs.Resetting.{new_held}
use Rattle.window.proofs.Holding.{held_below_holds}
use Rattle.table.specs.Layout.{count_of}
use Rattle.table.specs.Areas.{store_of}
use Rattle.end_points.specs.Ends.{end_of}
use Rattle.end_points.specs.Heads.{count_in}
use Rattle.end_points.specs.States.{is_sends}
use Rattle.end_points.specs.declared.State.{State}
use Rattle.end_points.specs.declared.State.TheVariants.{Closed, Enabled, Open, Failing}
use Rattle.end_points.specs.declared.EndPoint.{EndPoint}
use Rattle.slots.specs.Slots.{slot_for, cell, spot, past, length_in}
use Rattle.call_hand_out.specs.Handing.{urgent_payload}
use Rattle.good.specs.Good.{Lists, Fresh, Stated, Good, Filled}
use Rattle.good.specs.Calls.{Memory, relent}
use Rattle.good.proofs.Stores.{slot_low, slot_room, urgent_low}
use Rattle.good.proofs.Payloads.{s_filled, r_filled}
use Rattle.machine.specs.Machine.{Number, End, Machine, listed, lending}
use Rattle.machine.proofs.Listed.{listed_ext, elem_listed, length_listed}
use Rattle.machine.proofs.Entries.{not_none, elem_lt, elem_in}
use Rattle.refinement.specs.Standing.{Reading, read_at, payload_for, number_for, place_for, state_for, end_for, end_at, stands_for, Stands}
use Rattle.refinement.specs.Standing.{Relends, Empty, Idle, IdleIsEmpty, RelendsAny}
use Rattle.refinement.proofs.Elsewhere.{numbers_same, end_same, none_held, no_urgent, none_taken, urgent_most}
use Rattle.refinement.proofs.Following.{stated_at, size_is}

-- ---- bytes of two lists that begin alike

-- n bytes from a on, all among the first k
part_of : (k a n : ℕ) (xs : List ℕ) → a + n ≤ k → take n (drop a (take k xs)) ≡ take n (drop a xs)
part_of k a zero xs h = refl
part_of zero a (suc n) xs h = absurd (omega arith)
part_of (suc k) zero (suc n) [] h = refl
part_of (suc k) zero (suc n) (x ∷ xs) h = ap (λ (l : List ℕ). x ∷ l) (part_of k zero n xs (omega arith))
part_of (suc k) (suc a) (suc n) [] h = refl
part_of (suc k) (suc a) (suc n) (x ∷ xs) h = part_of k a (suc n) xs (omega arith)

parts_same : (k a n : ℕ) (xs ys : List ℕ) → take k xs ≡ take k ys → a + n ≤ k → take n (drop a xs) ≡ take n (drop a ys)
parts_same k a n xs ys e h =
    sym (part_of k a n xs h) ∙ ap (λ (l : List ℕ). take n (drop a l)) e ∙ part_of k a n ys h

-- ---- end points that are the same with another store are the same machine

same_machine : (t : List ℕ) (n : Memory) (m : Machine) (S : Stands t n m) (s : List ℕ) → store_of t ≤ length s
    → ((i : ℕ) → i < count_in n.node → end_at (relent s n) i ≡ end_at n i) → Stands t (relent s n) (lending (length s) m)
same_machine t n m S s long same =
    record {
      lists = S.lists;
      good = S.good;
      room = long;
      is =
          ap (λ (es : List End). with_ends es)
          (listed_ext (count_of t) (end_at (relent s n)) (end_at n) (λ i h. same i (omega (arith, S.good.tabled.count))))
          ∙ ap (lending (length s)) S.is;
    }
  where
    with_ends : List End → Machine
    with_ends es =
        let k = stands_for t (relent s n) S.lists in
        record { own = k.own; protocol = k.protocol; need = k.need; room = k.room; ends = es; waiting = k.waiting; under = k.under }

module _ (t : List ℕ) (n : Memory) (l : Lists) (g : Good t n.node n.book l) (s : List ℕ) (i : ℕ)
    (li : i < count_in n.node) where
  abbrev e : EndPoint
  e = end_of n.node i

  abbrev Same : ℕ → Type 0
  Same k = payload_for s n.book i e k ≡ payload_for n.store n.book i e k

  end_as : ((k : ℕ) → k < e.run.taken → Same k)
      → ((k : ℕ) → is_sends e.entry.kind ≡ false → held e.run.window k ≡ true → Same k)
      → (is_sends e.entry.kind ≡ true → urgent_payload s e ≡ urgent_payload n.store e)
      → end_at (relent s n) i ≡ end_at n i
  end_as taken places urgent =
      end_same (read_at n) n.store s n.book n.book i e refl
      (λ k h. numbers_same (read_at n) n.store s n.book n.book i e refl k (taken k h) refl refl)
      places urgent (no_urgent g li)

  -- ---- the same bytes in the entries' areas

  module _ (alike : take (store_of t) s ≡ take (store_of t) n.store) where
    filled_same : (k : ℕ) → Filled n.book i e.run.window e.entry.largest k → Same k
    filled_same k f =
        let slot = slot_for e.run.window (past e.run.window k) in
        let long = length_in n.book (cell i e.run.window (past e.run.window k)) in
        let fits = slot_room t n.node n.book l g i li slot (slot_low t n.node n.book l g i li (past e.run.window k)) in
        parts_same (store_of t) (spot e.place e.entry.largest slot) long s n.store alike (omega (arith, fits, f.most))

    end_alike : end_at (relent s n) i ≡ end_at n i
    end_alike =
        end_as (λ k h. taken k h (is_sends e.entry.kind) refl)
        (λ k q h. filled_same k (r_filled t n.node n.book l g i li q k h)) urgent
      where
        taken : (k : ℕ) → k < e.run.taken → (b : Bool) → is_sends e.entry.kind ≡ b → Same k
        taken k h true q = filled_same k (s_filled t n.node n.book l g i li q k h)
        taken k h false q = absurd (omega (arith, none_taken g li q))

        urgent : is_sends e.entry.kind ≡ true → urgent_payload s e ≡ urgent_payload n.store e
        urgent q =
            let fits = slot_room t n.node n.book l g i li e.run.window.size (urgent_low t n.node n.book l g i li q) in
            parts_same (store_of t) (spot e.place e.entry.largest e.run.window.size) e.run.urgent s n.store alike
            (omega (arith, fits, urgent_most g li q))

  -- ---- no payload

  module _ (none_here : Empty (end_at n i)) where
    none_taken_here : e.run.taken ≡ 0
    unfolding end_for
    none_taken_here =
        sym (length_listed e.run.taken (number_for (read_at n) n.store n.book i e)) ∙ ap length none_here.numbers

    none_urgent : e.run.urgent ≡ 0
    unfolding end_for
    none_urgent = sides (eqb e.run.urgent 0) refl none_here.urgent
      where
        sides : (b : Bool) → eqb e.run.urgent 0 ≡ b
            → ◌≡◌ {A = Option (List ℕ)} (pick b none (some (urgent_payload n.store e))) none → e.run.urgent ≡ 0
        sides true q h = eqb-true e.run.urgent 0 q
        sides false q h = absurd (not_none (sym h))

    none_held_here : (k : ℕ) → is_sends e.entry.kind ≡ false → held e.run.window k ≡ true → ⊥
    unfolding end_for
    none_held_here k q h =
        let low : k < e.entry.window = rw (size_is g li) at (held_below_holds e.run.window (g.entered i li).window k h) in
        let there : get_elem? (listed e.entry.window (place_for n.store n.book i e)) k
        ≡ some (some (payload_for n.store n.book i e k)) =
        elem_listed e.entry.window (place_for n.store n.book i e) k low ∙ rw (q, h) in
        none_here.places (payload_for n.store n.book i e k) (elem_in _ k there)

    end_empty : end_at (relent s n) i ≡ end_at n i
    end_empty =
        end_as (λ k h. absurd (omega (arith, none_taken_here))) (λ k q h. absurd (none_held_here k q h)) (λ q. rw none_urgent)

-- ---- Closed and Enabled end points have no payload

fresh_empty : (L : Reading) (st b : List ℕ) (i : ℕ) (e : EndPoint) → Fresh e.run → Empty (end_for L st b i e)
unfolding end_for listed
fresh_empty L st b i e f =
    record {
      numbers = rw f.taken refl;
      places = λ p m.
          no_some e.entry.window p
          (subst (Memᴰ (some p))
          (none_held st b i e (λ k. ap (λ (w : Window). held w k) f.window ∙ new_held e.run.window.size k)) m);
      urgent = rw (eq-eqb e.run.urgent 0 f.urgent) refl;
    }
  where
    no_some : (n : ℕ) (p : List ℕ) → Memᴰ (some p) (replicate n none) → ⊥
    no_some zero p m = elim m [ ]
    no_some (suc n) p (Memᴰ.head h) = not_none (sym h)
    no_some (suc n) p (Memᴰ.tail h) = no_some n p h

-- a run of such a state is fresh, of a sender and of a receiver
fresh_idle : (b : List ℕ) (l : Lists) (i : ℕ) (e : EndPoint) (k : Bool) (s : State) → Stated b l i e k s → (L : Reading) (u : Bool) (ns : List Number)
    → Idle (state_for L u ns s) → Fresh e.run
fresh_idle b l i e true Closed a L u ns h = a.fresh
fresh_idle b l i e false Closed a L u ns h = a.fresh
fresh_idle b l i e true (Enabled d sent) a L u ns h = a.fresh
fresh_idle b l i e false (Enabled d sent) a L u ns h = a.0.fresh
fresh_idle b l i e k Open a L u ns h = absurd h
fresh_idle b l i e k (Failing timers) a L u ns h = absurd h

pub idle_is_empty : IdleIsEmpty
unfolding IdleIsEmpty end_for
idle_is_empty t n m S i e here idle =
    subst Empty is
    (fresh_empty (read_at n) n.store n.book i (end_of n.node i)
    (fresh_idle n.book S.lists i (end_of n.node i) (is_sends (end_of n.node i).entry.kind) (end_of n.node i).state
    (stated_at S.good li (is_sends (end_of n.node i).entry.kind) refl (end_of n.node i).state refl) (read_at n) _ _
    (subst (λ (d : End). Idle d.state) (sym is) idle)))
  where
    there : get_elem? (listed (count_of t) (end_at n)) i ≡ some e
    there = ap (λ (y : Machine). get_elem? y.ends i) S.is ∙ here

    li : i < count_in n.node
    li =
        let l = elem_lt (listed (count_of t) (end_at n)) i there in
        omega (arith, l, length_listed (count_of t) (end_at n), S.good.tabled.count)

    is : end_at n i ≡ e
    is =
        let same = sym (elem_listed (count_of t) (end_at n) i (omega (arith, li, S.good.tabled.count))) ∙ there in
        cc (same)

pub relends : Relends
unfolding Relends
relends t n m S s long alike = same_machine t n m S s long (λ i li. end_alike t n S.lists S.good s i li alike)

pub relends_any : RelendsAny
unfolding RelendsAny
relends_any t n m S none_here s long =
    same_machine t n m S s long
    (λ i li. end_empty t n S.lists S.good s i li
    (none_here i (end_at n i)
    (ap (λ (y : Machine). get_elem? y.ends i) (sym S.is)
    ∙ elem_listed (count_of t) (end_at n) i (omega (arith, S.good.tabled.count)))))

-- Where a number is that was handed out and is not acknowledged, in every machine that a node stands for: it runs a
-- timer, waits as a retransmission or is under way, and only one of the three. Assumes nothing.
use Prim.Native.Nat.{ℕ, ◌+◌, ◌/◌, ◌<◌}
use mathlib.Core.Path.{◌≡◌, refl, sym, ap, subst, ◌∙◌}
use mathlib.Core.Logic.{◌≢◌}
use mathlib.Core.Bool.{Bool, true, false, true≢false}
use mathlib.Core.Option.{some}
use mathlib.Core.List.Memᴰ
use mathlib.Core.List.{List, map, Memᴰ}
use native.Mathlib.Decide.{dec_lt, ℕ_discrete}
use native.Mathlib.Omega.{arith}
use lib.ListN.{get_or-eq_default}
use lib.Dec.{eqb}
use borrow.Author.Tests.{eqb-true, eqb-false, eq-eqb, ne_eqb, ltb-true}
use Rattle.memory.specs.Layout as layout
use Rattle.memory.specs.Layout.{owner_of}
use Rattle.waiting.specs.Port.{under_in, per_type, out_entry, out_number, is_data, no_number, data_out}
use Rattle.window.specs.Windows.{offset_of, held, Good as GoodWindow}
use Rattle.window.specs.declared.Window.{Window}
use Rattle.window.proofs.WindowLaw.{distance_back}
use Rattle.table.specs.Layout.{count_of}
use Rattle.frame.specs.declared.FrameType.{FrameType}
use Rattle.frame.specs.declared.FrameType.TheVariants as type
use Rattle.end_points.specs.Ends.{end_of}
use Rattle.end_points.specs.Heads.{count_in}
use Rattle.end_points.specs.States.{is_sends}
use Rattle.end_points.specs.declared.State.{State}
use Rattle.end_points.specs.declared.State.TheVariants.{Closed, Enabled, Open, Failing}
use Rattle.end_points.specs.declared.EndPoint.{EndPoint}
use Rattle.slots.specs.Slots.{cell, past, timer_in}
use Rattle.good.specs.Good.{Lists, OpenSender, Good, id_at}
use Rattle.good.specs.Calls.{Memory}
use Rattle.good.proofs.Members.{mine_all, mine_in}
use Rattle.machine.specs.Machine.{Number, End, Item, Machine, Out, listed, number_at, resends}
use Rattle.machine.specs.Sound.{the_first, the_second, the_third, InOnePlace, EachInOnePlace}
use Rattle.refinement.specs.Standing.{Reading, read_at, number_for, end_for, end_at, slot_item, waiting_for, type_for, stands_for, StandsInOnePlace}
use Rattle.machine.proofs.Listed.{length_listed, get_d_listed}
use Rattle.refinement.proofs.Readings.{zero_left}
use Rattle.refinement.proofs.Elsewhere.{none_taken}
use Rattle.refinement.proofs.Following.{state_in, low_at, stated_at, item_at}
use Rattle.refinement.proofs.Numbers.{timer_under, timer_else}
use Rattle.refinement.proofs.ReportStands.{Kind, of_data, kind_of}
use Rattle.refinement.proofs.Sounding.{elem_of, picked_not}

-- ---- what is under way, read back

is_data_holds : (y : FrameType) → y ≡ type.Data → {u i : ℕ} → Kind u i y → is_data u i ≡ true
is_data_holds type.Data q (of_data d r) = d
is_data_holds type.Reset q k = absurd (let z : ◌≡◌ {A = ℕ} 0 1 = cc in omega arith)
is_data_holds type.Acknowledge q k = absurd (let z : ◌≡◌ {A = ℕ} 0 1 = cc in omega arith)
is_data_holds type.Urgent q k = absurd (let z : ◌≡◌ {A = ℕ} 0 1 = cc in omega arith)

module _ (t : List ℕ) (n : Memory) (l : Lists) (g : Good t n.node n.book l) (i : ℕ) (li : i < count_in n.node) where
  abbrev M : Machine
  M = stands_for t n l

  abbrev L : Reading
  L = read_at n

  abbrev e : EndPoint
  e = end_of n.node i

  abbrev w : Window
  w = e.run.window

  abbrev E : End
  E = end_at n i

  window : GoodWindow w
  window = (g.entered i li).window

  low : i < 16
  low = low_at g li

  -- Open where it reads so
  opened : E.state ≡ Open → e.state ≡ Open
  unfolding end_for
  opened h = by e.state h
    where
      by : (z : State) → state_in L n.store n.book i e z ≡ Open → z ≡ Open
      by Closed h = absurd (let z : ◌≡◌ {A = ℕ} 0 1 = cc in omega arith)
      by (Enabled d sent) h = absurd (let z : ◌≡◌ {A = ℕ} 0 1 = cc in omega arith)
      by Open h = refl
      by (Failing m) h = absurd (let z : ◌≡◌ {A = ℕ} 0 1 = cc in omega arith)

  module _ (s : ℕ) (byte : s < 256) (out : (number_at E s).handed ≡ true) where
    abbrev k : ℕ
    k = offset_of w s

    abbrev at : ℕ
    at = cell i w (past w k)

    number_here : past w k ≡ s
    number_here = distance_back w.start.0 s window.byte byte

    taken : k < e.run.taken
    unfolding end_for
    taken = sides (dec_lt k e.run.taken)
      where
        sides : Dec (k < e.run.taken) → k < e.run.taken
        sides (yes h) = h
        sides (no h) =
            absurd (true≢false (sym out ∙ ap (λ (x : Number). x.handed)
            (get_or-eq_default (listed e.run.taken (number_for L n.store n.book i e)) _ {n = k}
            (rw (length_listed e.run.taken (number_for L n.store n.book i e)) (omega arith)))))

    number_is : number_at E s ≡ number_for L n.store n.book i e k
    unfolding end_for
    number_is = get_d_listed e.run.taken (number_for L n.store n.book i e) k _ taken

    handed : k < e.run.handed
    handed = ltb-true k e.run.handed (sym (ap (λ (x : Number). x.handed) number_is) ∙ out)

    sends : is_sends e.entry.kind ≡ true
    sends = by (is_sends e.entry.kind) refl
      where
        by : (z : Bool) → is_sends e.entry.kind ≡ z → z ≡ true
        by true h = refl
        by false h = absurd (omega (arith, taken, none_taken g li h))

    timer_is : (number_at E s).timer ≡ (number_for L n.store n.book i e k).timer
    timer_is = ap (λ (x : Number). x.timer) number_is

    module _ (missing : held w k ≡ false) (q : e.state ≡ Open) where
      O : OpenSender n.book l i e
      O = stated_at g li true sends Open q

      inside : k < w.size
      inside = omega (arith, taken, O.sending.taken)

      abbrev item : Item
      item = record { entry = i; number = s }

      item_is : slot_item n.node (id_at i w k) ≡ item
      item_is = item_at n.node i low window k inside ∙ ap (λ (v : ℕ). record { entry = i; number = v }) number_here

      -- it waits as a retransmission exactly where its timer's place is 0
      waits : timer_in n.book at ≡ 0 → Memᴰ item (M.waiting resends)
      unfolding waiting_for
      waits z =
          let m = (mine_in i (id_at i w k) (l layout.resends) (O.resends.all (id_at i w k) (record { at = k; handed = handed; missing = missing; idle = z; is = refl }))).0 in
          subst (λ (x : Item). Memᴰ x (map (slot_item n.node) (l layout.resends))) item_is (Memᴰ.map (slot_item n.node) m)

      waits_not : timer_in n.book at ≢ 0 → Memᴰ item (M.waiting resends) → ⊥
      unfolding waiting_for
      waits_not d m =
          let y = Memᴰ.of_map (slot_item n.node) (l layout.resends) m in
          let owner : owner_of y.0 ≡ i = ap (λ (x : Item). x.entry) y.2 in
          let r = O.resends.each y.0 (mine_all i y.0 (l layout.resends) y.1 owner) in
          let h : r.at < w.size = omega (arith, r.handed, O.sending.handed, O.sending.taken) in
          let v : past w r.at ≡ past w k =
          ap (λ (x : Item). x.number) (sym (item_at n.node i low window r.at h) ∙ ap (slot_item n.node) (sym r.is) ∙ y.2) ∙ sym number_here in
          d (ap (λ (z : ℕ). timer_in n.book (cell i w z)) (sym v) ∙ r.idle)

      -- it is under way exactly where the book says so of its number
      under : past w k ≡ data_out n.book i → M.under ≡ some (type.Data, item)
      under o = sides (is_data (under_in n.book) i) refl
        where
          sides : (z : Bool) → is_data (under_in n.book) i ≡ z → M.under ≡ some (type.Data, item)
          sides true d =
              let h : under_in n.book / 256 ≡ 16 + i = eqb-true (under_in n.book / 256) (16 + i) d in
              let v : out_number (under_in n.book) ≡ s = sym (rw d) ∙ sym o ∙ number_here in
              let y : out_entry (under_in n.book) ≡ i = omega (arith, h, low) in
              rw (ne_eqb (under_in n.book) 0 (λ z. omega (arith, h, z)), let one : under_in n.book / per_type ≡ 1 = omega (arith, h, low) in one, v, y)
          sides false d = absurd (let z : past w k ≡ no_number = o ∙ rw d in omega (arith, z))

      under_not : past w k ≢ data_out n.book i → M.under ≡ some (type.Data, item) → ⊥
      under_not d h =
          let u = under_in n.book in
          let p = picked_not (eqb u 0) (type_for u, record { entry = out_entry u; number = out_number u }) (type.Data, item) h in
          let U = g.under (eqb-false u 0 p.0) in
          let own : out_entry u ≡ i = ap (λ (x : Out). x.1.entry) (sym p.1) in
          let v : out_number u ≡ s = ap (λ (x : Out). x.1.number) (sym p.1) in
          let y : is_data u i ≡ true =
          subst (λ (j : ℕ). is_data u j ≡ true) own (is_data_holds (type_for u) (ap (λ (x : Out). x.0) (sym p.1)) (kind_of u U.least U.most)) in
          d (number_here ∙ sym v ∙ sym (rw y))

      one_place : InOnePlace M i E s
      one_place = sides (ℕ_discrete (past w k) (data_out n.book i)) (ℕ_discrete (timer_in n.book at) 0)
        where
          sides : Dec (past w k ≡ data_out n.book i) → Dec (timer_in n.book at ≡ 0) → InOnePlace M i E s
          sides (yes o) z =
              the_third (λ r. r (timer_is ∙ timer_under L (zero_left n) n.store n.book i e k o)) (waits_not (O.standing k handed missing o)) (under o)
          sides (no o) (yes z) =
              the_second (λ r. r (timer_is ∙ timer_else L (zero_left n) n.store n.book i e k handed o
              ∙ eqb-true (L (timer_in n.book at)) 0 (zero_left n (timer_in n.book at) ∙ eq-eqb (timer_in n.book at) 0 z))) (waits z) (under_not o)
          sides (no o) (no z) =
              the_first (λ r. eqb-false (L (timer_in n.book at)) 0 (zero_left n (timer_in n.book at) ∙ ne_eqb (timer_in n.book at) 0 z)
              (sym (timer_else L (zero_left n) n.store n.book i e k handed o) ∙ sym timer_is ∙ r)) (waits_not z) (under_not o)

pub stands_in_one_place : StandsInOnePlace
unfolding StandsInOnePlace EachInOnePlace
stands_in_one_place t n m S = subst EachInOnePlace S.is each
  where
    at : (i : ℕ) → i < count_in n.node → (end_at n i).state ≡ Open → (s : ℕ) → s < 256 → (number_at (end_at n i) s).handed ≡ true
        → (number_at (end_at n i) s).acked ≡ false → InOnePlace (stands_for t n S.lists) i (end_at n i) s
    at i li o s byte out missing =
        one_place t n S.lists S.good i li s byte out
        (sym (ap (λ (x : Number). x.acked) (number_is t n S.lists S.good i li s byte out)) ∙ missing) (opened t n S.lists S.good i li o)

    each : EachInOnePlace (stands_for t n S.lists)
    each i e there =
        let z = elem_of (count_of t) (end_at n) i e there in
        rw z.1 (λ o s byte out missing. at i (omega (arith, z.0, S.good.tabled.count)) o s byte out missing)

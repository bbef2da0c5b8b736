-- An acknowledgement taken in is the machine's. Assumes nothing.
use Prim.Native.Nat.{ℕ, ◌+◌, ◌-◌, ◌%◌, ◌≤◌, ◌<◌}
use mathlib.Core.Path.{◌≡◌, refl, sym, ap, subst, ◌∙◌}
use mathlib.Core.Logic.{◌≢◌}
use mathlib.Core.Bool.{Bool, true, false, ◌&&◌}
use mathlib.Core.List.{List, [], ◌∷◌, map, Memᴰ}
use native.Mathlib.Decide.{ℕ_discrete}
use native.Mathlib.Nat.{mod-eq_of_lt}
use native.Mathlib.Omega.{arith}
use lib.ListN.{length, set, drop}
use lib.Seq.{get_or-set_other}
use lib.Dec.{eqb}
use borrow.Author.Tests.{eq-eqb, ne_eqb, eqb-true, eqb-false, ltb-true}
use Rattle.units.specs.Refusals.{pick}
use Rattle.memory.specs.Layout.{all_cells, timer_at, retries_at, cell_id, quiet_at}
use Rattle.waiting.specs.Queues.{unlinked}
use Rattle.waiting.specs.Order.{acks_in}
use Rattle.waiting.specs.Port.{under_in, is_reset}
use Rattle.window.specs.Numbers.{byte_of}
use Rattle.window.specs.Windows.{offset_of, Good as GoodWindow}
use Rattle.window.specs.declared.Window.{Window}
use Rattle.window.proofs.WindowLaw.{distance_back}
use Rattle.window.proofs.Sizes.{size_le}
use Rattle.table.specs.Areas.{store_of}
use Rattle.end_points.specs.Ends.{end_of, saved}
use Rattle.end_points.specs.Heads.{count_in}
use Rattle.end_points.specs.States.{is_sends}
use Rattle.end_points.specs.Answers.{arrived_of}
use Rattle.end_points.specs.Lent.{Lent}
use Rattle.end_points.specs.declared.State.{State}
use Rattle.end_points.specs.declared.State.TheVariants.{Closed, Enabled, Open, Failing}
use Rattle.end_points.specs.declared.Run.{Run}
use Rattle.end_points.specs.declared.EndPoint.{EndPoint}
use Rattle.end_points.specs.declared.answers.Was.TheVariants.{Ignored, Acknowledged, Opened}
use Rattle.slots.specs.Slots.{cell, past, timer_in, retries_in}
use Rattle.timing.specs.Timing.{roused}
use Rattle.arrive_ack.specs.Acking as memory
use Rattle.arrive_ack.specs.Acking.{ack_answer, counted_node, ack_node, ack_book, ack_after, stopped}
use Rattle.memory.specs.Layout.{owner_of}
use Rattle.good.specs.Good as good
use Rattle.good.specs.Good.{Lists, Lines, Sending, OpenSender, FailingSender, Good, mine, id_at}
use Rattle.good.specs.Calls.{Memory, lent, kept}
use Rattle.good.proofs.Members as members
use Rattle.good.proofs.Members.{mine_all, mine_in, mem_out, without_out}
use Rattle.good.proofs.Known.{silent_nil}
use Rattle.good.proofs.Lined.{less, unlink_lines, unlink_cells, set_lines}
use Rattle.good.proofs.Idling.{none_nil}
use Rattle.good.proofs.Offsets.{id_owner, id_inj, ids_in}
use Rattle.good.proofs.Framing.{cell_low}
use Rattle.good.proofs.Turns.{turned_to, run_fits, saved_acks, Kept}
use Rattle.good.proofs.RunSets.{counted_puts}
use Rattle.good.proofs.Senders.{Timed, timed_set, gone_other}
use Rattle.good.proofs.AckRuns.{Passes, Counts, counts_says, passes, passed_le, open_book}
use Rattle.good.proofs.AckKeeps.{Acked, ignored, opened, counted, failed, ack_keeps, ack_ends}
use Rattle.good.proofs.Payloads.{unaltered}
use Rattle.good.proofs.Clocked.{clocked_set, clocked_acks}
use Rattle.machine.specs.Machine as machine
use Rattle.machine.specs.Machine.{Number, End, Item, Sort, acks, resets, urgents, resends, datas, Machine, Outcome}
use Rattle.machine.specs.Machine.{listed, stated, passing, timed, acked_run, running, turned, silent, not_again, without}
use Rattle.machine.specs.Machine.{anew, answers, acking}
use Rattle.refinement.specs.Standing.{Reading, read_at, state_for, number_for, end_for, end_at, ack_item, plain_item, slot_item, waiting_for, stands_for, Stands}
use Rattle.refinement.proofs.Readings.{zero_left}
use Rattle.refinement.proofs.Listing.{map_ext}
use Rattle.refinement.proofs.Elsewhere.{no_places, Leaves, leaves, end_at_holds, still, turned_stands}
use Rattle.refinement.proofs.Waiting.{silent_steady, windows_other, lists_are, waits_still, without_map, sender_acks, silent_stands}
use Rattle.refinement.proofs.Following.{state_in, low_at, stated_at, stated_then, item_for, item_at}
use Rattle.refinement.proofs.Passing.{start_past}
use Rattle.refinement.proofs.Numbers.{counts_is, run_is, numbers_then}
use Rattle.std.specs.Prelude.{Result, Ok}
use Rattle.end_points.specs.declared.answers.Arrival.{Arrival}
use Rattle.units.specs.declared.refusals.Refusal.{Refusal}

-- what a frame that is taken in came to, and what the machine makes of it
pub record Takes (t : List ℕ) (o : Outcome) (a : Result Arrival Refusal) (x : Lent) : Type 0 where
  pub numbers : arrived_of a ≡ o.answer.numbers
  pub out : x.out ≡ o.answer.out
  pub stands : Stands t (kept x) o.machine

-- ---- the end point then, by the state that it was in

abbrev EndAs : List ℕ → List ℕ → List ℕ → ℕ → ℕ → State → Type 0
EndAs ws b ws' i s Closed = Unit {0}
EndAs ws b ws' i s (Enabled m sent) = end_of ws' i ≡ turned_to (end_of ws i) Open (memory.opened_run (end_of ws i).run)
EndAs ws b ws' i s Open = end_of ws' i ≡ turned_to (end_of ws i) Open (memory.acked_run (end_of ws i).run s)
EndAs ws b ws' i s (Failing m) =
    end_of ws' i ≡ turned_to (end_of ws i) (Failing (memory.fewer (timer_in b (cell i (end_of ws i).run.window s)) m))
    (memory.acked_run (end_of ws i).run s)

end_as : (ws b ws' b' : List ℕ) (i s : ℕ) (z : State) → (end_of ws i).state ≡ z → (ack_answer (end_of ws i) (end_of ws i).state s ≡ Ignored → ⊥)
    → Acked ws b ws' b' i s → EndAs ws b ws' i s z
end_as ws b ws' b' i s z q d (ignored a c y) = absurd (d y)
end_as ws b ws' b' i s z q d (opened m y c v) = subst (EndAs ws b ws' i s) (sym y ∙ q) v
end_as ws b ws' b' i s z q d (counted y c v) = subst (EndAs ws b ws' i s) (sym y ∙ q) v
end_as ws b ws' b' i s z q d (failed m y c v) = subst (EndAs ws b ws' i s) (sym y ∙ q) v

-- ---- the call

module _ (t : List ℕ) (n : Memory) (l : Lists) (g : Good t n.node n.book l) (room : store_of t ≤ length n.store)
    (i : ℕ) (li : i < count_in n.node)
    (kind : is_sends (end_of n.node i).entry.kind ≡ true) (s : ℕ) (hs : s < 256) (block : List ℕ) where
  abbrev M : Machine
  M = stands_for t n l

  abbrev x : Lent
  x = lent n block

  abbrev L : Reading
  L = read_at n

  abbrev e : EndPoint
  e = end_of n.node i

  abbrev w : Window
  w = e.run.window

  abbrev at : ℕ
  at = offset_of w s

  abbrev E : End
  E = end_at n i

  -- the numbers with s acknowledged, and the end that has passed those without a gap
  abbrev noted : List Number
  noted = timed 0 true E s

  abbrev passed : End
  passed = passing (acked_run noted) noted E

  abbrev p : ℕ
  p = (memory.passing e.run s).run

  abbrev u : Window
  u = (memory.passing e.run s).window

  abbrev acked : Run
  acked = memory.acked_run e.run s

  abbrev c₀ : ℕ
  c₀ = cell i w s

  abbrev now : State → Lent
  now z = ack_after x i e z s

  low : i < 16
  low = low_at g li

  window : GoodWindow w
  window = (g.entered i li).window

  number_here : past w at ≡ s
  number_here = distance_back w.start.0 s window.byte hs

  cell_small : c₀ < all_cells
  cell_small = cell_low i low w window s

  same : Takes t (answers (0 ∷ 0 ∷ i ∷ []) block M) (Ok (record { entry = i; was = Ignored })) x
  same = record { numbers = refl; out = refl; stands = still g room }

  left : (z : State) → e.state ≡ z → Leaves t n (kept (now z)) l i
  left z q = leaves (subst (λ (z : State). Kept t x (now z) l i) q (ack_keeps t x l i s g li kind hs)) n.store (unaltered refl)

  ends : (z : State) → e.state ≡ z → (ack_answer e e.state s ≡ Ignored → ⊥) → EndAs n.node n.book (now z).node i s z
  ends z q d =
      end_as n.node n.book (now z).node (now z).book i s z q d
      (subst (λ (z : State). Acked n.node n.book (now z).node (now z).book i s) q (ack_ends t x l i s g li kind hs))

  -- ---- Open or Failing, and the number counts

  module _ (c : memory.counts e.run s ≡ true) where
    C : Counts e.run s
    C = counts_says e.run s c

    inside : at < w.size
    inside = ltb-true at w.size C.inside

    P : Passes i w at p u
    P = passes i e.run s window C

    node_acks : (now Open).node ≡ counted_node n.node i acked → acks_in (now Open).node ≡ acks_in n.node
    node_acks h = rw h (counted_puts n.node i g.long low acked).acks

    -- with a book b in which its timer stands
    module _ {b : List ℕ} (S : Sending n.book i e.run e.entry.largest) (T : Timed n.book b i w at 0)
        (R : (k : ℕ) → k < all_cells → retries_in b k ≡ retries_in n.book k) where
      acked_run_is : acked_run noted ≡ p
      acked_run_is = run_is L (zero_left n) n.store n.book i e s S window b low C T R

      numbers_left : (z : State) → drop p noted ≡ listed (e.run.taken - p) (number_for L n.store b i (turned_to e z acked))
      numbers_left = numbers_then L (zero_left n) n.store n.book i e s S window b low C T R

      confirmed_is : (e.run.confirmed.0 + p) % 4294967296 ≡ e.run.confirmed.0 + p
      confirmed_is =
          let z = passed_le n.book i e.run e.entry.largest S at C.handed p u P in
          let y = (run_fits n.node i).accepted in
          mod-eq_of_lt (omega (arith, S.counted, S.handed))

      E-then : (z z' : State) → e.state ≡ z → end_of (now z).node i ≡ turned_to e z' acked → (now z).book ≡ b
          → end_at (kept (now z)) i ≡ stated (state_for L (is_reset (under_in b) i) passed.numbers z') passed
      unfolding end_for memory.acked_run
      E-then z z' q end book =
          end_at_holds (left z q) end
          ∙ ap (λ (b : List ℕ). end_for L n.store b i (turned_to e z' acked)) book
          ∙ rw (
            acked_run_is,
            numbers_left z',
            start_past w s,
            confirmed_is,
            P.size,
            no_places n.store b i (turned_to e z' acked) kind,
            no_places n.store n.book i e kind,
          )

    -- ---- Open

    module _ (q : e.state ≡ Open) where
      O : OpenSender n.book l i e
      O = stated_at g li true kind Open q

      K : Leaves t n (kept (now Open)) l i
      K = left Open q

      abbrev b_o : List ℕ
      b_o = stopped n.book c₀

      book_is : (now Open).book ≡ b_o
      unfolding ack_book
      book_is = rw c

      end : end_of (now Open).node i ≡ turned_to e Open acked
      unfolding ack_answer
      end = ends Open q (λ z. let y : Acknowledged p ≡ Ignored = sym (rw (q, c)) ∙ z in let v : ◌≡◌ {A = ℕ} 0 1 = cc in omega arith)

      abbrev x₀ : ℕ
      x₀ = cell_id c₀

      x₀_is : id_at i w at ≡ x₀
      x₀_is = ap (λ (z : ℕ). cell_id (cell i w z)) number_here

      -- it waits as a retransmission, in queue 2, where its timer stands
      waits_if : timer_in n.book c₀ ≡ 0 → Memᴰ x₀ (l 2)
      waits_if z =
          (mine_in i x₀ (l 2)
          (O.resends.all x₀ (record {
            at = at;
            handed = C.handed;
            missing = C.missing;
            idle = ap (λ (y : ℕ). timer_in n.book (cell i w y)) number_here ∙ z;
            is = sym x₀_is;
          }))).0

      waits_not : timer_in n.book c₀ ≢ 0 → Memᴰ x₀ (l 2) → ⊥
      waits_not d m =
          let z = O.resends.each x₀ (mine_all i x₀ (l 2) m (ap owner_of (sym x₀_is) ∙ id_owner i low w window at)) in
          let h : z.at < w.size = omega (arith, z.handed, O.sending.handed, O.sending.taken) in
          let y = id_inj w window i z.at at h inside (sym z.is ∙ sym x₀_is) in
          d (ap (λ (k : ℕ). timer_in n.book (cell i w k)) (sym number_here ∙ ap (past w) (sym y)) ∙ z.idle)

      record Book (b' : List ℕ) : Type 0 where
        lists : Lists
        lines : Lines b' lists
        resent : lists 2 ≡ members.without x₀ (l 2)
        others : (r : ℕ) → r < 4 → r ≢ 2 → lists r ≡ l r
        retries : (k : ℕ) → k < all_cells → retries_in b' k ≡ retries_in n.book k

      book : Book (stopped n.book c₀)
      unfolding stopped
      book = sides (eqb (timer_in n.book c₀) 0) refl
        where
          sides : (z : Bool) → eqb (timer_in n.book c₀) 0 ≡ z → Book (set (pick z (unlinked n.book x₀) n.book) (timer_at c₀) 0)
          sides true z =
              let m = waits_if (eqb-true (timer_in n.book c₀) 0 z) in
              let U = unlink_lines n.book l g.lines 2 x₀ (omega arith) m in
              record {
                lists = less l x₀;
                lines = set_lines (unlinked n.book x₀) (less l x₀) U (timer_at c₀) 0 (omega arith);
                resent = refl;
                others = λ r h d. gone_other n.book l g.lines 2 x₀ (omega arith) m r h d;
                retries =
                    λ k h. get_or-set_other (unlinked n.book x₀) (timer_at c₀) (retries_at k) 0 0 (λ y. let v = cell_small in omega arith)
                    ∙ unlink_cells n.book l g.lines 2 x₀ (omega arith) m (retries_at k) (omega arith);
              }
          sides false z =
              record {
                lists = l;
                lines = set_lines n.book l g.lines (timer_at c₀) 0 (omega arith);
                resent = sym (without_out x₀ (l 2) (mem_out x₀ (l 2) (waits_not (eqb-false (timer_in n.book c₀) 0 z))));
                others = λ r h d. refl;
                retries = λ k h. get_or-set_other n.book (timer_at c₀) (retries_at k) 0 0 (λ y. let v = cell_small in omega arith);
              }

      timer : Timed n.book b_o i w at 0
      timer =
          subst (λ (z : ℕ). Timed n.book (stopped n.book (cell i w z)) i w at 0) number_here
          (open_book n.book l g.lines i low e.run window O.resends at C.handed inside C.missing).timed

      -- what waits: no retransmission of it, and the others with the numbers that they had

      lists : (r : ℕ) → r < 4 → K.lists r ≡ book.lists r
      lists = lists_are book_is K.good.lines book.lines

      abbrev test : Item → Bool
      test y = eqb y.entry i && eqb y.number s

      tests_it : (y : ℕ) → Memᴰ y (l 2) → test (slot_item n.node y) ≡ eqb y x₀
      tests_it y m = sides (ℕ_discrete (owner_of y) i)
        where
          owned : owner_of x₀ ≡ i
          owned = ap owner_of (sym x₀_is) ∙ id_owner i low w window at

          one : (z : ℕ) → z < w.size → y ≡ id_at i w z → Dec (z ≡ at) → test (record { entry = i; number = past w z }) ≡ eqb y x₀
          one z h v (yes u) =
              rw (eq-eqb i i refl, eq-eqb (past w z) s (ap (past w) u ∙ number_here)) (sym (eq-eqb y x₀ (v ∙ ap (id_at i w) u ∙ x₀_is)))
          one z h v (no u) =
              rw (
                eq-eqb i i refl,
                ne_eqb (past w z) s
                    (λ f. u (let b = window.byte in let d = size_le w.size window.sized in omega arith)),
              )
              (sym (ne_eqb y x₀ (λ f. u (id_inj w window i z at h inside (sym v ∙ f ∙ sym x₀_is)))))

          sides : Dec (owner_of y ≡ i) → test (slot_item n.node y) ≡ eqb y x₀
          sides (no d) = rw (ne_eqb (owner_of y) i d) (sym (ne_eqb y x₀ (λ z. d (ap owner_of z ∙ owned))))
          sides (yes o) =
              let z = O.resends.each y (mine_all i y (l 2) m o) in
              let h : z.at < w.size = omega (arith, z.handed, O.sending.handed, O.sending.taken) in
              ap test (ap (slot_item n.node) z.is ∙ item_at n.node i low window z.at h)
              ∙ one z.at h z.is (ℕ_discrete z.at at)

      -- a number of the entry's that waits then
      item_stays : (k : ℕ) → k < e.run.taken - p → slot_item (now Open).node (id_at i u k) ≡ slot_item n.node (id_at i u k)
      unfolding memory.acked_run
      item_stays k h =
          let v : (end_of (now Open).node i).run.window ≡ u = ap (λ (y : EndPoint). y.run.window) end in
          let T = O.sending.taken in
          let f = start_past w s in
          item_for (now Open).node i low u v P.good k (rw P.size (omega arith))
          ∙ ap (λ (y : ℕ). record { entry = i; number = y })
          (let g : byte_of (u.start.0 + k) ≡ byte_of (w.start.0 + (p + k)) = omega arith in g)
          ∙ sym (ap (slot_item n.node) (ap cell_id (P.cells k)) ∙ item_at n.node i low window (p + k) (omega arith))

      O' : OpenSender (now Open).book K.lists i (turned_to e Open acked)
      O' = stated_then K li true kind Open end

      abbrev Own : ℕ → Type 0
      Own y = (k : ℕ) × (k < e.run.taken - p) × (y ≡ id_at i u k)

      items : (r : ℕ) → r < 4 → ((y : ℕ) → Memᴰ y (mine i (K.lists r)) → Own y)
          → map (slot_item (now Open).node) (K.lists r) ≡ map (slot_item n.node) (K.lists r)
      items r hr own = map_ext (slot_item (now Open).node) (slot_item n.node) (K.lists r) (λ y m. sides y m (ℕ_discrete (owner_of y) i))
        where
          sides : (y : ℕ) → Memᴰ y (K.lists r) → Dec (owner_of y ≡ i) → slot_item (now Open).node y ≡ slot_item n.node y
          sides y m (yes o) = let z = own y (mine_all i y (K.lists r) m o) in rw z.2 (item_stays z.0 z.1)
          sides y m (no d) = rw (windows_other i n.node (now Open).node K.apart y (λ o. absurd (d o)))

      own_resent : (y : ℕ) → Memᴰ y (mine i (K.lists 2)) → Own y
      unfolding memory.acked_run
      own_resent y m = let z = O'.resends.each y m in (z.at, omega (arith, z.handed, O'.sending.handed), z.is)

      own_data : (y : ℕ) → Memᴰ y (mine i (K.lists 3)) → Own y
      unfolding memory.acked_run
      own_data y m =
          let h = subst (λ (ys : List ℕ). Memᴰ y ys) O'.share.datas m in
          let z = ids_in i u (e.run.handed - p) ((e.run.taken - p) - (e.run.handed - p)) y h in
          (z.at, omega (arith, z.high, O'.sending.handed), z.is)

      waiting : (r : Sort) → waiting_for (now Open).node K.lists r ≡ (not_again i s M).waiting r
      unfolding waiting_for ack_node
      waiting acks = ap (map ack_item) (node_acks (rw c))
      waiting resets = ap (map plain_item) (lists 0 (omega arith) ∙ book.others 0 (omega arith) (λ z. omega arith))
      waiting urgents = ap (map plain_item) (lists 1 (omega arith) ∙ book.others 1 (omega arith) (λ z. omega arith))
      waiting resends =
          items 2 (omega arith) own_resent ∙ ap (map (slot_item n.node)) (lists 2 (omega arith) ∙ book.resent)
          ∙ without_map (members.without x₀) (λ y. eqb y x₀) test (slot_item n.node) refl (λ y ys. refl) (l 2) tests_it
      waiting datas =
          items 3 (omega arith) own_data
          ∙ ap (map (slot_item n.node)) (lists 3 (omega arith) ∙ book.others 3 (omega arith) (λ z. omega arith))

      open_counts : (acked_run noted ≡ p) × Stands t (kept (now Open)) (not_again i s (turned i passed M))
      unfolding end_for
      open_counts = (
        acked_run_is O.sending timer book.retries,
        turned_stands g room li K
            (E-then O.sending timer book.retries Open Open q end book_is ∙ ap (λ (z : State). stated (state_in L n.store n.book i e z) passed) (sym q)) waiting,
      )

    -- ---- Failing

    module _ (m : ℕ) (q : e.state ≡ Failing m) where
      abbrev fewer : ℕ
      fewer = memory.fewer (timer_in n.book c₀) m

      abbrev b_f : List ℕ
      b_f = set n.book (timer_at c₀) 0

      F : FailingSender n.book l i e m
      F = stated_at g li true kind (Failing m) q

      book_f : (now (Failing m)).book ≡ b_f
      unfolding ack_book
      book_f = rw c

      timer_f : Timed n.book b_f i w at 0
      timer_f =
          subst (λ (z : ℕ). Timed n.book (set n.book (timer_at (cell i w z)) 0) i w at 0) number_here
          (timed_set i low w window at (inside) 0 n.book g.lines.long)

      retries_f : (k : ℕ) → k < all_cells → retries_in b_f k ≡ retries_in n.book k
      retries_f k h = get_or-set_other n.book (timer_at c₀) (retries_at k) 0 0 (λ y. let v = cell_small in omega arith)

      abbrev e_f : EndPoint
      e_f = turned_to e (Failing fewer) acked

      end_f : end_of (now (Failing m)).node i ≡ e_f
      unfolding ack_answer
      end_f =
          ends (Failing m) q (λ z. let y : Acknowledged p ≡ Ignored = sym (rw (q, c)) ∙ z in let v : ◌≡◌ {A = ℕ} 0 1 = cc in omega arith)

      run_f : acked_run noted ≡ p
      run_f = acked_run_is F.sending timer_f retries_f

      abbrev saved_f : List ℕ
      saved_f = saved n.node i (Failing fewer) acked

      failing_counts : (acked_run noted ≡ p)
          × Stands t (kept (now (Failing m))) (turned i (stated (Failing (running passed.numbers)) passed) M)
      unfolding ack_node
      failing_counts = (
        run_f,
        turned_stands g room li (left (Failing m) q)
            (E-then F.sending timer_f retries_f (Failing m) (Failing fewer) q end_f book_f)
            (waits_still (left (Failing m) q) (silent_steady F.silent)
            (rw c (clocked_acks saved_f (roused saved_f) (clocked_set saved_f quiet_at 0 (omega arith) (omega arith))
            ∙ (saved_acks n.node i (Failing fewer) acked).1)) book_f
            (set_lines n.book l g.lines (timer_at c₀) 0 (omega arith))),
      )

  -- ---- Enabled, and opened by number 0

  module _ (timer₀ : ℕ) (sent : Bool) (q : e.state ≡ Enabled timer₀ sent) (c : (sent && eqb s 0) ≡ true) where
    abbrev now_o : Lent
    now_o = now (Enabled timer₀ sent)

    abbrev e_o : EndPoint
    e_o = turned_to e Open (memory.opened_run e.run)

    K-o : Leaves t n (kept now_o) l i
    K-o = left (Enabled timer₀ sent) q

    node_o : now_o.node ≡ saved n.node i Open (memory.opened_run e.run)
    unfolding ack_node
    node_o = rw c

    end_o : end_of now_o.node i ≡ e_o
    unfolding ack_answer
    end_o =
        ends (Enabled timer₀ sent) q (λ z. let y : Opened ≡ Ignored = sym (rw (q, c)) ∙ z in let v : ◌≡◌ {A = ℕ} 0 1 = cc in omega arith)

    O-o : OpenSender now_o.book K-o.lists i e_o
    O-o = stated_then K-o li true kind Open end_o

    none_o : (r : ℕ) → r < 4 → mine i (K-o.lists r) ≡ []
    unfolding memory.opened_run good.ids
    none_o =
        silent_nil K-o.lists i
        (record {
          share = O-o.share;
          resends = none_nil (mine i (K-o.lists 2)) (λ y k. let z = O-o.resends.each y k in omega (arith, z.handed));
        })

    E-o : end_at (kept now_o) i ≡ machine.counted 0 0 (anew Open E)
    unfolding end_for memory.opened_run listed
    E-o = end_at_holds K-o end_o ∙ rw (no_places n.store now_o.book i e_o kind)

    opened_stands : Stands t (kept now_o) (silent i (turned i (machine.counted 0 0 (anew Open E)) M))
    opened_stands =
        silent_stands g room li K-o none_o
        (rw node_o (saved_acks n.node i Open (memory.opened_run e.run)).1 ∙ sym (sender_acks g i kind))
        E-o

  -- ---- all of them

  -- at Open and Failing, where f is what becomes of the machine: the machine's test is the memory's
  counts_as : (z : State) (f : End → Machine) → Sending n.book i e.run e.entry.largest
      → (memory.counts e.run s ≡ false → now z ≡ x)
      → (memory.counts e.run s ≡ true → (acked_run noted ≡ p) × Stands t (kept (now z)) (f passed))
      → Takes t (machine.acked M block i E s f) (Ok (record { entry = i; was = pick (memory.counts e.run s) (Acknowledged p) Ignored })) (now z)
  counts_as z f S stays counts = rw (← counts_is L (zero_left n) n.store n.book i e s S) (sides (memory.counts e.run s) refl)
    where
      sides : (y : Bool) → memory.counts e.run s ≡ y
          → Takes t (pick y (answers (0 ∷ 1 ∷ i ∷ acked_run noted ∷ []) block (f passed)) (answers (0 ∷ 0 ∷ i ∷ []) block M))
          (Ok (record { entry = i; was = pick y (Acknowledged p) Ignored })) (now z)
      sides true c =
          record { numbers = ap (λ (k : ℕ). 0 ∷ 1 ∷ i ∷ k ∷ []) (sym (counts c).0); out = refl; stands = (counts c).1 }
      sides false c = rw (stays c) same

  takes_in : (z : State) → e.state ≡ z → Takes t (acking M block i E s (state_in L n.store n.book i e z)) (Ok (record { entry = i; was = ack_answer e z s })) (now z)
  unfolding acking ack_answer ack_node ack_book
  takes_in Closed q = same
  takes_in (Enabled timer₀ sent) q = sides (sent && eqb s 0) refl
    where
      sides : (z : Bool) → (sent && eqb s 0) ≡ z
          → Takes t (acking M block i E s (state_in L n.store n.book i e (Enabled timer₀ sent))) (Ok (record { entry = i; was = ack_answer e (Enabled timer₀ sent) s })) (now (Enabled timer₀ sent))
      sides true c = rw c (record { numbers = refl; out = refl; stands = rw c at (opened_stands timer₀ sent q c) })
      sides false c = rw c same
  takes_in Open q =
      counts_as Open (λ E. not_again i s (turned i E M)) (stated_at g li true kind Open q).sending (λ c. rw c) (λ c. open_counts c q)
  takes_in (Failing m) q =
      counts_as (Failing m) (λ E. turned i (stated (Failing (running E.numbers)) E) M)
      (stated_at g li true kind (Failing m) q).sending (λ c. rw c) (λ c. failing_counts c m q)

  pub ack_takes : Takes t (acking M block i E s E.state) (Ok (record { entry = i; was = ack_answer e e.state s })) (ack_after x i e e.state s)
  unfolding end_for
  ack_takes = takes_in e.state refl

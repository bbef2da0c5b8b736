-- A Reset, Data and an Urgent taken in are the machine's. Assumes nothing.
use Prim.Native.Nat.{ℕ, zero, suc, ◌+◌, ◌*◌, ◌/◌, ◌%◌, ◌≤◌, ◌<◌}
use mathlib.Core.Path.{◌≡◌, refl, sym, ap, subst, ◌∙◌}
use mathlib.Core.Logic.{◌≢◌}
use mathlib.Core.Bool.{Bool, true, false}
use mathlib.Core.Option.{Option, some}
use mathlib.Core.List.{List, [], ◌∷◌, ◌++◌, map, map-append}
use native.Mathlib.Omega.{arith}
use lib.ListN.{length, set, get_elem?, length-set}
use lib.Seq.{sets}
use borrow.Author.Tests.{ltb-true}
use Rattle.units.specs.Refusals.{pick}
use Rattle.memory.specs.Layout.{length_at}
use Rattle.waiting.specs.Acks.{dropped, waiting_of}
use Rattle.waiting.specs.Order.{acks_in, not_of}
use Rattle.window.specs.Windows.{offset_of, held, accept_of, Good as GoodWindow}
use Rattle.window.specs.declared.Window.{Window}
use Rattle.window.proofs.Accepting.{accept_size, accept_good, found_new}
use Rattle.window.proofs.Passing.{pass_run, run_le}
use Rattle.window.proofs.WindowLaw.{distance_back}
use Rattle.window.proofs.Holding.{held_below_holds}
use Rattle.table.specs.Areas.{slots_of, store_of}
use Rattle.table.specs.Layout.{count_of, entry_of}
use Rattle.table.specs.declared.Entry.{Entry}
use Rattle.table.proofs.Good.{good_entry}
use Rattle.frame.specs.declared.FrameType.TheVariants as type
use Rattle.end_points.specs.Ends.{end_of}
use Rattle.end_points.specs.Heads.{count_in}
use Rattle.end_points.specs.Runs as runs
use Rattle.end_points.specs.Runs.{is_new}
use Rattle.end_points.specs.States.{is_sends}
use Rattle.end_points.specs.Lent.{Lent}
use Rattle.end_points.specs.declared.State.{State}
use Rattle.end_points.specs.declared.State.TheVariants.{Open}
use Rattle.end_points.specs.declared.EndPoint.{EndPoint}
use Rattle.end_points.specs.declared.answers.Was.TheVariants as was
use Rattle.slots.specs.Slots.{slot_for, cell, past}
use Rattle.blocks.specs.Blocks.{block_of, takes}
use Rattle.arrive_data.specs.Receiving as memory
use Rattle.arrive_data.specs.Receiving.{acknowledged, reset_answer, reset_node, reset_after, with_window, put_store, put_book}
use Rattle.arrive_data.specs.Receiving.{delivered, given, data_answer, data_after, urgent_answer, urgent_after}
use Rattle.call_arrive.specs.Arriving.{block_room}
use Rattle.good.specs.Good.{Lists, Lines, Silent, Good, mine}
use Rattle.good.specs.Calls.{Memory, lent, kept}
use Rattle.good.proofs.Known.{is_new_holds, receiver_silent, silent_nil}
use Rattle.good.proofs.Lined.{set_lines}
use Rattle.good.proofs.Offsets.{slot_inj}
use Rattle.good.proofs.Turns.{turned_to, saved_acks, ring_of, push_end}
use Rattle.good.proofs.AckRuns.{Passes, passes}
use Rattle.good.proofs.ReceiveKeeps.{reset_acks, reset_end, reset_keeps, length_own, length_other, data_end}
use Rattle.good.proofs.ReceiveKeeps.{data_acks, data_puts, data_keeps}
use Rattle.good.proofs.Stores.{end_entry, slot_low}
use Rattle.good.proofs.Payloads.{payload_apart, r_filled, Stored, unaltered, put}
use Rattle.machine.specs.Machine as machine
use Rattle.machine.specs.Machine.{End, Sort, acks, Machine, Outcome, listed, anew, turned, waits, silent, held_run}
use Rattle.machine.specs.Machine.{delivering, handing_on, receiving, taken_in}
use Rattle.refinement.specs.Standing.{read_at, payload_for, end_for, end_at, ack_item, waiting_for, stands_for, Stands}
use Rattle.machine.proofs.Listed.{length_listed, elem_listed}
use Rattle.machine.proofs.Entries.{not_none, elem_in}
use Rattle.machine.proofs.Blocks.{block_fits, run_fits, put_short}
use Rattle.refinement.proofs.Elsewhere.{no_urgent, none_taken, put_read, Leaves, leaves, end_at_holds, still, turned_same, turned_stands}
use Rattle.refinement.proofs.Waiting.{silent_steady, waits_only, lists_are, not_map, silent_then}
use Rattle.refinement.proofs.Following.{low_at, stated_at, begun_end, size_is}
use Rattle.refinement.proofs.Passing.{start_past}
use Rattle.refinement.proofs.Places.{count_is, new_is, payloads_listed, delivered_is, places_then}
use Rattle.refinement.proofs.AckStands.{Takes}
use Rattle.refinement.proofs.Sounding.{sound_at}
use Rattle.std.specs.Prelude.{Ok}

-- an acknowledgement of s by entry i
ack_item_holds : (i s : ℕ) → i < 16 → s < 256 → ack_item (i * 256 + s) ≡ record { entry = i; number = s }
ack_item_holds i s hi hs =
    let a : (i * 256 + s) / 256 % 256 ≡ i = omega arith in
    let b : (i * 256 + s) % 256 ≡ s = omega arith in
    rw (a, b)

module _ (t : List ℕ) (n : Memory) (l : Lists) (g : Good t n.node n.book l) (room : store_of t ≤ length n.store)
    (i : ℕ) (li : i < count_in n.node)
    (kind : is_sends (end_of n.node i).entry.kind ≡ false) (block : List ℕ) where
  abbrev M : Machine
  M = stands_for t n l

  abbrev x : Lent
  x = lent n block

  abbrev e : EndPoint
  e = end_of n.node i

  abbrev w : Window
  w = e.run.window

  low : i < 16
  low = low_at g li

  window : GoodWindow w
  window = (g.entered i li).window

  quiet : Silent l i []
  quiet = receiver_silent n.book l i e e.state (stated_at g li false kind e.state refl)

  -- ---- room in the block

  -- what fits the room that the entry asks for is written whole
  takes_all : (ps : List (List ℕ)) → block_room e ≤ length block → length (block_of ps) ≤ machine.block_room e.entry
      → takes block ps ≡ length (block_of ps)
  takes_all ps roomy fits =
      let same : block_room e ≡ machine.block_room e.entry = rw (size_is g li) in
      omega (arith, roomy, fits, same)

  -- a window has a number at least
  some_size : 1 ≤ e.entry.window
  some_size =
      rw (end_entry t n.node n.book l g i li) (good_entry t g.table i (omega (arith, g.tabled.count))).window_low

  only : (p : List ℕ) → length p ≤ e.entry.largest → (k : ℕ) (q : List ℕ) → get_elem? (p ∷ []) k ≡ some q
      → length q ≤ e.entry.largest
  only p most zero q h = let z : p ≡ q = cc in rw (← z) most
  only p most (suc k) q h = not_none h

  -- ---- an Urgent

  pub urgent_takes : (p : List ℕ) → length p ≤ e.entry.largest → block_room e ≤ length block
      → Takes t (delivering i was.Urgent (p ∷ []) block M) (Ok (record { entry = i; was = urgent_answer block p })) (urgent_after x p)
  unfolding urgent_answer urgent_after
  urgent_takes p most roomy =
      record {
        numbers = rw (takes_all (p ∷ []) roomy (block_fits e.entry (p ∷ []) some_size (only p most)));
        out = refl;
        stands = still g room;
      }

  -- ---- a Reset

  module _ (few : waiting_of n.node < 32) where
    abbrev now : Lent
    now = reset_after x i e

    store_is : now.store ≡ n.store
    unfolding reset_after
    store_is = refl

    left : Leaves t n (kept now) l i
    left = leaves (reset_keeps t x l g i li kind few) now.store (unaltered store_is)

    acks_then : acks_in now.node ≡ not_of i (acks_in n.node) ++ ((i * 256 + 0) ∷ [])
    unfolding reset_after reset_node
    acks_then = (saved_acks (acknowledged (dropped i n.node) i 0) i Open (runs.anew e.run)).1 ∙ reset_acks t x l g i li kind few

    gone : (q : ℕ) → q < 4 → mine i (left.lists q) ≡ []
    unfolding reset_after
    gone q h = ap (mine i) (lists_are refl left.good.lines g.lines q h) ∙ silent_nil l i quiet q h

    E-is : end_at (kept now) i ≡ anew Open (end_at n i)
    E-is =
        end_at_holds left (reset_end t x l g i li kind)
        ∙ begun_end (read_at n) (read_at n) now.store now.book n.store n.book i e Open

    waiting : (q : Sort) → waiting_for now.node left.lists q ≡ (waits acks i 0 (silent i M)).waiting q
    unfolding waiting_for
    waiting =
        silent_then i n.node now.node n.book now.book l left.lists left.apart left.within gone
        (λ xs. xs ++ (record { entry = i; number = 0 } ∷ []))
        (ap (map ack_item) acks_then ∙ map-append ack_item (not_of i (acks_in n.node)) ((i * 256 + 0) ∷ [])
        ∙ rw (not_map i (acks_in n.node), ack_item_holds i 0 low (omega arith)))

    pub reset_takes : (s : ℕ) (p : List ℕ) → Takes t (taken_in M block i (end_at n i) type.Reset s p) (Ok (record { entry = i; was = reset_answer e })) (reset_after x i e)
    unfolding taken_in machine.resetting reset_answer reset_after
    reset_takes s p =
        record {
          numbers = ap (λ (k : ℕ). 0 ∷ 3 ∷ i ∷ k ∷ []) (count_is (read_at n) n.store n.book i e kind window (size_is g li));
          out = refl;
          stands = turned_stands g room li left E-is waiting;
        }

  -- ---- Data

  module _ (o : e.state ≡ Open) (s : ℕ) (hs : s < 256) (p : List ℕ) (some_p : 1 ≤ length p)
      (most_p : length p ≤ e.entry.largest) (few : waiting_of n.node < 32) (roomy : block_room e ≤ length block) where
    abbrev now_d : Lent
    now_d = data_after x i e s p

    abbrev at : ℕ
    at = offset_of w s

    left_d : (st : List ℕ) → Stored t n st i → Leaves t n (record { node = now_d.node; book = now_d.book; store = st }) l i
    left_d = leaves (data_keeps t x l g i li kind o s hs p some_p most_p few)

    -- one acknowledgement more waits, and the queues are as they were
    data_stands : Stored t n now_d.store i → (b' : List ℕ) → now_d.book ≡ b' → Lines b' l
        → acks_in now_d.node ≡ acks_in (acknowledged n.node i s) → (E : End) → end_at (kept now_d) i ≡ E
        → Stands t (kept now_d) (waits acks i s (turned i E M))
    data_stands st b' b-is L a E here =
        let k = left_d now_d.store st in
        turned_stands g room li k here
        (waits_only k.apart (silent_steady quiet) acks
        (λ xs. xs ++ (record { entry = i; number = s } ∷ []))
        (ap (map ack_item) (a ∙ data_acks t x l g i li kind o s hs p some_p most_p few)
        ∙ map-append ack_item (acks_in n.node) ((i * 256 + s) ∷ []) ∙ rw (ack_item_holds i s low hs))
        (λ z. absurd (z refl)) (λ r h z. lists_are b-is k.good.lines L r h))

    -- held already, or outside
    module _ (old : is_new (accept_of w s).found ≡ false) where
      now_old : now_d ≡ memory.repeated x i s
      unfolding data_after
      now_old = rw old

      old_stored : Stored t n now_d.store i
      old_stored = unaltered (ap (λ (y : Lent). y.store) now_old)

      old_end : end_of now_d.node i ≡ e
      old_end =
          ap (λ (y : Lent). end_of y.node i) now_old ∙ push_end i n.node (i * 256 + s) (ring_of t n.node n.book l g)

      old_stands : Stands t (kept now_d) (waits acks i s M)
      old_stands =
          subst (λ (m : Machine). Stands t (kept now_d) (waits acks i s m)) (sym (turned_same n g li))
          (data_stands old_stored n.book (ap (λ (y : Lent). y.book) now_old) g.lines
          (ap (λ (y : Lent). acks_in y.node) now_old) (end_at n i)
          (end_at_holds (left_d now_d.store old_stored) old_end ∙ ap (λ (y : Lent). end_for (read_at n) y.store y.book i e) now_old))

    -- in the window and new
    module _ (new : is_new (accept_of w s).found ≡ true) where
      now_new : now_d ≡ memory.first_time x i e s p
      unfolding data_after
      now_new = rw new

      inside : at < w.size
      inside = ltb-true at w.size (found_new w s (is_new_holds (accept_of w s).found new)).0

      missing : held w at ≡ false
      missing = (found_new w s (is_new_holds (accept_of w s).found new)).1

      number_here : past w at ≡ s
      number_here = distance_back w.start.0 s window.byte hs

      abbrev b' : List ℕ
      b' = put_book n.book i e s p

      abbrev st' : List ℕ
      st' = put_store n.store e s p

      abbrev q : ℕ
      q = (memory.passing e s).run

      abbrev u : Window
      u = (memory.passing e s).window

      -- a run with this window, of which the number was handed out
      P : Passes i w at q u
      P =
          let r = e.run in
          passes i (record { window = w; taken = 0; handed = suc at; accepted = r.accepted; confirmed = r.confirmed; urgent = 0 }) s
          window
          (record { inside = (found_new w s (is_new_holds (accept_of w s).found new)).0; handed = omega arith; missing = missing })

      q_few : q ≤ w.size
      q_few =
          let a = (accept_of w s).window in
          let z = run_le a (accept_good w s window) in
          let y = accept_size w s in
          omega (arith, pass_run a)

      r_low : slot_for w s < slots_of (entry_of t i).kind (entry_of t i).window
      r_low = slot_low t n.node n.book l g i li s

      here : payload_for st' b' i e at ≡ p
      here =
          rw (length_own n.book g.lines.long i low w window s hs new (length p), number_here)
          (put_read n g room li (slot_for w s) p r_low most_p)

      there : (j : ℕ) → held w j ≡ true → j ≢ at → payload_for st' b' i e j ≡ payload_for n.store n.book i e j
      there j h d =
          let hj = held_below_holds w window j h in
          payload_apart t n l g i li room (slot_for w s) p r_low most_p b' j (r_filled t n.node n.book l g i li kind j h)
          (λ c. d (slot_inj w window j at hj inside (c ∙ ap (slot_for w) (sym number_here))))
          (length_other n.book g.lines.long i low w window s hs new (length p) j hj d)

      size : w.size ≡ e.entry.window
      size = size_is g li

      abbrev ps : List (Option (List ℕ))
      ps = set (end_at n i).places at (some p)

      run_is : held_run ps ≡ listed q (payload_for st' b' i e)
      run_is = delivered_is (read_at n) n.store n.book st' b' i e kind window size s p inside q u P q_few here there

      given_is : held_run ps ≡ delivered x i e s p
      given_is = run_is ∙ sym (payloads_listed st' b' i e q)

      run_long : length (held_run ps) ≡ q
      run_long = ap length run_is ∙ length_listed q (payload_for st' b' i e)

      end : end_of now_d.node i ≡ turned_to e e.state (with_window e.run u)
      end =
          ap (λ (y : Lent). end_of y.node i) now_new
          ∙ data_end t x l g i li kind o s hs p some_p most_p few
          ∙ ap (λ (z : State). turned_to e z (with_window e.run u)) (sym o)

      new_stored : Stored t n now_d.store i
      new_stored = put (slot_for w s) p li r_low most_p (ap (λ (y : Lent). y.store) now_new)

      E-new : end_at (kept now_d) i ≡ handing_on (length (held_run ps)) ps (end_at n i)
      unfolding end_for with_window listed
      E-new =
          end_at_holds (left_d now_d.store new_stored) end
          ∙ ap (λ (y : Lent). end_for (read_at n) y.store y.book i (turned_to e e.state (with_window e.run u))) now_new
          ∙ rw (
            o,
            run_long,
            none_taken g li kind,
            no_urgent g li kind,
            start_past w s,
            places_then (read_at n) n.store n.book st' b' i e kind window size s p inside q u P q_few here there e.state,
          )

      new_stands : Stands t (kept now_d) (waits acks i s (turned i (handing_on (length (held_run ps)) ps (end_at n i)) M))
      new_stands =
          data_stands new_stored b' (ap (λ (y : Lent). y.book) now_new)
          (set_lines n.book l g.lines (length_at (cell i w s)) (length p) (omega arith))
          (ap (λ (y : Lent). acks_in y.node) now_new ∙ (data_puts t x l g i li kind o s hs p some_p most_p few).2)
          (handing_on (length (held_run ps)) ps (end_at n i)) E-new

    -- both
    abbrev placed : List (Option (List ℕ))
    placed = set (end_at n i).places at (some p)

    none_fit : length (block_of []) ≤ machine.block_room e.entry
    none_fit = block_fits e.entry [] (omega arith) (λ k q h. not_none h)

    -- those that are held have at most P bytes, as the machine is sound
    placed_fit : length (block_of (held_run placed)) ≤ machine.block_room e.entry
    unfolding end_for
    placed_fit =
        let here = elem_listed (count_of t) (end_at n) i (omega (arith, g.tabled.count)) in
        let b = (sound_at t n l g room).bounded i (end_at n i) here in
        let entry = b.entry in
        run_fits e.entry placed (length-set (end_at n i).places at (some p) ∙ b.places ∙ ap (λ (y : Entry). y.window) (sym entry))
        (put_short (end_at n i).places e.entry.largest at p
        (λ k q h. rw entry (b.held q (elem_in (end_at n i).places k h)).most) most_p)

    abbrev received : Bool → Outcome
    received z =
        pick z
        (delivering i was.Data (held_run placed) block
        (waits acks i s (turned i (handing_on (length (held_run placed)) placed (end_at n i)) M)))
        (delivering i was.Data [] block (waits acks i s M))

    receiving_as : receiving M block i (end_at n i) s p ≡ received (is_new (accept_of w s).found)
    unfolding receiving end_for
    receiving_as = ap received (new_is (read_at n) n.store n.book i e kind window (size_is g li) s)

    pub data_takes : Takes t (receiving M block i (end_at n i) s p) (Ok (record { entry = i; was = data_answer x i e s p })) (data_after x i e s p)
    unfolding data_answer given
    data_takes = rw receiving_as (sides (is_new (accept_of w s).found) refl)
      where
        sides : (z : Bool) → is_new (accept_of w s).found ≡ z → Takes t (received z) (Ok (record { entry = i; was = data_answer x i e s p })) (data_after x i e s p)
        sides true z =
            record {
              numbers =
                  rw z (ap (λ (ds : List (List ℕ)). 0 ∷ 4 ∷ i ∷ takes block ds ∷ []) (sym (given_is z))
                  ∙ ap (λ (k : ℕ). 0 ∷ 4 ∷ i ∷ k ∷ []) (takes_all (held_run placed) roomy placed_fit));
              out = ap (λ (y : Lent). y.out) (now_new z) ∙ ap (λ (ds : List (List ℕ)). sets block 0 (block_of ds)) (sym (given_is z));
              stands = new_stands z;
            }
        sides false z = record { numbers = rw (z, takes_all [] roomy none_fit); out = ap (λ (y : Lent). y.out) (now_old z); stands = old_stands z }

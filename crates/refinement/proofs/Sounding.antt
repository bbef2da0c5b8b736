-- The machines that nodes stand for are sound: end points within their entry's bounds, and nothing waits that may not go out. Assumes
-- nothing.
use Prim.Native.Nat.{ℕ, zero, suc, ◌-◌, ◌/◌, ◌%◌, ◌≤◌, ◌<◌}
use mathlib.Core.Path.{◌≡◌, refl, sym, ap, subst, ◌∙◌}
use mathlib.Core.Logic.{◌⊎◌, inl, inr}
use mathlib.Core.Bool.{Bool, true, false, not, ◌&&◌}
use mathlib.Core.Option.{none, some, none-ne-some, some-injective}
use mathlib.Core.List.Memᴰ
use mathlib.Core.List.{List, [], ◌∷◌, map, Memᴰ}
use native.Mathlib.Decide.{dec_lt}
use native.Mathlib.Omega.{arith}
use lib.ListN.{length, drop, get_elem?, length-drop, length-map}
use lib.Seq.{length-take-le}
use lib.Dec.{eqb}
use borrow.Author.Tests.{eqb-false}
use Rattle.std.proofs.lemmas.Bool.{and_parts, not-true}
use Rattle.units.specs.Refusals.{pick}
use Rattle.memory.specs.Layout as layout
use Rattle.waiting.specs.Port.{under_in, is_reset}
use Rattle.waiting.specs.Acks.{place_of, waiting_of}
use Rattle.waiting.specs.Order.{acks_in}
use Rattle.waiting.proofs.Ringed.{from_length}
use Rattle.window.specs.Numbers.{distance_of}
use Rattle.window.specs.Windows.{held}
use Rattle.window.proofs.Sizes.{size_le}
use Rattle.window.specs.declared.Window.{Window}
use Rattle.table.specs.Layout.{count_of, entry_of}
use Rattle.table.specs.Areas.{slots_of, store_of}
use Rattle.table.specs.declared.Entry.{Entry}
use Rattle.end_points.specs.Ends.{end_of}
use Rattle.end_points.specs.Heads.{count_in}
use Rattle.end_points.specs.States.{is_sends}
use Rattle.end_points.specs.declared.State.{State}
use Rattle.end_points.specs.declared.State.TheVariants.{Closed, Enabled, Open, Failing}
use Rattle.end_points.specs.declared.EndPoint.{EndPoint}
use Rattle.slots.specs.Slots.{slot_for, cell, past, spot, length_in}
use Rattle.call_hand_out.specs.Handing.{urgent_payload}
use Rattle.memory.specs.Layout.{owner_of}
use Rattle.good.specs.Good.{Lists, Good, Stated, Filled, mine, id_at}
use Rattle.good.specs.Calls.{Memory}
use Rattle.good.proofs.Known.{stated_as, receiver_silent, silent_out}
use Rattle.good.proofs.Members.{mine_all}
use Rattle.good.proofs.Offsets.{ids_in}
use Rattle.good.proofs.Framing.{entry_low}
use Rattle.good.proofs.Stores.{end_entry, end_size, slot_low, slot_room, urgent_low}
use Rattle.good.proofs.Payloads.{s_filled, s_narrow, r_filled}
use Rattle.machine.specs.Machine.{Number, Item, Sort, acks, resets, urgents, resends, datas, Machine, listed}
use Rattle.machine.specs.Sound.{Sized, Receives, Bounded, WaitsData, Waits, Owned, Sound}
use Rattle.refinement.specs.Standing.{Reading, read_at, state_for, payload_for, number_for, place_for, end_for, end_at, ack_item, plain_item, slot_item, waiting_for, stands_for, StandsSound}
use Rattle.machine.proofs.Listed.{length_listed, get_d_listed, elem_listed, elem_none}
use Rattle.refinement.proofs.Elsewhere.{no_urgent, none_taken, urgent_most}
use Rattle.refinement.proofs.Following.{state_in, item_at}

-- ---- members of a list by its numbers

mem_listed : {A : Type 0} (n : ℕ) (f : ℕ → A) (y : A) → Memᴰ y (listed n f) → (k : ℕ) × (k < n) × (y ≡ f k)
unfolding listed
mem_listed zero f y m = absurd (Memᴰ.not-nil m)
mem_listed {A} (suc n) f y m = sides (Memᴰ.append_cases (listed n f) m) (mem_listed n f y)
  where
    sides : Memᴰ y (listed n f) ⊎ Memᴰ y (f n ∷ []) → (Memᴰ y (listed n f) → (k : ℕ) × (k < n) × (y ≡ f k)) → (k : ℕ) × (k < suc n) × (y ≡ f k)
    sides (inl k) below = let b = below k in (b.0, omega (arith, b.1), b.2)
    sides (inr k) below = (n, omega arith, Memᴰ.eq_of_singleton k)

pub elem_of : {A : Type 0} (n : ℕ) (f : ℕ → A) (i : ℕ) (a : A) → get_elem? (listed n f) i ≡ some a → (i < n) × (a ≡ f i)
elem_of {A} n f i a e = sides (dec_lt i n)
  where
    sides : Dec (i < n) → (i < n) × (a ≡ f i)
    sides (yes h) = (h, some-injective a (f i) (sym e ∙ elem_listed n f i h))
    sides (no h) = absurd (none-ne-some a (sym (elem_none n f i (omega arith)) ∙ e))

-- what is picked is one of two
picked : {A : Type 0} (t : Bool) (a p : A) → pick t (some a) none ≡ some p → (t ≡ true) × (p ≡ a)
picked true a p e = (refl, some-injective p a (sym e))
picked false a p e = absurd (none-ne-some p e)

pub picked_not : {A : Type 0} (t : Bool) (a p : A) → pick t none (some a) ≡ some p → (t ≡ false) × (p ≡ a)
picked_not true a p e = absurd (none-ne-some p e)
picked_not false a p e = (refl, some-injective p a (sym e))

-- a state is Failing where it reads so
failing_for : (L : Reading) (u : Bool) (ns : List Number) (s : State) (k : ℕ) → state_for L u ns s ≡ Failing k → (m : ℕ) × (s ≡ Failing m)
failing_for L u ns Closed k h = absurd (let z : ◌≡◌ {A = ℕ} 0 1 = cc in omega arith)
failing_for L u ns (Enabled d sent) k h = absurd (let z : ◌≡◌ {A = ℕ} 0 1 = cc in omega arith)
failing_for L u ns Open k h = absurd (let z : ◌≡◌ {A = ℕ} 0 1 = cc in omega arith)
failing_for L u ns (Failing m) k h = (m, refl)

module _ (t : List ℕ) (n : Memory) (l : Lists) (g : Good t n.node n.book l) (room : store_of t ≤ length n.store) where
  abbrev M : Machine
  M = stands_for t n l

  known : (i : ℕ) → i < count_of t → i < count_in n.node
  known i h = let c = g.tabled.count in omega arith

  -- ---- an end point's bounds

  module _ (i : ℕ) (li : i < count_in n.node) where
    abbrev e : EndPoint
    e = end_of n.node i

    abbrev w : Window
    w = e.run.window

    entry : e.entry ≡ entry_of t i
    entry = end_entry t n.node n.book l g i li

    -- a slot's bytes are within the store
    slot_long : (q many : ℕ) → q < slots_of (entry_of t i).kind (entry_of t i).window → many ≤ e.entry.largest
        → many ≤ length (drop (spot e.place e.entry.largest q) n.store)
    slot_long q many low most =
        let r = slot_room t n.node n.book l g i li q low in
        let d = length-drop (spot e.place e.entry.largest q) n.store in
        omega (arith, r, d, most, room)

    filled_sized : (k : ℕ) → Filled n.book i w e.entry.largest k → Sized e.entry (payload_for n.store n.book i e k)
    filled_sized k f =
        let many = length_in n.book (cell i w (past w k)) in
        let at = spot e.place e.entry.largest (slot_for w (past w k)) in
        let long : length (payload_for n.store n.book i e k) ≡ many =
        length-take-le many (drop at n.store) (slot_long (slot_for w (past w k)) many (slot_low t n.node n.book l g i li (past w k)) f.most) in
        record { some = omega (arith, long, f.some); most = omega (arith, long, f.most) }

    number_sized : (x : Number) → Memᴰ x (end_at n i).numbers → Sized e.entry x.payload
    unfolding end_for
    number_sized x m = sides (is_sends e.entry.kind) refl (mem_listed e.run.taken (number_for (read_at n) n.store n.book i e) x m)
      where
        sides : (s : Bool) → is_sends e.entry.kind ≡ s → (k : ℕ) × (k < e.run.taken) × (x ≡ number_for (read_at n) n.store n.book i e k) → Sized e.entry x.payload
        sides true s (k, h, q) = rw q (filled_sized k (s_filled t n.node n.book l g i li s k h))
        sides false s (k, h, q) = absurd (omega (arith, h, none_taken g li s))

    held_sized : (p : List ℕ) → Memᴰ (some p) (end_at n i).places → Sized e.entry p
    unfolding end_for
    held_sized p m = sides (mem_listed e.entry.window (place_for n.store n.book i e) (some p) m)
      where
        sides : (k : ℕ) × (k < e.entry.window) × (some p ≡ place_for n.store n.book i e k) → Sized e.entry p
        sides (k, h, q) =
            let x = picked (not (is_sends e.entry.kind) && held w k) (payload_for n.store n.book i e k) p (sym q) in
            let y = and_parts (not (is_sends e.entry.kind)) (held w k) x.0 in
            rw x.1 (filled_sized k (r_filled t n.node n.book l g i li (not-true (is_sends e.entry.kind) y.0) k y.1))

    urgent_sized : (p : List ℕ) → (end_at n i).urgent ≡ some p → Sized e.entry p
    unfolding end_for
    urgent_sized p h = sides (is_sends e.entry.kind) refl (picked_not (eqb e.run.urgent 0) (urgent_payload n.store e) p h)
      where
        sides : (s : Bool) → is_sends e.entry.kind ≡ s → (eqb e.run.urgent 0 ≡ false) × (p ≡ urgent_payload n.store e) → Sized e.entry p
        sides true s (z, q) =
            let most = urgent_most g li s in
            let long : length (urgent_payload n.store e) ≡ e.run.urgent =
            length-take-le e.run.urgent _ (slot_long w.size e.run.urgent (urgent_low t n.node n.book l g i li s) most) in
            let some : 1 ≤ e.run.urgent = let d = eqb-false e.run.urgent 0 z in omega (arith, d) in
            rw q (record { some = omega (arith, long, some); most = omega (arith, long, most) })
        sides false s (z, q) = absurd (eqb-false e.run.urgent 0 z (no_urgent g li s))

    receiver_still : is_sends e.entry.kind ≡ false → Receives (end_at n i)
    unfolding end_for listed
    receiver_still s =
        record {
          numbers = ap (λ (k : ℕ). listed k (number_for (read_at n) n.store n.book i e)) (none_taken g li s);
          runs = λ k h.
              let z = failing_for (read_at n) _ _ e.state k h in
              stated_as n.book l i e (g.entered i li) false s (Failing z.0) z.1;
        }

    narrow : e.run.taken ≤ (entry_of t i).window
    narrow = sides (is_sends e.entry.kind) refl
      where
        sides : (s : Bool) → is_sends e.entry.kind ≡ s → e.run.taken ≤ (entry_of t i).window
        sides true s = let z = s_narrow t n.node n.book l g i li s in let y = end_size t n.node n.book l g i li in omega arith
        sides false s = let z = none_taken g li s in omega arith

    bounds : Bounded (entry_of t i) (end_at n i)
    unfolding end_for
    bounds =
        subst (λ (x : Entry). Bounded x (end_at n i)) entry
        (record {
          entry = refl;
          start = (g.entered i li).window.byte;
          taken = rw (length_listed e.run.taken (number_for (read_at n) n.store n.book i e), entry) narrow;
          places = length_listed e.entry.window (place_for n.store n.book i e);
          payloads = number_sized;
          held = held_sized;
          urgent = urgent_sized;
          receives = receiver_still;
        })

    -- ---- what waits for it

    there : get_elem? M.ends i ≡ some (end_at n i)
    there = elem_listed (count_of t) (end_at n) i (let c = g.tabled.count in omega (arith, li))

    -- the number k past the start, taken and not acknowledged
    waits_data : is_sends e.entry.kind ≡ true → e.state ≡ Open → (k : ℕ) → k < e.run.taken → held w k ≡ false → WaitsData (end_at n i) (past w k)
    unfolding end_for
    waits_data s o k h m =
        let size = s_narrow t n.node n.book l g i li s in
        let small = size_le w.size (g.entered i li).window.sized in
        let byte = (g.entered i li).window.byte in
        let d : distance_of w.start.0 (past w k) ≡ k = omega (arith, size, small, byte, h) in
        let far : k < length (listed e.run.taken (number_for (read_at n) n.store n.book i e)) = rw (length_listed e.run.taken (number_for (read_at n) n.store n.book i e)) h in
        record {
          sends = s;
          opened = ap (state_in (read_at n) n.store n.book i e) o;
          taken = rw d far;
          missing = rw d (ap (λ (x : Number). x.acked) (get_d_listed e.run.taken (number_for (read_at n) n.store n.book i e) k _ h) ∙ m);
        }

    -- what stands for it in a queue, y, waits as its number
    slot_item_holds : is_sends e.entry.kind ≡ true → (k : ℕ) → k < e.run.taken → (y : ℕ) → y ≡ id_at i w k → slot_item n.node y ≡ record { entry = i; number = past w k }
    slot_item_holds s k h y q =
        ap (slot_item n.node) q
        ∙ item_at n.node i (entry_low t n.node n.book l g i li) (g.entered i li).window k (let z = s_narrow t n.node n.book l g i li s in omega (arith, h))

    module _ (y : ℕ) (o : owner_of y ≡ i) where
      abbrev Own : Sort → ℕ → Type 0
      Own q s = Owned M q (record { entry = i; number = s })

      -- not a receiver's
      not_receiver : (q : ℕ) → q < 4 → Memᴰ y (l q) → is_sends e.entry.kind ≡ false → ⊥
      not_receiver q h m s = silent_out l i (receiver_silent n.book l i e e.state (stated_as n.book l i e (g.entered i li) false s e.state refl)) y o q h m

      -- nor in a share that is empty
      empty : (q : ℕ) → Memᴰ y (l q) → mine i (l q) ≡ [] → ⊥
      empty q m z = Memᴰ.not-nil (subst (λ (xs : List ℕ). Memᴰ y xs) z (mine_all i y (l q) m o))

      by_state : (k : ℕ) → k < 4 → Memᴰ y (l k) → (A : Type 0) → (is_sends e.entry.kind ≡ true → Stated n.book l i e true e.state → A) → A
      by_state k h m A f = sides (is_sends e.entry.kind) refl
        where
          sides : (s : Bool) → is_sends e.entry.kind ≡ s → A
          sides true s = f s (stated_as n.book l i e (g.entered i li) true s e.state refl)
          sides false s = absurd (not_receiver k h m s)

      reset_owned : Memᴰ y (l layout.resets) → Own resets 0
      unfolding end_for
      reset_owned m = by_state 0 (omega arith) m (Own resets 0) (λ s a. sides s e.state refl a)
        where
          sides : is_sends e.entry.kind ≡ true → (u : State) → e.state ≡ u → Stated n.book l i e true u → Own resets 0
          sides s Closed q a = absurd (empty 0 m a.silent.share.resets)
          sides s (Enabled timer sent) q a =
              record { end = end_at n i; there = there; byte = omega arith; waits = record { sends = s; zero = refl; timer = pick (is_reset (under_in n.book) i) 0 (read_at n timer); sent = sent; enabled = ap (state_in (read_at n) n.store n.book i e) q } }
          sides s Open q a = absurd (empty 0 m a.share.resets)
          sides s (Failing k) q a = absurd (empty 0 m a.silent.share.resets)

      urgent_owned : Memᴰ y (l layout.urgents) → Own urgents 0
      unfolding end_for
      urgent_owned m = by_state 1 (omega arith) m (Own urgents 0) (λ s a. sides s e.state refl a)
        where
          waits_there : (z : Bool) → eqb e.run.urgent 0 ≡ z → mine i (l layout.urgents) ≡ pick z [] (layout.urgent_id i ∷ []) → (end_at n i).urgent ≡ some (urgent_payload n.store e)
          waits_there true h q = absurd (empty 1 m q)
          waits_there false h q = rw h

          sides : is_sends e.entry.kind ≡ true → (u : State) → e.state ≡ u → Stated n.book l i e true u → Own urgents 0
          sides s Closed q a = absurd (empty 1 m a.silent.share.urgents)
          sides s (Enabled timer sent) q a = absurd (empty 1 m a.silent.share.urgents)
          sides s Open q a =
              record {
                end = end_at n i;
                there = there;
                byte = omega arith;
                waits = record { sends = s; zero = refl; payload = urgent_payload n.store e; there = waits_there (eqb e.run.urgent 0) refl a.share.urgents };
              }
          sides s (Failing k) q a = absurd (empty 1 m a.silent.share.urgents)

      -- data and retransmissions
      numbered_owned : (q : Sort) → ((s : ℕ) → WaitsData (end_at n i) s → Waits q (end_at n i) s) → is_sends e.entry.kind ≡ true → e.state ≡ Open
          → (k : ℕ) → k < e.run.taken → held w k ≡ false → y ≡ id_at i w k → Owned M q (slot_item n.node y)
      numbered_owned q f s o' k h m z =
          subst (Owned M q) (sym (slot_item_holds s k h y z))
          (record { end = end_at n i; there = there; byte = omega arith; waits = f (past w k) (waits_data s o' k h m) })

      resend_owned : Memᴰ y (l layout.resends) → Owned M resends (slot_item n.node y)
      resend_owned m = by_state 2 (omega arith) m (Owned M resends (slot_item n.node y)) (λ s a. sides s e.state refl a)
        where
          sides : is_sends e.entry.kind ≡ true → (u : State) → e.state ≡ u → Stated n.book l i e true u → Owned M resends (slot_item n.node y)
          sides s Closed q a = absurd (empty 2 m a.silent.resends)
          sides s (Enabled timer sent) q a = absurd (empty 2 m a.silent.resends)
          sides s Open q a =
              let r = a.resends.each y (mine_all i y (l layout.resends) m o) in
              numbered_owned resends (λ k x. x) s q r.at (let z = a.sending.handed in let x = r.handed in omega arith) r.missing r.is
          sides s (Failing k) q a = absurd (empty 2 m a.silent.resends)

      data_owned : Memᴰ y (l layout.datas) → Owned M datas (slot_item n.node y)
      data_owned m = by_state 3 (omega arith) m (Owned M datas (slot_item n.node y)) (λ s a. sides s e.state refl a)
        where
          not_held : (b : Bool) (k : ℕ) → held w k ≡ b → (held w k ≡ true → k < e.run.handed) → e.run.handed ≤ k → held w k ≡ false
          not_held true k h f low = absurd (let z = f h in omega arith)
          not_held false k h f low = h

          sides : is_sends e.entry.kind ≡ true → (u : State) → e.state ≡ u → Stated n.book l i e true u → Owned M datas (slot_item n.node y)
          sides s Closed q a = absurd (empty 3 m a.silent.share.datas)
          sides s (Enabled timer sent) q a = absurd (empty 3 m a.silent.share.datas)
          sides s Open q a =
              let r = ids_in i w e.run.handed (e.run.taken - e.run.handed) y
              (subst (λ (xs : List ℕ). Memᴰ y xs) a.share.datas (mine_all i y (l layout.datas) m o)) in
              let z = a.sending.handed in
              numbered_owned datas (λ k x. x) s q r.at (omega (arith, z, r.low, r.high)) (not_held (held w r.at) r.at refl (a.sending.acked r.at) r.low) r.is
          sides s (Failing k) q a = absurd (empty 3 m a.silent.share.datas)

  -- ---- the whole

  ack_owned : (v : ℕ) → Memᴰ v (acks_in n.node) → Owned M acks (ack_item v)
  unfolding end_for
  ack_owned v m =
      let a = g.owed v m in
      let low = entry_low t n.node n.book l g (v / 256) a.known in
      let same : v / 256 % 256 ≡ v / 256 = omega (arith, low) in
      record {
        end = end_at n (v / 256);
        there = rw same (there (v / 256) a.known);
        byte = omega arith;
        waits = record { receives = a.receives; opened = ap (state_in (read_at n) n.store n.book (v / 256) (end_of n.node (v / 256))) a.opened };
      }

  of_queue : (q : Sort) (k : ℕ) → k < 4 → (f : ℕ → Item) → ((y : ℕ) → (i : ℕ) → i < count_in n.node → owner_of y ≡ i → Memᴰ y (l k) → Owned M q (f y))
      → (x : Item) → Memᴰ x (map f (l k)) → Owned M q x
  of_queue q k h f own x m =
      let z = Memᴰ.of_map f (l k) m in
      subst (Owned M q) z.2 (own z.0 (owner_of z.0) (g.known k h z.0 z.1).0 refl z.1)

  all_owned : (q : Sort) (x : Item) → Memᴰ x (M.waiting q) → Owned M q x
  unfolding waiting_for
  all_owned acks x m = let z = Memᴰ.of_map ack_item (acks_in n.node) m in subst (Owned M acks) z.2 (ack_owned z.0 z.1)
  all_owned resets x m = of_queue resets 0 (omega arith) plain_item (λ y i li o k. rw o (reset_owned i li y o k)) x m
  all_owned urgents x m = of_queue urgents 1 (omega arith) plain_item (λ y i li o k. rw o (urgent_owned i li y o k)) x m
  all_owned resends x m = of_queue resends 2 (omega arith) (slot_item n.node) (λ y i li o k. resend_owned i li y o k) x m
  all_owned datas x m = of_queue datas 3 (omega arith) (slot_item n.node) (λ y i li o k. data_owned i li y o k) x m

  few : length (M.waiting acks) ≤ 32
  unfolding waiting_for
  few =
      subst (λ (k : ℕ). k ≤ 32)
      (sym (length-map (acks_in n.node) ack_item ∙ from_length n.node (place_of n.node) (waiting_of n.node))) g.acks

  pub sound_at : Sound t M
  sound_at =
      record {
        table = g.table;
        own = refl;
        protocol = refl;
        need = refl;
        room = room;
        count = length_listed (count_of t) (end_at n);
        bounded = λ i e h. let z = elem_of (count_of t) (end_at n) i e h in rw z.1 (bounds i (known i z.0));
        owned = all_owned;
        few = few;
      }

pub stands_sound : StandsSound
unfolding StandsSound
stands_sound t n m s = subst (Sound t) s.is (sound_at t n s.lists s.good s.room)

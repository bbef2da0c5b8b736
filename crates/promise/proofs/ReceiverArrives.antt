-- An arrival at the receiver's machine: Data and a Reset for the entry are steps of its end point; all else is nothing
-- for it. Assumes nothing.
use Prim.Native.Nat.{ℕ, ◌≤◌}
use mathlib.Core.Path.{◌≡◌, refl, sym, ap, subst, ◌∙◌}
use mathlib.Core.Bool.{Bool, true, false, true≢false}
use mathlib.Core.Option.{some}
use mathlib.Core.List.{List, [], ◌∷◌, ◌++◌}
use native.Mathlib.Omega.{arith}
use lib.ListN.{length, get_elem?, set, length-set}
use lib.Seq.{sets}
use lib.Dec.{eqb}
use borrow.Author.Tests.{ltb-false, not-false}
use Rattle.units.specs.Refusals.{pick}
use Rattle.units.proofs.Judging.{Clear}
use Rattle.table.specs.Layout.{entry_of}
use Rattle.table.specs.declared.Entry.{Entry}
use Rattle.frame.specs.Layout.{payload_of}
use Rattle.frame.specs.declared.FrameType.{FrameType}
use Rattle.frame.specs.declared.FrameType.TheVariants as type
use Rattle.end_points.specs.States.{is_sends, is_closed, is_open}
use Rattle.end_points.specs.declared.State.{State}
use Rattle.end_points.specs.declared.State.TheVariants.{Closed, Enabled, Open, Failing}
use Rattle.blocks.specs.Blocks.{block_of}
use Rattle.blocks.specs.Reading.{read_block}
use Rattle.blocks.proofs.Reading.{reads_back}
use Rattle.good.proofs.Arrivals.{payload_size}
use Rattle.machine.specs.Calls.{arrives}
use Rattle.machine.specs.Machine.{End, acks, Machine, Outcome, anew, offset, is_new, held_run, handing_on, block_room, receiving, entry_tests, resetting, taken_in, step, without}
use Rattle.machine.specs.Sound.{Sound}
use Rattle.machine.proofs.Blocks.{Places, run_fits, block_fits, put_short}
use Rattle.machine.proofs.Entries.{not_none, elem_lt, elem_set_same, elem_in}
use Rattle.promise.specs.History.{r_resets, r_takes}
use Rattle.promise.specs.Seen.{r_came}
use Rattle.promise.proofs.Channel.{Up, Recv, Taken as Given, r_take, r_drop, r_data}
use Rattle.promise.proofs.Laws.{RNext, rn_reset, rn_data}
use Rattle.promise.proofs.Entries.{entry_is, receiver_runs}
use Rattle.promise.proofs.Owing.{owed_own, owed_gone}
use Rattle.promise.proofs.Watched.{Watch, owed, Follows, still}
use Rattle.promise.proofs.Arrivals.{Taken, o, seen, named, other_kind, by_kind}
use Rattle.promise.proofs.ReceiverView.{r_state_of, recv_of, reset_view, new_same, given_then, view_then}
use Rattle.promise.proofs.ReceiverCalls.{r_watch, RStep}
use Rattle.end_points.proofs.Telling.{is_open_holds}

module _ (t : List ℕ) (m : Machine) (S : Sound t m) (j : ℕ) (e : End) (there : get_elem? m.ends j ≡ some e) where
  abbrev K : Watch
  K = r_watch t j

  abbrev W : ℕ
  W = (entry_of t j).window

  abbrev r : Recv
  r = recv_of e (owed j m)

  placed : (x : End) → get_elem? (set m.ends j x) j ≡ some x
  placed x = elem_set_same m.ends j x (elem_lt m.ends j there)

  -- ---- Data for the entry

  module _ (opened : e.state ≡ Open) (out : List ℕ) (room : block_room (entry_of t j) ≤ length out) (s : ℕ) (p : List ℕ)
      (short : length p ≤ (entry_of t j).largest) where
    wide : length e.places ≡ W
    wide = (S.bounded j e there).places

    abbrev ps : Places
    ps = set e.places (offset e s) (some p)

    -- the block reads as what was delivered
    run_reads : read_block (sets out 0 (block_of (held_run ps))) ≡ held_run ps
    run_reads =
        let held = put_short e.places (entry_of t j).largest (offset e s) p
        (λ k q h. ((S.bounded j e there).held q (elem_in e.places k h)).most) short in
        let fits = run_fits (entry_of t j) ps (length-set e.places (offset e s) (some p) ∙ wide) held in
        reads_back out (held_run ps) (omega (arith, fits, room))

    none_reads : read_block (sets out 0 (block_of [])) ≡ []
    none_reads =
        let fits = block_fits (entry_of t j) [] (omega arith) (λ k q h. not_none h) in
        reads_back out [] (omega (arith, fits, room))

    abbrev Takes : Outcome → Type 0
    Takes o = Follows K j m e (r_takes s p (read_block o.answer.out)) o

    -- x is what it leaves of the entry, and g what the channel makes of it; its acknowledgement waits
    leaves : (o : Outcome) (x : End) (g : Given) → get_elem? o.machine.ends j ≡ some x → r_data W r s p ≡ g
        → o.machine.waiting acks ≡ m.waiting acks ++ (record { entry = j; number = s } ∷ [])
        → g.given ≡ read_block o.answer.out → recv_of x (owed j m ++ (s ∷ [])) ≡ g.next → Takes o
    leaves o x g h q w d v =
        record {
          end = x;
          there = h;
          next = rw (w, owed_own j (m.waiting acks) s, v, ← d)
              (subst (λ (z : Given). RNext W r (r_takes s p z.given) z.next) q
              (rn_data r s p (ap r_state_of opened)));
        }

    data_follows : Takes (receiving m out j e s p)
    unfolding receiving
    data_follows = sides (is_new e s) refl
      where
        is : (b : Bool) → is_new e s ≡ b → r_data W r s p ≡ pick b (r_take W r s p) (r_drop r s)
        is b h = ap (λ (v : Bool). pick v (r_take W r s p) (r_drop r s)) (sym (new_same W e wide s p) ∙ h)

        sides : (b : Bool) → is_new e s ≡ b → Takes (receiving m out j e s p)
        sides true h =
            rw h (leaves _ (handing_on (length (held_run ps)) ps e) (r_take W r s p) (placed _) (is true h) refl
            (given_then W e wide s p h (owed j m) ∙ sym run_reads) (view_then W e wide s p h (owed j m)))
        sides false h = rw h (leaves _ e (r_drop r s) there (is false h) refl (sym none_reads) refl)

  -- ---- a Reset for the entry

  module _ (receives : is_sends e.entry.kind ≡ false) where
    -- not Closed, and never Failing
    up : (st : State) → e.state ≡ st → is_closed st ≡ false → Up (r_state_of st)
    up Closed q h = absurd (true≢false h)
    up (Enabled timer sent) q h = tt
    up Open q h = tt
    up (Failing n) q h = absurd ((receiver_runs t m S j e there receives).runs n q)

    reset_follows : (out : List ℕ) → is_closed e.state ≡ false → Follows K j m e r_resets (resetting m out j e)
    unfolding resetting
    reset_follows out c =
        let left = owed_own j (without (λ y. eqb y.entry j) (m.waiting acks)) 0
        ∙ ap (λ (l : List ℕ). l ++ (0 ∷ [])) (owed_gone j (m.waiting acks)) in
        record {
          end = anew Open e;
          there = placed _;
          next = subst (RNext W r r_resets) (sym (ap (recv_of (anew Open e)) left ∙ reset_view e.entry.window))
              (rn_reset r (up e.state refl c));
        }

    -- ---- an arrival

    module _ (block f : List ℕ) where
      data_here : (a : Taken m block f) → Clear (entry_tests m e type.Data a.header.length (length block))
          → let o = receiving m block j e a.header.seq.0 (payload_of f) in
          Follows K j m e (r_takes a.header.seq.0 (payload_of f) (read_block o.answer.out)) o
      data_here a c =
          let x = entry_is t m S j e there in
          let size = ltb-false e.entry.largest a.header.length c.1.1.0 in
          let few : length (payload_of f) ≤ e.entry.largest = rw (payload_size f a.header a.read).0 size in
          let room = ltb-false (length block) (block_room e.entry) c.1.1.1.1.1.0 in
          data_follows (is_open_holds e.state (not-false (is_open e.state) c.1.0)) block
          (subst (λ (y : Entry). block_room y ≤ length block) x room) a.header.seq.0 (payload_of f)
          (subst (λ (y : Entry). length (payload_of f) ≤ y.largest) x few)

      comes : (a : Taken m block f) (q : FrameType) (kind : a.header.kind ≡ q)
          → RStep t m j e (arrives block f) (o K t m S j e there block f a q kind)
      unfolding taken_in
      comes a type.Data kind =
          named K t m S j e there block f a type.Data kind
          (λ v. r_takes a.header.seq.0 (payload_of f) (read_block v.answer.out)) receives
          (ap (r_came (entry_of t j) a.header (payload_of f) _) kind) (data_here a)
      comes a type.Reset kind =
          named K t m S j e there block f a type.Reset kind (λ v. r_resets) receives (rw kind)
          (λ c. reset_follows block c.0)
      comes a type.Urgent kind =
          still K j m e _ _ e there refl (seen K t m S j e there block f a type.Urgent kind ∙ rw kind)
      comes a type.Acknowledge kind =
          other_kind K t m S j e there block f a type.Acknowledge kind (λ c. true≢false (sym c ∙ receives))
          (ap (r_came (entry_of t j) a.header (payload_of f) _) kind)

      pub r_arrives : RStep t m j e (arrives block f) (step m (arrives block f))
      r_arrives = by_kind K t m S j e there block f comes

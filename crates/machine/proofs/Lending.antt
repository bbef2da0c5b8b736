-- Of the store's length a call asks only whether it is enough: with another store that is, it answers the same and leaves
-- the same machine, lent that store. Assumes nothing.
use Prim.Native.Nat.{ℕ, zero, suc, ◌+◌, ◌≤◌}
use mathlib.Core.Path.{◌≡◌, refl, ap, ◌∙◌}
use mathlib.Core.Bool.{Bool, true, false, not, ◌&&◌}
use mathlib.Core.Option.{Option, none, some}
use mathlib.Core.List.{List, [], ◌∷◌}
use native.Mathlib.Omega.{arith}
use lib.ListN.{length, get_elem?}
use lib.Dec.{eqb}
use borrow.Author.Tests.{le-ltb}
use Rattle.units.specs.Refusals.{pick, verdict, Verdict}
use Rattle.units.specs.declared.refusals.Refusal.{Refusal}
use Rattle.units.specs.declared.refusals.Refusal.TheVariants as refusal
use Rattle.frame.specs.Layout.{payload_of}
use Rattle.frame.specs.Reading.{sound_of, header_of}
use Rattle.blocks.specs.Reading.{read_block}
use Rattle.frame.specs.declared.Header.{Header}
use Rattle.frame.specs.declared.FrameType.{FrameType}
use Rattle.frame.specs.declared.FrameType.TheVariants as type
use Rattle.end_points.specs.Answers.{answer_of}
use Rattle.end_points.specs.States.{is_sends}
use Rattle.end_points.specs.declared.State.{State}
use Rattle.end_points.specs.declared.State.TheVariants.{Closed, Enabled, Open, Failing}
use Rattle.machine.specs.Calls.{opens, closes, counts, sends, urges, plans, arrives, hands_out, reports, ticks}
use Rattle.machine.specs.Machine.{Number, End, Item, Sort, acks, resets, urgents, resends, datas, Machine, Outcome}
use Rattle.machine.specs.Machine.{port, lending, found, at, answers, judged, unless, on_entry, done, turned, waits, enabled}
use Rattle.machine.specs.Machine.{number_at, is_new, any_spent, is_ours}
use Rattle.machine.specs.Machine.{opening, closing, counting, send_tests, sending, urgent_sending, accepts, sending_all}
use Rattle.machine.specs.Machine.{planning, acking, receiving}
use Rattle.machine.specs.Machine.{resetting, taken_in, entry_tests, entry_for, reading, arriving, frame_of, going_out}
use Rattle.machine.specs.Machine.{in_order, handing_out, again_from, past, each, ticked, may_recover, recovered, ticking, step}
use Rattle.machine.specs.Machine.{Out, ended, reported, reporting}
use Rattle.machine.specs.Laws.{TableStays, relent, RoomIdle}
use Rattle.machine.proofs.Hosting.{open_tests, opened, close_tests, closed, count_tests, counts_of, sent, urgent_tests, urged}
use Rattle.machine.proofs.Planning.{plan_tests}
use Rattle.machine.proofs.Standing.{table_stays}
use Rattle.machine.proofs.Handing.{out_tests, room_tests, gone, goes}
use Rattle.std.specs.Prelude.{Result, Ok, Err}

module _ (room : ℕ) where
  -- ---- what an outcome is made of

  -- with tests that come to the same
  judged_lent : {v' : Verdict} (v : Verdict) → v' ≡ v → (out : List ℕ) (m : Machine) {o' : Outcome} (o : Outcome)
      → o' ≡ relent room o → judged v' out (lending room m) o' ≡ relent room (judged v out m o)
  judged_lent {v'} v q out m {o'} o h = ap (λ (u : Verdict). judged u out (lending room m) o') q ∙ sides v
    where
      sides : (u : Verdict) → judged u out (lending room m) o' ≡ relent room (judged u out m o)
      sides (Ok _) = h
      sides (Err w) = refl

  found_lent : (x : Option End) {a' : Outcome} (a : Outcome) (f' f : End → Outcome) → a' ≡ relent room a
      → ((e : End) → f' e ≡ relent room (f e)) → found x a' f' ≡ relent room (found x a f)
  found_lent none a f' f h k = h
  found_lent (some e) a f' f h k = k e

  -- a call on entry i
  entry_lent : (m : Machine) (i : ℕ) (tests' tests : End → List (Bool × Refusal)) (g' g : End → Outcome)
      → ((e : End) → verdict (tests' e) ≡ verdict (tests e)) → ((e : End) → g' e ≡ relent room (g e))
      → on_entry (lending room m) i (λ e. unless (tests' e) [] (lending room m) (g' e))
      ≡ relent room (on_entry m i (λ e. unless (tests e) [] m (g e)))
  entry_lent m i tests' tests g' g q h =
      found_lent (get_elem? m.ends i) (answers (answer_of (Err refusal.NoEntry)) [] m)
      (λ e. unless (tests' e) [] (lending room m) (g' e)) (λ e. unless (tests e) [] m (g e)) refl
      (λ e. judged_lent (verdict (tests e)) (q e) [] m (g e) (h e))

  pick_lent : (b : Bool) {x' y' : Outcome} (x y : Outcome) → x' ≡ relent room x → y' ≡ relent room y
      → pick b x' y' ≡ relent room (pick b x y)
  pick_lent true x y h k = h
  pick_lent false x y h k = k

  pick_machine : (b : Bool) {x' y' : Machine} (x y : Machine) → x' ≡ lending room x → y' ≡ lending room y
      → pick b x' y' ≡ lending room (pick b x y)
  pick_machine true x y h k = h
  pick_machine false x y h k = k

  enabled_lent : (i : ℕ) (e : End) (m : Machine) → enabled i e (lending room m) ≡ lending room (enabled i e m)
  unfolding enabled
  enabled_lent i e m = pick_machine (is_sends e.entry.kind) _ _ refl refl

  -- ---- an arrival

  acking_lent : (m : Machine) (out : List ℕ) (i : ℕ) (e : End) (s : ℕ) (z : State)
      → acking (lending room m) out i e s z ≡ relent room (acking m out i e s z)
  unfolding acking
  acking_lent m out i e s Closed = refl
  acking_lent m out i e s (Enabled timer sent) = pick_lent (sent && eqb s 0) _ _ refl refl
  acking_lent m out i e s Open = pick_lent ((number_at e s).handed && not (number_at e s).acked) _ _ refl refl
  acking_lent m out i e s (Failing timers) = pick_lent ((number_at e s).handed && not (number_at e s).acked) _ _ refl refl

  taken_lent : (m : Machine) (out : List ℕ) (i : ℕ) (e : End) (q : FrameType) (s : ℕ) (p : List ℕ)
      → taken_in (lending room m) out i e q s p ≡ relent room (taken_in m out i e q s p)
  unfolding taken_in receiving resetting
  taken_lent m out i e type.Data s p = pick_lent (is_new e s) _ _ refl refl
  taken_lent m out i e type.Acknowledge s p = acking_lent m out i e s e.state
  taken_lent m out i e type.Reset s p = refl
  taken_lent m out i e type.Urgent s p = refl

  -- ---- the report, and a tick

  found_machine : (x : Option End) {a' : Machine} (a : Machine) {f' : End → Machine} (f : End → Machine) → a' ≡ lending room a
      → ((e : End) → f' e ≡ lending room (f e)) → found x a' f' ≡ lending room (found x a f)
  found_machine none a f h k = h
  found_machine (some e) a f h k = k e

  reported_lent : (m : Machine) (u : Option Out) → reported (lending room m) u ≡ relent room (reported m u)
  unfolding reported
  reported_lent m none = refl
  reported_lent m (some f) =
      ap (λ (n : Machine). done (port none n))
      (found_machine (get_elem? m.ends f.1.entry) m (λ e. turned f.1.entry (ended f.0 e f.1.number) m) refl (λ e. refl))

  again_lent : (i : ℕ) (e : End) (k : ℕ) (xs : List Number) (m : Machine)
      → again_from i e k xs (lending room m) ≡ lending room (again_from i e k xs m)
  unfolding again_from
  again_lent i e k [] m = refl
  again_lent i e k (x ∷ xs) m =
      ap (again_from i e (suc k) xs) (pick_machine (eqb x.timer 1) (waits resends i (past e k) m) m refl refl)
      ∙ again_lent i e (suc k) xs (pick (eqb x.timer 1) (waits resends i (past e k) m) m)

  ticked_lent : (m : Machine) (i : ℕ) (e : End) (s : State) → ticked (lending room m) i e s ≡ lending room (ticked m i e s)
  unfolding ticked
  ticked_lent m i e Closed = refl
  ticked_lent m i e (Enabled timer sent) =
      pick_machine (eqb timer 0) _ _ refl (pick_machine (eqb timer 1) _ _ refl refl)
  ticked_lent m i e Open =
      pick_machine (any_spent e.entry.retries e.numbers) _ _ refl (again_lent i e 0 e.numbers _)
  ticked_lent m i e (Failing timers) = refl

  each_lent : (n : ℕ) (f : ℕ → End → Machine → Machine)
      → ((i : ℕ) (e : End) (m : Machine) → f i e (lending room m) ≡ lending room (f i e m)) → (m : Machine)
      → each n f (lending room m) ≡ lending room (each n f m)
  unfolding each
  each_lent zero f h m = refl
  each_lent (suc n) f h m =
      let k = each n f m in
      ap (λ (y : Machine). at y n y (λ e. f n e y)) (each_lent n f h m)
      ∙ found_machine (get_elem? k.ends n) k (λ e. f n e k) refl (λ e. h n e k)

  recovered_lent : (i : ℕ) (e : End) (m : Machine) → recovered i e (lending room m) ≡ lending room (recovered i e m)
  recovered_lent i e m = pick_machine (may_recover m.under i e) (enabled i e m) m (enabled_lent i e m) refl

  ticking_lent : (m : Machine) → ticking (lending room m) ≡ relent room (ticking m)
  unfolding ticking
  ticking_lent m =
      let n = length m.ends in
      let f : ℕ → End → Machine → Machine = λ i e m. ticked m i e e.state in
      rw (each_lent n f (λ i e m. ticked_lent m i e e.state) m, each_lent n recovered recovered_lent (each n f m)) refl

  -- ---- where the store is long enough

  module _ (m : Machine) (h : m.need ≤ m.room) (k : m.need ≤ room) where
    -- the tests come to the same
    entry_same : (e : End) (t : FrameType) (n block : ℕ)
        → verdict (entry_tests (lending room m) e t n block) ≡ verdict (entry_tests m e t n block)
    entry_same e t n block = rw (le-ltb room m.need k, le-ltb m.room m.need h) refl

    out_same : verdict (out_tests (lending room m)) ≡ verdict (out_tests m)
    out_same = rw (le-ltb room m.need k, le-ltb m.room m.need h) refl

    -- a frame at the entry that it is for
    abbrev comes : Machine → List ℕ → Header → List ℕ → End → Outcome
    comes y out d p e =
        unless (entry_tests y e d.kind d.length (length out)) out y
        (taken_in y out (entry_for m d) e d.kind d.seq.0 p)

    reading_lent : (out : List ℕ) (r : Result Header Refusal) (p : List ℕ) → reading (lending room m) out r p ≡ relent room (reading m out r p)
    unfolding reading
    reading_lent out (Err w) p = refl
    reading_lent out (Ok d) p =
        found_lent (get_elem? m.ends (entry_for m d)) (answers (answer_of (Err refusal.NoEndPoint)) out m)
        (comes (lending room m) out d p) (comes m out d p) refl
        (λ e. judged_lent (verdict (entry_tests m e d.kind d.length (length out)))
        (entry_same e d.kind d.length (length out)) out m
        (taken_in m out (entry_for m d) e d.kind d.seq.0 p)
        (taken_lent m out (entry_for m d) e d.kind d.seq.0 p))

    going_lent : (out : List ℕ) (q : Sort) (xs : List Item) {o' : Outcome} (o : Outcome) → o' ≡ relent room o
        → going_out (lending room m) out q xs o' ≡ relent room (going_out m out q xs o)
    unfolding going_out frame_of
    going_lent out q [] o e = e
    going_lent out q (x ∷ xs) o e =
        found_lent (get_elem? m.ends x.entry) o (goes (lending room m) out q x) (goes m out q x) e
        (λ d. judged_lent (verdict (room_tests m out q x d)) refl out m (gone m out q x d) refl)

    order_lent : (out : List ℕ) (qs : List Sort) → in_order (lending room m) out qs ≡ relent room (in_order m out qs)
    unfolding in_order
    order_lent out [] = refl
    order_lent out (q ∷ qs) = going_lent out q (m.waiting q) (in_order m out qs) (order_lent out qs)

-- a send, and then send after send
sending_lent : (room : ℕ) (m : Machine) (i : ℕ) (p : List ℕ) → m.need ≤ m.room → m.need ≤ room
    → sending (lending room m) i p ≡ relent room (sending m i p)
unfolding sending
sending_lent room m i p h k =
    entry_lent room m i (λ e. send_tests (lending room m) e p) (λ e. send_tests m e p) (sent (lending room m) i p) (sent m i p)
    (λ e. rw (le-ltb room m.need k, le-ltb m.room m.need h) refl) (λ e. refl)

all_lent : (room : ℕ) (m : Machine) (i n : ℕ) (ps : List (List ℕ)) → m.need ≤ m.room → m.need ≤ room
    → sending_all (lending room m) i n ps ≡ relent room (sending_all m i n ps)
unfolding sending_all TableStays step
all_lent room m i n [] h k = refl
all_lent room m i n (p ∷ ps) h k =
    let o = sending m i p in
    let s = (table_stays m (sends i p)).head in
    let a : o.machine.need ≡ m.need = ap (λ (x : Machine). x.need) s in
    let b : o.machine.room ≡ m.room = ap (λ (x : Machine). x.room) s in
    rw (sending_lent room m i p h k) (sides (accepts o) (all_lent room o.machine i (n + 1) ps (omega arith) (omega arith)))
  where
    sides : (b : Bool) → let o = sending m i p in
        sending_all (lending room o.machine) i (n + 1) ps ≡ relent room (sending_all o.machine i (n + 1) ps)
        → pick b (sending_all (lending room o.machine) i (n + 1) ps) (answers (0 ∷ n ∷ o.answer.numbers) [] (lending room o.machine))
        ≡ relent room (pick b (sending_all o.machine i (n + 1) ps) (answers (0 ∷ n ∷ o.answer.numbers) [] o.machine))
    sides true e = e
    sides false e = refl

pub room_idle : RoomIdle
unfolding RoomIdle step opening closing counting urgent_sending planning arriving handing_out reporting
room_idle m room (opens i) h k =
    entry_lent room m i open_tests open_tests (opened (lending room m) i) (opened m i) (λ e. refl)
    (λ e. ap done (enabled_lent room i e m))
room_idle m room (closes i) h k =
    entry_lent room m i close_tests close_tests (closed (lending room m) i) (closed m i) (λ e. refl) (λ e. refl)
room_idle m room (counts i) h k =
    entry_lent room m i count_tests count_tests (counts_of (lending room m)) (counts_of m) (λ e. refl) (λ e. refl)
room_idle m room (sends i p) h k = sending_lent room m i p h k
room_idle m room (urges i p) h k =
    entry_lent room m i (urgent_tests (lending room m) p) (urgent_tests m p) (urged (lending room m) i p) (urged m i p)
    (λ e. rw (le-ltb room m.need k, le-ltb m.room m.need h) refl) (λ e. refl)
room_idle m room (plans i block) h k =
    judged_lent room (verdict (plan_tests block)) refl [] m (sending_all m i 0 (read_block block))
    (all_lent room m i 0 (read_block block) h k)
room_idle m room (arrives block f) h k =
    judged_lent room (verdict ((not (sound_of f), refusal.BadFrame) ∷ (not (is_ours m f), refusal.NotOurs) ∷ [])) refl block m
    (reading m block (header_of f) (payload_of f)) (reading_lent room m h k block (header_of f) (payload_of f))
room_idle m room (hands_out buffer) h k =
    let sorts = acks ∷ resets ∷ urgents ∷ resends ∷ datas ∷ [] in
    judged_lent room (verdict (out_tests m)) (out_same room m h k) buffer m
    (in_order m buffer sorts) (order_lent room m h k buffer sorts)
room_idle m room reports h k = reported_lent room m m.under
room_idle m room ticks h k = ticking_lent room m

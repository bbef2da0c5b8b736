-- The laws of the memory that is lent for a call (specs/LawsRoom.antt). Assumes nothing.
use Prim.Native.Nat.{ℕ, ◌+◌, ◌*◌, ◌≤◌, ◌<◌}
use mathlib.Core.Path.{◌≡◌, refl, sym, subst, ◌∙◌}
use mathlib.Core.Logic.{◌≢◌, ◌⊎◌, inl, inr}
use mathlib.Core.Bool.{Bool, true, false, ◌&&◌, and-false, true≢false}
use mathlib.Core.Option.{Option, none, some}
use mathlib.Core.List.{List, [], ◌∷◌}
use native.Mathlib.Nat.{mul-add, mul-le-mul_right}
use native.Mathlib.Omega.{arith}
use borrow.Author.Tests.{le-ltb}
use lib.ListN.{length, get_or}
use lib.Seq.{length-sets}
use lib.Dec.{ltb}
use Rattle.units.specs.Limits.{most_store}
use Rattle.units.specs.Refusals.{number_of, pick, verdict, Verdict}
use Rattle.units.specs.declared.refusals.Refusal.{Refusal}
use Rattle.frame.specs.Layout.{payload_of}
use Rattle.frame.specs.Reading.{header_tests, header_of}
use Rattle.frame.specs.Types.{carries}
use Rattle.frame.specs.declared.FrameType.{FrameType}
use Rattle.frame.proofs.AgainstRules.{read_refused}
use Rattle.frame.proofs.WriteLaws.{length_frame}
use Rattle.table.specs.Layout.{count_of, entry_of}
use Rattle.table.specs.Areas.{slots_of, area_of}
use Rattle.table.specs.declared.Entry.{Entry}
use Rattle.table.specs.declared.Kind.{Kind}
use Rattle.table.specs.declared.Kind.TheVariants.{Sends, Receives}
use Rattle.table.proofs.Good.{good_entry, store_fits}
use Rattle.table.proofs.Places.{areas_inside}
use Rattle.blocks.specs.Blocks.{offset_bytes}
use Rattle.blocks.specs.Reading.{read_block}
use Rattle.machine.specs.Calls.{opens, closes, counts, sends, urges, plans, arrives, hands_out, reports, ticks}
use Rattle.machine.specs.Machine.{End, Item, Sort, acks, resets, urgents, resends, datas, Out, Machine, Outcome, judged, unless, on_entry, send_tests, sending_all, planning, block_room, entry_tests, entry_for, carried, frame_of, going_out, in_order, opening, closing, counting, sending, urgent_sending, reading, arriving, handing_out, reporting, ticking, step, offset, number_at}
use Rattle.machine.specs.Sound.{Sized, WaitsData, Waits, Sound}
use Rattle.machine.specs.Laws.{Is, Next}
use Rattle.machine.specs.LawsHanding.{NextOrNone}
use Rattle.machine.specs.LawsRoom.{most_out, NeverShort, BuffersStay}
use Rattle.machine.proofs.Entries.{elem_lt, elem_in, get_d_elem}
use Rattle.machine.proofs.Judged.{by_entry, by_verdict}
use Rattle.machine.proofs.Touching.{by_taken, by_read, arrival_tests, by_done, by_reported}
use Rattle.machine.proofs.Hosting.{open_tests, opened, close_tests, closed, count_tests, counts_of, sent, urgent_tests, urged}
use Rattle.machine.proofs.Planning.{plan_tests, by_plan, first_zero}
use Rattle.machine.proofs.Handing.{fields_out, out_tests, room_tests, gone, goes, next_or_none, owned_waits, owner, under_is, goes_is, none_is}
use Rattle.std.specs.Prelude.{Result, Ok, Err}
use Rattle.frame.specs.declared.Header.{Header}

-- ---- no test for 6 fits

-- the answer's first number is not 6
abbrev Roomed : Outcome → Type 0
Roomed o = get_or o.answer.numbers 0 0 ≢ 6

-- each test is for another refusal, or does not fit
abbrev Spared : List (Bool × Refusal) → Type 0
Spared [] = Unit {0}
Spared (t ∷ ts) = (t.0 ≡ true → number_of t.1 ≢ 6) × Spared ts

unmet : {A : Type 0} (b : Bool) → b ≡ false → b ≡ true → A
unmet b f h = absurd (true≢false (sym h ∙ f))

spared : (ts : List (Bool × Refusal)) → Spared ts → (w : Refusal) → verdict ts ≡ Err w → number_of w ≢ 6
spared [] s w h = let z : ◌≡◌ {A = ℕ} 0 1 = cc in absurd (omega arith)
spared (t ∷ ts) s w h = sides t.0 s.0 (spared ts s.1 w) h
  where
    sides : (b : Bool) → (b ≡ true → number_of t.1 ≢ 6) → (verdict ts ≡ Err w → number_of w ≢ 6)
        → pick b (Err t.1) (verdict ts) ≡ Err w → number_of w ≢ 6
    sides true here later z = let e : t.1 ≡ w = cc in subst (λ (v : Refusal). number_of v ≢ 6) e (here refl)
    sides false here later z = later z

roomed : (tests : List (Bool × Refusal)) → Spared tests → (out : List ℕ) (m : Machine) (o : Outcome) → Roomed o → Roomed (unless tests out m o)
roomed tests s out m o p = sides (verdict tests) refl
  where
    sides : (v : Verdict) → verdict tests ≡ v → Roomed (judged v out m o)
    sides (Ok _) h = p
    sides (Err w) h = spared tests s w h

-- what begins with 0 is no 6
done_roomed : ◌≢◌ {A = ℕ} 0 6
done_roomed z = omega arith

-- a call of the host's, on an entry
host_roomed : (m : Machine) (i : ℕ) (tests : End → List (Bool × Refusal)) (g : End → Outcome)
    → ((e : End) → Spared (tests e)) → ((e : End) → Roomed (g e)) → Roomed (on_entry m i (λ e. unless (tests e) [] m (g e)))
host_roomed m i tests g s d = by_entry Roomed m i _ _ (λ z. omega arith) (λ e h. roomed (tests e) (s e) [] m (g e) (d e))

-- ---- how long a block and a frame can be

module _ (t : List ℕ) (m : Machine) (S : Sound t m) where
  store_room : ltb m.room m.need ≡ false
  store_room = le-ltb m.room m.need S.room

  module _ (i : ℕ) (e : End) (here : Is m i e) where
    listed : i < count_of t
    listed = omega (arith, S.count, elem_lt m.ends i here)

    -- W payloads of P bytes lie in the entry's area, and that in the store
    filled : (x : Entry) → x.window * x.largest ≤ area_of x
    unfolding area_of
    filled x = sides x.kind
      where
        sides : (k : Kind) → x.window * x.largest ≤ slots_of k x.window * x.largest
        sides Sends = mul-le-mul_right x.largest (omega arith)
        sides Receives = omega arith

    block_fits : block_room e.entry ≤ most_out
    block_fits =
        let x = entry_of t i in
        let f : x.window * x.largest ≤ area_of x = filled x in
        let a = areas_inside t i listed in
        let s = store_fits t S.table in
        let w = (good_entry t S.table i listed).window_high in
        let d : x.window * (offset_bytes + x.largest) ≡ x.window * 4 + x.window * x.largest = mul-add x.window 4 x.largest in
        rw (S.bounded i e here).entry (omega arith)

    sized : (p : List ℕ) → Sized (entry_of t i) p → length p ≤ most_store
    sized p z = omega (arith, z.most, (good_entry t S.table i listed).largest_high)

    data_sized : (s : ℕ) → WaitsData e s → length (number_at e s).payload ≤ most_store
    data_sized s w =
        sized (number_at e s).payload
        ((S.bounded i e here).payloads (number_at e s) (elem_in e.numbers (offset e s) (get_d_elem e.numbers (offset e s) _ w.taken)))

    carried_sized : (q : Sort) (s : ℕ) → Waits q e s → length (carried q e s) ≤ most_store
    carried_sized acks s w = omega arith
    carried_sized resets s w = omega arith
    carried_sized urgents s w = rw w.there (sized w.payload ((S.bounded i e here).urgent w.payload w.there))
    carried_sized resends s w = data_sized s w
    carried_sized datas s w = data_sized s w

    frame_fits : (q : Sort) (s : ℕ) → Waits q e s → length (frame_of m q e s) ≤ most_out
    unfolding frame_of
    frame_fits q s w = omega (arith, length_frame (fields_out m q e s) (carried q e s), carried_sized q s w)

  -- ---- an arrival

  header_roomed : (f : List ℕ) (w : Refusal) → header_of f ≡ Err w → number_of w ≢ 6
  unfolding header_of
  header_roomed f w h =
      spared (header_tests f) ((λ _ z. omega arith), ((λ _ z. omega arith), ((λ _ z. omega arith), ((λ _ z. omega arith), tt)))) w ((read_refused (verdict (header_tests f)) _ w).0 h)

  module _ (block : List ℕ) (long : most_out ≤ length block) where
    entry_spared : (i : ℕ) (e : End) → Is m i e → (q : FrameType) (n : ℕ) → Spared (entry_tests m e q n (length block))
    entry_spared i e here q n =
        ((λ _ z. omega arith), ((λ _ z. omega arith), ((λ _ z. omega arith), ((λ _ z. omega arith), (unmet _ store_room, (unmet _ block_room_holds, tt))))))
      where
        block_room_holds : (carries q && ltb (length block) (block_room e.entry)) ≡ false
        block_room_holds = rw (le-ltb (length block) (block_room e.entry) (omega (arith, block_fits i e here))) (and-false (carries q))

    read_roomed : (f : List ℕ) (r : Result Header Refusal) → header_of f ≡ r → (p : List ℕ) → Roomed (reading m block r p)
    unfolding reading
    read_roomed f (Err w) h p = header_roomed f w h
    read_roomed f (Ok h) z p =
        by_entry Roomed m (entry_for m h) _ _ (λ y. omega arith)
        (λ e here. roomed (entry_tests m e h.kind h.length (length block)) (entry_spared (entry_for m h) e here h.kind h.length) block m _
        (by_taken Roomed m block (entry_for m h) e here (λ m' y ns out' l. done_roomed) h.kind h.seq.0 p))

    arrive_roomed : (f : List ℕ) → Roomed (arriving m block f)
    unfolding arriving
    arrive_roomed f =
        roomed (arrival_tests m f) ((λ _ z. omega arith), ((λ _ z. omega arith), tt)) block m (reading m block (header_of f) (payload_of f))
        (read_roomed f (header_of f) refl (payload_of f))

  -- ---- handing out

  out_roomed : (buffer : List ℕ) → most_out ≤ length buffer → Roomed (step m (hands_out buffer))
  unfolding NextOrNone
  out_roomed buffer long = way m.under refl
    where
      sides : m.under ≡ none → ((q : Sort) × (x : Item) × (xs : List Item) × Next m q x xs) ⊎ ((q : Sort) → m.waiting q ≡ []) → Roomed (step m (hands_out buffer))
      sides under (inl (q, x, xs, n)) =
          let o = owner t m S q x xs n in
          let f = frame_fits x.entry o.end o.there q x.number (owned_waits m q x o o.end o.there) in
          subst Roomed (sym (goes_is t m S under q x xs n o.end o.there buffer))
          (roomed (room_tests m buffer q x o.end) (unmet _ (le-ltb (length buffer) (length (frame_of m q o.end x.number)) (omega arith)), tt) buffer m (gone m buffer q x o.end) done_roomed)
      sides under (inr h) = subst Roomed (sym (none_is t m S under h buffer)) done_roomed

      way : (u : Option Out) → m.under ≡ u → Roomed (step m (hands_out buffer))
      way none under = sides under (next_or_none m)
      way (some f) under = subst Roomed (sym (under_is m f under buffer)) (λ z. omega arith)

pub never_short : NeverShort
unfolding NeverShort step opening closing counting sending urgent_sending planning reporting
never_short t m S (opens i) d r = host_roomed m i open_tests (opened m i) (λ e. ((λ _ z. omega arith), tt)) (λ e. done_roomed)
never_short t m S (closes i) d r = host_roomed m i close_tests (closed m i) (λ e. ((λ _ z. omega arith), tt)) (λ e. done_roomed)
never_short t m S (counts i) d r = host_roomed m i count_tests (counts_of m) (λ e. ((λ _ z. omega arith), tt)) (λ e. done_roomed)
never_short t m S (sends i p) d r =
    host_roomed m i (λ e. send_tests m e p) (sent m i p)
    (λ e. ((λ _ z. omega arith), ((λ _ z. omega arith), ((λ _ z. omega arith), ((λ _ z. omega arith), ((λ _ z. omega arith), ((λ _ z. omega arith), (unmet _ (store_room t m S), tt))))))))
    (λ e. done_roomed)
never_short t m S (urges i p) d r =
    host_roomed m i (urgent_tests m p) (urged m i p)
    (λ e. ((λ _ z. omega arith), ((λ _ z. omega arith), ((λ _ z. omega arith), ((λ _ z. omega arith), ((λ _ z. omega arith), (unmet _ (store_room t m S), tt)))))))
    (λ e. done_roomed)
never_short t m S (plans i block) d r =
    roomed (plan_tests block) ((λ _ z. omega arith), tt) [] m (sending_all m i 0 (read_block block))
    (λ z. omega (arith, first_zero m i 0 (read_block block)))
never_short t m S (arrives block f) d r = arrive_roomed t m S block r f
never_short t m S (hands_out buffer) d r = out_roomed t m S buffer r
never_short t m S reports d r = by_reported Roomed m m.under (λ z. omega arith) (λ f z m' a. done_roomed)
never_short t m S ticks d r = absurd (d refl)

-- ---- block and frame buffer keep their length

module _ (m : Machine) (out : List ℕ) where
  abbrev Long : Outcome → Type 0
  Long o = length o.answer.out ≡ length out

  going_long : (q : Sort) (l : List Item) (other : Outcome) → Long other → Long (going_out m out q l other)
  unfolding going_out
  going_long q [] other k = k
  going_long q (x ∷ xs) other k =
      by_entry Long m x.entry other (goes m out q x) k
      (λ e z. by_verdict Long (room_tests m out q x e) out m (gone m out q x e) (λ w. refl) (λ v. length-sets out 0 (frame_of m q e x.number)))

  order_long : (qs : List Sort) → Long (in_order m out qs)
  unfolding in_order
  order_long [] = refl
  order_long (q ∷ qs) = going_long q (m.waiting q) (in_order m out qs) (order_long qs)

pub buffers_stay : BuffersStay
unfolding BuffersStay step opening closing counting sending urgent_sending arriving handing_out reporting ticking
buffers_stay m (opens i) = by_done (Long m []) m i open_tests (opened m i) (λ w. refl) (λ e h. refl)
buffers_stay m (closes i) = by_done (Long m []) m i close_tests (closed m i) (λ w. refl) (λ e h. refl)
buffers_stay m (counts i) = by_done (Long m []) m i count_tests (counts_of m) (λ w. refl) (λ e h. refl)
buffers_stay m (sends i p) = by_done (Long m []) m i (λ e. send_tests m e p) (sent m i p) (λ w. refl) (λ e h. refl)
buffers_stay m (urges i p) = by_done (Long m []) m i (urgent_tests m p) (urged m i p) (λ w. refl) (λ e h. refl)
buffers_stay m (plans i block) = by_plan (λ k o. length o.answer.out ≡ 0) i (λ k ns. refl) (λ k p o h. h) (λ k w. refl) m block
buffers_stay m (arrives block f) =
    by_verdict (Long m block) (arrival_tests m f) block m (reading m block (header_of f) (payload_of f)) (λ w. refl)
    (λ v. by_read (Long m block) m block (λ w. refl) (header_of f) (payload_of f) (λ h z m' t ns out' l. l))
buffers_stay m (hands_out buffer) =
    by_verdict (Long m buffer) (out_tests m) buffer m (in_order m buffer (acks ∷ resets ∷ urgents ∷ resends ∷ datas ∷ [])) (λ w. refl)
    (λ v. order_long m buffer (acks ∷ resets ∷ urgents ∷ resends ∷ datas ∷ []))
buffers_stay m reports = by_reported (Long m []) m m.under refl (λ f z m' a. refl)
buffers_stay m ticks = refl

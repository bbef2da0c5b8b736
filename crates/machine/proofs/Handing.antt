-- The laws of handing out (specs/LawsHanding.antt). Assumes nothing.
use Prim.Native.Nat.{ℕ, zero, suc, ◌+◌, ◌≤◌, ◌<◌}
use mathlib.Core.Path.{◌≡◌, refl, sym, ap, subst, ◌∙◌}
use mathlib.Core.Logic.{◌⊎◌, inl, inr}
use mathlib.Core.Bool.{Bool, true, false, ◌&&◌}
use mathlib.Core.Option.{Option, none, some}
use mathlib.Core.List.{List, [], ◌∷◌, Memᴰ}
use native.Mathlib.Decide.{dec_lt}
use native.Mathlib.Omega.{arith}
use lib.ListN.{length, take, drop, get_or}
use lib.Seq.{sets, sets-eq, take_at}
use lib.Dec.{leb, ltb}
use borrow.Author.Tests.{eq-eqb, le-leb, le-ltb, lt-ltb}
use Rattle.units.specs.declared.refusals.Refusal.{Refusal}
use Rattle.units.specs.declared.refusals.Refusal.TheVariants as refusal
use Rattle.table.specs.Layout.{count_of, entry_of}
use Rattle.table.proofs.Good.{good_entry}
use Rattle.frame.specs.Types.{type_number, suits, seq_writes}
use Rattle.frame.specs.declared.Fields.{Fields}
use Rattle.frame.specs.declared.Header.{Header}
use Rattle.frame.specs.declared.FrameType.{FrameType}
use Rattle.frame.proofs.ReadLaws.{taken as framed, header_for, payload_frame, read_frame}
use Rattle.frame.proofs.TypeLaws.{type_of_number}
use Rattle.frame.proofs.WriteLaws.{length_frame}
use Rattle.end_points.specs.Answers.{answer_of, handed_of}
use Rattle.machine.specs.Calls.{hands_out}
use Rattle.machine.specs.Machine.{End, Item, Sort, acks, resets, urgents, resends, datas, Out, Machine, Outcome, numbered, port, turned, rank, only, waiting_as, answers, unless, too_short, is_some, offset, number_at, timed, type_of, carried, frame_of, handed, going_out, in_order, handing_out, step}
use Rattle.machine.specs.Sound.{Sound, Sized, Owned, Waits, WaitsData}
use Rattle.machine.specs.Laws.{Is, answer, after, Next}
use Rattle.machine.specs.LawsHanding.{NextOrNone, NumberOut, Sent, HandsOut, WaitingGoesOut, TooShortStays, NothingOut, UnderWayRefuses, ReadsBack, PairedTakes, HandedComes}
use Rattle.machine.proofs.Entries.{elem_lt, elem_in, get_d_elem, elem_set_same}
use Rattle.machine.proofs.Items.{sort_of, sort_of_rank, rank_of_sort, rank_low, rank_same, rank_other}
use Rattle.machine.proofs.Blocks.{beyond_stays}
use Rattle.machine.proofs.Coming.{number_low, read_sound, read_header}
use Rattle.machine.proofs.Receiving.{carry}
use Rattle.std.specs.Prelude.{Ok, Err}

-- ---- what goes out next

pub next_or_none : NextOrNone
unfolding NextOrNone
next_or_none m = look 5 0 refl (λ r l. absurd (omega arith))
  where
    Found : Type 0
    Found = ((q : Sort) × (x : Item) × (xs : List Item) × Next m q x xs) ⊎ ((q : Sort) → m.waiting q ≡ [])

    look : (fuel k : ℕ) → k + fuel ≡ 5 → ((r : Sort) → rank r < k → m.waiting r ≡ []) → Found
    look zero k h before = inr (λ q. before q (let z = rank_low q in omega arith))
    look (suc fuel) k h before = sides (m.waiting (sort_of k)) refl (look fuel (suc k) (omega arith))
      where
        here : rank (sort_of k) ≡ k
        here = rank_of_sort k (omega arith)

        more : m.waiting (sort_of k) ≡ [] → (r : Sort) → rank r < suc k → m.waiting r ≡ []
        more z r l = one (dec_lt (rank r) k)
          where
            one : Dec (rank r < k) → m.waiting r ≡ []
            one (yes y) = before r y
            one (no y) = let e : rank r ≡ k = omega arith in ap m.waiting (sym (sort_of_rank r) ∙ ap sort_of e) ∙ z

        sides : (l : List Item) → m.waiting (sort_of k) ≡ l → (((r : Sort) → rank r < suc k → m.waiting r ≡ []) → Found) → Found
        sides [] z go = go (more z)
        sides (x ∷ xs) z go = inl (sort_of k, x, xs, record { first = z; before = λ r l. before r (omega (arith, here)) })

-- ---- it goes out

-- what is written into its frame
abbrev pub fields_out : Machine → Sort → End → ℕ → Fields
fields_out m q e s =
    record {
      destination = e.entry.remote;
      protocol = m.protocol;
      source = m.own;
      kind = type_number (type_of q);
      user = 0;
      channel = e.entry.channel;
      seq = record { 0 = s };
    }

abbrev pub out_tests : Machine → List (Bool × Refusal)
out_tests m = (is_some m.under, refusal.UnderWay) ∷ too_short m ∷ []

abbrev pub room_tests : Machine → List ℕ → Sort → Item → End → List (Bool × Refusal)
room_tests m out q x e = (ltb (length out) (length (frame_of m q e x.number)), refusal.TooShort) ∷ []

abbrev pub gone : Machine → List ℕ → Sort → Item → End → Outcome
gone m out q x e =
    let f = frame_of m q e x.number in
    answers (handed_of (Ok (length f))) (sets out 0 f)
    (port (some (type_of q, x)) (waiting_as (only q (drop 1)) (turned x.entry (handed q e x.number) m)))

abbrev pub goes : Machine → List ℕ → Sort → Item → End → Outcome
goes m out q x e = unless (room_tests m out q x e) out m (gone m out q x e)

-- an item's owner is the entry that it names
pub owned_waits : (m : Machine) (q : Sort) (x : Item) → Owned m q x → (e : End) → Is m x.entry e → Waits q e x.number
owned_waits m q x o e here =
    let z : o.end ≡ e = (let y : some o.end ≡ some e = sym o.there ∙ here in cc) in
    subst (λ (d : End). Waits q d x.number) z o.waits

abbrev sorts : List Sort
sorts = acks ∷ resets ∷ urgents ∷ resends ∷ datas ∷ []

-- with u under way
abbrev out_over : Machine → List ℕ → Option Out → Outcome
out_over m buffer u = unless ((is_some u, refusal.UnderWay) ∷ too_short m ∷ []) buffer m (in_order m buffer sorts)

-- while one is under way none goes out
pub under_is : (m : Machine) (f : Out) → m.under ≡ some f → (buffer : List ℕ)
    → step m (hands_out buffer) ≡ answers (answer_of (Err refusal.UnderWay)) buffer m
unfolding step handing_out
under_is m f under buffer = ap (out_over m buffer) under

module _ (t : List ℕ) (m : Machine) (S : Sound t m) where
  pub owner : (q : Sort) (x : Item) (xs : List Item) → Next m q x xs → Owned m q x
  owner q x xs n = S.owned q x (subst (λ (l : List Item). Memᴰ x l) (sym n.first) (Memᴰ.head refl))

module _ (t : List ℕ) (m : Machine) (S : Sound t m) (under : m.under ≡ none) where
  -- none under way, and a store that is long enough
  order_is : (buffer : List ℕ) → step m (hands_out buffer) ≡ in_order m buffer sorts
  unfolding step handing_out
  order_is buffer = ap (out_over m buffer) under ∙ rw (le-ltb m.room m.need S.room)

  module _ (q : Sort) (x : Item) (xs : List Item) (n : Next m q x xs) where
    pub goes_is : (e : End) → Is m x.entry e → (buffer : List ℕ) → step m (hands_out buffer) ≡ goes m buffer q x e
    unfolding in_order going_out
    goes_is e h buffer = order_is buffer ∙ sides q n
      where
        sides : (q : Sort) → Next m q x xs → in_order m buffer sorts ≡ goes m buffer q x e
        sides acks n = rw (n.first, h)
        sides resets n = rw (n.before acks (omega arith), n.first, h)
        sides urgents n = rw (n.before acks (omega arith), n.before resets (omega arith), n.first, h)
        sides resends n = rw (n.before acks (omega arith), n.before resets (omega arith), n.before urgents (omega arith), n.first, h)
        sides datas n =
            rw (n.before acks (omega arith), n.before resets (omega arith), n.before urgents (omega arith), n.before resends (omega arith), n.first, h)

  pub none_is : ((q : Sort) → m.waiting q ≡ []) → (buffer : List ℕ) → step m (hands_out buffer) ≡ answers (handed_of (Ok 0)) buffer m
  unfolding in_order going_out
  none_is h buffer = order_is buffer ∙ rw (h acks, h resets, h urgents, h resends, h datas)

  pub nothing_out : ((q : Sort) → m.waiting q ≡ []) → (buffer : List ℕ)
      → ((answer m (hands_out buffer)).numbers ≡ 0 ∷ 0 ∷ []) × ((answer m (hands_out buffer)).out ≡ buffer) × (after m (hands_out buffer) ≡ m)
  nothing_out h buffer = carry (λ m' a. (a.numbers ≡ 0 ∷ 0 ∷ []) × (a.out ≡ buffer) × (m' ≡ m)) (none_is h buffer) (refl, refl, refl)

  module _ (q : Sort) (x : Item) (xs : List Item) (n : Next m q x xs) (e : End) (here : Is m x.entry e) (buffer : List ℕ) where
    abbrev f : List ℕ
    f = frame_of m q e x.number

    short_stays : length buffer < length f
        → ((answer m (hands_out buffer)).numbers ≡ 6 ∷ []) × ((answer m (hands_out buffer)).out ≡ buffer) × (after m (hands_out buffer) ≡ m)
    short_stays l =
        carry (λ m' a. (a.numbers ≡ 6 ∷ []) × (a.out ≡ buffer) × (m' ≡ m))
        (goes_is q x xs n e here buffer ∙ rw (lt-ltb (length buffer) (length f) l)) (refl, refl, refl)

    -- how its end point alters
    number_out : WaitsData e x.number → NumberOut e x.number (numbered e.start (timed 0 false e x.number) e)
    number_out w = record { was = number_at e x.number; there = get_d_elem e.numbers (offset e x.number) _ w.taken; is = refl }

    sent_as : (q : Sort) → Waits q e x.number → Sent q e x.number (handed q e x.number)
    sent_as acks w = refl
    sent_as resets w = refl
    sent_as urgents w = refl
    sent_as resends w = number_out w
    sent_as datas w = number_out w

    frame_long : 9 ≤ length f
    unfolding frame_of
    frame_long = omega (arith, length_frame (fields_out m q e x.number) (carried q e x.number))

    module _ (fits : length f ≤ length buffer) where
      abbrev then : Machine
      then = port (some (type_of q, x)) (waiting_as (only q (drop 1)) (turned x.entry (handed q e x.number) m))

      out_is : step m (hands_out buffer) ≡ answers (handed_of (Ok (length f))) (sets buffer 0 f) then
      out_is = goes_is q x xs n e here buffer ∙ rw (le-ltb (length buffer) (length f) fits)

      in_buffer : take (length f) (sets buffer 0 f) ≡ f
      in_buffer = rw (sets-eq f buffer 0 (omega arith)) (take_at f (drop (0 + length f) buffer) (length f) refl)

      hands_it : HandsOut m (after m (hands_out buffer)) (answer m (hands_out buffer)) q x xs e buffer
      hands_it =
          carry (λ m' a. HandsOut m m' a q x xs e buffer) out_is
          (record {
            long = frame_long;
            numbers = refl;
            frame = in_buffer;
            beyond = beyond_stays buffer f fits;
            rest = rw (rank_same q, n.first);
            others = λ r d. rw (rank_other r q d);
            end = handed q e x.number;
            is = elem_set_same m.ends x.entry (handed q e x.number) (elem_lt m.ends x.entry here);
            sent = sent_as q (owned_waits m q x (owner t m S q x xs n) e here);
            under = refl;
          })

pub waiting_goes_out : WaitingGoesOut
unfolding WaitingGoesOut
waiting_goes_out t m S under q x xs n =
    let o = owner t m S q x xs n in
    (o.end, o.there, λ buffer fits. hands_it t m S under q x xs n o.end o.there buffer fits)

pub too_short_stays : TooShortStays
unfolding TooShortStays
too_short_stays t m S under q x xs n e here buffer l = short_stays t m S under q x xs n e here buffer l

pub nothing_goes_out : NothingOut
unfolding NothingOut
nothing_goes_out = nothing_out

pub under_way_refuses : UnderWayRefuses
unfolding UnderWayRefuses
under_way_refuses m f under buffer =
    carry (λ m' a. (a.numbers ≡ 19 ∷ []) × (a.out ≡ buffer) × (m' ≡ m)) (under_is m f under buffer) (refl, refl, refl)

-- ---- how it reads

writes_number : (q : Sort) (e : End) (s : ℕ) → Waits q e s → seq_writes (type_of q) s ≡ true
writes_number acks e s w = refl
writes_number resets e s w = eq-eqb s 0 w.zero
writes_number urgents e s w = eq-eqb s 0 w.zero
writes_number resends e s w = refl
writes_number datas e s w = refl

module _ (t : List ℕ) (m : Machine) (S : Sound t m) (i : ℕ) (e : End) (here : Is m i e) where
  -- a payload of 1 to P bytes fits a frame
  sized_fits : (p : List ℕ) → Sized (entry_of t i) p → (leb 1 (length p) && leb (length p) 65520) ≡ true
  sized_fits p z =
      let l : i < count_of t = (let n = S.count in let k = elem_lt m.ends i here in omega arith) in
      let g = (good_entry t S.table i l).largest_high in
      let h : length p ≤ 65520 = (let y = z.most in omega arith) in
      rw (le-leb 1 (length p) z.some, le-leb (length p) 65520 h)

  data_fits : (s : ℕ) → WaitsData e s → (leb 1 (length (number_at e s).payload) && leb (length (number_at e s).payload) 65520) ≡ true
  data_fits s w =
      sized_fits (number_at e s).payload
      ((S.bounded i e here).payloads (number_at e s) (elem_in e.numbers (offset e s) (get_d_elem e.numbers (offset e s) _ w.taken)))

  carried_fits : (q : Sort) (s : ℕ) → Waits q e s → suits (type_of q) (length (carried q e s)) ≡ true
  carried_fits acks s w = refl
  carried_fits resets s w = refl
  carried_fits urgents s w = rw w.there (sized_fits w.payload ((S.bounded i e here).urgent w.payload w.there))
  carried_fits resends s w = data_fits s w
  carried_fits datas s w = data_fits s w

pub reads_back : ReadsBack
unfolding ReadsBack frame_of
reads_back t m S q x there e here =
    let s = x.number in
    let d = fields_out m q e s in
    let p = carried q e s in
    let w = owned_waits m q x (S.owned q x there) e here in
    let k = type_of_number (type_of q) in
    record {
      header = header_for d (length p);
      reads = read_frame d p (number_low (type_of q)) refl (ap (λ (z : FrameType). seq_writes z s) k ∙ writes_number q e s w)
          (ap (λ (z : FrameType). suits z (length p)) k ∙ carried_fits t m S x.entry e here q s w);
      destination = refl;
      source = refl;
      protocol = refl;
      kind = k;
      channel = refl;
      number = refl;
      size = refl;
      payload = payload_frame d p;
    }

pub paired_takes : PairedTakes
unfolding PairedTakes
paired_takes m n q e s f r own protocol =
    let z = (framed f r.header r.reads).1 in
    let a : get_or f 0 0 ≡ n.own.0 = ap (λ (h : Header). h.destination.0) z ∙ ap (λ x. x.0) (r.destination ∙ sym own) in
    let b : get_or f 1 0 ≡ n.protocol = ap (λ (h : Header). h.protocol) z ∙ r.protocol ∙ sym protocol in
    (read_sound f r.header r.reads, rw (eq-eqb (get_or f 0 0) n.own.0 a, eq-eqb (get_or f 1 0) n.protocol b), read_header f r.header r.reads)

pub handed_comes : HandedComes
unfolding HandedComes PairedTakes
handed_comes m n q e s f r byte own protocol j d there remote channel kind =
    record {
      there = there;
      byte = byte;
      header = r.header;
      reads = r.reads;
      ours = (paired_takes m n q e s f r own protocol).1;
      kind = kind;
      source = ap (λ x. x.0) (remote ∙ sym r.source);
      channel = ap (λ x. x.0) (channel ∙ sym r.channel);
      type = r.kind;
      number = r.number;
      payload = r.payload;
    }

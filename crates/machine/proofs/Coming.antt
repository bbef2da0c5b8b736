-- A frame for an entry that may take it in is taken in by that entry: the search finds the entry, and no test of the
-- arrival fits. And each frame that the remote end writes is such a frame; one with a fault is refused. Assumes nothing.
use Prim.Native.Nat.{ℕ, zero, suc, ◌+◌, ◌-◌, ◌≤◌, ◌<◌}
use mathlib.Core.Path.{◌≡◌, refl, sym, ap, ◌∙◌}
use mathlib.Core.Bool.{Bool, true, false, not, ◌&&◌, false≢true}
use mathlib.Core.Option.{some}
use mathlib.Core.List.{List, [], ◌∷◌}
use native.Mathlib.Omega.{arith}
use lib.ListN.{length, take, drop, get_elem?, length-take, length-drop}
use lib.Dec.{eqb, leb, ltb}
use borrow.Author.Tests.{le-leb, lt-leb, le-ltb, eq-eqb, eqb-true}
use Rattle.std.proofs.lemmas.Bool.{and_parts}
use Rattle.units.specs.Bytes.{get16_of}
use Rattle.frame.specs.Layout.{payload_of, head_bytes, body_bytes, frame_bytes}
use Rattle.frame.specs.Reading.{sound_of, header_of, read_of}
use Rattle.frame.specs.Types.{type_number, suits, seq_writes, for_sender, carries, answered}
use Rattle.frame.specs.declared.Header.{Header}
use Rattle.frame.specs.declared.FrameType.{FrameType}
use Rattle.frame.specs.declared.FrameType.TheVariants as type
use Rattle.frame.proofs.ReadLaws.{taken as framed, header_for, payload_frame, read_frame}
use Rattle.frame.proofs.TypeLaws.{type_of_number}
use Rattle.table.specs.declared.Entry.{Entry}
use Rattle.table.specs.Layout.{count_of}
use Rattle.table.proofs.Good.{one_entry}
use Rattle.end_points.specs.States.{is_sends, is_closed, is_open}
use Rattle.end_points.specs.declared.State.{State}
use Rattle.end_points.specs.declared.State.TheVariants.{Open}
use Rattle.arrive_lookup.specs.Fitting.{same, fits}
use Rattle.machine.specs.Calls.{arrives}
use Rattle.machine.specs.Machine.{End, acks, Machine, place_of, entry_for, is_ours, most_acks, block_room, taken_in, reading, arriving, step}
use Rattle.machine.specs.Sound.{Sound}
use Rattle.machine.specs.Laws.{Is}
use Rattle.machine.specs.LawsArriving.{Comes, fields_for, WrittenComes, FaultTold}
use Rattle.machine.proofs.Entries.{not_none, elem_lt}
use Rattle.std.specs.Prelude.{Ok}
use Rattle.end_points.proofs.Telling.{same_kind}

-- ---- the entry that is found

place_is : (test : End → Bool) (es : List End) (i : ℕ) (e : End) → get_elem? es i ≡ some e → test e ≡ true
    → ((j : ℕ) (d : End) → get_elem? es j ≡ some d → test d ≡ true → j ≡ i) → place_of test es ≡ i
unfolding place_of
place_is test [] i e h t once = not_none h
place_is test (x ∷ xs) zero e h t once = let a : x ≡ e = cc in rw (a, t)
place_is test (x ∷ xs) (suc i) e h t once =
    rw (first (test x) refl) (ap suc (place_is test xs i e h t (λ j d z y. let o = once (suc j) d z y in omega arith)))
  where
    first : (b : Bool) → test x ≡ b → test x ≡ false
    first true y = absurd (let o = once 0 x refl y in omega arith)
    first false y = y

same_true : (a b : Bool) → a ≡ b → same a b ≡ true
same_true true b h = sym h
same_true false true h = absurd (false≢true h)
same_true false false h = refl

true_same : (a b : Bool) → same a b ≡ true → a ≡ b
true_same true b h = sym h
true_same false true h = absurd (false≢true h)
true_same false false h = refl

record Fitting (x : Entry) (sends : Bool) (source channel : ℕ) : Type 0 where
  kind : sends ≡ is_sends x.kind
  remote : x.remote.0 ≡ source
  over : x.channel.0 ≡ channel

fits_is : (x : Entry) (sends : Bool) (source channel : ℕ) → Fitting x sends source channel → fits x sends source channel ≡ true
unfolding fits
fits_is x sends source channel f =
    rw (eq-eqb x.channel.0 channel f.over, eq-eqb x.remote.0 source f.remote, same_true sends (is_sends x.kind) f.kind)

is_fits : (x : Entry) (sends : Bool) (source channel : ℕ) → fits x sends source channel ≡ true → Fitting x sends source channel
unfolding fits
is_fits x sends source channel h =
    let a = and_parts (eqb x.channel.0 channel) _ h in
    let b = and_parts (eqb x.remote.0 source) (same sends (is_sends x.kind)) a.1 in
    record { kind = true_same sends (is_sends x.kind) b.1; remote = eqb-true _ _ b.0; over = eqb-true _ _ a.0 }

module _ (t : List ℕ) (m : Machine) (S : Sound t m) where
  -- no two entries fit the same
  fit_once : (i j : ℕ) (e d : End) → Is m i e → Is m j d → (sends : Bool) (source channel : ℕ)
      → Fitting e.entry sends source channel → Fitting d.entry sends source channel → j ≡ i
  fit_once i j e d hi hj sends source channel p q =
      let a = (S.bounded i e hi).entry in
      let b = (S.bounded j d hj).entry in
      let li : i < count_of t = (let c = S.count in let l = elem_lt m.ends i hi in omega arith) in
      let lj : j < count_of t = (let c = S.count in let l = elem_lt m.ends j hj in omega arith) in
      one_entry t S.table j i lj li
      (rw (← a, ← b) (same_kind _ _ (sym q.kind ∙ p.kind))) (rw (← a, ← b) (q.remote ∙ sym p.remote)) (rw (← a, ← b) (q.over ∙ sym p.over))

  pub found_is : (i : ℕ) (e : End) (h : Header) → Is m i e → is_sends e.entry.kind ≡ for_sender h.kind → e.entry.remote.0 ≡ h.source.0
      → e.entry.channel.0 ≡ h.channel.0 → entry_for m h ≡ i
  found_is i e h here k r c =
      let f : Fitting e.entry (for_sender h.kind) h.source.0 h.channel.0 = record { kind = sym k; remote = r; over = c } in
      place_is _ m.ends i e here (fits_is e.entry _ _ _ f) (λ j d z y. fit_once i j e d here z _ _ _ f (is_fits d.entry _ _ _ y))

-- ---- the tests

-- a frame that is read is sound, and its header follows the rules
pub read_sound : (f : List ℕ) (h : Header) → read_of f ≡ Ok h → sound_of f ≡ true
unfolding sound_of
read_sound f h e =
    let t = (framed f h e).0 in
    rw (le-leb 9 (length f) t.long, eq-eqb (get16_of f 4 + 9) (length f) t.size, eq-eqb _ _ t.check)

pub read_header : (f : List ℕ) (h : Header) → read_of f ≡ Ok h → header_of f ≡ Ok h
unfolding read_of header_of
read_header f h e = rw (read_sound f h e) at e

-- a payload is as long as the header says
payload_size : (f : List ℕ) (h : Header) → read_of f ≡ Ok h → length (payload_of f) ≡ h.length
unfolding payload_of
payload_size f h e =
    let t = framed f h e in
    let n : length (take (length f - 9) (drop 8 f)) ≡ get16_of f 4 =
    length-take (length f - 9) (drop 8 f) ∙ (let z = length-drop 8 f in let y = t.0.size in omega arith) in
    n ∙ ap (λ (x : Header). x.length) t.1

and_not : (a b : Bool) → (a ≡ true → b ≡ false) → (a && b) ≡ false
and_not true b h = h refl
and_not false b h = refl

-- what the entry must be for a frame of type q with payload p
pub record May (m : Machine) (e : End) (q : FrameType) (p out : List ℕ) : Type 0 where
  pub up : is_closed e.state ≡ false
  pub opened : carries q ≡ true → e.state ≡ Open
  pub short : carries q ≡ true → length p ≤ e.entry.largest
  pub few : answered q ≡ true → length (m.waiting acks) < most_acks
  pub room : carries q ≡ true → block_room e.entry ≤ length out

-- it is taken in
pub come_is : (t : List ℕ) (m : Machine) → Sound t m → (f : List ℕ) (i : ℕ) (e : End) (q : FrameType) (s : ℕ) (p out : List ℕ)
    → Comes m f i e q s p → May m e q p out → step m (arrives out f) ≡ taken_in m out i e q s p
unfolding step arriving reading
come_is t m S f i e q s p out c y =
    let h = c.header in
    let size : h.length ≡ length p = sym (payload_size f h c.reads) ∙ ap length c.payload in
    rw (
      read_sound f h c.reads,
      c.ours,
      read_header f h c.reads,
      found_is t m S i e h c.there (c.kind ∙ ap for_sender (sym c.type)) c.source c.channel,
      c.there,
      c.type,
      y.up,
      size,
      and_not (carries q) (not (is_open e.state)) (λ d. ap (λ (s : State). not (is_open s)) (y.opened d)),
      and_not (carries q) (ltb e.entry.largest (length p)) (λ d. le-ltb e.entry.largest (length p) (y.short d)),
      and_not (answered q) (leb most_acks (length (m.waiting acks))) (λ d. lt-leb most_acks (length (m.waiting acks)) (y.few d)),
      le-ltb m.room m.need S.room,
      and_not (carries q) (ltb (length out) (block_room e.entry)) (λ d. le-ltb (length out) (block_room e.entry) (y.room d)),
      c.number,
      c.payload,
    )

-- ---- a frame that the remote end writes

pub number_low : (t : FrameType) → type_number t < 4
number_low type.Data = omega arith
number_low type.Acknowledge = omega arith
number_low type.Reset = omega arith
number_low type.Urgent = omega arith

written_ours : (m : Machine) (e : End) (t : FrameType) (s : ℕ) (p : List ℕ) → is_ours m (frame_bytes (fields_for m e t s) p) ≡ true
unfolding frame_bytes body_bytes head_bytes
written_ours m e t s p = rw (eq-eqb m.own.0 m.own.0 refl, eq-eqb m.protocol m.protocol refl)

pub written_comes : WrittenComes
unfolding WrittenComes
written_comes m i e t s p here kind byte numbered fits =
    let d = fields_for m e t s in
    let k = type_of_number t in
    record {
      there = here;
      byte = byte;
      header = header_for d (length p);
      reads = read_frame d p (number_low t) refl (ap (λ (q : FrameType). seq_writes q s) k ∙ numbered) (ap (λ (q : FrameType). suits q (length p)) k ∙ fits);
      ours = written_ours m e t s p;
      kind = kind;
      source = refl;
      channel = refl;
      type = k;
      number = refl;
      payload = payload_frame d p;
    }

-- ---- a frame with a fault

pub fault_told : FaultTold
unfolding FaultTold step arriving reading
fault_told m block f w sound ours has = rw (sound, ours, has)

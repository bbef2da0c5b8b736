-- An arrival, in two ways: refused, and then nothing alters; or taken in by the entry that fits, with what its tests have made sure of.
-- Assumes nothing.
use Prim.Native.Nat.{ℕ, ◌-◌, ◌≤◌, ◌<◌}
use mathlib.Core.Path.{◌≡◌, refl, sym, ap, ◌∙◌}
use mathlib.Core.Logic.{◌⊎◌, inl, inr}
use mathlib.Core.Bool.{Bool, true, false, ◌&&◌, true≢false}
use mathlib.Core.List.{List}
use native.Mathlib.Omega.{arith}
use lib.ListN.{length, get_or, take, drop, length-take, length-drop}
use lib.Dec.{leb}
use borrow.Author.Tests.{leb-true, leb-false, ltb-false, not-false}
use Rattle.std.proofs.lemmas.Bool.{and_parts}
use Rattle.units.specs.Refusals.{verdict, Verdict}
use Rattle.units.specs.Bytes.{get16_of}
use Rattle.units.specs.declared.refusals.Refusal.{Refusal}
use Rattle.units.proofs.Judging.{clear}
use Rattle.waiting.specs.Acks.{waiting_of}
use Rattle.frame.specs.Layout.{payload_of, type_at}
use Rattle.frame.specs.Reading.{sound_of, header_of, read_of}
use Rattle.frame.specs.Types.{type_of, suits, seq_given, for_sender, carries, answered}
use Rattle.frame.specs.declared.Header.{Header}
use Rattle.frame.specs.declared.FrameType.{FrameType}
use Rattle.frame.specs.declared.FrameType.TheVariants as type
use Rattle.frame.proofs.ReadLaws.{taken as framed, whole_read}
use Rattle.end_points.specs.Ends.{load_entry, end_of}
use Rattle.end_points.specs.Heads.{count_in, need_in}
use Rattle.end_points.specs.States.{is_sends, is_closed, is_open}
use Rattle.end_points.specs.Lent.{Lent}
use Rattle.end_points.specs.declared.State.TheVariants.{Open}
use Rattle.arrive_lookup.specs.Lookup.{Indexed, entry_for}
use Rattle.arrive_lookup.proofs.Found.{Fitting, found_fits}
use Rattle.call_arrive.specs.Arriving.{block_room, entry_tests, entry_of, entry_verdict, taken_in_answer, taken_in_after, answer_as, after_as, entry_answer, entry_after, read_answer, read_after, frame_tests, arrival_answer, arrival_after}
use Rattle.std.specs.Prelude.{Result, Ok, Err}
use Rattle.end_points.proofs.Telling.{is_open_holds}

-- ---- what the tests make sure of

pub record Taken (x : Lent) (f : List ℕ) : Type 0 where
  pub header : Header
  pub entry : ℕ
  pub read : read_of f ≡ Ok header
  pub known : entry < count_in x.node
  pub fit : Fitting (load_entry x.node entry) (for_sender header.kind) header.source.0 header.channel.0
  pub up : is_closed (end_of x.node entry).state ≡ false
  pub opened : carries header.kind ≡ true → (end_of x.node entry).state ≡ Open
  pub short : carries header.kind ≡ true → length (payload_of f) ≤ (end_of x.node entry).entry.largest
  pub some : carries header.kind ≡ true → 1 ≤ length (payload_of f)
  pub room : answered header.kind ≡ true → waiting_of x.node < 32
  pub need : need_in x.node ≤ length x.store
  pub block : carries header.kind ≡ true → block_room (end_of x.node entry) ≤ length x.out
  pub byte : ((k : ℕ) → get_or f k 0 < 256) → header.seq.0 < 256
  pub answer : arrival_answer x f ≡ Ok (record { entry = entry; was = taken_in_answer x entry (end_of x.node entry) header.kind header.seq.0 (payload_of f) })
  pub after : arrival_after x f ≡ taken_in_after x entry (end_of x.node entry) header.kind header.seq.0 (payload_of f)

pub record Refused (x : Lent) (f : List ℕ) : Type 0 where
  pub why : Refusal
  pub answer : arrival_answer x f ≡ Err why
  pub after : arrival_after x f ≡ x

-- the entry that takes it in is of the kind that such a frame goes to
pub taken_kind : (x : Lent) (f : List ℕ) (a : Taken x f) → is_sends (end_of x.node a.entry).entry.kind ≡ for_sender a.header.kind
unfolding end_of
taken_kind x f a = a.fit.kind

-- a test that is made of those that deliver only
and_false : (a b : Bool) → (a && b) ≡ false → a ≡ true → b ≡ false
and_false true b h e = h
and_false false b h e = absurd (true≢false (sym e))

-- a payload is as long as the header says, and there is one where one is delivered
pub payload_size : (f : List ℕ) (h : Header) → read_of f ≡ Ok h → (length (payload_of f) ≡ h.length) × (carries h.kind ≡ true → 1 ≤ length (payload_of f))
unfolding payload_of
payload_size f h e =
    let t = framed f h e in
    let n : length (take (length f - 9) (drop 8 f)) ≡ get16_of f 4 =
    length-take (length f - 9) (drop 8 f) ∙ (let z = length-drop 8 f in let y = t.0.size in omega arith) in
    let l : get16_of f 4 ≡ h.length = ap (λ (x : Header). x.length) t.1 in
    let q : type_of (type_at f) ≡ h.kind = ap (λ (x : Header). x.kind) t.1 in
    (n ∙ l, λ d. rw n (carried (type_of (type_at f)) (get16_of f 4) (rw q d) t.0.fits))
  where
    carried : (t : FrameType) (n : ℕ) → carries t ≡ true → suits t n ≡ true → 1 ≤ n
    carried type.Data n d s = leb-true 1 n (and_parts (leb 1 n) (leb n 65520) s).0
    carried type.Acknowledge n d s = absurd (true≢false (sym d))
    carried type.Reset n d s = absurd (true≢false (sym d))
    carried type.Urgent n d s = leb-true 1 n (and_parts (leb 1 n) (leb n 65520) s).0

seq_byte : (t : FrameType) (s : ℕ) → s < 256 → seq_given t s < 256
seq_byte type.Data s h = h
seq_byte type.Acknowledge s h = h
seq_byte type.Reset s h = h
seq_byte type.Urgent s h = omega arith

pub header_byte : (f : List ℕ) (h : Header) → read_of f ≡ Ok h → ((k : ℕ) → get_or f k 0 < 256) → h.seq.0 < 256
header_byte f h e b =
    let t = framed f h e in
    let q : seq_given (type_of (type_at f)) (get_or f 7 0) ≡ h.seq.0 = ap (λ (x : Header). x.seq.0) t.1 in
    rw (← q) (seq_byte (type_of (type_at f)) (get_or f 7 0) (b 7))

-- ---- at the entry

module _ (x : Lent) (index : Indexed x.node) (f : List ℕ) (h : Header) (r : read_of f ≡ Ok h)
    (answer : arrival_answer x f ≡ entry_answer x (entry_of x h) h (payload_of f))
    (after : arrival_after x f ≡ entry_after x (entry_of x h) h (payload_of f)) where
  at_entry : (v : Verdict) → entry_verdict x (entry_of x h) h ≡ v → Refused x f ⊎ Taken x f
  unfolding entry_answer entry_after entry_for
  at_entry (Err w) e =
      inl (record {
        why = w;
        answer = answer ∙ ap (λ (v : Verdict). answer_as v (Ok (record { entry = entry_of x h; was = taken_in_answer x (entry_of x h) (end_of x.node (entry_of x h)) h.kind h.seq.0 (payload_of f) }))) e;
        after = after ∙ ap (λ (v : Verdict). after_as v x (taken_in_after x (entry_of x h) (end_of x.node (entry_of x h)) h.kind h.seq.0 (payload_of f))) e;
      })
  at_entry (Ok _) e =
      let i = entry_of x h in
      let c = clear (entry_tests x.node i (end_of x.node i) h.kind h.length (length x.store) (length x.out)) e in
      let p = payload_size f h r in
      let known : i < count_in x.node = leb-false (count_in x.node) i c.0 in
      inr (record {
        header = h;
        entry = i;
        read = r;
        known = known;
        fit = found_fits x.node index (for_sender h.kind) h.source.0 h.channel.0 known;
        up = c.1.0;
        opened = λ d. is_open_holds (end_of x.node i).state (not-false (is_open (end_of x.node i).state) (and_false (carries h.kind) _ c.1.1.0 d));
        short = λ d. rw p.0 (ltb-false _ _ (and_false (carries h.kind) _ c.1.1.1.0 d));
        some = p.1;
        room = λ d. leb-false 32 (waiting_of x.node) (and_false (answered h.kind) _ c.1.1.1.1.0 d);
        need = ltb-false (length x.store) (need_in x.node) c.1.1.1.1.1.0;
        block = λ d. ltb-false _ _ (and_false (carries h.kind) _ c.1.1.1.1.1.1.0 d);
        byte = header_byte f h r;
        answer = answer ∙ ap (λ (v : Verdict). answer_as v (Ok (record { entry = entry_of x h; was = taken_in_answer x (entry_of x h) (end_of x.node (entry_of x h)) h.kind h.seq.0 (payload_of f) }))) e;
        after = after ∙ ap (λ (v : Verdict). after_as v x (taken_in_after x (entry_of x h) (end_of x.node (entry_of x h)) h.kind h.seq.0 (payload_of f))) e;
      })

-- ---- the call

module _ (x : Lent) (index : Indexed x.node) (f : List ℕ) where
  read_on : (v : Result Header Refusal) → header_of f ≡ v → verdict (frame_tests x.node f) ≡ Ok tt → Refused x f ⊎ Taken x f
  unfolding arrival_answer arrival_after read_answer read_after
  read_on (Err w) e p = inl (record { why = w; answer = rw (p, e); after = rw (p, e) })
  read_on (Ok h) e p =
      let c = clear (frame_tests x.node f) p in
      at_entry x index f h (whole_read f h (not-false (sound_of f) c.0) e) (rw (p, e)) (rw (p, e)) (entry_verdict x (entry_of x h) h) refl

  judged : (v : Verdict) → verdict (frame_tests x.node f) ≡ v → Refused x f ⊎ Taken x f
  unfolding arrival_answer arrival_after
  judged (Err w) e = inl (record { why = w; answer = rw e; after = rw e })
  judged (Ok _) e = read_on (header_of f) refl e

  pub arrives : Refused x f ⊎ Taken x f
  arrives = judged (verdict (frame_tests x.node f)) refl

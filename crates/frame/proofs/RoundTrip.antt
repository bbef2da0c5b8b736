-- Reader and writer keep what specs/RoundTrip.antt promises. Assumes nothing.
use mathlib.Core.Path.{◌≡◌, refl, sym, ap, ◌∙◌}
use mathlib.Core.List.{List, [], ◌∷◌, ◌++◌}
use Prim.Native.Nat.{ℕ, ◌+◌, ◌-◌, ◌*◌, ◌/◌, ◌%◌, ◌≤◌, ◌<◌}
use native.Mathlib.Omega.{arith}
use borrow.Author.Tests.{leb-false, eqb-true, not-false, le-ltb}
use lib.Dec.{T}
use lib.ListN.{length, get_or, drop, set}
use lib.Seq.{take_at, set_at, set-get_or, get_or-set_other}
use lib.Pow.{are_bytes}
use Rattle.units.specs.Bytes.{get16_of, be16}
use Rattle.units.specs.Refusals.{verdict, Verdict}
use Rattle.units.proofs.Judging.{clear}
use Rattle.check8.specs.Polynomial.{check_of}
use Rattle.check8.proofs.Laws.{only_check}
use Rattle.frame.specs.declared.Fields.{Fields}
use Rattle.frame.specs.declared.FrameType.TheVariants.{Urgent}
use Rattle.frame.specs.Types.{type_number, type_of, seq_given}
use Rattle.frame.specs.Layout.{type_at, head_bytes, body_bytes, frame_bytes, payload_of}
use Rattle.frame.specs.Reading.{header_at}
use Rattle.frame.specs.Writing.{write_tests, written_as, write_answer, written_of}
use Rattle.frame.specs.RoundTrip.{fields_of, Gives, WrittenIsRead, again, Rewritten, ReadIsWritten}
use Rattle.frame.proofs.TypeLaws.{number_of_type, number_known, type_of_number, reads_writes, given_same}
use Rattle.frame.proofs.WriteLaws.{length_body, length_frame}
use Rattle.frame.proofs.ReadLaws.{Taken, taken, header_for, read_frame, payload_frame}
use Rattle.frame.proofs.Parts.{byte, bytes_before, length_payload, last, last_byte, parts}
use Rattle.std.specs.Prelude.{Ok, Err}

-- ---- what the writer writes, the reader gives back

accepted : (v : Verdict) (m n : ℕ) → written_as v m ≡ Ok n → (v ≡ Ok tt) × (m ≡ n)
accepted (Ok _) m n e = (refl, cc)
accepted (Err w) m n e = let z : ◌≡◌ {A = ℕ} 0 1 = cc in absurd (omega arith)

same_fields : (d : Fields) (n : ℕ) → d.kind < 4 → d.user ≡ 0 → fields_of (header_for d n) ≡ d
same_fields d n known plain = rw (number_of_type d.kind known, ← plain)

gives : (d : Fields) (p b : List ℕ) → verdict (write_tests d (length p) (length b)) ≡ Ok tt → Gives (frame_bytes d p) d p
gives d p b v =
    let c = clear (write_tests d (length p) (length b)) v in
    let known : d.kind < 4 = leb-false 4 d.kind c.0 in
    let plain : d.user ≡ 0 = eqb-true d.user 0 (not-false _ c.1.0) in
    record {
      header = header_for d (length p);
      reads = read_frame d p known plain (not-false _ c.1.1.0) (not-false _ c.1.1.1.0);
      fields = same_fields d (length p) known plain;
      size = refl;
      payload = payload_frame d p;
    }

pub written_is_read : WrittenIsRead
unfolding write_answer written_of
written_is_read d p b n e =
    let a = accepted (verdict (write_tests d (length p) (length b))) (length p + 9) n e in
    rw (a.0, take_at (frame_bytes d p) (drop (length p + 9) b) n (length_frame d p ∙ a.1)) (gives d p b a.0)

-- ---- a frame that the reader takes is written again as it stood

-- the fields that a frame is read as
abbrev fields_at : List ℕ → Fields
fields_at f = fields_of (header_at (type_of (type_at f)) f)

-- the sequence that it is read with
abbrev seq_at : List ℕ → ℕ
seq_at f = seq_given (type_of (type_at f)) (get_or f 7 0)

module _ (f : List ℕ) (bytes : T (are_bytes f)) (k : Taken f) where
  size_payload : length (payload_of f) ≡ get16_of f 4
  size_payload = omega (arith, length_payload f)

  pass_again : (b : List ℕ) → length f ≤ length b → verdict (write_tests (fields_at f) (length (payload_of f)) (length b)) ≡ Ok tt
  pass_again b room =
      let t = type_of (type_at f) in
      let enough : get16_of f 4 + 9 ≤ length b = omega arith in
      rw (
        number_known t,
        type_of_number t,
        reads_writes t (get_or f 7 0) k.numbered,
        size_payload,
        k.fits,
        le-ltb (length b) (get16_of f 4 + 9) enough,
      )

  -- the frame with the sequence that it is read with: all but the check byte of what is written
  seq_put : set f 7 (seq_at f) ≡ body_bytes (fields_at f) (payload_of f) ++ last f ∷ []
  unfolding body_bytes head_bytes be16 get16_of
  seq_put =
      let mark : get_or f 3 0 ≡ 0 % 16 * 16 + type_number (type_of (type_at f)) % 16 = omega (arith, number_of_type (type_at f) k.known) in
      let high : get_or f 4 0 ≡ length (payload_of f) % 65536 / 256 = omega (arith, size_payload, byte f 4 bytes, byte f 5 bytes) in
      let low : get_or f 5 0 ≡ length (payload_of f) % 65536 % 256 = omega (arith, size_payload, byte f 4 bytes, byte f 5 bytes) in
      ap (λ (l : List ℕ). set l 7 (seq_at f)) (parts f k.long) ∙ cc

  -- what is written: the frame with that sequence and the check byte that follows from it
  pub both_put : frame_bytes (fields_at f) (payload_of f) ≡ set (set f 7 (seq_at f)) (length f - 1) (check_of (body_bytes (fields_at f) (payload_of f)))
  unfolding frame_bytes
  both_put =
      let d = fields_at f in
      let p = payload_of f in
      let end : length (body_bytes d p) ≡ length f - 1 = omega (arith, length_body d p, length_payload f) in
      rw seq_put (sym (set_at (body_bytes d p) (last f) [] (check_of (body_bytes d p)) (length f - 1) end))

  others : (i : ℕ) → (i ≡ 7 → ⊥) → (i + 1 ≡ length f → ⊥) → get_or (frame_bytes (fields_at f) (payload_of f)) i 0 ≡ get_or f i 0
  others i seven end =
      let c = check_of (body_bytes (fields_at f) (payload_of f)) in
      rw both_put
      (get_or-set_other (set f 7 (seq_at f)) (length f - 1) i c 0 (λ e. end (omega arith)) ∙ get_or-set_other f 7 i (seq_at f) 0 seven)

  whole : (type_of (type_at f) ≡ Urgent → get_or f 7 0 ≡ 0) → frame_bytes (fields_at f) (payload_of f) ≡ f
  unfolding frame_bytes
  whole quiet =
      let d = fields_at f in
      let p = payload_of f in
      let same : body_bytes d p ++ last f ∷ [] ≡ f =
      sym seq_put ∙ ap (set f 7) (given_same (type_of (type_at f)) (get_or f 7 0) quiet) ∙ set-get_or f 7 0 in
      let body : T (are_bytes (body_bytes d p)) = bytes_before (body_bytes d p) (last f ∷ []) (rw same bytes) in
      let right : last f ≡ check_of (body_bytes d p) = only_check (body_bytes d p) (last f) body (last_byte f bytes) (rw same k.check) in
      rw (← right) same

rewritten : (f b : List ℕ) → T (are_bytes f) → Taken f → length f ≤ length b → Rewritten f (header_at (type_of (type_at f)) f) b
unfolding write_answer written_of
rewritten f b bytes k room =
    let d = fields_at f in
    let p = payload_of f in
    let pass = pass_again f bytes k b room in
    let n : length p + 9 ≡ length f = omega (arith, length_payload f) in
    let same : again f (header_at (type_of (type_at f)) f) b ≡ frame_bytes d p = rw pass (take_at (frame_bytes d p) (drop (length p + 9) b) (length f) (length_frame d p ∙ n)) in
    record {
      answer = rw (pass, n);
      size = rw same (length_frame d p ∙ n);
      bytes = λ i seven end. rw same (others f bytes k i seven end);
      whole = λ quiet. rw same (whole f bytes k quiet);
    }

pub read_is_written : ReadIsWritten
read_is_written f b h bytes e room =
    let k = taken f h e in
    rw (← k.1) (rewritten f b bytes k.0 room)

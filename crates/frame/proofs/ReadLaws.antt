-- Laws of the reader: what a taken frame shows, and how it reads the bytes that the writer makes. Assumes nothing.
use mathlib.Core.Path.{◌≡◌, refl, ap}
use mathlib.Core.Bool.{Bool, true, ◌&&◌, not}
use mathlib.Core.List.{List, [], ◌∷◌}
use Prim.Native.Nat.{ℕ, ◌+◌, ◌-◌, ◌≤◌, ◌<◌}
use native.Mathlib.Omega.{arith}
use borrow.Author.Tests.{le-leb, lt-leb, eq-eqb, leb-true, leb-false, eqb-true, not-false}
use lib.Dec.{leb, eqb}
use lib.ListN.{length, get_or}
use lib.Seq.{take_at}
use Rattle.std.proofs.lemmas.Bool.{and_parts}
use Rattle.units.specs.Bytes.{get16_of, be16}
use Rattle.units.specs.Refusals.{verdict, Verdict}
use Rattle.units.specs.declared.refusals.Refusal.{Refusal}
use Rattle.units.specs.declared.refusals.Refusal.TheVariants as refusal
use Rattle.units.proofs.Judging.{clear}
use Rattle.check8.specs.Polynomial.{check_of}
use Rattle.check8.proofs.Laws.{own_check}
use Rattle.frame.specs.declared.Fields.{Fields}
use Rattle.frame.specs.declared.Header.{Header}
use Rattle.frame.specs.Types.{type_of, suits, seq_reads, seq_writes}
use Rattle.frame.specs.Layout.{type_at, user_at, payload_of, head_bytes, body_bytes, frame_bytes}
use Rattle.frame.specs.Reading.{sound_of, header_tests, header_at, read_as, read_of, header_of}
use Rattle.frame.proofs.TypeLaws.{suits_le, writes_reads, writes_given}
use Rattle.frame.proofs.WriteLaws.{length_frame}
use Rattle.std.specs.Prelude.{Ok, Err}

-- ---- what a taken frame shows

pub record Taken (f : List ℕ) : Type 0 where
  pub long : 9 ≤ length f
  pub size : get16_of f 4 + 9 ≡ length f
  pub check : check_of f ≡ 0
  pub known : type_at f < 4
  pub plain : user_at f ≡ 0
  pub fits : suits (type_of (type_at f)) (get16_of f 4) ≡ true
  pub numbered : seq_reads (type_of (type_at f)) (get_or f 7 0) ≡ true

passed : (v : Verdict) (x h : Header) → read_as v x ≡ Ok h → (v ≡ Ok tt) × (x ≡ h)
passed (Ok _) x h e = (refl, cc)
passed (Err w) x h e = let z : ◌≡◌ {A = ℕ} 0 1 = cc in absurd (omega arith)

pub taken : (f : List ℕ) (h : Header) → read_of f ≡ Ok h → Taken f × (header_at (type_of (type_at f)) f ≡ h)
unfolding read_of sound_of
taken f h e =
    let tests : List (Bool × Refusal) = (not (sound_of f), refusal.BadFrame) ∷ header_tests f in
    let v = passed (verdict tests) (header_at (type_of (type_at f)) f) h e in
    let c = clear tests v.0 in
    let a = and_parts (leb 9 (length f) && eqb (get16_of f 4 + 9) (length f)) (eqb (check_of f) 0) (not-false (sound_of f) c.0) in
    let b = and_parts (leb 9 (length f)) (eqb (get16_of f 4 + 9) (length f)) a.0 in (
      record {
        long = leb-true 9 (length f) b.0;
        size = eqb-true (get16_of f 4 + 9) (length f) b.1;
        check = eqb-true (check_of f) 0 a.1;
        known = leb-false 4 (type_at f) c.1.0;
        plain = eqb-true (user_at f) 0 (not-false _ c.1.1.0);
        fits = not-false _ c.1.1.1.0;
        numbered = not-false _ c.1.1.1.1.0;
      },
      v.1,
    )

-- a sound frame reads whole as its second half does
pub whole_read : (f : List ℕ) (h : Header) → sound_of f ≡ true → header_of f ≡ Ok h → read_of f ≡ Ok h
unfolding header_of read_of
whole_read f h s e = rw s e

-- ---- the bytes that the writer makes

-- the header that says what the writer was given
abbrev pub header_for : Fields → ℕ → Header
header_for d n =
    record {
      destination = d.destination;
      protocol = d.protocol;
      source = d.source;
      kind = type_of d.kind;
      channel = d.channel;
      seq = d.seq;
      length = n;
    }

module _ (d : Fields) (p : List ℕ) where
  pub payload_frame : payload_of (frame_bytes d p) ≡ p
  unfolding payload_of frame_bytes body_bytes head_bytes be16
  payload_frame =
      let e : length (frame_bytes d p) - 9 ≡ length p = omega (arith, length_frame d p) in
      rw e (take_at p (check_of (body_bytes d p) ∷ []) (length p) refl)

  module _ (known : d.kind < 4) (plain : d.user ≡ 0) (numbered : seq_writes (type_of d.kind) d.seq.0 ≡ true) (fits : suits (type_of d.kind) (length p) ≡ true) where
    mark_frame : get_or (frame_bytes d p) 3 0 ≡ d.kind
    unfolding frame_bytes body_bytes head_bytes be16
    mark_frame = omega arith

    pub size_frame : get16_of (frame_bytes d p) 4 ≡ length p
    unfolding get16_of frame_bytes body_bytes head_bytes be16
    size_frame = omega (arith, suits_le (type_of d.kind) (length p) fits)

    seq_frame : get_or (frame_bytes d p) 7 0 ≡ d.seq.0
    unfolding frame_bytes body_bytes head_bytes be16
    seq_frame = refl

    sound_frame : sound_of (frame_bytes d p) ≡ true
    unfolding sound_of frame_bytes
    sound_frame =
        let n : length (frame_bytes d p) ≡ length p + 9 = length_frame d p in
        let long : 9 ≤ length (frame_bytes d p) = omega arith in
        let size : get16_of (frame_bytes d p) 4 + 9 ≡ length (frame_bytes d p) = omega (arith, size_frame) in
        rw (le-leb 9 (length (frame_bytes d p)) long, eq-eqb _ _ size, own_check (body_bytes d p))

    kind_frame : type_at (frame_bytes d p) ≡ d.kind
    kind_frame = rw mark_frame (omega arith)

    user_frame : user_at (frame_bytes d p) ≡ 0
    user_frame = rw mark_frame (omega arith)

    pass_frame : verdict ((not (sound_of (frame_bytes d p)), refusal.BadFrame) ∷ header_tests (frame_bytes d p)) ≡ Ok tt
    pass_frame =
        rw (
          sound_frame,
          kind_frame,
          lt-leb 4 d.kind known,
          user_frame,
          size_frame,
          fits,
          seq_frame,
          writes_reads (type_of d.kind) d.seq.0 numbered,
        )

    header_frame : header_at (type_of d.kind) (frame_bytes d p) ≡ header_for d (length p)
    unfolding frame_bytes body_bytes head_bytes be16
    header_frame = rw (size_frame, writes_given (type_of d.kind) d.seq.0 numbered)

    pub read_frame : read_of (frame_bytes d p) ≡ Ok (header_for d (length p))
    unfolding read_of
    read_frame = rw (pass_frame, kind_frame) (ap Ok header_frame)

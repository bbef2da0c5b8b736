-- Laws of a frame's bytes: their lengths, and how the writer's steps put them into a buffer. Assumes nothing.
use mathlib.Core.Path.{◌≡◌, refl, sym, ◌∙◌}
use mathlib.Core.List.{List, [], ◌∷◌, ◌++◌}
use Prim.Native.Nat.{ℕ, ◌+◌, ◌≤◌}
use native.Mathlib.Nat.{zero-add}
use native.Mathlib.Omega.{arith}
use lib.ListN.{length, take, drop, set, length-append}
use lib.Seq.{sets, sets-eq, set_out, take_at, length-sets}
use Rattle.units.specs.Bytes.{be16}
use Rattle.units.proofs.Runs.{sets_append}
use Rattle.check8.specs.Polynomial.{check_of}
use Rattle.frame.specs.declared.Fields.{Fields}
use Rattle.frame.specs.Layout.{head_bytes, body_bytes, frame_bytes}

-- ---- lengths

pub length_head : (d : Fields) (n : ℕ) → length (head_bytes d n) ≡ 8
unfolding head_bytes be16
length_head d n = refl

pub length_body : (d : Fields) (p : List ℕ) → length (body_bytes d p) ≡ length p + 8
unfolding body_bytes
length_body d p = omega (arith, length-append (head_bytes d (length p)) p, length_head d (length p))

pub length_frame : (d : Fields) (p : List ℕ) → length (frame_bytes d p) ≡ length p + 9
unfolding frame_bytes
length_frame d p = omega (arith, length-append (body_bytes d p) (check_of (body_bytes d p) ∷ []), length_body d p)

-- ---- bytes put from a buffer's start on

-- they stand there, and what comes after them stays
pub put_front : (b bs : List ℕ) → length bs ≤ length b → sets b 0 bs ≡ bs ++ drop (length bs) b
put_front b bs h = rw (sets-eq bs b 0 (rw zero-add h), zero-add)

pub put_body : (d : Fields) (p b : List ℕ) → sets (sets b 0 (head_bytes d (length p))) 8 p ≡ sets b 0 (body_bytes d p)
unfolding body_bytes
put_body d p b = rw (sets_append (head_bytes d (length p)) p b 0, length_head)

pub put_check : (d : Fields) (p b : List ℕ) → set (sets b 0 (body_bytes d p)) (length p + 8) (check_of (body_bytes d p)) ≡ sets b 0 (frame_bytes d p)
unfolding frame_bytes
put_check d p b = rw (sets_append (body_bytes d p) (check_of (body_bytes d p) ∷ []) b 0, zero-add, length_body)

pub body_front : (d : Fields) (p b : List ℕ) → length p + 8 ≤ length b → take (length p + 8) (sets b 0 (body_bytes d p)) ≡ body_bytes d p
body_front d p b h =
    rw (put_front b (body_bytes d p) (rw (length_body d p) h)) (take_at (body_bytes d p) (drop (length (body_bytes d p)) b) (length p + 8) (length_body d p))

-- a check byte past the end is not stored
pub check_out : (d : Fields) (p b : List ℕ) → length b ≤ length p + 8 → sets b 0 (body_bytes d p) ≡ sets b 0 (frame_bytes d p)
check_out d p b h = sym (set_out (sets b 0 (body_bytes d p)) (length p + 8) (check_of (body_bytes d p)) (rw length-sets h)) ∙ put_check d p b

pub frame_front : (d : Fields) (p b : List ℕ) → length p + 9 ≤ length b → sets b 0 (frame_bytes d p) ≡ frame_bytes d p ++ drop (length p + 9) b
frame_front d p b h = put_front b (frame_bytes d p) (rw (length_frame d p) h) ∙ rw (length_frame d p)

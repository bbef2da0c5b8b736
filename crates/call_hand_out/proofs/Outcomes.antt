-- A frame against the buffer that it is to go into. Assumes nothing.
use Rattle.std.proofs.Common.{◌≡◌, ℕ, ◌+◌, ◌<◌, ◌≤◌, List, length, le-ltb, lt-ltb, Ok, Err}
use Rattle.units.specs.declared.refusals.Refusal.TheVariants as refusal
use Rattle.frame.specs.Layout.{frame_bytes}
use Rattle.frame.specs.declared.Fields.{Fields}
use Rattle.frame.proofs.WriteLaws.{length_frame}
use Rattle.call_hand_out.specs.Handing.{fitted}

-- a frame is its payload and nine bytes more
pub too_short : (out : List ℕ) (d : Fields) (p : List ℕ) → length out < length p + 9 → Err refusal.TooShort ≡ fitted out (frame_bytes d p)
too_short out d p h = rw (length_frame d p, lt-ltb (length out) (length p + 9) h)

pub long_enough : (out : List ℕ) (d : Fields) (p : List ℕ) → length p + 9 ≤ length out → Ok (length p + 9) ≡ fitted out (frame_bytes d p)
long_enough out d p h = rw (length_frame d p, le-ltb (length out) (length p + 9) h)

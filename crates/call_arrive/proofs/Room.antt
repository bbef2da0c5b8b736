-- How long the payload of a sound frame can be. Assumes nothing.
use Prim.Native.Nat.{ℕ, ◌+◌, ◌<◌}
use mathlib.Core.Path.{◌≡◌}
use mathlib.Core.Bool.{true, ◌&&◌}
use mathlib.Core.List.{List}
use native.Mathlib.Omega.{arith}
use lib.Dec.{eqb, leb}
use lib.ListN.{length, get_or}
use borrow.Author.Tests.{eqb-true}
use Rattle.std.proofs.lemmas.Bool.{and_parts}
use Rattle.units.specs.Bytes.{get16_of}
use Rattle.check8.specs.Polynomial.{check_of}
use Rattle.frame.specs.Layout.{payload_of}
use Rattle.frame.specs.Reading.{sound_of}
use Rattle.frame.proofs.Parts.{length_payload}

-- the length field has 16 bits
pub sound_short : (f : List ℕ) → ((k : ℕ) → get_or f k 0 < 256) → sound_of f ≡ true → length (payload_of f) < 65536
unfolding sound_of get16_of
sound_short f small e =
    let a = and_parts (leb 9 (length f) && eqb (get16_of f 4 + 9) (length f)) (eqb (check_of f) 0) e in
    let b = and_parts (leb 9 (length f)) (eqb (get16_of f 4 + 9) (length f)) a.0 in
    omega (arith, eqb-true (get16_of f 4 + 9) (length f) b.1, length_payload f, small 4, small 5)

-- A frame's bytes taken apart: eight header bytes, the payload, the check byte; and that each is a byte. Assumes nothing.
use mathlib.Core.Path.{◌≡◌, sym, ◌∙◌}
use mathlib.Core.Bool.{Bool, true, false, ◌&&◌}
use mathlib.Core.List.{List, [], ◌∷◌, ◌++◌}
use Prim.Native.Nat.{ℕ, zero, suc, ◌+◌, ◌-◌, ◌≤◌, ◌<◌}
use native.Mathlib.Omega.{arith}
use lib.Dec.{T, ltb, ltb→lt}
use lib.ListN.{length, get_or, drop, length-take, length-drop}
use lib.Seq.{drop-cons, take-suc, take_all, get_or-drop}
use lib.Pow.{are_bytes}
use Rattle.check8.proofs.Bytes.{T-left, T-right}
use Rattle.frame.specs.Layout.{payload_of}

-- ---- bytes

pub byte : (f : List ℕ) (k : ℕ) → T (are_bytes f) → get_or f k 0 < 256
byte [] k t = omega arith
byte (a ∷ f) zero t = ltb→lt a 256 (T-left (ltb a 256) (are_bytes f) t)
byte (a ∷ f) (suc k) t = byte f k (T-right (ltb a 256) (are_bytes f) t)

both : (a b : Bool) → T a → T b → T (a && b)
both true b x y = y
both false b x y = x

pub bytes_before : (xs ys : List ℕ) → T (are_bytes (xs ++ ys)) → T (are_bytes xs)
bytes_before [] ys t = tt
bytes_before (x ∷ xs) ys t =
    both (ltb x 256) (are_bytes xs) (T-left (ltb x 256) (are_bytes (xs ++ ys)) t) (bytes_before xs ys (T-right (ltb x 256) (are_bytes (xs ++ ys)) t))

-- ---- parts

pub length_payload : (f : List ℕ) → length (payload_of f) ≡ length f - 9
unfolding payload_of
length_payload f = rw (length-take, length-drop) (omega arith)

-- the check byte, of a frame of 9 bytes or more
abbrev pub last : List ℕ → ℕ
last f = get_or (drop 8 f) (length f - 9) 0

pub last_byte : (f : List ℕ) → T (are_bytes f) → last f < 256
last_byte f t = rw (get_or-drop 8 f (length f - 9) 0) (byte f (8 + (length f - 9)) t)

module _ (f : List ℕ) (long : 9 ≤ length f) where
  pub after_head : drop 8 f ≡ payload_of f ++ last f ∷ []
  unfolding payload_of
  after_head =
      let m = length f - 9 in
      let n : length (drop 8 f) ≡ m + 1 = length-drop 8 f ∙ omega arith in
      sym (take_all (suc m) (drop 8 f) (omega arith)) ∙ take-suc (drop 8 f) m 0 (omega arith)

  pub parts : f ≡ get_or f 0 0 ∷ get_or f 1 0 ∷ get_or f 2 0 ∷ get_or f 3 0 ∷ get_or f 4 0 ∷ get_or f 5 0 ∷ get_or f 6 0 ∷ get_or f 7 0 ∷ (payload_of f ++ last f ∷ [])
  parts =
      cc (
        after_head,
        drop-cons f 0 0 (omega arith),
        drop-cons f 1 0 (omega arith),
        drop-cons f 2 0 (omega arith),
        drop-cons f 3 0 (omega arith),
        drop-cons f 4 0 (omega arith),
        drop-cons f 5 0 (omega arith),
        drop-cons f 6 0 (omega arith),
        drop-cons f 7 0 (omega arith),
      )

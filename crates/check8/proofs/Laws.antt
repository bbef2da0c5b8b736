-- Laws of the check byte: a byte more, lists end to end, and that exactly its own check byte after a list brings 0. Assumes nothing.
use mathlib.Core.Path.{◌≡◌, refl, sym, ap, ◌∙◌}
use mathlib.Core.Bool.{Bool, true, false, ◌&&◌, ◌||◌, not}
use mathlib.Core.List.{List, [], ◌∷◌, ◌++◌}
use Prim.Native.Nat.{ℕ, zero, suc, ◌+◌, ◌<◌, ◌≤◌}
use native.Mathlib.Numerals.{add-one}
use native.Mathlib.Omega.{arith}
use borrow.Author.Tests.{eqb-true}
use lib.Dec.{T, eqb, ltb, ltb→lt}
use lib.ListN.{length, drop, get_or, drop_of_length-le}
use lib.Seq.{drop-cons}
use lib.Pow.{are_bytes}
use lib.Bits.{bit_xor, xor_self, xor_lt, xor_add_and, and_le_l, and_le_r}
use Rattle.check8.specs.Polynomial.{times_x, times_xs, step_byte, check_from, check_of}
use Rattle.check8.specs.Laws.{OwnCheck, OnlyCheck}
use Rattle.check8.proofs.Bytes.{at, T-left, T-right}

-- ---- a list of bytes, taken byte by byte and end to end

pub one_more : (bs : List ℕ) (c i : ℕ) → i < length bs → check_from (step_byte c (get_or bs i 0)) (drop (i + 1) bs) ≡ check_from c (drop i bs)
unfolding check_from
one_more bs c i h = rw (add-one, drop-cons bs i 0 h)

pub at_end : (bs : List ℕ) (c i : ℕ) → length bs ≤ i → check_from c (drop i bs) ≡ c
unfolding check_from
at_end bs c i h = rw (drop_of_length-le bs h)

pub check_append : (c : ℕ) (xs ys : List ℕ) → check_from c (xs ++ ys) ≡ check_from (check_from c xs) ys
unfolding check_from
check_append c [] ys = refl
check_append c (x ∷ xs) ys = check_append (step_byte c x) xs ys

-- ---- times x stays a byte, and is 0 of 0 alone

facts : ℕ → Bool
unfolding times_x
facts r = ltb (times_x r) 256 && (eqb r 0 || not (eqb (times_x r) 0))

known : (r : ℕ) → r < 256 → T (facts r)
unfolding facts times_x
known = at facts 256 tt

pub times_x_lt : (r : ℕ) → r < 256 → times_x r < 256
unfolding facts
times_x_lt r h = ltb→lt (times_x r) 256 (T-left (ltb (times_x r) 256) (eqb r 0 || not (eqb (times_x r) 0)) (known r h))

times_x_zero : (r : ℕ) → r < 256 → times_x r ≡ 0 → r ≡ 0
unfolding facts
times_x_zero r h e = go (eqb r 0) refl (times_x r) e (T-right (ltb (times_x r) 256) (eqb r 0 || not (eqb (times_x r) 0)) (known r h))
  where
    go : (b : Bool) → eqb r 0 ≡ b → (x : ℕ) → x ≡ 0 → T (b || not (eqb x 0)) → r ≡ 0
    go true p x z t = eqb-true r 0 p
    go false p x z t = absurd (rw z at t)

pub times_xs_lt : (n r : ℕ) → r < 256 → times_xs n r < 256
unfolding times_xs
times_xs_lt zero r h = h
times_xs_lt (suc n) r h = times_x_lt (times_xs n r) (times_xs_lt n r h)

pub times_xs_zero : (n r : ℕ) → r < 256 → times_xs n r ≡ 0 → r ≡ 0
unfolding times_xs
times_xs_zero zero r h e = e
times_xs_zero (suc n) r h e = times_xs_zero n r h (times_x_zero (times_xs n r) (times_xs_lt n r h) e)

zeros : (n : ℕ) → times_xs n 0 ≡ 0
unfolding times_xs times_x
zeros zero = refl
zeros (suc n) = rw (zeros n)

pub check_lt : (c : ℕ) (bs : List ℕ) → c < 256 → T (are_bytes bs) → check_from c bs < 256
unfolding check_from step_byte
check_lt c [] h t = h
check_lt c (b ∷ bs) h t =
    let byte : b < 256 = ltb→lt b 256 (T-left (ltb b 256) (are_bytes bs) t) in
    check_lt (step_byte c b) bs (times_xs_lt 8 (bit_xor c b) (xor_lt 8 c b h byte)) (T-right (ltb b 256) (are_bytes bs) t)

-- ---- after a list its own check byte brings 0, and no other byte does

pub own_check : OwnCheck
unfolding check_from step_byte
own_check bs = check_append 255 bs (check_of bs ∷ []) ∙ ap (times_xs 8) (xor_self (check_of bs)) ∙ zeros 8

xor_zero : (a b : ℕ) → bit_xor a b ≡ 0 → a ≡ b
xor_zero a b e = omega (arith, xor_add_and a b, and_le_l a b, and_le_r a b)

pub only_check : OnlyCheck
unfolding check_from step_byte
only_check bs x t h e =
    let c = check_lt 255 bs (omega arith) t in
    sym (xor_zero (check_of bs) x (times_xs_zero 8 _ (xor_lt 8 (check_of bs) x c h) (sym (check_append 255 bs (x ∷ [])) ∙ e)))

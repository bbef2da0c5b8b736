-- Handing out keeps a good node good, whichever sort goes out (proofs/Handed.antt says what is told of each). Assumes nothing.
use Prim.Native.Nat.{ℕ}
use mathlib.Core.Path.{◌≡◌, refl, sym, subst}
use mathlib.Core.Logic.{◌⊎◌, inl, inr}
use mathlib.Core.Bool.{Bool, true, false}
use mathlib.Core.List.{List}
use native.Mathlib.Omega.{arith}
use lib.ListN.{length}
use lib.Dec.{eqb, ltb}
use borrow.Author.Tests.{eqb-true}
use Rattle.units.specs.declared.refusals.Refusal.{Refusal}
use Rattle.units.specs.declared.refusals.Refusal.TheVariants as refusal
use Rattle.memory.specs.Layout.{resets, urgents, resends, datas}
use Rattle.waiting.specs.declared.acks.Ack.{Ack}
use Rattle.waiting.specs.Port.{under_in}
use Rattle.end_points.specs.Heads.{need_in}
use Rattle.end_points.specs.Lent.{Lent}
use Rattle.call_hand_out.specs.declared.Next.{Next}
use Rattle.call_hand_out.specs.declared.Next.TheVariants as next
use Rattle.call_hand_out.specs.Handing.{next_out, frame_out, hand_out_answer, handed_out, hand_out_after}
use Rattle.good.specs.Good.{Lists, Good}
use Rattle.good.proofs.Handed.{Went, HandKept, refused}
use Rattle.good.proofs.HandFirst.{Says, next_says, first_of, first_in}
use Rattle.good.proofs.HandSorts.{hand_nothing, hand_ack, hand_reset, hand_urgent}
use Rattle.good.proofs.HandSlots.{hand_resend, hand_data}
use Rattle.std.specs.Prelude.{Ok, Err}

-- ---- by sort

module _ (t : List ℕ) (x : Lent) (l : Lists) (G : Good t x.node x.book l) where
  hand_next : (n : Next) → Says x.node x.book n → Went x (handed_out x n) n → HandKept t x (handed_out x n) l
  hand_next next.Nothing s W = hand_nothing t x l G W.none W
  hand_next (next.Ack a) s W =
      subst (λ (z : Ack). Went x (handed_out x (next.Ack z)) (next.Ack z) → HandKept t x (handed_out x (next.Ack z)) l) (sym s.0) (λ went. hand_ack t x l G went.none s.1 went) W
  hand_next (next.Reset n) s W = hand_reset t x l G W.none n (first_in n (l resets) (first_of x.book l G.lines resets (omega arith) n s.0 s.1)) W
  hand_next (next.Urgent n) s W = hand_urgent t x l G W.none n (first_in n (l urgents) (first_of x.book l G.lines urgents (omega arith) n s.0 s.1)) W
  hand_next (next.Resend n) s W = hand_resend t x l G W.none n (first_in n (l resends) (first_of x.book l G.lines resends (omega arith) n s.0 s.1)) W
  hand_next (next.Data n) s W = hand_data t x l G W.none n (first_of x.book l G.lines datas (omega arith) n s.0 s.1) W

  hand_refused : (w : Refusal) → hand_out_answer x ≡ Err w → HandKept t x x l
  hand_refused w e = record { lists = l; good = G; store = refl; lengths = λ c h. refl; what = refused w e refl }

-- ---- the call

-- a frame of its length, with none under way before
record Goes (x : Lent) : Type 0 where
  none : under_in x.book ≡ 0
  answer : hand_out_answer x ≡ Ok (length (frame_out x (next_out x.node x.book)))

-- refused, or that
hand_answer : (x : Lent) → ((w : Refusal) × (hand_out_answer x ≡ Err w)) ⊎ Goes x
unfolding hand_out_answer
hand_answer x = sides (eqb (under_in x.book) 0) (ltb (length x.store) (need_in x.node)) (ltb (length x.out) (length (frame_out x (next_out x.node x.book)))) refl refl refl
  where
    sides : (u y z : Bool) → eqb (under_in x.book) 0 ≡ u → ltb (length x.store) (need_in x.node) ≡ y
        → ltb (length x.out) (length (frame_out x (next_out x.node x.book))) ≡ z → ((w : Refusal) × (hand_out_answer x ≡ Err w)) ⊎ Goes x
    sides false y z e p q = inl (refusal.UnderWay, rw e)
    sides true true z e p q = inl (refusal.TooShort, rw (e, p))
    sides true false true e p q = inl (refusal.TooShort, rw (e, p, q))
    sides true false false e p q = inr (record { none = eqb-true (under_in x.book) 0 e; answer = rw (e, p, q) })

after_refused : (x : Lent) (w : Refusal) → hand_out_answer x ≡ Err w → hand_out_after x (hand_out_answer x) ≡ x
unfolding hand_out_after
after_refused x w e = rw e

after_length : (x : Lent) (n : ℕ) → hand_out_answer x ≡ Ok n → hand_out_after x (hand_out_answer x) ≡ handed_out x (next_out x.node x.book)
unfolding hand_out_after
after_length x n e = rw e

pub hand_keeps : (t : List ℕ) (x : Lent) (l : Lists) → Good t x.node x.book l → HandKept t x (hand_out_after x (hand_out_answer x)) l
hand_keeps t x l g = sides (hand_answer x)
  where
    sides : ((w : Refusal) × (hand_out_answer x ≡ Err w)) ⊎ Goes x → HandKept t x (hand_out_after x (hand_out_answer x)) l
    sides (inl e) = subst (λ (z : Lent). HandKept t x z l) (sym (after_refused x e.0 e.1)) (hand_refused t x l g e.0 e.1)
    sides (inr e) =
        let n = next_out x.node x.book in
        subst (λ (z : Lent). HandKept t x z l) (sym (after_length x (length (frame_out x n)) e.answer))
        (hand_next t x l g n (next_says x.node x.book) (record { none = e.none; sort = refl; answer = e.answer; after = refl }))

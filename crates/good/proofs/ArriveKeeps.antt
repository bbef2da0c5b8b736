-- An arrival keeps a good node good: refused, nothing alters; else it is the business of the entry that takes it in. Assumes nothing.
use Prim.Native.Nat.{ℕ, ◌≤◌, ◌<◌}
use mathlib.Core.Path.{◌≡◌, refl, sym, subst}
use mathlib.Core.Bool.{true}
use mathlib.Core.List.{List}
use lib.ListN.{length, get_or}
use Rattle.frame.specs.Layout.{payload_of}
use Rattle.frame.specs.declared.FrameType.{FrameType}
use Rattle.frame.specs.declared.FrameType.TheVariants as type
use Rattle.waiting.specs.Acks.{waiting_of}
use Rattle.end_points.specs.Ends.{end_of}
use Rattle.end_points.specs.Heads.{count_in}
use Rattle.end_points.specs.States.{is_sends}
use Rattle.end_points.specs.Lent.{Lent}
use Rattle.end_points.specs.declared.State.TheVariants.{Open}
use Rattle.arrive_data.specs.Receiving.{urgent_after}
use Rattle.frame.specs.Types.{for_sender, carries, answered}
use Rattle.call_arrive.specs.Arriving.{taken_in_after, arrival_after}
use Rattle.good.specs.Good.{Lists, Good}
use Rattle.good.proofs.Framing.{apart_same, within_same}
use Rattle.good.proofs.Turns.{Kept}
use Rattle.good.proofs.Arrivals.{Taken, taken_kind}
use Rattle.good.proofs.AckKeeps.{ack_keeps}
use Rattle.good.proofs.ReceiveKeeps.{reset_keeps, data_keeps}

module _ (t : List ℕ) (x : Lent) (l : Lists) (g : Good t x.node x.book l) (i : ℕ) (li : i < count_in x.node) (s : ℕ) (byte : s < 256) (p : List ℕ) where
  -- a frame of each type
  taken_keeps : (q : FrameType) → is_sends (end_of x.node i).entry.kind ≡ for_sender q
      → (carries q ≡ true → (end_of x.node i).state ≡ Open) → (carries q ≡ true → length p ≤ (end_of x.node i).entry.largest) → (carries q ≡ true → 1 ≤ length p)
      → (answered q ≡ true → waiting_of x.node < 32) → Kept t x (taken_in_after x i (end_of x.node i) q s p) l i
  unfolding taken_in_after urgent_after
  taken_keeps type.Data k o m n w = data_keeps t x l g i li k (o refl) s byte p (n refl) (m refl) (w refl)
  taken_keeps type.Acknowledge k o m n w = ack_keeps t x l i s g li k byte
  taken_keeps type.Reset k o m n w = reset_keeps t x l g i li k (w refl)
  taken_keeps type.Urgent k o m n w = record { lists = l; good = g; apart = apart_same i x.node; within = within_same i x.book l g.lines; under = refl }

pub arrive_keeps : (t : List ℕ) (x : Lent) (l : Lists) (f : List ℕ) → Good t x.node x.book l → ((k : ℕ) → get_or f k 0 < 256) → (a : Taken x f)
    → Kept t x (arrival_after x f) l a.entry
arrive_keeps t x l f g b a =
    subst (λ (y : Lent). Kept t x y l a.entry) (sym a.after)
    (taken_keeps t x l g a.entry a.known a.header.seq.0 (a.byte b) (payload_of f) a.header.kind (taken_kind x f a)
    a.opened a.short a.some a.room)

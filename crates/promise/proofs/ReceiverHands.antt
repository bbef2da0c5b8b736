-- Handing out at the receiver's machine: the entry's oldest acknowledgement goes; all else is nothing for it. Assumes
-- nothing.
use Prim.Native.Nat.{ℕ}
use mathlib.Core.Path.{◌≡◌, refl, sym, ap, ◌∙◌}
use mathlib.Core.Bool.{true, false, true≢false}
use mathlib.Core.Option.{some}
use mathlib.Core.List.{List, ◌∷◌}
use lib.ListN.{drop, get_elem?}
use borrow.Author.Tests.{eq-eqb}
use Rattle.table.specs.Layout.{entry_of}
use Rattle.end_points.specs.States.{is_sends}
use Rattle.machine.specs.Calls.{hands_out}
use Rattle.machine.specs.Machine.{End, Item, Sort, acks, resets, urgents, resends, datas, Machine, type_of, step}
use Rattle.machine.specs.Sound.{Sound}
use Rattle.promise.specs.History.{r_quiet, r_acks}
use Rattle.promise.specs.Seen.{r_went}
use Rattle.promise.specs.Link.{owed_to}
use Rattle.promise.proofs.Laws.{RNext, rn_ack}
use Rattle.promise.proofs.Watched.{Watch, owed}
use Rattle.promise.proofs.Handing.{Went, leaving, header_out, same, unseen, named, by_sort}
use Rattle.promise.proofs.ReceiverView.{recv_of}
use Rattle.promise.proofs.ReceiverCalls.{r_watch, RStep}

module _ (t : List ℕ) (m : Machine) (S : Sound t m) (j : ℕ) (e : End) (there : get_elem? m.ends j ≡ some e)
    (receives : is_sends e.entry.kind ≡ false) (buffer : List ℕ) where
  abbrev K : Watch
  K = r_watch t j

  -- what is a sender's is not of this one
  sender_out : (q : Sort) (w : Went m buffer q) → is_sends w.owned.end.entry.kind ≡ true
      → r_went (entry_of t j) (header_out m q w.owned.end w.item.number) (type_of q) ≡ r_quiet
      → RStep t m j e (hands_out buffer) (leaving m buffer q w)
  sender_out q w h z =
      unseen K t m S j e there buffer q w z
      (λ c. absurd (true≢false
      (sym h ∙ ap (λ (y : End). is_sends y.entry.kind) (same K t m S j e there buffer q w c) ∙ receives)))

  -- the oldest goes
  ack_next : (w : Went m buffer acks) → j ≡ w.item.entry
      → RNext (entry_of t j).window (recv_of w.owned.end (owed j m)) (r_acks w.item.number)
      (recv_of w.owned.end (owed j (leaving m buffer acks w).machine))
  ack_next w c =
      let left : owed j (leaving m buffer acks w).machine ≡ owed_to j w.rest =
      ap (λ (l : List Item). owed_to j (drop 1 l)) w.next.first in
      let waited : owed j m ≡ w.item.number ∷ owed_to j w.rest =
      ap (owed_to j) w.next.first ∙ rw (eq-eqb w.item.entry j (sym c)) in
      rw left (rn_ack (recv_of w.owned.end (owed j m)) w.item.number (owed_to j w.rest) waited)

  out : (q : Sort) (w : Went m buffer q) → RStep t m j e (hands_out buffer) (leaving m buffer q w)
  out acks w =
      named K t m S j e there buffer acks w (r_acks w.item.number) (receives ∙ sym w.owned.waits.receives) refl
      (ack_next w)
  out resets w = sender_out resets w w.owned.waits.sends refl
  out urgents w = sender_out urgents w w.owned.waits.sends refl
  out resends w = sender_out resends w w.owned.waits.sends refl
  out datas w = sender_out datas w w.owned.waits.sends refl

  pub r_hands : RStep t m j e (hands_out buffer) (step m (hands_out buffer))
  r_hands = by_sort K t m S j e there buffer out

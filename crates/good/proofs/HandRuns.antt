-- An open sender of which something goes out: its Urgent, a retransmission, or the first number not handed out yet. What it sends
-- and what of it waits is then as a good node has it. Assumes nothing.
use Prim.Native.Nat.{ℕ, zero, suc, ◌-◌, ◌≤◌, ◌<◌}
use mathlib.Core.Path.{◌≡◌, refl, sym, ap, subst, ◌∙◌}
use mathlib.Core.Logic.{◌≢◌}
use mathlib.Core.Bool.{Bool, true, false, true≢false}
use mathlib.Core.List.Memᴰ
use mathlib.Core.List.{List, [], ◌∷◌, Memᴰ}
use native.Mathlib.Omega.{arith}
use lib.Dec.{eqb}
use borrow.Author.Tests.{eqb-false, eq-eqb}
use Rattle.units.specs.Refusals.{pick}
use Rattle.memory.specs.Layout.{resends, urgent_id}
use Rattle.waiting.specs.Order.{Out}
use Rattle.window.specs.Windows.{held, Good as GoodWindow}
use Rattle.window.specs.declared.Window.{Window}
use Rattle.window.proofs.Holding.{held_below_holds}
use Rattle.window.proofs.Sizes.{size_le}
use Rattle.end_points.specs.declared.Run.{Run}
use Rattle.slots.specs.Slots.{slot_for, cell, past, number_in, timer_in}
use Rattle.memory.specs.Layout.{id_cell, id_slot}
use Rattle.memory.specs.Layout.{owner_of}
use Rattle.good.specs.Good.{Lists, Lines, mine, id_at, ids, Resend, Resends, Sending}
use Rattle.good.proofs.Members.{without, without_out}
use Rattle.good.proofs.Lined.{less}
use Rattle.good.proofs.Framing.{slot_lt}
use Rattle.good.proofs.Offsets.{id_inj, number_at}
use Rattle.good.proofs.Senders.{sending_kept, Timed, gone_other}

-- a run with h numbers handed out
abbrev pub with_handed : Run → ℕ → Run
with_handed r h = record { window = r.window; taken = r.taken; handed = h; accepted = r.accepted; confirmed = r.confirmed; urgent = r.urgent }

-- ---- what it sends

pub handed_sending : (b : List ℕ) (i : ℕ) (r : Run) (largest h : ℕ) → r.handed ≤ h → h ≤ r.taken → Sending b i r largest → Sending b i (with_handed r h) largest
handed_sending b i r largest h less more s =
    record {
      taken = s.taken;
      handed = more;
      acked = λ k e. omega (arith, s.acked k e);
      first = s.first;
      counted = s.counted;
      filled = s.filled;
      stopped = s.stopped;
      urgent = s.urgent;
    }

-- ---- the number k past the start goes out: its timer starts

module _ (b b' : List ℕ) (i : ℕ) (low : i < 16) (r : Run) (g : GoodWindow r.window) (k v : ℕ) (starts : 1 ≤ v) (fit : k < r.window.size)
    (missing : held r.window k ≡ false) (T : Timed b b' i r.window k v) where
  not_held : (j : ℕ) → held r.window j ≡ true → j ≢ k
  not_held j h e = true≢false (sym h ∙ ap (held r.window) e ∙ missing)

  pub timed_sending : (largest : ℕ) → Sending b i r largest → Sending b' i r largest
  timed_sending largest s =
      sending_kept b b' i low r g largest T.lengths (λ j h. T.there j (held_below_holds r.window g j h) (not_held j h)) s

  -- no retransmission of it waits then, and the others wait as they did
  module _ (h : ℕ) (more : r.handed ≤ h) (only : (j : ℕ) → j < h → j ≢ k → j < r.handed) (wide : h ≤ r.window.size)
      (l l' : Lists) (R : Resends b l i r)
      (gone : (x : ℕ) → Memᴰ x (mine i (l' resends)) → Memᴰ x (mine i (l resends)) × (x ≢ id_at i r.window k))
      (kept : (x : ℕ) → Memᴰ x (mine i (l resends)) → x ≢ id_at i r.window k → Memᴰ x (mine i (l' resends))) where
    timed_each : (x : ℕ) → Memᴰ x (mine i (l' resends)) → Resend b' i (with_handed r h) x
    timed_each x m =
        let p = gone x m in
        let q = R.each x p.0 in
        let other : q.at ≢ k = λ e. p.1 (q.is ∙ ap (id_at i r.window) e) in
        record {
          at = q.at;
          handed = omega (arith, q.handed);
          missing = q.missing;
          idle = T.there q.at (omega (arith, q.handed)) other ∙ q.idle;
          is = q.is;
        }

    timed_all : (x : ℕ) → Resend b' i (with_handed r h) x → Memᴰ x (mine i (l' resends))
    timed_all x q =
        let idle = q.idle in
        let other : q.at ≢ k = λ e.
        (let z : v ≡ 0 = sym T.here ∙ ap (λ (j : ℕ). timer_in b' (cell i r.window (past r.window j))) (sym e) ∙ idle in omega arith) in
        let size : q.at < r.window.size = omega (arith, q.handed) in
        kept x
        (R.all x
        (record {
          at = q.at;
          handed = only q.at q.handed other;
          missing = q.missing;
          idle = sym (T.there q.at size other) ∙ idle;
          is = q.is;
        }))
        (λ e. other (id_inj r.window g i q.at k size fit (sym q.is ∙ e)))

    pub timed_resends : Resends b' l' i (with_handed r h)
    timed_resends = record { each = timed_each; all = timed_all }

-- ---- its Urgent goes out

-- it waited, and no other Urgent of the entry
pub urgent_waited : (i u n : ℕ) (xs : List ℕ) → xs ≡ pick (eqb u 0) [] (urgent_id i ∷ []) → Memᴰ n xs → (u ≢ 0) × (xs ≡ urgent_id i ∷ [])
urgent_waited i u n xs e m = sides (eqb u 0) refl e
  where
    sides : (z : Bool) → eqb u 0 ≡ z → xs ≡ pick z [] (urgent_id i ∷ []) → (u ≢ 0) × (xs ≡ urgent_id i ∷ [])
    sides true q h = absurd (Memᴰ.not-nil (subst (λ (ys : List ℕ). Memᴰ n ys) h m))
    sides false q h = (eqb-false u 0 q, h)

-- ---- of one that is gone from another queue

module _ (b : List ℕ) (l : Lists) (L : Lines b l) (i n q : ℕ) (hq : q < 4) (m : Memᴰ n (l q)) where
  pub share_kept : (r : ℕ) → r < 4 → r ≢ q → (xs : List ℕ) → mine i (l r) ≡ xs → mine i (less l n r) ≡ xs
  share_kept r hr d xs e = ap (mine i) (gone_other b l L q n hq m r hr d) ∙ e

-- a share's first
pub share_first : (i n : ℕ) (xs rest : List ℕ) → xs ≡ n ∷ rest → owner_of n ≡ i → mine i xs ≡ n ∷ mine i rest
share_first i n xs rest e o = ap (mine i) e ∙ rw (eq-eqb (owner_of n) i o)

-- and its rest, once the first is gone
pub share_rest : (i n : ℕ) (xs rest : List ℕ) → xs ≡ n ∷ rest → Out n rest → mine i (without n xs) ≡ mine i rest
share_rest i n xs rest e o = ap (λ (ys : List ℕ). mine i (without n ys)) e ∙ rw (eq-eqb n n refl) (ap (mine i) (without_out n rest o))

-- what stands for the number k past the start, as handing out reads it
module _ (i : ℕ) (low : i < 16) (w : Window) (g : GoodWindow w) (n k : ℕ) (is : n ≡ id_at i w k) where
  pub id_cell_holds : id_cell n ≡ cell i w (past w k)
  id_cell_holds = omega arith

  pub id_slot_holds : id_slot n ≡ slot_for w (past w k)
  id_slot_holds = omega (arith, slot_lt w (past w k) g, size_le w.size g.sized)

  pub id_number : k < w.size → number_in w (id_slot n) ≡ past w k
  id_number h = ap (number_in w) id_slot_holds ∙ number_at w g k h

-- what waits of the data: the first is the first number not handed out yet
pub record NextData (i : ℕ) (w : Window) (handed taken n : ℕ) (others : List ℕ) : Type 0 where
  pub more : handed < taken
  pub is : n ≡ id_at i w handed
  pub rest : others ≡ ids i w (suc handed) (taken - suc handed)

pub next_data : (i : ℕ) (w : Window) (handed taken n : ℕ) (rest : List ℕ) → n ∷ rest ≡ ids i w handed (taken - handed) → NextData i w handed taken n rest
unfolding ids
next_data i w handed taken n rest e = sides (taken - handed) refl e
  where
    sides : (d : ℕ) → taken - handed ≡ d → n ∷ rest ≡ ids i w handed d → NextData i w handed taken n rest
    sides zero p e = let z : ◌≡◌ {A = ℕ} 0 1 = cc in absurd (omega arith)
    sides (suc d) p e =
        let q : taken - suc handed ≡ d = omega arith in
        record { more = omega arith; is = cc; rest = rw q (cc) }

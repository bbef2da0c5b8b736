-- A node whose entry has accepted some payloads more than its words say yet, and what the next send makes of it. Assumes
-- nothing.
use Prim.Native.Nat.{ℕ, zero, suc, ◌+◌, ◌-◌, ◌%◌, ◌≤◌, ◌<◌}
use mathlib.Core.Path.{◌≡◌, refl, sym, ap, ◌∙◌}
use mathlib.Core.Logic.{◌≢◌}
use mathlib.Core.List.{List, [], ◌∷◌}
use native.Mathlib.Decide.{dec_lt}
use native.Mathlib.Nat.{add-zero, mod-eq_of_lt}
use native.Mathlib.Omega.{arith}
use lib.ListN.{length, get_or, set, length-set, get_or-eq_default}
use lib.Seq.{get_or-set_same, get_or-set_other, set-set, set_comm}
use borrow.Author.Tests.{lt-leb, ne_eqb}
use Rattle.units.specs.Refusals.{verdict}
use Rattle.units.specs.declared.refusals.Refusal.{Refusal}
use Rattle.memory.specs.Layout.{node_words, entry_at, taken_word, accepted_word}
use Rattle.blocks.specs.Reading.{payload_in, payloads_in}
use Rattle.end_points.specs.Ends.{word, state_of, load_entry, load_run, end_of}
use Rattle.end_points.specs.Heads.{count_in, need_in}
use Rattle.end_points.specs.Lent.{stored}
use Rattle.end_points.specs.declared.State.TheVariants.{Closed, Open}
use Rattle.end_points.specs.declared.EndPoint.{EndPoint}
use Rattle.call_send.specs.Sending.{send_tests, send_answer, send_after, sent_node, laid_book, laid_store}
use Rattle.call_send.proofs.Passing.{may_send}
use Rattle.call_plan.specs.Planning.{InOrder, sent_in_order}
use Rattle.call_plan.specs.Steps.{advanced, accepted_node}
use Rattle.std.specs.Prelude.{Ok, Err}

-- ---- of a block, the payloads from payload j on

pub payloads_from : (s : List ℕ) (k j : ℕ) → j < k → payloads_in s j (k - j) ≡ payload_in s j ∷ payloads_in s (j + 1) (k - (j + 1))
unfolding payloads_in
payloads_from s k j h = let z : k - j ≡ suc (k - (j + 1)) = omega arith in rw z

pub payloads_none : (s : List ℕ) (k j : ℕ) → k ≤ j → payloads_in s j (k - j) ≡ []
unfolding payloads_in
payloads_none s k j h = let z : k - j ≡ 0 = omega arith in rw z

-- ---- the node

-- an end point that has accepted none more
advanced_none : (e : EndPoint) → advanced e 0 ≡ e
advanced_none e = rw (add-zero e.run.taken, add-zero e.run.accepted.0)

module _ (ws : List ℕ) (i : ℕ) (long : length ws ≡ node_words) where
  abbrev e : EndPoint
  e = end_of ws i

  abbrev pub after : ℕ → List ℕ
  after n = accepted_node ws i e.run n

  abbrev two : ℕ → ℕ → List ℕ
  two a b = set (set ws (entry_at i + taken_word) a) (entry_at i + accepted_word) b

  -- beyond the node's words an end point reads as Closed
  inside : e.state ≡ Open → i < 16
  unfolding end_of state_of
  inside h = sides (dec_lt i 16)
    where
      closed : 16 ≤ i → e.state ≡ Closed
      closed l = let z : word ws i 8 ≡ 0 = get_or-eq_default ws 0 {n = entry_at i + 8} (omega arith) in rw z

      sides : Dec (i < 16) → i < 16
      sides (yes l) = l
      sides (no l) = absurd (let q : Closed ≡ Open = sym (closed (omega arith)) ∙ h in let z : ◌≡◌ {A = ℕ} 0 1 = cc in omega arith)

  -- every other word is as it was
  others : (a b k : ℕ) → k ≢ 14 → k ≢ 16 → word (two a b) i k ≡ word ws i k
  others a b k t c =
      get_or-set_other (set ws (entry_at i + 14) a) (entry_at i + 16) (entry_at i + k) b 0 (λ z. c (omega arith))
      ∙ get_or-set_other ws (entry_at i + 14) (entry_at i + k) a 0 (λ z. t (omega arith))

  two_end : (a b : ℕ) → i < 16 → a < 256 → b < 4294967296 → end_of (two a b) i ≡ record {
    entry = e.entry;
    place = e.place;
    state = e.state;
    run = record {
      window = e.run.window;
      taken = a;
      handed = e.run.handed;
      accepted = record { 0 = b };
      confirmed = e.run.confirmed;
      urgent = e.run.urgent;
    };
  }
  unfolding end_of load_entry load_run
  two_end a b low ta tb =
      let o : (k : ℕ) → k ≢ 14 → k ≢ 16 → word (two a b) i k ≡ word ws i k = others a b in
      let kind : get_or (two a b) (entry_at i) 0 ≡ get_or ws (entry_at i) 0 = rw (add-zero (entry_at i)) at (o 0 (λ z. omega arith) (λ z. omega arith)) in
      let t : word (two a b) i 14 ≡ a =
      get_or-set_other (set ws (entry_at i + 14) a) (entry_at i + 16) (entry_at i + 14) b 0 (λ z. omega arith)
      ∙ get_or-set_same ws (entry_at i + 14) a 0 (omega arith) in
      let c : word (two a b) i 16 ≡ b =
      get_or-set_same (set ws (entry_at i + 14) a) (entry_at i + 16) b 0 (omega (arith, length-set ws (entry_at i + 14) a)) in
      rw (
        kind,
        o 1 (λ z. omega arith) (λ z. omega arith),
        o 2 (λ z. omega arith) (λ z. omega arith),
        o 3 (λ z. omega arith) (λ z. omega arith),
        o 4 (λ z. omega arith) (λ z. omega arith),
        o 5 (λ z. omega arith) (λ z. omega arith),
        o 6 (λ z. omega arith) (λ z. omega arith),
        o 7 (λ z. omega arith) (λ z. omega arith),
        o 8 (λ z. omega arith) (λ z. omega arith),
        o 9 (λ z. omega arith) (λ z. omega arith),
        o 10 (λ z. omega arith) (λ z. omega arith),
        o 11 (λ z. omega arith) (λ z. omega arith),
        o 12 (λ z. omega arith) (λ z. omega arith),
        o 13 (λ z. omega arith) (λ z. omega arith),
        t,
        o 15 (λ z. omega arith) (λ z. omega arith),
        c,
        o 17 (λ z. omega arith) (λ z. omega arith),
        o 18 (λ z. omega arith) (λ z. omega arith),
        mod-eq_of_lt ta,
        mod-eq_of_lt tb,
      )

  -- where any were accepted, both words are written
  is_two : (n : ℕ) → after (suc n) ≡ two (e.run.taken + suc n) (e.run.accepted.0 + suc n)
  is_two n = rw (ne_eqb (suc n) 0 (λ z. omega arith))

  -- so the end point is one that has accepted n more; where it has accepted any it is Open
  pub end_after : (n : ℕ) → (0 < n → e.state ≡ Open) → e.run.taken + n < 256 → e.run.accepted.0 + n < 4294967296
      → end_of (after n) i ≡ advanced e n
  end_after zero opened t a = sym (advanced_none e)
  end_after (suc n) opened t a =
      ap (λ (l : List ℕ). end_of l i) (is_two n)
      ∙ two_end (e.run.taken + suc n) (e.run.accepted.0 + suc n) (inside (opened (omega arith))) t a

  -- and the head is as it was
  two_head : (a b k : ℕ) → k < 64 → get_or (two a b) k 0 ≡ get_or ws k 0
  two_head a b k h =
      get_or-set_other (set ws (entry_at i + 14) a) (entry_at i + 16) k b 0 (λ z. omega arith)
      ∙ get_or-set_other ws (entry_at i + 14) k a 0 (λ z. omega arith)

  pub head_after : (n k : ℕ) → k < 64 → get_or (after n) k 0 ≡ get_or ws k 0
  head_after zero k h = refl
  head_after (suc n) k h = ap (λ (l : List ℕ). get_or l k 0) (is_two n) ∙ two_head _ _ k h

  -- written once more
  two_again : (a b c d : ℕ) → set (set (two a b) (entry_at i + taken_word) c) (entry_at i + accepted_word) d ≡ two c d
  two_again a b c d =
      let T : ℕ = entry_at i + 14 in
      let A : ℕ = entry_at i + 16 in
      ap (λ (l : List ℕ). set l A d) (set_comm (set ws T a) A T b c (λ z. omega arith) ∙ ap (λ (l : List ℕ). set l A b) (set-set ws T a c))
      ∙ set-set (set ws T c) A b d

  -- one send more
  pub node_next : (n : ℕ) → sent_node (after n) i (advanced e n).run ≡ after (n + 1)
  node_next zero =
      let t : e.run.taken + 0 + 1 ≡ e.run.taken + 1 = omega arith in
      let a : e.run.accepted.0 + 0 + 1 ≡ e.run.accepted.0 + 1 = omega arith in
      rw (t, a)
  node_next (suc n) =
      let t : e.run.taken + suc n + 1 ≡ e.run.taken + suc (suc n) = omega arith in
      let a : e.run.accepted.0 + suc n + 1 ≡ e.run.accepted.0 + suc (suc n) = omega arith in
      let m : suc n + 1 ≡ suc (suc n) = omega arith in
      ap (λ (l : List ℕ). sent_node l i (advanced e (suc n)).run) (is_two n)
      ∙ two_again _ _ _ _ ∙ rw (t, a, m) (sym (is_two (suc n)))

  -- ---- a send

  module _ (known : i < count_in ws) (n : ℕ) (opened : 0 < n → e.state ≡ Open) (t : e.run.taken + n < 256)
      (a : e.run.accepted.0 + n < 4294967296) (book store p : List ℕ) (ps : List (List ℕ)) where
    answer_is : send_answer (stored (after n) book store) i p ≡ verdict (send_tests (advanced e n) (length p) (length store) (need_in ws))
    unfolding send_answer
    answer_is =
        let count : count_in (after n) ≡ count_in ws = ap (λ (w : ℕ). w % 256) (head_after n 0 (omega arith)) in
        rw (count, lt-leb (count_in ws) i known, end_after n opened t a, head_after n 3 (omega arith))

    -- that goes through
    pub goes_on : verdict (send_tests (advanced e n) (length p) (length store) (need_in ws)) ≡ Ok tt
        → sent_in_order (stored (after n) book store) i n (p ∷ ps)
        ≡ sent_in_order (stored (after (n + 1)) (laid_book book i (advanced e n) (length p)) (laid_store store (advanced e n) p)) i (n + 1) ps
    unfolding sent_in_order send_after
    goes_on v = rw (answer_is, v, end_after n opened t a, node_next n)

    -- that is refused
    pub stops : (w : Refusal) → verdict (send_tests (advanced e n) (length p) (length store) (need_in ws)) ≡ Err w
        → sent_in_order (stored (after n) book store) i n (p ∷ ps)
        ≡ record { accepted = n; stop = Err w; left = stored (after n) book store }
    unfolding sent_in_order send_after
    stops w v = rw (answer_is, v)

-- ---- send after send

-- the first j payloads are laid: what all of them come to is what the others come to, sent by an entry that has accepted
-- j more
pub record Going (ws book₀ store₀ : List ℕ) (i : ℕ) (block : List ℕ) (k : ℕ) (e : EndPoint) (book store : List ℕ) (j : ℕ) : Type 0 where
  pub within : j ≤ k
  pub is : e ≡ end_of ws i
  pub taken : e.run.taken + j < 256
  pub accepted : e.run.accepted.0 + j < 4294967296
  pub opened : 0 < j → e.state ≡ Open
  pub long_book : length book ≡ length book₀
  pub long_store : length store ≡ length store₀
  pub rest : sent_in_order (stored ws book₀ store₀) i 0 (payloads_in block 0 k)
      ≡ sent_in_order (stored (accepted_node ws i (end_of ws i).run j) book store) i j (payloads_in block j (k - j))

module _ (ws : List ℕ) (i : ℕ) (long : length ws ≡ node_words) (known : i < count_in ws)
    {book₀ store₀ block : List ℕ} {k : ℕ} {e : EndPoint} {book store : List ℕ} {j : ℕ}
    (g : Going ws book₀ store₀ i block k e book store j) (less : j < k)
    (p : List ℕ) (read : p ≡ payload_in block j) where
  -- what is left to send
  left_is : {others : InOrder} → sent_in_order (stored (accepted_node ws i (end_of ws i).run j) book store) i j (p ∷ payloads_in block (j + 1) (k - (j + 1))) ≡ others
      → sent_in_order (stored ws book₀ store₀) i 0 (payloads_in block 0 k) ≡ others
  left_is h = g.rest ∙ rw (payloads_from block k j less, ← read) h

  -- the next is accepted
  pub one_more : e.run.window.size < 256 → {book' store' : List ℕ}
      → verdict (send_tests (advanced e j) (length p) (length store) (need_in ws)) ≡ Ok tt
      → length book' ≡ length book → length store' ≡ length store
      → book' ≡ laid_book book i (advanced e j) (length p) → store' ≡ laid_store store (advanced e j) p
      → Going ws book₀ store₀ i block k e book' store' (j + 1)
  one_more narrow v lb ls b s =
      let m = may_send (advanced e j) (length p) (length store) (need_in ws) (Ok tt) (sym v) refl in
      record {
        within = omega arith;
        is = g.is;
        taken = omega (arith, m.room);
        accepted = let n = m.counted in omega (arith, g.accepted, n);
        opened = λ h. m.opened;
        long_book = lb ∙ g.long_book;
        long_store = ls ∙ g.long_store;
        rest =
            left_is
            (goes_on ws i long known j (rw g.is at g.opened) (rw g.is at g.taken) (rw g.is at g.accepted) book store p _ (rw g.is at v)
            ∙ rw (b, s, g.is));
      }

  -- or refused
  pub one_refused : (w : Refusal) → verdict (send_tests (advanced e j) (length p) (length store) (need_in ws)) ≡ Err w
      → sent_in_order (stored ws book₀ store₀) i 0 (payloads_in block 0 k)
      ≡ record { accepted = j; stop = Err w; left = stored (accepted_node ws i (end_of ws i).run j) book store }
  one_refused w v =
      left_is
      (stops ws i long known j (rw g.is at g.opened) (rw g.is at g.taken) (rw g.is at g.accepted) book store p _ w (rw g.is at v))

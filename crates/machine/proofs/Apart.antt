-- The laws of all calls (specs/Laws.antt): a refusal leaves all as it was, and a call on one entry leaves every other.
-- Assumes nothing.
use Prim.Native.Nat.{ℕ}
use mathlib.Core.Path.{◌≡◌, refl, sym, ap, subst, ◌∙◌}
use mathlib.Core.Logic.{◌≢◌, ◌⊎◌, inl, inr}
use mathlib.Core.Bool.{Bool, true, false, ◌&&◌}
use mathlib.Core.Option.{Option, none, some}
use mathlib.Core.List.Memᴰ
use mathlib.Core.List.{List, [], ◌∷◌, ◌++◌, append-nil}
use lib.ListN.{drop, get_or}
use lib.Dec.{eqb}
use borrow.Author.Tests.{eq-eqb, ne_eqb}
use Rattle.units.specs.Refusals.{pick}
use Rattle.units.specs.declared.refusals.Refusal.{Refusal}
use Rattle.units.specs.declared.refusals.Refusal.TheVariants as refusal
use Rattle.frame.specs.Faults.{refused_of}
use Rattle.frame.specs.Layout.{payload_of}
use Rattle.frame.specs.Reading.{header_of}
use Rattle.blocks.specs.Reading.{read_block}
use Rattle.machine.specs.Calls.{opens, closes, counts, sends, urges, plans, arrives, hands_out, reports, ticks}
use Rattle.machine.specs.Machine.{End, Item, Sort, acks, resets, urgents, resends, datas, Out, Machine, Outcome, port, rank, answers, send_tests, handed, entry_for, going_out, in_order, opening, closing, counting, sending, urgent_sending, sending_all, planning, reading, arriving, handing_out, reporting, is_of, step, without}
use Rattle.machine.specs.Sound.{Sound}
use Rattle.machine.specs.Laws.{item, share_of, Next, RefusedStays, Untouched, OthersStay}
use Rattle.machine.specs.LawsHanding.{NextOrNone}
use Rattle.machine.proofs.Entries.{elem_set_other}
use Rattle.machine.proofs.Items.{rank_is, without_append, share_kept, share_other}
use Rattle.machine.proofs.Judged.{by_entry, by_verdict}
use Rattle.machine.proofs.Touching.{Touched, as_was, turns, waited, silenced, stopped, enabled_touches, closed_touches, sent_touches, urged_touches, by_read, arrival_tests, by_done, by_reported}
use Rattle.machine.proofs.Planning.{plan_tests, by_plan, first_zero}
use Rattle.machine.proofs.Hosting.{open_tests, opened, close_tests, closed, count_tests, counts_of, sent, urgent_tests, urged}
use Rattle.machine.proofs.Handing.{out_tests, room_tests, gone, goes, next_or_none, under_is, goes_is, none_is, owner}

-- ---- refusals

-- what begins with 0 is no refusal
passed : {A : Type 0} → ◌≢◌ {A = ℕ} 0 0 → A
passed r = absurd (r refl)

module _ (m : Machine) (out : List ℕ) where
  -- refused with all as it was, or not refused
  abbrev Keeps : Outcome → Type 0
  Keeps o = get_or o.answer.numbers 0 0 ≢ 0 → (o.machine ≡ m) × (o.answer.out ≡ out)

  kept : (w : Refusal) → Keeps (answers (refused_of w) out m)
  kept w r = (refl, refl)

  going_keeps : (q : Sort) (l : List Item) (other : Outcome) → Keeps other → Keeps (going_out m out q l other)
  unfolding going_out
  going_keeps q [] other k = k
  going_keeps q (x ∷ xs) other k =
      by_entry Keeps m x.entry other (goes m out q x) k
      (λ e z. by_verdict Keeps (room_tests m out q x e) out m (gone m out q x e) kept (λ v. passed))

  order_keeps : (qs : List Sort) → Keeps (in_order m out qs)
  unfolding in_order
  order_keeps [] = passed
  order_keeps (q ∷ qs) = going_keeps q (m.waiting q) (in_order m out qs) (order_keeps qs)

pub refused_stays : RefusedStays
unfolding RefusedStays step opening closing counting sending urgent_sending planning arriving handing_out reporting
refused_stays m (opens i) d = by_done (Keeps m []) m i open_tests (opened m i) (kept m []) (λ e h. passed)
refused_stays m (closes i) d = by_done (Keeps m []) m i close_tests (closed m i) (kept m []) (λ e h. passed)
refused_stays m (counts i) d = by_done (Keeps m []) m i count_tests (counts_of m) (kept m []) (λ e h. passed)
refused_stays m (sends i p) d = by_done (Keeps m []) m i (λ e. send_tests m e p) (sent m i p) (kept m []) (λ e h. passed)
refused_stays m (urges i p) d = by_done (Keeps m []) m i (urgent_tests m p) (urged m i p) (kept m []) (λ e h. passed)
refused_stays m (plans i block) d =
    by_verdict (Keeps m []) (plan_tests block) [] m (sending_all m i 0 (read_block block)) (kept m [])
    (λ v r. absurd (r (first_zero m i 0 (read_block block))))
refused_stays m (arrives block f) d =
    by_verdict (Keeps m block) (arrival_tests m f) block m (reading m block (header_of f) (payload_of f)) (kept m block)
    (λ v. by_read (Keeps m block) m block (kept m block) (header_of f) (payload_of f) (λ h z m' t ns out' l. passed))
refused_stays m (hands_out buffer) d =
    by_verdict (Keeps m buffer) (out_tests m) buffer m (in_order m buffer (acks ∷ resets ∷ urgents ∷ resends ∷ datas ∷ [])) (kept m buffer)
    (λ v. order_keeps m buffer (acks ∷ resets ∷ urgents ∷ resends ∷ datas ∷ []))
refused_stays m reports d = by_reported (Keeps m []) m m.under (kept m [] refusal.NoneUnderWay) (λ f z m' t. passed)
refused_stays m ticks d = absurd (d refl)

-- ---- other entries

module _ (m : Machine) (i j : ℕ) (d : i ≢ j) where
  waits_leaves : (q : Sort) (s : ℕ) (xs : List Item) (b : Bool) → share_of j (pick b (xs ++ (item i s ∷ [])) xs) ≡ share_of j xs
  waits_leaves q s xs true =
      without_append _ xs (item i s ∷ [])
      ∙ rw (share_other j (item i s ∷ []) (λ x z o. d (ap (λ (y : Item). y.entry) (sym (Memᴰ.eq_of_singleton z)) ∙ o))) (append-nil _)
  waits_leaves q s xs false = refl

  stop_leaves : (s : ℕ) (xs : List Item) (b : Bool) → share_of j (pick b (without (λ x. eqb x.entry i && eqb x.number s) xs) xs) ≡ share_of j xs
  stop_leaves s xs true = share_kept _ j xs (λ x o. rw (ne_eqb x.entry i (λ z. d (sym z ∙ o))))
  stop_leaves s xs false = refl

  touched_leaves : {m' : Machine} → Touched i m m' → Untouched m m' j
  touched_leaves as_was = record { end = refl; share = λ q. refl }
  touched_leaves (turns c e {m'} h f t) =
      let u = touched_leaves t in
      record { end = elem_set_other m'.ends i j e (λ z. d (sym z)) ∙ u.end; share = u.share }
  touched_leaves (waited q s {m'} t) =
      let u = touched_leaves t in
      record { end = u.end; share = λ r. waits_leaves q s (m'.waiting r) (eqb (rank r) (rank q)) ∙ u.share r }
  touched_leaves (silenced {m'} t) =
      let u = touched_leaves t in
      record { end = u.end; share = λ r. share_kept _ j (m'.waiting r) (λ x o. ne_eqb x.entry i (λ z. d (sym z ∙ o))) ∙ u.share r }
  touched_leaves (stopped s {m'} t) =
      let u = touched_leaves t in
      record { end = u.end; share = λ r. stop_leaves s (m'.waiting r) (eqb (rank r) 3) ∙ u.share r }

-- what goes out is of its owner
module _ (m : Machine) (q : Sort) (x : Item) (xs : List Item) (n : Next m q x xs) (j : ℕ) (d : x.entry ≢ j) where
  rest_leaves : (r : Sort) (b : Bool) → eqb (rank r) (rank q) ≡ b → share_of j (pick b (drop 1 (m.waiting r)) (m.waiting r)) ≡ share_of j (m.waiting r)
  unfolding without
  rest_leaves r true z =
      let h : m.waiting r ≡ x ∷ xs = ap m.waiting (rank_is r q z) ∙ n.first in
      rw (h, ne_eqb x.entry j d)
  rest_leaves r false z = refl

  pub gone_leaves : (buffer : List ℕ) (e : End) → Untouched m (gone m buffer q x e).machine j
  gone_leaves buffer e =
      record {
        end = elem_set_other m.ends x.entry j (handed q e x.number) (λ z. d (sym z));
        share = λ r. rest_leaves r (eqb (rank r) (rank q)) refl;
      }

all_left : (m : Machine) (j : ℕ) → Untouched m m j
all_left m j = record { end = refl; share = λ q. refl }

module _ (t : List ℕ) (m : Machine) (S : Sound t m) (j : ℕ) where
  abbrev Leaves : Outcome → Type 0
  Leaves o = Untouched m o.machine j

  out_leaves : (buffer : List ℕ) → (((q : Sort) × (x : Item) × (xs : List Item) × Next m q x xs × (x.entry ≡ j)) → ⊥) → Leaves (step m (hands_out buffer))
  unfolding NextOrNone
  out_leaves buffer other = way m.under refl
    where
      sides : m.under ≡ none → ((q : Sort) × (x : Item) × (xs : List Item) × Next m q x xs) ⊎ ((q : Sort) → m.waiting q ≡ []) → Leaves (step m (hands_out buffer))
      sides under (inl (q, x, xs, n)) =
          let o = owner t m S q x xs n in
          subst Leaves (sym (goes_is t m S under q x xs n o.end o.there buffer))
          (by_verdict Leaves (room_tests m buffer q x o.end) buffer m (gone m buffer q x o.end) (λ w. all_left m j)
          (λ v. gone_leaves m q x xs n j (λ z. other (q, x, xs, n, z)) buffer o.end))
      sides under (inr h) = subst Leaves (sym (none_is t m S under h buffer)) (all_left m j)

      way : (u : Option Out) → m.under ≡ u → Leaves (step m (hands_out buffer))
      way none under = sides under (next_or_none m)
      way (some f) under = subst Leaves (sym (under_is m f under buffer)) (all_left m j)

  -- the end of a frame is its owner's
  report_leaves : (is_of j m.under ≡ true → ⊥) → Leaves (reporting m)
  unfolding reporting
  report_leaves other =
      by_reported Leaves m m.under (all_left m j)
      (λ f z m' a. ends (touched_leaves m f.1.entry j (λ y. other (ap (is_of j) z ∙ eq-eqb f.1.entry j y)) a))
    where
      ends : {m' : Machine} → Untouched m m' j → Untouched m (port none m') j
      ends u = record { end = u.end; share = u.share }

-- a send leaves what is not its own, and so does a plan, send after send
module _ (i j : ℕ) (d : i ≢ j) where
  sent_leaves : (m : Machine) (p : List ℕ) → Untouched m (sending m i p).machine j
  unfolding sending
  sent_leaves m p =
      by_done (λ o. Untouched m o.machine j) m i (λ e. send_tests m e p) (sent m i p) (λ w. all_left m j)
      (λ e h. touched_leaves m i j d (sent_touches m i e p h))

  plan_leaves : (m : Machine) (block : List ℕ) → Untouched m (planning m i block).machine j
  plan_leaves =
      by_plan (λ m o. Untouched m o.machine j) i (λ m ns. all_left m j) (λ m p o u. then (sent_leaves m p) u) (λ m w. all_left m j)
    where
      then : {m k l : Machine} → Untouched m k j → Untouched k l j → Untouched m l j
      then u v = record { end = v.end ∙ u.end; share = λ q. v.share q ∙ u.share q }

pub others_stay : OthersStay
unfolding OthersStay step opening closing counting sending urgent_sending arriving
others_stay t m S (opens i) j d = by_done (Leaves t m S j) m i open_tests (opened m i) (λ w. all_left m j) (λ e h. touched_leaves m i j d (enabled_touches m i e h))
others_stay t m S (closes i) j d = by_done (Leaves t m S j) m i close_tests (closed m i) (λ w. all_left m j) (λ e h. touched_leaves m i j d (closed_touches m i e h))
others_stay t m S (counts i) j d = by_done (Leaves t m S j) m i count_tests (counts_of m) (λ w. all_left m j) (λ e h. all_left m j)
others_stay t m S (sends i p) j d = sent_leaves i j d m p
others_stay t m S (urges i p) j d = by_done (Leaves t m S j) m i (urgent_tests m p) (urged m i p) (λ w. all_left m j) (λ e h. touched_leaves m i j d (urged_touches m i e p h))
others_stay t m S (plans i block) j d = plan_leaves i j d m block
others_stay t m S (arrives block f) j d =
    by_verdict (Leaves t m S j) (arrival_tests m f) block m (reading m block (header_of f) (payload_of f)) (λ w. all_left m j)
    (λ v. by_read (Leaves t m S j) m block (λ w. all_left m j) (header_of f) (payload_of f)
    (λ h z m' a ns out' l. touched_leaves m (entry_for m h) j (λ y. d (h, z, y)) a))
others_stay t m S (hands_out buffer) j d = out_leaves t m S j buffer d
others_stay t m S reports j d = report_leaves t m S j d
others_stay t m S ticks j d = absurd (d tt)

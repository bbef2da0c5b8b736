-- Payloads in the store: what is put in a slot is read from it, and every other slot, of this entry and of the others, stays. Assumes nothing.
use Prim.Native.Nat.{ℕ, ◌+◌, ◌-◌, ◌*◌, ◌%◌, ◌≤◌, ◌<◌}
use mathlib.Core.Path.{◌≡◌, refl, sym, ap, subst, ◌∙◌}
use mathlib.Core.Logic.{◌≢◌}
use mathlib.Core.Bool.{true}
use mathlib.Core.List.{List, ◌++◌, append_assoc}
use native.Mathlib.Decide.{dec_lt}
use native.Mathlib.Nat.{mod-eq_of_lt}
use native.Mathlib.Omega.{arith}
use lib.ListN.{length, take, drop, length-drop, length-append, take-append-drop}
use lib.Seq.{sets, sets-eq, length-take-le, drop-append-le, drop-append-add, take-append-le, take-append_seam, drop_at, drop-drop}
use Rattle.table.specs.Layout.{entry_of}
use Rattle.table.specs.Areas.{slots_of, place_of, store_of}
use Rattle.table.specs.declared.Entry.{Entry}
use Rattle.table.proofs.Places.{slot_of_window, slot_of_urgent, slots_apart, slot_inside, areas_apart, areas_inside}
use Rattle.table.proofs.Good.{good_entry}
use Rattle.end_points.specs.Ends.{load_entry, load_run, end_of}
use Rattle.end_points.specs.Heads.{count_in}
use Rattle.end_points.specs.States.{is_sends}
use Rattle.slots.specs.Slots.{slot_for, spot}
use Rattle.good.specs.Good.{Lists, Good}
use Rattle.good.proofs.Known.{is_sends_holds}
use Rattle.good.proofs.Framing.{slot_lt}

-- ---- bytes

module _ (st p : List ℕ) (at : ℕ) (fits : at + length p ≤ length st) where
  parts : sets st at p ≡ take at st ++ (p ++ drop (at + length p) st)
  parts = sets-eq p st at fits ∙ append_assoc (take at st) p (drop (at + length p) st)

  head_long : length (take at st) ≡ at
  head_long = length-take-le at st (omega arith)

  -- what was put is there
  pub read_own : take (length p) (drop at (sets st at p)) ≡ p
  read_own = rw (parts, drop_at (take at st) (p ++ drop (at + length p) st) at head_long) (take-append_seam p (drop (at + length p) st))

  front : (a n : ℕ) (tail : List ℕ) → a + n ≤ at → take n (drop a (take at st ++ tail)) ≡ take n (drop a (take at st))
  front a n tail h =
      ap (take n) (drop-append-le a (take at st) tail (omega (arith, head_long)))
      ∙ take-append-le n (drop a (take at st)) tail (omega (arith, length-drop a (take at st), head_long))

  -- and nothing else altered
  pub read_before : (a n : ℕ) → a + n ≤ at → take n (drop a (sets st at p)) ≡ take n (drop a st)
  read_before a n h =
      ap (λ (l : List ℕ). take n (drop a l)) parts ∙ front a n (p ++ drop (at + length p) st) h ∙ sym (front a n (drop at st) h)
      ∙ ap (λ (l : List ℕ). take n (drop a l)) (take-append-drop at st)

  pub read_after : (a n : ℕ) → at + length p ≤ a → take n (drop a (sets st at p)) ≡ take n (drop a st)
  read_after a n h = ap (take n) (ap (drop a) (sets-eq p st at fits) ∙ same ∙ drop-drop (a - (at + length p)) (at + length p) st ∙ ap (λ (k : ℕ). drop k st) back)
    where
      long : length (take at st ++ p) ≡ at + length p
      long = rw (length-append, head_long)

      back : at + length p + (a - (at + length p)) ≡ a
      back = omega arith

      same : drop a ((take at st ++ p) ++ drop (at + length p) st) ≡ drop (a - (at + length p)) (drop (at + length p) st)
      same =
          let e : a ≡ length (take at st ++ p) + (a - (at + length p)) = omega (arith, long) in
          ap (λ (k : ℕ). drop k ((take at st ++ p) ++ drop (at + length p) st)) e
          ∙ drop-append-add (take at st ++ p) (drop (at + length p) st) (a - (at + length p))

-- ---- slots

size_loaded : (ws : List ℕ) (i : ℕ) → (end_of ws i).run.window.size ≡ (load_entry ws i).window % 256
unfolding end_of load_run
size_loaded ws i = refl

module _ (t ws b : List ℕ) (l : Lists) (g : Good t ws b l) where
  -- an end point's place and entry are the table's
  pub end_entry : (i : ℕ) → i < count_in ws → (end_of ws i).entry ≡ entry_of t i
  unfolding end_of
  end_entry i h = g.tabled.entry i (omega (arith, g.tabled.count))

  pub end_place : (i : ℕ) → i < count_in ws → (end_of ws i).place ≡ place_of t i
  unfolding end_of
  end_place i h = g.tabled.place i (omega (arith, g.tabled.count))

  pub end_size : (i : ℕ) → i < count_in ws → (end_of ws i).run.window.size ≡ (entry_of t i).window
  end_size i h = size_loaded ws i ∙ rw (g.tabled.entry i (omega (arith, g.tabled.count))) (mod-eq_of_lt (let e = good_entry t g.table i (omega (arith, g.tabled.count)) in omega (arith, e.window_high)))

  abbrev pub at : ℕ → ℕ → ℕ
  at i q = spot (end_of ws i).place (end_of ws i).entry.largest q

  abbrev pub slots_at : ℕ → ℕ
  slots_at i = slots_of (entry_of t i).kind (entry_of t i).window

  -- the slot of a number is one of its entry's, and so is a sender's Urgent's
  pub slot_low : (i : ℕ) → i < count_in ws → (s : ℕ) → slot_for (end_of ws i).run.window s < slots_at i
  slot_low i h s = slot_of_window (entry_of t i) _ (rw (← end_size i h) (slot_lt (end_of ws i).run.window s (g.entered i h).window))

  pub urgent_low : (i : ℕ) → i < count_in ws → is_sends (end_of ws i).entry.kind ≡ true → (end_of ws i).run.window.size < slots_at i
  urgent_low i h k = rw (end_size i h) (slot_of_urgent (entry_of t i) (ap (λ (e : Entry). e.kind) (sym (end_entry i h)) ∙ is_sends_holds _ k))

  at_is : (i : ℕ) → i < count_in ws → (q : ℕ) → at i q ≡ place_of t i + q * (entry_of t i).largest
  at_is i h q = rw (end_place i h, end_entry i h)

  -- a slot lies in the store
  pub slot_room : (i : ℕ) → i < count_in ws → (q : ℕ) → q < slots_at i → at i q + (end_of ws i).entry.largest ≤ store_of t
  slot_room i h q m =
      rw (at_is i h q, end_entry i h)
      (let a = areas_inside t i (omega (arith, g.tabled.count)) in let c = slot_inside (entry_of t i) q m in omega arith)

  -- two slots do not overlap
  module _ (i j q r n : ℕ) (st p : List ℕ) (hi : i < count_in ws) (hj : j < count_in ws) (hq : q < slots_at i) (hr : r < slots_at j)
      (hn : n ≤ (end_of ws i).entry.largest) (hp : length p ≤ (end_of ws j).entry.largest) (room : store_of t ≤ length st) where
    fits : at j r + length p ≤ length st
    fits = let h = slot_room j hj r hr in omega arith

    low : at i q + n ≤ at j r → take n (drop (at i q) (sets st (at j r) p)) ≡ take n (drop (at i q) st)
    low h = read_before st p (at j r) fits (at i q) n h

    high : at j r + length p ≤ at i q → take n (drop (at i q) (sets st (at j r) p)) ≡ take n (drop (at i q) st)
    high h = read_after st p (at j r) fits (at i q) n h

    -- of two entries
    pub areas_stay : i ≢ j → take n (drop (at i q) (sets st (at j r) p)) ≡ take n (drop (at i q) st)
    areas_stay d = sides (dec_lt i j)
      where
        n_short : n ≤ (entry_of t i).largest
        n_short = rw (← end_entry i hi) hn

        p_short : length p ≤ (entry_of t j).largest
        p_short = rw (← end_entry j hj) hp

        sides : Dec (i < j) → take n (drop (at i q) (sets st (at j r) p)) ≡ take n (drop (at i q) st)
        sides (yes h) =
            low (let a = areas_apart t i j h in let c = slot_inside (entry_of t i) q hq in let x = at_is i hi q in let y = at_is j hj r in omega (arith, n_short, p_short))
        sides (no h) =
            high (let a = areas_apart t j i (omega arith) in let c = slot_inside (entry_of t j) r hr in let x = at_is i hi q in let y = at_is j hj r in omega (arith, n_short, p_short))

    -- of one entry
    pub slots_stay : i ≡ j → q ≢ r → take n (drop (at i q) (sets st (at j r) p)) ≡ take n (drop (at i q) st)
    slots_stay e d = sides (dec_lt q r)
      where
        y : at j r ≡ at i r
        y = ap (λ (k : ℕ). at k r) (sym e)

        p_short : length p ≤ (end_of ws i).entry.largest
        p_short = subst (λ (k : ℕ). length p ≤ (end_of ws k).entry.largest) (sym e) hp

        sides : Dec (q < r) → take n (drop (at i q) (sets st (at j r) p)) ≡ take n (drop (at i q) st)
        sides (yes h) = low (let a = slots_apart (end_of ws i).entry.largest q r h in omega (arith, y))
        sides (no h) = high (let a = slots_apart (end_of ws i).entry.largest r q (omega arith) in omega (arith, y, p_short))

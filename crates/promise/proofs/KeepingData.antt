-- The invariant is kept when Data comes in: in the window of bytes it is the number that it seems, since it is not late; outside
-- it was delivered before. Assumes nothing.
use Prim.Native.Nat.{ℕ, suc, ◌+◌, ◌≤◌, ◌<◌}
use mathlib.Core.Path.{◌≡◌, refl, sym, subst, ◌∙◌}
use mathlib.Core.Logic.{◌⊎◌, inl, inr, by_cases}
use mathlib.Core.Bool.{Bool, true, false, not, ◌&&◌, true≢false}
use mathlib.Core.List.Memᴰ
use mathlib.Core.List.{List, [], ◌∷◌, ◌++◌, map, Memᴰ, map-append, append-nil}
use lib.ListN.{length, get_or}
use lib.Dec.{ltb}
use borrow.Author.Tests.{ltb-true, ltb-false}
use native.Mathlib.Decide.{dec_le, ℕ_discrete}
use native.Mathlib.Omega.{arith}
use Rattle.units.specs.Refusals.{pick}
use Rattle.units.specs.Sizes.{is_size}
use Rattle.window.specs.Numbers.{distance_of, byte_of}
use Rattle.promise.specs.History.{Pay, NotLate, Sent, data!, Tag, old, new, Hist}
use Rattle.promise.proofs.Windows.{in_window, distance_is, put, put_same, put_other, Marks, mark, shift, run, mark_keeps}
use Rattle.promise.proofs.Channel.{r_open, Recv, outs, Taken, r_take, r_drop, r_data, Channel, tag_byte, g_data}
use Rattle.promise.proofs.Invariant.{Answered, Got, Bytes, Fresh, Holding, Shelf, shelf, Framed, Running, Inv, fresh, resetting, running}
use Rattle.promise.proofs.Keeping.{not_new_old}
use Rattle.promise.proofs.Delivering.{pass_length, pass_receiving, pass_got}

-- ---- its acknowledgement waits

-- whatever the receiver makes of it
pick_wait : (c : Bool) (a b : Taken) (l : List ℕ) → a.next.waiting ≡ l → b.next.waiting ≡ l → (pick c a b).next.waiting ≡ l
pick_wait true a b l p q = p
pick_wait false a b l p q = q

pub data_wait : (W : ℕ) (r : Recv) (b : ℕ) (p : Pay) → (r_data W r b p).next.waiting ≡ r.waiting ++ (b ∷ [])
data_wait W r b p = pick_wait (ltb (distance_of r.start b) W && not (r.held (distance_of r.start b))) _ _ _ refl refl

queue_more : (tags : List Tag) (waiting : List ℕ) (t : Tag) (b : ℕ) → tag_byte t ≡ b → waiting ≡ map tag_byte tags
    → waiting ++ (b ∷ []) ≡ map tag_byte (tags ++ (t ∷ []))
queue_more tags waiting t b e q = rw map-append (cc)

-- ---- Data of an earlier run

pub old_data_keeps : (W : ℕ) (g : Channel) (b : ℕ) (p : Pay) → Fresh g
    → Fresh (g_data (old b) g.hist.data_in b p (r_data W g.receiver b p) g)
old_data_keeps W g b p f = record {
  enabled = f.enabled;
  none_accepted = f.none_accepted;
  none_out = f.none_out;
  no_data = f.no_data;
  silent = λ n a. go n a;
  bytes = record {
    queue = data_wait W g.receiver b p ∙ queue_more g.hist.tags g.receiver.waiting (old b) b refl f.bytes.queue;
    backs = f.bytes.backs;
  };
}
  where
    go : (n : ℕ) → Answered (g.hist.tags ++ (old b ∷ [])) g.hist.back n → ⊥
    go n (inl m) = last (Memᴰ.append_cases g.hist.tags m)
      where
        last : Memᴰ (new n) g.hist.tags ⊎ Memᴰ (new n) (old b ∷ []) → ⊥
        last (inl k) = f.silent n (inl k)
        last (inr k) = not_new_old n b (Memᴰ.eq_of_singleton k)
    go n (inr k) = f.silent n (inr k)

-- ---- Data of this run

-- after one acknowledgement more, of the frame number j + 1, only that is answered newly
one_more : (h : Hist) (n j : ℕ) → n ≡ suc j → (i : ℕ) → Answered (h.tags ++ (new n ∷ [])) h.back (suc i)
    → Answered h.tags h.back (suc i) ⊎ (i ≡ j)
one_more h n j num i (inl m) = go (Memᴰ.append_cases h.tags m)
  where
    go : Memᴰ (new (suc i)) h.tags ⊎ Memᴰ (new (suc i)) (new n ∷ []) → Answered h.tags h.back (suc i) ⊎ (i ≡ j)
    go (inl k) = inl (inl k)
    go (inr k) = let e = Memᴰ.eq_of_singleton k in let q : suc i ≡ n = cc in inr (omega arith)
one_more h n j num i (inr k) = inl (inr k)

module _ (W : ℕ) (w : is_size W ≡ true) (g : Channel) (f : Running W (shelf g.receiver) g)
    (rstart : g.receiver.start ≡ byte_of (1 + length g.hist.delivered)) (n b : ℕ) (p : Pay) (fr : Framed g.hist.accepted n b p)
    (late : NotLate W (1 + length g.hist.delivered) n) where
  -- how far it seems to lie from the start
  abbrev off : ℕ
  off = distance_of g.receiver.start b

  off_is : off ≡ distance_of (byte_of (1 + length g.hist.delivered)) (byte_of n)
  off_is = rw (fr.byte, rstart)

  front : n < 1 + length g.hist.delivered + W
  front = omega (arith, fr.number, fr.within, f.sending.span, f.sending.width, f.behind)

  inside : off < W → fr.index ≡ length g.hist.delivered + off
  inside h =
      let lo = in_window W (1 + length g.hist.delivered) n w front late (rw off_is at h) in
      let e = distance_is W (1 + length g.hist.delivered) n w front lo in
      omega (arith, off_is, fr.number)

  outside : W ≤ off → fr.index < length g.hist.delivered
  outside h =
      by_cases (dec_le (1 + length g.hist.delivered) n)
      (λ lo. let e = distance_is W (1 + length g.hist.delivered) n w front lo in absurd (omega (arith, off_is, front)))
      (λ lo. omega (arith, fr.number))

  -- the acknowledgement that waits now answers it
  new_bytes : Bytes (g.receiver.waiting ++ (b ∷ [])) (g.hist.tags ++ (new n ∷ [])) g.hist.back
  new_bytes = record {
    queue = queue_more g.hist.tags g.receiver.waiting (new n) b (sym fr.byte) f.bytes.queue;
    backs = f.bytes.backs;
  }

  -- held already, or outside
  drop_keeps : Got g.hist.delivered g.receiver.held fr.index
      → Running W (shelf g.receiver) (g_data (new n) true b p (r_drop g.receiver b) g)
  drop_keeps got = rw append-nil (record {
    sending = f.sending;
    receiving = f.receiving;
    at_open = λ q. record { rstart = rstart; same = refl };
    behind = f.behind;
    marks = f.marks;
    begun = f.begun;
    frames = f.frames;
    answers = λ i a. go i (one_more g.hist n fr.index fr.number i a);
    quiet = λ q. absurd (true≢false q);
    bytes = new_bytes;
  })
    where
      go : (i : ℕ) → Answered g.hist.tags g.hist.back (suc i) ⊎ (i ≡ fr.index) → Got g.hist.delivered g.receiver.held i
      go i (inl a) = f.answers i a
      go i (inr q) = subst (Got g.hist.delivered g.receiver.held) (sym q) got

  -- in the window it is held, beside what was held
  placed : off < W → Holding (mark off g.receiver.held) (put off p g.receiver.payloads)
      (length g.hist.delivered) g.hist.accepted
  placed h = record { held_in = λ i m. (one i (ℕ_discrete i off) m).0; held_is = λ i m. (one i (ℕ_discrete i off) m).1 }
    where
      one : (i : ℕ) → Dec (i ≡ off) → mark off g.receiver.held i ≡ true
          → (length g.hist.delivered + i < length g.hist.accepted)
          × (put off p g.receiver.payloads i ≡ get_or g.hist.accepted (length g.hist.delivered + i) [])
      one i (yes e) m = (
        omega (arith, inside h, fr.within),
        rw (e, ← (inside h)) (put_same off p g.receiver.payloads ∙ fr.payload),
      )
      one i (no ne) m =
          let was = f.receiving.holding in
          let q = sym (put_other off true g.receiver.held i ne) ∙ m in
          (was.held_in i q, put_other off p g.receiver.payloads i ne ∙ was.held_is i q)

  -- in the window and new
  take_keeps : off < W → Running W (shelf (r_take W g.receiver b p).next) (g_data (new n) true b p (r_take W g.receiver b p) g)
  take_keeps h = record {
    sending = f.sending;
    receiving = pass_receiving W f.receiving (placed h) bound;
    at_open = λ q. record { rstart = omega (arith, rstart, longer); same = refl };
    behind = omega (arith, f.behind, longer);
    marks = λ i q. later _ (f.marks i q);
    begun = f.begun;
    frames = f.frames;
    answers = λ i a. go i (one_more g.hist n fr.index fr.number i a);
    quiet = λ q. absurd (true≢false q);
    bytes = new_bytes;
  }
    where
      m : Marks
      m = mark off g.receiver.held

      now : List Pay
      now = g.hist.delivered ++ outs (put off p g.receiver.payloads) 0 (run W 0 m)

      bound : length g.hist.accepted ≤ length g.hist.delivered + W
      bound = omega (arith, f.sending.span, f.sending.width, f.behind)

      longer : length now ≡ length g.hist.delivered + run W 0 m
      longer = pass_length W f.receiving (placed h) bound

      on : (j : ℕ) → Got g.hist.delivered m j → Got now (shift (run W 0 m) m) j
      on = pass_got W f.receiving (placed h) bound

      marked : (j : ℕ) → Got g.hist.delivered g.receiver.held j → Got g.hist.delivered m j
      marked j (inl l) = inl l
      marked j (inr (i, e, q)) = inr (i, e, mark_keeps off i g.receiver.held q)

      later : (j : ℕ) → Got g.hist.delivered g.receiver.held j → Got now (shift (run W 0 m) m) j
      later j a = on j (marked j a)

      this : Got g.hist.delivered m fr.index
      this = inr (off, inside h, put_same off true g.receiver.held)

      go : (i : ℕ) → Answered g.hist.tags g.hist.back (suc i) ⊎ (i ≡ fr.index) → Got now (shift (run W 0 m) m) i
      go i (inl a) = later i (f.answers i a)
      go i (inr q) = on i (subst (Got g.hist.delivered m) (sym q) this)

  data_keeps : Inv W (g_data (new n) true b p (r_data W g.receiver b p) g)
  data_keeps = go (ltb off W) refl (g.receiver.held off) refl
    where
      go : (x : Bool) → ltb off W ≡ x → (y : Bool) → g.receiver.held off ≡ y
          → Inv W (g_data (new n) true b p (pick (x && not y) (r_take W g.receiver b p) (r_drop g.receiver b)) g)
      go true ex false ey = running _ (take_keeps (ltb-true off W ex))
      go true ex true ey = running _ (drop_keeps (inr (off, inside (ltb-true off W ex), ey)))
      go false ex y ey = running _ (drop_keeps (inl (outside (ltb-false off W ex))))

pub data_in_keeps : (W : ℕ) → is_size W ≡ true → (g : Channel) (n b : ℕ) (p : Pay) → Memᴰ (data! n b p) g.hist.sent
    → NotLate W (1 + length g.hist.delivered) n → g.receiver.state ≡ r_open → Inv W g
    → Inv W (g_data (new n) true b p (r_data W g.receiver b p) g)
data_in_keeps W w g n b p m late o (fresh f) = absurd (Memᴰ.not-nil (subst (λ (l : List Sent). Memᴰ (data! n b p) l) f.none_out m))
data_in_keeps W w g n b p m late o (resetting f) = absurd (f.resets _ m)
data_in_keeps W w g n b p m late o (running v f) =
    let y = f.at_open o in
    data_keeps W w g (subst (λ (x : Shelf). Running W x g) y.same f) y.rstart n b p (f.frames _ m) late

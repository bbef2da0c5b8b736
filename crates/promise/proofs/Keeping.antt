-- The invariant is kept by the short steps: send, handing out at either end, failing, closing and opening the receiver, a Reset. Data
-- is in KeepingData.antt, acknowledgements in KeepingAcks.antt. Assumes nothing.
use Prim.Native.Nat.{ℕ, suc, ◌+◌, ◌<◌}
use mathlib.Core.Path.{◌≡◌, refl, ap, sym, subst, ◌∙◌}
use mathlib.Core.Logic.{◌⊎◌, inl, inr}
use mathlib.Core.Bool.{Bool, true, false, true≢false}
use mathlib.Core.List.Memᴰ
use mathlib.Core.List.{List, [], ◌∷◌, ◌++◌, Memᴰ}
use lib.ListN.{length, get_or, length-append, get_or-append}
use lib.Seq.{take-append-le, get_or-append_seam}
use native.Mathlib.Decide.{ℕ_discrete}
use native.Mathlib.Omega.{arith}
use Rattle.window.specs.Numbers.{byte_of}
use Rattle.promise.specs.History.{Pay, s_enabled, s_failing, Live, Sent, reset, data!, Tag, old, new, Back, ack, back_of}
use Rattle.promise.proofs.Windows.{put, put_same, put_other, Marks}
use Rattle.promise.proofs.Channel.{Send, s_send, s_state, s_hand, s_data, RState, r_closed, r_enabled, r_open, Recv, r_reset, Channel, with_sender, with_receiver, with_tags, g_send, g_hand, g_answer, g_reset, g_close}
use Rattle.promise.proofs.Invariant.{Answered, Got, BackOk, Bytes, Fresh, IsReset, Sending, Holding, Shelf, shelf, Receiving, SentOk, Running, Inv, fresh, resetting, running, not_bool}

-- ---- send

-- one payload more accepted
module _ (acc : List Pay) (p : Pay) where
  more_length : length (acc ++ (p ∷ [])) ≡ suc (length acc)
  more_length = rw length-append (omega arith)

  more_get_d : (j : ℕ) → j < length acc → get_or (acc ++ (p ∷ [])) j [] ≡ get_or acc j []
  more_get_d j h = get_or-append acc (p ∷ []) [] j h

  more_holding : {held : Marks} {f : ℕ → Pay} {d : ℕ} → Holding held f d acc → Holding held f d (acc ++ (p ∷ []))
  more_holding {d} h = record {
    held_in = λ i m. let l = h.held_in i m in omega (arith, more_length);
    held_is = λ i m. h.held_is i m ∙ sym (more_get_d (d + i) (h.held_in i m));
  }

  more_receiving : {v : Shelf} {del : List Pay} → Receiving v del acc → Receiving v del (acc ++ (p ∷ []))
  more_receiving {del} h = record {
    ahead = omega (arith, more_length, h.ahead);
    prefix = h.prefix ∙ sym (take-append-le (length del) acc (p ∷ []) h.ahead);
    holding = more_holding h.holding;
    gap = h.gap;
  }

  more_frame : (f : Sent) → SentOk acc f → SentOk (acc ++ (p ∷ [])) f
  more_frame reset h = tt
  more_frame (data! n b q) h = record {
    index = h.index;
    number = h.number;
    byte = h.byte;
    within = omega (arith, more_length, h.within);
    payload = h.payload ∙ sym (more_get_d h.index h.within);
  }

-- the payload is put after those before it, which stay
send_sending : (W : ℕ) (s : Send) (acc : List Pay) (p : Pay) → s.taken < W → Sending W s acc
    → Sending W (s_send s p) (acc ++ (p ∷ []))
send_sending W s acc p lt h = record {
  live = h.live;
  counted = omega (arith, h.counted, more_length acc p);
  span = omega (arith, h.span, more_length acc p);
  width = lt;
  start = h.start;
  stored = λ i l. go i l (ℕ_discrete i s.taken);
}
  where
    go : (i : ℕ) → i < suc s.taken → Dec (i ≡ s.taken)
        → put s.taken p s.payloads i ≡ get_or (acc ++ (p ∷ [])) (s.confirmed + i) []
    go i l (yes e) = rw (e, h.span) (put_same s.taken p s.payloads ∙ sym (get_or-append_seam acc p [] []))
    go i l (no ne) =
        put_other s.taken p s.payloads i ne
        ∙ h.stored i (omega arith)
        ∙ sym (more_get_d acc p (s.confirmed + i) (omega (arith, h.span)))

pub send_keeps : (W : ℕ) (g : Channel) (p : Pay) → g.sender.taken < W → (v : Shelf) → Running W v g
    → Running W v (g_send g p)
send_keeps W g p lt v f = record {
  sending = send_sending W g.sender g.hist.accepted p lt f.sending;
  receiving = more_receiving g.hist.accepted p f.receiving;
  at_open = f.at_open;
  behind = f.behind;
  marks = f.marks;
  begun = f.begun;
  frames = λ x m. more_frame g.hist.accepted p x (f.frames x m);
  answers = f.answers;
  quiet = f.quiet;
  bytes = f.bytes;
}

-- ---- the sender hands out

pub data_out_keeps : (W : ℕ) (g : Channel) (i : ℕ) → i < g.sender.taken → (v : Shelf) → Running W v g
    → Running W v (g_hand (s_hand i g.sender) (s_data g.sender i) g)
data_out_keeps W g i lt v f = record {
  sending = record {
    live = f.sending.live;
    counted = f.sending.counted;
    span = f.sending.span;
    width = f.sending.width;
    start = f.sending.start;
    stored = f.sending.stored;
  };
  receiving = f.receiving;
  at_open = f.at_open;
  behind = f.behind;
  marks = f.marks;
  begun = Memᴰ.tail f.begun;
  frames = λ x m. go x (Memᴰ.cases_cons m);
  answers = f.answers;
  quiet = f.quiet;
  bytes = f.bytes;
}
  where
    s : Send
    s = g.sender

    this : Sent
    this = s_data s i

    ok : SentOk g.hist.accepted this
    ok = record {
      index = s.confirmed + i;
      number = omega arith;
      byte = omega (arith, f.sending.start);
      within = omega (arith, f.sending.span);
      payload = f.sending.stored i lt;
    }

    go : (x : Sent) → (x ≡ this) ⊎ Memᴰ x g.hist.sent → SentOk g.hist.accepted x
    go x (inl e) = subst (SentOk g.hist.accepted) (sym e) ok
    go x (inr m) = f.frames x m

pub reset_out_keeps : (W : ℕ) (g : Channel) (asked : Bool) → g.sender.state ≡ s_enabled asked → Inv W g
    → Inv W (g_hand (s_state (s_enabled true) g.sender) reset g)
reset_out_keeps W g asked e (fresh f) = resetting (record {
  enabled = refl;
  none_accepted = f.none_accepted;
  begun = Memᴰ.head refl;
  resets = λ x m. go x (Memᴰ.cases_cons m);
  no_data = f.no_data;
  zeros = λ n a. absurd (f.silent n a);
  bytes = f.bytes;
})
  where
    go : (x : Sent) → (x ≡ reset) ⊎ Memᴰ x g.hist.sent → IsReset x
    go x (inl q) = subst IsReset (sym q) tt
    go x (inr m) = absurd (Memᴰ.not-nil (subst (λ (l : List Sent). Memᴰ x l) f.none_out m))
reset_out_keeps W g asked e (resetting f) = resetting (record {
  enabled = refl;
  none_accepted = f.none_accepted;
  begun = Memᴰ.head refl;
  resets = λ x m. go x (Memᴰ.cases_cons m);
  no_data = f.no_data;
  zeros = f.zeros;
  bytes = f.bytes;
})
  where
    go : (x : Sent) → (x ≡ reset) ⊎ Memᴰ x g.hist.sent → IsReset x
    go x (inl q) = subst IsReset (sym q) tt
    go x (inr m) = f.resets x m
reset_out_keeps W g asked e (running v f) = absurd (subst Live e f.sending.live)

pub fail_keeps : (W : ℕ) (g : Channel) (v : Shelf) → Running W v g → Running W v (with_sender (s_state s_failing g.sender) g)
fail_keeps W g v f = record {
  sending = record {
    live = tt;
    counted = f.sending.counted;
    span = f.sending.span;
    width = f.sending.width;
    start = f.sending.start;
    stored = f.sending.stored;
  };
  receiving = f.receiving;
  at_open = f.at_open;
  behind = f.behind;
  marks = f.marks;
  begun = f.begun;
  frames = f.frames;
  answers = f.answers;
  quiet = f.quiet;
  bytes = f.bytes;
}

-- ---- the receiver's host closes it, or opens it

-- the receiver is anything but Open now, and answers no more than before
off_keeps : (W : ℕ) (g : Channel) (t : Recv) (tags : List Tag) → (t.state ≡ r_open → ⊥)
    → ((n : ℕ) → Answered tags g.hist.back n → Answered g.hist.tags g.hist.back n)
    → (Bytes g.receiver.waiting g.hist.tags g.hist.back → Bytes t.waiting tags g.hist.back)
    → Inv W g → Inv W (record { sender = g.sender; receiver = t; hist = with_tags tags g.hist })
off_keeps W g t tags off less moved (fresh f) = fresh (record {
  enabled = f.enabled;
  none_accepted = f.none_accepted;
  none_out = f.none_out;
  no_data = f.no_data;
  silent = λ n a. f.silent n (less n a);
  bytes = moved f.bytes;
})
off_keeps W g t tags off less moved (resetting f) = resetting (record {
  enabled = f.enabled;
  none_accepted = f.none_accepted;
  begun = f.begun;
  resets = f.resets;
  no_data = f.no_data;
  zeros = λ n a. let z = f.zeros n (less n a) in (z.0, record { undelivered = z.1.undelivered; at_open = λ q. absurd (off q) });
  bytes = moved f.bytes;
})
off_keeps W g t tags off less moved (running v f) = running v (record {
  sending = f.sending;
  receiving = f.receiving;
  at_open = λ q. absurd (off q);
  behind = f.behind;
  marks = f.marks;
  begun = f.begun;
  frames = f.frames;
  answers = λ j a. f.answers j (less (suc j) a);
  quiet = f.quiet;
  bytes = moved f.bytes;
})

not_closed_open : (t : RState) → t ≡ r_closed → t ≡ r_open → ⊥
not_closed_open t p q = let z : ◌≡◌ {A = ℕ} 0 1 = cc in omega arith

not_enabled_open : (t : RState) → t ≡ r_enabled → t ≡ r_open → ⊥
not_enabled_open t p q = let z : ◌≡◌ {A = ℕ} 0 1 = cc in omega arith

pub open_keeps : (W : ℕ) (g : Channel) (t : Recv) → t.state ≡ r_enabled → t.waiting ≡ g.receiver.waiting → Inv W g
    → Inv W (with_receiver t g)
open_keeps W g t e same i =
    off_keeps W g t g.hist.tags (not_enabled_open t.state e) (λ n a. a) (λ y. rw same y) i

pub close_keeps : (W : ℕ) (g : Channel) (t : Recv) → t.state ≡ r_closed → t.waiting ≡ [] → Inv W g → Inv W (g_close t g)
close_keeps W g t e none-wait i = off_keeps W g t [] (not_closed_open t.state e) less (λ y. record { queue = none-wait; backs = y.backs }) i
  where
    less : (n : ℕ) → Answered [] g.hist.back n → Answered g.hist.tags g.hist.back n
    less n (inl m) = absurd (Memᴰ.not-nil m)
    less n (inr k) = inr k

-- ---- the receiver hands out an acknowledgement

-- what is answered afterwards was answered before
moved : (t : Tag) (b : ℕ) (ts : List Tag) (back : List Back) (n : ℕ) → Answered ts (back_of t b back) n → Answered (t ∷ ts) back n
moved t b ts back n (inl m) = inl (Memᴰ.tail m)
moved (old b') b ts back n (inr m) = inr m
moved (new n') b ts back n (inr (c, m)) = go (Memᴰ.cases_cons m)
  where
    go : (ack n c ≡ ack n' b) ⊎ Memᴰ (ack n c) back → Answered (new n' ∷ ts) back n
    go (inl e) = let q : new n ≡ new n' = cc in inl (Memᴰ.head q)
    go (inr m') = inr (c, m')

moved_bytes : (b : ℕ) (bs : List ℕ) (t : Tag) (ts : List Tag) (back : List Back) → Bytes (b ∷ bs) (t ∷ ts) back
    → Bytes bs ts (back_of t b back)
moved_bytes b bs (old b') ts back y = let e = y.queue in record { queue = cc; backs = y.backs }
moved_bytes b bs (new n) ts back y = record { queue = let e = y.queue in cc; backs = λ a m. go a (Memᴰ.cases_cons m) }
  where
    same : b ≡ byte_of n
    same = let e = y.queue in cc

    go : (a : Back) → (a ≡ ack n b) ⊎ Memᴰ a back → BackOk a
    go a (inl e) = subst BackOk (sym e) same
    go a (inr m) = y.backs a m

module _ (g : Channel) (b : ℕ) (bs : List ℕ) (t : Tag) (ts : List Tag) (ew : g.receiver.waiting ≡ b ∷ bs)
    (et : g.hist.tags ≡ t ∷ ts) where
  before : (n : ℕ) → Answered ts (back_of t b g.hist.back) n → Answered g.hist.tags g.hist.back n
  before n a = subst (λ (l : List Tag). Answered l g.hist.back n) (sym et) (moved t b ts g.hist.back n a)

  after_bytes : Bytes g.receiver.waiting g.hist.tags g.hist.back → Bytes bs ts (back_of t b g.hist.back)
  after_bytes y = moved_bytes b bs t ts g.hist.back (rw (ew, et) at y)

  pub ack_out_keeps : (W : ℕ) → Inv W g → Inv W (g_answer b bs t ts g)
  ack_out_keeps W (fresh f) = fresh (record {
    enabled = f.enabled;
    none_accepted = f.none_accepted;
    none_out = f.none_out;
    no_data = f.no_data;
    silent = λ n a. f.silent n (before n a);
    bytes = after_bytes f.bytes;
  })
  ack_out_keeps W (resetting f) = resetting (record {
    enabled = f.enabled;
    none_accepted = f.none_accepted;
    begun = f.begun;
    resets = f.resets;
    no_data = f.no_data;
    zeros = λ n a. let z = f.zeros n (before n a) in (z.0, record { undelivered = z.1.undelivered; at_open = z.1.at_open });
    bytes = after_bytes f.bytes;
  })
  ack_out_keeps W (running v f) = running v (record {
    sending = f.sending;
    receiving = f.receiving;
    at_open = λ q. let y = f.at_open q in record { rstart = y.rstart; same = y.same };
    behind = f.behind;
    marks = f.marks;
    begun = f.begun;
    frames = f.frames;
    answers = λ j a. f.answers j (before (suc j) a);
    quiet = f.quiet;
    bytes = after_bytes f.bytes;
  })

-- ---- a Reset at the receiver

-- after a Reset only itself is answered newly
only_reset : (back : List Back) (n : ℕ) → Answered (new 0 ∷ []) back n → (n ≡ 0) ⊎ ((b : ℕ) × Memᴰ (ack n b) back)
only_reset back n (inl m) = let e = Memᴰ.eq_of_singleton m in inl (cc)
only_reset back n (inr m) = inr m

-- a blank receiver has nothing
not_got : (del : List Pay) (held : Marks) (j : ℕ) → del ≡ [] → ((i : ℕ) → held i ≡ false) → Got del held j → ⊥
not_got del held j e n (inl h) = let z : length del ≡ 0 = ap length e in omega arith
not_got del held j e n (inr (i, q, m)) = not_bool m (n i)

pub reset_in_keeps : (W : ℕ) (g : Channel) → Memᴰ reset g.hist.sent → g.hist.data_in ≡ false → Inv W g
    → Inv W (g_reset (new 0) g)
reset_in_keeps W g m d (fresh f) = absurd (Memᴰ.not-nil (subst (λ (l : List Sent). Memᴰ reset l) f.none_out m))
reset_in_keeps W g m d (resetting f) = resetting (record {
  enabled = f.enabled;
  none_accepted = f.none_accepted;
  begun = f.begun;
  resets = f.resets;
  no_data = f.no_data;
  zeros = λ n a. (zero_n n (only_reset g.hist.back n a), record { undelivered = refl; at_open = λ q. (refl, refl) });
  bytes = record { queue = refl; backs = f.bytes.backs };
})
  where
    zero_n : (n : ℕ) → (n ≡ 0) ⊎ ((b : ℕ) × Memᴰ (ack n b) g.hist.back) → n ≡ 0
    zero_n n (inl e) = e
    zero_n n (inr k) = (f.zeros n (inr k)).0
reset_in_keeps W g m d (running v f) = running (shelf r_reset) (record {
  sending = f.sending;
  receiving = record {
    ahead = omega arith;
    prefix = refl;
    holding = record { held_in = λ i h. absurd (true≢false (sym h)); held_is = λ i h. absurd (true≢false (sym h)) };
    gap = refl;
  };
  at_open = λ y. record { rstart = refl; same = refl };
  behind = let e : length g.hist.delivered ≡ 0 = ap length q.0 in omega (arith, f.behind);
  marks = λ i h. absurd (not_got g.hist.delivered v.held _ q.0 q.1 (f.marks i h));
  begun = f.begun;
  frames = f.frames;
  answers = λ j a. absurd (go j (only_reset g.hist.back (suc j) a));
  quiet = λ e. (refl, λ i. refl);
  bytes = record { queue = refl; backs = f.bytes.backs };
})
  where
    q : (g.hist.delivered ≡ []) × ((i : ℕ) → v.held i ≡ false)
    q = f.quiet d

    go : (j : ℕ) → (suc j ≡ 0) ⊎ ((b : ℕ) × Memᴰ (ack (suc j) b) g.hist.back) → ⊥
    go j (inl e) = omega arith
    go j (inr k) = not_got g.hist.delivered v.held j q.0 q.1 (f.answers j (inr k))

pub not_new_old : (n b : ℕ) → new n ≡ old b → ⊥
not_new_old n b e = let z : ◌≡◌ {A = ℕ} 0 1 = cc in omega arith

pub old_reset_keeps : (W : ℕ) (g : Channel) → Fresh g → Fresh (g_reset (old 0) g)
old_reset_keeps W g f = record {
  enabled = f.enabled;
  none_accepted = f.none_accepted;
  none_out = f.none_out;
  no_data = f.no_data;
  silent = λ n a. go n a;
  bytes = record { queue = refl; backs = f.bytes.backs };
}
  where
    go : (n : ℕ) → Answered (old 0 ∷ []) g.hist.back n → ⊥
    go n (inl m) = not_new_old n 0 (Memᴰ.eq_of_singleton m)
    go n (inr k) = f.silent n (inr k)

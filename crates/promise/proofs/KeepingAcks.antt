-- The invariant is kept when an acknowledgement comes in: at Enabled it is that of this run's Reset, which opens; at Open and
-- Failing one that counts is of a number that the receiver has, since it is not late. Assumes nothing.
use Prim.Native.Nat.{ℕ, zero, suc, ◌+◌, ◌-◌, ◌≤◌, ◌<◌}
use mathlib.Core.Path.{◌≡◌, refl, ap, sym, subst, ◌∙◌}
use mathlib.Core.Logic.{◌⊎◌, inl, inr}
use mathlib.Core.Bool.{Bool, true, false, not, ◌&&◌, true≢false}
use mathlib.Core.List.{List, [], Memᴰ}
use lib.ListN.{length, take}
use lib.Dec.{eqb, ltb}
use borrow.Author.Tests.{ltb-true}
use native.Mathlib.Nat.{zero-add, add_assoc}
use native.Mathlib.Decide.{dec_le}
use native.Mathlib.Omega.{arith}
use Rattle.units.specs.Refusals.{pick}
use Rattle.units.specs.Sizes.{is_size}
use Rattle.window.specs.Numbers.{distance_of, byte_of}
use Rattle.window.proofs.Sizes.{size_pos}
use Rattle.promise.specs.History.{Pay, SState, s_closed, s_enabled, s_open, s_failing, Live, s_first, NotLate, Sent, reset, data!, ack}
use Rattle.promise.proofs.Windows.{in_window, distance_is, Marks, none, mark, run, mark_cases, run_all}
use Rattle.promise.proofs.Channel.{s_pass, s_opened, s_count, s_ack_at, s_ack, Channel, with_sender}
use Rattle.promise.proofs.Invariant.{Answered, Got, Bytes, Blank, IsReset, Shelf, SentOk, Running, Inv, fresh, resetting, running, not_bool, got_accepted}

-- ---- at Open and Failing

-- what is acknowledged without a gap is delivered
gapless : (del : List Pay) (held : Marks) (c k : ℕ) → held 0 ≡ false → c ≤ length del → ((i : ℕ) → i < k → Got del held (c + i))
    → c + k ≤ length del
gapless del held c k gap le got = go (dec_le (c + k) (length del))
  where
    at_end : Got del held (c + (length del - c)) → ⊥
    at_end (inl l) = omega arith
    at_end (inr (i, e, q)) = let z : i ≡ 0 = omega arith in not_bool q (ap held z ∙ gap)

    go : Dec (c + k ≤ length del) → c + k ≤ length del
    go (yes h) = h
    go (no h) = absurd (at_end (got (length del - c) (omega arith)))

module _ (W : ℕ) (w : is_size W ≡ true) (g : Channel) (v : Shelf) (f : Running W v g) (n b : ℕ) (ans : Memᴰ (ack n b) g.hist.back)
    (late : NotLate W (1 + g.sender.confirmed) n) where
  -- how far it seems to lie from the start
  abbrev off : ℕ
  off = distance_of g.sender.start b

  off_is : off ≡ distance_of (byte_of (1 + g.sender.confirmed)) (byte_of n)
  off_is = rw (f.bytes.backs _ ans, f.sending.start)

  -- in the window, it answers what the receiver has
  counts : off < W → Got g.hist.delivered v.held (g.sender.confirmed + off)
  counts h = go n refl
    where
      go : (x : ℕ) → n ≡ x → Got g.hist.delivered v.held (g.sender.confirmed + off)
      go zero e = absurd (let lo = in_window W (1 + g.sender.confirmed) n w (omega (arith, size_pos W w)) late (rw off_is at h) in omega arith)
      go (suc j) e =
          let a : Answered g.hist.tags g.hist.back (suc j) = inr (b, subst (λ (x : ℕ). Memᴰ (ack x b) g.hist.back) e ans) in
          let got = f.answers j a in
          let lt = got_accepted j f.receiving got in
          let hi : n < 1 + g.sender.confirmed + W = omega (arith, f.sending.span, f.sending.width) in
          let lo = in_window W (1 + g.sender.confirmed) n w hi late (rw off_is at h) in
          let q = distance_is W (1 + g.sender.confirmed) n w hi lo in
          let z : j ≡ g.sender.confirmed + off = omega (arith, off_is) in
          subst (Got g.hist.delivered v.held) z got

  -- it counts, and the start passes what is acknowledged without a gap
  pass_keeps : off < W
      → Running W v (with_sender (s_pass (run W 0 (mark off g.sender.acknowledged)) (mark off g.sender.acknowledged) g.sender) g)
  pass_keeps h = record {
    sending = record {
      live = f.sending.live;
      counted = f.sending.counted;
      span = omega (arith, short, f.sending.span);
      width = omega (arith, f.sending.width);
      start = omega (arith, f.sending.start);
      stored = λ i l. rw add_assoc (f.sending.stored (run W 0 m + i) (omega arith));
    };
    receiving = f.receiving;
    at_open = f.at_open;
    behind = reached;
    marks = λ i q. subst (Got g.hist.delivered v.held) (sym (add_assoc g.sender.confirmed (run W 0 m) i)) (each (run W 0 m + i) q);
    begun = f.begun;
    frames = f.frames;
    answers = f.answers;
    quiet = f.quiet;
    bytes = f.bytes;
  }
    where
      m : Marks
      m = mark off g.sender.acknowledged

      each : (i : ℕ) → m i ≡ true → Got g.hist.delivered v.held (g.sender.confirmed + i)
      each i q = go (mark_cases off i g.sender.acknowledged q)
        where
          go : (i ≡ off) ⊎ (g.sender.acknowledged i ≡ true) → Got g.hist.delivered v.held (g.sender.confirmed + i)
          go (inl e) = subst (λ (x : ℕ). Got g.hist.delivered v.held (g.sender.confirmed + x)) (sym e) (counts h)
          go (inr a) = f.marks i a

      reached : g.sender.confirmed + run W 0 m ≤ length g.hist.delivered
      reached = gapless g.hist.delivered v.held g.sender.confirmed (run W 0 m) f.receiving.gap f.behind (λ i l. each i (rw zero-add at (run_all W 0 m i l)))

      short : run W 0 m ≤ g.sender.taken
      short = omega (arith, reached, f.receiving.ahead, f.sending.span)

  count_keeps : Running W v (with_sender (s_count W g.sender off) g)
  count_keeps = go (ltb off W) refl (g.sender.handed off && not (g.sender.acknowledged off))
    where
      go : (x : Bool) → ltb off W ≡ x → (y : Bool)
          → Running W v (with_sender (pick (x && y) (s_pass (run W 0 (mark off g.sender.acknowledged)) (mark off g.sender.acknowledged) g.sender) g.sender) g)
      go true e true = pass_keeps (ltb-true off W e)
      go true e false = f
      go false e y = f

-- ---- at Enabled

-- the run is on: the receiver is blank, and nothing but Resets is about
blank_running : (W : ℕ) (g : Channel) → Memᴰ reset g.hist.sent → g.hist.accepted ≡ [] → Blank g.receiver g.hist.delivered
    → ((n : ℕ) → Answered g.hist.tags g.hist.back n → n ≡ 0) → ((x : Sent) → Memᴰ x g.hist.sent → IsReset x)
    → Bytes g.receiver.waiting g.hist.tags g.hist.back
    → Running W (record { held = none; payloads = g.receiver.payloads }) (with_sender s_opened g)
blank_running W g bg ea bl zs rs y = record {
  sending = record {
    live = tt;
    counted = omega (arith, la);
    span = omega (arith, la);
    width = omega arith;
    start = refl;
    stored = λ i l. absurd (omega arith);
  };
  receiving = record {
    ahead = omega (arith, ld);
    prefix = none_given ∙ ap (λ (x : ℕ). take x g.hist.accepted) (sym ld);
    holding = record { held_in = λ i h. absurd (true≢false (sym h)); held_is = λ i h. absurd (true≢false (sym h)) };
    gap = refl;
  };
  at_open = λ q. record {
    rstart = (bl.at_open q).0 ∙ ap (λ (x : ℕ). byte_of (1 + x)) (sym ld);
    same = ap (λ (m : Marks). record { held = m; payloads = g.receiver.payloads }) (sym (bl.at_open q).1);
  };
  behind = omega arith;
  marks = λ i h. absurd (true≢false (sym h));
  begun = bg;
  frames = λ x m. reset_ok x (rs x m);
  answers = λ j a. absurd (let z = zs (suc j) a in omega arith);
  quiet = λ e. (none_given, λ i. refl);
  bytes = y;
}
  where
    none_given : g.hist.delivered ≡ []
    none_given = bl.undelivered

    la : length g.hist.accepted ≡ 0
    la = ap length ea

    ld : length g.hist.delivered ≡ 0
    ld = ap length none_given

    reset_ok : (x : Sent) → IsReset x → SentOk g.hist.accepted x
    reset_ok reset t = tt
    reset_ok (data! n b p) t = absurd t

-- ---- at any state

pub ack_in_keeps : (W : ℕ) → is_size W ≡ true → (g : Channel) (n b : ℕ) → Memᴰ (ack n b) g.hist.back
    → NotLate W (s_first g.sender.state g.sender.confirmed) n → Inv W g → Inv W (with_sender (s_ack W g.sender b) g)
ack_in_keeps W w g n b m late (fresh f) = absurd (f.silent n (inr (b, m)))
ack_in_keeps W w g n b m late (resetting f) =
    subst (λ (t : SState). Inv W (with_sender (s_ack_at t W g.sender b) g)) (sym f.enabled)
    (subst (λ (c : Bool). Inv W (with_sender (pick c s_opened g.sender) g)) (sym is_zero)
    (running _ (blank_running W g f.begun f.none_accepted z.1 (λ x a. (f.zeros x a).0) f.resets f.bytes)))
  where
    z : (n ≡ 0) × Blank g.receiver g.hist.delivered
    z = f.zeros n (inr (b, m))

    b_zero : b ≡ 0
    b_zero = f.bytes.backs _ m ∙ ap byte_of z.0

    is_zero : eqb b 0 ≡ true
    is_zero = ap (λ (x : ℕ). eqb x 0) b_zero
ack_in_keeps W w g n b m late (running v f) = running v (go g.sender.state f.sending.live late)
  where
    go : (t : SState) → Live t → NotLate W (s_first t g.sender.confirmed) n → Running W v (with_sender (s_ack_at t W g.sender b) g)
    go s_closed l h = absurd l
    go (s_enabled asked) l h = absurd l
    go s_open l h = count_keeps W w g v f n b m h
    go s_failing l h = count_keeps W w g v f n b m h

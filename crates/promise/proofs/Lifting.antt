-- Demand 3 over two nodes: whatever two nodes keep the laws of Laws.antt, each move of theirs is a step of the one channel that
-- their entries are viewed as, so the promise of specs/Promise.antt holds. Assumes nothing.
use Prim.Native.Nat.{ℕ, ◌+◌}
use mathlib.Core.Path.{◌≡◌, refl, ap, sym, subst, ◌∙◌}
use mathlib.Core.Bool.{Bool, true, false}
use mathlib.Core.List.{List, [], ◌∷◌, map, append-nil}
use native.Mathlib.Omega.{arith}
use lib.Seq.{append_snoc}
use Rattle.units.specs.Sizes.{is_size}
use Rattle.window.specs.Numbers.{distance_of, byte_of}
use Rattle.window.proofs.Sizes.{size_le}
use Rattle.promise.specs.History.{Pay, s_enabled, Live, Sent, data!, Tag, old, new, Hist, SSeen, s_accepts, s_hears, RSeen, r_acks, r_resets, r_takes, SOwn, ROwn, s_note, popped, answered, r_note}
use Rattle.promise.specs.Promise.{SSide, RSide, AsPromised, Sys, begin, Move, at_sender, at_receiver, ack_comes, reset_comes, data_comes, old_ack_comes, old_reset_comes, old_data_comes, Moves, no_move, and_then, Demand3}
use Rattle.promise.proofs.Channel.{Send, s_send, s_hand, s_ack, Recv, r_open, Up, r_wait, r_reset, r_data, Channel, tag_byte, g_hand, send, reset_out, data_out, fail, close_receiver, open_receiver, ack_out, reset_in, data_in_holds, ack_in, old_reset_in, old_data_in, old_ack_in}
use Rattle.promise.proofs.Invariant.{Inv, fresh, resetting, running, at_open, kept}
use Rattle.promise.proofs.OneChannel.{step_keeps, starts}
use Rattle.promise.proofs.Laws.{Accepts, accepts_none, accepts_one, SNext, sn_same, sn_fail, sn_accept, sn_reset, sn_send, sn_hear, sn_end, RNext, rn_same, rn_open, rn_ack, rn_reset, rn_data, rn_close, SLaws, RLaws, s_viewed, r_viewed}

-- the channel of two views
abbrev whole : Send → Recv → Hist → Channel
whole s r h = record { sender = s; receiver = r; hist = h }

module _ (W : ℕ) (w : is_size W ≡ true) where
  -- ---- a call of the node's own is a step of the channel

  -- payloads that were accepted are so many sends
  accepts_own : (s t : Send) (ps : List Pay) (r : Recv) (h : Hist) → Accepts W s ps t → Inv W (whole s r h)
      → Inv W (whole t r (s_note 0 (s_accepts ps) h))
  accepts_own s t ps r h (accepts_none _) i = rw (append-nil h.accepted) i
  accepts_own s t ps r h (accepts_one _ _ p qs q l a) i =
      rw (append_snoc h.accepted p qs)
      at (accepts_own (s_send s p) t qs r (s_note 0 (s_accepts (p ∷ [])) h) a (step_keeps W w (whole s r h) _ (send _ p q l) i))

  sender_own : (s t : Send) (e : SSeen) (r : Recv) (h : Hist) → SNext W s e t → SOwn e → Inv W (whole s r h)
      → Inv W (whole t r (s_note s.confirmed e h))
  sender_own s t e r h (sn_same _) o i = i
  sender_own s t e r h (sn_fail _ q) o i = step_keeps W w (whole s r h) _ (fail _ q) i
  sender_own s t e r h (sn_accept _ _ ps a) o i = accepts_own s t ps r h a i
  sender_own s t e r h (sn_reset _ asked q) o i = step_keeps W w (whole s r h) _ (reset_out _ asked q) i
  sender_own s t e r h (sn_send _ k q l) o i =
      subst (λ (x : ℕ). Inv W (g_hand (s_hand k s) (numbered x) (whole s r h))) (sym same) (step_keeps W w (whole s r h) _ (data_out _ k q l) i)
    where
      numbered : ℕ → Sent
      numbered x = data! (1 + s.confirmed + x) (byte_of (s.start + k)) (s.payloads k)

      -- the number that the history counts is the one that was handed out
      same : distance_of (byte_of (1 + s.confirmed)) (byte_of (s.start + k)) ≡ k
      same = let f = (at_open W (whole s r h) i q).1.sending in omega (arith, f.start, f.width, size_le W w)
  sender_own s t e r h (sn_hear _ b) o i = absurd o
  sender_own s t e r h (sn_end _ _) o i = absurd o

  -- the oldest acknowledgement has its tag
  acked_head : (s : Send) (r : Recv) (h : Hist) (b : ℕ) (bs : List ℕ) → r.waiting ≡ b ∷ bs → Inv W (whole s r h)
      → Inv W (whole s (r_wait bs r) (r_note (old 0) h.data_in (r_acks b) h))
  acked_head s r h b bs e i = go h.tags refl (queue i)
    where
      queue : Inv W (whole s r h) → r.waiting ≡ map tag_byte h.tags
      queue (fresh f) = f.bytes.queue
      queue (resetting f) = f.bytes.queue
      queue (running v f) = f.bytes.queue

      after : List Tag → Hist
      after l = record {
        accepted = h.accepted;
        delivered = h.delivered;
        sent = h.sent;
        tags = popped l;
        back = answered l b h.back;
        data_in = h.data_in;
      }

      go : (l : List Tag) → h.tags ≡ l → r.waiting ≡ map tag_byte l → Inv W (whole s (r_wait bs r) (after l))
      go [] el q = absurd (let z : ◌≡◌ {A = ℕ} 0 1 = cc in omega arith)
      go (x ∷ xs) el q = step_keeps W w (whole s r h) _ (ack_out _ b bs x xs e el) i

  receiver_own : (s : Send) (r t : Recv) (e : RSeen) (h : Hist) → RNext W r e t → ROwn e → Inv W (whole s r h)
      → Inv W (whole s t (r_note (old 0) h.data_in e h))
  receiver_own s r t e h (rn_same _) o i = i
  receiver_own s r t e h (rn_open _ _ q up same) o i = step_keeps W w (whole s r h) _ (open_receiver _ t q up same) i
  receiver_own s r t e h (rn_ack _ b bs q) o i = acked_head s r h b bs q i
  receiver_own s r t e h (rn_reset _ u) o i = absurd o
  receiver_own s r t e h (rn_data _ b p q) o i = absurd o
  receiver_own s r t e h (rn_close _ _ q none-wait) o i = step_keeps W w (whole s r h) _ (close_receiver _ t q none-wait) i

  -- ---- an arrival, by what was seen of it

  hears : (s t : Send) (b : ℕ) (r : Recv) (h : Hist) → SNext W s (s_hears b) t → Inv W (whole (s_ack W s b) r h) → Inv W (whole t r h)
  hears s t b r h (sn_hear _ _) i = i

  resets : (s : Send) (r t : Recv) (h : Hist) → RNext W r r_resets t → (Up r.state → Inv W (whole s r_reset h))
      → Inv W (whole s t h)
  resets s r t h (rn_reset _ u) i = i u

  takes : (s : Send) (r : Recv) (b : ℕ) (p : Pay) (t : Recv) (given : List Pay) (x : Tag) (d : Bool) (h : Hist) → RNext W r (r_takes b p given) t
      → (r.state ≡ r_open → Inv W (whole s (r_data W r b p).next (r_note x d (r_takes b p (r_data W r b p).given) h)))
      → Inv W (whole s t (r_note x d (r_takes b p given) h))
  takes s r b p t given x d h (rn_data _ _ _ q) i = i q

  module _ (A : SSide) (B : RSide) (LA : SLaws W A) (LB : RLaws W B) where
    -- ---- the moves

    -- two nodes have views whose channel keeps the invariant
    record Holds (s : Sys A B) : Type 0 where
      vs : Send
      vr : Recv
      views_a : LA.Views s.sender vs
      views_b : LB.Views s.receiver vr
      inv : Inv W (whole vs vr s.hist)

    sender_moves : (s : Sys A B) (c : A.Call) (a : A.Node) (h : Hist) (k : Holds s) → A.Did s.sender c a
        → ((t : Send) → SNext W k.vs (A.seen c) t → Inv W (whole t k.vr h))
        → Holds (record { sender = a; receiver = s.receiver; hist = h })
    sender_moves s c a h k d i =
        let x = LA.law s.sender a c k.vs k.views_a d in
        record { vs = x.0; vr = k.vr; views_a = x.2; views_b = k.views_b; inv = i x.0 x.1 }

    receiver_moves : (s : Sys A B) (c : B.Call) (b : B.Node) (h : Hist) (k : Holds s) → B.Did s.receiver c b
        → ((t : Recv) → RNext W k.vr (B.seen c) t → Inv W (whole k.vs t h))
        → Holds (record { sender = s.sender; receiver = b; hist = h })
    receiver_moves s c b h k d i =
        let x = LB.law s.receiver b c k.vr k.views_b d in
        record { vs = k.vs; vr = x.0; views_a = k.views_a; views_b = x.2; inv = i x.0 x.1 }

    move_holds : (s t : Sys A B) → Move W A B s t → Holds s → Holds t
    move_holds s t (at_sender _ c a d o) k =
        let q : k.vs.confirmed ≡ A.confirmed s.sender = (LA.agrees s.sender k.vs k.views_a).2 in
        sender_moves s c a _ k d (λ t x. rw q at (sender_own k.vs t (A.seen c) k.vr s.hist x o k.inv))
    move_holds s t (at_receiver _ c b d o) k =
        receiver_moves s c b _ k d (λ t x. receiver_own k.vs k.vr t (B.seen c) s.hist x o k.inv)
    move_holds s t (ack_comes _ c a n y d e m late) k =
        let q = LA.agrees s.sender k.vs k.views_a in
        sender_moves s c a _ k d (λ t x.
        hears k.vs t y k.vr s.hist (rw e at x)
        (step_keeps W w (whole k.vs k.vr s.hist) _ (ack_in _ n y m (rw (q.0, q.2) late)) k.inv))
    move_holds s t (reset_comes _ c b d e m q) k =
        receiver_moves s c b _ k d (λ t x.
        resets k.vs k.vr t _ (rw e at x)
        (λ u. step_keeps W w (whole k.vs k.vr s.hist) _ (reset_in _ m q u) k.inv))
    move_holds s t (data_comes _ c b n y p given d e m late) k =
        receiver_moves s c b _ k d (λ t x.
        takes k.vs k.vr y p t given (new n) true s.hist (rw e at x)
        (λ u. step_keeps W w (whole k.vs k.vr s.hist) _ (data_in_holds _ n y p m late u) k.inv))
    move_holds s t (old_ack_comes _ c a y d e m) k =
        sender_moves s c a _ k d (λ t x.
        hears k.vs t y k.vr s.hist (rw e at x)
        (step_keeps W w (whole k.vs k.vr s.hist) _ (old_ack_in _ y m) k.inv))
    move_holds s t (old_reset_comes _ c b d e m) k =
        receiver_moves s c b _ k d (λ t x.
        resets k.vs k.vr t _ (rw e at x)
        (λ u. step_keeps W w (whole k.vs k.vr s.hist) _ (old_reset_in _ m u) k.inv))
    move_holds s t (old_data_comes _ c b y p given d e m) k =
        receiver_moves s c b _ k d (λ t x.
        takes k.vs k.vr y p t given (old y) s.hist.data_in s.hist (rw e at x)
        (λ u. step_keeps W w (whole k.vs k.vr s.hist) _ (old_data_in _ y p m u) k.inv))

    moves_hold : (s t : Sys A B) → Moves W A B s t → Holds s → Holds t
    moves_hold s t no_move k = k
    moves_hold s t (and_then {t = m} ms x) k = move_holds m t x (moves_hold s m ms k)

    -- ---- the theorem

    begins : (a : A.Node) (b : B.Node) (del : List Pay) → ((s : Send) × LA.Views a s) → ((r : Recv) × LB.Views b r)
        → A.state a ≡ s_enabled false → Holds (begin A B a b del)
    begins a b del (s, va) (r, vb) e = record {
      vs = s;
      vr = r;
      views_a = va;
      views_b = vb;
      inv = starts W _ (record {
        enabled = (LA.agrees a s va).0 ∙ e;
        none_accepted = refl;
        none_out = refl;
        none_back = refl;
        all_old = ap (map old) (sym (LB.agrees b r vb));
        no_data = refl;
      });
    }

    promised : (t : Sys A B) → Holds t → Live (A.state t.sender) → AsPromised (A.accepted t.sender) (A.confirmed t.sender) t.hist
    promised t k l =
        let q = LA.agrees t.sender k.vs k.views_a in
        rw (q.1, q.2) at (kept W _ k.inv (rw q.0 l))

    -- DEMAND 3 follows from the laws
    pub demand_3_nodes : Demand3 W A B
    unfolding Demand3
    demand_3_nodes a b del ra rb e t ms l =
        promised t (moves_hold (begin A B a b del) t ms (begins a b del (s_viewed W A LA a ra) (r_viewed W B LB b rb) e)) l

-- What a call on one entry leaves: an end point saved, the book altered within that entry, the waiting acknowledgements. Each with what is
-- to be shown of that entry alone. Assumes nothing.
use Prim.Native.Nat.{ℕ, zero, suc, ◌+◌, ◌/◌, ◌%◌, ◌≤◌, ◌<◌}
use mathlib.Core.Path.{◌≡◌, refl, sym, ap, subst, ◌∙◌}
use mathlib.Core.Logic.{◌≢◌, ◌⊎◌, inl, inr}
use mathlib.Core.Bool.{Bool, true, false, true≢false}
use mathlib.Core.List.Memᴰ
use mathlib.Core.List.{List, [], ◌∷◌, Memᴰ}
use native.Mathlib.Decide.{ℕ_discrete}
use native.Mathlib.Nat.{mod-lt}
use native.Mathlib.Omega.{arith}
use lib.ListN.{length, get_or, set, length-set}
use lib.Seq.{get_or-set_other}
use lib.Dec.{eqb}
use borrow.Author.Tests.{eqb-false}
use Rattle.units.specs.Refusals.{pick, Verdict}
use Rattle.units.specs.declared.refusals.Refusal.{Refusal}
use Rattle.memory.specs.Layout.{oldest_at, acks_at, ack_at, clock_at, quiet_at, node_words}
use Rattle.waiting.specs.Acks.{place_of, waiting_of, oldest_of, pushed, popped, turned, turns, dropped}
use Rattle.waiting.specs.Order.{from, acks_in, not_of}
use Rattle.waiting.specs.Port.{under_in}
use Rattle.waiting.proofs.Ringed.{Ring, push_rest, pop_rest, drop_rest}
use Rattle.end_points.proofs.Kept.{saved_head, saved_here, StateFits, RunFits}
use Rattle.window.specs.Windows.{Good as GoodWindow}
use Rattle.window.proofs.Resetting.{reset_good}
use Rattle.end_points.specs.Ends.{state_of, load_run, end_of, saved, word}
use Rattle.end_points.specs.Heads.{count_in}
use Rattle.end_points.specs.States.{is_sends}
use Rattle.end_points.specs.Runs.{anew, urgent_gone}
use Rattle.end_points.specs.Lent.{Lent}
use Rattle.end_points.specs.declared.State.{State}
use Rattle.end_points.specs.declared.State.TheVariants.{Closed, Enabled, Open, Failing}
use Rattle.end_points.specs.declared.Run.{Run}
use Rattle.end_points.specs.declared.EndPoint.{EndPoint}
use Rattle.timing.specs.Timing.{clock_in, quiet_in}
use Rattle.good.specs.Good.{Lists, Fresh, Entered, Timely, Owed, Good}
use Rattle.good.proofs.Framing.{Within, within_same, Apart, apart_same, apart_saved, apart_rest, framed, apart_count, apart_timely, entry_low}
use Rattle.std.specs.Prelude.{Ok, Err}

-- ---- an end point as it is loaded

pub run_fits : (ws : List ℕ) (i : ℕ) → RunFits (end_of ws i).run
unfolding end_of load_run
run_fits ws i =
    record {
      start = mod-lt (word ws i 11) (omega arith);
      taken = mod-lt (word ws i 14) (omega arith);
      handed = mod-lt (word ws i 15) (omega arith);
      accepted = mod-lt (word ws i 16) (omega arith);
      confirmed = mod-lt (word ws i 17) (omega arith);
      urgent = mod-lt (word ws i 18) (omega arith);
    }

pub state_fits : (ws : List ℕ) (i : ℕ) → StateFits (end_of ws i).state
unfolding end_of state_of
state_fits ws i = tag (eqb (word ws i 8 % 4) 0) (eqb (word ws i 8 % 4) 1) (eqb (word ws i 8 % 4) 2)
  where
    tag : (a b c : Bool) → StateFits (pick a Closed (pick b (Enabled (word ws i 9 % 65536) (eqb (word ws i 10 % 2) 1)) (pick c Open (Failing (word ws i 9 % 65536)))))
    tag true b c = tt
    tag false true c = mod-lt (word ws i 9) (omega arith)
    tag false false true = tt
    tag false false false = mod-lt (word ws i 9) (omega arith)

-- end point e in another state, with another run
abbrev pub turned_to : EndPoint → State → Run → EndPoint
turned_to e s r = record { entry = e.entry; place = e.place; state = s; run = r }

pub end_saved : (ws : List ℕ) (i : ℕ) (s : State) (r : Run) → length ws ≡ node_words → i < 16 → StateFits s → RunFits r → r.window.size ≡ (end_of ws i).run.window.size
    → end_of (saved ws i s r) i ≡ turned_to (end_of ws i) s r
unfolding end_of load_run
end_saved ws i s r long low sf rf e = saved_here ws i s r long low sf rf e

-- ---- a run begun anew, and one whose Urgent is gone

pub anew_fits : (r : Run) → RunFits r → RunFits (anew r)
unfolding anew
anew_fits r f =
    record { start = omega arith; taken = omega arith; handed = omega arith; accepted = f.accepted; confirmed = f.confirmed; urgent = omega arith }

pub anew_size : (r : Run) → (anew r).window.size ≡ r.window.size
unfolding anew
anew_size r = refl

pub anew_fresh : (r : Run) → Fresh (anew r)
unfolding anew
anew_fresh r = record { window = refl; taken = refl; handed = refl; urgent = refl }

pub anew_window : (r : Run) → GoodWindow r.window → GoodWindow (anew r).window
unfolding anew
anew_window r g = reset_good r.window g

pub gone_fits : (r : Run) → RunFits r → RunFits (urgent_gone r)
unfolding urgent_gone
gone_fits r f =
    record { start = f.start; taken = f.taken; handed = f.handed; accepted = f.accepted; confirmed = f.confirmed; urgent = omega arith }

-- ---- the waiting acknowledgements

-- they lie in a ring
pub ring_of : (t ws b : List ℕ) (l : Lists) → Good t ws b l → Ring ws
ring_of t ws b l g = record { long = omega (arith, g.long); most = g.acks }

from_ext : (ws vs : List ℕ) → ((k : ℕ) → k < 64 → get_or vs k 0 ≡ get_or ws k 0) → (k n : ℕ) → k < 32 → from vs k n ≡ from ws k n
unfolding from
from_ext ws vs h k zero l = refl
from_ext ws vs h k (suc n) l = rw (h (ack_at k) (omega arith), from_ext ws vs h ((k + 1) % 32) n (mod-lt (k + 1) (omega arith)))

pub acks_ext : (ws vs : List ℕ) → ((k : ℕ) → k < 64 → get_or vs k 0 ≡ get_or ws k 0) → (waiting_of vs ≡ waiting_of ws) × (acks_in vs ≡ acks_in ws)
acks_ext ws vs h =
    let p : get_or vs oldest_at 0 ≡ get_or ws oldest_at 0 = h 4 (omega arith) in
    let n : get_or vs acks_at 0 ≡ get_or ws acks_at 0 = h 5 (omega arith) in
    (ap (λ (x : ℕ). x % 64) n, rw (p, n) (from_ext ws vs h (place_of ws) (waiting_of ws) (mod-lt (get_or ws oldest_at 0) (omega arith))))

-- an end point saved leaves them
pub saved_acks : (ws : List ℕ) (i : ℕ) (s : State) (r : Run) → (waiting_of (saved ws i s r) ≡ waiting_of ws) × (acks_in (saved ws i s r) ≡ acks_in ws)
saved_acks ws i s r = acks_ext ws (saved ws i s r) (λ k h. saved_head ws i s r k h)

-- they stay owed to other entries, and to one that stays open
pub owed_other : (i : ℕ) (ws ws' : List ℕ) → Apart i ws ws' → (w : ℕ) → Owed ws w → w / 256 ≢ i → Owed ws' w
owed_other i ws ws' a w o n =
    let e = a.others (w / 256) n in
    record { known = rw (apart_count i ws ws' a) o.known; receives = rw e o.receives; opened = rw e o.opened }

pub owed_open : (i : ℕ) (ws ws' : List ℕ) → Apart i ws ws' → is_sends (end_of ws' i).entry.kind ≡ false → (end_of ws' i).state ≡ Open → (w : ℕ) → Owed ws w → Owed ws' w
owed_open i ws ws' a k s w o = sides (ℕ_discrete (w / 256) i)
  where
    sides : Dec (w / 256 ≡ i) → Owed ws' w
    sides (yes e) = record { known = rw (apart_count i ws ws' a) o.known; receives = rw e k; opened = rw e s }
    sides (no n) = owed_other i ws ws' a w o n

-- ---- a turn of an entry that nothing is owed to

module _ (t ws b : List ℕ) (l : Lists) (g : Good t ws b l) (i : ℕ) (li : i < count_in ws) where
  pub book_turn : (b' : List ℕ) (l' : Lists) → Within i b b' l l' → Entered b' l' i (end_of ws i) → Timely (clock_in ws) (quiet_in ws) b' i (end_of ws i) (end_of ws i).state
      → Good t ws b' l'
  book_turn b' l' v e s = framed i ws ws (apart_same i ws) t b b' l l' g v li g.acks g.owed e s

  pub free_turn : ((w : ℕ) → Memᴰ w (acks_in ws) → w / 256 ≢ i) → (s : State) (r : Run) → StateFits s → RunFits r → r.window.size ≡ (end_of ws i).run.window.size
      → (b' : List ℕ) (l' : Lists) → Within i b b' l l' → Entered b' l' i (turned_to (end_of ws i) s r)
      → Timely (clock_in ws) (quiet_in ws) b' i (turned_to (end_of ws i) s r) s → Good t (saved ws i s r) b' l'
  free_turn free s r sf rf size b' l' v e m =
      let a = apart_saved i ws s r in
      let same = saved_acks ws i s r in
      let now = end_saved ws i s r g.long (entry_low t ws b l g i li) sf rf size in
      framed i ws (saved ws i s r) a t b b' l l' g v li (rw same.0 g.acks)
      (λ w m. let n = subst (λ (ws : List ℕ). Memᴰ w ws) same.1 m in owed_other i ws (saved ws i s r) a w (g.owed w n) (free w n))
      (subst (Entered b' l' i) (sym now) e)
      (subst (λ (z : EndPoint). Timely (clock_in (saved ws i s r)) (quiet_in (saved ws i s r)) b' i z z.state) (sym now)
      (apart_timely i ws (saved ws i s r) a b' i (turned_to (end_of ws i) s r) s m))

  -- a sender's, however its end point was put back
  pub sender_put : is_sends (end_of ws i).entry.kind ≡ true → (ws' : List ℕ) → Apart i ws ws' → waiting_of ws' ≡ waiting_of ws → acks_in ws' ≡ acks_in ws
      → (b' : List ℕ) (l' : Lists) → Within i b b' l l' → (e : EndPoint) → end_of ws' i ≡ e → Entered b' l' i e → Timely (clock_in ws) (quiet_in ws') b' i e e.state
      → Good t ws' b' l'
  sender_put k ws' a few same b' l' v e now here soon =
      framed i ws ws' a t b b' l l' g v li (rw few g.acks)
      (λ w m. let n = subst (λ (ys : List ℕ). Memᴰ w ys) same m in
      owed_other i ws ws' a w (g.owed w n) (λ q. true≢false (sym k ∙ subst (λ (j : ℕ). is_sends (end_of ws j).entry.kind ≡ false) q (g.owed w n).receives)))
      (subst (Entered b' l' i) (sym now) here)
      (subst (λ (z : EndPoint). Timely (clock_in ws') (quiet_in ws') b' i z z.state) (sym now)
      (subst (λ (c : ℕ). Timely c (quiet_in ws') b' i e e.state) (sym a.clock) soon))

  -- nothing is owed to one that is not open
  pub not_owed : ((end_of ws i).state ≡ Open → ⊥) → (w : ℕ) → Memᴰ w (acks_in ws) → w / 256 ≢ i
  not_owed n w m e = n (subst (λ (j : ℕ). (end_of ws j).state ≡ Open) e (g.owed w m).opened)

  -- nor to a sender
  pub sender_turn : is_sends (end_of ws i).entry.kind ≡ true → (s : State) (r : Run) → StateFits s → RunFits r → r.window.size ≡ (end_of ws i).run.window.size
      → (b' : List ℕ) (l' : Lists) → Within i b b' l l' → Entered b' l' i (turned_to (end_of ws i) s r)
      → Timely (clock_in ws) (quiet_in ws) b' i (turned_to (end_of ws i) s r) s → Good t (saved ws i s r) b' l'
  sender_turn k =
      free_turn (λ w m e. true≢false (sym k ∙ subst (λ (j : ℕ). is_sends (end_of ws j).entry.kind ≡ false) e (g.owed w m).receives))

-- ---- the ring: words 4, 5 and 32 to 63 alone

-- a node of as many words, the same in its head and its clock
record Ringwise (ws vs : List ℕ) : Type 0 where
  long : length vs ≡ length ws
  head : (k : ℕ) → k < 4 → get_or vs k 0 ≡ get_or ws k 0
  clock : (k : ℕ) → 6 ≤ k → k < 8 → get_or vs k 0 ≡ get_or ws k 0

push_ringwise : (ws : List ℕ) (w : ℕ) → Ringwise ws (pushed ws w)
unfolding pushed
push_ringwise ws w =
    let at = ack_at ((place_of ws + waiting_of ws) % 32) in
    record {
      long = length-set (set ws at w) acks_at (waiting_of ws + 1) ∙ length-set ws at w;
      head = λ k h. get_or-set_other (set ws at w) acks_at k (waiting_of ws + 1) 0 (λ e. omega arith) ∙ get_or-set_other ws at k w 0 (λ e. omega arith);
      clock = λ k m h. get_or-set_other (set ws at w) acks_at k (waiting_of ws + 1) 0 (λ e. omega arith) ∙ get_or-set_other ws at k w 0 (λ e. omega arith);
    }

pop_ringwise : (ws : List ℕ) → Ringwise ws (popped ws)
unfolding popped
pop_ringwise ws =
    record {
      long = length-set (set ws oldest_at ((place_of ws + 1) % 32)) acks_at ((waiting_of ws + 63) % 64) ∙ length-set ws oldest_at ((place_of ws + 1) % 32);
      head = λ k h. get_or-set_other (set ws oldest_at ((place_of ws + 1) % 32)) acks_at k ((waiting_of ws + 63) % 64) 0 (λ e. omega arith)
          ∙ get_or-set_other ws oldest_at k ((place_of ws + 1) % 32) 0 (λ e. omega arith);
      clock = λ k m h. get_or-set_other (set ws oldest_at ((place_of ws + 1) % 32)) acks_at k ((waiting_of ws + 63) % 64) 0 (λ e. omega arith)
          ∙ get_or-set_other ws oldest_at k ((place_of ws + 1) % 32) 0 (λ e. omega arith);
    }

then_ringwise : (a b c : List ℕ) → Ringwise a b → Ringwise b c → Ringwise a c
then_ringwise a b c v w = record { long = w.long ∙ v.long; head = λ k h. w.head k h ∙ v.head k h; clock = λ k m h. w.clock k m h ∙ v.clock k m h }

either_ringwise : (a x y : List ℕ) (t : Bool) → Ringwise a x → Ringwise a y → Ringwise a (pick t x y)
either_ringwise a x y true v w = v
either_ringwise a x y false v w = w

turn_ringwise : (i : ℕ) (ws : List ℕ) → Ringwise ws (turned i ws)
unfolding turned
turn_ringwise i ws =
    either_ringwise ws (popped ws) (pushed (popped ws) (oldest_of ws)) (eqb (oldest_of ws / 256 % 256) i) (pop_ringwise ws)
    (then_ringwise ws (popped ws) (pushed (popped ws) (oldest_of ws)) (pop_ringwise ws) (push_ringwise (popped ws) (oldest_of ws)))

turns_ringwise : (i n : ℕ) (ws : List ℕ) → Ringwise ws (turns i n ws)
unfolding turns
turns_ringwise i zero ws = record { long = refl; head = λ k h. refl; clock = λ k m h. refl }
turns_ringwise i (suc n) ws = then_ringwise ws (turns i n ws) (turned i (turns i n ws)) (turns_ringwise i n ws) (turn_ringwise i (turns i n ws))

-- only the ring of acknowledgements alters
ring_apart : (i : ℕ) (ws vs : List ℕ) → Ringwise ws vs → ((k : ℕ) → 64 ≤ k → get_or vs k 0 ≡ get_or ws k 0) → Apart i ws vs
ring_apart i ws vs p rest =
    apart_rest i ws vs p.long p.head (ap (λ (x : ℕ). x % 65536) (p.clock clock_at (omega arith) (omega arith)))
    (let q = p.clock quiet_at (omega arith) (omega arith) in omega (arith, q)) rest

pub push_apart : (i : ℕ) (ws : List ℕ) (w : ℕ) → Ring ws → Apart i ws (pushed ws w)
push_apart i ws w r = ring_apart i ws (pushed ws w) (push_ringwise ws w) (push_rest ws r w)

pub pop_apart : (i : ℕ) (ws : List ℕ) → Ring ws → Apart i ws (popped ws)
pop_apart i ws r = ring_apart i ws (popped ws) (pop_ringwise ws) (pop_rest ws r)

pub drop_apart : (i j : ℕ) (ws : List ℕ) → Ring ws → Apart j ws (dropped i ws)
drop_apart i j ws r = ring_apart j ws (dropped i ws) (turns_ringwise i (waiting_of ws) ws) (drop_rest i ws r)

-- every end point is then as it was
pub push_end : (i : ℕ) (ws : List ℕ) (w : ℕ) → Ring ws → end_of (pushed ws w) i ≡ end_of ws i
push_end i ws w r = (push_apart (suc i) ws w r).others i (λ e. omega arith)

pub pop_end : (i : ℕ) (ws : List ℕ) → Ring ws → end_of (popped ws) i ≡ end_of ws i
pop_end i ws r = (pop_apart (suc i) ws r).others i (λ e. omega arith)

pub drop_end : (i j : ℕ) (ws : List ℕ) → Ring ws → end_of (dropped i ws) j ≡ end_of ws j
drop_end i j ws r = (drop_apart i (suc j) ws r).others j (λ e. omega arith)

-- none of entry i's is left
pub not_in : (i : ℕ) (l : List ℕ) (w : ℕ) → Memᴰ w (not_of i l) → Memᴰ w l × (w / 256 % 256 ≢ i)
not_in i [] w m = absurd (Memᴰ.not-nil m)
not_in i (x ∷ xs) w m = sides (not_in i xs w) (eqb (x / 256 % 256) i) refl m
  where
    deeper : Memᴰ w xs × (w / 256 % 256 ≢ i) → Memᴰ w (x ∷ xs) × (w / 256 % 256 ≢ i)
    deeper p = (Memᴰ.tail p.0, p.1)

    here : (Memᴰ w (not_of i xs) → Memᴰ w xs × (w / 256 % 256 ≢ i)) → eqb (x / 256 % 256) i ≡ false → (w ≡ x) ⊎ Memᴰ w (not_of i xs)
        → Memᴰ w (x ∷ xs) × (w / 256 % 256 ≢ i)
    here below e (inl h) = (Memᴰ.head h, λ k. eqb-false (x / 256 % 256) i e (ap (λ (y : ℕ). y / 256 % 256) (sym h) ∙ k))
    here below e (inr k) = deeper (below k)

    sides : (Memᴰ w (not_of i xs) → Memᴰ w xs × (w / 256 % 256 ≢ i)) → (t : Bool) → eqb (x / 256 % 256) i ≡ t → Memᴰ w (pick t (not_of i xs) (x ∷ not_of i xs))
        → Memᴰ w (x ∷ xs) × (w / 256 % 256 ≢ i)
    sides below true e k = deeper (below k)
    sides below false e k = here below e (Memᴰ.cases_cons k)

-- ---- a call on entry i

-- a node that is good before it is good after it, and only entry i's business altered; what is under way is the same
pub record Kept (t : List ℕ) (x x' : Lent) (l : Lists) (i : ℕ) : Type 0 where
  pub lists : Lists
  pub good : Good t x'.node x'.book lists
  pub apart : Apart i x.node x'.node
  pub within : Within i x.book x'.book l lists
  pub under : under_in x'.book ≡ under_in x.book

pub kept_same : (t : List ℕ) (x : Lent) (l : Lists) (i : ℕ) → Good t x.node x.book l → Kept t x x l i
kept_same t x l i g = record { lists = l; good = g; apart = apart_same i x.node; within = within_same i x.book l g.lines; under = refl }

-- a call that answers a verdict: refused, it leaves all as it was
pub kept_either : (t : List ℕ) (x : Lent) (l : Lists) (i : ℕ) → Good t x.node x.book l → (after : Verdict → Lent)
    → ((w : Refusal) → after (Err w) ≡ x) → (v : Verdict) → (v ≡ Ok tt → Kept t x (after (Ok tt)) l i) → Kept t x (after v) l i
kept_either t x l i g after same (Ok _) h = h refl
kept_either t x l i g after same (Err w) h = subst (λ (y : Lent). Kept t x y l i) (sym (same w)) (kept_same t x l i g)

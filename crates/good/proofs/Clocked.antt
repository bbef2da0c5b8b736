-- The clock's two words of the head: whatever they hold, end points and waiting acknowledgements are the same, and a good node is good
-- where its timers stay timely. Assumes nothing.
use Prim.Native.Nat.{ℕ, zero, suc, ◌+◌, ◌-◌, ◌/◌, ◌%◌, ◌≤◌, ◌<◌, min}
use mathlib.Core.Path.{◌≡◌, refl, sym, ap, subst, ◌∙◌}
use mathlib.Core.List.{List, Memᴰ}
use native.Mathlib.Nat.{mod-lt, mod-eq_of_lt}
use native.Mathlib.Omega.{arith}
use lib.ListN.{length, get_or, set, length-set}
use lib.Seq.{get_or-set_same, get_or-set_other}
use Rattle.memory.specs.Layout.{oldest_at, acks_at, ack_at, clock_at, quiet_at, row_at, entry_at, node_words}
use Rattle.waiting.specs.Acks.{place_of, waiting_of}
use Rattle.waiting.specs.Order.{from, acks_in}
use Rattle.end_points.proofs.Kept.{end_ext}
use Rattle.end_points.specs.Ends.{end_of}
use Rattle.end_points.specs.Heads.{count_in}
use Rattle.end_points.specs.declared.EndPoint.{EndPoint}
use Rattle.timing.specs.Timing.{clock_in, quiet_in, later, passed, heeded, roused}
use Rattle.timing.proofs.Falling.{later_runs, left_starts}
use Rattle.good.specs.Good.{Lists, Entered, Outlasts, Timely, Owed, Good}
use Rattle.good.proofs.Framing.{Apart, apart_rest, same_tabled}

-- two nodes that agree but for the clock's words
pub record Clocked (ws ws' : List ℕ) : Type 0 where
  pub long : length ws' ≡ length ws
  pub head : (k : ℕ) → k < 6 → get_or ws' k 0 ≡ get_or ws k 0
  pub rest : (k : ℕ) → 8 ≤ k → get_or ws' k 0 ≡ get_or ws k 0

pub clocked_set : (ws : List ℕ) (k v : ℕ) → 6 ≤ k → k < 8 → Clocked ws (set ws k v)
clocked_set ws k v low high =
    record {
      long = length-set ws k v;
      head = λ j h. get_or-set_other ws k j v 0 (λ e. omega arith);
      rest = λ j h. get_or-set_other ws k j v 0 (λ e. omega arith);
    }

clocked_then : (a b c : List ℕ) → Clocked a b → Clocked b c → Clocked a c
clocked_then a b c v w =
    record { long = w.long ∙ v.long; head = λ k h. w.head k h ∙ v.head k h; rest = λ k h. w.rest k h ∙ v.rest k h }

-- ---- tick c has passed, and q more may

pub pass_clocked : (ws : List ℕ) (c q : ℕ) → Clocked ws (passed ws c q)
pass_clocked ws c q =
    clocked_then ws (set ws clock_at c) (passed ws c q) (clocked_set ws clock_at c (omega arith) (omega arith))
    (clocked_set (set ws clock_at c) quiet_at q (omega arith) (omega arith))

pub pass_quiet : (ws : List ℕ) (c q : ℕ) → length ws ≡ node_words → quiet_in (passed ws c q) ≡ q
pass_quiet ws c q long = get_or-set_same (set ws clock_at c) quiet_at q 0 (omega (arith, length-set ws clock_at c))

pub pass_clock : (ws : List ℕ) (c q : ℕ) → length ws ≡ node_words → c ≤ 65535 → clock_in (passed ws c q) ≡ c
pass_clock ws c q long small =
    ap (λ (z : ℕ). z % 65536) (get_or-set_other (set ws clock_at c) quiet_at clock_at q 0 (λ e. omega arith) ∙ get_or-set_same ws clock_at c 0 (omega (arith, long)))
    ∙ mod-eq_of_lt (omega arith)

-- ---- fewer ticks may pass

module _ (ws : List ℕ) (long : length ws ≡ node_words) where
  quiet_set : (q : ℕ) → quiet_in (set ws quiet_at q) ≡ q
  quiet_set q = get_or-set_same ws quiet_at q 0 (omega (arith, long))

  -- nothing else alters
  quiet_apart : (q : ℕ) → q ≤ quiet_in ws → (i : ℕ) → Apart i ws (set ws quiet_at q)
  quiet_apart q fewer i =
      apart_rest i ws (set ws quiet_at q) (length-set ws quiet_at q) (λ k h. get_or-set_other ws quiet_at k q 0 (λ e. omega arith))
      (ap (λ (x : ℕ). x % 65536) (get_or-set_other ws quiet_at clock_at q 0 (λ e. omega arith))) (let e = quiet_set q in omega (arith, e, fewer))
      (λ k h. get_or-set_other ws quiet_at k q 0 (λ e. omega arith))

  pub heeded_apart : (t i : ℕ) → Apart i ws (heeded ws t)
  heeded_apart t i = quiet_apart (min (quiet_in ws) (t - 1)) (omega arith) i

  pub heeded_quiet : (t : ℕ) → 1 ≤ t → quiet_in (heeded ws t) < t
  heeded_quiet t some = let e = quiet_set (min (quiet_in ws) (t - 1)) in omega (arith, e, some)

  pub roused_apart : (i : ℕ) → Apart i ws (roused ws)
  roused_apart i = quiet_apart 0 (omega arith) i

  pub roused_quiet : quiet_in (roused ws) ≡ 0
  roused_quiet = quiet_set 0

-- a timer that starts at t outlasts fewer
pub starts : (c q t : ℕ) → c ≤ 65535 → q < t → t ≤ 65535 → Outlasts c q (later c t)
starts c q t clock fewer most runs =
    let e = left_starts c t clock (omega arith) most in
    ((later_runs c t clock (omega arith) most).1, omega (arith, e, fewer))

-- ---- whatever the clock's words hold

module _ (ws ws' : List ℕ) (c : Clocked ws ws') where
  pub clocked_end : (j : ℕ) → end_of ws' j ≡ end_of ws j
  clocked_end j = end_ext ws' ws j (λ k h. c.rest (entry_at j + k) (omega arith))

  pub clocked_count : count_in ws' ≡ count_in ws
  clocked_count = ap (λ (x : ℕ). x % 256) (c.head 0 (omega arith))

  from_same : (k n : ℕ) → k < 32 → from ws' k n ≡ from ws k n
  unfolding from
  from_same k zero l = refl
  from_same k (suc n) l = rw (c.rest (ack_at k) (omega arith), from_same ((k + 1) % 32) n (mod-lt (k + 1) (omega arith)))

  pub clocked_waiting : waiting_of ws' ≡ waiting_of ws
  clocked_waiting = ap (λ (x : ℕ). x % 64) (c.head 5 (omega arith))

  pub clocked_acks : acks_in ws' ≡ acks_in ws
  clocked_acks =
      let p : get_or ws' oldest_at 0 ≡ get_or ws oldest_at 0 = c.head 4 (omega arith) in
      let n : get_or ws' acks_at 0 ≡ get_or ws acks_at 0 = c.head 5 (omega arith) in
      rw (p, n) (from_same (place_of ws) (waiting_of ws) (mod-lt (get_or ws oldest_at 0) (omega arith)))

  clocked_owed : (w : ℕ) → Owed ws w → Owed ws' w
  clocked_owed w o =
      let e = clocked_end (w / 256) in
      record { known = rw clocked_count o.known; receives = rw e o.receives; opened = rw e o.opened }

  pub clocked_good : (t b : List ℕ) (l : Lists) → Good t ws b l
      → ((j : ℕ) → j < count_in ws → Timely (clock_in ws') (quiet_in ws') b j (end_of ws j) (end_of ws j).state) → Good t ws' b l
  clocked_good t b l g soon =
      record {
        table = g.table;
        long = c.long ∙ g.long;
        tabled = same_tabled ws ws' (λ k h. c.head k (omega arith)) (λ j k h. c.rest (entry_at j + k) (omega arith)) (λ v h. c.rest (row_at v) (omega arith)) t g.tabled;
        acks = rw clocked_waiting g.acks;
        owed = λ w m. clocked_owed w (g.owed w (subst (λ (ys : List ℕ). Memᴰ w ys) clocked_acks m));
        lines = g.lines;
        known = λ q h x m. let p = g.known q h x m in (rw clocked_count p.0, p.1);
        entered = λ i h. subst (Entered b l i) (sym (clocked_end i)) (g.entered i (rw clocked_count at h));
        under = λ h. rw clocked_count (g.under h);
        timely = λ i h. subst (λ (z : EndPoint). Timely (clock_in ws') (quiet_in ws') b i z z.state) (sym (clocked_end i)) (soon i (rw clocked_count at h));
      }

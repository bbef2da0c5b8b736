-- A number of a sender's acknowledged: its window, its run and the book then, and that they are as a good node has them, at Open and
-- at Failing. Assumes nothing.
use Prim.Native.Nat.{ℕ, zero, suc, ◌+◌, ◌-◌, ◌≤◌, ◌<◌}
use mathlib.Core.Path.{◌≡◌, refl, sym, ap, subst, ◌∙◌}
use mathlib.Core.Logic.{◌≢◌, ◌⊎◌, inl, inr}
use mathlib.Core.Bool.{Bool, true, false, ◌||◌, true≢false}
use mathlib.Core.List.{List, ◌∷◌, Memᴰ}
use native.Mathlib.Decide.{ℕ_discrete, dec_lt}
use native.Mathlib.Omega.{arith}
use lib.ListN.{set}
use lib.Dec.{eqb, ltb}
use borrow.Author.Tests.{eqb-true, eqb-false, ltb-true}
use Rattle.std.proofs.lemmas.Bool.{and_parts}
use Rattle.units.specs.Refusals.{pick}
use Rattle.memory.specs.Layout.{resends, cell_id, timer_at}
use Rattle.waiting.specs.Queues.{unlinked}
use Rattle.waiting.specs.Port.{data_out}
use Rattle.window.specs.Windows.{held, offset_of, inside_of, accept_of, Good as GoodWindow}
use Rattle.window.specs.declared.Window.{Window}
use Rattle.window.specs.declared.Passed.{Passed}
use Rattle.window.proofs.Accepting.{found_new, accept_size, accept_good, accept_held}
use Rattle.window.proofs.Holding.{held_below_holds}
use Rattle.window.proofs.Passing.{run_held, pass_run, pass_size, pass_good, pass_held, pass_first}
use Rattle.end_points.proofs.Kept.{RunFits}
use Rattle.end_points.specs.Runs.{is_new}
use Rattle.end_points.specs.declared.Run.{Run}
use Rattle.slots.specs.Slots.{cell, past, timer_in}
use Rattle.arrive_ack.specs.Acking.{counts, passing, moved, stopped, fewer}
use Rattle.good.specs.Good.{Lists, Lines, mine, id_at, ids, Resend, Resends, Filled, Sending, running, Standing, Outlasts, Outlast}
use Rattle.good.proofs.Members.{without_in, without_keeps, mine_in, mine_without}
use Rattle.good.proofs.Lined.{less, unlink_lines, unlink_cells, unlink_under}
use Rattle.good.proofs.Known.{is_new_holds, either, neither}
use Rattle.good.proofs.Framing.{same_under, Within, within_then, within_unlink, cell_low}
use Rattle.good.proofs.Offsets.{number_pass, cell_pass, id_inj}
use Rattle.good.proofs.Senders.{Timed, timed_outlasts, timed_set, timed_after, within_timed, running_stopped, running_moved, gone_other}

-- ---- the window once a number is acknowledged

-- the number k past the start is held too, and the start passed p numbers, all of them held: the window is then u
pub record Passes (i : ℕ) (w : Window) (k p : ℕ) (u : Window) : Type 0 where
  pub good : GoodWindow u
  pub size : u.size ≡ w.size
  pub numbers : (j : ℕ) → past u j ≡ past w (p + j)
  pub cells : (j : ℕ) → cell i u (past u j) ≡ cell i w (past w (p + j))
  pub first : held u 0 ≡ false
  pub each : (j : ℕ) → held u j ≡ true → (p + j ≡ k) ⊎ (held w (p + j) ≡ true)
  pub none : (j : ℕ) → held u j ≡ false → (p + j ≢ k) × (held w (p + j) ≡ false)
  pub under : (j : ℕ) → j < p → (j ≡ k) ⊎ (held w j ≡ true)

-- what counts: in the window, handed out and not yet acknowledged
pub record Counts (r : Run) (s : ℕ) : Type 0 where
  pub inside : inside_of r.window s ≡ true
  pub handed : offset_of r.window s < r.handed
  pub missing : held r.window (offset_of r.window s) ≡ false

pub counts_says : (r : Run) (s : ℕ) → counts r s ≡ true → Counts r s
unfolding counts
counts_says r s h =
    let p = and_parts (ltb (offset_of r.window s) r.handed) (is_new (accept_of r.window s).found) h in
    let n = found_new r.window s (is_new_holds (accept_of r.window s).found p.1) in
    record { inside = n.0; handed = ltb-true (offset_of r.window s) r.handed p.0; missing = n.1 }

module _ (i : ℕ) (r : Run) (s : ℕ) (g : GoodWindow r.window) (c : Counts r s) where
  held_then : (j : ℕ) → held (passing r s).window j ≡ (eqb ((passing r s).run + j) (offset_of r.window s) || held r.window ((passing r s).run + j))
  held_then j =
      let a = (accept_of r.window s).window in
      pass_held a (accept_good r.window s g) j
      ∙ ap (λ (n : ℕ). held a (n + j)) (sym (pass_run a))
      ∙ accept_held r.window s g c.inside ((passing r s).run + j)

  pub passes : Passes i r.window (offset_of r.window s) (passing r s).run (passing r s).window
  passes =
      let a = (accept_of r.window s).window in
      let ga = accept_good r.window s g in
      record {
        good = pass_good a ga;
        size = pass_size a ∙ accept_size r.window s;
        numbers = λ j. number_pass r.window s j ∙ ap (λ (n : ℕ). past r.window (n + j)) (sym (pass_run a));
        cells = λ j. cell_pass i r.window s j ∙ ap (λ (n : ℕ). cell i r.window (past r.window (n + j))) (sym (pass_run a));
        first = pass_first a ga;
        each = λ j h. either ((passing r s).run + j) (offset_of r.window s) (held r.window ((passing r s).run + j)) (sym (held_then j) ∙ h);
        none = λ j h. neither ((passing r s).run + j) (offset_of r.window s) (held r.window ((passing r s).run + j)) (sym (held_then j) ∙ h);
        under = λ j h. either j (offset_of r.window s) (held r.window j)
            (sym (accept_held r.window s g c.inside j) ∙ run_held a j (subst (λ (n : ℕ). j < n) (pass_run a) h));
      }

-- ---- the run then

-- what the start passed was handed out
pub passed_le : (b : List ℕ) (i : ℕ) (r : Run) (largest : ℕ) → Sending b i r largest → (k : ℕ) → k < r.handed → (p : ℕ) (u : Window) → Passes i r.window k p u → p ≤ r.handed
passed_le b i r largest s k hk p u P = sides (dec_lt r.handed p)
  where
    more : (r.handed ≡ k) ⊎ (held r.window r.handed ≡ true) → p ≤ r.handed
    more (inl e) = absurd (omega arith)
    more (inr e) = absurd (omega (arith, s.acked r.handed e))

    sides : Dec (r.handed < p) → p ≤ r.handed
    sides (yes h) = more (P.under r.handed h)
    sides (no h) = omega arith

module _ (b b' : List ℕ) (i : ℕ) (low : i < 16) (r : Run) (g : GoodWindow r.window) (fits : RunFits r) (largest : ℕ) (S : Sending b i r largest)
    (k : ℕ) (hk : k < r.handed) (v : Passed) (P : Passes i r.window k v.run v.window) (T : Timed b b' i r.window k 0) where
  passed_most : v.run ≤ r.handed
  passed_most = passed_le b i r largest S k hk v.run v.window P

  -- a number that is acknowledged was handed out, and its timer does not run
  acked_handed : (j : ℕ) → (j ≡ k) ⊎ (held r.window j ≡ true) → j < r.handed
  acked_handed j (inl e) = omega arith
  acked_handed j (inr e) = S.acked j e

  acked_stopped : (j : ℕ) → (j ≡ k) ⊎ (held r.window j ≡ true) → timer_in b' (cell i r.window (past r.window j)) ≡ 0
  acked_stopped j (inl e) = ap (λ (x : ℕ). timer_in b' (cell i r.window (past r.window x))) e ∙ T.here
  acked_stopped j (inr e) = sides (ℕ_discrete j k)
    where
      sides : Dec (j ≡ k) → timer_in b' (cell i r.window (past r.window j)) ≡ 0
      sides (yes q) = ap (λ (x : ℕ). timer_in b' (cell i r.window (past r.window x))) q ∙ T.here
      sides (no q) = T.there j (held_below_holds r.window g j e) q ∙ S.stopped j e

  moved_filled : (j : ℕ) → j < r.taken - v.run → Filled b' i v.window largest j
  moved_filled j h =
      let f = S.filled (v.run + j) (omega arith) in
      let same = T.lengths (cell i r.window (past r.window (v.run + j))) (cell_low i low r.window g (past r.window (v.run + j))) in
      record { some = rw (P.cells j, same) f.some; most = rw (P.cells j, same) f.most }

  pub moved_sending : Sending b' i (moved r v) largest
  moved_sending =
      let n = passed_most in
      record {
        taken = rw P.size (omega (arith, S.taken));
        handed = omega (arith, S.handed);
        acked = λ j h. omega (arith, acked_handed (v.run + j) (P.each j h));
        first = P.first;
        counted = omega (arith, S.counted, S.handed, fits.accepted);
        filled = moved_filled;
        stopped = λ j h. rw (P.cells j) (acked_stopped (v.run + j) (P.each j h));
        urgent = S.urgent;
      }

  pub moved_fits : RunFits (moved r v)
  moved_fits =
      record {
        start = P.good.byte;
        taken = omega (arith, fits.taken);
        handed = omega (arith, fits.handed);
        accepted = fits.accepted;
        confirmed = omega arith;
        urgent = fits.urgent;
      }

  -- what is under way is the same number
  moved_under : (j : ℕ) → past v.window j ≡ data_out b' i → past r.window (v.run + j) ≡ data_out b i
  moved_under j o = sym (P.numbers j) ∙ o ∙ (same_under i b b' T.under).data!

  -- the timers of the numbers that are left stay timely
  pub moved_outlasts : (c q : ℕ) → Outlast c q b i r → Outlast c q b' i (moved r v)
  moved_outlasts c q h j m d =
      subst (λ (z : ℕ). Outlasts c q (timer_in b' z)) (sym (P.cells j))
      (timed_outlasts b b' i r.window k 0 T c q (λ n. past r.window n ≢ data_out b i) (λ z runs. absurd (runs refl)) r.handed (omega (arith, S.taken, S.handed))
      (λ n l e z. h n l z) (v.run + j) (omega arith) (λ o. d (P.numbers j ∙ o ∙ sym (same_under i b b' T.under).data!)))

  -- and the one that is under way stands
  pub moved_standing : Standing b i r → Standing b' i (moved r v)
  moved_standing s j m missing o z =
      let p = P.none j missing in
      s (v.run + j) (omega arith) p.1 (moved_under j o)
      (sym (T.there (v.run + j) (omega (arith, S.taken, S.handed)) p.0) ∙ ap (timer_in b') (sym (P.cells j)) ∙ z)

  -- at Failing: the timers that run then
  pub moved_timers : (n : ℕ) → n ≡ running b i r.window r.handed
      → fewer (timer_in b (cell i r.window (past r.window k))) n ≡ running b' i v.window (r.handed - v.run)
  moved_timers n e =
      let one = running_stopped b b' i r.window k T r.handed hk (omega (arith, S.taken, S.handed)) in
      let all = running_moved b' i r.window v.window v.run (λ j h. acked_stopped j (P.under j h)) P.cells (r.handed - v.run) in
      let m : v.run + (r.handed - v.run) ≡ r.handed = omega (arith, passed_most) in
      sides (eqb (timer_in b (cell i r.window (past r.window k))) 0) n (running b' i r.window r.handed) (e ∙ one) ∙ ap (running b' i r.window) (sym m) ∙ all
    where
      sides : (t : Bool) (n z : ℕ) → n ≡ z + pick t 0 1 → pick t n (n - 1) ≡ z
      sides true n z e = omega arith
      sides false n z e = omega arith

  -- at Open: the retransmissions that wait then, where that of the number is gone
  module _ (l l' : Lists) (R : Resends b l i r)
      (gone : (x : ℕ) → Memᴰ x (mine i (l' resends)) → Memᴰ x (mine i (l resends)) × (x ≢ id_at i r.window k ⊎ (timer_in b (cell i r.window (past r.window k)) ≢ 0)))
      (kept : (x : ℕ) → Memᴰ x (mine i (l resends)) → x ≢ id_at i r.window k → Memᴰ x (mine i (l' resends))) where
    wide : (j : ℕ) → j < r.handed → j < r.window.size
    wide j h = omega (arith, S.taken, S.handed)

    moved_id : (j : ℕ) → id_at i v.window j ≡ id_at i r.window (v.run + j)
    moved_id j = ap cell_id (P.cells j)

    still : (x : ℕ) (q : Resend b i r x) → q.at ≢ k → Resend b' i (moved r v) x
    still x q n = sides (dec_lt q.at v.run)
      where
        before : (q.at ≡ k) ⊎ (held r.window q.at ≡ true) → Resend b' i (moved r v) x
        before (inl e) = absurd (n e)
        before (inr e) = absurd (true≢false (sym e ∙ q.missing))

        is_missing : (j : ℕ) → v.run + j ≡ q.at → (t : Bool) → held v.window j ≡ t → held v.window j ≡ false
        is_missing j e false h = h
        is_missing j e true h = again (P.each j h)
          where
            again : (v.run + j ≡ k) ⊎ (held r.window (v.run + j) ≡ true) → held v.window j ≡ false
            again (inl m) = absurd (n (sym e ∙ m))
            again (inr m) = absurd (true≢false (sym m ∙ ap (held r.window) e ∙ q.missing))

        sides : Dec (q.at < v.run) → Resend b' i (moved r v) x
        sides (yes h) = before (P.under q.at h)
        sides (no h) =
            let j = q.at - v.run in
            let e : v.run + j ≡ q.at = omega arith in
            record {
              at = j;
              handed = omega (arith, q.handed);
              missing = is_missing j e (held v.window j) refl;
              idle = rw (P.cells j, e) (T.there q.at (wide q.at q.handed) n ∙ q.idle);
              is = q.is ∙ ap (id_at i r.window) (sym e) ∙ sym (moved_id j);
            }

    moved_each : (x : ℕ) → Memᴰ x (mine i (l' resends)) → Resend b' i (moved r v) x
    moved_each x m = still x q (sides (gone x m).1)
      where
        q : Resend b i r x
        q = R.each x (gone x m).0

        sides : x ≢ id_at i r.window k ⊎ (timer_in b (cell i r.window (past r.window k)) ≢ 0) → q.at ≢ k
        sides (inl n) e = n (q.is ∙ ap (id_at i r.window) e)
        sides (inr n) e = n (ap (λ (j : ℕ). timer_in b (cell i r.window (past r.window j))) (sym e) ∙ q.idle)

    moved_all : (x : ℕ) → Resend b' i (moved r v) x → Memᴰ x (mine i (l' resends))
    moved_all x q =
        let j = v.run + q.at in
        let h : j < r.handed = omega (arith, q.handed) in
        let out = P.none q.at q.missing in
        let is : x ≡ id_at i r.window j = q.is ∙ moved_id q.at in
        kept x
        (R.all x
        (record {
          at = j;
          handed = h;
          missing = out.1;
          idle = sym (T.there j (wide j h) out.0) ∙ ap (timer_in b') (sym (P.cells q.at)) ∙ q.idle;
          is = is;
        }))
        (λ e. out.0 (id_inj r.window g i j k (wide j h) (wide k hk) (sym is ∙ e)))

    pub moved_resends : Resends b' l' i (moved r v)
    moved_resends = record { each = moved_each; all = moved_all }

  -- and the data that wait then: the same
  moved_ids : (m n : ℕ) → v.run ≤ m → ids i v.window (m - v.run) n ≡ ids i r.window m n
  unfolding ids
  moved_ids m zero h = refl
  moved_ids m (suc n) h =
      let e : v.run + (m - v.run) ≡ m = omega arith in
      let q : suc m - v.run ≡ suc (m - v.run) = omega arith in
      rw (P.cells (m - v.run), e, ← q) (ap (λ (l : List ℕ). id_at i r.window m ∷ l) (moved_ids (suc m) n (omega arith)))

  pub moved_datas : ids i v.window (r.handed - v.run) ((r.taken - v.run) - (r.handed - v.run)) ≡ ids i r.window r.handed (r.taken - r.handed)
  moved_datas =
      let n = passed_most in
      let e : (r.taken - v.run) - (r.handed - v.run) ≡ r.taken - r.handed = omega arith in
      rw e (moved_ids r.handed (r.taken - r.handed) n)

-- ---- the book then

-- the book of an open sender once the number k past the start is acknowledged
pub record Gone (b b' : List ℕ) (l : Lists) (i : ℕ) (w : Window) (k : ℕ) : Type 0 where
  pub lists : Lists
  pub within : Within i b b' l lists
  pub timed : Timed b b' i w k 0
  pub others : (q : ℕ) → q < 4 → q ≢ resends → lists q ≡ l q
  pub gone : (x : ℕ) → Memᴰ x (mine i (lists resends)) → Memᴰ x (mine i (l resends)) × (x ≢ id_at i w k ⊎ (timer_in b (cell i w (past w k)) ≢ 0))
  pub kept : (x : ℕ) → Memᴰ x (mine i (l resends)) → x ≢ id_at i w k → Memᴰ x (mine i (lists resends))

module _ (b : List ℕ) (l : Lists) (L : Lines b l) (i : ℕ) (low : i < 16) (r : Run) (g : GoodWindow r.window) (R : Resends b l i r)
    (k : ℕ) (hk : k < r.handed) (fit : k < r.window.size) (missing : held r.window k ≡ false) where
  waited : timer_in b (cell i r.window (past r.window k)) ≡ 0
      → Gone b (set (unlinked b (id_at i r.window k)) (timer_at (cell i r.window (past r.window k))) 0) l i r.window k
  waited idle =
      let x = id_at i r.window k in
      let p = mine_in i x (l resends) (R.all x (record { at = k; handed = hk; missing = missing; idle = idle; is = refl })) in
      let lines = unlink_lines b l L resends x (omega arith) p.0 in
      let same = mine_without i x (l resends) in
      record {
        lists = less l x;
        within = within_then i b (unlinked b x) (set (unlinked b x) (timer_at (cell i r.window (past r.window k))) 0) l (less l x) (less l x)
            (within_unlink i b l L resends x (omega arith) p.0 p.1)
            (within_timed i low r.window g k fit 0 (unlinked b x) (less l x) lines);
        timed = timed_after i low r.window g k fit 0 b (unlinked b x) (set (unlinked b x) (timer_at (cell i r.window (past r.window k))) 0)
            (unlink_cells b l L resends x (omega arith) p.0) (unlink_under b l L resends x (omega arith) p.0)
            (timed_set i low r.window g k fit 0 (unlinked b x) lines.long);
        others = λ q h n. gone_other b l L resends x (omega arith) p.0 q h n;
        gone = λ y m. let d = without_in x y (mine i (l resends)) (subst (λ (ys : List ℕ). Memᴰ y ys) same m) in (d.0, inl d.1);
        kept = λ y m n. subst (λ (ys : List ℕ). Memᴰ y ys) (sym same) (without_keeps x y (mine i (l resends)) m n);
      }

  ran : timer_in b (cell i r.window (past r.window k)) ≢ 0
      → Gone b (set b (timer_at (cell i r.window (past r.window k))) 0) l i r.window k
  ran n =
      record {
        lists = l;
        within = within_timed i low r.window g k fit 0 b l L;
        timed = timed_set i low r.window g k fit 0 b L.long;
        others = λ q h m. refl;
        gone = λ y m. (m, inr n);
        kept = λ y m n. m;
      }

  pub open_book : Gone b (stopped b (cell i r.window (past r.window k))) l i r.window k
  unfolding stopped
  open_book = sides (eqb (timer_in b (cell i r.window (past r.window k))) 0) refl
    where
      sides : (z : Bool) → eqb (timer_in b (cell i r.window (past r.window k))) 0 ≡ z
          → Gone b (set (pick z (unlinked b (id_at i r.window k)) b) (timer_at (cell i r.window (past r.window k))) 0) l i r.window k
      sides true e = waited (eqb-true (timer_in b (cell i r.window (past r.window k))) 0 e)
      sides false e = ran (eqb-false (timer_in b (cell i r.window (past r.window k))) 0 e)

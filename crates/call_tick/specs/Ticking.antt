-- A tick: every running timer falls by one, entries in table order, an entry's timers in window order; then each
-- Failing end with none running and no frame of its own under way becomes Enabled. A timer's place holds the tick at
-- which it runs out (crates/timing), so that it falls by the clock alone, and the entries are gone through only where
-- one can run out. Cited by the call. Assumes nothing.
use Rattle.std.specs.Prelude.{ℕ, zero, suc, ◌+◌, ◌-◌, ◌^◌, min, Bool, true, false, not, ◌&&◌, List, [], set, eqb, ltb}
use Rattle.timing.specs.Timing.{round, clock_in, quiet_in, later, soonest, passed}
use Rattle.units.specs.Limits.{most_entries}
use Rattle.units.specs.Refusals.{pick}
use Rattle.memory.specs.Layout.{resets, resends, reset_id, cell_id, timer_at, retries_at}
use Rattle.waiting.specs.Queues.{appended}
use Rattle.waiting.specs.Port.{under_in, is_own, is_reset, data_out}
use Rattle.end_points.specs.Ends.{end_of, saved}
use Rattle.end_points.specs.Heads.{count_in}
use Rattle.end_points.specs.States.{is_over}
use Rattle.end_points.specs.Runs.{anew, urgent_gone}
use Rattle.end_points.specs.Lent.{Lent}
use Rattle.end_points.specs.declared.EndPoint.{EndPoint}
use Rattle.end_points.specs.declared.State.{State}
use Rattle.end_points.specs.declared.State.TheVariants.{Closed, Enabled, Open, Failing}
use Rattle.call_tick.specs.declared.timers.Timers.{Timers}
use Rattle.slots.specs.Slots.{cell, past, timer_in, retries_in, idled}

-- ---- an entry's timers

-- the book, whether the end is Failing, how many timers still run, and the least that is left of one, as far as the
-- tick has come
pub record Ticked : Type 0 where
  pub book : List ℕ
  pub failing : Bool
  pub running : ℕ
  pub least : ℕ

-- the same of the book and of what the code has of it, as the contracts say it
abbrev pub timers_of : List ℕ → Timers → Ticked
timers_of b t = record { book = b; failing = t.failing; running = t.running; least = t.least }

-- the timer of cell g comes to zero: a Failing end resends nothing; data with fewer than M retries waits as a
-- retransmission; else the end is Failing at once, and what of it waits goes [D5, D6, D8, D9]
abbrev pub expired : ℕ → EndPoint → ℕ → Ticked → Ticked
expired i e g t =
    pick t.failing
    (record { book = set t.book (timer_at g) 0; failing = true; running = t.running; least = t.least })
    (pick (ltb (retries_in t.book g) e.entry.retries)
    (record {
      book = appended (set (set t.book (timer_at g) 0) (retries_at g) (retries_in t.book g + 1)) resends (cell_id g);
      failing = false;
      running = t.running;
      least = t.least;
    })
    (record {
      book = set (idled i e.run t.book) (timer_at g) 0;
      failing = true;
      running = t.running;
      least = t.least;
    }))

-- in tick c the timer of cell g, which runs out at tick d [D3]
abbrev pub tick_cell : ℕ → ℕ → EndPoint → ℕ → ℕ → Ticked → Ticked
tick_cell c i e g d t =
    pick (eqb d 0) t
    (pick (eqb d c) (expired i e g t)
    (record { book = t.book; failing = t.failing; running = t.running + 1; least = soonest t.least c d }))

-- the timer of Data that is under way, with d in its place: it stands, and the end waits for it [D2, D10]
abbrev pub stood_cell : ℕ → Ticked → Ticked
stood_cell d t =
    pick (eqb d 0) t
    (record { book = t.book; failing = t.failing; running = t.running + 1; least = t.least })

-- the timer of the number k past the start, where the number o is under way [D2, D7]
unfoldable pub tick_slot : ℕ → ℕ → EndPoint → ℕ → ℕ → Ticked → Ticked
tick_slot c i e o k t =
    pick (eqb (past e.run.window k) o)
    (stood_cell (timer_in t.book (cell i e.run.window (past e.run.window k))) t)
    (tick_cell c i e (cell i e.run.window (past e.run.window k))
    (timer_in t.book (cell i e.run.window (past e.run.window k))) t)

unfoldable pub tick_slots : ℕ → ℕ → EndPoint → ℕ → ℕ → Ticked → Ticked
tick_slots c i e o zero t = t
tick_slots c i e o (suc k) t = tick_slot c i e o k (tick_slots c i e o k t)

-- those of all numbers handed out
abbrev pub ticked : ℕ → ℕ → EndPoint → Bool → List ℕ → ℕ → Ticked
ticked c i e failing b least =
    tick_slots c i e (data_out b i) e.run.handed
    (record { book = b; failing = failing; running = 0; least = least })

-- ---- an entry

abbrev pub both : Lent → List ℕ → List ℕ → Lent
both x ws b = record { node = ws; book = b; store = x.store; out = x.out }

-- what is lent, and the least that is left of a timer, as far as the tick has come
pub record Scanned : Type 0 where
  pub lent : Lent
  pub least : ℕ

-- the same of node and book alone, as the contracts say it
abbrev pub scan_of : List ℕ → List ℕ → ℕ → Scanned
scan_of ws b least = record { lent = record { node = ws; book = b; store = []; out = [] }; least = least }

-- at Enabled the Reset's timer, which runs out at tick d: then it waits again; while it is under way its timer stands
-- [D2, D4]
abbrev pub tick_enabled : ℕ → Scanned → ℕ → EndPoint → ℕ → Bool → Scanned
tick_enabled c y i e d sent =
    pick (eqb d 0) y
    (pick (is_reset (under_in y.lent.book) i) y
    (pick (eqb d c)
    (record {
      lent =
          both y.lent (saved y.lent.node i (Enabled 0 sent) e.run)
          (appended y.lent.book resets (reset_id i));
      least = y.least;
    })
    (record { lent = y.lent; least = soonest y.least c d })))

-- at Open it is Failing where a timer ran out after M retries [D6, D8]
abbrev pub tick_open : Scanned → ℕ → EndPoint → Ticked → Scanned
tick_open y i e t =
    record {
      lent =
          both y.lent
          (pick t.failing (saved y.lent.node i (Failing t.running) (urgent_gone e.run)) y.lent.node)
          t.book;
      least = t.least;
    }

-- at Failing it says how many still run [D9]
abbrev pub tick_failing : Scanned → ℕ → EndPoint → Ticked → Scanned
tick_failing y i e t =
    record {
      lent = both y.lent (saved y.lent.node i (Failing t.running) e.run) t.book;
      least = t.least;
    }

-- an entry's timers, by its state [D4, D6, D9]
unfoldable pub tick_state : ℕ → Scanned → ℕ → EndPoint → State → Scanned
tick_state c y i e Closed = y
tick_state c y i e (Enabled d sent) = tick_enabled c y i e d sent
tick_state c y i e Open = tick_open y i e (ticked c i e false y.lent.book y.least)
tick_state c y i e (Failing n) = tick_failing y i e (ticked c i e true y.lent.book y.least)

unfoldable pub tick_entry : ℕ → ℕ → Scanned → Scanned
tick_entry c i y = tick_state c y i (end_of y.lent.node i) (end_of y.lent.node i).state

-- the first n entries, in table order [D7]
unfoldable pub tick_entries : ℕ → ℕ → Scanned → Scanned
tick_entries c zero y = y
tick_entries c (suc n) y = tick_entry c n (tick_entries c n y)

-- ---- recovery

-- what is lent, and the bits of the entries that became Enabled
pub record Recovered : Type 0 where
  pub lent : Lent
  pub bits : ℕ

-- Enabled with a Reset waiting, and its bit set [D10, D11]
abbrev pub again : ℕ → Recovered → Recovered
again i r =
    record {
      lent =
          both r.lent (saved r.lent.node i (Enabled 0 false) (anew (end_of r.lent.node i).run))
          (appended r.lent.book resets (reset_id i));
      bits = r.bits + 2 ^ i;
    }

-- an entry that is Failing with no timer running and no frame of its own under way [D10]
unfoldable pub recover : ℕ → Recovered → Recovered
recover i r = pick (is_over (end_of r.lent.node i).state && not (is_own r.lent.book i)) (again i r) r

-- the first n entries, in table order [D10]
unfoldable pub recover_all : ℕ → Recovered → Recovered
recover_all zero r = r
recover_all (suc n) r = recover n (recover_all n r)

-- ---- the call: it refuses nothing

abbrev pub entries : Lent → ℕ
entries x = min (count_in x.node) most_entries

-- all timers have ticked
abbrev pub scanned : ℕ → Lent → Scanned
scanned c x = tick_entries c (entries x) (record { lent = x; least = round })

-- tick c where a timer can run out
unfoldable pub scan_both : ℕ → Lent → Recovered
scan_both c x = recover_all (entries x) (record { lent = (scanned c x).lent; bits = 0 })

unfoldable pub scan_after : ℕ → Lent → Recovered
scan_after c x =
    record {
      lent =
          both (scan_both c x).lent (passed (scan_both c x).lent.node c ((scanned c x).least - 1))
          (scan_both c x).lent.book;
      bits = (scan_both c x).bits;
    }

-- and where none can
abbrev pub still_after : ℕ → Lent → Recovered
still_after c x = record { lent = both x (passed x.node c (quiet_in x.node - 1)) x.book; bits = 0 }

unfoldable pub tick_both : Lent → Recovered
tick_both x =
    pick (eqb (quiet_in x.node) 0) (scan_after (later (clock_in x.node) 1) x)
    (still_after (later (clock_in x.node) 1) x)

unfoldable pub tick_after : Lent → Lent
unfolding tick_both
tick_after x = (tick_both x).lent

-- the entries that became Enabled [D11, R39]
unfoldable pub tick_answer : Lent → ℕ
unfolding tick_both
tick_answer x = (tick_both x).bits

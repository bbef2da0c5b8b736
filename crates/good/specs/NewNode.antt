-- A new node, all zeros, before its first setup: a tick moves its clock, and nothing else of it alters by any call.
-- Assumes nothing.
use Rattle.std.specs.Prelude.{ℕ, ◌-◌, ◌≤◌, ◌≡◌, List, replicate, eqb}
use Rattle.units.specs.Refusals.{pick}
use Rattle.memory.specs.Layout.{node_words, book_halves}
use Rattle.timing.specs.Timing.{round, later, passed}
use Rattle.good.specs.Calls.{Memory, after}
use Rattle.machine.specs.Calls.{Call, opens, closes, counts, sends, urges, plans, arrives, hands_out, reports, ticks}

-- a new node: all zeros [N1]
abbrev pub new_node : List ℕ → Memory
new_node store = record { node = replicate node_words 0; book = replicate book_halves 0; store = store }

-- a new node whose last tick was tick c, with q more that may pass
abbrev pub new_at : List ℕ → ℕ → ℕ → Memory
new_at store c q = record { node = passed (replicate node_words 0) c q; book = replicate book_halves 0; store = store }

-- as a call leaves it. A tick that goes through the entries finds none, and so no timer: as many may pass as the
-- longest takes.
abbrev pub new_after : List ℕ → ℕ → ℕ → Call → Memory
new_after store c q (opens i) = new_at store c q
new_after store c q (closes i) = new_at store c q
new_after store c q (counts i) = new_at store c q
new_after store c q (sends i p) = new_at store c q
new_after store c q (urges i p) = new_at store c q
new_after store c q (plans i block) = new_at store c q
new_after store c q (arrives block f) = new_at store c q
new_after store c q (hands_out buffer) = new_at store c q
new_after store c q reports = new_at store c q
new_after store c q ticks = new_at store (later c 1) (pick (eqb q 0) (round - 1) (q - 1))

-- so after any calls but setup [N1]
pub record NewStays : Type 0 where
  pub begins : (store : List ℕ) → new_node store ≡ new_at store 0 0
  pub stays : (store : List ℕ) (c q : ℕ) → c ≤ round → (k : Call) → after (new_at store c q) k ≡ new_after store c q k
  pub small : (c : ℕ) → c ≤ round → later c 1 ≤ round

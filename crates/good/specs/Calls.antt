-- A node with its store, and its public calls as one: what each answers, in the paper's numbers, and what it leaves, as
-- the contracts of crates/node have it; and the nodes that a setup and calls after it can give. Cited by what is proved
-- of such nodes. Assumes nothing.
use Rattle.std.specs.Prelude.{ℕ, ◌≤◌, ◌≡◌, List, [], ◌∷◌, length, Ok}
use Rattle.memory.specs.Layout.{node_words, book_halves}
use Rattle.table.specs.Areas.{store_of}
use Rattle.end_points.specs.Lent.{Lent}
use Rattle.end_points.specs.Lent as lending
use Rattle.end_points.specs.Answers.{answer_of, counted_of, planned_of, arrived_of, handed_of}
use Rattle.call_open.specs.Setup.{setup_answer, setup_after}
use Rattle.call_open.specs.Opening.{open_answer, open_after, close_answer, close_after, counts_answer}
use Rattle.call_send.specs.Sending.{send_answer, send_after, urgent_answer, urgent_after}
use Rattle.call_plan.specs.Planning.{plan_answer, plan_after}
use Rattle.call_arrive.specs.Arriving.{arrival_answer, arrival_after}
use Rattle.call_hand_out.specs.Handing.{hand_out_answer, hand_out_after}
use Rattle.call_report.specs.Reporting.{report_answer, report_after}
use Rattle.call_tick.specs.Ticking.{tick_answer, tick_after}
use Rattle.machine.specs.Calls.{Call, opens, closes, counts, sends, urges, plans, arrives, hands_out, reports, ticks}
use Rattle.machine.specs.Calls.{Answer, Bytes, Fed}

-- ---- the calls

-- what a host keeps of a node between calls
pub record Memory : Type 0 where
  pub node : List ℕ
  pub book : List ℕ
  pub store : List ℕ

-- what is lent to it: of some calls the store too, with a block or a frame buffer
abbrev pub lent : Memory → List ℕ → Lent
lent n out = lending.whole n.node n.book n.store out

abbrev pub bare : Memory → Lent
bare n = lending.bare n.node n.book

-- what is kept of it afterwards
abbrev pub kept : Lent → Memory
kept x = record { node = x.node; book = x.book; store = x.store }

abbrev pub kept_bare : Memory → Lent → Memory
kept_bare n x = record { node = x.node; book = x.book; store = n.store }

-- what a call answers: the paper's numbers of the answer that its contract names [O1, O3]
unfoldable pub answer : Memory → Call → Answer
answer n (opens i) = record { numbers = answer_of (open_answer (bare n) i); out = [] }
answer n (closes i) = record { numbers = answer_of (close_answer (bare n) i); out = [] }
answer n (counts i) = record { numbers = counted_of (counts_answer n.node i); out = [] }
answer n (sends i p) = record { numbers = answer_of (send_answer (lent n []) i p); out = [] }
answer n (urges i p) = record { numbers = answer_of (urgent_answer (lent n []) i p); out = [] }
answer n (plans i block) = record { numbers = planned_of (plan_answer (lent n []) i block); out = [] }
answer n (arrives block f) =
    record {
      numbers = arrived_of (arrival_answer (lent n block) f);
      out = (arrival_after (lent n block) f).out;
    }
answer n (hands_out buffer) =
    record {
      numbers = handed_of (hand_out_answer (lent n buffer));
      out = (hand_out_after (lent n buffer) (hand_out_answer (lent n buffer))).out;
    }
answer n reports = record { numbers = answer_of (report_answer (bare n)); out = [] }
answer n ticks = record { numbers = tick_answer (bare n) ∷ []; out = [] }

-- what it leaves: the memory that its contract names [O1]
unfoldable pub after : Memory → Call → Memory
after n (opens i) = kept_bare n (open_after (bare n) i (open_answer (bare n) i))
after n (closes i) = kept_bare n (close_after (bare n) i (close_answer (bare n) i))
after n (counts i) = n
after n (sends i p) = kept (send_after (lent n []) i p (send_answer (lent n []) i p))
after n (urges i p) = kept (urgent_after (lent n []) i p (urgent_answer (lent n []) i p))
after n (plans i block) = kept (plan_after (lent n []) i block (plan_answer (lent n []) i block))
after n (arrives block f) = kept (arrival_after (lent n block) f)
after n (hands_out buffer) = kept (hand_out_after (lent n buffer) (hand_out_answer (lent n buffer)))
after n reports = kept_bare n (report_after (bare n) (report_answer (bare n)))
after n ticks = kept_bare n (tick_after (bare n))

-- ---- what setup and calls can give

-- what setup leaves of any memory, with a table that it does not refuse [P11]
pub record SetUp (t : List ℕ) (n : Memory) : Type 0 where
  pub before : Lent
  pub node : length before.node ≡ node_words
  pub book : length before.book ≡ book_halves
  pub bytes : Bytes t
  pub passed : setup_answer before t ≡ Ok tt
  pub is : n ≡ kept (setup_after before t (Ok tt))

-- with another store, of another content and another length
abbrev pub relent : List ℕ → Memory → Memory
relent s n = record { node = n.node; book = n.book; store = s }

-- and calls after it, between which the host may lend another store that is long enough. (One that is too short is
-- refused, and alters nothing: `ShortIsRefused`.) [P11, O2]
pub data Reach (t : List ℕ) : Memory → Type 0 where
  at_setup : (n : Memory) → SetUp t n → Reach t n
  by_call : (n : Memory) (c : Call) → Fed c → Reach t n → Reach t (after n c)
  by_store : (n : Memory) (s : List ℕ) → store_of t ≤ length s → Reach t n → Reach t (relent s n)

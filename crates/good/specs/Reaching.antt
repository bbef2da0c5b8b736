-- What is proved of every node that setup and calls can give. Assumes nothing.
use Rattle.std.specs.Prelude.{ℕ, ◌≤◌, ◌<◌, ◌≡◌, true, List, [], ◌∷◌, length, get_or, eqb}
use Rattle.units.specs.Refusals.{number_of, pick}
use Rattle.units.specs.declared.refusals.Refusal.TheVariants as refusal
use Rattle.table.specs.Areas.{store_of}
use Rattle.machine.specs.Calls.{Call, opens, closes, counts, sends, urges, plans, arrives, hands_out, reports, ticks}
use Rattle.machine.specs.Calls.{Answer}
use Rattle.blocks.specs.Reading.{is_plan, read_block}
use Rattle.machine.specs.Laws.{lent}
use Rattle.good.specs.Good.{Lists, Good}
use Rattle.good.specs.Calls.{Memory, answer, after, relent, Reach}

-- such a node is good, and its store long enough [O2]
unfoldable pub ReachIsGood : Type 0
ReachIsGood = (t : List ℕ) (n : Memory) → Reach t n → (l : Lists) × Good t n.node n.book l
    × (store_of t ≤ length n.store)

-- the calls that are lent a store and test it; of a plan it is its sends that do: `ShortStopsPlans`
abbrev pub Stored : Call → Type 0
Stored (opens i) = ⊥
Stored (closes i) = ⊥
Stored (counts i) = ⊥
Stored (sends i p) = Unit {0}
Stored (urges i p) = Unit {0}
Stored (plans i block) = ⊥
Stored (arrives block f) = Unit {0}
Stored (hands_out buffer) = Unit {0}
Stored reports = ⊥
Stored ticks = ⊥

-- what a call answers whose store is too short: the refusal that it has with a store that is long enough, and 6 where
-- it has none [R6, R42]
abbrev pub shortened : Call → Answer → Answer
shortened c a =
    record {
      numbers = pick (eqb (get_or a.numbers 0 0) 0) (number_of refusal.TooShort ∷ []) a.numbers;
      out = lent c;
    }

-- so it answers, and all that was lent is as it was [R44]
pub record Declined (n : Memory) (s : List ℕ) (c : Call) : Type 0 where
  pub answered : answer (relent s n) c ≡ shortened c (answer n c)
  pub left : after (relent s n) c ≡ relent s n

-- a store that is too short is refused by every call that is lent one, and nothing alters [R6, R42, R44]
unfoldable pub ShortIsRefused : Type 0
ShortIsRefused = (t : List ℕ) (n : Memory) → Reach t n → (s : List ℕ) → length s < store_of t
    → (c : Call) → Stored c → Declined n s c

-- such a store stops a plan at its first payload, which is refused as it would be alone: none is accepted, and nothing
-- alters [E18, R6, R42]
unfoldable pub ShortStopsPlans : Type 0
ShortStopsPlans = (t : List ℕ) (n : Memory) → Reach t n → (s : List ℕ) → length s < store_of t
    → (i : ℕ) (block p : List ℕ) (ps : List (List ℕ)) → is_plan block ≡ true → read_block block ≡ p ∷ ps
    → ((answer (relent s n) (plans i block)).numbers ≡ 0 ∷ 0 ∷ (answer (relent s n) (sends i p)).numbers)
    × (after (relent s n) (plans i block) ≡ relent s n)

-- Laws of a plan: it is refused for its block alone, and else it is so many single sends. They rule out a plan that
-- accepts none, one that goes on behind a refused payload, and one that leaves less than its sends do. Proved in
-- proofs/Planning.antt. Assumes nothing.
use Rattle.std.specs.Prelude.{ℕ, ◌+◌, ◌≤◌, ◌<◌, ◌≡◌, ◌≢◌, ◌↔◌, true, List, [], ◌∷◌, length, take, get_or}
use Rattle.blocks.specs.Reading.{read_block, is_plan}
use Rattle.machine.specs.Calls.{sends, plans}
use Rattle.machine.specs.Machine.{Machine}
use Rattle.machine.specs.Laws.{answer, after}

-- it is refused only where the block is malformed or counts more than 64, whatever the entry is [B5, R22, R50]
unfoldable pub PlanGoes : Type 0
PlanGoes = (m : Machine) (i : ℕ) (block : List ℕ)
    → (get_or (answer m (plans i block)).numbers 0 0 ≡ 0) ↔ (is_plan block ≡ true)

-- what single sends of payloads leave, each whatever it answers [E18]
unfoldable pub sent_singly : Machine → ℕ → List (List ℕ) → Machine
sent_singly m i [] = m
sent_singly m i (p ∷ ps) = sent_singly (after m (sends i p)) i ps

-- what the send of payload k answers, behind the others
abbrev pub answer_at : Machine → ℕ → List (List ℕ) → ℕ → List ℕ
answer_at m i ps k = (answer (sent_singly m i (take k ps)) (sends i (get_or ps k []))).numbers

-- the first n were accepted; the next was refused with `stop`, or there is no next; and the machine is as these sends
-- left it, the refused one among them [E18, O10]
pub record Singly (m : Machine) (i : ℕ) (ps : List (List ℕ)) (m' : Machine) (n : ℕ) (stop : List ℕ) : Type 0 where
  pub within : n ≤ length ps
  pub accepted : (k : ℕ) → k < n → answer_at m i ps k ≡ 0 ∷ []
  pub stopped : n < length ps → (answer_at m i ps n ≡ stop) × (get_or stop 0 0 ≢ 0)
  pub all : n ≡ length ps → stop ≡ 0 ∷ []
  pub left : m' ≡ sent_singly m i (take (n + 1) ps)

-- so every plan that is not refused [E18, O4, O10]
unfoldable pub PlanIsSends : Type 0
PlanIsSends = (m : Machine) (i : ℕ) (block : List ℕ) → is_plan block ≡ true → (n : ℕ) × (stop : List ℕ)
    × ((answer m (plans i block)).numbers ≡ 0 ∷ n ∷ stop)
    × Singly m i (read_block block) (after m (plans i block)) n stop

-- What waits, as lists: a queue of the book that holds some numbers in order, and the acknowledgements of the node,
-- oldest first. Cited by what is proved of nodes that setup and calls can give. Assumes nothing.
use Rattle.std.specs.Prelude.{ℕ, zero, suc, ◌+◌, ◌%◌, ◌<◌, ◌≡◌, ◌≢◌, List, [], ◌∷◌, get_or, eqb}
use Rattle.units.specs.Refusals.{pick}
use Rattle.memory.specs.Layout.{ids_end, ack_at, ack_places, ack_entry}
use Rattle.waiting.specs.Queues.{next_of, prev_of}
use Rattle.waiting.specs.Acks.{place_of, waiting_of}

-- y stands behind x, and x before y
pub record Adjacent (b : List ℕ) (x y : ℕ) : Type 0 where
  pub ahead : next_of b x ≡ y
  pub back : prev_of b y ≡ x

-- from x by the numbers of a list to z
abbrev pub Chain : List ℕ → ℕ → List ℕ → ℕ → Type 0
Chain b x [] z = Adjacent b x z
Chain b x (y ∷ ys) z = Adjacent b x y × Chain b y ys z

-- x is none of a list's; no two of a list are the same; all of them are numbers of things that can wait
abbrev pub Out : ℕ → List ℕ → Type 0
Out x [] = Unit {0}
Out x (y ∷ ys) = (x ≢ y) × Out x ys

abbrev pub Distinct : List ℕ → Type 0
Distinct [] = Unit {0}
Distinct (y ∷ ys) = Out y ys × Distinct ys

abbrev pub Below : ℕ → List ℕ → Type 0
Below n [] = Unit {0}
Below n (y ∷ ys) = (y < n) × Below n ys

-- queue q holds a list's numbers, in order
pub record Queue (b : List ℕ) (q : ℕ) (items : List ℕ) : Type 0 where
  pub chain : Chain b q items q
  pub distinct : Distinct (q ∷ items)
  pub below : Below ids_end (q ∷ items)

-- n words of the ring from a place on
unfoldable pub from : List ℕ → ℕ → ℕ → List ℕ
from ws k zero = []
from ws k (suc n) = get_or ws (ack_at k) 0 ∷ from ws ((k + 1) % ack_places) n

-- the acknowledgements that wait
abbrev pub acks_in : List ℕ → List ℕ
acks_in ws = from ws (place_of ws) (waiting_of ws)

-- those of a list that are not entry i's
abbrev pub not_of : ℕ → List ℕ → List ℕ
not_of i [] = []
not_of i (w ∷ ws) = pick (eqb (ack_entry w) i) (not_of i ws) (w ∷ not_of i ws)

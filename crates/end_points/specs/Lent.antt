-- Everything that a call can be lent, as lists. What a call is not lent is the empty list. Cited by every public
-- contract. Assumes nothing.
use Rattle.std.specs.Prelude.{ℕ, List, []}

pub record Lent : Type 0 where
  pub node : List ℕ
  pub book : List ℕ
  pub store : List ℕ
  -- the host's block, or the frame buffer
  pub out : List ℕ

-- node and book; these and a store; these, a store, and a block or a frame buffer
abbrev pub bare : List ℕ → List ℕ → Lent
bare node book = record { node = node; book = book; store = []; out = [] }

abbrev pub stored : List ℕ → List ℕ → List ℕ → Lent
stored node book store = record { node = node; book = book; store = store; out = [] }

abbrev pub whole : List ℕ → List ℕ → List ℕ → List ℕ → Lent
whole node book store out = record { node = node; book = book; store = store; out = out }

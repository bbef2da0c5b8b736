-- The four queues of what waits, as links in the book. Cited by every call that makes something wait or hands it out.
-- Assumes nothing.
use Rattle.std.specs.Prelude.{ℕ, List, get_or, set}
use Rattle.memory.specs.Layout.{next_at, prev_at}

-- what waits behind x, and what before it
abbrev pub next_of : List ℕ → ℕ → ℕ
next_of b x = get_or b (next_at x) 0

abbrev pub prev_of : List ℕ → ℕ → ℕ
prev_of b x = get_or b (prev_at x) 0

-- b follows a
abbrev pub joined : List ℕ → ℕ → ℕ → List ℕ
joined b x y = set (set b (next_at x) y) (prev_at y) x

-- x comes last in queue q: behind what was last there, and before the queue itself [H3]
unfoldable pub appended : List ℕ → ℕ → ℕ → List ℕ
appended b q x = joined (joined b (prev_of b q) x) x q

-- what stood around x is joined [H1]
unfoldable pub unlinked : List ℕ → ℕ → List ℕ
unlinked b x = joined b (prev_of b x) (next_of b x)

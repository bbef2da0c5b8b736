-- Laws of good trace files; proved in proofs/Good.antt. Assumes nothing.
use Rattle.std.specs.Prelude.{ℕ, ◌+◌, ◌≤◌, ◌<◌, ◌≡◌, ◌≢◌, true, List, length}
use Rattle.trace.specs.Kinds.{table_kind, is_kind}
use Rattle.trace.specs.Layout.{header_size, count_of, begin_of, head_from, bytes_from, end_from}
use Rattle.trace.specs.Rules.{good_trace}

-- its records fill it: there is one, the first begins right behind the header, and the last ends with the file
-- [L1, L3, L8]
pub record Filled (f : List ℕ) : Type 0 where
  pub some : 0 < count_of f
  pub first : begin_of f 0 ≡ header_size
  pub last : begin_of f (count_of f) ≡ length f

-- so of every good file [L1, L3, L8]
unfoldable pub GoodIsFilled : Type 0
GoodIsFilled = (f : List ℕ) → good_trace f ≡ true → Filled f

-- record k begins where the one before it ends, and lies whole in the file; it is of a kind that there is, and a table
-- where it is the first [L3, L5, L6, L8]
pub record Recorded (f : List ℕ) (k : ℕ) : Type 0 where
  pub next : begin_of f (k + 1) ≡ end_from f (begin_of f k)
  pub inside : end_from f (begin_of f k) ≤ length f
  pub bytes : length (bytes_from f (begin_of f k)) ≡ (head_from f (begin_of f k)).length
  pub known : is_kind (head_from f (begin_of f k)).kind ≡ true
  pub table : k ≡ 0 → (head_from f (begin_of f k)).kind ≡ table_kind
  pub other : k ≢ 0 → (head_from f (begin_of f k)).kind ≢ table_kind

-- so of every record of a good file [L3, L5, L6, L8]
unfoldable pub GoodIsRecorded : Type 0
GoodIsRecorded = (f : List ℕ) → good_trace f ≡ true → (k : ℕ) → k < count_of f → Recorded f k

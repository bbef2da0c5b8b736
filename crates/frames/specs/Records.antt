-- Where a record lies. Cited by `frames::records::record_at`. Assumes nothing.
use Rattle.std.specs.Prelude.{ℕ, ◌≤◌, ◌<◌, Result, Ok, Err}
use Rattle.frames.specs.declared.records.Record.{Record}
use Rattle.lines.specs.declared.Stop.{Stop}

-- a record found at i in an input of n bytes lies behind i and within the input
abbrev pub Lies : ℕ → ℕ → Result Record Stop → Type 0
Lies i n (Ok r) = (i < r.end) × ((r.start ≤ r.end) × (r.end ≤ n))
Lies i n (Err w) = Unit

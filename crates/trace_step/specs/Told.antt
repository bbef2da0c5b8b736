-- The paper's numbers of what a record's call answered. Assumes nothing.
use Rattle.std.specs.Prelude.{ℕ, List, [], ◌∷◌}
use Rattle.end_points.specs.Answers.{answer_of, arrived_of, handed_of}
use Rattle.trace_step.specs.declared.Told.{Told}
use Rattle.trace_step.specs.declared.Told.TheVariants as told

-- the refusal or 0, then what the call returned; a tick refuses nothing [L12, O3]
abbrev pub told_of : Told → List ℕ
told_of (told.Plain v) = answer_of v
told_of (told.Arrival a) = arrived_of a
told_of (told.Tick bits) = 0 ∷ bits ∷ []
told_of (told.HandOut h) = handed_of h

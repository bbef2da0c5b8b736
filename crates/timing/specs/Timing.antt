-- Timers by the tick at which they run out. Ticks are numbered 1 to 65,535 and round again. A timer's place holds the
-- number of the tick at which it runs out, and 0 where it does not run; what is left of it is how far that number
-- lies after the last tick's. T is at most 65,535, one whole round, so that no two lengths share a number. Cited by
-- whatever starts, stops or looks at a timer. Assumes nothing.
use Rattle.std.specs.Prelude.{ℕ, ◌+◌, ◌-◌, ◌%◌, min, List, get_or, set, eqb, leb, ltb}
use Rattle.units.specs.Refusals.{pick}
use Rattle.memory.specs.Layout.{clock_at, quiet_at}

-- the number of the last tick, 0 before the first
abbrev pub clock_in : List ℕ → ℕ
clock_in ws = get_or ws clock_at 0 % 65536

-- as many ticks pass before a timer can run out; the tick after those goes through the entries
abbrev pub quiet_in : List ℕ → ℕ
quiet_in ws = get_or ws quiet_at 0

-- ticks are numbered from 1 to this and round again, so that the longest timer takes one whole round
abbrev pub round : ℕ
round = 65535

-- the number of the tick n ticks after tick c
abbrev pub later : ℕ → ℕ → ℕ
later c n = pick (leb (c + n) round) (c + n) (c + n - round)

-- what is left after tick c of a timer that runs out at tick d: 1 to 65,535 where it runs [D3]
abbrev pub left_of : ℕ → ℕ → ℕ
left_of c d = pick (eqb d 0) 0 (pick (ltb c d) (d - c) (d + (round - c)))

-- the least of what is left of the timers that run, one more of which was looked at
abbrev pub soonest : ℕ → ℕ → ℕ → ℕ
soonest least c d = min least (left_of c d)

-- a timer's place while its frame is under way: it does not run yet, and is not 0, since nothing of it waits. A tick
-- leaves it. [D2]
abbrev pub standing : ℕ
standing = 1

-- tick c has passed, and so many more may
abbrev pub passed : List ℕ → ℕ → ℕ → List ℕ
passed ws c quiet = set (set ws clock_at c) quiet_at quiet

-- a timer starts at t: the tick at which it runs out goes through the entries [D2]
abbrev pub heeded : List ℕ → ℕ → List ℕ
heeded ws t = set ws quiet_at (min (quiet_in ws) (t - 1))

-- the next tick goes through the entries [D10]
abbrev pub roused : List ℕ → List ℕ
roused ws = set ws quiet_at 0

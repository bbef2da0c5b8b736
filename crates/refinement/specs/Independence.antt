-- Laws of the machine, carried to nodes: a call is one entry's business, and every other end point, its numbers,
-- timers, counts, payloads and share of what waits are as they were; and what a tick makes of an entry depends on that
-- entry alone. Assumes nothing.
use Rattle.std.specs.Prelude.{ℕ, ◌≡◌, List}
use Rattle.good.specs.Calls.{Memory, after}
use Rattle.machine.specs.Calls.{Call, ticks, Fed}
use Rattle.machine.specs.Machine.{End, Sort, Machine, is_of}
use Rattle.machine.specs.Laws.{Is, share_of, On, Untouched}
use Rattle.machine.specs.LawsTick.{TickAlone}
use Rattle.refinement.specs.Standing.{Stands}

-- a call that is not on entry i leaves what stands for a machine in which entry i is untouched: an arrival is on the
-- entry that the frame is for, handing out on the owner of what goes out, the report on the owner of what is under way
-- (`On`, crates/machine) [I1, I2]
unfoldable pub OthersStayAtNodes : Type 0
OthersStayAtNodes = (t : List ℕ) (n : Memory) (m : Machine) → Stands t n m → (c : Call) → Fed c
    → (i : ℕ) → (On m c i → ⊥) → (m' : Machine) × Stands t (after n c) m' × Untouched m m' i

-- what a tick makes of entry i and of its share of what waits is what these two functions make of them, which are given
-- nothing else but whether a frame of its own is under way (`TickAlone`, crates/machine) [I1]
unfoldable pub TickAloneAtNodes : TickAlone → Type 0
TickAloneAtNodes alone = (t : List ℕ) (n : Memory) (m : Machine) → Stands t n m → (i : ℕ) (e : End) → Is m i e
    → (m' : Machine) × Stands t (after n ticks) m' × Is m' i (alone.becomes (is_of i m.under) e)
    × ((q : Sort) → share_of i (m'.waiting q) ≡ alone.keeps (is_of i m.under) q i e (share_of i (m.waiting q)))

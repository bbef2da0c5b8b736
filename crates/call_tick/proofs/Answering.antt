-- The bits that a tick answers: those of the first n entries come to less than 2 ^ n. Assumes nothing.
use mathlib.Core.Bool.{Bool, true, false, not, ◌&&◌}
use mathlib.Core.Path.{◌≡◌}
use Prim.Native.Nat.{ℕ, ◌+◌, ◌^◌, ◌<◌}
use native.Mathlib.Nat.{two-pow-succ}
use native.Mathlib.Numerals.{add-one}
use native.Mathlib.Omega.{arith}
use Rattle.units.specs.Refusals.{pick}
use Rattle.end_points.specs.Ends.{end_of}
use Rattle.waiting.specs.Port.{is_own}
use Rattle.call_tick.specs.Ticking.{Recovered, again, recover}
use Rattle.end_points.specs.States.{is_over}

pick_bits : (b : Bool) (x y : Recovered) (m : ℕ) → x.bits < m → y.bits < m → (pick b x y).bits < m
pick_bits true x y m p q = p
pick_bits false x y m p q = q

pub bits_lt : (i : ℕ) (r : Recovered) → r.bits < 2 ^ i → (recover i r).bits < 2 ^ (i + 1)
unfolding recover
bits_lt i r h =
    let d : 2 ^ (i + 1) ≡ 2 ^ i + 2 ^ i = rw add-one (two-pow-succ i) in
    pick_bits (is_over (end_of r.lent.node i).state && not (is_own r.lent.book i)) (again i r) r _ (omega arith) (omega arith)

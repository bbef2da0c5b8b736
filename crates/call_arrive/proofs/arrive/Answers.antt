-- `call_arrive::arrive` meets its contract. Assumes nothing.
use mathlib.Core.Path.{◌≡◌, sym, ◌∙◌}
use mathlib.Core.Bool.{true}
use native.Mathlib.Omega.{arith}
use Rattle.frame.specs.Reading.{sound_of}
use Rattle.call_arrive.proofs.Room.{sound_short}
use Rattle.call_arrive.proofs.arrive.Goals as goal

pub invariant_of-carried : goal.invariant_of-carried
invariant_of-carried c =
    let a = c.args in
    let s : sound_of a.frame.now ≡ true = sym c.is_sound.ensures ∙ c.if-not-is_sound.false in
    rw c.payload.ensures
    (record { short = sound_short a.frame.now (λ k. omega (arith, c.shared_slice_known-1.given k)) s })

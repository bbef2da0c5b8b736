-- `frame::writing::emit` meets its contract. Assumes nothing.
use mathlib.Core.Path.{◌≡◌, ap, ◌∙◌}
use Prim.Native.Nat.{◌+◌, ◌≤◌}
use native.Mathlib.Omega.{arith}
use lib.Seq.{sets, length-sets}
use lib.ListN.{length}
use Rattle.frame.proofs.WriteLaws.{put_body, put_check, body_front, check_out}
use Rattle.frame.specs.Layout.{body_bytes}
use Rattle.frame.proofs.writing.emit.Goals.{After-put_all-2}
use Rattle.frame.proofs.writing.emit.Goals as goal

body_put :
    (c : After-put_all-2) →
    c.put_all-2.new.s ≡ sets c.args.buffer.now 0 (body_bytes c.args.fields c.args.payload.now)
body_put c =
    let a = c.args in
    rw (c.put_all-2.ensures, c.put_all.ensures, c.head-first.ensures) (put_body a.fields a.payload.now a.buffer.now)

pub returns-then-end-buffer : goal.returns-then-end-buffer
returns-then-end-buffer c =
    let a = c.args in
    let e = body_put (goal.at.returns-then-end-buffer c).After-put_all-2 in
    let room : length a.payload.now + 8 ≤ length a.buffer.now = omega (arith, length-sets a.buffer.now 0 (body_bytes a.fields a.payload.now), ap length e) in
    rw (
      c.put.ensures,
      c.check-c.ensures,
      e,
      body_front a.fields a.payload.now a.buffer.now room,
    )
    (put_check a.fields a.payload.now a.buffer.now)

pub returns-else-end-buffer : goal.returns-else-end-buffer
returns-else-end-buffer c =
    let a = c.args in
    let e = body_put (goal.at.returns-else-end-buffer c).After-put_all-2 in
    let full : length a.buffer.now ≤ length a.payload.now + 8 = omega (arith, length-sets a.buffer.now 0 (body_bytes a.fields a.payload.now), ap length e) in
    e ∙ check_out a.fields a.payload.now a.buffer.now full

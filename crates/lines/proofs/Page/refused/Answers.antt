use Rattle.std.proofs.Common.{◌≡◌, arith, sym, ◌∙◌}
use borrow.Author.Tests.{eq-eqb, ne_eqb}
use Rattle.units.specs.Refusals.{number_of}
use Rattle.frame.specs.Faults.{no_byte, byte_number, BytesAgree}
use Rattle.frame.proofs.FaultLaws.{bytes_agree}
use Rattle.lines.specs.Lines.{valued_all}
use Rattle.lines.proofs.Saying.{says_one, says_then}
use Rattle.lines.proofs.Page.refused.Goals as goal

pub returns-then-byte-clause-after : goal.returns-then-byte-clause-after
unfolding valued_all BytesAgree
returns-then-byte-clause-after g c =
    let q = ne_eqb _ no_byte c.if-byte.true in
    rw (bytes_agree c.args.why, ← c.from-n.ensures, ← c.fault_byte-byte.ensures, q, ← c.value.ensures.after) c.value-then-byte.ensures.after

pub returns-then-byte-clause-written : goal.returns-then-byte-clause-written
unfolding BytesAgree
returns-then-byte-clause-written g c r =
    let x = c.value.ensures.written r in
    let y = c.value-then-byte.ensures.written (record { within = x.within; room = omega (arith, r.room, c.value.ensures.lent.long) }) in
    let q = ne_eqb _ no_byte c.if-byte.true in
    rw (bytes_agree c.args.why, ← c.from-n.ensures, ← c.fault_byte-byte.ensures, q) (says_then x (says_one _ y))

pub returns-else-byte-clause-after : goal.returns-else-byte-clause-after
unfolding valued_all BytesAgree
returns-else-byte-clause-after g c =
    let n = c.from-n.ensures in
    let q : byte_number (number_of c.args.why) ≡ no_byte = rw n at (sym c.fault_byte-byte.ensures ∙ c.if-byte.false) in
    rw (bytes_agree c.args.why, eq-eqb _ _ q) (rw n at c.value.ensures.after)

pub returns-else-byte-clause-written : goal.returns-else-byte-clause-written
unfolding BytesAgree
returns-else-byte-clause-written g c r =
    let n = c.from-n.ensures in
    let q : byte_number (number_of c.args.why) ≡ no_byte = rw n at (sym c.fault_byte-byte.ensures ∙ c.if-byte.false) in
    rw (bytes_agree c.args.why, eq-eqb _ _ q) (says_one _ (rw n at (c.value.ensures.written r)))

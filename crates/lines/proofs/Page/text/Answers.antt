use Rattle.std.proofs.Common.{◌+◌, ◌≤◌, length}
use Rattle.lines.proofs.Saying.{place_fits, says_put}
use Rattle.lines.proofs.Page.text.Goals as goal

pub returns-clause-written : goal.returns-clause-written
returns-clause-written g c a l =
    let p = c.args.self.now in
    let from = c.place-from.result in
    let bytes = c.args.bytes.now in
    let fits : from + length bytes ≤ length p.bytes.now = rw c.place-from.ensures.answer (place_fits (length p.bytes.now) p.taken (length bytes) l) in
    rw c.put_all.ensures (says_put from bytes fits (c.place-from.ensures.written a))

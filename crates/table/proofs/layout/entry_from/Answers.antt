-- `table::layout::entry_from` meets its contract. Assumes nothing.
use native.Mathlib.Omega.{arith}
use Rattle.table.specs.Layout.{entry_from}
use Rattle.table.proofs.Cut.{cut, cut16, first}
use Rattle.table.proofs.layout.entry_from.Goals as goal

pub returns : goal.returns
unfolding entry_from
returns c =
    let t = c.args.table.now in
    let at = c.args.at in
    let bytes = c.bytes_from-bytes.result.now in
    let is = c.bytes_from-bytes.ensures in
    let b0 = first t bytes at is in
    let b1 = cut t bytes at 1 is (omega arith) in
    let b2 = cut t bytes at 2 is (omega arith) in
    let b3 = cut t bytes at 3 is (omega arith) in
    let w4 = cut16 t bytes at 4 is (omega arith) in
    let w6 = cut16 t bytes at 6 is (omega arith) in
    let w8 = cut16 t bytes at 8 is (omega arith) in
    cc

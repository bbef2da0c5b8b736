use Rattle.std.proofs.Common.{◌≡◌, ◌<◌, length, map, get_or, arith, refl, sym, ap, ◌∙◌}
use Rattle.std.proofs.lemmas.List.{length-map, get_or-map}
use lib.Seq.{take_all}
use Rattle.lines.specs.Lines.{valued_all}
use Rattle.lines.proofs.Pages.{more, all}
use Rattle.lines.proofs.Saying.{says_nothing, says_more}
use Rattle.lines.proofs.Page.values.Goals as goal

pub loop-v-init : goal.loop-v-init
unfolding valued_all
loop-v-init g c = record {
  lent = record { name = refl; long = refl };
  begun = record { within = omega arith; first = refl };
  said = λ r. says_nothing r.within;
}

pub loop-v-preserved : goal.loop-v-preserved
loop-v-preserved g c =
    let f = g.T.AsNumber.number in
    let vs = c.args.vs.now in
    let k = c.loop-v.v-index in
    let i = c.loop-v.invariant in
    let v = c.value.ensures in
    let here : c.as_number.result ≡ get_or (map f vs) k 0 = c.as_number.ensures ∙ ap f c.v-item.is ∙ sym (get_or-map f vs k c.v-item.result 0 c.loop-v-test.true) in
    let within : k < length (map f vs) = omega (arith, length-map vs f, c.loop-v-test.true) in
    record {
      lent = record { name = v.lent.name ∙ i.lent.name; long = v.lent.long ∙ i.lent.long };
      begun = more i.begun within (rw here at v.after);
      said = λ r.
          let x = i.said r in
          says_more (map f vs) k within x (rw here at (v.written (record { within = x.within; room = omega (arith, r.room, i.lent.long) })));
    }

-- What is known where a send goes through: no test fits, so the end is Open, the payload is short enough and the counts
-- go on. Assumes nothing.
use mathlib.Core.Path.{◌≡◌, sym, ◌∙◌}
use Prim.Native.Nat.{ℕ, ◌≤◌, ◌<◌}
use borrow.Author.Tests.{not-false, eqb-false, leb-false, ltb-false}
use Rattle.units.specs.Refusals.{verdict, Verdict}
use Rattle.units.proofs.Judging.{clear}
use Rattle.end_points.specs.declared.State.TheVariants as state
use Rattle.end_points.specs.declared.EndPoint.{EndPoint}
use Rattle.call_send.specs.Sending.{send_tests}
use Rattle.std.specs.Prelude.{Ok}
use Rattle.end_points.proofs.Telling.{is_open_holds}

pub record MaySend (e : EndPoint) (n : ℕ) : Type 0 where
  pub opened : e.state ≡ state.Open
  pub long : n ≤ e.entry.largest
  pub counted : e.run.accepted.0 ≡ 4294967295 → ⊥
  pub room : e.run.taken < e.run.window.size

pub may_send : (e : EndPoint) (n room need : ℕ) (v : Verdict) → v ≡ verdict (send_tests e n room need) → v ≡ Ok tt → MaySend e n
may_send e n room need v judged told =
    let k = (clear (send_tests e n room need) (sym judged ∙ told)).1 in
    record {
      opened = is_open_holds e.state (not-false _ k.0);
      long = ltb-false _ _ k.1.1.0;
      counted = eqb-false _ _ k.1.1.1.0;
      room = leb-false _ _ k.1.1.1.1.0;
    }

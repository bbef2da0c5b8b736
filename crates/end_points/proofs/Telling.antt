-- What a test of a state or of a kind says of it. Assumes nothing.
use mathlib.Core.Path.{◌≡◌, refl, ap}
use mathlib.Core.Bool.{true, true≢false, false≢true}
use borrow.Author.Tests.{eqb-true}
use Rattle.table.specs.declared.Kind.{Kind}
use Rattle.table.specs.declared.Kind.TheVariants.{Sends, Receives}
use Rattle.end_points.specs.States.{is_sends, is_closed, is_open, is_over}
use Rattle.end_points.specs.declared.State.{State}
use Rattle.end_points.specs.declared.State.TheVariants.{Closed, Enabled, Open, Failing}

pub is_open_holds : (s : State) → is_open s ≡ true → s ≡ Open
is_open_holds Closed h = absurd (false≢true h)
is_open_holds (Enabled t sent) h = absurd (false≢true h)
is_open_holds Open h = refl
is_open_holds (Failing n) h = absurd (false≢true h)

pub is_closed_holds : (s : State) → is_closed s ≡ true → s ≡ Closed
is_closed_holds Closed h = refl
is_closed_holds (Enabled t sent) h = absurd (false≢true h)
is_closed_holds Open h = absurd (false≢true h)
is_closed_holds (Failing n) h = absurd (false≢true h)

pub is_over_holds : (s : State) → is_over s ≡ true → s ≡ Failing 0
is_over_holds Closed h = absurd (false≢true h)
is_over_holds (Enabled n sent) h = absurd (false≢true h)
is_over_holds Open h = absurd (false≢true h)
is_over_holds (Failing n) h = ap Failing (eqb-true n 0 h)

pub same_kind : (a b : Kind) → is_sends a ≡ is_sends b → a ≡ b
same_kind Sends Sends h = refl
same_kind Sends Receives h = absurd (true≢false h)
same_kind Receives Sends h = absurd (false≢true h)
same_kind Receives Receives h = refl

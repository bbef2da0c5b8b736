-- What a window found of a number, and an end point's run begun anew or without its Urgent. Cited by the calls.
-- Assumes nothing.
use Rattle.std.specs.Prelude.{Bool, true, false}
use Rattle.window.specs.Windows.{reset_of}
use Rattle.window.specs.declared.Found.{Found}
use Rattle.window.specs.declared.Found.TheVariants.{New, Held, Outside}
use Rattle.end_points.specs.declared.Run.{Run}

-- what a window found of a number is that it is new [W4, A2]
abbrev pub is_new : Found → Bool
is_new New = true
is_new Held = false
is_new Outside = false

-- becoming Closed or Enabled: start 1, nothing taken, handed out, held or acknowledged; the counts are kept [E8]
unfoldable pub anew : Run → Run
anew r =
    record {
      window = reset_of r.window;
      taken = 0;
      handed = 0;
      accepted = r.accepted;
      confirmed = r.confirmed;
      urgent = 0;
    }

-- no Urgent waits [D8, H1]
unfoldable pub urgent_gone : Run → Run
urgent_gone r =
    record {
      window = r.window;
      taken = r.taken;
      handed = r.handed;
      accepted = r.accepted;
      confirmed = r.confirmed;
      urgent = 0;
    }

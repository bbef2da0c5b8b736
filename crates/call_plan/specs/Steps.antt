-- How the call goes about a plan: the payloads are laid one after the other, and how many were accepted is written
-- into the node once, at the end. Cited by the call's own functions alone: what it comes to is Planning.antt. Assumes
-- nothing.
use Rattle.std.specs.Prelude.{ℕ, ◌+◌, List, length, set, eqb, Ok, Err}
use Rattle.units.specs.Refusals.{pick, Verdict}
use Rattle.memory.specs.Layout.{entry_at, taken_word, accepted_word}
use Rattle.end_points.specs.declared.EndPoint.{EndPoint}
use Rattle.end_points.specs.declared.Run.{Run}
use Rattle.call_send.specs.Sending.{laid_book, laid_store}

-- an end point that has taken and accepted n payloads more [W2]
abbrev pub advanced : EndPoint → ℕ → EndPoint
advanced e n =
    record {
      entry = e.entry;
      place = e.place;
      state = e.state;
      run = record {
        window = e.run.window;
        taken = e.run.taken + n;
        handed = e.run.handed;
        accepted = record { 0 = e.run.accepted.0 + n };
        confirmed = e.run.confirmed;
        urgent = e.run.urgent;
      };
    }

-- the node that says so of entry i, whose run is r: where n is 0 no word is written [W2, I3]
abbrev pub accepted_node : List ℕ → ℕ → Run → ℕ → List ℕ
accepted_node ws i r n =
    pick (eqb n 0) ws
    (set (set ws (entry_at i + taken_word) (r.taken + n)) (entry_at i + accepted_word) (r.accepted.0 + n))

-- book and store after a send of p at entry i, which is e, with its verdict; refused, all is as it was [W2, R44]
abbrev pub book_after : Verdict → List ℕ → ℕ → EndPoint → List ℕ → List ℕ
book_after (Ok _) b i e p = laid_book b i e (length p)
book_after (Err w) b i e p = b

abbrev pub store_after : Verdict → List ℕ → EndPoint → List ℕ → List ℕ
store_after (Ok _) s e p = laid_store s e p
store_after (Err w) s e p = s

-- The port reports that the frame under way has ended: which answer, and what node and book hold afterwards. Cited by
-- the call. Assumes nothing.
use Rattle.std.specs.Prelude.{ℕ, Bool, true, not, ◌&&◌, List, [], ◌∷◌, set, eqb, ltb, Ok, Err}
use Rattle.units.specs.Refusals.{pick, verdict, Verdict}
use Rattle.units.specs.declared.refusals.Refusal.TheVariants as refusal
use Rattle.memory.specs.Layout.{timer_at}
use Rattle.waiting.specs.Port.{under_in, out_entry, out_number, is_data, is_reset, ended}
use Rattle.timing.specs.Timing.{clock_in, later, heeded, roused}
use Rattle.window.specs.Windows.{offset_of}
use Rattle.end_points.specs.Ends.{end_of, saved}
use Rattle.end_points.specs.Lent.{Lent}
use Rattle.end_points.specs.declared.EndPoint.{EndPoint}
use Rattle.end_points.specs.declared.Run.{Run}
use Rattle.end_points.specs.declared.State.{State}
use Rattle.end_points.specs.declared.State.TheVariants.{Closed, Enabled, Open, Failing}
use Rattle.slots.specs.Slots.{cell, timer_in}

-- 20 where no frame is under way [H8, R20, R49]
unfoldable pub report_answer : Lent → Verdict
report_answer x = verdict ((eqb (under_in x.book) 0, refusal.NoneUnderWay) ∷ [])

-- ---- what starts, by the end point of entry i and by what was under way

-- Data's timer: where its number is still handed out and its timer stands. That of an acknowledged number does not.
-- [D2, D12]
abbrev pub data_starts : List ℕ → ℕ → Run → ℕ → Bool
data_starts b i r u =
    is_data u i
    && (ltb (offset_of r.window (out_number u)) r.handed
    && not (eqb (timer_in b (cell i r.window (out_number u))) 0))

-- a Reset's timer: where one went out since Enabled began; it was this one, since no other frame has gone out [D2, D12]
abbrev pub reset_starts : ℕ → ℕ → Bool → Bool
reset_starts i u sent = is_reset u i && sent

-- the node: the tick at which a timer that starts runs out goes through the entries. At Failing the next one does,
-- since none may be left to wait for [D2, D10]
unfoldable pub started_node : List ℕ → List ℕ → ℕ → EndPoint → State → ℕ → List ℕ
started_node ws b i e Closed u = ws
started_node ws b i e (Enabled d sent) u =
    pick (reset_starts i u sent)
    (heeded (saved ws i (Enabled (later (clock_in ws) e.entry.timeout) true) e.run) e.entry.timeout) ws
started_node ws b i e Open u = pick (data_starts b i e.run u) (heeded ws e.entry.timeout) ws
started_node ws b i e (Failing n) u = roused ws

-- the book: Data's timer [D2]
abbrev pub timed : List ℕ → List ℕ → ℕ → EndPoint → ℕ → List ℕ
timed ws b i e u =
    pick (data_starts b i e.run u)
    (set b (timer_at (cell i e.run.window (out_number u))) (later (clock_in ws) e.entry.timeout)) b

unfoldable pub started_book : List ℕ → List ℕ → ℕ → EndPoint → State → ℕ → List ℕ
started_book ws b i e Closed u = b
started_book ws b i e (Enabled d sent) u = b
started_book ws b i e Open u = timed ws b i e u
started_book ws b i e (Failing n) u = timed ws b i e u

-- ---- the call

-- what the end of u leaves, which was entry i's
abbrev pub started : Lent → ℕ → EndPoint → ℕ → Lent
started x i e u =
    record {
      node = started_node x.node x.book i e e.state u;
      book = ended (started_book x.node x.book i e e.state u);
      store = x.store;
      out = x.out;
    }

-- refused, all is as it was; else none is under way any more [H8, R44]
unfoldable pub report_after : Lent → Verdict → Lent
report_after x (Err w) = x
report_after x (Ok _) =
    let u = under_in x.book in
    started x (out_entry u) (end_of x.node (out_entry u)) u

-- A record's call on a node that is lent: what it answers, and what all that was lent holds afterwards, by the
-- definitions that the call's own contract cites. Cited by `trace_step` and by whatever replays a trace. Assumes
-- nothing.
use Rattle.std.specs.Prelude.{ℕ, List, eqb, ltb, Err}
use Rattle.units.specs.Refusals.{pick}
use Rattle.units.specs.declared.refusals.Refusal.TheVariants as refusal
use Rattle.end_points.specs.Lent.{Lent, bare, stored, whole}
use Rattle.call_open.specs.Setup.{setup_answer, setup_after}
use Rattle.call_open.specs.Opening.{open_answer, open_after, close_answer, close_after}
use Rattle.call_send.specs.Sending.{send_answer, send_after, urgent_answer, urgent_after}
use Rattle.call_arrive.specs.Arriving.{arrival_answer, arrival_after}
use Rattle.call_hand_out.specs.Handing.{hand_out_answer, hand_out_after}
use Rattle.call_report.specs.Reporting.{report_answer, report_after}
use Rattle.call_tick.specs.Ticking.{tick_answer, tick_after}
use Rattle.trace.specs.Kinds.{table_kind, open_kind, close_kind, send_kind, urgent_kind, arrival_kind}
use Rattle.trace.specs.Kinds.{tick_kind, hand_out_kind, report_kind}
use Rattle.trace.specs.Layout.{count_of, begin_of, head_from, bytes_from}
use Rattle.trace_step.specs.declared.Told.{Told}
use Rattle.trace_step.specs.declared.Told.TheVariants as told

-- what a call answered, and all that was lent as it is then [O1]
pub record Outcome : Type 0 where
  pub told : Told
  pub lent : Lent

abbrev pub outcome : Told → Lent → Outcome
outcome t x = record { told = t; lent = x }

-- ---- what a call is lent of it, and what it leaves beside the rest

abbrev pub bare_of : Lent → Lent
bare_of x = bare x.node x.book

abbrev pub stored_of : Lent → Lent
stored_of x = stored x.node x.book x.store

abbrev pub beside_bare : Lent → Lent → Lent
beside_bare x y = whole y.node y.book x.store x.out

abbrev pub beside_stored : Lent → Lent → Lent
beside_stored x y = whole y.node y.book y.store x.out

-- ---- the calls

abbrev pub set_up : Lent → List ℕ → Outcome
set_up x t =
    let r = setup_answer (stored_of x) t in
    outcome (told.Plain r) (beside_stored x (setup_after (stored_of x) t r))

abbrev pub opened : Lent → ℕ → Outcome
opened x i = let r = open_answer (bare_of x) i in outcome (told.Plain r) (beside_bare x (open_after (bare_of x) i r))

abbrev pub closed : Lent → ℕ → Outcome
closed x i = let r = close_answer (bare_of x) i in outcome (told.Plain r) (beside_bare x (close_after (bare_of x) i r))

abbrev pub sent : Lent → ℕ → List ℕ → Outcome
sent x i p =
    let r = send_answer (stored_of x) i p in
    outcome (told.Plain r) (beside_stored x (send_after (stored_of x) i p r))

abbrev pub urged : Lent → ℕ → List ℕ → Outcome
urged x i p =
    let r = urgent_answer (stored_of x) i p in
    outcome (told.Plain r) (beside_stored x (urgent_after (stored_of x) i p r))

abbrev pub arrived : Lent → List ℕ → Outcome
arrived x f = outcome (told.Arrival (arrival_answer x f)) (arrival_after x f)

abbrev pub ticked : Lent → Outcome
ticked x = outcome (told.Tick (tick_answer (bare_of x))) (beside_bare x (tick_after (bare_of x)))

abbrev pub handed_out : Lent → Outcome
handed_out x = outcome (told.HandOut (hand_out_answer x)) (hand_out_after x (hand_out_answer x))

abbrev pub reported : Lent → Outcome
reported x = let r = report_answer (bare_of x) in outcome (told.Plain r) (beside_bare x (report_after (bare_of x) r))

-- what is no call: 21, and nothing alters [R21, R44]
abbrev pub no_call : Lent → Outcome
no_call x = outcome (told.Plain (Err refusal.BadTrace)) x

-- ---- a record's

-- the call of a kind, with an index i and bytes b [L6, L9]
unfoldable pub call_of : Lent → ℕ → ℕ → List ℕ → Outcome
call_of x kind i b =
    pick (eqb kind table_kind) (set_up x b)
    (pick (eqb kind open_kind) (opened x i)
    (pick (eqb kind close_kind) (closed x i)
    (pick (eqb kind send_kind) (sent x i b)
    (pick (eqb kind urgent_kind) (urged x i b)
    (pick (eqb kind arrival_kind) (arrived x b)
    (pick (eqb kind tick_kind) (ticked x)
    (pick (eqb kind hand_out_kind) (handed_out x)
    (pick (eqb kind report_kind) (reported x)
    (no_call x)))))))))

-- the call of the record that begins at a byte [L5, L9]
abbrev pub call_from : Lent → List ℕ → ℕ → Outcome
call_from x f at = call_of x (head_from f at).kind (head_from f at).index (bytes_from f at)

-- the call of record k [L3, L9]
unfoldable pub step_of : Lent → List ℕ → ℕ → Outcome
step_of x f k = pick (ltb k (count_of f)) (call_from x f (begin_of f k)) (no_call x)

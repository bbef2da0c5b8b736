-- The sender's entry as it is watched, and the host's calls and the report on the sender's machine. Assumes nothing.
use Prim.Native.Nat.{ℕ, ◌<◌}
use mathlib.Core.Path.{◌≡◌, refl, ap, subst}
use mathlib.Core.Option.{some}
use mathlib.Core.List.{List, [], ◌∷◌}
use lib.ListN.{length, get_elem?}
use Rattle.units.specs.Refusals.{pick}
use Rattle.units.proofs.Judging.{Clear}
use Rattle.table.specs.Layout.{entry_of}
use Rattle.table.specs.declared.Entry.{Entry}
use Rattle.frame.specs.Layout.{payload_of}
use Rattle.frame.specs.Reading.{read_of}
use Rattle.machine.specs.Calls.{Call, opens, closes, counts, sends, urges, arrives, hands_out, reports, Answer}
use Rattle.machine.specs.Machine.{End, Machine, Outcome, send_tests, taking, step}
use Rattle.machine.specs.Sound.{Sound}
use Rattle.machine.proofs.Hosting.{clear_send}
use Rattle.promise.specs.History.{SSeen, s_quiet, s_accepts, s_ends}
use Rattle.promise.specs.Seen.{is_done, frame_in, s_in, s_out, s_seen, s_state_of}
use Rattle.promise.proofs.Channel.{Send}
use Rattle.promise.proofs.Laws.{Accepts, accepts_none, accepts_one, SNext, sn_same, sn_accept, sn_end}
use Rattle.promise.proofs.Entries.{entry_is}
use Rattle.promise.proofs.Watched.{Watch, Step, counts_step, unseen, opens_step, closes_step, sends_step, urges_step, reports_step}
use Rattle.promise.proofs.SenderView.{send_of, sent_view, ended_view}

pub s_comes : (e : Entry) (i : ℕ) (block f : List ℕ) (a : Answer)
    → s_seen e i (arrives block f) a ≡ pick (is_done a.numbers) (s_in e (read_of f)) s_quiet
unfolding s_seen
s_comes e i block f a = refl

pub s_goes : (e : Entry) (i : ℕ) (buffer : List ℕ) (a : Answer) → s_seen e i (hands_out buffer) a
    ≡ pick (is_done a.numbers) (s_out e (read_of (frame_in a)) (payload_of (frame_in a))) s_quiet
unfolding s_seen
s_goes e i buffer a = refl

abbrev pub s_watch : List ℕ → ℕ → Watch
s_watch t i =
    record {
      View = Send;
      Seen = SSeen;
      Next = SNext (entry_of t i).window;
      quiet = s_quiet;
      same = sn_same;
      view = λ e w. send_of e;
      seen = s_seen (entry_of t i) i;
      inward = λ r p out. s_in (entry_of t i) r;
      outward = s_out (entry_of t i);
      comes = s_comes (entry_of t i) i;
      goes = s_goes (entry_of t i) i;
      unread = λ w p. refl;
    }

-- a call on m, whose entry i is e
abbrev pub SStep : List ℕ → Machine → ℕ → End → Call → Outcome → Type 0
SStep t m i = Step (s_watch t i) i m

-- a send that no test refuses, where the end is of the entry x, and what is accepted behind it
pub accepts : (x : Entry) (m : Machine) (i : ℕ) (e : End) → get_elem? m.ends i ≡ some e → e.entry ≡ x
    → (p : List ℕ) → Clear (send_tests m e p) → (ps : List (List ℕ)) (d : End)
    → Accepts x.window (send_of (taking p e)) ps (send_of d) → Accepts x.window (send_of e) (p ∷ ps) (send_of d)
accepts x m i e there same p c ps d others =
    let y = clear_send m i e p there c in
    accepts_one (send_of e) (send_of d) p ps (ap s_state_of y.opened)
    (subst (λ (x : Entry). length e.numbers < x.window) same y.room)
    (subst (λ (s : Send). Accepts x.window s ps (send_of d)) (sent_view e p) others)

module _ (t : List ℕ) (m : Machine) (S : Sound t m) (i : ℕ) (e : End) (there : get_elem? m.ends i ≡ some e) where
  abbrev K : Watch
  K = s_watch t i

  pub s_opens : (j : ℕ) → SStep t m i e (opens j) (step m (opens j))
  unfolding s_seen
  s_opens = opens_step K t m S i e there s_ends (λ j a. refl) (λ c. sn_end _ _)

  pub s_closes : (j : ℕ) → SStep t m i e (closes j) (step m (closes j))
  unfolding s_seen
  s_closes = closes_step K t m S i e there s_ends (λ j a. refl) (λ c. sn_end _ _)

  pub s_counts : (j : ℕ) → SStep t m i e (counts j) (step m (counts j))
  unfolding s_seen
  s_counts j = counts_step K t m S i e there j refl

  pub s_sends : (j : ℕ) (p : List ℕ) → SStep t m i e (sends j p) (step m (sends j p))
  unfolding s_seen
  s_sends j p =
      sends_step K t m S i e there p (s_accepts (p ∷ [])) (λ k a. refl)
      (λ c. sn_accept _ _ (p ∷ []) (accepts (entry_of t i) m i e there (entry_is t m S i e there) p c [] (taking p e) (accepts_none _))) j

  pub s_urges : (j : ℕ) (p : List ℕ) → SStep t m i e (urges j p) (step m (urges j p))
  unfolding s_seen
  s_urges j p =
      urges_step K t m S i e there p s_quiet (unseen K t m S i e there (λ k. urges k p) (λ k a. refl))
      (λ c. sn_same (send_of e)) j

  -- the end of a frame: a timer starts at most
  pub s_reports : SStep t m i e reports (step m reports)
  unfolding s_seen
  s_reports = reports_step K t m S i e there (ended_view e) refl

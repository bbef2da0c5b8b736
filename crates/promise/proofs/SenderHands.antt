-- Handing out at the sender's machine: a Reset or Data of the entry is a step of its end point; all else is nothing for
-- it. Assumes nothing.
use Prim.Native.Nat.{ℕ, ◌+◌}
use mathlib.Core.Path.{◌≡◌, refl, sym, ap, subst, ◌∙◌}
use mathlib.Core.Bool.{true, false}
use mathlib.Core.Option.{some}
use mathlib.Core.List.{List}
use lib.ListN.{get_elem?}
use Rattle.units.specs.Refusals.{pick}
use Rattle.window.specs.Numbers.{byte_of}
use Rattle.window.proofs.WindowLaw.{distance_back}
use Rattle.table.specs.Layout.{entry_of}
use Rattle.end_points.specs.States.{is_sends}
use Rattle.machine.specs.Calls.{hands_out}
use Rattle.machine.specs.Machine.{End, Sort, acks, resets, urgents, resends, datas, Machine, offset, numbered, number_at, timed, type_of, carried, handed, step}
use Rattle.machine.specs.Sound.{WaitsData, Sound}
use Rattle.promise.specs.History.{SSeen, s_quiet, s_resets, s_sends}
use Rattle.promise.specs.Seen.{names, s_went, s_state_of}
use Rattle.promise.proofs.Laws.{SNext, sn_same, sn_reset, sn_send}
use Rattle.promise.proofs.Channel.{s_hand}
use Rattle.promise.proofs.Watched.{Watch}
use Rattle.promise.proofs.Handing.{Went, leaving, header_out, unseen, named, by_sort}
use Rattle.promise.proofs.SenderView.{send_of, handed_view}
use Rattle.promise.proofs.SenderCalls.{s_watch, SStep}

module _ (t : List ℕ) (m : Machine) (S : Sound t m) (i : ℕ) (e : End) (there : get_elem? m.ends i ≡ some e)
    (sends : is_sends e.entry.kind ≡ true) (buffer : List ℕ) where
  abbrev K : Watch
  K = s_watch t i

  abbrev W : ℕ
  W = (entry_of t i).window

  -- Data of the number s
  module _ (q : Sort) (w : Went m buffer q) where
    abbrev x : End
    x = w.owned.end

    abbrev s : ℕ
    s = w.item.number

    -- what is seen of it
    abbrev own : SSeen
    own = s_sends s (number_at x s).payload

    data_out : WaitsData x s → handed q x s ≡ numbered x.start (timed 0 false x s) x
        → SNext W (send_of x) own (send_of (handed q x s))
    data_out h z =
        let byte : byte_of (x.start + offset x s) ≡ s =
        distance_back x.start s (S.bounded w.item.entry x w.owned.there).start w.owned.byte in
        let view = ap send_of z ∙ handed_view x s 0 h.taken h.missing in
        subst (SNext W (send_of x) own) (sym view)
        (subst (λ (b : ℕ). SNext W (send_of x) (s_sends b (number_at x s).payload) (s_hand (offset x s) (send_of x))) byte
        (sn_send (send_of x) (offset x s) (ap s_state_of h.opened) h.taken))

    data_step : WaitsData x s → handed q x s ≡ numbered x.start (timed 0 false x s) x
        → s_went (entry_of t i) (header_out m q x s) (carried q x s) (type_of q)
        ≡ pick (names (entry_of t i) x.entry.remote.0 x.entry.channel.0) own s_quiet
        → SStep t m i e (hands_out buffer) (leaving m buffer q w)
    data_step h z y = named K t m S i e there buffer q w own (sends ∙ sym h.sends) y (λ c. data_out h z)

  out : (q : Sort) (w : Went m buffer q) → SStep t m i e (hands_out buffer) (leaving m buffer q w)
  out acks w = unseen K t m S i e there buffer acks w refl (λ c. sn_same _)
  out resets w =
      let h = w.owned.waits in
      named K t m S i e there buffer resets w s_resets (sends ∙ sym h.sends) refl
      (λ c. sn_reset _ h.sent (ap s_state_of h.enabled))
  out urgents w = unseen K t m S i e there buffer urgents w refl (λ c. sn_same _)
  out resends w = data_step resends w w.owned.waits refl refl
  out datas w = data_step datas w w.owned.waits refl refl

  pub s_hands : SStep t m i e (hands_out buffer) (step m (hands_out buffer))
  s_hands = by_sort K t m S i e there buffer out

-- One channel: a run's beginning gives the invariant, and each step keeps it. Assumes nothing.
use Prim.Native.Nat.{ℕ}
use mathlib.Core.Path.{◌≡◌, refl, ap, sym, subst, ◌∙◌}
use mathlib.Core.Logic.{◌⊎◌, inl, inr}
use mathlib.Core.Bool.{true}
use mathlib.Core.List.Memᴰ
use mathlib.Core.List.{List, [], ◌∷◌, map, Memᴰ}
use Rattle.units.specs.Sizes.{is_size}
use Rattle.promise.specs.History.{SState, s_open, Tag, old, new, Back, ack}
use Rattle.promise.proofs.Channel.{s_ack_at, Channel, tag_byte, with_sender, Step, nothing, send, reset_out, data_out, fail, close_receiver, open_receiver, ack_out, reset_in, data_in_holds, ack_in, old_reset_in, old_data_in, old_ack_in, Start}
use Rattle.promise.proofs.Invariant.{Answered, Shelf, Running, Inv, fresh, running, at_open, at_fresh}
use Rattle.promise.proofs.Keeping.{not_new_old, send_keeps, data_out_keeps, reset_out_keeps, fail_keeps, open_keeps, close_keeps, ack_out_keeps, reset_in_keeps, old_reset_keeps}
use Rattle.promise.proofs.KeepingData.{old_data_keeps, data_in_keeps}
use Rattle.promise.proofs.KeepingAcks.{ack_in_keeps}

-- ---- a run's beginning

-- what waits then has its bytes, and answers nothing of this run
old_bytes : (l : List ℕ) → l ≡ map tag_byte (map old l)
old_bytes [] = refl
old_bytes (x ∷ xs) = ap (λ (l : List ℕ). x ∷ l) (old_bytes xs)

not_old : (n : ℕ) (l : List ℕ) → Memᴰ (new n) (map old l) → ⊥
not_old n [] m = Memᴰ.not-nil m
not_old n (x ∷ xs) m = go (Memᴰ.cases_cons m) (λ k. not_old n xs k)
  where
    go : (new n ≡ old x) ⊎ Memᴰ (new n) (map old xs) → (Memᴰ (new n) (map old xs) → ⊥) → ⊥
    go (inl e) below = not_new_old n x e
    go (inr k) below = below k

pub starts : (W : ℕ) (g : Channel) → Start g → Inv W g
starts W g s = fresh (record {
  enabled = s.enabled;
  none_accepted = s.none_accepted;
  none_out = s.none_out;
  no_data = s.no_data;
  silent = λ n a. go n a;
  bytes = record {
    queue = old_bytes g.receiver.waiting ∙ ap (map tag_byte) (sym s.all_old);
    backs = λ a m. absurd (Memᴰ.not-nil (subst (λ (l : List Back). Memᴰ a l) s.none_back m));
  };
})
  where
    go : (n : ℕ) → Answered g.hist.tags g.hist.back n → ⊥
    go n (inl m) = not_old n g.receiver.waiting (subst (λ (l : List Tag). Memᴰ (new n) l) s.all_old m)
    go n (inr (b, m)) = Memᴰ.not-nil (subst (λ (l : List Back). Memᴰ (ack n b) l) s.none_back m)

-- ---- the steps

while_open : (W : ℕ) (g h : Channel) → Inv W g → g.sender.state ≡ s_open → ((v : Shelf) → Running W v g → Running W v h) → Inv W h
while_open W g h i e keeps = let x = at_open W g i e in running x.0 (keeps x.0 x.1)

pub step_keeps : (W : ℕ) → is_size W ≡ true → (g h : Channel) → Step W g h → Inv W g → Inv W h
step_keeps W w g h (nothing _) i = i
step_keeps W w g h (send _ p e l) i = while_open W g h i e (send_keeps W g p l)
step_keeps W w g h (reset_out _ o e) i = reset_out_keeps W g o e i
step_keeps W w g h (data_out _ k e l) i = while_open W g h i e (data_out_keeps W g k l)
step_keeps W w g h (fail _ e) i = while_open W g h i e (fail_keeps W g)
step_keeps W w g h (close_receiver _ t e none-wait) i = close_keeps W g t e none-wait i
step_keeps W w g h (open_receiver _ t c e same) i = open_keeps W g t e same i
step_keeps W w g h (ack_out _ b bs t ts ew et) i = ack_out_keeps g b bs t ts ew et W i
step_keeps W w g h (reset_in _ m d u) i = reset_in_keeps W g m d i
step_keeps W w g h (data_in_holds _ n b p m late e) i = data_in_keeps W w g n b p m late e i
step_keeps W w g h (ack_in _ n b m late) i = ack_in_keeps W w g n b m late i
step_keeps W w g h (old_reset_in _ e u) i = fresh (old_reset_keeps W g (at_fresh W g i e))
step_keeps W w g h (old_data_in _ b p e o) i = fresh (old_data_keeps W g b p (at_fresh W g i e))
step_keeps W w g h (old_ack_in _ b e) i =
    subst (λ (t : SState). Inv W (with_sender (s_ack_at t W g.sender b) g)) (sym (at_fresh W g i e).enabled) i

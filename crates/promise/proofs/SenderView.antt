-- A sender of the machine, seen as the channel's sending end point, and what each alteration of it is there. Assumes
-- nothing.
use Prim.Native.Nat.{ℕ, zero, suc, ◌+◌, ◌-◌, ◌≤◌, ◌<◌}
use mathlib.Core.Path.{◌≡◌, refl, sym, ap, ◌∙◌, fun_ext}
use mathlib.Core.Bool.{Bool, true, false, true≢false, not, ◌&&◌, and-false}
use mathlib.Core.List.{List, [], ◌∷◌, ◌++◌}
use native.Mathlib.Decide.{ℕ_discrete, dec_lt}
use native.Mathlib.Nat.{zero-add}
use native.Mathlib.Omega.{arith}
use lib.ListN.{length, drop, get_or, set, length-append, length-drop, length-set, get_or-append, get_or-eq_default}
use lib.Seq.{get_or_at, get_or-drop}
use lib.Dec.{ltb}
use borrow.Author.Tests.{eq-eqb, ne_eqb, lt-ltb}
use Rattle.units.specs.Refusals.{pick}
use Rattle.window.specs.Numbers.{byte_of}
use Rattle.frame.specs.declared.FrameType.{FrameType}
use Rattle.frame.specs.declared.FrameType.TheVariants as type
use Rattle.end_points.specs.declared.State.{State}
use Rattle.end_points.specs.declared.State.TheVariants.{Closed, Enabled, Open, Failing}
use Rattle.machine.specs.Machine.{Number, number, End, stated, numbered, offset, number_at, taking, timed, acked_run, passing, data_timed, recounted, reset_timed, ended, is_spent, fallen, ticked_all}
use Rattle.machine.proofs.Numbers.{count_fallen}
use Rattle.promise.specs.History.{Pay, SState}
use Rattle.promise.specs.Seen.{s_state_of}
use Rattle.promise.proofs.Windows.{Marks, mark, put, run}
use Rattle.promise.proofs.Offsets.{put_stays, put_reads, run_marks}
use Rattle.promise.proofs.Channel.{Send, s_send, s_hand, s_pass}

-- the number k past the start
abbrev none_there : Number
none_there = number [] 0 false false 0

abbrev pub nth : List Number → ℕ → Number
nth ns k = get_or ns k none_there

-- ---- the view

abbrev pub view : SState → ℕ → List Number → ℕ → ℕ → Send
view s start ns accepted confirmed =
    record {
      state = s;
      start = start;
      taken = length ns;
      handed = λ k. (nth ns k).handed;
      acknowledged = λ k. (nth ns k).acked;
      payloads = λ k. (nth ns k).payload;
      accepted = accepted;
      confirmed = confirmed;
    }

abbrev pub send_of : End → Send
send_of e = view (s_state_of e.state) e.start e.numbers e.accepted e.confirmed

-- numbers that read alike give the view
view_is : (s : SState) (start : ℕ) (ns : List Number) (a c taken : ℕ) (H A : Marks) (P : ℕ → Pay) → length ns ≡ taken
    → ((k : ℕ) → (nth ns k).handed ≡ H k) → ((k : ℕ) → (nth ns k).acked ≡ A k) → ((k : ℕ) → (nth ns k).payload ≡ P k)
    → view s start ns a c ≡ record {
      state = s;
      start = start;
      taken = taken;
      handed = H;
      acknowledged = A;
      payloads = P;
      accepted = a;
      confirmed = c;
    }
view_is s start ns a c taken H A P l h k p = rw (l, fun_ext h, fun_ext k, fun_ext p)

-- ---- send

module _ (e : End) (p : List ℕ) where
  abbrev n : ℕ
  n = length e.numbers

  abbrev last : Number
  last = number p 0 false false 0

  beyond : nth e.numbers n ≡ none_there
  beyond = get_or-eq_default e.numbers none_there {n = n} (omega arith)

  more_reads : {A : Type 0} (read : Number → A) (k : ℕ)
      → read (nth (e.numbers ++ (last ∷ [])) k) ≡ put n (read last) (λ j. read (nth e.numbers j)) k
  more_reads read k = sides (ℕ_discrete k n) (dec_lt k n)
    where
      sides : Dec (k ≡ n) → Dec (k < n)
          → read (nth (e.numbers ++ (last ∷ [])) k) ≡ put n (read last) (λ j. read (nth e.numbers j)) k
      sides (yes q) l = rw (q, eq-eqb n n refl, get_or_at e.numbers last [] none_there n refl)
      sides (no d) (yes l) = rw (ne_eqb k n d, get_or-append e.numbers (last ∷ []) none_there k l)
      sides (no d) (no l) =
          let z = length-append e.numbers (last ∷ []) in
          let a = get_or-eq_default (e.numbers ++ (last ∷ [])) none_there {n = k} (omega arith) in
          let b = get_or-eq_default e.numbers none_there {n = k} (omega arith) in
          rw (ne_eqb k n d, a, b)

  -- what the last reads as is read beyond it too
  mark_stays : (read : Number → Bool) → read none_there ≡ read last → (k : ℕ)
      → read (nth (e.numbers ++ (last ∷ [])) k) ≡ read (nth e.numbers k)
  mark_stays read q k =
      more_reads read k ∙ put_stays (λ j. read (nth e.numbers j)) n (read last) (ap read beyond ∙ q) k

  pub sent_view : send_of (taking p e) ≡ s_send (send_of e) p
  sent_view =
      let one : e.accepted + 1 ≡ suc e.accepted = omega arith in
      rw one
      (view_is (s_state_of e.state) e.start (e.numbers ++ (last ∷ [])) (suc e.accepted) e.confirmed (suc n)
      _ _ _ (length-append e.numbers (last ∷ []) ∙ omega arith)
      (mark_stays (λ x. x.handed) refl) (mark_stays (λ x. x.acked) refl) (more_reads (λ x. x.payload)))

-- ---- one number put anew

module _ (e : End) (s : ℕ) where
  abbrev d : ℕ
  d = offset e s

  abbrev x : Number
  x = number_at e s

  abbrev set_to : Bool → ℕ → Number
  set_to acked t = number x.payload x.retries true acked t

  -- what of it is read as before is read so of all
  reads_stay : {A : Type 0} (read : Number → A) (y : Number) → d < length e.numbers → read x ≡ read y → (k : ℕ)
      → read (nth (set e.numbers d y) k) ≡ read (nth e.numbers k)
  reads_stay read y h q k =
      put_reads none_there read e.numbers d y h k ∙ put_stays (λ j. read (nth e.numbers j)) d (read y) q k

  -- handed out
  pub handed_view : (t : ℕ) → d < length e.numbers → x.acked ≡ false
      → send_of (numbered e.start (timed t false e s) e) ≡ s_hand d (send_of e)
  handed_view t h m =
      view_is (s_state_of e.state) e.start (timed t false e s) e.accepted e.confirmed (length e.numbers)
      _ _ _ (length-set e.numbers d (set_to false t))
      (put_reads none_there (λ y. y.handed) e.numbers d (set_to false t) h)
      (reads_stay (λ y. y.acked) (set_to false t) h m)
      (reads_stay (λ y. y.payload) (set_to false t) h refl)

  -- handed out, so taken
  handed_taken : x.handed ≡ true → d < length e.numbers
  handed_taken h = sides (dec_lt d (length e.numbers))
    where
      sides : Dec (d < length e.numbers) → d < length e.numbers
      sides (yes l) = l
      sides (no l) =
          let z = ap (λ (y : Number). y.handed) (get_or-eq_default e.numbers none_there {n = d} (omega arith)) in
          absurd (true≢false (sym h ∙ z))

  -- its timer alone is put anew, where it was handed out and not acknowledged
  pub timed_view : (t : ℕ) → x.handed ≡ true → x.acked ≡ false
      → send_of (numbered e.start (timed t false e s) e) ≡ send_of e
  timed_view t h m =
      let l = handed_taken h in
      view_is (s_state_of e.state) e.start (timed t false e s) e.accepted e.confirmed (length e.numbers)
      _ _ _ (length-set e.numbers d (set_to false t))
      (reads_stay (λ y. y.handed) (set_to false t) l h)
      (reads_stay (λ y. y.acked) (set_to false t) l m)
      (reads_stay (λ y. y.payload) (set_to false t) l refl)

  -- ---- an acknowledgement that counts

  module _ (W : ℕ) (narrow : length e.numbers ≤ W) where
    -- its test is the channel's
    pub counts_same : (ltb d W && (x.handed && not x.acked)) ≡ (x.handed && not x.acked)
    counts_same = sides x.handed refl
      where
        sides : (h : Bool) → x.handed ≡ h → (ltb d W && (h && not x.acked)) ≡ (h && not x.acked)
        sides true h = rw (lt-ltb d W (let z = handed_taken h in omega arith))
        sides false h = and-false (ltb d W)

    module _ (h : x.handed ≡ true) where
      abbrev ns : List Number
      ns = timed 0 true e s

      abbrev marks : Marks
      marks = mark d (λ j. (nth e.numbers j).acked)

      long : length ns ≡ length e.numbers
      long = length-set e.numbers d (set_to true 0)

      acked_marks : (k : ℕ) → (nth ns k).acked ≡ marks k
      acked_marks = put_reads none_there (λ y. y.acked) e.numbers d (set_to true 0) (handed_taken h)

      -- as many are acknowledged without a gap as the marks say
      run_same : acked_run ns ≡ run W 0 marks
      unfolding acked_run
      run_same =
          run_marks none_there (λ y. y.acked) acked_run refl (λ y ys. refl) refl W 0 ns marks
          (λ k. ap marks (zero-add k) ∙ sym (acked_marks k)) (rw long narrow)

      dropped : {A : Type 0} (read : Number → A) (n k : ℕ) → read (nth (drop n ns) k) ≡ read (nth ns (n + k))
      dropped read n k = ap read (get_or-drop n ns k none_there)

      -- the view of what it leaves
      pub passed_view : (st : State) → s_state_of st ≡ s_state_of e.state
          → send_of (stated st (passing (acked_run ns) ns e)) ≡ s_pass (run W 0 marks) marks (send_of e)
      passed_view st q =
          let n = acked_run ns in
          let l = handed_taken h in
          rw (q, ← run_same)
          (view_is (s_state_of e.state) (byte_of (e.start + n)) (drop n ns) e.accepted (e.confirmed + n) _ _ _ _
          (length-drop n ns ∙ ap (λ (k : ℕ). k - n) long)
          (λ k. dropped (λ y. y.handed) n k ∙ reads_stay (λ y. y.handed) (set_to true 0) l h (n + k))
          (λ k. dropped (λ y. y.acked) n k ∙ acked_marks (n + k))
          (λ k. dropped (λ y. y.payload) n k ∙ reads_stay (λ y. y.payload) (set_to true 0) l refl (n + k)))

-- ---- the end of a frame

-- Data's starts a timer at most
data_view : (e : End) (s : ℕ) → send_of (data_timed e s) ≡ send_of e
data_view e s = sides (number_at e s).handed (number_at e s).acked refl refl
  where
    sides : (h a : Bool) → (number_at e s).handed ≡ h → (number_at e s).acked ≡ a
        → send_of (pick (h && not a) (numbered e.start (timed e.entry.timeout false e s) e) e) ≡ send_of e
    sides true true h a = refl
    sides true false h a = timed_view e s e.entry.timeout h a
    sides false a h k = refl

-- a Failing end says anew how many run, and is Failing
recounted_view : (z : State) (d : End) → s_state_of d.state ≡ s_state_of z → send_of (recounted z d) ≡ send_of d
recounted_view Closed d q = refl
recounted_view (Enabled timer sent) d q = refl
recounted_view Open d q = refl
recounted_view (Failing n) d q = rw q

-- a Reset's starts a timer where one was handed out, and one was handed out then too
reset_view : (z : State) (e : End) → e.state ≡ z → send_of (reset_timed z e) ≡ send_of e
reset_view Closed e q = refl
reset_view (Enabled timer true) e q = rw q
reset_view (Enabled timer false) e q = refl
reset_view Open e q = refl
reset_view (Failing n) e q = refl

-- timers are no part of what is seen
pub ended_view : (e : End) (q : FrameType) (s : ℕ) → send_of (ended q e s) ≡ send_of e
ended_view e type.Data s =
    let v = data_view e s in recounted_view e.state (data_timed e s) (ap (λ (x : Send). x.state) v) ∙ v
ended_view e type.Acknowledge s = refl
ended_view e type.Reset s = reset_view e.state e refl
ended_view e type.Urgent s = refl

-- ---- a tick

-- of each number nothing is seen but timer and retries
ticked_reads : {A : Type 0} (read : Number → A) → ((again : Bool) (x : Number) → read (fallen again x) ≡ read x)
    → (M : ℕ) (again : Bool) (ns : List Number) (k : ℕ) → read (nth (ticked_all M again ns) k) ≡ read (nth ns k)
unfolding ticked_all
ticked_reads read f M again [] k = refl
ticked_reads read f M again (x ∷ xs) zero = f (again && not (is_spent M x)) x
ticked_reads read f M again (x ∷ xs) (suc k) = ticked_reads read f M (again && not (is_spent M x)) xs k

pub ticked_view : (s : SState) (start M : ℕ) (again : Bool) (ns : List Number) (a c : ℕ)
    → view s start (ticked_all M again ns) a c ≡ view s start ns a c
ticked_view s start M again ns a c =
    view_is s start (ticked_all M again ns) a c (length ns) _ _ _ (count_fallen M again ns)
    (ticked_reads (λ x. x.handed) (λ b x. refl) M again ns) (ticked_reads (λ x. x.acked) (λ b x. refl) M again ns)
    (ticked_reads (λ x. x.payload) (λ b x. refl) M again ns)

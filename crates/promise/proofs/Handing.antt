-- Handing out at a machine: what waits goes out, from the first sort on that is not empty; a bystander reads the frame
-- as it was meant, and so sees a step of the entry that he watches. Assumes nothing.
use Prim.Native.Nat.{ℕ, ◌≤◌}
use mathlib.Core.Path.{◌≡◌, refl, sym, ap, subst, ◌∙◌}
use mathlib.Core.Logic.{◌≢◌, ◌⊎◌, inl, inr}
use mathlib.Core.Option.{Option, none, some, some-injective}
use mathlib.Core.List.{List, [], Memᴰ}
use native.Mathlib.Decide.{ℕ_discrete}
use native.Mathlib.Omega.{arith}
use lib.ListN.{length, take, get_elem?, set}
use lib.Seq.{sets}
use borrow.Author.Tests.{ltb-false}
use Rattle.units.specs.Refusals.{pick}
use Rattle.units.specs.declared.refusals.Refusal.{Refusal}
use Rattle.units.specs.declared.refusals.Refusal.TheVariants as refusal
use Rattle.units.proofs.Judging.{clear}
use Rattle.table.specs.Layout.{entry_of}
use Rattle.frame.specs.Faults.{refused_of}
use Rattle.frame.specs.Reading.{sound_of, read_of}
use Rattle.frame.specs.declared.Header.{Header}
use Rattle.end_points.specs.States.{is_sends}
use Rattle.good.proofs.Stores.{read_own}
use Rattle.machine.specs.Calls.{hands_out}
use Rattle.machine.specs.Machine.{End, Item, Sort, Out, Machine, Outcome, answers}
use Rattle.machine.specs.Machine.{type_of, carried, frame_of, handed, step}
use Rattle.machine.specs.Sound.{Owned, Sound}
use Rattle.machine.specs.Laws.{Next}
use Rattle.machine.specs.LawsHanding.{NextOrNone, ReadsAs, ReadsBack}
use Rattle.machine.proofs.Entries.{elem_lt, elem_set_same}
use Rattle.machine.proofs.Judged.{by_verdict}
use Rattle.machine.proofs.Handing.{next_or_none, room_tests, gone, owner, under_is, goes_is, none_is, reads_back}
use Rattle.machine.proofs.Apart.{gone_leaves}
use Rattle.promise.specs.Seen.{names}
use Rattle.promise.proofs.Entries.{names_own, names_other}
use Rattle.promise.proofs.Watched.{Watch, owed, Step, seen_as, still, untouched, refused_done}
use Rattle.std.specs.Prelude.{Ok, Err}

-- ---- what goes out

-- the first of a sort went out, into a buffer with room for its frame
pub record Went (m : Machine) (buffer : List ℕ) (q : Sort) : Type 0 where
  pub item : Item
  pub rest : List Item
  pub next : Next m q item rest
  pub owned : Owned m q item
  pub long : length (frame_of m q owned.end item.number) ≤ length buffer

abbrev pub leaving : (m : Machine) (buffer : List ℕ) (q : Sort) → Went m buffer q → Outcome
leaving m buffer q w = gone m buffer q w.item w.owned.end

-- ---- a frame is read as it was meant

-- the header that is read
abbrev pub header_out : Machine → Sort → End → ℕ → Header
header_out m q e s =
    record {
      destination = e.entry.remote;
      protocol = m.protocol;
      source = m.own;
      kind = type_of q;
      channel = e.entry.channel;
      seq = record { 0 = s };
      length = length (carried q e s);
    }

out_reads : (m : Machine) (q : Sort) (e : End) (s : ℕ) (f : List ℕ) → ReadsAs m q e s f
    → read_of f ≡ Ok (header_out m q e s)
out_reads m q e s f r = r.reads ∙ ap Ok header_is
  where
    parts : (h : Header) → h ≡ record {
      destination = h.destination;
      protocol = h.protocol;
      source = h.source;
      kind = h.kind;
      channel = h.channel;
      seq = record { 0 = h.seq.0 };
      length = h.length;
    }
    parts h = refl

    header_is : r.header ≡ header_out m q e s
    header_is =
        parts r.header ∙ rw (r.destination, r.protocol, r.source, r.kind, r.channel, r.number, r.size)

-- the frame stands in the buffer
frame_in : (buffer f : List ℕ) → length f ≤ length buffer → take (length f) (sets buffer 0 f) ≡ f
frame_in buffer f h = read_own buffer f 0 (omega (arith, h))

read_nothing : read_of [] ≡ Err refusal.BadFrame
unfolding read_of sound_of
read_nothing = refl

-- ---- as a step of entry i

module _ (K : Watch) (t : List ℕ) (m : Machine) (S : Sound t m) (i : ℕ) (e : End)
    (there : get_elem? m.ends i ≡ some e) (buffer : List ℕ) where
  abbrev Goes : Outcome → Type 0
  Goes = Step K i m e (hands_out buffer)

  -- number s of entry k, which is x, went out
  module _ (q : Sort) (w : Went m buffer q) where
    abbrev k : ℕ
    k = w.item.entry

    abbrev x : End
    x = w.owned.end

    abbrev s : ℕ
    s = w.item.number

    abbrev o : Outcome
    o = leaving m buffer q w

    -- what is seen of it
    abbrev went : K.Seen
    went = K.outward (Ok (header_out m q x s)) (carried q x s)

    seen : K.seen (hands_out buffer) o.answer ≡ went
    unfolding ReadsBack
    seen =
        let first = subst (Memᴰ w.item) (sym w.next.first) (Memᴰ.head refl) in
        let r = reads_back t m S q w.item first x w.owned.there in
        K.goes buffer o.answer
        ∙ rw (frame_in buffer (frame_of m q x s) w.long, out_reads m q x s (frame_of m q x s) r, r.payload)

    pub same : i ≡ k → x ≡ e
    same c = some-injective _ _ (sym w.owned.there ∙ sym (ap (λ (j : ℕ). get_elem? m.ends j) c) ∙ there)

    -- of another entry, and unseen
    apart : i ≢ k → went ≡ K.quiet → Goes o
    apart d z =
        let u = gone_leaves m q w.item w.rest w.next i (λ c. d (sym c)) buffer x in
        untouched K i m e there _ o u (seen ∙ z)

    -- of entry i: where own is seen, what it leaves follows
    abbrev Follow : K.Seen → Type 0
    Follow own = i ≡ k → K.Next (K.view x (owed i m)) own (K.view (handed q x s) (owed i o.machine))

    here : (own : K.Seen) → Follow own → i ≡ k → went ≡ own → Goes o
    here own n c z =
        seen_as K i m e (seen ∙ z) (record {
          end = handed q x s;
          there = subst (λ (j : ℕ). get_elem? (set m.ends j (handed q x s)) i ≡ some (handed q x s)) c
              (elem_set_same m.ends i (handed q x s) (elem_lt m.ends i there));
          next = subst (λ (y : End). K.Next (K.view y (owed i m)) own (K.view (handed q x s) (owed i o.machine)))
              (same c) (n c);
        })

    -- nothing is seen of its sort
    pub unseen : went ≡ K.quiet → Follow K.quiet → Goes o
    unseen z n = sides (ℕ_discrete i k)
      where
        sides : Dec (i ≡ k) → Goes o
        sides (yes c) = here K.quiet n c z
        sides (no d) = apart d z

    -- it is seen by whom it names
    pub named : (own : K.Seen) → is_sends e.entry.kind ≡ is_sends x.entry.kind
        → went ≡ pick (names (entry_of t i) x.entry.remote.0 x.entry.channel.0) own K.quiet → Follow own
        → Goes o
    named own b z n = sides (ℕ_discrete i k)
      where
        sides : Dec (i ≡ k) → Goes o
        sides (yes c) = here own n c (z ∙ rw (c, names_own t m S k x w.owned.there))
        sides (no d) = apart d (z ∙ rw (names_other t m S i e there k x w.owned.there b d))

  -- refused, for want of room or with another frame under way; or nothing waits; or it went out
  pub by_sort : ((q : Sort) (w : Went m buffer q) → Goes (leaving m buffer q w)) → Goes (step m (hands_out buffer))
  unfolding NextOrNone
  by_sort h = way m.under refl
    where
      refused : (r : Refusal) → Goes (answers (refused_of r) buffer m)
      refused r = still K i m e _ _ e there refl (K.goes buffer _ ∙ rw (refused_done r))

      sides : m.under ≡ none
          → ((q : Sort) × (x : Item) × (xs : List Item) × Next m q x xs) ⊎ ((q : Sort) → m.waiting q ≡ [])
          → Goes (step m (hands_out buffer))
      sides under (inl (q, x, xs, n)) =
          let w = owner t m S q x xs n in
          subst Goes (sym (goes_is t m S under q x xs n w.end w.there buffer))
          (by_verdict Goes (room_tests m buffer q x w.end) buffer m (gone m buffer q x w.end) refused
          (λ p. h q (record {
            item = x;
            rest = xs;
            next = n;
            owned = w;
            long = ltb-false (length buffer) _ (clear (room_tests m buffer q x w.end) p).0;
          })))
      sides under (inr empty) =
          subst Goes (sym (none_is t m S under empty buffer))
          (still K i m e _ _ e there refl (K.goes buffer _ ∙ rw read_nothing (K.unread refusal.BadFrame _)))

      way : (u : Option Out) → m.under ≡ u → Goes (step m (hands_out buffer))
      way none under = sides under (next_or_none m)
      way (some f) under = subst Goes (sym (under_is m f under buffer)) (refused refusal.UnderWay)

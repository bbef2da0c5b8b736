-- On an index that says what the table does the entry found is the first that fits: what is found fits, and an entry that fits alone is
-- found. Assumes nothing.
use Prim.Native.Nat.{ℕ, ◌<◌, zero-le}
use mathlib.Core.Bool.{Bool, true, false, ◌&&◌, true≢false}
use mathlib.Core.List.{List}
use mathlib.Core.Path.{◌≡◌, refl, sym, ap₂, ◌∙◌}
use native.Mathlib.Omega.{arith}
use lib.Dec.{eqb, ltb}
use borrow.Author.Tests.{eq-eqb, eqb-true, lt-ltb, ltb-true}
use Rattle.std.proofs.lemmas.Bool.{and_parts}
use Rattle.table.specs.declared.Entry.{Entry}
use Rattle.end_points.specs.Ends.{load_entry}
use Rattle.end_points.specs.Heads.{count_in}
use Rattle.end_points.specs.States.{is_sends}
use Rattle.arrive_lookup.specs.Lookup.{Indexed, listed, first_from}
use Rattle.arrive_lookup.specs.Fitting.{same, fits}
use Rattle.arrive_lookup.proofs.First.{first_holds, first_is, first_ext}

-- ---- an entry that fits

pub record Fitting (e : Entry) (sends : Bool) (from over : ℕ) : Type 0 where
  pub channel : e.channel.0 ≡ over
  pub source : e.remote.0 ≡ from
  pub kind : is_sends e.kind ≡ sends

same_true : (a b : Bool) → same a b ≡ true → b ≡ a
same_true true b h = h
same_true false true h = absurd (true≢false (sym h))
same_true false false h = refl

same_same : (a : Bool) → same a a ≡ true
same_same true = refl
same_same false = refl

pub fitting : (e : Entry) (sends : Bool) (source channel : ℕ) → fits e sends source channel ≡ true → Fitting e sends source channel
unfolding fits
fitting e sends source channel h =
    let p = and_parts (eqb e.channel.0 channel) (eqb e.remote.0 source && same sends (is_sends e.kind)) h in
    let q = and_parts (eqb e.remote.0 source) (same sends (is_sends e.kind)) p.1 in
    record { channel = eqb-true e.channel.0 channel p.0; source = eqb-true e.remote.0 source q.0; kind = same_true sends (is_sends e.kind) q.1 }

fits_true : (e : Entry) (sends : Bool) (source channel : ℕ) → Fitting e sends source channel → fits e sends source channel ≡ true
unfolding fits
fits_true e sends source channel f = rw (eq-eqb _ _ f.channel, eq-eqb _ _ f.source, f.kind) (same_same sends)

-- ---- what the index lists

-- the two rows together
both_rows : (c o k r : Bool) → ((c && (o && k)) && (c && r)) ≡ (c && (o && (r && k)))
both_rows false o k r = refl
both_rows true false k r = refl
both_rows true true false true = refl
both_rows true true false false = refl
both_rows true true true true = refl
both_rows true true true false = refl

module _ (ws : List ℕ) (x : Indexed ws) (sends : Bool) (source channel : ℕ) where
  abbrev fits_at : ℕ → Bool
  fits_at i = ltb i (count_in ws) && fits (load_entry ws i) sends source channel

  lists : (i : ℕ) → i < 16 → listed ws sends source channel i ≡ fits_at i
  unfolding fits
  lists i h =
      ap₂ (λ (a b : Bool). a && b) (x.channels sends channel i h) (x.remotes source i h)
      ∙ both_rows (ltb i (count_in ws)) (eqb (load_entry ws i).channel.0 channel) (same sends (is_sends (load_entry ws i).kind)) (eqb (load_entry ws i).remote.0 source)

  -- the entry found is the first that fits
  pub first_fit : first_from (listed ws sends source channel) 0 16 ≡ first_from fits_at 0 16
  first_fit = first_ext (listed ws sends source channel) fits_at 0 16 (λ i h. lists i (omega arith))

  pub found_fits : first_from (listed ws sends source channel) 0 16 < count_in ws → Fitting (load_entry ws (first_from (listed ws sends source channel) 0 16)) sends source channel
  found_fits h =
      let f : fits_at (first_from (listed ws sends source channel) 0 16) ≡ true =
      sym (lists (first_from (listed ws sends source channel) 0 16) (omega (arith, x.few))) ∙ first_holds (listed ws sends source channel) 0 16 (omega (arith, x.few)) in
      fitting _ sends source channel (and_parts (ltb _ (count_in ws)) (fits _ sends source channel) f).1

  -- an entry that fits alone is found
  pub found_once : (i : ℕ) → i < count_in ws → Fitting (load_entry ws i) sends source channel
      → ((j : ℕ) → j < count_in ws → Fitting (load_entry ws j) sends source channel → j ≡ i) → first_from (listed ws sends source channel) 0 16 ≡ i
  found_once i h f once =
      first_fit
      ∙ first_is fits_at 0 16 i zero-le (omega (arith, x.few)) (λ j l b. before j b (fits_at j) refl)
      (λ l. rw (lt-ltb i (count_in ws) h) (fits_true (load_entry ws i) sends source channel f))
    where
      before : (j : ℕ) → j < i → (b : Bool) → fits_at j ≡ b → b ≡ false
      before j l false e = refl
      before j l true e =
          let p = and_parts (ltb j (count_in ws)) (fits (load_entry ws j) sends source channel) e in
          let q = once j (ltb-true j (count_in ws) p.0) (fitting _ sends source channel p.1) in
          absurd (omega arith)

-- Laws of the four queues: appending is one more at the end, unlinking takes out of the middle, and neither touches another queue or the
-- rest of the book. Assumes nothing.
use Prim.Native.Nat.{ℕ, ◌<◌, ◌≤◌}
use mathlib.Core.Path.{◌≡◌, sym, ◌∙◌}
use mathlib.Core.Logic.{◌≢◌}
use mathlib.Core.List.{List, [], ◌∷◌, ◌++◌}
use native.Mathlib.Omega.{arith}
use lib.ListN.{length, get_or, set, length-set}
use lib.Seq.{get_or-set_same, get_or-set_other}
use Rattle.memory.specs.Layout.{cells_at, ids_end, next_at, prev_at, book_halves}
use Rattle.waiting.specs.Queues.{next_of, prev_of, joined, appended, unlinked}
use Rattle.waiting.specs.Order.{Adjacent, Chain, Out, Distinct, Below, Queue}

-- ---- one link

module _ (b : List ℕ) (long : length b ≡ book_halves) (x y : ℕ) (hx : x < ids_end) (hy : y < ids_end) where
  -- the two that are joined stand next to each other
  pub joined_here : Adjacent (joined b x y) x y
  joined_here =
      record {
        ahead = get_or-set_other (set b (next_at x) y) (prev_at y) (next_at x) x 0 (λ e. omega arith) ∙ get_or-set_same b (next_at x) y 0 (omega arith);
        back = get_or-set_same (set b (next_at x) y) (prev_at y) x 0 (rw (length-set b (next_at x) y) (omega arith));
      }

  -- two others that did, still do
  pub joined_there : (u v : ℕ) → u < ids_end → v < ids_end → u ≢ x → v ≢ y → Adjacent b u v → Adjacent (joined b x y) u v
  joined_there u v hu hv nu nv a =
      record {
        ahead =
            get_or-set_other (set b (next_at x) y) (prev_at y) (next_at u) x 0 (λ e. omega arith)
            ∙ get_or-set_other b (next_at x) (next_at u) y 0 nu
            ∙ a.ahead;
        back =
            get_or-set_other (set b (next_at x) y) (prev_at y) (prev_at v) x 0 (λ e. nv (omega arith))
            ∙ get_or-set_other b (next_at x) (prev_at v) y 0 (λ e. omega arith)
            ∙ a.back;
      }

  -- and the book beyond the links stays
  pub joined_beyond : (k : ℕ) → cells_at ≤ k → get_or (joined b x y) k 0 ≡ get_or b k 0
  joined_beyond k h =
      get_or-set_other (set b (next_at x) y) (prev_at y) k x 0 (λ e. omega arith) ∙ get_or-set_other b (next_at x) k y 0 (λ e. omega arith)

  -- and so does the link of a number that is none of the queue's
  pub joined_aside : (k : ℕ) → k < ids_end → k ≢ x → get_or (joined b x y) k 0 ≡ get_or b k 0
  joined_aside k h n =
      get_or-set_other (set b (next_at x) y) (prev_at y) k x 0 (λ e. omega arith) ∙ get_or-set_other b (next_at x) k y 0 n

  pub joined_long : length (joined b x y) ≡ book_halves
  joined_long = length-set (set b (next_at x) y) (prev_at y) x ∙ length-set b (next_at x) y ∙ long

  -- a chain that neither leaves x nor comes to y stays
  pub joined_chain : (u : ℕ) (us : List ℕ) (v : ℕ) → Below ids_end (u ∷ us) → v < ids_end → Out x (u ∷ us) → Out y us → y ≢ v → Chain b u us v → Chain (joined b x y) u us v
  joined_chain u [] v l hv ox oy nv c = joined_there u v l.0 hv (λ e. ox.0 (sym e)) (λ e. nv (sym e)) c
  joined_chain u (w ∷ us) v l hv ox oy nv c = (
    joined_there u w l.0 l.1.0 (λ e. ox.0 (sym e)) (λ e. oy.0 (sym e)) c.0,
    joined_chain w us v l.1 hv ox.1 oy.1 nv c.1,
  )

-- ---- lists

-- the last of x and a list, and the first of a list and z
abbrev pub last : ℕ → List ℕ → ℕ
last x [] = x
last x (y ∷ ys) = last y ys

abbrev pub first : List ℕ → ℕ → ℕ
first [] z = z
first (y ∷ ys) z = y

chain_last : (b : List ℕ) (x : ℕ) (ys : List ℕ) (z : ℕ) → Chain b x ys z → prev_of b z ≡ last x ys
chain_last b x [] z c = c.back
chain_last b x (y ∷ ys) z c = chain_last b y ys z c.1

chain_first : (b : List ℕ) (x : ℕ) (ys : List ℕ) (z : ℕ) → Chain b x ys z → next_of b x ≡ first ys z
chain_first b x [] z c = c.ahead
chain_first b x (y ∷ ys) z c = c.0.ahead

-- the last of a list is below what all are below, and none that is out of it
last_below : (n x : ℕ) (ys : List ℕ) → Below n (x ∷ ys) → last x ys < n
last_below n x [] l = l.0
last_below n x (y ∷ ys) l = last_below n y ys l.1

last_out : (u x : ℕ) (ys : List ℕ) → Out u (x ∷ ys) → u ≢ last x ys
last_out u x [] o = o.0
last_out u x (y ∷ ys) o = last_out u y ys o.1

first_below : (n : ℕ) (ys : List ℕ) (z : ℕ) → Below n ys → z < n → first ys z < n
first_below n [] z l h = h
first_below n (y ∷ ys) z l h = l.0

first_out : (u : ℕ) (ys : List ℕ) (z : ℕ) → Out u ys → u ≢ z → u ≢ first ys z
first_out u [] z o n = n
first_out u (y ∷ ys) z o n = o.0

out_append : (u : ℕ) (ys zs : List ℕ) → Out u ys → Out u zs → Out u (ys ++ zs)
out_append u [] zs o p = p
out_append u (y ∷ ys) zs o p = (o.0, out_append u ys zs o.1 p)

out_left : (u : ℕ) (ys zs : List ℕ) → Out u (ys ++ zs) → Out u ys
out_left u [] zs o = tt
out_left u (y ∷ ys) zs o = (o.0, out_left u ys zs o.1)

out_right : (u : ℕ) (ys zs : List ℕ) → Out u (ys ++ zs) → Out u zs
out_right u [] zs o = o
out_right u (y ∷ ys) zs o = out_right u ys zs o.1

below_append : (n : ℕ) (ys zs : List ℕ) → Below n ys → Below n zs → Below n (ys ++ zs)
below_append n [] zs l m = m
below_append n (y ∷ ys) zs l m = (l.0, below_append n ys zs l.1 m)

below_left : (n : ℕ) (ys zs : List ℕ) → Below n (ys ++ zs) → Below n ys
below_left n [] zs l = tt
below_left n (y ∷ ys) zs l = (l.0, below_left n ys zs l.1)

below_right : (n : ℕ) (ys zs : List ℕ) → Below n (ys ++ zs) → Below n zs
below_right n [] zs l = l
below_right n (y ∷ ys) zs l = below_right n ys zs l.1

distinct_last : (x : ℕ) (ys : List ℕ) → Out x ys → Distinct ys → Distinct (ys ++ (x ∷ []))
distinct_last x [] o d = (tt, tt)
distinct_last x (y ∷ ys) o d = (out_append y ys (x ∷ []) d.0 (λ e. o.0 (sym e), tt), distinct_last x ys o.1 d.1)

distinct_right : (ys zs : List ℕ) → Distinct (ys ++ zs) → Distinct zs
distinct_right [] zs d = d
distinct_right (y ∷ ys) zs d = distinct_right ys zs d.1

-- without one in the middle
distinct_without : (ys : List ℕ) (x : ℕ) (zs : List ℕ) → Distinct (ys ++ (x ∷ zs)) → Distinct (ys ++ zs)
distinct_without [] x zs d = d.1
distinct_without (y ∷ ys) x zs d =
    (out_append y ys zs (out_left y ys (x ∷ zs) d.0) (out_right y ys (x ∷ zs) d.0).1, distinct_without ys x zs d.1)

below_without : (n : ℕ) (ys : List ℕ) (x : ℕ) (zs : List ℕ) → Below n (ys ++ (x ∷ zs)) → Below n (ys ++ zs)
below_without n ys x zs l = below_append n ys zs (below_left n ys (x ∷ zs) l) (below_right n ys (x ∷ zs) l).1

-- ---- appending

-- from u by ys and x to q, where it went from u by ys to q
append_chain : (b : List ℕ) → length b ≡ book_halves → (q x : ℕ) → q < ids_end → x < ids_end → q ≢ x → (u : ℕ) (ys : List ℕ)
    → Below ids_end (u ∷ ys) → Distinct (u ∷ ys) → Out x (u ∷ ys) → Out q ys → Chain b u ys q
    → Chain (joined (joined b (last u ys) x) x q) u (ys ++ (x ∷ [])) q
append_chain b long q x hq hx nq u [] l d ox oq c =
    let a = joined_here b long u x l.0 hx in
    let m = joined_long b long u x l.0 hx in
    (joined_there (joined b u x) m x q hx hq u x l.0 hx (λ e. ox.0 (sym e)) (λ e. nq (sym e)) a, joined_here (joined b u x) m x q hx hq)
append_chain b long q x hq hx nq u (y ∷ ys) l d ox oq c =
    let hl = last_below ids_end y ys l.1 in
    let m = joined_long b long (last y ys) x hl hx in
    let a = joined_there b long (last y ys) x hl hx u y l.0 l.1.0 (last_out u y ys d.0) (λ e. ox.1.0 (sym e)) c.0 in (
      joined_there (joined b (last y ys) x) m x q hx hq u y l.0 l.1.0 (λ e. ox.0 (sym e)) (λ e. oq.0 (sym e)) a,
      append_chain b long q x hq hx nq y ys l.1 d.1 ox.1 oq.1 c.1,
    )

module _ (b : List ℕ) (long : length b ≡ book_halves) (q x : ℕ) (items : List ℕ) (w : Queue b q items) (hx : x < ids_end) (ox : Out x (q ∷ items)) where
  -- x is last
  pub append_queue : Queue (appended b q x) q (items ++ (x ∷ []))
  unfolding appended
  append_queue =
      let e : prev_of b q ≡ last q items = chain_last b q items q w.chain in
      record {
        chain = rw e (append_chain b long q x w.below.0 hx (λ e. ox.0 (sym e)) q items w.below w.distinct ox w.distinct.0 w.chain);
        distinct = (out_append q items (x ∷ []) w.distinct.0 (λ e. ox.0 (sym e), tt), distinct_last x items ox.1 w.distinct.1);
        below = (w.below.0, below_append ids_end items (x ∷ []) w.below.1 (hx, tt));
      }

  -- another queue that shares nothing with it stays
  pub append_other : (r : ℕ) (others : List ℕ) → Queue b r others → Out q (r ∷ others) → Out x (r ∷ others) → Out (last q items) (r ∷ others) → Queue (appended b q x) r others
  unfolding appended
  append_other r others v oq o ol =
      let e : prev_of b q ≡ last q items = chain_last b q items q w.chain in
      let hl = last_below ids_end q items w.below in
      let m = joined_long b long (last q items) x hl hx in
      let c = joined_chain b long (last q items) x hl hx r others r v.below v.below.0 ol o.1 o.0 v.chain in
      record {
        chain = rw e (joined_chain (joined b (last q items) x) m x q hx w.below.0 r others r v.below v.below.0 o oq.1 oq.0 c);
        distinct = v.distinct;
        below = v.below;
      }

  pub append_beyond : (k : ℕ) → cells_at ≤ k → get_or (appended b q x) k 0 ≡ get_or b k 0
  unfolding appended
  append_beyond k h =
      let e : prev_of b q ≡ last q items = chain_last b q items q w.chain in
      let hl = last_below ids_end q items w.below in
      rw e (joined_beyond (joined b (last q items) x) (joined_long b long (last q items) x hl hx) x q hx w.below.0 k h ∙ joined_beyond b long (last q items) x hl hx k h)

  pub append_aside : (k : ℕ) → k < ids_end → k ≢ x → Out k (q ∷ items) → get_or (appended b q x) k 0 ≡ get_or b k 0
  unfolding appended
  append_aside k h n o =
      let e : prev_of b q ≡ last q items = chain_last b q items q w.chain in
      let hl = last_below ids_end q items w.below in
      rw e (joined_aside (joined b (last q items) x) (joined_long b long (last q items) x hl hx) x q hx w.below.0 k h n
      ∙ joined_aside b long (last q items) x hl hx k h (last_out k q items o))

-- ---- unlinking

chain_split : (b : List ℕ) (u : ℕ) (ys : List ℕ) (x : ℕ) (zs : List ℕ) (z : ℕ) → Chain b u (ys ++ (x ∷ zs)) z → Chain b u ys x × Chain b x zs z
chain_split b u [] x zs z c = c
chain_split b u (y ∷ ys) x zs z c = let r = chain_split b y ys x zs z c.1 in ((c.0, r.0), r.1)

-- from u by ys and then by zs to z, where x stood between
unlink_chain : (b : List ℕ) → length b ≡ book_halves → (x : ℕ) (zs : List ℕ) (z : ℕ) → Below ids_end zs → z < ids_end → Distinct zs → Out z zs → Chain b x zs z
    → (u : ℕ) (ys : List ℕ) → Below ids_end (u ∷ ys) → Distinct (u ∷ (ys ++ zs)) → Out z ys → Chain b u ys x
    → Chain (joined b (last u ys) (first zs z)) u (ys ++ zs) z
unlink_chain b long x [] z lz hz dz oz cz u [] l d o c = joined_here b long u z l.0 hz
unlink_chain b long x (w ∷ zs) z lz hz dz oz cz u [] l d o c = (
  joined_here b long u w l.0 lz.0,
  joined_chain b long u w l.0 lz.0 w zs z lz hz d.0 dz.0 (λ e. oz.0 (sym e)) cz.1,
)
unlink_chain b long x zs z lz hz dz oz cz u (y ∷ ys) l d o c = (
  joined_there b long (last y ys) (first zs z) (last_below ids_end y ys l.1) (first_below ids_end zs z lz hz) u y l.0 l.1.0
      (last_out u y ys (d.0.0, out_left u ys zs d.0.1))
      (first_out y zs z (out_right y ys zs d.1.0) (λ e. o.0 (sym e)))
      c.0,
  unlink_chain b long x zs z lz hz dz oz cz y ys l.1 d.1 o.1 c.1,
)

module _ (b : List ℕ) (long : length b ≡ book_halves) (q x : ℕ) (ys zs : List ℕ) (w : Queue b q (ys ++ (x ∷ zs))) where
  before_below : Below ids_end (q ∷ ys)
  before_below = (w.below.0, below_left ids_end ys (x ∷ zs) w.below.1)

  after_below : Below ids_end zs
  after_below = (below_right ids_end ys (x ∷ zs) w.below.1).1

  parts : Chain b q ys x × Chain b x zs q
  parts = chain_split b q ys x zs q w.chain

  -- what stood around x is now next to each other
  around : unlinked b x ≡ joined b (last q ys) (first zs q)
  unfolding unlinked
  around = rw (chain_last b q ys x parts.0, chain_first b x zs q parts.1)

  -- x is no longer there
  pub unlink_queue : Queue (unlinked b x) q (ys ++ zs)
  unlink_queue =
      let d = w.distinct in
      record {
        chain =
            rw around
            (unlink_chain b long x zs q after_below w.below.0 (distinct_right ys (x ∷ zs) d.1).1 (out_right q ys (x ∷ zs) d.0).1 parts.1 q ys before_below
            (out_append q ys zs (out_left q ys (x ∷ zs) d.0) (out_right q ys (x ∷ zs) d.0).1, distinct_without ys x zs d.1)
            (out_left q ys (x ∷ zs) d.0) parts.0);
        distinct = (out_append q ys zs (out_left q ys (x ∷ zs) d.0) (out_right q ys (x ∷ zs) d.0).1, distinct_without ys x zs d.1);
        below = (w.below.0, below_without ids_end ys x zs w.below.1);
      }

  -- another queue that shares nothing with it stays
  pub unlink_other : (r : ℕ) (others : List ℕ) → Queue b r others → Out (last q ys) (r ∷ others) → Out (first zs q) (r ∷ others) → Queue (unlinked b x) r others
  unlink_other r others v ol of =
      record {
        chain =
            rw around
            (joined_chain b long (last q ys) (first zs q) (last_below ids_end q ys before_below) (first_below ids_end zs q after_below w.below.0) r others r v.below v.below.0 ol
            of.1 of.0 v.chain);
        distinct = v.distinct;
        below = v.below;
      }

  pub unlink_beyond : (k : ℕ) → cells_at ≤ k → get_or (unlinked b x) k 0 ≡ get_or b k 0
  unlink_beyond k h =
      rw around (joined_beyond b long (last q ys) (first zs q) (last_below ids_end q ys before_below) (first_below ids_end zs q after_below w.below.0) k h)

  pub unlink_aside : (k : ℕ) → k < ids_end → Out k (q ∷ ys) → get_or (unlinked b x) k 0 ≡ get_or b k 0
  unlink_aside k h o =
      rw around (joined_aside b long (last q ys) (first zs q) (last_below ids_end q ys before_below) (first_below ids_end zs q after_below w.below.0) k h (last_out k q ys o))

-- ---- what else is known of a queue

-- what has waited longest: the first, or the queue itself where nothing waits
pub queue_first : (b : List ℕ) (q : ℕ) (items : List ℕ) → Queue b q items → next_of b q ≡ first items q
queue_first b q items w = chain_first b q items q w.chain

-- a store beyond the links leaves every chain
pub beyond_chain : (b : List ℕ) (k v u : ℕ) (us : List ℕ) (z : ℕ) → cells_at ≤ k → Below ids_end (u ∷ us) → z < ids_end → Chain b u us z → Chain (set b k v) u us z
beyond_chain b k v u [] z h l hz c =
    record { ahead = get_or-set_other b k (next_at u) v 0 (λ e. omega arith) ∙ c.ahead; back = get_or-set_other b k (prev_at z) v 0 (λ e. omega arith) ∙ c.back }
beyond_chain b k v u (w ∷ us) z h l hz c = (
  record {
    ahead = get_or-set_other b k (next_at u) v 0 (λ e. omega arith) ∙ c.0.ahead;
    back = get_or-set_other b k (prev_at w) v 0 (λ e. omega arith) ∙ c.0.back;
  },
  beyond_chain b k v w us z h l.1 hz c.1,
)

pub beyond_queue : (b : List ℕ) (k v q : ℕ) (items : List ℕ) → cells_at ≤ k → Queue b q items → Queue (set b k v) q items
beyond_queue b k v q items h w =
    record { chain = beyond_chain b k v q items q h w.below w.below.0 w.chain; distinct = w.distinct; below = w.below }

-- so does a store in the link of a number that is none of the queue's
aside_chain : (b : List ℕ) (k v u : ℕ) (us : List ℕ) (z : ℕ) → k < ids_end → Out k (u ∷ us) → Chain b u us z → Chain (set b k v) u us z
aside_chain b k v u [] z h o c =
    record { ahead = get_or-set_other b k (next_at u) v 0 (λ e. o.0 (sym e)) ∙ c.ahead; back = get_or-set_other b k (prev_at z) v 0 (λ e. omega arith) ∙ c.back }
aside_chain b k v u (w ∷ us) z h o c = (
  record {
    ahead = get_or-set_other b k (next_at u) v 0 (λ e. o.0 (sym e)) ∙ c.0.ahead;
    back = get_or-set_other b k (prev_at w) v 0 (λ e. omega arith) ∙ c.0.back;
  },
  aside_chain b k v w us z h o.1 c.1,
)

pub aside_queue : (b : List ℕ) (k v q : ℕ) (items : List ℕ) → k < ids_end → Out k (q ∷ items) → Queue b q items → Queue (set b k v) q items
aside_queue b k v q items h o w =
    record { chain = aside_chain b k v q items q h o w.chain; distinct = w.distinct; below = w.below }

-- The content that stands in the node with a given record number.
use mathlib.Core.Path.{◌≡◌, refl, sym, ap, ◌∙◌, subst}
use mathlib.Core.Bool.{Bool, true, false}
use Prim.Native.Nat.{ℕ, ◌+◌, ◌≤◌, ◌<◌}
use native.Mathlib.Omega.{arith}
use lib.Dec.{eqb, ltb}
use borrow.Author.Tests.{ltb-true, ltb-false, lt-ltb, eqb-true, eqb-false}
use Rattle.rules.specs.Forest.{node, content, Forest, nil, byte, group, ◌⋈◌, width}
use Rattle.rules.specs.Parse.{pick}
use Rattle.rules.specs.Record.{count}
unfoldable pub use Rattle.rules.specs.Replaced.{inside_of}
use Rattle.rules.proofs.Spots.{Spot, arrived, under, past, skip, fill, bytes_before, no_spot_nil, count_fill}
use Rattle.rules.proofs.Edited.{records_before, holder, holders, Followed, count_fits}

-- The place of the node's first byte, in a forest whose first byte is at `at`.
unfoldable pub place_of : (at n j : ℕ) → Forest → ℕ
place_of at n j nil = at
place_of at n j (byte b u) = place_of (at + 1) n j u
place_of at n j (group (node k x) c u) =
    pick (eqb j n) at
    (pick (ltb j (n + (1 + count c))) (place_of at (n + 1) j c) (place_of (at + width c) (n + (1 + count c)) j u))
place_of at n j (group (content d) c u) =
    pick (ltb j (n + count c)) (place_of at n j c) (place_of (at + width c) (n + count c) j u)

-- How many ancestors the node has, in a forest that has so many.
unfoldable pub depth_of : (n deep j : ℕ) → Forest → ℕ
depth_of n deep j nil = deep
depth_of n deep j (byte b u) = depth_of n deep j u
depth_of n deep j (group (node k x) c u) =
    pick (eqb j n) deep
    (pick (ltb j (n + (1 + count c))) (depth_of (n + 1) (deep + 1) j c) (depth_of (n + (1 + count c)) deep j u))
depth_of n deep j (group (content d) c u) =
    pick (ltb j (n + count c)) (depth_of n deep j c) (depth_of (n + count c) deep j u)

module _ {d : ℕ} {c₀ : Forest} where
  -- A spot of w, which is inside the node j of u, is a spot of u.
  pub record Held (u : Forest) (n par j : ℕ) {w : Forest} (ω : Spot d c₀ w) : Type 0 where
    pub spot : Spot d c₀ u
    pub parent : holder n par spot ≡ holder (j + 1) j ω
    pub deeper : (deep : ℕ) → holders deep spot ≡ holders (depth_of n deep j u + 1) ω
    pub ahead : j < n + records_before spot
    pub follows : Followed ω → Followed spot
    pub filled : (v : Forest) → inside_of n j (fill spot v) ≡ fill ω v
    -- it stands as far behind the node j in u as ω does in w
    pub since : n + records_before spot ≡ j + 1 + records_before ω
    pub begins : (at : ℕ) → at + bytes_before spot ≡ place_of at n j u + bytes_before ω

  -- A content put into a spot leaves the records before it.
  still_first : {u : Forest} (ω : Spot d c₀ u) (v : Forest) → records_before ω ≤ count (fill ω v)
  still_first ω v = omega (arith, count_fill ω v, count_fits ω)

  -- Every spot inside the node j has its place in u.
  pub held : (u : Forest) (n par j : ℕ) → n ≤ j → (ω : Spot d c₀ (inside_of n j u)) → Held u n par j ω
  unfolding inside_of place_of depth_of holder holders records_before bytes_before Followed fill count
  held nil n par j l ω = absurd (no_spot_nil ω)
  held (byte b u) n par j l ω = let h = held u n par j l ω in
      record {
        spot = skip h.spot;
        parent = h.parent;
        deeper = h.deeper;
        ahead = h.ahead;
        follows = h.follows;
        filled = h.filled;
        since = h.since;
        begins = λ at. omega (arith, h.begins (at + 1));
      }
  held (group (node k x) c u) n par j l ω =
      go (eqb j n) refl (ltb j (n + (1 + count c))) refl ω (held c (n + 1) n j) (held u (n + (1 + count c)) par j)
    where
      go : (b : Bool)
          → eqb j n ≡ b
          → (b' : Bool) → ltb j (n + (1 + count c)) ≡ b'
          → (ω : Spot d c₀ (pick b c (pick b' (inside_of (n + 1) j c) (inside_of (n + (1 + count c)) j u))))
          → (n + 1 ≤ j → (ω : Spot d c₀ (inside_of (n + 1) j c)) → Held c (n + 1) n j ω)
          → (n + (1 + count c) ≤ j → (ω : Spot d c₀ (inside_of (n + (1 + count c)) j u))
          → Held u (n + (1 + count c)) par j ω)
          → Held (group (node k x) c u) n par j ω
      go true e b' e' ω hc hu = let q = eqb-true j n e in
          record {
            spot = under ω;
            parent = (λ i. holder (sym q i + 1) (sym q i)
                ω);
            deeper = λ deep. rw e;
            ahead = omega arith;
            follows = λ f. f;
            filled = λ v. rw e;
            since = omega arith;
            begins = λ at. rw e;
          }
      go false e true e' ω hc hu =
          let q = eqb-false j n e in let r = ltb-true j (n + (1 + count c)) e' in let h = hc (omega arith) ω in
          let a = h.ahead in
          record {
            spot = under h.spot;
            parent = h.parent;
            deeper = λ deep. rw (e, e') (h.deeper (deep + 1));
            ahead = omega arith;
            follows = h.follows;
            filled = λ v. let s = still_first h.spot v in
                rw (e, lt-ltb j (n + (1 + count (fill h.spot v))) (omega arith)) (h.filled v);
            since = omega (arith, h.since);
            begins = λ at. rw (e, e') (h.begins at);
          }
      go false e false e' ω hc hu =
          let r = ltb-false j (n + (1 + count c)) e' in let h = hu r ω in
          let a = h.ahead in
          record {
            spot = past h.spot;
            parent = h.parent;
            deeper = λ deep. rw (e, e') (h.deeper deep);
            ahead = omega arith;
            follows = h.follows;
            filled = λ v.
                rw (e, e') (h.filled v);
            since = omega (arith, h.since);
            begins = λ at. rw (e, e') (omega
                (arith, h.begins (at + width c)));
          }
  held (group (content d') c u) n par j l ω =
      go (ltb j (n + count c)) refl ω (held c n par j l) (held u (n + count c) par j)
    where
      go : (b : Bool) → ltb j (n + count c) ≡ b
          → (ω : Spot d c₀ (pick b (inside_of n j c) (inside_of (n + count c) j u)))
          → ((ω : Spot d c₀ (inside_of n j c)) → Held c n par j ω)
          → (n + count c ≤ j → (ω : Spot d c₀ (inside_of (n + count c) j u)) → Held u (n + count c) par j ω)
          → Held (group (content d') c u) n par j ω
      go true e ω hc hu =
          let h = hc ω in let a = h.ahead in
          record {
            spot = under h.spot;
            parent = h.parent;
            deeper = λ deep. rw e (h.deeper deep);
            ahead = omega arith;
            follows = h.follows;
            filled = λ v. let s = still_first h.spot v in
                rw (lt-ltb j (n + count (fill h.spot v)) (omega arith)) (h.filled v);
            since = h.since;
            begins = λ at. rw e (h.begins at);
          }
      go false e ω hc hu =
          let r = ltb-false j (n + count c) e in let h = hu r ω in let a = h.ahead in
          record {
            spot = past
                h.spot;
            parent = h.parent;
            deeper = λ deep. rw e (h.deeper deep);
            ahead = omega arith;
            follows = h.follows;
            filled = λ v. rw e (h.filled
                v);
            since = omega (arith, h.since);
            begins = λ at. rw e (omega (arith, h.begins (at + width c)));
          }

-- The content c₀ with d levels left inside it, between o and r.
module _ (d : ℕ) (c₀ : Forest) where
  -- Its spot.
  unfoldable pub content_behind : (o r : Forest) → Spot d c₀ (o ⋈ group (content d) c₀ r)
  unfolding ◌⋈◌
  content_behind nil r = arrived refl refl
  content_behind (byte b o) r = skip (content_behind o r)
  content_behind (group l c o) r = past (content_behind o r)

  fill_behind : (o r v : Forest) → fill (content_behind o r) v ≡ o ⋈ group (content d) v r
  unfolding ◌⋈◌ content_behind fill
  fill_behind nil r v = refl
  fill_behind (byte b o) r v = ap (byte b) (fill_behind o r v)
  fill_behind (group l c o) r v = ap (group l c) (fill_behind o r v)

  holder_behind : (o r : Forest) (n par : ℕ) → holder n par (content_behind o r) ≡ par
  unfolding ◌⋈◌ content_behind holder
  holder_behind nil r n par = refl
  holder_behind (byte b o) r n par = holder_behind o r n par
  holder_behind (group (node k x) c o) r n par = holder_behind o r (n + (1 + count c)) par
  holder_behind (group (content d') c o) r n par = holder_behind o r (n + count c) par

  holders_behind : (o r : Forest) (deep : ℕ) → holders deep (content_behind o r) ≡ deep
  unfolding ◌⋈◌ content_behind holders
  holders_behind nil r deep = refl
  holders_behind (byte b o) r deep = holders_behind o r deep
  holders_behind (group l c o) r deep = holders_behind o r deep

  followed_behind : (o r : Forest) → 1 ≤ count r → Followed (content_behind o r)
  unfolding ◌⋈◌ content_behind Followed
  followed_behind nil r h = h
  followed_behind (byte b o) r h = followed_behind o r h
  followed_behind (group l c o) r h = followed_behind o r h

  first_behind : (o r : Forest) → records_before (content_behind o r) ≡ count o
  unfolding ◌⋈◌ content_behind records_before count
  first_behind nil r = refl
  first_behind (byte b o) r = first_behind o r
  first_behind (group (node k x) c o) r = omega (arith, first_behind o r)
  first_behind (group (content d') c o) r = omega (arith, first_behind o r)

  start_behind : (o r : Forest) → bytes_before (content_behind o r) ≡ width o
  unfolding ◌⋈◌ content_behind bytes_before width
  start_behind nil r = refl
  start_behind (byte b o) r = omega (arith, start_behind o r)
  start_behind (group l c o) r = omega (arith, start_behind o r)

  -- Where o, the content and r are what is inside the node j of u, the content has a spot in u.
  pub record ContentOf (u : Forest) (n par j : ℕ) (o r : Forest) : Type 0 where
    pub spot : Spot d c₀ u
    -- its outermost records have that node for parent
    pub parent : holder n par spot ≡ j
    -- and one ancestor more than it
    pub deeper : (deep : ℕ) → holders deep spot ≡ depth_of n deep j u + 1
    -- a record in r follows it
    pub follows : 1 ≤ count r → Followed spot
    -- another content put there stands between o and r inside the node j
    pub filled : (v : Forest) → inside_of n j (fill spot v) ≡ o ⋈ group (content d) v r
    -- the records before it are those up to the node j and those of o
    pub since : n + records_before spot ≡ j + 1 + count o
    -- and it begins where o ends, which begins where the node does
    pub begins : (at : ℕ) → at + bytes_before spot ≡ place_of at n j u + width o

  -- Every content inside the node j has it.
  pub content_of_lem : (u : Forest) (n par j : ℕ) (o r : Forest)
      → n ≤ j
      → inside_of n j u ≡ o ⋈ group (content d) c₀ r
      → ContentOf u n par j o r
  content_of_lem u n par j o r l e = go (inside_of n j u) e (held u n par j l)
    where
      go : (w : Forest)
          → w ≡ o ⋈ group (content d) c₀ r
          → ((ω : Spot d c₀ w) → Held u n par j ω)
          → ContentOf u n par j o r
      go w e f =
          let h = subst (λ (w : Forest). (ω : Spot d c₀ w) → Held u n par j ω) e f (content_behind o r) in
          record {
            spot = h.spot;
            parent = h.parent ∙ holder_behind o r (j + 1) j;
            deeper = λ deep. h.deeper deep ∙ holders_behind o r (depth_of n deep j u + 1);
            follows = λ k. h.follows (followed_behind o r k);
            filled = λ v. h.filled v ∙ fill_behind o r v;
            since = omega (arith, h.since, first_behind o r);
            begins = λ at. omega (arith, h.begins at, start_behind o r);
          }

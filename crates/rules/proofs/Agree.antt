-- Where two inputs show the same: before a place, and moved along. It is what the law of locality asks for.
use mathlib.Core.Path.{◌≡◌, refl, sym, ap, ◌∙◌}
use mathlib.Core.Bool.{Bool, true, false}
use mathlib.Core.List.{List, [], ◌∷◌, ◌++◌}
use Prim.Native.Nat.{ℕ, zero, suc, ◌+◌, ◌-◌, ◌*◌, ◌≤◌, ◌<◌}
use native.Mathlib.Omega.{arith}
use lib.ListN.{length, get_or, get_or-append, get_or-eq_default}
use lib.Seq.{get_or-append-add}
use lib.Dec.{eqb, ltb, leb}
use borrow.Author.Tests.{ltb-true, ltb-false, leb-true, lt-ltb, le-ltb, ne_eqb}
use Rattle.rules.specs.Rule.{Look, bytes, char}
use Rattle.rules.specs.Parse.{pick, byte_at, opens, no_char, code_on, code_at, stands}
unfoldable pub use Rattle.rules.specs.Parse.{Plain}
use Rattle.rules.proofs.Got.{false_true}
use Rattle.rules.proofs.Local.{ltb_twin, Seen}

-- No byte of these passes the test.
abbrev pub Without : (ℕ → Bool) → List ℕ → Type 0
Without Q [] = Unit {0}
Without Q (b ∷ w) = (Q b ≡ false) × Without Q w

-- A byte that goes on with no character: one of ASCII, or the first of a longer one.
abbrev pub heads : ℕ → Bool
heads b = pick (ltb b 0x80) true (leb 0xC0 b)

-- What is asked of the bytes before does not go on behind a byte that passes the test: that is none of these bytes, or
-- goes on with no character.
abbrev pub Lacks : (ℕ → Bool) → Look → Type 0
Lacks Q (bytes w) = Without Q w
Lacks Q (char f) = (b : ℕ) → Q b ≡ true → heads b ≡ true

-- A character has no such byte behind its first one.
head_stops : (b c : ℕ) → heads b ≡ true → pick (ltb b 0x80) no_char (pick (ltb b 0xC0) c no_char) ≡ no_char
head_stops b c h = go (ltb b 0x80) h
  where
    go : (v : Bool) → pick v true (leb 0xC0 b) ≡ true → pick v no_char (pick (ltb b 0xC0) c no_char) ≡ no_char
    go true k = refl
    go false k = rw (le-ltb b 0xC0 (leb-true 0xC0 b k))

-- Less is asked.
pub seen_less : (P P' : Look → Type 0) (s s' : List ℕ) (p p' : ℕ)
    → ((w : Look) → P' w → P w)
    → Seen P s s' p p'
    → Seen P' s s' p p'
seen_less P P' s s' p p' h g = (g.0, g.1, λ w x. g.2 w (h w x))

-- Two inputs; the place p of the first is the place p' of the second where p + k' ≡ p' + k. The same bytes stand in
-- both from lo up to h, and the last of them passes a test; if such bytes go on with no character, the same character
-- begins there in both.
module _ (s s' : List ℕ) (k k' lo h : ℕ)
    (bs : (p p' : ℕ) → p + k' ≡ p' + k → lo ≤ p → p < h → byte_at s p ≡ byte_at s' p')
    (Q : ℕ → Bool) (al : (j : ℕ) → j + 1 ≡ h → Q (byte_at s j) ≡ true)
    (cs : ((b : ℕ) → Q b ≡ true → heads b ≡ true)
    → (p p' : ℕ) → p + k' ≡ p' + k → lo ≤ p → p + 1 ≡ h → code_at s p ≡ code_at s' p')
  where
    opens_twin : (w : List ℕ) (p p' : ℕ) → p + k' ≡ p' + k → lo ≤ p → p < h → Without Q w → opens s w p ≡ opens s' w p'
    unfolding opens
    opens_twin [] p p' tw l lt x = refl
    opens_twin (b ∷ w) p p' tw l lt x =
        go (ltb (p + 1) h) refl (λ m. opens_twin w (p + 1) (p' + 1) (omega arith) (omega arith) m x.1)
      where
        same_byte : byte_at s p ≡ byte_at s' p'
        same_byte = bs p p' tw l lt

        edge : Q (byte_at s p) ≡ true
            → pick (eqb (byte_at s p) b) (opens s w (p + 1)) false
            ≡ pick (eqb (byte_at s' p') b) (opens s' w (p' + 1)) false
        edge m =
            let n : eqb (byte_at s p) b ≡ false = ne_eqb (byte_at s p) b (λ e. false_true (ap Q e ∙ x.0) m) in
            let n' : eqb (byte_at s' p') b ≡ false = ap (λ (v : ℕ). eqb v b) (sym same_byte) ∙ n in
            rw (n, n')

        go : (c : Bool)
            → ltb (p + 1) h ≡ c
            → (p + 1 < h → opens s w (p + 1) ≡ opens s' w (p' + 1))
            → pick (eqb (byte_at s p) b) (opens s w (p + 1)) false
            ≡ pick (eqb (byte_at s' p') b) (opens s' w (p' + 1)) false
        go true e ih = λ i. pick (eqb (same_byte i) b) (ih (ltb-true _ _ e) i) false
        go false e ih = let y : h ≤ p + 1 = ltb-false _ _ e in edge (al p (omega arith))

    module _ (head : (b : ℕ) → Q b ≡ true → heads b ≡ true) where
      -- The last byte, if it is at p, goes on with no character.
      last_head : (p : ℕ) → ltb (p + 1) h ≡ false → p < h → heads (byte_at s p) ≡ true
      last_head p e lt = let y : h ≤ p + 1 = ltb-false _ _ e in head (byte_at s p) (al p (omega arith))

      on_twin : (n c p p' : ℕ) → p + k' ≡ p' + k → lo ≤ p → p < h → code_on s n c p ≡ code_on s' n c p'
      unfolding code_on
      on_twin zero c p p' tw l lt = refl
      on_twin (suc n) c p p' tw l lt =
          go (ltb (p + 1) h) refl (λ d m. on_twin n d (p + 1) (p' + 1) (omega arith) (omega arith) m)
        where
          go : (v : Bool)
              → ltb (p + 1) h ≡ v
              → ((d : ℕ) → p + 1 < h → code_on s n d (p + 1) ≡ code_on s' n d (p' + 1))
              → code_on s (suc n) c p ≡ code_on s' (suc n) c p'
          go true e ih =
              λ i. let b = bs p p' tw l lt i in
              pick (ltb b 0x80) no_char (pick (ltb b 0xC0) (ih (c * 0x40 + (b - 0x80)) (ltb-true _ _ e) i) no_char)
          go false e ih =
              let b = byte_at s p in
              let x = last_head p e lt in
              head_stops b (code_on s n (c * 0x40 + (b - 0x80)) (p + 1)) x
              ∙ sym (rw (← bs p p' tw l lt) (head_stops b (code_on s' n (c * 0x40 + (b - 0x80)) (p' + 1)) x))

      code_twin : (p p' : ℕ) → p + k' ≡ p' + k → lo ≤ p → p < h → code_at s p ≡ code_at s' p'
      unfolding code_at
      code_twin p p' tw l lt = go (ltb (p + 1) h) refl
        where
          go : (v : Bool) → ltb (p + 1) h ≡ v → code_at s p ≡ code_at s' p'
          go true e = rw (← bs p p' tw l lt, m 1 _, m 2 _, m 3 _)
            where
              m : (n c : ℕ) → code_on s n c (p + 1) ≡ code_on s' n c (p' + 1)
              m n c = on_twin n c (p + 1) (p' + 1) (omega arith) (omega arith) (ltb-true _ _ e)
          go false e = let y : h ≤ p + 1 = ltb-false _ _ e in cs head p p' tw l (omega arith)

    -- Nothing that does not go on behind such a byte reaches across h.
    pub stands_twin : (w : Look) (p p' : ℕ)
        → p + k' ≡ p' + k
        → lo ≤ p
        → p < h
        → Lacks Q w
        → stands s w p ≡ stands s' w p'
    stands_twin (bytes w) p p' tw l lt x = opens_twin w p p' tw l lt x
    stands_twin (char f) p p' tw l lt x = ap f (code_twin x p p' tw l lt)

-- Two inputs with the same bytes before h.
module _ (s s' : List ℕ) (h : ℕ) (bs : (p : ℕ) → p < h → byte_at s p ≡ byte_at s' p) (l : h ≤ length s)
    (l' : h ≤ length s') where
  bytes_same : (p p' : ℕ)
      → p + 0 ≡ p' + 0
      → p < h
      → (byte_at s p ≡ byte_at s' p') × (ltb p (length s) ≡ ltb p' (length s'))
  bytes_same p p' tw lt = (
    bs p lt ∙ ap (byte_at s') (omega arith),
    lt-ltb p (length s) (omega arith)
        ∙ sym (lt-ltb p' (length s') (omega arith)),
  )

  -- They show the same there, if nothing is asked but the byte.
  pub before_plain : (lo p p' : ℕ) → p + 0 ≡ p' + 0 → lo ≤ p → p < h → Seen (λ w. ⊥) s s' p p'
  before_plain lo p p' tw lw lt = let b = bytes_same p p' tw lt in (b.0, b.1, λ w x. absurd x)

  -- Where the last of these bytes passes a test, they show the same there, if only such things are asked, and if the
  -- bytes that pass are characters of their own wherever a character is asked.
  module _ (Q : ℕ → Bool) (al : (j : ℕ) → j + 1 ≡ h → Q (byte_at s j) ≡ true)
      (low : ((b : ℕ) → Q b ≡ true → heads b ≡ true) → (b : ℕ) → Q b ≡ true → ltb b 0x80 ≡ true) where
    codes_same : ((b : ℕ) → Q b ≡ true → heads b ≡ true)
        → (p p' : ℕ) → p + 0 ≡ p' + 0 → p + 1 ≡ h → code_at s p ≡ code_at s' p'
    unfolding code_at
    codes_same head p p' tw e =
        rw (← (bytes_same p p' tw (omega arith)).0, low head (byte_at s p) (al p e))

    pub before : (lo p p' : ℕ) → p + 0 ≡ p' + 0 → lo ≤ p → p < h → Seen (Lacks Q) s s' p p'
    before lo p p' tw lw lt =
        let b = bytes_same p p' tw lt in (
          b.0,
          b.1,
          λ w x. stands_twin s s' 0 0 lo h (λ q q' e l m. (bytes_same q q' e m).0) Q al
              (λ head q q' e l m. codes_same head q q' e m) w p p' tw lw lt x,
        )

-- Two inputs with the same bytes from lo on, moved along, up to their ends.
module _ (s s' : List ℕ) (k k' lo : ℕ) (bs : (p p' : ℕ) → p + k' ≡ p' + k → lo ≤ p → byte_at s p ≡ byte_at s' p')
    (ls : length s + k' ≡ length s' + k) where
  opens_moved : (w : List ℕ) (p p' : ℕ) → p + k' ≡ p' + k → lo ≤ p → opens s w p ≡ opens s' w p'
  unfolding opens
  opens_moved [] p p' tw l = refl
  opens_moved (b ∷ w) p p' tw l =
      λ i. pick (eqb (bs p p' tw l i) b) (opens_moved w (p + 1) (p' + 1) (omega arith) (omega arith) i) false

  on_moved : (n c p p' : ℕ) → p + k' ≡ p' + k → lo ≤ p → code_on s n c p ≡ code_on s' n c p'
  unfolding code_on
  on_moved zero c p p' tw l = refl
  on_moved (suc n) c p p' tw l =
      λ i. let b = bs p p' tw l i in
      pick (ltb b 0x80) no_char (pick (ltb b 0xC0)
      (on_moved n (c * 0x40 + (b - 0x80)) (p + 1) (p' + 1) (omega arith) (omega arith) i) no_char)

  code_moved : (p p' : ℕ) → p + k' ≡ p' + k → lo ≤ p → code_at s p ≡ code_at s' p'
  unfolding code_at
  code_moved p p' tw l = rw (← bs p p' tw l, m 1 _, m 2 _, m 3 _)
    where
      m : (n c : ℕ) → code_on s n c (p + 1) ≡ code_on s' n c (p' + 1)
      m n c = on_moved n c (p + 1) (p' + 1) (omega arith) (omega arith)

  stands_moved : (w : Look) (p p' : ℕ) → p + k' ≡ p' + k → lo ≤ p → stands s w p ≡ stands s' w p'
  stands_moved (bytes w) p p' tw l = opens_moved w p p' tw l
  stands_moved (char f) p p' tw l = ap f (code_moved p p' tw l)

  -- They show the same from lo on, whatever is asked.
  pub moved_along : (P : Look → Type 0) (hi p p' : ℕ) → p + k' ≡ p' + k → lo ≤ p → p < hi → Seen P s s' p p'
  moved_along P hi p p' tw l h =
      (bs p p' tw l, ltb_twin k k' p (length s) p' (length s') tw ls, λ w _. stands_moved w p p' tw l)

-- ---- bytes of two lists, one behind the other

module _ (x y : List ℕ) where
  -- A byte of the first list,
  pub byte_in : (p : ℕ) → p < length x → byte_at x p ≡ byte_at (x ++ y) p
  byte_in p h = sym (get_or-append x y 256 p h)

  -- and a byte of the second.
  pub byte_behind : (p : ℕ) → byte_at y p ≡ byte_at (x ++ y) (length x + p)
  byte_behind p = sym (get_or-append-add x y p 256)

-- The end is seen only from the end on;
pub byte_end : (x : List ℕ) → Plain x → (p : ℕ) → byte_at x p ≡ 256 → length x ≤ p
unfolding Plain
byte_end x pl p e = go (ltb p (length x)) refl
  where
    go : (b : Bool) → ltb p (length x) ≡ b → length x ≤ p
    go true h = let q : get_or x p 256 < 256 = pl p (ltb-true _ _ h) in absurd (omega arith)
    go false h = ltb-false _ _ h

-- and from the end on it is.
pub byte_beyond : (x : List ℕ) (p : ℕ) → length x ≤ p → byte_at x p ≡ 256
byte_beyond x p h = get_or-eq_default x 256 h

-- `/* .. */` and `// ..`, step by step: what each need of their readers follows from.
use mathlib.Core.Path.{◌≡◌, refl, sym, ◌∙◌}
use mathlib.Core.Bool.{Bool, true, false, not}
use mathlib.Core.List.{List, [], ◌∷◌}
use Prim.Native.Nat.{ℕ, suc, ◌+◌, ◌-◌, ◌≤◌, ◌<◌}
use Prim.Native.Char.{code}
use native.Mathlib.Omega.{arith}
use mir.Syntax.{w8}
use mir.Val.{Fits}
use lib.Bits.{bit_or}
use lib.Dec.{leb, lit<}
use lib.ListN.{length, get_or}
use borrow.Author.Tests.{not-true, not-false, leb-false, ne_eqb}
use Rattle.rules.specs.Forest.{nil, byte}
use Rattle.rules.specs.Parse.{got, pick, byte_at, opens, parsed}
use Rattle.rules.proofs.Run.{never}
use Rattle.jsx.specs.Refusal.{comment_never_closed}
use Rattle.jsx.specs.Byte.{one_of, bytes_of, is}
use Rattle.jsx.specs.Blank.{line_terminator, comment_turn, comment, line_turn, line_comment}
use Rattle.lex.specs.Contract.{nothing, Leaf, Past}
use Rattle.lex.specs.Answer.{Got, No}
use Rattle.lex.proofs.Results.{results}
use Rattle.lex.proofs.Laws as Lex
use Rattle.lex.proofs.Ranges.{each, each_passes}
use Rattle.lex.proofs.Turns.{Turns, turns_begin, turns_more, turns_end, turns_no}
use Rattle.lanes.specs.Lanes.{Marked, only, beyond}
use Rattle.lanes.specs.First.{First}
use Rattle.lanes.proofs.Over.{turns_over}
use Rattle.lanes.proofs.MaskSteps.{both_marked}
use Rattle.character.proofs.CodeSteps.{code_alone}
use Rattle.blank.specs.Here.{line_ends, line_stop}
use Rattle.blank.proofs.Laws

-- Within the input no byte is the end.
no_end : (s : List ℕ) → ((k : ℕ) → Fits w8 (get_or s k 0)) → (p : ℕ) → p < length s → byte_at s p < 256
no_end s each p i = let f = (each p).fits in let e = Lex.inside s p 0 256 i in omega arith

-- ---- `/* .. */`

module _ (s : List ℕ) (each : (k : ℕ) → Fits w8 (get_or s k 0)) (at : ℕ) where
  -- A byte that is no star is one of the comment.
  no_star : (i : ℕ) → i < length s → only (code "*") (byte_at s i) ≡ false
      → parsed s comment_turn at i ≡ got true (byte (byte_at s i) nil) (i + 1)
  no_star i k n =
      let h = no_end s each i k in
      Laws.comment_step s (suc (length s)) at i (ne_eqb (byte_at s i) 256 (λ e. omega arith))
      (Lex.opens_no s (code "/" ∷ []) i (code "*") n) k

  -- Behind `/*`, up to the first star.
  pub comment_begins : {p : ℕ} → at + 2 ≤ length s → First (only (code "*")) s (at + 2) p
      → Turns s comment_turn at (at + 2) p
  comment_begins h l = turns_over (only (code "*")) (turns_begin s comment_turn at (at + 2) h) l.clear no_star

  module _ {p : ℕ} (v : Turns s comment_turn at (at + 2) p) {b : ℕ} (y : b ≡ byte_at s p) where
    -- The input ends.
    pub comment_open : at + 2 ≤ length s → b ≡ 256 → Leaf nothing (No comment_never_closed at at 0 0) s comment at 4
    comment_open h x =
        Lex.leaf_stop nothing s comment at 4 refl
        (Laws.comment_no s at h (turns_no v (Laws.comment_open s (suc (length s)) at p (Lex.byte_is y x))))

    module _ (x : b ≡ 256 → ⊥) {t : Bool} (i : t ≡ opens s (bytes_of "*/") p) where
      -- `*/` stands here.
      pub comment_closes : at + 2 ≤ length s → t ≡ true → Leaf nothing (Got (p + 2) 0) s comment at 4
      comment_closes h z =
          let o = Laws.two_inside s p (code "*") (code "/") (lit< tt) (sym i ∙ z) in
          let e = turns_end v (Laws.comment_close s (suc (length s)) at p (Lex.byte_not y x) (sym i ∙ z)) in
          let q = v.past in
          Lex.leaf_done nothing s comment at 4 (p + 2) 0 (Laws.comment_got s at h e (omega arith)) refl (omega arith)

      -- Another byte of the comment, up to the next star.
      pub comment_goes_on : t ≡ false → {q : ℕ} → First (only (code "*")) s (p + 1) q
          → Turns s comment_turn at (at + 2) q
      comment_goes_on z l =
          let o = Lex.not_end s p (λ e. x (y ∙ e)) v.inside in
          let e = Laws.comment_step s (suc (length s)) at p (Lex.byte_not y x) (sym i ∙ z) o in
          turns_over (only (code "*")) (turns_more v e (omega arith) (omega arith)) l.clear no_star

-- ---- `// ..`

-- What stops no scan of a line ends none: tried of each byte of ASCII.
plain_tests : each (λ b. pick (line_stop b) true (not (line_terminator b))) 0 0x80 ≡ true
unfolding one_of each line_terminator
plain_tests = refl

-- What stops none is of ASCII.
plain_low : (b : ℕ) → line_stop b ≡ false → b < 0x80
plain_low b h = leb-false 0x80 b (last (is "\n" b) (is "\r" b) h)
  where
    last : (x y : Bool) → pick x true (pick y true (leb 0x80 b)) ≡ false → leb 0x80 b ≡ false
    last true y e = never (sym e)
    last false true e = never (sym e)
    last false false e = e

plain_not : (b : ℕ) → line_stop b ≡ false → line_terminator b ≡ false
plain_not b h =
    let k = plain_low b h in
    go (line_stop b) h
    (each_passes (λ x. pick (line_stop x) true (not (line_terminator x))) 0 0x80 plain_tests b (omega arith)
    (omega arith))
  where
    go : (x : Bool) → x ≡ false → pick x true (not (line_terminator b)) ≡ true → line_terminator b ≡ false
    go true e f = never (sym e)
    go false e f = not-true (line_terminator b) f

plain_here : (s : List ℕ) (p : ℕ) → line_stop (byte_at s p) ≡ false → line_ends s p ≡ false
unfolding line_ends
plain_here s p h =
    let k = plain_low (byte_at s p) h in
    let e = code_alone s p refl k in
    rw (ne_eqb (byte_at s p) 256 (λ z. omega arith), ← e) (plain_not (byte_at s p) h)

-- The lanes that stop one.
pub stops_marked : {w u v x : ℕ} → Marked (only (code "\n")) w u → Marked (only (code "\r")) w v → Marked beyond w x
    → Marked line_stop w (bit_or u (bit_or v x))
stops_marked a b c = both_marked a (both_marked b c)

-- Behind `//`.
pub line_begins : {s : List ℕ} (at : ℕ) → at + 2 ≤ length s → Turns s line_turn 0 (at + 2) (at + 2)
line_begins {s} at h = turns_begin s line_turn 0 (at + 2) h

module _
    {s : List ℕ} (at : ℕ) (h : at + 2 ≤ length s) {p : ℕ} (v : Turns s line_turn 0 (at + 2) p)
    {t : Bool} (i : t ≡ line_ends s p)
  where
    -- The line ends.
    pub line_ends_lem : not t ≡ false → Past p s line_comment at 2
    line_ends_lem x =
        let e = Laws.line_end_lem s (suc (length s)) 0 p (sym i ∙ not-false t x) in
        record { is = Lex.known _ (Laws.line_got s at h (turns_end v e)); far = (v.past, v.inside) }

    -- A byte of the comment.
    pub line_goes_on : not t ≡ true → Turns s line_turn 0 (at + 2) (p + 1)
    line_goes_on x =
        let g = sym i ∙ not-true t x in
        let o = Laws.line_inside s p g v.inside in
        turns_more v (Laws.line_step s (suc (length s)) 0 p g o) (omega arith) (omega arith)

    -- And those behind it.
    pub line_skips : not t ≡ true → {q : ℕ} → First line_stop s (p + 1) q → Turns s line_turn 0 (at + 2) q
    line_skips x l = turns_over line_stop (line_goes_on x) l.clear plain
      where
        plain : (i : ℕ) → i < length s → line_stop (byte_at s i) ≡ false
            → parsed s line_turn 0 i ≡ got true (byte (byte_at s i) nil) (i + 1)
        plain i k n = Laws.line_step s (suc (length s)) 0 i (plain_here s i n) k

-- A turn comes nearer to the end.
module _
    {s : List ℕ} {e at p : ℕ} {t : Bool} (v : Turns s line_turn e at p) (i : t ≡ line_ends s p) (x : not t ≡ true)
  where
    line_asked_on : p + 1 ≤ length s
    line_asked_on = let o = Laws.line_inside s p (sym i ∙ not-true t x) v.inside in omega arith

    pub line_turn_nearer : length s - (p + 1) < length s - p
    line_turn_nearer = let o = line_asked_on in omega arith

    pub line_skip_nearer : {q : ℕ} → First line_stop s (p + 1) q → length s - q < length s - p
    line_skip_nearer l =
        let o = line_asked_on in
        let j = l.clear.past in
        let k = l.clear.inside in
        omega arith

pub ruleset comment_steps = (
  results,
  stops_marked,
  comment_begins,
  comment_open,
  comment_closes,
  comment_goes_on,
  line_begins,
  line_ends_lem,
  line_goes_on,
  line_skips,
)

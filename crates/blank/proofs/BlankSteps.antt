-- Blanks and comments, one by one: what each need of their readers follows from.
use mathlib.Core.Path.{◌≡◌, refl, sym, ap, ◌∙◌}
use mathlib.Core.Bool.{Bool, true, false, not}
use mathlib.Core.List.{List, [], ◌∷◌}
use Rattle.std.specs.Prelude.{Option, None, Some, Result, Ok, Err}
use Prim.Native.Nat.{ℕ, suc, ◌+◌, ◌-◌, ◌*◌, ◌^◌, ◌≤◌, ◌<◌}
use Prim.Native.Char.{code}
use native.Mathlib.Omega.{arith}
use lib.Dec.{ltb}
use lib.ListN.{length, get_or-eq_default}
use borrow.Author.Tests.{ltb-true, not-true}
use Rattle.rules.specs.Forest.{nil, byte}
use Rattle.rules.specs.Parse.{pick, byte_at, code_at, opens, read_at}
use Rattle.rules.proofs.Run.{never, both}
use Rattle.jsx.specs.Refusal.{comment_never_closed}
use Rattle.jsx.specs.Byte.{is, ◌or◌, ◌‥◌}
use Rattle.jsx.specs.Blank.{blank_char, comment, line_comment, blank, blanks, pass}
use Rattle.lex.specs.Contract.{nothing, Leaf, Past}
use Rattle.lex.specs.Answer.{Ans, Got, No, said}
use Rattle.lex.specs.declared.refusal.Refusal.{Refusal}
use Rattle.lex.proofs.Results.{results}
use Rattle.lex.proofs.Laws as Lex
use Rattle.lex.proofs.Laws.{before_end}
use Rattle.lex.proofs.Turns.{Turns, turns_begin, turns_more}
use Rattle.character.specs.Width.{width_of}
use Rattle.character.proofs.CodeSteps.{code_alone}
use Rattle.character.proofs.WidthSteps.{width_one}
use Rattle.character.proofs.Read.{character_inside, character_wide}
use Rattle.blank.specs.Here.{blank_byte, blank_width, stopped, NeverClosed}
use Rattle.blank.proofs.Laws

-- ---- a blank here

module _ (s : List ℕ) (p : ℕ) where
  -- A blank of n bytes.
  record Blank (n : ℕ) : Type 0 where
    coded : blank_char (code_at s p) ≡ true
    wide : n ≡ width_of (byte_at s p)
    some : 0 < n
    inside : p + n ≤ length s

  blank_of : {n : ℕ} → blank_char (code_at s p) ≡ true → n ≡ width_of (byte_at s p) → Blank n
  blank_of t e =
      let k = Laws.blank_coded s p t in
      let w = character_wide s p k in
      let i = character_inside s p k in
      record { coded = t; wide = e; some = omega arith; inside = omega arith }

  -- It has a width; where none stands, there is none.
  module _ {w : Option ℕ} (e : w ≡ blank_width s p) where
    here : {n : ℕ} → w ≡ Some n → Blank n
    unfolding blank_width
    here {n} k = go (blank_char (code_at s p)) refl (sym e ∙ k)
      where
        go : (t : Bool) → blank_char (code_at s p) ≡ t → pick t (Some (width_of (byte_at s p))) None ≡ Some n → Blank n
        go true x h = blank_of x (cc)
        go false x h = cc

    none : w ≡ None → blank_char (code_at s p) ≡ false
    unfolding blank_width
    none k = go (blank_char (code_at s p)) (sym e ∙ k)
      where
        go : (t : Bool) → pick t (Some (width_of (byte_at s p))) None ≡ None → t ≡ false
        go true h = cc
        go false h = refl

  -- At the end none stands.
  none_at_end : length s ≤ p → blank_char (code_at s p) ≡ false
  none_at_end h = go (blank_char (code_at s p)) refl
    where
      go : (t : Bool) → blank_char (code_at s p) ≡ t → blank_char (code_at s p) ≡ false
      go true x =
          let b = blank_of {n = width_of (byte_at s p)} x refl in
          let o = b.some in
          let i = b.inside in
          absurd (omega arith)
      go false x = x

  -- A byte that is a blank by itself.
  alone : {b : ℕ} → b ≡ byte_at s p → {t : Bool} → t ≡ blank_byte b → t ≡ true → Blank 1
  unfolding blank_byte
  alone {b} y i x =
      let k = both (ltb b 0x80) (blank_char b) (sym i ∙ x) in
      let l = ltb-true b 0x80 k.0 in
      blank_of (ap blank_char (sym (code_alone s p y l)) ∙ k.1) (width_one (omega arith) ∙ ap width_of y)

-- ---- one by one

-- Before the first.
pub blanks_begin : {s : List ℕ} {at : ℕ} → at ≤ length s → Turns s blank 0 at at
blanks_begin {s} {at} h = turns_begin s blank 0 at h

module _ {s : List ℕ} {at p : ℕ} (v : Turns s blank 0 at p) where
  goes_on : {n : ℕ} → Blank s p n → Turns s blank 0 at (p + n)
  goes_on {n} b =
      let e = Laws.blank_step s (suc (length s)) 0 p b.coded in
      let o = b.some in
      let i = b.inside in
      let w = b.wide in
      rw b.wide (turns_more v e (omega arith) (omega arith))

  -- The rest was read by a call.
  pub blanks_behind : {r : Ans} → Leaf nothing r s blanks p 0 → Leaf nothing r s blanks at 0
  unfolding blanks
  blanks_behind l = Lex.leaf_behind nothing blanks at 0 v.acc (λ a o. refl) l v.so (omega (arith, v.past))

  -- The input ends.
  pub blanks_input : length s ≤ p → Leaf nothing (Got p 0) s blanks at 0
  blanks_input h =
      let e : byte_at s p ≡ 256 = get_or-eq_default s 256 h in
      Laws.blanks_end v (Laws.blank_other s (suc (length s)) 0 p (none_at_end s p h) (rw e))

  module _ {b : ℕ} (y : b ≡ byte_at s p) where
    -- A byte that is a blank by itself.
    pub byte_goes_on : {t : Bool} → t ≡ blank_byte b → t ≡ true → Turns s blank 0 at (p + 1)
    byte_goes_on {t} i x = goes_on (alone s p y i x)

    module _ (x : b ≡ code "/" → ⊥) where
      -- A character of ASCII behind the space, and no `/`.
      pub token_stops : {t : Bool} → t ≡ (0x21 ‥ 0x7F) b → t ≡ true → Leaf nothing (Got p 0) s blanks at 0
      token_stops i z =
          let o = Laws.token_other s p (Lex.tested (0x21 ‥ 0x7F) y i z) in
          Laws.blanks_end v (Laws.blank_other s (suc (length s)) 0 p o (Lex.byte_not y x))

      module _ {w : Option ℕ} (i : w ≡ blank_width s p) where
        -- No blank.
        pub blanks_stop : w ≡ None → Leaf nothing (Got p 0) s blanks at 0
        blanks_stop z = Laws.blanks_end v (Laws.blank_other s (suc (length s)) 0 p (none s p i z) (Lex.byte_not y x))

        -- A blank.
        pub blank_goes_on : {n : ℕ} → w ≡ Some n → Turns s blank 0 at (p + n)
        blank_goes_on z = goes_on (here s p i z)

    module _ (x : b ≡ code "/") {c : ℕ} (y₂ : c ≡ byte_at s (p + 1)) where
      slash : is "/" (byte_at s p) ≡ true
      slash = Lex.byte_is y x

      other : blank_char (code_at s p) ≡ false
      other = Laws.token_other s p (rw (sym y ∙ x))

      alone_stops : is "*" (byte_at s (p + 1)) ≡ false → is "/" (byte_at s (p + 1)) ≡ false
          → Leaf nothing (Got p 0) s blanks at 0
      alone_stops z w = Laws.blanks_end v (Laws.blank_slash s (suc (length s)) 0 p other slash z w)

      -- A `/` alone, by one test of what stands behind it.
      pub slash_stops : {t : Bool} → t ≡ (is "*" or is "/") c → not t ≡ true → Leaf nothing (Got p 0) s blanks at 0
      slash_stops {t} i z = let k = neither (is "*" c) (is "/" c) (sym i ∙ not-true t z) in
          alone_stops (ap (is "*") (sym y₂) ∙ k.0) (ap (is "/") (sym y₂) ∙ k.1)
        where
          neither : (f g : Bool) → pick f true g ≡ false → (f ≡ false) × (g ≡ false)
          neither true g h = never (sym h)
          neither false g h = (refl, h)

      -- A line comment.
      pub line_goes_on : c ≡ code "/" → {q : ℕ} → Past q s line_comment p 2 → Turns s blank 0 at q
      line_goes_on w l =
          let f = l.far in
          let z : is "*" (byte_at s (p + 1)) ≡ false = rw (sym y₂ ∙ w) in
          turns_more v (Laws.blank_line s (suc (length s)) 0 p other slash z (Lex.byte_is y₂ w) ∙ l.is) (omega arith)
          f.1

      module _ (w : c ≡ code "/" → ⊥) where
        -- A `/` alone.
        pub slash_ends : (c ≡ code "*" → ⊥) → Leaf nothing (Got p 0) s blanks at 0
        slash_ends k = alone_stops (Lex.byte_not y₂ k) (Lex.byte_not y₂ w)

        module _ (k : c ≡ code "*") {r : Ans} (l : Leaf nothing r s comment p 4) where
          begins : read_at s blank p ≡ read_at s comment p
          begins = Laws.blank_comment s (suc (length s)) 0 p other slash (Lex.byte_is y₂ k)

          -- A comment that is refused.
          pub comment_stops : {n a e f d : ℕ} → r ≡ No n a e f d → Leaf nothing r s blanks at 0
          comment_stops h = Laws.blanks_no v (begins ∙ Lex.leaf_no l h) h

          -- A comment that ends.
          pub comment_goes_on : {q j : ℕ} → r ≡ Got q j → Turns s blank 0 at q
          comment_goes_on h =
              let f = l.far _ _ h in
              turns_more v (begins ∙ Lex.leaf_got Laws.goes_comment l h) (omega arith) f.1

-- ---- where a skip stops

module _ {s : List ℕ} {at p : ℕ} (v : Turns s blank 0 at p) {b : ℕ} (y : b ≡ byte_at s p) where
  -- No blank, and no comment.
  pub stopped_here : (b ≡ code "/" → ⊥) → {w : Option ℕ} → w ≡ blank_width s p → w ≡ None
      → Leaf nothing (stopped s p) s blanks at 0
  stopped_here x i z = rw (Lex.opens_no s (code "*" ∷ []) p (code "/") (Lex.byte_not y x)) (blanks_stop v y x i z)

  module _ (x : b ≡ code "/") {c : ℕ} (y₂ : c ≡ byte_at s (p + 1)) where
    opened : opens s (code "/" ∷ code "*" ∷ []) p ≡ is "*" (byte_at s (p + 1))
    opened =
        Lex.opens_yes s (code "*" ∷ []) p (code "/") (Lex.byte_is y x) ∙ Lex.opens_one s (p + 1) (code "*")

    -- A `/` alone.
    pub stopped_slash : (c ≡ code "/" → ⊥) → (c ≡ code "*" → ⊥) → Leaf nothing (stopped s p) s blanks at 0
    stopped_slash w k = rw (opened ∙ Lex.byte_not y₂ k) (slash_ends v y x y₂ w k)

    -- A comment that is never closed.
    pub stopped_open : (c ≡ code "/" → ⊥) → c ≡ code "*" → {r : Result ℕ Refusal} → Leaf nothing (said r) s comment p 4
        → NeverClosed p r
        → {e : Refusal} → r ≡ Err e → Leaf nothing (stopped s p) s blanks at 0
    stopped_open w k {r} l o {e} h =
        let f : said r ≡ No comment_never_closed p p 0 0 = of r o h in
        rw (opened ∙ Lex.byte_is y₂ k, sym f) (comment_stops v y x y₂ w k l f)
      where
        of : (r : Result ℕ Refusal) → NeverClosed p r → {e : Refusal} → r ≡ Err e
            → said r ≡ No comment_never_closed p p 0 0
        of (Ok q) o h = cc
        of (Err e) o h = o

-- ---- a byte and blanks

-- Past a byte, and past the blanks behind it.
pub pass_is : {s : List ℕ} {at : ℕ} {r : Ans} → at < length s → Leaf nothing r s blanks (at + 1) 0
    → Leaf nothing r s pass at 1
pass_is {s} {at} h l =
    Lex.leaf_behind nothing pass at 1 (byte (byte_at s at) nil) (λ a o. refl) l (Laws.pass_is s at h) (omega arith)

-- ---- what is asked

module _ (s : List ℕ) (p : ℕ) {w : Option ℕ} (i : w ≡ blank_width s p) {n : ℕ} (x : w ≡ Some n) where
  -- A blank stands within the input.
  blank_inside : p + n ≤ length s
  blank_inside = (here s p i x).inside

  -- The sum that passes it fits.
  pub blank_fits : length s * 1 < 2 ^ 63 → p + n < 2 ^ 64
  blank_fits l = let o = blank_inside in omega arith

  -- Behind it is nearer to the end.
  pub blank_nearer : length s - (p + n) < length s - p
  blank_nearer = let h = here s p i x in let o = h.inside in let w = h.some in omega arith

pub ruleset blank_steps = (
  results,
  blanks_begin,
  blanks_behind,
  byte_goes_on,
  blanks_input,
  token_stops,
  blanks_stop,
  blank_goes_on,
  slash_stops,
  line_goes_on,
  comment_goes_on,
  pass_is,
)

pub ruleset stop_steps = (blank_steps, stopped_here, stopped_slash, stopped_open)

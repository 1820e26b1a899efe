-- A byte with blanks, a tag's end, and what may not stand behind an element: what each need of their leaves follows
-- from.
use mathlib.Core.Path.{◌≡◌, refl, sym, ap, ◌∙◌}
use mathlib.Core.Bool.{Bool, true, false}
use mathlib.Core.List.{List, [], ◌∷◌}
use Prim.Native.Char.{code}
use Prim.Native.Nat.{ℕ, suc, ◌+◌, ◌*◌, ◌≤◌, ◌<◌, ◌^◌}
use native.Mathlib.Omega.{arith}
use lib.Dec.{lit<}
use lib.ListN.{length}
use Rattle.lex.proofs.Results.{results}
use borrow.Author.Tests.{eq-eqb}
use mir.Syntax.{w64}
use mir.Val.{Fits}
use Rattle.rules.specs.Forest.{Forest, nil, byte}
use Rattle.rules.specs.Rule.{Rule, stop, step, ◌⨾◌}
use Rattle.rules.specs.Parse.{Answer, got, trouble, pick, behind, byte_at, opens, parse, read_at}
use Rattle.rules.proofs.Run.{goes}
use Rattle.rules.proofs.Got.{trouble_got, going}
use Rattle.rules.proofs.Flat.{seq_assoc}
use Rattle.rules.proofs.Again.{seq_no, after_no}
use Rattle.jsx.specs.Byte.{is, need, expect}
use Rattle.jsx.specs.Blank.{blanks, pass}
use Rattle.jsx.specs.Expression.{sibling, no_sibling}
use Rattle.jsx.specs.Tag.{tag_end}
use Rattle.jsx.proofs.Again.{no_sibling_once}
use Rattle.lex.specs.Contract.{view, out_of, nothing, expect_byte, Leaf}
use Rattle.lex.specs.Answer.{Ans, Got, No}
use Rattle.lex.proofs.Laws as Lex
use Rattle.lex.proofs.Bare.{goes_blanks}
use Rattle.table.proofs.Asked.{reader_asked}
use Rattle.tag.specs.Token.{open_by, close_by, goes_on}
use Rattle.tag.proofs.Rules.{goes_expect, goes_close, goes_sibling}

-- ---- a byte and blanks, blanks and a byte

-- Two leaves, one after the other.
module _ {s : List ℕ} {t u : Rule} {at i : ℕ} {r : Ans} (l : Leaf nothing r s t at i) (k : ℕ) where
  -- The first refuses.
  pub two_stop : {n a b c d : ℕ} → r ≡ No n a b c d → Leaf nothing r s (t ⨾ u) at k
  two_stop h = Lex.leaf_stop nothing s (t ⨾ u) at k h (seq_no s (suc (length s)) t 0 at (Lex.leaf_no l h) u)

  -- It does not: the second decides.
  pub two_are : {r₂ : Ans} {p m j : ℕ} → goes t ≡ true → r ≡ Got p m → Leaf nothing r₂ s u p j
      → k ≤ i + j
      → Leaf nothing r₂ s (t ⨾ u) at k
  two_are go h l₂ e =
      let far = l.far _ _ h in
      Lex.leaf_behind nothing (t ⨾ u) at k _ (λ a o. refl) l₂
      (Lex.seq_is s (suc (length s)) 0 at t u (Lex.leaf_got go l h)) (omega arith)

module _ {s : List ℕ} {at : ℕ} (c : ℕ) {r : Ans} where
  -- The byte is not there.
  pub open_stops : {n a b g d : ℕ} → Leaf nothing r s (expect_byte c) at 1 → r ≡ No n a b g d
      → Leaf nothing r s (open_by c) at 1
  unfolding open_by
  open_stops l h = two_stop l 1 h

  -- It is there.
  pub open_is : {r₂ : Ans} {p j : ℕ} → Leaf nothing r s (expect_byte c) at 1 → r ≡ Got p j
      → Leaf nothing r₂ s blanks p 0
      → Leaf nothing r₂ s (open_by c) at 1
  unfolding open_by
  open_is l h l₂ = two_are l 1 (goes_expect c) h l₂ (omega arith)

  -- The blanks refuse.
  pub close_stops : {n a b g d : ℕ}
      → Leaf nothing r s blanks at 0
      → r ≡ No n a b g d
      → Leaf nothing r s (close_by c) at 1
  unfolding close_by
  close_stops l h = two_stop l 1 h

  -- They are passed.
  pub close_is : {r₂ : Ans} {p j : ℕ}
      → Leaf nothing r s blanks at 0
      → r ≡ Got p j
      → Leaf nothing r₂ s (expect_byte c) p 1
      → Leaf nothing r₂ s (close_by c) at 1
  unfolding close_by
  close_is l h l₂ = two_are l 1 goes_blanks h l₂ (omega arith)

pub ruleset token_steps = (results, open_stops, open_is, close_stops, close_is)

-- ---- a tag's end

-- An answer that is never got says the same by any number.
same_view : (v w : Bool → Forest → ℕ) (x : Answer) → Lex.Fails x → view v x ≡ view w x
same_view v w (got a o p) f = absurd f
same_view v w (trouble n a b c d) f = refl

-- At a `/`: blanks and `>` are left, and the tag stops.
at_slash : (s : List ℕ) (at : ℕ) → byte_at s at ≡ code "/"
    → read_at s tag_end at ≡ behind (byte (byte_at s at) nil) (read_at s (close_by (code ">") ⨾ stop) (at + 1))
unfolding tag_end pass close_by expect
at_slash s at h =
    let F = suc (length s) in
    let i = Lex.before_end s at (code "/") h (lit< tt) in
    Lex.when_yes s F 0 at (is "/") (pass ⨾ expect ">" ⨾ stop) (expect ">") (eq-eqb (byte_at s at) (code "/") h)
    ∙ seq_assoc s F step blanks (expect ">" ⨾ stop) 0 at
    ∙ Lex.seq_is s F 0 at step (blanks ⨾ expect ">" ⨾ stop) (Lex.step_is s F 0 at i)
    ∙ ap (behind (byte (byte_at s at) nil)) (sym (seq_assoc s F blanks (expect ">") stop 0 (at + 1)))

module _ {s : List ℕ} {at b : ℕ} (y : b ≡ byte_at s at) where
  -- `>`.
  pub end_here : b ≡ code ">" → Leaf goes_on (Got (at + 1) 1) s tag_end at 1
  unfolding tag_end expect
  end_here h =
      let F = suc (length s) in
      let i = Lex.before_end s at (code ">") (sym y ∙ h) (lit< tt) in
      let other : (b ≡ code "/" → ⊥) = λ e. absurd (omega arith) in
      Lex.leaf_done goes_on s tag_end at 1 (at + 1) 1
      (Lex.when_no s F 0 at (is "/") (pass ⨾ expect ">" ⨾ stop) (expect ">") (Lex.byte_not y other)
      ∙ Lex.when_yes s F 0 at (is ">") step need (Lex.byte_is y h)
      ∙ Lex.step_is s F 0 at i)
      refl (omega arith)

  -- Neither `>` nor `/`.
  pub end_missing : {r : Ans} → (b ≡ code ">" → ⊥) → (b ≡ code "/" → ⊥) → Leaf nothing r s need at 0
      → Leaf goes_on r s tag_end at 1
  unfolding tag_end expect
  end_missing h g l =
      let F = suc (length s) in
      let fails = Lex.need_fails s at in
      let other : read_at s need at ≡ read_at s tag_end at =
      sym (Lex.when_no s F 0 at (is "/") (pass ⨾ expect ">" ⨾ stop) (expect ">") (Lex.byte_not y g)
      ∙ Lex.when_no s F 0 at (is ">") step need (Lex.byte_not y h)) in
      let here = Lex.leaf_refuses {k = 1} l other fails in
      record {
        is = l.is ∙ same_view nothing goes_on (read_at s need at) fails ∙ ap (view goes_on) other;
        far = here.far;
      }

  -- `/`.
  module _ (h : b ≡ code "/") {r : Ans} (l : Leaf nothing r s (close_by (code ">")) (at + 1) 1) where
    -- What is behind it refuses.
    pub end_stops : {n a c d e : ℕ} → r ≡ No n a c d e → Leaf goes_on r s tag_end at 1
    end_stops x =
        Lex.leaf_stop goes_on s tag_end at 1 x
        (at_slash s at (sym y ∙ h) ∙ ap (behind (byte (byte_at s at) nil))
        (seq_no s (suc (length s)) (close_by (code ">")) 0 (at + 1) (Lex.leaf_no l x) stop))

    -- It is there, and the tag stops.
    pub end_slash : {p j q : ℕ} → r ≡ Got p j → q ≡ p → Leaf goes_on (Got q 0) s tag_end at 1
    unfolding parse
    end_slash {p} x e =
        let far = l.far _ _ x in
        rw e (Lex.leaf_done goes_on s tag_end at 1 p 0
        (at_slash s at (sym y ∙ h) ∙ ap (behind (byte (byte_at s at) nil))
        (Lex.seq_is s (suc (length s)) 0 (at + 1) (close_by (code ">")) stop
        (Lex.leaf_got (goes_close (code ">")) l x)))
        refl (omega arith))

-- What its number says.
module _ {r : Ans} {s : List ℕ} {at : ℕ} (l : Leaf goes_on r s tag_end at 1) {p : ℕ} where
  -- The tag goes on.
  pub end_goes : r ≡ Got p 1 → read_at s tag_end at ≡ got true (out_of (read_at s tag_end at)) p
  end_goes h = go (Lex.view_got goes_on (read_at s tag_end at) l.is h)
    where
      go : (a : Bool) × (read_at s tag_end at ≡ got a (out_of (read_at s tag_end at)) p) × (◌≡◌ {A = ℕ} 1 (pick a 1 0))
          → read_at s tag_end at ≡ got true (out_of (read_at s tag_end at)) p
      go (true, e, n) = e
      go (false, e, n) = absurd (omega arith)

  -- It stops.
  pub end_single : r ≡ Got p 0 → read_at s tag_end at ≡ got false (out_of (read_at s tag_end at)) p
  end_single h = go (Lex.view_got goes_on (read_at s tag_end at) l.is h)
    where
      go : (a : Bool) × (read_at s tag_end at ≡ got a (out_of (read_at s tag_end at)) p) × (◌≡◌ {A = ℕ} 0 (pick a 1 0))
          → read_at s tag_end at ≡ got false (out_of (read_at s tag_end at)) p
      go (true, e, n) = absurd (omega arith)
      go (false, e, n) = e

-- Behind the `/`.
pub slash_inside : (s : List ℕ) (at : ℕ) {b : ℕ} (u : List ℕ) {q : ℕ}
    → b ≡ byte_at s at
    → b ≡ code "/"
    → q ≡ at + 1
    → u ≡ s
    → q ≤ length u
slash_inside s at u y h e f =
    let i = Lex.before_end s at (code "/") (sym y ∙ h) (lit< tt) in
    rw (e, f) (omega arith)

pub ruleset end_steps = (results, end_here, end_missing, end_stops, end_slash)

pub ruleset end_asked = (results, slash_inside)

-- ---- behind an element that is no child

module _ {s : List ℕ} {at : ℕ} (n : ℕ) {r : Ans} (l : Leaf nothing r s blanks at 0) where
  -- The blanks refuse.
  pub sibling_stops : {m a b c d : ℕ} → r ≡ No m a b c d → Leaf nothing r s (no_sibling n) at 0
  unfolding no_sibling
  sibling_stops h =
      Lex.leaf_stop nothing s (no_sibling n) at 0 h
      (after_no s (suc (length s)) blanks 0 at (Lex.leaf_no l h) (is "<") _ _)

  module _ {p j : ℕ} (h : r ≡ Got p j) {b : ℕ} (y : b ≡ byte_at s p) where
    once : read_at s (no_sibling n) at
        ≡ pick (is "<" (byte_at s p)) (behind (out_of (read_at s blanks at)) (read_at s (sibling n) p))
        (got true nil at)
    once = no_sibling_once s (suc (length s)) 0 at (Lex.leaf_got goes_blanks l h) n

    -- No `<` is behind them: nothing is passed.
    pub sibling_none : (b ≡ code "<" → ⊥) → Leaf nothing (Got at 0) s (no_sibling n) at 0
    sibling_none x =
        let far = l.far _ _ h in
        let e = Lex.byte_not y x in
        let stays : read_at s (no_sibling n) at ≡ got true nil at = once ∙ rw e in
        Lex.leaf_done nothing s (no_sibling n) at 0 at 0 stays refl (omega arith)

    -- A `<` is, and the byte behind it decides.
    module _ (x : b ≡ code "<") {f : Bool} (i : f ≡ opens s (code "<" ∷ code "<" ∷ []) p) where
      refuses : {m a c d z : ℕ} → read_at s (sibling n) p ≡ trouble m a c d z → {a₁ c₁ : ℕ} → a₁ ≡ a → c₁ ≡ c
          → Leaf nothing (No m a₁ c₁ d z) s (no_sibling n) at 0
      refuses k ea ec =
          let e = Lex.byte_is y x in
          rw (ea, ec)
          (Lex.leaf_stop nothing s (no_sibling n) at 0 refl
          (once ∙ rw e (ap (behind (out_of (read_at s blanks at))) k)))

      -- `<<`.
      pub sibling_less : {a c : ℕ} → f ≡ true → a ≡ p → c ≡ p → Leaf nothing (No n a c 0 0) s (no_sibling n) at 0
      unfolding sibling parse
      sibling_less k ea ec = let e = sym i ∙ k in refuses (rw e) ea ec

      module _ (k : f ≡ false) {g : Bool} (o : g ≡ opens s (code "<" ∷ code "=" ∷ []) p) where
        -- `<=`.
        pub sibling_equals : {a c : ℕ} → g ≡ true → a ≡ p → c ≡ p → Leaf nothing (No n a c 0 0) s (no_sibling n) at 0
        unfolding sibling parse
        sibling_equals z ea ec =
            let e₁ = sym i ∙ k in
            let e₂ = sym o ∙ z in
            refuses (rw (e₁, e₂)) ea ec

        -- Any other.
        pub sibling_adjacent : {a c : ℕ} → g ≡ false → a ≡ p → c ≡ p + 1
            → Leaf nothing (No 12 a c 0 0) s (no_sibling n) at 0
        unfolding sibling parse
        sibling_adjacent z ea ec =
            let e₁ = sym i ∙ k in
            let e₂ = sym o ∙ z in
            refuses (rw (e₁, e₂)) ea ec

-- A `<` there refuses in each way.
sibling_fails : (s : List ℕ) (n p : ℕ) → Lex.Fails (read_at s (sibling n) p)
unfolding sibling parse
sibling_fails s n p = go (opens s (code "<" ∷ code "<" ∷ []) p) (opens s (code "<" ∷ code "=" ∷ []) p)
  where
    go : (x y : Bool) → Lex.Fails (pick x (trouble n p p 0 0) (pick y (trouble n p p 0 0) (trouble 12 p (p + 1) 0 0)))
    go true y = tt
    go false true = tt
    go false false = tt

-- Where none is refused, nothing was passed.
pub sibling_stays : {r : Ans} {s : List ℕ} (n : ℕ) {at k : ℕ}
    → Leaf nothing r s (no_sibling n) at k
    → {p j : ℕ} → r ≡ Got p j
    → read_at s (no_sibling n) at ≡ got true nil at
unfolding no_sibling
sibling_stays {r} {s} n {at} l {p} h =
    by (read_at s blanks at) refl (Lex.leaf_got (goes_sibling n) l h)
  where
    no : (o : Forest) (x : Answer) → Lex.Fails x → {v : Forest} → behind o x ≡ got true v p
        → read_at s (no_sibling n) at ≡ got true nil at
    no o (got a v z) f e = absurd f
    no o (trouble m a b c d) f e = trouble_got e

    of : (o : Forest) (z : ℕ) (c : Bool) {v : Forest}
        → read_at s (no_sibling n) at ≡ pick c (behind o (read_at s (sibling n) z)) (got true nil at)
        → read_at s (no_sibling n) at ≡ got true v p
        → read_at s (no_sibling n) at ≡ got true nil at
    of o z true e g = no o (read_at s (sibling n) z) (sibling_fails s n z) (sym e ∙ g)
    of o z false e g = e

    by : (x : Answer) → read_at s blanks at ≡ x → {v : Forest} → read_at s (no_sibling n) at ≡ got true v p
        → read_at s (no_sibling n) at ≡ got true nil at
    by (got a o z) e g =
        of o z (is "<" (byte_at s z))
        (no_sibling_once s (suc (length s)) 0 at (going s (suc (length s)) blanks 0 at goes_blanks e) n) g
    by (trouble m a b c d) e g =
        trouble_got (sym (after_no s (suc (length s)) blanks 0 at e (is "<") _ _) ∙ g)

pub ruleset sibling_steps = (results, sibling_stops, sibling_none, sibling_less, sibling_equals, sibling_adjacent)

-- ---- what the calls ask

-- A place that was got fits with one more.
pub leaf_next : {w : Bool → Forest → ℕ} {r : Ans} {s : List ℕ} {g : Rule} {at k p j y : ℕ}
    → Leaf w r s g at k
    → r ≡ Got p j
    → length s * 1 < 2 ^ 63
    → y ≡ p
    → Fits w64 (y + 1)
leaf_next l h i e = let far = l.far _ _ h in omega arith

pub ruleset token_asked = (reader_asked, leaf_next)

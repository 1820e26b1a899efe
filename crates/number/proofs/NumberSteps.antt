-- Numbers, step by step.
use mathlib.Core.Path.{◌≡◌, refl, sym, subst, ◌∙◌}
use mathlib.Core.Bool.{Bool, true, false}
use mathlib.Core.List.{List}
use Prim.Native.Nat.{ℕ, suc, ◌+◌, ◌≤◌, ◌<◌}
use Prim.Native.Char.{code}
use native.Mathlib.Omega.{arith}
use lib.Dec.{lit<}
use lib.ListN.{length}
use borrow.Author.Tests.{lt-ltb}
use Rattle.rules.specs.Forest.{Forest, nil, byte, ◌⋈◌}
use Rattle.rules.specs.Parse.{Answer, got, trouble, pick, behind, byte_at, parse, read_at}
use Rattle.rules.proofs.Mark.{any_mark}
use Rattle.jsx.specs.Refusal.{unexpected}
use Rattle.jsx.specs.Byte.{is, digit}
use Rattle.jsx.specs.Name.{in_word}
use Rattle.jsx.specs.Word.{digits, whole, fraction, number}
use Rattle.lex.specs.Contract.{nothing, Leaf, Past}
use Rattle.lex.specs.Answer.{Ans, Got, No}
use Rattle.lex.proofs.Laws.{before_end, byte_is, byte_not, tested, known, leaf_stop, leaf_done}
use Rattle.number.proofs.DigitSteps.{digit_inside}

-- ---- whole digits

module _ {s : List ℕ} {at b : ℕ} where
  -- A 0 alone.
  pub whole_zero : {q : ℕ} → digit (byte_at s at) ≡ true → b ≡ byte_at s at → b ≡ code "0" → q ≡ at + 1
      → Past q s whole at 1
  unfolding parse whole
  whole_zero d y x e =
      let i = digit_inside s at d in
      rw e record { is = known _ (go (byte_is y x) i); far = omega arith }
    where
      go : is "0" (byte_at s at) ≡ true → at < length s
          → read_at s whole at ≡ got true (byte (byte_at s at) nil) (at + 1)
      go h i = rw (h, lt-ltb at (length s) i)

  -- Digits.
  pub whole_digits : {q : ℕ} → b ≡ byte_at s at → (b ≡ code "0" → ⊥) → Past q s digits at 1 → Past q s whole at 1
  unfolding parse whole
  whole_digits y x l =
      let e : read_at s whole at ≡ read_at s digits at = rw (byte_not y x) in
      record { is = known _ (e ∙ l.is); far = l.far }

-- ---- the end

-- What the code answers where a number has come to p.
abbrev ended_at : List ℕ → (at p : ℕ) → Ans
ended_at s at p = pick (in_word (byte_at s p)) (No unexpected at at 0 0) (Got p 0)

module _ (s : List ℕ) (at p : ℕ) {b : ℕ} (y : b ≡ byte_at s p) {t : Bool} (i : t ≡ in_word b) where
  -- A byte of a word follows.
  pub end_stops : t ≡ true → No unexpected at at 0 0 ≡ ended_at s at p
  end_stops x = sym (rw (tested in_word y i x))

  -- None does.
  pub end_is : t ≡ false → Got p 0 ≡ ended_at s at p
  end_is x = sym (rw (tested in_word y i x))

-- ---- the number

-- What the rule answers there.
abbrev ending : List ℕ → (at p : ℕ) → Answer
ending s at p = pick (in_word (byte_at s p)) (trouble unexpected at at 0 0) (got true nil p)

ends : (s : List ℕ) (at p : ℕ) (u v : Forest) {r : Ans} → r ≡ ended_at s at p
    → read_at s number at ≡ behind u (behind v (ending s at p)) → (at + 1 ≤ p) × (p ≤ length s)
    → Leaf nothing r s number at 1
ends s at p u v {r} e h i = go (in_word (byte_at s p)) e h
  where
    go : (x : Bool) → r ≡ pick x (No unexpected at at 0 0) (Got p 0)
        → read_at s number at ≡ behind u (behind v (pick x (trouble unexpected at at 0 0) (got true nil p)))
        → Leaf nothing r s number at 1
    go true g k = leaf_stop nothing s number at 1 g k
    go false g k =
        subst (λ (x : Ans). Leaf nothing x s number at 1) (sym g) (leaf_done nothing s number at 1 p 0 k refl i)

module _ {s : List ℕ} {at p : ℕ} (w : Past p s whole at 1) {b : ℕ} (y : b ≡ byte_at s p) where
  -- No fraction.
  pub number_whole : (b ≡ code "." → ⊥) → {r : Ans} → r ≡ ended_at s at p → Leaf nothing r s number at 1
  unfolding parse number fraction
  number_whole x e = ends s at p _ nil e (go w.is (byte_not y x)) w.far
    where
      go : {o : Forest} → read_at s whole at ≡ got true o p → is "." (byte_at s p) ≡ false
          → read_at s number at ≡ behind o (behind nil (ending s at p))
      go h n = rw (any_mark s (suc (length s)) whole 0 at at h, n)

  module _ (x : b ≡ code ".") {c : ℕ} (y₂ : c ≡ byte_at s (p + 1)) {t : Bool} (i : t ≡ digit c) where
    -- A dot with no digit behind it.
    pub number_stops : t ≡ false → Leaf nothing (No unexpected at at 0 0) s number at 1
    unfolding parse number fraction
    number_stops z =
        let j = before_end s p (code ".") (sym y ∙ x) (lit< tt) in
        leaf_stop nothing s number at 1 refl (go w.is (byte_is y x) j (tested digit y₂ i z))
      where
        go : {o : Forest} → read_at s whole at ≡ got true o p → is "." (byte_at s p) ≡ true → p < length s
            → digit (byte_at s (p + 1)) ≡ false → read_at s number at ≡ trouble unexpected at at 0 0
        go h d j n = rw (any_mark s (suc (length s)) whole 0 at at h, d, lt-ltb p (length s) j, n)

    -- A fraction.
    pub number_dotted : t ≡ true → {q : ℕ} → Past q s digits (p + 1) 1 → {r : Ans} → r ≡ ended_at s at q
        → Leaf nothing r s number at 1
    unfolding parse number fraction
    number_dotted z {q} l e =
        let j = before_end s p (code ".") (sym y ∙ x) (lit< tt) in
        let f = w.far in
        let g = l.far in
        ends s at q _ _ e (go w.is (byte_is y x) j (tested digit y₂ i z) l.is) (omega arith)
      where
        go : {o v : Forest} {q : ℕ} → read_at s whole at ≡ got true o p → is "." (byte_at s p) ≡ true → p < length s
            → digit (byte_at s (p + 1)) ≡ true → read_at s digits (p + 1) ≡ got true v q
            → read_at s number at ≡ behind o (behind (byte (byte_at s p) nil ⋈ v) (ending s at q))
        go h d j n e =
            rw (
              any_mark s (suc (length s)) whole 0 at at h,
              d,
              lt-ltb p (length s) j,
              n,
              any_mark s (suc (length s)) digits 0 at (p + 1) e,
            )

pub ruleset number_steps = (
  whole_zero,
  whole_digits,
  end_stops,
  end_is,
  number_whole,
  number_stops,
  number_dotted,
)

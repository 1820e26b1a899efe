-- An element with no level left: what each need of its leaf follows from.
use mathlib.Core.Path.{◌≡◌, refl, sym, ap, ◌∙◌}
use mathlib.Core.Bool.{Bool, true, false}
use mathlib.Core.List.{List}
use Prim.Native.Char.{code}
use Prim.Native.Nat.{ℕ, suc}
use native.Mathlib.Omega.{arith}
use lib.ListN.{length}
use Rattle.lex.proofs.Results.{results}
use Rattle.rules.specs.Rule.{Rule, refuse, when, when_char, mark}
use Rattle.rules.specs.Parse.{trouble, behind, byte_at, code_at, parse, read_at}
use Rattle.rules.proofs.Again.{again_marked}
use Rattle.jsx.specs.Refusal.{too_deep}
use Rattle.jsx.specs.Byte.{is, need}
use Rattle.jsx.specs.Blank.{pass}
use Rattle.jsx.specs.Name.{opens_part}
use Rattle.jsx.specs.Depth.{element_too_deep}
use Rattle.lex.specs.Contract.{out_of, nothing, Leaf, Past}
use Rattle.lex.specs.Answer.{Ans}
use Rattle.lex.specs.Answer.{No}
use Rattle.lex.proofs.Laws as Lex

-- ---- an element with no level left

-- What is behind its first byte and the blanks.
abbrev deep_name : Rule
deep_name = when_char opens_part (refuse too_deep mark) need

abbrev deep_after : Rule
deep_after = when (is ">") (refuse too_deep mark) deep_name

module _ {s : List ℕ} {at a b : ℕ} (v : Past a s pass at 1) (y : b ≡ byte_at s a) where
  behind_pass : read_at s element_too_deep at
      ≡ behind (out_of (read_at s pass at)) (parse s (suc (length s)) deep_after at a)
  unfolding element_too_deep
  behind_pass = again_marked s (suc (length s)) pass 0 at v.is deep_after

  refused_at : parse s (suc (length s)) deep_after at a ≡ trouble too_deep at at 0 0
      → Leaf nothing (No 14 at at 0 0) s element_too_deep at 1
  refused_at h =
      Lex.leaf_stop nothing s element_too_deep at 1 refl (behind_pass ∙ ap (behind (out_of (read_at s pass at))) h)

  -- A fragment.
  pub deep_fragment : b ≡ code ">" → Leaf nothing (No 14 at at 0 0) s element_too_deep at 1
  unfolding parse
  deep_fragment h =
      refused_at (Lex.when_yes s (suc (length s)) at a (is ">") (refuse too_deep mark) deep_name (Lex.byte_is y h))

  module _ (h : b ≡ code ">" → ⊥) {f : Bool} (i : f ≡ opens_part (code_at s a)) where
    named : parse s (suc (length s)) deep_after at a ≡ parse s (suc (length s)) deep_name at a
    named = Lex.when_no s (suc (length s)) at a (is ">") (refuse too_deep mark) deep_name (Lex.byte_not y h)

    -- An element.
    pub deep_named : f ≡ true → Leaf nothing (No 14 at at 0 0) s element_too_deep at 1
    unfolding parse
    deep_named k = refused_at (named ∙ rw (sym i ∙ k))

    -- Neither.
    pub deep_neither : {r : Ans} → f ≡ false → Leaf nothing r s need a 0 → Leaf nothing r s element_too_deep at 1
    unfolding parse need
    deep_neither k l =
        let far = v.far in
        let e : parse s (suc (length s)) deep_name at a ≡ parse s (suc (length s)) need at a = rw (sym i ∙ k) in
        Lex.leaf_behind nothing element_too_deep at 1 (out_of (read_at s pass at)) (λ a o. refl) l
        (behind_pass ∙ ap (behind (out_of (read_at s pass at))) (named ∙ e)) (omega arith)

pub ruleset deep_steps = (results, deep_fragment, deep_named, deep_neither)

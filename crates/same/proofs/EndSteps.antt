-- The end of what was read before: what each need of `part_end` and `blanks_end` follows from.
use mathlib.Core.Path.{◌≡◌, refl, sym, ◌∙◌}
use mathlib.Core.Bool.{true}
use mathlib.Core.List.{List}
use Prim.Native.Nat.{ℕ}
use borrow.Author.Rules.{rules}
use Rattle.rules.specs.Parse.{code_at}
use Rattle.rules.proofs.Got.{trouble_got}
use Rattle.jsx.specs.Blank.{blanks}
use Rattle.jsx.specs.Name.{opens_part, part as name_part}
use Rattle.lex.specs.Contract.{nothing, Leaf, Past}
use Rattle.lex.specs.Answer.{Ans, Got, said}
use Rattle.lex.specs.declared.refusal.Refusal.{Refusal}
use Rattle.lex.proofs.Results.{refused_is}
use Rattle.std.specs.Prelude.{Result, Ok, Err}
use Rattle.std.specs.Result.{IsOk}
use Rattle.lex.proofs.Bare.{goes_blanks}
use Rattle.lex.proofs.Laws as Lex
use Rattle.word.proofs.Again.{part_opens}
use Rattle.same.specs.Contract.{ReadsAt}

-- The first character of a part that was read opens one.
pub part_opened : (s : List ℕ) (at : ℕ) → ReadsAt s name_part at → opens_part (code_at s at) ≡ true
part_opened s at v = part_opens s at v.to v.read

-- Blanks that were read can't be refused.
pub blanks_ok : {s : List ℕ} {at : ℕ} (r : Result ℕ Refusal) → ReadsAt s blanks at → Leaf nothing (said r) s blanks at 0
    → IsOk r
blanks_ok (Ok p) v l = refl
blanks_ok (Err e) v l = trouble_got (sym (Lex.leaf_no l (refused_is e)) ∙ v.read)

-- They end where they ended.
pub blanks_past : {s : List ℕ} {at p j y : ℕ} {r : Ans} → Leaf nothing r s blanks at 0 → r ≡ Got p j → y ≡ p
    → Past y s blanks at 0
blanks_past l e f = rw f (record { is = Lex.leaf_got goes_blanks l e; far = l.far _ _ e })

pub ruleset end_steps = (rules, blanks_past)

pub ruleset end_asked = (rules, part_opened)

-- The first two tests: what each need of their functions follows from.
use mathlib.Core.Path.{◌≡◌, sym, ap, subst, ◌∙◌}
use mathlib.Core.List.{List}
use Prim.Native.Nat.{ℕ, ◌≤◌, ◌<◌}
use lib.ListN.{length}
use Rattle.lex.proofs.Results.{results}
use Rattle.rules.specs.Parse.{Answer, trouble, and_then, read_at, parse_all}
use Rattle.jsx.specs.Utf8.{utf8}
use Rattle.jsx.specs.Reading.{standard}
use Rattle.jsx.specs.Compose.{IsGot, WellFormed}
use Rattle.jsx.proofs.Calls.{too_long_lem, not_too_long}
use Rattle.lex.specs.Contract.{nothing, Leaf}
use Rattle.lex.specs.Answer.{Ans, Got, No}
use Rattle.lex.proofs.Laws as Lex
use Rattle.stage.specs.Call.{Sound}

-- ---- the two tests

-- An input that is too long is refused by 1.
pub sound_long : (s : List ℕ) → 1_048_576 < length s → Sound (No 1 0 0 0 0) s
unfolding standard
sound_long s h = record {
  passed = λ p m e. Lex.none_got (λ p m. (length s ≤ 1_048_576) × WellFormed s) p m e;
  stopped = λ n a b c d e reading. too_long_lem standard reading s h ∙ same e;
}
  where
    same : {n a b c d : ℕ} → No 1 0 0 0 0 ≡ No n a b c d → trouble 1 0 0 0 0 ≡ trouble n a b c d
    same e = cc

-- Any other is tested for UTF-8.
pub sound_utf8 : (s : List ℕ) {r : Ans} → length s ≤ 1_048_576 → Leaf nothing r s utf8 0 0 → Sound r s
unfolding WellFormed parse_all
sound_utf8 s {r} h l = record {
  passed = λ p m e. (h, subst IsGot (sym (Lex.view_got nothing (read_at s utf8 0) l.is e).1) tt);
  stopped = λ n a b c d e reading. not_too_long reading s h
      ∙ ap (λ (x : Answer). and_then x (λ a o p. parse_all (reading 64) s)) (Lex.leaf_no l e);
}

pub ruleset sound_steps = (results, sound_long, sound_utf8)

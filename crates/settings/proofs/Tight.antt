-- The promise of `settings` allows one answer.
use mathlib.Core.Path.{◌≡◌, refl, sym, ap, ◌∙◌}
use Rattle.std.specs.Prelude.{Result, Ok, Err, eqb}
use Rattle.rules.specs.Parse.{pick}
use Rattle.jsx.specs.Settings.{Settled, set, unset, wrong_mark, cut_short, unknown_kind}
use Rattle.settings.specs.declared.Limits.{Limits}
use Rattle.settings.specs.declared.refusal.StoreRefusal.{StoreRefusal}
use Rattle.settings.specs.declared.refusal.StoreRefusal.TheVariants.{WrongMark, CutShort, UnknownKind, BadSetting}
use Rattle.settings.specs.Contract.{settled_of, OneAnswerOfSettings}

-- No two refusals have one number, so what the definition says names the answer.
answer : Settled → Result Limits StoreRefusal
answer (set l) = Ok (record { depth = l.depth; bytes = l.bytes })
answer (unset n a b) =
    Err (pick (eqb n wrong_mark) (WrongMark a)
    (pick (eqb n cut_short) (CutShort a)
    (pick (eqb n unknown_kind) (UnknownKind a)
    (BadSetting a))))

answer_of : (r : Result Limits StoreRefusal) → answer (settled_of r) ≡ r
unfolding answer
answer_of (Ok l) = refl
answer_of (Err (WrongMark at)) = refl
answer_of (Err (CutShort at)) = refl
answer_of (Err (UnknownKind kind)) = refl
answer_of (Err (BadSetting at)) = refl

pub one_answer_settings : OneAnswerOfSettings
one_answer_settings s r r' v w = sym (answer_of r) ∙ ap answer (v ∙ sym w) ∙ answer_of r'

-- Each promise allows one answer: specs/Tight.antt proved, statement by statement.
use mathlib.Core.Path.{◌≡◌, refl, sym, ap, ◌∙◌}
use Rattle.std.specs.Prelude.{Result, Ok, Err, eqb}
use mathlib.Core.List.{List, []}
use Prim.Native.Nat.{ℕ}
use Rattle.rules.specs.Rule.{Rule}
use Rattle.rules.specs.Parse.{Answer, got, trouble, pick}
use Rattle.jsx.specs.Reading.{stage, run}
use Rattle.jsx.specs.Table.{Outcome, accepted, refused}
use Rattle.lex.specs.Answer.{number, refused as refusal_of}
use Rattle.lex.specs.declared.refusal.Reason.{Reason}
use Rattle.lex.specs.declared.refusal.Reason.TheVariants as R
use Rattle.lex.specs.declared.refusal.Refusal.{Refusal}
use Rattle.stage.specs.Reply.{Reply, Accepted, Refused}
use Rattle.stage.specs.Call.{outcome, replied, Numbered}
use Rattle.stage.specs.Tight.{OneAnswerOfCheck, OneAnswerOfRead, OneResultOfReply, OneAnswerOfBytes}
use Rattle.stage.proofs.CallSteps.{refused_same, not_both}

-- Two replies, with tables behind them, that say the same are the same.
pub one_outcome : (r r' : Reply) (t t' : List ℕ) → Numbered r → Numbered r' → outcome r t ≡ outcome r' t'
    → (r ≡ r') × (t ≡ t')
unfolding accepted refused
one_outcome (Accepted m) (Accepted m') t t' n n' e =
    (ap (λ (x : Outcome). Accepted x.count) e, ap (λ (x : Outcome). x.table) e)
one_outcome (Accepted m) (Refused x a b c d) t t' n n' e = absurd (not_both x a b c d m t' t n' (sym e))
one_outcome (Refused x a b c d) (Accepted m) t t' n n' e = absurd (not_both x a b c d m t t' n e)
one_outcome (Refused x a b c d) (Refused x' a' b' c' d') t t' n n' e =
    (ap of (refused_same x a b c d x' a' b' c' d' t t' e), ap (λ (y : Outcome). y.table) e)
  where
    of : Answer → Reply
    of (got a o p) = Accepted 0
    of (trouble x a b c d) = Refused x a b c d

one_check : {reading : ℕ → Rule} → OneAnswerOfCheck reading
one_check s r r' v w = (one_outcome r r' [] [] v.numbered w.numbered (v.is ∙ sym w.is)).0

one_read : {reading : ℕ → Rule} → OneAnswerOfRead reading
one_read s t r r' t₁ t₂ v w = one_outcome r r' t₁ t₂ v.numbered w.numbered (v.is ∙ sym w.is)

-- `check_stage` has one answer,
pub one_answer_check_stage : OneAnswerOfCheck stage
one_answer_check_stage = one_check

-- and so has `check_run`;
pub one_answer_check_run : OneAnswerOfCheck run
one_answer_check_run = one_check

-- `read_stage`, with the table after it,
pub one_answer_read_stage : OneAnswerOfRead stage
one_answer_read_stage = one_read

-- and `read_run`;
pub one_answer_read_run : OneAnswerOfRead run
one_answer_read_run = one_read

-- and `span_bytes` and `record_bytes`.
pub one_answer_bytes : OneAnswerOfBytes
one_answer_bytes s p r r' found found' v w =
    (v.tells ∙ sym w.tells, v.bytes ∙ sym w.bytes, v.place ∙ sym w.place)

-- ---- results

-- No two refusals have one number, so a reply names the result.
reason_of : ℕ → Reason
reason_of n =
    pick (eqb n (number R.TooLong)) R.TooLong
    (pick (eqb n (number R.NotUtf8)) R.NotUtf8
    (pick (eqb n (number R.Unexpected)) R.Unexpected
    (pick (eqb n (number R.EndOfInput)) R.EndOfInput
    (pick (eqb n (number R.QuotedNeverClosed)) R.QuotedNeverClosed
    (pick (eqb n (number R.StrayInText)) R.StrayInText
    (pick (eqb n (number R.NamesDiffer)) R.NamesDiffer
    (pick (eqb n (number R.FragmentClosedByName)) R.FragmentClosedByName
    (pick (eqb n (number R.ElementClosedByFragment)) R.ElementClosedByFragment
    (pick (eqb n (number R.DashAfterDot)) R.DashAfterDot
    (pick (eqb n (number R.EmptyValue)) R.EmptyValue
    (pick (eqb n (number R.Adjacent)) R.Adjacent
    (pick (eqb n (number R.AfterStage)) R.AfterStage
    (pick (eqb n (number R.TooDeep)) R.TooDeep
    (pick (eqb n (number R.TableTooSmall)) R.TableTooSmall
    (pick (eqb n (number R.CommaInBraces)) R.CommaInBraces
    (pick (eqb n (number R.CommentNeverClosed)) R.CommentNeverClosed
    R.StringNeverClosed))))))))))))))))

reason_is : (x : Reason) → reason_of (number x) ≡ x
unfolding reason_of
reason_is R.TooLong = refl
reason_is R.NotUtf8 = refl
reason_is R.Unexpected = refl
reason_is R.EndOfInput = refl
reason_is R.QuotedNeverClosed = refl
reason_is R.StrayInText = refl
reason_is R.NamesDiffer = refl
reason_is R.FragmentClosedByName = refl
reason_is R.ElementClosedByFragment = refl
reason_is R.DashAfterDot = refl
reason_is R.EmptyValue = refl
reason_is R.Adjacent = refl
reason_is R.AfterStage = refl
reason_is R.TooDeep = refl
reason_is R.TableTooSmall = refl
reason_is R.CommaInBraces = refl
reason_is R.CommentNeverClosed = refl
reason_is R.StringNeverClosed = refl

result_of : Reply → Result ℕ Refusal
result_of (Accepted m) = Ok m
result_of (Refused n a b c d) =
    Err (record {
      reason = reason_of n;
      first = record { start = a; end = b };
      second = record { start = c; end = d };
    })

result_is : (r : Result ℕ Refusal) → result_of (replied r) ≡ r
unfolding result_of refusal_of
result_is (Ok m) = refl
result_is (Err e) =
    ap (λ (x : Reason). Err (record { reason = x; first = e.first; second = e.second })) (reason_is e.reason)

-- A result is known by what it says.
pub one_result_of_reply : OneResultOfReply
one_result_of_reply r r' e = sym (result_is r) ∙ ap result_of e ∙ result_is r'

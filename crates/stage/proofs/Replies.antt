-- What a call's result says, by what it is.
use Rattle.std.proofs.Common.{◌≡◌, ℕ, refl, ap, ◌∙◌, Result, Ok, Err}
use Rattle.lex.specs.Answer.{number}
use Rattle.lex.proofs.Results.{refused_is}
use Rattle.lex.specs.declared.refusal.Refusal.{Refusal}
use Rattle.stage.specs.Reply.{Accepted, Refused}
use Rattle.stage.specs.Call.{reply_of, replied}

module _ {r : Result ℕ Refusal} where
  pub replied_ok : {m : ℕ} → r ≡ Ok m → replied r ≡ Accepted m
  replied_ok h = rw h refl

  pub replied_err : {e : Refusal} → r ≡ Err e
      → replied r ≡ Refused (number e.reason) e.first.start e.first.end e.second.start e.second.end
  replied_err {e} h = ap replied h ∙ ap reply_of (refused_is e)

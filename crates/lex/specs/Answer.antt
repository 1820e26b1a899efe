-- A reader's answer as the definition says it, and how the code's `Result`s say one.
use Rattle.std.specs.Prelude.{ℕ, Bool, true, false, Option, Some, None, Result, Ok, Err}
use Rattle.jsx.specs.Refusal as Refusal
use Rattle.lex.specs.declared.refusal.Reason.{Reason}
use Rattle.lex.specs.declared.refusal.Reason.TheVariants as R
use Rattle.lex.specs.declared.refusal.Refusal.{Refusal as Refused}
use Rattle.lex.specs.declared.numbered.RefusedAs.{RefusedAs}

-- The next place and a number that stands for what was read; or a refusal's number and two places, start and end.
pub data Ans : Type 0 where
  Got : ℕ → ℕ → Ans
  No : ℕ → ℕ → ℕ → ℕ → ℕ → Ans

-- The numbers of the documents.
abbrev pub number : Reason → ℕ
number R.TooLong = Refusal.too_long
number R.NotUtf8 = Refusal.not_utf8
number R.Unexpected = Refusal.unexpected
number R.EndOfInput = Refusal.end_of_input
number R.QuotedNeverClosed = Refusal.quoted_never_closed
number R.StrayInText = Refusal.stray_in_text
number R.NamesDiffer = Refusal.names_differ
number R.FragmentClosedByName = Refusal.fragment_closed_by_name
number R.ElementClosedByFragment = Refusal.element_closed_by_fragment
number R.DashAfterDot = Refusal.dash_after_dot
number R.EmptyValue = Refusal.empty_value
number R.Adjacent = Refusal.adjacent
number R.AfterStage = Refusal.after_stage
number R.TooDeep = Refusal.too_deep
number R.TableTooSmall = Refusal.table_too_small
number R.CommaInBraces = Refusal.comma_in_braces
number R.CommentNeverClosed = Refusal.comment_never_closed
number R.StringNeverClosed = Refusal.string_never_closed

-- A refusal's number and places.
unfoldable pub refused : Refused → Ans
refused e = No (number e.reason) e.first.start e.first.end e.second.start e.second.end

-- A code's result, where f is how it says what it has read.
abbrev pub answered : {A : Type 0} → (A → Ans) → Result A Refused → Ans
answered f (Ok x) = f x
answered f (Err e) = refused e

-- What a leaf says that gives only the next place.
abbrev pub ends : ℕ → Ans
ends p = Got p 0

abbrev pub said : Result ℕ Refused → Ans
said r = answered ends r

-- What one says that also tells whether something goes on.
abbrev pub flag : Bool → ℕ
flag true = 1
flag false = 0

abbrev pub goes : ℕ × Bool → Ans
goes (p, g) = Got p (flag g)

abbrev pub told : Result (ℕ × Bool) Refused → Ans
told r = answered goes r

-- What one says that reads something or stays where it is, at `at`.
abbrev pub offers : ℕ → Option ℕ → Ans
offers at (Some p) = Got p 1
offers at None = Got at 0

abbrev pub offered : ℕ → Result (Option ℕ) Refused → Ans
offered at r = answered (offers at) r

-- What a reader says that counts the records that it has made.
abbrev pub counts : ℕ × ℕ → Ans
counts (p, m) = Got p m

abbrev pub counted_in : Result (ℕ × ℕ) Refused → Ans
counted_in r = answered counts r

-- ---- a refusal that may have any number, where f is the number that an N says

unfoldable pub refused_as : {N : Type 0} → (N → ℕ) → RefusedAs N → Ans
refused_as f e = No (f e.number) e.first.start e.first.end e.second.start e.second.end

abbrev pub answered_as : {N A : Type 0} → (N → ℕ) → (A → Ans) → Result A (RefusedAs N) → Ans
answered_as f g (Ok x) = g x
answered_as f g (Err e) = refused_as f e

abbrev pub said_as : {N : Type 0} → (N → ℕ) → Result ℕ (RefusedAs N) → Ans
said_as f r = answered_as f ends r

abbrev pub counted_in_as : {N : Type 0} → (N → ℕ) → Result (ℕ × ℕ) (RefusedAs N) → Ans
counted_in_as f r = answered_as f counts r

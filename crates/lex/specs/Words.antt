-- Refusals and kinds in words, for people.
use Rattle.std.specs.Prelude.{ℕ, List, ◌++◌, nat_lt, if◌then◌else◌}
use Rattle.std.specs.Fmt.{decimal}
use Rattle.jsx.specs.Byte.{bytes_of}
use Rattle.lex.specs.declared.refusal.Reason.{Reason}
use Rattle.lex.specs.declared.refusal.Reason.TheVariants as R
use Rattle.lex.specs.declared.refusal.Refusal.{Refusal}
use Rattle.lex.specs.declared.kind.Kind.{Kind}
use Rattle.lex.specs.declared.kind.Kind.TheVariants as K
use Rattle.lex.specs.Answer.{number}

-- What a refusal means; behind the words of `TableTooSmall` stands how many records are needed.
abbrev pub reason_words : Reason → List ℕ
reason_words R.TooLong = bytes_of "the input is longer than 1,048,576 bytes"
reason_words R.NotUtf8 = bytes_of "these bytes are no UTF-8"
reason_words R.Unexpected = bytes_of "this cannot stand here"
reason_words R.EndOfInput = bytes_of "the input ends here, and something is still needed"
reason_words R.QuotedNeverClosed =
    bytes_of "this quoted attribute string is never closed: its quote does not come again"
reason_words R.StrayInText = bytes_of "a text cannot hold this byte: write it as a string in braces"
reason_words R.NamesDiffer = bytes_of "this closing name differs from the opening name"
reason_words R.FragmentClosedByName = bytes_of "a fragment is closed by a name"
reason_words R.ElementClosedByFragment = bytes_of "an element is closed by </>"
reason_words R.DashAfterDot = bytes_of "a part of a name after a dot has a dash"
reason_words R.EmptyValue = bytes_of "the braces of an attribute hold no expression"
reason_words R.Adjacent = bytes_of "a second element stands beside one: wrap them in <> and </>"
reason_words R.AfterStage = bytes_of "something stands behind the stage"
reason_words R.TooDeep = bytes_of "this is more than 64 levels deep"
reason_words R.TableTooSmall = bytes_of "the table has room for fewer records than are needed, which is "
reason_words R.CommaInBraces = bytes_of "a comma stands behind the expression in braces"
reason_words R.CommentNeverClosed = bytes_of "this comment is never closed: no */ follows"
reason_words R.StringNeverClosed = bytes_of "this string in braces is never closed: its quote does not come again"

-- What a record of a kind is called.
abbrev pub kind_words : Kind → List ℕ
kind_words K.Element = bytes_of "element"
kind_words K.Fragment = bytes_of "fragment"
kind_words K.Identifier = bytes_of "identifier"
kind_words K.Reference = bytes_of "reference"
kind_words K.This = bytes_of "this"
kind_words K.Namespaced = bytes_of "namespaced name"
kind_words K.Member = bytes_of "member name"
kind_words K.Attribute = bytes_of "attribute"
kind_words K.SpreadAttribute = bytes_of "spread attribute"
kind_words K.Quoted = bytes_of "quoted string"
kind_words K.Container = bytes_of "container"
kind_words K.EmptyExpression = bytes_of "empty expression"
kind_words K.SpreadChild = bytes_of "spread child"
kind_words K.Text = bytes_of "text"
kind_words K.Expression = bytes_of "expression"
kind_words K.OtherPart = bytes_of "part"
kind_words K.ClosingTag = bytes_of "closing tag"
kind_words K.OpeningTag = bytes_of "opening tag"

-- What is wrong: the only `Unexpected` that is longer than one place is a string in braces that its line ends.
abbrev pub meaning : Reason → (start end : ℕ) → List ℕ
meaning R.Unexpected a z =
    if nat_lt a z
    then bytes_of "the line ends inside this string in braces: close it on its own line"
    else reason_words R.Unexpected
meaning R.TableTooSmall a z = reason_words R.TableTooSmall ++ decimal a
meaning r a z = reason_words r

-- A refusal in words, with its number.
abbrev pub refusal_words : Refusal → List ℕ
refusal_words e =
    meaning e.reason e.first.start e.first.end ++ bytes_of " (refusal " ++ decimal (number e.reason) ++ bytes_of ")"

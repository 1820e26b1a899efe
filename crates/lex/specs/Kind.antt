-- The numbers of the kinds.
use Rattle.std.specs.Prelude.{ℕ, ◌≡◌, Result, MatchResult}
use Rattle.jsx.specs.Kind as Kind
use Rattle.lex.specs.declared.kind.Kind.{Kind as Name}
use Rattle.lex.specs.declared.kind.Kind.TheVariants as K
use Rattle.lex.specs.declared.kind.UnknownKind.{UnknownKind}

-- D: "Kinds: 1 element (extra 1 paired, 0 self-closed), 2 fragment, 3 identifier, ..".
abbrev pub kind_number : Name → ℕ
kind_number K.Element = Kind.element
kind_number K.Fragment = Kind.fragment
kind_number K.Identifier = Kind.identifier
kind_number K.Reference = Kind.reference
kind_number K.This = Kind.this
kind_number K.Namespaced = Kind.namespaced
kind_number K.Member = Kind.member
kind_number K.Attribute = Kind.attribute
kind_number K.SpreadAttribute = Kind.spread_attribute
kind_number K.Quoted = Kind.quoted
kind_number K.Container = Kind.container
kind_number K.EmptyExpression = Kind.empty_expression
kind_number K.SpreadChild = Kind.spread_child
kind_number K.Text = Kind.text
kind_number K.Expression = Kind.expression
kind_number K.OtherPart = Kind.other_part
kind_number K.ClosingTag = Kind.closing_tag
kind_number K.OpeningTag = Kind.opening_tag

-- The kind of a number, or the number itself where no kind has it.
abbrev pub IsKindOf : ℕ → Result Name UnknownKind → Type 0
IsKindOf n r = MatchResult r (λ k. kind_number k ≡ n) (λ e. (e.0 ≡ n) × ((k : Name) → kind_number k ≡ n → ⊥))

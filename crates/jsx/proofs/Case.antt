-- How the definition is held against inputs whose answers document 01 gives: each case is computed.
use Prim.Native.Nat.{ℕ, zero, suc, ◌*◌}
use Prim.Native.String as S
use mathlib.Core.Bool.{Bool}
use mathlib.Core.List.{List, [], ◌∷◌}
use lib.ListN.{replicate}
use Rattle.rules.specs.Rule.{Rule}
use Rattle.rules.specs.Parse.{Answer, pick}
use Rattle.rules.specs.Record.{row_words}
use Rattle.jsx.specs.Byte.{bytes_of}
use Rattle.jsx.specs.Name.{same}
use Rattle.jsx.specs.Reading.{Limits, standard, answer}
use Rattle.jsx.specs.Table.{Outcome, checked, read_into}

-- What an input is answered: a refusal with its two places; acceptance with so many records; or with just these rows.
pub data Wanted : Type 0 where
  refused_by : (number start end start₂ end₂ : ℕ) → Wanted
  counted : ℕ → Wanted
  rows : List ℕ → Wanted

-- D: "A single offset p means p, p. An unused place is 0, 0."
abbrev pub at : (number place : ℕ) → Wanted
at n p = refused_by n p p 0 0

-- A refusal at one place, with its start and its end.
abbrev pub span : (number start end : ℕ) → Wanted
span n a z = refused_by n a z 0 0

-- Limits, a reading, an input and its answer; the input as a text, or as bytes.
pub data Case : Type 0 where
  limited : Limits → (ℕ → Rule) → S.String → Wanted → Case
  on : (ℕ → Rule) → S.String → Wanted → Case
  on_bytes : (ℕ → Rule) → List ℕ → Wanted → Case

infixr 50 ◌&◌
-- One text behind the other.
unfoldable pub ◌&◌ : S.String → S.String → S.String
S.[] & v = v
(S.◌∷◌ c u) & v = S.◌∷◌ c (u & v)

-- n copies of a text, one behind the other.
unfoldable pub copies : ℕ → S.String → S.String
copies zero w = S.[]
copies (suc n) w = w & copies n w

-- All that an outcome says.
unfoldable pub outcome_words : Outcome → List ℕ
outcome_words r = r.number ∷ r.start ∷ r.end ∷ r.start₂ ∷ r.end₂ ∷ r.count ∷ r.table

-- Whether an answer says all that is wanted of it, and nothing else.
unfoldable pub agrees : Answer → Wanted → Bool
agrees a (refused_by n s e s₂ e₂) = same (outcome_words (read_into [] a)) (n ∷ s ∷ e ∷ s₂ ∷ e₂ ∷ 0 ∷ [])
agrees a (counted m) = same (outcome_words (checked a)) (0 ∷ 0 ∷ 0 ∷ 0 ∷ 0 ∷ m ∷ [])
agrees a (rows ws) =
    let m = (checked a).count in
    same (outcome_words (read_into (replicate (row_words * m) 0) a)) (0 ∷ 0 ∷ 0 ∷ 0 ∷ 0 ∷ m ∷ ws)

-- Whether a case's input is answered as wanted.
unfoldable pub as_wanted : Case → Bool
as_wanted (limited l reading w x) = agrees (answer l reading (bytes_of w)) x
as_wanted (on reading w x) = agrees (answer standard reading (bytes_of w)) x
as_wanted (on_bytes reading s x) = agrees (answer standard reading s) x

-- The cases that are answered otherwise.
unfoldable pub failing : List Case → List Case
failing [] = []
failing (c ∷ cs) = pick (as_wanted c) (failing cs) (c ∷ failing cs)

-- To unfold this is to unfold every definition of the language.
unfoldable pub whole_language : ℕ
unfolding Rattle.rules.specs.Forest.◌⋈◌ Rattle.rules.specs.Forest.width Rattle.rules.specs.Forest.direct
    Rattle.rules.specs.Forest.inside Rattle.rules.specs.Parse.opens Rattle.rules.specs.Parse.code_on
    Rattle.rules.specs.Parse.code_at Rattle.rules.specs.Parse.repeat
    Rattle.rules.specs.Parse.parse Rattle.rules.specs.Parse.parse_all Rattle.rules.specs.Record.count
    Rattle.rules.specs.Record.records Rattle.jsx.specs.Byte.one_of
    Rattle.jsx.specs.Byte.letter Rattle.jsx.specs.Byte.digit
    Rattle.jsx.specs.Byte.quote Rattle.jsx.specs.Byte.line_end Rattle.jsx.specs.Byte.need
    Rattle.jsx.specs.Byte.expect Rattle.jsx.specs.Utf8.second Rattle.jsx.specs.Utf8.other
    Rattle.jsx.specs.Utf8.sequence Rattle.jsx.specs.Utf8.utf8 Rattle.jsx.specs.Blank.space_separator
    Rattle.jsx.specs.Blank.white_space Rattle.jsx.specs.Blank.line_terminator
    Rattle.jsx.specs.Blank.blank_char
    Rattle.jsx.specs.Blank.comment_turn Rattle.jsx.specs.Blank.comment Rattle.jsx.specs.Blank.line_turn
    Rattle.jsx.specs.Blank.line_comment Rattle.jsx.specs.Blank.blank Rattle.jsx.specs.Blank.blanks
    Rattle.jsx.specs.Blank.pass Rattle.jsx.specs.Ranges.start_ranges
    Rattle.jsx.specs.Ranges.continue_ranges Rattle.jsx.specs.Unicode.in_ranges
    Rattle.jsx.specs.Unicode.id_start Rattle.jsx.specs.Unicode.id_continue
    Rattle.jsx.specs.Name.opens_name Rattle.jsx.specs.Name.in_word Rattle.jsx.specs.Name.opens_part
    Rattle.jsx.specs.Name.in_part Rattle.jsx.specs.Name.part Rattle.jsx.specs.Name.has
    Rattle.jsx.specs.Name.same Rattle.jsx.specs.Name.first_is Rattle.jsx.specs.Name.dashed
    Rattle.jsx.specs.Name.is_this Rattle.jsx.specs.Name.opens_reference Rattle.jsx.specs.Name.one_name
    Rattle.jsx.specs.Name.one_part Rattle.jsx.specs.Name.other_part Rattle.jsx.specs.Name.namespaced
    Rattle.jsx.specs.Name.dotted_part Rattle.jsx.specs.Name.object_name Rattle.jsx.specs.Name.object
    Rattle.jsx.specs.Name.dotted Rattle.jsx.specs.Name.member Rattle.jsx.specs.Name.element_name
    Rattle.jsx.specs.Name.attribute_name Rattle.jsx.specs.Text.in_text Rattle.jsx.specs.Text.text
    Rattle.jsx.specs.Text.quoted_turn Rattle.jsx.specs.Text.quoted_by Rattle.jsx.specs.Text.quoted
    Rattle.jsx.specs.Word.word Rattle.jsx.specs.Word.on_first Rattle.jsx.specs.Word.cut
    Rattle.jsx.specs.Word.words Rattle.jsx.specs.Word.among Rattle.jsx.specs.Word.reserved
    Rattle.jsx.specs.Word.spared Rattle.jsx.specs.Word.strict Rattle.jsx.specs.Word.refused_word
    Rattle.jsx.specs.Word.primary_word Rattle.jsx.specs.Word.digits Rattle.jsx.specs.Word.whole
    Rattle.jsx.specs.Word.fraction Rattle.jsx.specs.Word.number Rattle.jsx.specs.Word.string_turn
    Rattle.jsx.specs.Word.string_by Rattle.jsx.specs.Word.string Rattle.jsx.specs.Expression.sibling
    Rattle.jsx.specs.Expression.no_sibling Rattle.jsx.specs.Expression.primary
    Rattle.jsx.specs.Expression.postfix_turn Rattle.jsx.specs.Expression.postfix
    Rattle.jsx.specs.Expression.unary Rattle.jsx.specs.Expression.joined_turn
    Rattle.jsx.specs.Expression.joined Rattle.jsx.specs.Expression.times
    Rattle.jsx.specs.Expression.plus_minus Rattle.jsx.specs.Expression.and_and
    Rattle.jsx.specs.Expression.or_or Rattle.jsx.specs.Expression.product
    Rattle.jsx.specs.Expression.sum Rattle.jsx.specs.Expression.both
    Rattle.jsx.specs.Expression.either Rattle.jsx.specs.Expression.question
    Rattle.jsx.specs.Expression.conditional Rattle.jsx.specs.Expression.expression
    Rattle.jsx.specs.Expression.paren_in Rattle.jsx.specs.Expression.bracket_in
    Rattle.jsx.specs.Expression.argument_turn Rattle.jsx.specs.Expression.call_in
    Rattle.jsx.specs.Expression.prefix_in Rattle.jsx.specs.Expression.choice_in
    Rattle.jsx.specs.Braces.close_container Rattle.jsx.specs.Braces.container
    Rattle.jsx.specs.Braces.empty_braces Rattle.jsx.specs.Braces.dots Rattle.jsx.specs.Braces.spread
    Rattle.jsx.specs.Braces.child_braces_in Rattle.jsx.specs.Braces.empty_value_braces
    Rattle.jsx.specs.Braces.value_braces_in Rattle.jsx.specs.Tag.value Rattle.jsx.specs.Tag.initializer
    Rattle.jsx.specs.Tag.named_attribute Rattle.jsx.specs.Tag.attribute
    Rattle.jsx.specs.Tag.attribute_turn Rattle.jsx.specs.Tag.attributes Rattle.jsx.specs.Tag.tag_end
    Rattle.jsx.specs.Tag.open_tag Rattle.jsx.specs.Tag.open_fragment Rattle.jsx.specs.Tag.close_name
    Rattle.jsx.specs.Tag.close_tag Rattle.jsx.specs.Closing.further_on Rattle.jsx.specs.Closing.name_in
    Rattle.jsx.specs.Closing.nodes_of Rattle.jsx.specs.Closing.several_parts
    Rattle.jsx.specs.Closing.parts_of Rattle.jsx.specs.Closing.all_same
    Rattle.jsx.specs.Closing.same_name Rattle.jsx.specs.Closing.compared
    Rattle.jsx.specs.Closing.verdict Rattle.jsx.specs.Element.child Rattle.jsx.specs.Element.children
    Rattle.jsx.specs.Element.paired_or_not Rattle.jsx.specs.Element.fragment_in
    Rattle.jsx.specs.Element.named_in Rattle.jsx.specs.Element.element_in
    Rattle.jsx.specs.Depth.element_too_deep Rattle.jsx.specs.Depth.no_level Rattle.jsx.specs.Depth.level
    Rattle.jsx.specs.Depth.within Rattle.jsx.specs.Reading.stage Rattle.jsx.specs.Reading.run
    Rattle.jsx.specs.Reading.standard Rattle.jsx.specs.Reading.answer Rattle.jsx.specs.Table.refused
    Rattle.jsx.specs.Table.accepted Rattle.jsx.specs.Table.holds Rattle.jsx.specs.Table.written
    Rattle.jsx.specs.Table.checked Rattle.jsx.specs.Table.read_into Rattle.jsx.specs.Table.check
    Rattle.jsx.specs.Table.read Rattle.jsx.specs.Table.no_part Rattle.jsx.specs.Table.span_part
    Rattle.jsx.specs.Table.table_word Rattle.jsx.specs.Table.record_part Rattle.jsx.specs.Table.bytes_in
    Rattle.jsx.specs.Settings.held Rattle.jsx.specs.Settings.marks_other
    Rattle.jsx.specs.Settings.is_cut Rattle.jsx.specs.Settings.good_depth
    Rattle.jsx.specs.Settings.depth_set Rattle.jsx.specs.Settings.good_length
    Rattle.jsx.specs.Settings.length_set Rattle.jsx.specs.Settings.judged
    Rattle.jsx.specs.Settings.settled_from Rattle.jsx.specs.Settings.settings
    Rattle.jsx.specs.Settings.capped
    Rattle.jsx.specs.Program.decimal_up_to Rattle.jsx.specs.Program.decimal
    Rattle.jsx.specs.Program.field Rattle.jsx.specs.Program.parent_field
    Rattle.jsx.specs.Program.row_line Rattle.jsx.specs.Program.row_lines
    Rattle.jsx.specs.Program.printed Rattle.jsx.specs.Program.program_limits
    Rattle.jsx.specs.Program.program_table Rattle.jsx.specs.Program.output
whole_language = 0

-- The cases whose answer is another one.
unfoldable pub wrong : List Case → List Case
unfolding ◌&◌ copies outcome_words agrees as_wanted failing whole_language
wrong cs = failing cs

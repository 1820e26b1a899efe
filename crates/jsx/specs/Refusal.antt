-- The refusal numbers. Chapter 'Refusal numbers'; each name's comment is document 01's 'given when', or document 02's.
use Rattle.std.specs.Prelude.{ℕ}
use Rattle.rules.specs.Parse as rules

-- D: "too long"
abbrev pub too_long : ℕ
too_long = 1

-- D: "not UTF-8"
abbrev pub not_utf8 : ℕ
not_utf8 = 2

-- D: "no allowed token begins here, or a bad word, number or string"
abbrev pub unexpected : ℕ
unexpected = 3

-- D: "input ends where something is still needed". A rule's `step` gives it too, so its number stands in crate rules.
abbrev pub end_of_input : ℕ
end_of_input = rules.end_of_input

-- D2: "Split 5: it stays for a quoted attribute string", of D: "quoted string or `/*` never closed"
abbrev pub quoted_never_closed : ℕ
quoted_never_closed = 5

-- D: "`>` or `}` in child text"
abbrev pub stray_in_text : ℕ
stray_in_text = 6

-- D: "closing name differs"
abbrev pub names_differ : ℕ
names_differ = 7

-- D: "fragment closed by a name"
abbrev pub fragment_closed_by_name : ℕ
fragment_closed_by_name = 8

-- D: "element closed by `</>`"
abbrev pub element_closed_by_fragment : ℕ
element_closed_by_fragment = 9

-- D: "dash after a dot in a name"
abbrev pub dash_after_dot : ℕ
dash_after_dot = 10

-- D: "attribute `={}` with nothing or blanks inside"
abbrev pub empty_value : ℕ
empty_value = 11

-- D: "after an element or fragment that isn't a child (blanks between or not), `<` not followed by `<` or `=`"
abbrev pub adjacent : ℕ
adjacent = 12

-- D: "anything else after a stage"
abbrev pub after_stage : ℕ
after_stage = 13

-- D: "depth"
abbrev pub too_deep : ℕ
too_deep = 14

-- D: "accepted, but more records than the table holds"
abbrev pub table_too_small : ℕ
table_too_small = 15

-- D: "comma after the expression of `{expression}`"
abbrev pub comma_in_braces : ℕ
comma_in_braces = 16

-- D2: "17 is an open comment"
abbrev pub comment_never_closed : ℕ
comment_never_closed = 17

-- D2: "18 an open string inside braces"
abbrev pub string_never_closed : ℕ
string_never_closed = 18

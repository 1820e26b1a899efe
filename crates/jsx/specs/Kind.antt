-- The kinds of records. Chapter 'The table', D: "Kinds: 1 element (extra 1 paired, 0 self-closed), 2 fragment, 3
-- identifier, ..".
use Rattle.std.specs.Prelude.{ℕ}

abbrev pub element : ℕ
element = 1

abbrev pub fragment : ℕ
fragment = 2

abbrev pub identifier : ℕ
identifier = 3

abbrev pub reference : ℕ
reference = 4

abbrev pub this : ℕ
this = 5

abbrev pub namespaced : ℕ
namespaced = 6

abbrev pub member : ℕ
member = 7

abbrev pub attribute : ℕ
attribute = 8

abbrev pub spread_attribute : ℕ
spread_attribute = 9

abbrev pub quoted : ℕ
quoted = 10

abbrev pub container : ℕ
container = 11

abbrev pub empty_expression : ℕ
empty_expression = 12

abbrev pub spread_child : ℕ
spread_child = 13

abbrev pub text : ℕ
text = 14

abbrev pub expression : ℕ
expression = 15

abbrev pub other_part : ℕ
other_part = 16

abbrev pub closing_tag : ℕ
closing_tag = 17

abbrev pub opening_tag : ℕ
opening_tag = 18

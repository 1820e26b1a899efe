-- Every refusal has a number of documents 01 and 02: one of 1 to 18.
use mathlib.Core.Path.{◌≡◌, refl, subst}
use mathlib.Core.Bool.{Bool, true, false}
use mathlib.Core.List.{List}
use Prim.Native.Nat.{ℕ, zero, suc, ◌≤◌}
use Prim.Native.Char.{Char}
use native.Mathlib.Omega.{arith}
use lib.ListN.{length}
use lib.Dec.{leb, ltb}
use borrow.Author.Tests.{leb-true, eqb-false}
use Rattle.rules.specs.Forest.{Forest, width, inside}
use Rattle.rules.specs.Rule.{Test, Verdict, Rule}
use Rattle.rules.specs.Parse.{Answer, got, trouble, pick, parse_all}
use Rattle.rules.specs.Record.{count}
use Rattle.rules.proofs.Stuck.{NotStuck, refuses_if, refuses_then}
use Rattle.rules.proofs.Numbers.{JudgedBy, NumberedBy, numbered, computed, Allowed, allowed_all}
use Rattle.jsx.specs.Refusal.{unexpected, after_stage, table_too_small}
use Rattle.jsx.specs.Kind as Kind
use Rattle.jsx.specs.Byte.{need, expect}
use Rattle.jsx.specs.Utf8.{second, other, sequence, utf8}
use Rattle.jsx.specs.Blank.{comment_turn, comment, line_turn, line_comment, blank, blanks, pass}
use Rattle.jsx.specs.Name.{part, one_part, other_part, namespaced, dotted_part, object, dotted, member}
use Rattle.jsx.specs.Name.{element_name, attribute_name}
use Rattle.jsx.specs.Text.{text, quoted_turn, quoted_by, quoted}
use Rattle.jsx.specs.Word.{word, primary_word, digits, whole, fraction, number, string_turn, string_by, string}
use Rattle.jsx.specs.Expression.{Inner, sibling, no_sibling, primary, postfix_turn, postfix, unary, joined_turn}
use Rattle.jsx.specs.Expression.{joined, times, plus_minus, and_and, or_or, product, sum, both, either, question}
use Rattle.jsx.specs.Expression.{conditional, expression, paren_in, bracket_in, argument_turn, call_in, prefix_in}
use Rattle.jsx.specs.Expression.{choice_in}
use Rattle.jsx.specs.Braces.{close_container, container, empty_braces, dots, spread, child_braces_in}
use Rattle.jsx.specs.Braces.{empty_value_braces, value_braces_in}
use Rattle.jsx.specs.Tag.{value, initializer, named_attribute, attribute, attribute_turn, attributes, tag_end}
use Rattle.jsx.specs.Tag.{open_tag, open_fragment, close_name, close_tag}
use Rattle.jsx.specs.Closing.{TagName, no_name, named, same_name, compared, verdict, name_in}
use Rattle.jsx.specs.Element.{child, children, fragment_in, named_in, element_in}
use Rattle.jsx.specs.Depth.{element_too_deep, no_level, level, within}
use Rattle.jsx.specs.Reading.{Limits, stage, run, answer}
use Rattle.jsx.specs.Table.{holds, accepted, refused, written, checked, read_into, check, read}
use Rattle.jsx.proofs.Accepted.{Proper, run_proper, stage_proper, never_zero}

-- ---- the numbers that stand in the rules

abbrev ok : ℕ → Bool
ok n = leb n 18

abbrev Fine : Rule → Type 0
Fine = NumberedBy ok

infixr 30 ◌&◌
-- Of two rules, each in turn.
abbrev ◌&◌ : {A B : Type 0} → A → B → A × B
a & b = (a, b)

need_fine : Fine need
unfolding need NumberedBy
need_fine = (refl, refl)

blanks_fine : Fine blanks
unfolding numbered blanks blank comment comment_turn line_comment line_turn
blanks_fine = computed ok blanks refl

pass_fine : Fine pass
unfolding NumberedBy pass
pass_fine = (tt, blanks_fine)

element_name_fine : Fine element_name
unfolding numbered element_name namespaced member one_part other_part object dotted dotted_part part blanks blank
    comment
    comment_turn line_comment line_turn expect need
element_name_fine = computed ok element_name refl

attribute_name_fine : Fine attribute_name
unfolding numbered attribute_name namespaced other_part part blanks blank comment comment_turn line_comment line_turn
    expect
    need
attribute_name_fine = computed ok attribute_name refl

sibling_fine : (n : ℕ) → ok n ≡ true → Fine (no_sibling n)
unfolding NumberedBy no_sibling sibling
sibling_fine n h = (blanks_fine, blanks_fine & h & h & refl, tt)

quoted_fine : Fine quoted
unfolding numbered quoted quoted_by quoted_turn
quoted_fine = computed ok quoted refl

-- What may be entered one level deeper.
record InnerFine (n : Inner) : Type 0 where
  element : Fine n.element
  child_braces : Fine n.child_braces
  value_braces : Fine n.value_braces
  spread_braces : Fine n.spread_braces
  paren : Fine n.paren
  bracket : Fine n.bracket
  call : Fine n.call
  prefix : Fine n.prefix
  choice : Fine n.choice

judged_if : (b : Bool) (v w : Verdict) → JudgedBy ok v → JudgedBy ok w → JudgedBy ok (pick b v w)
judged_if true v w h k = h
judged_if false v w h k = k

compared_fine : (m n : ℕ) (x y : TagName) → JudgedBy ok (compared m n x y)
unfolding compared
compared_fine m n no_name no_name = tt
compared_fine m n no_name (named q l d) = refl
compared_fine m n (named p k c) no_name = refl
compared_fine m n (named p k c) (named q l d) = judged_if (same_name k c l d) _ _ tt refl

verdict_fine : (o r : Forest) → JudgedBy ok (verdict o r)
unfolding verdict
verdict_fine o r = compared_fine (width o) (width r) (name_in (inside o)) (name_in (inside r))

word_fine : Fine word
unfolding numbered word need
word_fine = computed ok word refl

primary_word_fine : Fine primary_word
unfolding numbered primary_word word need
primary_word_fine = computed ok primary_word refl

number_fine : Fine number
unfolding numbered number whole fraction digits
number_fine = computed ok number refl

string_fine : Fine string
unfolding numbered string string_by string_turn
string_fine = computed ok string refl

text_fine : Fine text
unfolding numbered text
text_fine = computed ok text refl

expect_fine : (c : Char) → Fine (expect c)
unfolding NumberedBy expect
expect_fine c = (tt, need_fine)

joined_fine : (f : Test) (operator next : Rule) → Fine operator → Fine next → Fine (joined f operator next)
unfolding NumberedBy joined joined_turn
joined_fine f operator next x y = y & (blanks_fine, blanks_fine & x & blanks_fine & y, tt)

close_tag_fine : Fine close_tag
unfolding NumberedBy close_tag close_name
close_tag_fine =
    expect_fine "<" & blanks_fine & expect_fine "/" & blanks_fine & (tt & element_name_fine) & blanks_fine &
    expect_fine ">"

module _ (n : Inner) (h : InnerFine n) where
  postfix_fine : Fine (postfix n)
  unfolding NumberedBy postfix primary postfix_turn
  postfix_fine =
      (primary_word_fine & number_fine & string_fine & h.paren & need_fine)
      & (
        blanks_fine,
        blanks_fine & expect_fine "." & blanks_fine & word_fine,
        (blanks_fine, blanks_fine & h.bracket, (blanks_fine, blanks_fine & h.call, tt)),
      )

  unary_fine : Fine (unary n)
  unfolding NumberedBy unary
  unary_fine = h.prefix & refl & h.prefix & (h.element & sibling_fine unexpected refl) & postfix_fine

  either_fine : Fine (either n)
  unfolding NumberedBy either both sum product times plus_minus and_and or_or
  either_fine =
      joined_fine _ _ _ ((tt & tt) & refl)
      (joined_fine _ _ _ ((tt & tt) & refl)
      (joined_fine _ _ _ (refl & refl & tt)
      (joined_fine _ _ _ (refl & tt) unary_fine)))

  conditional_fine : Fine (conditional n)
  unfolding NumberedBy conditional question
  conditional_fine = either_fine & (blanks_fine, blanks_fine & refl & refl & h.choice, tt)

  expression_fine : Fine (expression n)
  unfolding NumberedBy expression
  expression_fine = conditional_fine

  container_fine : Fine (container n)
  unfolding NumberedBy container close_container
  container_fine = pass_fine & expression_fine & blanks_fine & refl & expect_fine "}"

  spread_fine : (k : ℕ) → Fine (spread k n)
  unfolding NumberedBy spread dots
  spread_fine k =
      pass_fine & ((tt & tt & tt) & refl & need_fine) & blanks_fine & expression_fine & blanks_fine & expect_fine "}"

  value_fine : Fine (value n)
  unfolding NumberedBy value
  value_fine = quoted_fine & h.value_braces & (h.element & sibling_fine unexpected refl) & need_fine

  attributes_fine : Fine (attributes n)
  unfolding NumberedBy attributes attribute_turn attribute named_attribute initializer
  attributes_fine =
      blanks_fine
      & tt
      & h.spread_braces
      & attribute_name_fine
      & (blanks_fine, blanks_fine & expect_fine "=" & blanks_fine & value_fine, tt)

  open_tag_fine : Fine (open_tag n)
  unfolding NumberedBy open_tag tag_end
  open_tag_fine =
      pass_fine & element_name_fine & attributes_fine & (pass_fine & expect_fine ">" & tt) & expect_fine ">"

  children_fine : Fine (children n)
  unfolding NumberedBy children child
  children_fine = tt & (pass_fine, tt, h.element) & h.child_braces & text_fine & refl

  element_fine : (d : ℕ) → Fine (element_in d n)
  unfolding NumberedBy element_in fragment_in named_in open_fragment
  element_fine d = (
    pass_fine,
    (pass_fine & expect_fine ">", children_fine, close_tag_fine, verdict_fine),
    (open_tag_fine, children_fine, close_tag_fine, verdict_fine),
  )

  call_fine : Fine (call_in n)
  unfolding NumberedBy call_in argument_turn
  call_fine =
      pass_fine & tt & conditional_fine & (blanks_fine & (pass_fine & conditional_fine) & tt) & expect_fine ")"

  level_fine : (d : ℕ) → InnerFine (level d n)
  unfolding NumberedBy level child_braces_in empty_braces value_braces_in empty_value_braces paren_in bracket_in
      prefix_in
      choice_in
  level_fine d = record {
    element = element_fine d;
    child_braces = (
      pass_fine,
      tt & blanks_fine & expect_fine "}",
      (pass_fine, spread_fine Kind.spread_child, container_fine),
    );
    value_braces = (pass_fine, pass_fine & expect_fine "}" & refl, container_fine);
    spread_braces = spread_fine Kind.spread_attribute;
    paren = pass_fine & conditional_fine & blanks_fine & expect_fine ")";
    bracket = pass_fine & conditional_fine & blanks_fine & expect_fine "]";
    call = call_fine;
    prefix = pass_fine & unary_fine;
    choice = pass_fine & conditional_fine & blanks_fine & expect_fine ":" & blanks_fine & conditional_fine;
  }

no_level_fine : InnerFine no_level
unfolding NumberedBy no_level element_too_deep
no_level_fine = record {
  element = pass_fine & refl & refl & need_fine;
  child_braces = refl;
  value_braces = refl;
  spread_braces = refl;
  paren = refl;
  bracket = refl;
  call = refl;
  prefix = refl;
  choice = refl;
}

within_fine : (d : ℕ) → InnerFine (within d)
unfolding within
within_fine zero = no_level_fine
within_fine (suc d) = level_fine (within d) (within_fine d) d

run_fine : (d : ℕ) → Fine (run d)
unfolding NumberedBy run
run_fine d = children_fine (within d) (within_fine d) & tt & refl

stage_fine : (d : ℕ) → Fine (stage d)
unfolding NumberedBy stage
stage_fine d =
    blanks_fine & ((within_fine d).element & need_fine) & sibling_fine after_stage refl & blanks_fine & tt & refl

utf8_fine : Fine utf8
unfolding numbered utf8 sequence second other
utf8_fine = computed ok utf8 refl

-- ---- the calls

-- A reading whose refusals are document 01's.
pub record Numbering (reading : ℕ → Rule) : Type 0 where
  pub proper : Proper reading
  pub fine : (d : ℕ) → Fine (reading d)

-- A run is such a reading,
pub run_numbers : Numbering run
run_numbers = record { proper = run_proper; fine = run_fine }

-- and so is a stage.
pub stage_numbers : Numbering stage
stage_numbers = record { proper = stage_proper; fine = stage_fine }

module _ {reading : ℕ → Rule} (r : Numbering reading) (l : Limits) (s : List ℕ) where
  allowed_answer : Allowed ok (answer l reading s)
  unfolding answer
  allowed_answer = refuses_if (λ n. ok n ≡ true) (ltb l.bytes (length s)) _ _ refl
      (refuses_then (λ n. ok n ≡ true) (parse_all utf8 s) _ (allowed_all ok refl refl utf8 utf8_fine s)
      (λ a o p h. allowed_all ok refl refl (reading l.depth) (r.fine l.depth) s))

  -- A refusal's number is one of 1 to 18.
  pub refusal_number : {n a b c d : ℕ} → answer l reading s ≡ trouble n a b c d → (1 ≤ n) × (n ≤ 18)
  refusal_number {n} e =
      let z = eqb-false n 0 (subst NotStuck e (never_zero l reading s r.proper)) in
      let m = leb-true n 18 (subst (Allowed ok) e allowed_answer) in
      (omega arith, omega arith)

  -- So is the check's number, or it is 0;
  pub check_number_lem : (check l reading s).number ≤ 18
  unfolding check checked accepted refused
  check_number_lem = by (answer l reading s) allowed_answer
    where
      by : (x : Answer) → Allowed ok x → (checked x).number ≤ 18
      by (got a o p) h = omega arith
      by (trouble n a b c d) h = leb-true n 18 h

  -- and so is a read's.
  pub read_number_lem : (t : List ℕ) → (read l reading s t).number ≤ 18
  unfolding read read_into accepted refused
  read_number_lem t = by (answer l reading s) allowed_answer
    where
      room : (b : Bool) (m : ℕ) (rows : List ℕ)
          → (pick b (accepted m (written rows t)) (refused table_too_small m 0 0 0 t)).number ≤ 18
      room true m rows = omega arith
      room false m rows = omega arith

      by : (x : Answer) → Allowed ok x → (read_into t x).number ≤ 18
      by (got a o p) h = room (leb (count o) (holds t)) (count o) _
      by (trouble n a b c d) h = leb-true n 18 h

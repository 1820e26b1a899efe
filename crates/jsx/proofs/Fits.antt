-- A reading has at most as many records as the input has bytes:
-- whatever may be entered leaves the five credits that it was given.
use mathlib.Core.Path.{◌≡◌, refl, sym, ap, ◌∙◌}
use mathlib.Core.Bool.{Bool, true, false}
use mathlib.Core.List.{List}
use Prim.Native.Nat.{ℕ, zero, suc, ◌+◌, ◌≤◌}
use native.Mathlib.Omega.{arith}
use native.Mathlib.Nat.{le_refl}
use Prim.Native.Char.{Char}
use lib.ListN.{length}
use Rattle.rules.specs.Forest.{Forest, width}
use Rattle.rules.specs.Rule.{Test, Rule, stop, step, seq, many, said, ◌⨾◌}
use Rattle.rules.specs.Parse.{got, pick, byte_at, code_at, parse, parsed, parse_all}
use Rattle.rules.specs.Record.{count}
use Rattle.rules.proofs.Forests.{count_behind, width_behind}
use Rattle.rules.proofs.Run.{goes, both_read}
use Rattle.rules.proofs.Got.{got_same, then_got, pick_case, going, wrap_read}
use Rattle.rules.proofs.Again.{after_got}
use Rattle.rules.proofs.Fits.{Fits, f_weak, f_down, f_done, f_stop, f_step, f_refuse, f_when, f_hungry, f_calm}
use Rattle.rules.proofs.Fits.{f_look, f_after, f_seq, f_many, f_wrap, f_said, f_marked, f_paired, Pays, pick_least}
use Rattle.rules.proofs.Fits.{pick_same, pays_first, pays, Spends, thrifty, thrifty_far, one_a_byte}
use Rattle.jsx.specs.Kind as Kind
use Rattle.jsx.specs.Byte.{is, ◌or◌, character, need, expect}
use Rattle.jsx.specs.Blank.{comment_turn, comment, line_turn, line_comment, blank, blanks, pass}
use Rattle.jsx.specs.Name.{opens_part, part, one_part, other_part, namespaced, dotted_part, object}
use Rattle.jsx.specs.Name.{dotted, member, element_name, attribute_name}
use Rattle.jsx.specs.Text.{text, quoted_turn, quoted_by, quoted}
use Rattle.jsx.specs.Word.{word, primary_word, digits, whole, fraction, number, string_turn, string_by, string}
use Rattle.jsx.specs.Expression.{Inner, sibling, no_sibling, primary, postfix_turn, postfix, unary, joined_turn}
use Rattle.jsx.specs.Expression.{joined, times, plus_minus, and_and, or_or, product, sum, both, either, question}
use Rattle.jsx.specs.Expression.{conditional, expression, paren_in, bracket_in, argument_turn, call_in, prefix_in}
use Rattle.jsx.specs.Expression.{choice_in}
use Rattle.jsx.specs.Braces.{close_container, container, empty_braces, dots, spread, child_braces_in}
use Rattle.jsx.specs.Braces.{empty_value_braces, value_braces_in}
use Rattle.jsx.specs.Tag.{value, initializer, named_attribute, attribute, attribute_turn, attributes, tag_end}
use Rattle.jsx.specs.Tag.{open_tag, open_fragment, close_name, close_tag}
use Rattle.jsx.specs.Element.{child, children, fragment_in, named_in, element_in}
use Rattle.jsx.specs.Depth.{element_too_deep, no_level, level, within}
use Rattle.jsx.specs.Reading.{stage, run}
use Rattle.jsx.proofs.Unicode.{opens_goes_on}

-- Credits here may depend on whether the character opens a part of a name.
abbrev pub C : (n y : ℕ) → Rule → (gn gy kn ky : ℕ) → Type 0
C n y t gn gy kn ky = Fits opens_part n y t gn gy kn ky

-- The rule leaves the five credits that it was given. What it leaves where it stops is open: none of these stops.
abbrev pub Keeps : Rule → Type 0
Keeps t = (kn ky : ℕ) → C 5 5 t 5 5 kn ky

-- Two numbers, one apart at most.
record Close (n y : ℕ) : Type 0 where
  low : ℕ
  below : low ≤ n
  under : low ≤ y
  above : n ≤ suc low
  over : y ≤ suc low

flat : {i : ℕ} → Close i i
flat {i} = record { low = i; below = le_refl i; under = le_refl i; above = omega arith; over = omega arith }

rise : {i : ℕ} → Close i (suc i)
rise {i} = record { low = i; below = le_refl i; under = omega arith; above = omega arith; over = le_refl (suc i) }

-- More before, less after, or as much.
module _ {t : Rule} where
  less : {n y gn gy gn' gy' kn ky kn' ky' : ℕ}
      → gn' ≤ gn
      → gy' ≤ gy
      → kn' ≤ kn
      → ky' ≤ ky
      → C n y t gn gy kn ky
      → C n y t gn' gy' kn' ky'
  less {n} {y} p q r v x = f_weak (le_refl n) (le_refl y) p q r v x

  more : {n y n' y' gn gy kn ky : ℕ} → n ≤ n' → y ≤ y' → C n y t gn gy kn ky → C n' y' t gn gy kn ky
  more {gn = gn} {gy} {kn} {ky} p q x = f_weak p q (le_refl gn) (le_refl gy) (le_refl kn) (le_refl ky) x

  -- One credit less where no name opens.
  less_calm : {n y g kn ky : ℕ} → C n y t (suc g) (suc g) kn ky → C n y t g (suc g) kn ky
  less_calm {g = g} {kn} {ky} x = less {gn = suc g} (omega arith) (le_refl (suc g)) (le_refl kn) (le_refl ky) x

  -- One credit less where a name opens.
  less_hungry : {n y g kn ky : ℕ} → C n y t g (suc g) kn ky → C n y t g g kn ky
  less_hungry {g = g} {kn} {ky} x = less {gy = suc g} (le_refl g) (omega arith) (le_refl kn) (le_refl ky) x

  -- One credit unused.
  spare : {n y g kn ky : ℕ} → C n y t (suc g) (suc g) kn ky → C n y t g g kn ky
  spare x = less_hungry (less_calm x)

  -- One credit unused where the rule stops.
  spare_stopped : {n y g : ℕ} → C n y t g g (suc g) (suc g) → C n y t g g g g
  spare_stopped {g = g} x = less {kn = suc g} {ky = suc g} (le_refl g) (le_refl g) (omega arith) (omega arith) x

  -- One credit more where a name opens.
  more_hungry : {i gn gy kn ky : ℕ} → C i i t gn gy kn ky → C i (suc i) t gn gy kn ky
  more_hungry {i} x = more {y = i} (le_refl i) (omega arith) x

  -- One credit more where no name opens.
  more_calm : {i gn gy kn ky : ℕ} → C i (suc i) t gn gy kn ky → C (suc i) (suc i) t gn gy kn ky
  more_calm {i} x = more {n = i} (omega arith) (le_refl (suc i)) x

-- ---- rules that leave what they were given

step_keeps : {n y kn ky : ℕ} → Close n y → C n y step n y kn ky
step_keeps {kn = kn} {ky} x = f_weak x.below x.under x.above x.over (le_refl kn) (le_refl ky) f_step

seq_keeps : {n y gn gy kn ky : ℕ} {t u : Rule} → C n y t n y kn ky → C n y u gn gy kn ky → C n y (seq t u) gn gy kn ky
seq_keeps x z = f_seq x z

said_keeps : {n y gn gy kn ky : ℕ} {f : Forest → Bool} {r t u : Rule}
    → C n y r n y kn ky → C n y t gn gy kn ky → C n y u gn gy kn ky → C n y (said f r t u) gn gy kn ky
said_keeps x z w = f_said x z w

need_any : {n y gn gy kn ky : ℕ} → C n y need gn gy kn ky
unfolding need
need_any = f_when f_refuse f_refuse

ruleset byte_rules = (
  f_refuse,
  f_done,
  f_stop,
  step_keeps,
  flat,
  f_when,
  f_look,
  f_after,
  seq_keeps,
  f_many,
  said_keeps,
  f_marked,
  need_any,
)

-- The first byte brings a credit.
seq_one : {i kn ky : ℕ} {t u : Rule}
    → C i i t (suc i) (suc i) kn ky
    → C (suc i) (suc i) u (suc i) (suc i) kn ky
    → C i i (seq t u) (suc i) (suc i) kn ky
seq_one x z = f_seq x z

ruleset one_rules = (byte_rules, f_step, seq_one, f_wrap)

blanks_keep : {n y kn ky : ℕ} → Close n y → C n y blanks n y kn ky
unfolding blanks blank comment comment_turn line_comment line_turn
blanks_keep x = search byte_rules depth 12

expect_one : (c : Char) {i kn ky : ℕ} → C i i (expect c) (suc i) (suc i) kn ky
unfolding expect
expect_one c = f_when f_step need_any

pass_one : {i kn ky : ℕ} → C i i pass (suc i) (suc i) kn ky
unfolding pass
pass_one = f_seq f_step (blanks_keep flat)

module _ {i kn ky : ℕ} where
  expect_keeps : (c : Char) → C i i (expect c) i i kn ky
  expect_keeps c = spare (expect_one c)

  pass_keeps : C i i pass i i kn ky
  pass_keeps = spare pass_one

  word_keeps : C i i word i i kn ky
  unfolding word
  word_keeps = search byte_rules

  primary_word_keeps : C i i primary_word i i kn ky
  unfolding primary_word
  primary_word_keeps = search (byte_rules, word_keeps)

  number_keeps : C i i number i i kn ky
  unfolding number whole fraction digits
  number_keeps = search byte_rules depth 12

  string_keeps : C i i string i i kn ky
  unfolding string string_by string_turn
  string_keeps = search byte_rules depth 12

  no_sibling_keeps : (x : ℕ) → C i i (no_sibling x) i i kn ky
  unfolding no_sibling sibling
  no_sibling_keeps x = search (byte_rules, blanks_keep)

ruleset keeps_rules = (
  byte_rules,
  blanks_keep,
  expect_keeps,
  pass_keeps,
  word_keeps,
  primary_word_keeps,
  number_keeps,
  string_keeps,
  no_sibling_keeps,
)

-- ---- names

-- The first byte of a character brings a credit.
character_one : {i kn ky : ℕ} → C i i character (suc i) (suc i) kn ky
character_one = search one_rules depth 12

-- Behind a part no character stands that opens one.
part_one : {n y z kn ky : ℕ} → C n y part (suc y) z kn ky
unfolding part
part_one = f_seq (f_hungry character_one need_any) (f_many (f_calm opens_goes_on (spare character_one) f_stop))

one_part_keeps : {n y z kn ky : ℕ} → C (suc n) (suc y) one_part (suc y) z kn ky
unfolding one_part
one_part_keeps = f_wrap part_one

other_part_keeps : {n y z kn ky : ℕ} → C (suc n) (suc y) other_part (suc y) z kn ky
unfolding other_part
other_part_keeps = f_wrap part_one

namespaced_keeps : {n y z kn ky : ℕ} → C (suc (suc n)) (suc (suc y)) namespaced (suc (suc y)) z kn ky
unfolding namespaced
namespaced_keeps {y = y} =
    f_wrap (f_seq (other_part_keeps {z = suc y})
    (f_seq (blanks_keep flat) (f_seq (expect_one ":") (f_seq (blanks_keep flat) other_part_keeps))))

-- What a turn of a member's loop reads.
abbrev dot_and_part : Rule
dot_and_part = blanks ⨾ expect "." ⨾ blanks ⨾ dotted_part

-- The dot pays for the part, and the part is left over.
dot_one : {i z kn ky : ℕ} → C i i dot_and_part (suc i) z kn ky
unfolding dotted_part
dot_one =
    f_seq (blanks_keep flat)
    (f_seq (expect_one ".") (f_seq (blanks_keep flat) (f_marked (f_said other_part_keeps f_refuse f_done))))

dotted_keeps : {i : ℕ} → C (suc i) (suc (suc i)) dotted (suc i) (suc (suc i)) (suc i) (suc (suc i))
unfolding dotted
dotted_keeps {i} = f_after (more_hungry (less_calm (dot_one {i = suc i}))) f_stop

object_keeps : {n y z kn ky : ℕ} → C (suc n) (suc y) object (suc y) z kn ky
unfolding object
object_keeps = f_wrap part_one

-- By its shape alone a member may have no dot, and is one short then.
member_takes : {i kn ky : ℕ} → C (suc (suc i)) (suc (suc i)) member (suc i) (suc (suc i)) kn ky
unfolding member
member_takes = f_wrap (f_seq object_keeps (f_many dotted_keeps))

element_name_takes : {i kn ky : ℕ} → C (suc (suc i)) (suc (suc i)) element_name (suc i) (suc (suc i)) kn ky
unfolding element_name
element_name_takes = f_after (less_calm namespaced_keeps) (f_after member_takes (less_calm one_part_keeps))

attribute_name_keeps : {n y z kn ky : ℕ} → C (suc (suc n)) (suc (suc y)) attribute_name (suc (suc y)) z kn ky
unfolding attribute_name
attribute_name_keeps = f_after namespaced_keeps other_part_keeps

-- ---- nodes of bytes: their first byte pays for them

text_keeps : {i kn ky : ℕ} → C (suc i) (suc i) text (suc i) (suc i) kn ky
unfolding text
text_keeps = search one_rules depth 8

quoted_keeps : {i kn ky : ℕ} → C (suc i) (suc i) quoted (suc i) (suc i) kn ky
unfolding quoted quoted_by quoted_turn
quoted_keeps = search one_rules depth 12

dots_one : {i kn ky : ℕ} → C i i dots (suc i) (suc i) kn ky
unfolding dots
dots_one = search one_rules

-- The first byte pays for the container, the last one for what is empty.
empty_braces_keeps : Keeps empty_braces
unfolding empty_braces
empty_braces_keeps kn ky = f_wrap (f_seq f_step (f_seq (f_wrap (blanks_keep flat)) (expect_one "}")))

-- ---- tags with nothing of a deeper level

tag_end_pays : C 3 3 tag_end 4 4 5 5
unfolding tag_end
tag_end_pays = f_when (f_seq pass_one (f_seq (expect_one ">") f_stop)) (expect_one ">")

open_fragment_takes : C 4 4 open_fragment 4 4 5 5
unfolding open_fragment
open_fragment_takes = f_wrap (f_seq pass_one (expect_keeps ">"))

close_tag_pays : {kn ky : ℕ} → C 4 4 close_tag 5 5 kn ky
unfolding close_tag close_name
close_tag_pays =
    f_wrap (f_seq (expect_one "<") (f_seq (blanks_keep flat) (f_seq (expect_one "/") (f_seq (blanks_keep flat)
    (f_seq (f_when (less_calm f_done) element_name_takes) (f_seq (blanks_keep rise) (more_hungry (expect_one ">"))))))))

-- ---- what may be entered one level deeper

-- All of them leave what they were given.
pub record InnerKeeps (n : Inner) : Type 0 where
  pub element : Keeps n.element
  pub child_braces : Keeps n.child_braces
  pub value_braces : Keeps n.value_braces
  -- A spread has one credit more to leave.
  pub spread_braces : (kn ky : ℕ) → C 5 5 n.spread_braces 6 6 kn ky
  pub paren : Keeps n.paren
  pub bracket : Keeps n.bracket
  pub call : Keeps n.call
  pub prefix : Keeps n.prefix
  pub choice : Keeps n.choice

joined_keeps : (f : Test) {op next : Rule} → Keeps op → Keeps next → Keeps (joined f op next)
unfolding joined joined_turn
joined_keeps f {op} {next} x y = search (byte_rules, blanks_keep, x, y) depth 8

module _ (n : Inner) (h : InnerKeeps n) where
  primary_keeps : Keeps (primary n)
  unfolding primary
  primary_keeps = search (keeps_rules, h.paren)

  postfix_keeps : Keeps (postfix n)
  unfolding postfix postfix_turn
  postfix_keeps = search (keeps_rules, primary_keeps, h.bracket, h.call) depth 8

  unary_keeps : Keeps (unary n)
  unfolding unary
  unary_keeps = search (keeps_rules, postfix_keeps, h.prefix, h.element) depth 8

  product_keeps : Keeps (product n)
  unfolding product times
  product_keeps = joined_keeps (is "*") (search byte_rules) unary_keeps

  sum_keeps : Keeps (sum n)
  unfolding sum plus_minus
  sum_keeps = joined_keeps (is "+" or is "-") (search byte_rules) product_keeps

  both_keeps : Keeps (both n)
  unfolding both and_and
  both_keeps = joined_keeps (is "&") (search byte_rules) sum_keeps

  either_keeps : Keeps (either n)
  unfolding either or_or
  either_keeps = joined_keeps (is "|") (search byte_rules) both_keeps

  conditional_keeps : Keeps (conditional n)
  unfolding conditional question
  conditional_keeps = search (keeps_rules, either_keeps, h.choice) depth 8

  -- The node of an expression takes a credit.
  expression_takes : {kn ky : ℕ} → C 6 6 (expression n) 5 5 kn ky
  unfolding expression
  expression_takes {kn} {ky} = f_wrap (conditional_keeps kn ky)

  -- The first byte pays for the container, the last one for the expression.
  container_keeps : Keeps (container n)
  unfolding container close_container
  container_keeps kn ky = f_wrap (f_seq pass_one
      (f_seq (f_down 1 (expression_takes {kn = 1 + kn} {ky = 1 + ky}))
      (f_seq (blanks_keep flat) (f_when f_refuse (expect_one "}")))))

  spread_gains : (x : ℕ) {kn ky : ℕ} → C 5 5 (spread x n) 6 6 kn ky
  unfolding spread
  spread_gains x =
      f_wrap (f_seq pass_one
      (f_seq dots_one (f_seq (blanks_keep flat) (f_seq expression_takes (f_seq (blanks_keep flat) (expect_one "}"))))))

  -- ---- tags

  -- An element that is no child, and the look behind it.
  value_keeps : Keeps (value n)
  unfolding value
  value_keeps = search (keeps_rules, quoted_keeps {i = 4}, h.value_braces, h.element)

  initializer_keeps : Keeps (initializer n)
  unfolding initializer
  initializer_keeps = search (keeps_rules, value_keeps) depth 6

  -- Where a name opens there is a credit more: from the blank before it, or from what ends the attribute before it.
  named_attribute_keeps : {kn ky : ℕ} → C 3 4 (named_attribute n) 3 4 kn ky
  unfolding named_attribute initializer
  named_attribute_keeps {kn} {ky} = f_wrap (f_seq attribute_name_keeps (f_after
      (f_seq (blanks_keep rise) (f_seq (more_hungry (expect_one "="))
      (f_seq (blanks_keep flat) (less_calm (f_down 1 (value_keeps (1 + kn) (1 + ky)))))))
      f_done))

  attribute_keeps : {kn ky : ℕ} → C 3 4 (attribute n) 3 4 kn ky
  unfolding attribute
  attribute_keeps {kn} {ky} =
      f_when (more_hungry (less_calm (f_down 2 (h.spread_braces (2 + kn) (2 + ky))))) named_attribute_keeps

  attributes_keep : {kn ky : ℕ} → C 3 4 (attributes n) 3 4 kn ky
  unfolding attributes attribute_turn
  attributes_keep = f_many (f_seq (blanks_keep rise) (f_when f_stop attribute_keeps))

  open_tag_takes : C 4 4 (open_tag n) 4 4 5 5
  unfolding open_tag
  open_tag_takes = f_wrap (f_seq pass_one (f_seq element_name_takes (f_seq attributes_keep (more_hungry tag_end_pays))))

  -- ---- children and elements

  child_keeps : C 5 5 (child n) 5 5 5 5
  unfolding child
  child_keeps = search (keeps_rules, text_keeps {i = 4}, h.element, h.child_braces)

  children_keep : Keeps (children n)
  unfolding children
  children_keep kn ky = f_many child_keeps

  -- The two tags pay for the node around them.
  fragment_in_keeps : (d : ℕ) → Keeps (fragment_in d n)
  unfolding fragment_in
  fragment_in_keeps d kn ky = f_wrap (f_paired open_fragment_takes (f_down 1 (children_keep 5 5)) close_tag_pays)

  named_in_keeps : (d : ℕ) → Keeps (named_in d n)
  unfolding named_in
  named_in_keeps d kn ky = f_wrap (f_paired open_tag_takes (f_down 1 (children_keep 5 5)) close_tag_pays)

  level_keeps : (d : ℕ) → InnerKeeps (level d n)
  unfolding level element_in child_braces_in value_braces_in empty_value_braces paren_in bracket_in call_in
      argument_turn prefix_in
      choice_in
  level_keeps d = record {
    element = λ kn ky. f_after (fragment_in_keeps d kn ky) (named_in_keeps d kn ky);
    child_braces = λ kn ky. f_after (empty_braces_keeps kn ky)
        (f_after (spare (spread_gains Kind.spread_child)) (container_keeps kn ky));
    value_braces = search (keeps_rules, container_keeps) depth 6;
    spread_braces = λ kn ky. spread_gains Kind.spread_attribute;
    paren = search (keeps_rules, conditional_keeps);
    bracket = search (keeps_rules, conditional_keeps);
    call = search (keeps_rules, conditional_keeps) depth 12;
    prefix = search (keeps_rules, unary_keeps);
    choice = search (keeps_rules, conditional_keeps) depth 7;
  }

within_keeps : (d : ℕ) → InnerKeeps (within d)
unfolding within no_level element_too_deep
within_keeps zero = record {
  element = search keeps_rules;
  child_braces = λ kn ky. f_refuse;
  value_braces = λ kn ky. f_refuse;
  spread_braces = λ kn ky. f_refuse;
  paren = λ kn ky. f_refuse;
  bracket = λ kn ky. f_refuse;
  call = λ kn ky. f_refuse;
  prefix = λ kn ky. f_refuse;
  choice = λ kn ky. f_refuse;
}
within_keeps (suc d) = level_keeps (within d) (within_keeps d) d

run_keeps : (d : ℕ) → Keeps (run d)
unfolding run
run_keeps d kn ky = f_seq (children_keep (within d) (within_keeps d) kn ky) (f_when f_done f_refuse)

stage_keeps : (d : ℕ) → Keeps (stage d)
unfolding stage
stage_keeps d = search (keeps_rules, (within_keeps d).element) depth 8

-- ---- what each rule spends of its own

-- At most k nodes more than bytes, in every reading by the rule.
abbrev pub Few : ℕ → Rule → Type 0
Few k t = Spends opens_part k t

module _ {k : ℕ} {t : Rule} (x : Few k t) (s : List ℕ) (e at : ℕ) {a : Bool} {o : Forest} {p : ℕ}
    (h : parsed s t e at ≡ got a o p) where
  -- What was got has at most k nodes more than bytes,
  pub nodes_few : count o ≤ width o + k
  nodes_few = thrifty opens_part s (suc (length s)) x e at h

  -- and ends at most k places before as many as it has nodes.
  pub nodes_far : at + count o ≤ p + k
  nodes_far = thrifty_far opens_part s (suc (length s)) x e at h

kept : {t : Rule} → Keeps t → Few 0 t
kept x = record { left = 5; fits = x 5 5 }

-- By rule, with d levels left: `nodes_few (thrift d).open_tag` bounds the nodes of what an opening tag's rule reads.
pub record Thrifty (d : ℕ) : Type 0 where
  -- names: by its shape alone a member may have no dot, so one more; `element_name_few` is sharper
  pub one_part : Few 0 one_part
  pub other_part : Few 0 other_part
  pub namespaced : Few 0 namespaced
  pub attribute_name : Few 0 attribute_name
  pub member : Few 1 member
  pub element_name : Few 1 element_name
  -- texts, strings and braces
  pub text : Few 0 text
  pub quoted : Few 0 quoted
  pub empty_braces : Few 0 empty_braces
  pub container : Few 0 (container (within d))
  pub spread : (x : ℕ) → Few 0 (spread x (within d))
  -- expressions: the node of an expression is one more
  pub primary : Few 0 (primary (within d))
  pub postfix : Few 0 (postfix (within d))
  pub unary : Few 0 (unary (within d))
  pub product : Few 0 (product (within d))
  pub sum : Few 0 (sum (within d))
  pub both : Few 0 (both (within d))
  pub either : Few 0 (either (within d))
  pub conditional : Few 0 (conditional (within d))
  pub expression : Few 1 (expression (within d))
  -- tags: an attribute of one byte is two nodes
  pub value : Few 0 (value (within d))
  pub initializer : Few 0 (initializer (within d))
  pub named_attribute : Few 1 (named_attribute (within d))
  pub attribute : Few 1 (attribute (within d))
  pub attributes : Few 1 (attributes (within d))
  pub open_tag : Few 0 (open_tag (within d))
  pub open_fragment : Few 0 open_fragment
  pub close_tag : Few 0 close_tag
  -- children, and the two forms of an element
  pub child : Few 0 (child (within d))
  pub children : Few 0 (children (within d))
  pub fragment_in : Few 0 (fragment_in d (within d))
  pub named_in : Few 0 (named_in d (within d))
  -- what may be entered
  pub element : Few 0 (within d).element
  pub child_braces : Few 0 (within d).child_braces
  pub value_braces : Few 0 (within d).value_braces
  pub spread_braces : Few 0 (within d).spread_braces
  pub paren : Few 0 (within d).paren
  pub bracket : Few 0 (within d).bracket
  pub call : Few 0 (within d).call
  pub prefix : Few 0 (within d).prefix
  pub choice : Few 0 (within d).choice

-- Every rule of the language spends nothing, or one credit.
pub thrift : (d : ℕ) → Thrifty d
thrift d = let n = within d in let h = within_keeps d in record {
  one_part = record { left = 1; fits = one_part_keeps };
  other_part = record { left = 1; fits = other_part_keeps };
  namespaced = record { left = 2; fits = namespaced_keeps };
  attribute_name = record { left = 2; fits = attribute_name_keeps };
  member = record { left = 1; fits = less_hungry member_takes };
  element_name = record { left = 1; fits = less_hungry element_name_takes };
  text = record { left = 1; fits = text_keeps };
  quoted = record { left = 1; fits = quoted_keeps };
  empty_braces = kept empty_braces_keeps;
  container = kept (container_keeps n h);
  spread = λ x. record { left = 5; fits = spare (spread_gains n h x) };
  primary = kept (primary_keeps n h);
  postfix = kept (postfix_keeps n h);
  unary = kept (unary_keeps n h);
  product = kept (product_keeps n h);
  sum = kept (sum_keeps n h);
  both = kept (both_keeps n h);
  either = kept (either_keeps n h);
  conditional = kept (conditional_keeps n h);
  expression = record { left = 5; fits = expression_takes n h };
  value = kept (value_keeps n h);
  initializer = kept (initializer_keeps n h);
  named_attribute = record { left = 3; fits = more_calm (less_hungry (named_attribute_keeps n h)) };
  attribute = record { left = 3; fits = more_calm (less_hungry (attribute_keeps n h)) };
  attributes = record { left = 3; fits = more_calm (less_hungry (attributes_keep n h)) };
  open_tag = record { left = 4; fits = spare_stopped (open_tag_takes n h) };
  open_fragment = record { left = 4; fits = spare_stopped open_fragment_takes };
  close_tag = record { left = 4; fits = spare close_tag_pays };
  child = record { left = 5; fits = child_keeps n h };
  children = kept (children_keep n h);
  fragment_in = kept (fragment_in_keeps n h d);
  named_in = kept (named_in_keeps n h d);
  element = kept h.element;
  child_braces = kept h.child_braces;
  value_braces = kept h.value_braces;
  spread_braces = record { left = 5; fits = spare (h.spread_braces 5 5) };
  paren = kept h.paren;
  bracket = kept h.bracket;
  call = kept h.call;
  prefix = kept h.prefix;
  choice = kept h.choice;
}

-- ---- an element's name: it is a member only where a dot stands, so it has no more nodes than bytes

module _ (s : List ℕ) (F e : ℕ) where
  -- The first of the dots that were seen pays for the member.
  dots_pay : (at : ℕ) {v : Forest} {q : ℕ} → parse s F blanks e at ≡ got true v q → is "." (byte_at s q) ≡ true
      → {a : Bool} {o : Forest} {p : ℕ} → parse s F (many dotted) e at ≡ got a o p → suc (count o) ≤ width o
  unfolding parse dotted
  dots_pay at {v} {q} k dot {a} {o} {p} h =
      let w = (pays_first opens_part s F {jn = 1} {jy = 2} (parse s F dotted e) F at first others h).enough in
      let left = pick_least (opens_part (code_at s p)) (pick_least a {x = 2} {y = 2} (omega arith) (omega arith))
      (pick_least a {x = 1} {y = 1} (le_refl 1) (le_refl 1)) in
      omega (arith, w, left, pick_same (opens_part (code_at s at)) 0)
    where
      seen : parse s F dotted e at ≡ parse s F dot_and_part e at
      seen =
          after_got s F blanks e at k (is ".") dot_and_part stop
          ∙ (λ i. pick (dot i) (parse s F dot_and_part e at) (parse s F stop e at))

      first : (c : Bool) (u : Forest) (z : ℕ) → parse s F dotted e at ≡ got c u z
          → Pays 0 0 1 2 1 2 (opens_part (code_at s at)) (opens_part (code_at s z)) c u
      first c u z r = pays opens_part s F dot_one e at c u z (sym seen ∙ r)

      others : (x : ℕ) (c : Bool) (u : Forest) (z : ℕ) → parse s F dotted e x ≡ got c u z
          → Pays 1 2 1 2 1 2 (opens_part (code_at s x)) (opens_part (code_at s z)) c u
      others x c u z r = pays opens_part s F dotted_keeps e x c u z r

  -- A member that begins at a part with a dot behind it.
  member_pays : (at : ℕ) {b : Bool} {v : Forest} {q : ℕ}
      → parse s F (part ⨾ blanks) e at ≡ got b v q
      → is "." (byte_at s q) ≡ true
      → {a : Bool} {o : Forest} {p : ℕ} → parse s F member e at ≡ got a o p
      → count o ≤ width o
  unfolding member object part need blanks goes count width
  member_pays at look dot h =
      let m = wrap_read s F _ (object ⨾ many dotted) e at h in
      let two = both_read s F object (many dotted) e at (going s F (object ⨾ many dotted) e at refl m.1) in
      let first = wrap_read s F _ part e at two.3 in
      let seen = both_read s F part blanks e at (going s F (part ⨾ blanks) e at refl look) in
      let p = (got_same (sym seen.3 ∙ first.1)).2 in
      let dots = dots_pay two.1 (ap (parse s F blanks e) (sym p) ∙ seen.4) dot two.4 in
      let part = thrifty opens_part s F {k = 0} (record { left = 1; fits = object_keeps }) e at two.3 in
      omega (
        arith,
        dots,
        part,
        ap count m.2,
        ap width m.2,
        ap count two.5,
        ap width two.5,
        count_behind
            two.0 two.2,
        width_behind two.0 two.2,
      )

  -- An element's name has at most as many nodes as bytes.
  pub element_name_few : (at : ℕ) {a : Bool} {o : Forest} {p : ℕ}
      → parse s F element_name e at ≡ got a o p
      → count o ≤ width o
  unfolding element_name parse
  element_name_few at {a} {o} {p} h =
      let look = then_got (parse s F (part ⨾ blanks) e at) _ h in
      pick_case (is ":" (byte_at s look.2)) (parse s F namespaced e at) _ look.4
      (λ k. omega (arith, thrifty opens_part s F {k = 0} (record { left = 2; fits = namespaced_keeps }) e at k))
      (λ k. let again = then_got (parse s F (part ⨾ blanks) e at) _ k in
      by again.3 (is "." (byte_at s again.2)) refl again.4)
    where
      by : {b : Bool} {v : Forest} {q : ℕ}
          → parse s F (part ⨾ blanks) e at ≡ got b v q
          → (c : Bool) → is "." (byte_at s q) ≡ c
          → pick c (parse s F member e at) (parse s F one_part e at) ≡ got a o p
          → count o ≤ width o
      by look true dot k = member_pays at look dot k
      by look false dot k =
          omega (arith, thrifty opens_part s F {k = 0} (record { left = 1; fits = one_part_keeps }) e at k)

-- A run has at most as many records as the input has bytes.
pub run_few : (d : ℕ) (s : List ℕ) {a : Bool} {u : Forest} {p : ℕ} → parse_all (run d) s ≡ got a u p
    → count u ≤ length s
run_few d s k = one_a_byte opens_part (kept (run_keeps d)) s k

-- So has a stage.
pub stage_few : (d : ℕ) (s : List ℕ) {a : Bool} {u : Forest} {p : ℕ}
    → parse_all (stage d) s ≡ got a u p
    → count u ≤ length s
stage_few d s k = one_a_byte opens_part (kept (stage_keeps d)) s k

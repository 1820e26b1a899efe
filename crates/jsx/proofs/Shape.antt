-- How far each rule of the language looks: a flow for each, from what may be entered one level deeper.
use mathlib.Core.Path.{◌≡◌, refl, subst, sym}
use mathlib.Core.Bool.{Bool, true, false}
use Prim.Native.Nat.{ℕ, zero, suc}
use Prim.Native.Char.{Char, code}
use lib.Dec.{ltb, eqb}
use borrow.Author.Tests.{eqb-true}
use Rattle.rules.specs.Forest.{node}
use Rattle.rules.specs.Rule.{Test, Rule, stop, step, after, seq, paired, node_of}
use Rattle.rules.specs.Parse.{pick}
use Rattle.rules.proofs.Run.{goes}
use Rattle.rules.proofs.Moves.{moves}
use Rattle.rules.proofs.Flow.{Mode, shut, near, pend, same, shut_near, shut_pend, tight_near, near_pend, Seen}
use Rattle.rules.proofs.Flow.{seen_near, seen_pend, clear, advances, lacking, Flow, f_weak, f_done, f_stop, f_step}
use Rattle.rules.proofs.Flow.{f_refuse, f_when, f_expect, f_look, f_after, f_seq, f_many, f_wrap, f_said, f_marked}
use Rattle.rules.proofs.Flow.{f_paired, f_pass, f_last}
use Rattle.rules.proofs.Agree.{heads}
use Rattle.jsx.specs.Kind as Kind
use Rattle.jsx.specs.Byte.{is, ◌or◌, need, expect}
use Rattle.jsx.specs.Blank.{comment_turn, comment, line_turn, line_comment, blank, blanks, pass}
use Rattle.jsx.specs.Name.{part, one_part, other_part, namespaced, dotted_part, object, dotted, member, element_name}
use Rattle.jsx.specs.Name.{attribute_name}
use Rattle.jsx.specs.Text.{text, quoted_turn, quoted_by, quoted}
use Rattle.jsx.specs.Word.{word, primary_word, digits, whole, fraction, number, string_turn, string_by, string}
use Rattle.jsx.specs.Expression.{Inner, sibling, no_sibling, primary, postfix_turn, postfix, unary, joined_turn}
use Rattle.jsx.specs.Expression.{joined, times, plus_minus, and_and, or_or, product, sum, both, either, question}
use Rattle.jsx.specs.Expression.{conditional, expression, paren_in, bracket_in, argument_turn, call_in, prefix_in}
use Rattle.jsx.specs.Expression.{choice_in}
use Rattle.jsx.specs.Braces.{close_container, container, empty_braces, dots, spread, child_braces_in}
use Rattle.jsx.specs.Braces.{empty_value_braces, value_braces_in}
use Rattle.jsx.specs.Tag.{value, initializer, named_attribute, attribute, attribute_turn, attributes, tag_end}
use Rattle.jsx.specs.Tag.{open_tag, open_fragment, close_name, close_tag}
use Rattle.jsx.specs.Closing.{verdict}
use Rattle.jsx.specs.Element.{child, children, fragment_in, named_in, element_in}
use Rattle.jsx.specs.Depth.{element_too_deep, no_level, level, within}
use Rattle.jsx.specs.Reading.{stage, run}
use Rattle.jsx.proofs.Paired.{paired_label, well_paired, plain_fits, other_fits, one_fits, object_fits}
use Rattle.jsx.proofs.Paired.{element_fits, fragment_fits}
use Rattle.jsx.proofs.Steady.{steady_node, steady_one_name, steady_other_part, steady_object_name}
use Rattle.jsx.proofs.Steady.{steady_element, fair_verdict}

-- What reads a content with d levels left inside it.
abbrev pub content_of : ℕ → Rule
content_of d = children (within d)

-- The bytes that close a tag or braces.
unfoldable pub closer : Test
closer = is ">" or is "}"

-- A flow of this language.
abbrev pub L : Mode → Rule → Mode → Mode → Type 0
L i t g k = Flow content_of closer well_paired i t g k

-- ---- rules of a rule, for `search`

-- A rule that ends near ends no further than what may be pending; one that shuts, no further than near.
module _ {i k : Mode} {t : Rule} where
  to_pend : {r : Rule} → L i t near k → L i t (pend r) k
  to_pend x = f_weak same near_pend same x

  shut_to_near : L i t shut k → L i t near k
  shut_to_near x = f_weak same shut_near same x

  shut_to_pend : {r : Rule} → L i t shut k → L i t (pend r) k
  shut_to_pend x = f_weak same shut_pend same x

stop_pend : {g : Mode} {r : Rule} → L near stop g (pend r)
stop_pend = f_weak same same near_pend f_stop

-- Two rules, with nothing or with blanks pending between them.
module _ {i g k : Mode} {t u : Rule} where
  seq_near : L i t near k → L near u g k → L i (seq t u) g k
  seq_near x y = f_seq x y

  seq_pend : L i t (pend blanks) k → L (pend blanks) u g k → L i (seq t u) g k
  seq_pend x y = f_seq x y

-- A look from where nothing is pending.
after_near : {g k : Mode} {f : Test} {r t u : Rule}
    → goes r ≡ true → L near r near near → L (pend r) t g k → L (pend r) u g k → L near (after r f t u) g k
after_near e x y z = f_weak near_pend same same (f_after e x y z)

-- A node that is never paired.
node_flow : (x : ℕ) → paired_label (node x 0) ≡ false → {i g k : Mode} {t : Rule} → L i t g k → L i (node_of x t) g k
node_flow x e y = f_wrap (steady_node x) (plain_fits x _ e) y

-- ---- bytes and blanks

step_near : {k : Mode} → L near step near k
step_near = f_weak same tight_near same f_step

need_flow : {i g k : Mode} → Seen i → L i need g k
unfolding need
need_flow sn = f_when sn (f_refuse refl) (f_refuse refl)

ruleset byte_rules =
    (f_refuse, f_done, f_stop, step_near, need_flow, seen_near, seen_pend, f_when, f_look, f_marked, f_many, seq_near)

expect_near : (c : Char) → {k : Mode} → L near (expect c) near k
unfolding expect
expect_near c = search byte_rules

expect_shut : (c : Char) → closer (code c) ≡ true → {k : Mode} → L near (expect c) shut k
unfolding expect
expect_shut c h =
    f_expect (λ b e. subst (λ (n : ℕ). closer n ≡ true) (sym (eqb-true b (code c) e)) h) (need_flow seen_near)

-- A byte that closes is a character of its own,
pub closer_low : (b : ℕ) → closer b ≡ true → ltb b 0x80 ≡ true
unfolding closer
closer_low b h = go (is ">" b) refl h
  where
    go : (c : Bool) → is ">" b ≡ c → pick c true (is "}" b) ≡ true → ltb b 0x80 ≡ true
    go true e k = rw (eqb-true b (code ">") e)
    go false e k = rw (eqb-true b (code "}") k)

-- and goes on with none.
closer_heads : (b : ℕ) → closer b ≡ true → heads b ≡ true
closer_heads b h = rw (closer_low b h)

blanks_near : {k : Mode} → L near blanks near k
unfolding blanks blank comment comment_turn line_comment line_turn advances lacking closer
blanks_near = search (byte_rules, closer_heads) depth 12

-- Blanks go on.
pub blanks_goes : goes blanks ≡ true
unfolding goes blanks
blanks_goes = refl

-- Blanks that were looked over are read.
blanks_again : {k : Mode} → L (pend blanks) blanks near k
unfolding clear blanks blank comment comment_turn line_comment line_turn
blanks_again = f_last blanks_goes refl blanks_near

-- A byte and the blanks behind it are looked over to the byte behind them.
pub pass_near : {k : Mode} → L near pass near k
unfolding pass
pass_near = f_seq step_near blanks_near

-- They go on.
pub pass_goes : goes pass ≡ true
unfolding goes pass blanks
pass_goes = refl

pass_again : {k : Mode} → L (pend pass) pass near k
unfolding clear pass blanks blank comment comment_turn line_comment line_turn
pass_again = f_last pass_goes refl pass_near

ruleset blank_rules =
    (byte_rules, expect_near, blanks_near, blanks_again, blanks_goes, pass_near, pass_again, f_after, seq_pend, to_pend)

-- ---- names

part_near : {k : Mode} → L near part near k
unfolding part advances
part_near = search (byte_rules, closer_heads) depth 12

-- A part that was looked over with the blanks behind it.
part_again : {k : Mode} → L (pend (seq part blanks)) part (pend blanks) k
unfolding goes clear part need
part_again = f_pass {t = part} refl refl part_near

look_near : {k : Mode} → L near (seq part blanks) near k
look_near = f_seq part_near blanks_near

look_goes : goes (seq part blanks) ≡ true
unfolding goes part need blanks
look_goes = refl

other_part_near : {k : Mode} → L near other_part near k
unfolding other_part
other_part_near = f_wrap steady_other_part (other_fits part) part_near

other_part_again : {k : Mode} → L (pend (seq part blanks)) other_part (pend blanks) k
unfolding other_part
other_part_again = f_wrap steady_other_part (other_fits part) part_again

one_part_again : {k : Mode} → L (pend (seq part blanks)) one_part (pend blanks) k
unfolding one_part
one_part_again = f_wrap steady_one_name (one_fits part) part_again

object_again : {k : Mode} → L (pend (seq part blanks)) object (pend blanks) k
unfolding object
object_again = f_wrap steady_object_name (object_fits part) part_again

namespaced_again : {k : Mode} → L (pend (seq part blanks)) namespaced (pend blanks) k
unfolding namespaced
namespaced_again = node_flow Kind.namespaced refl (search (blank_rules, other_part_near, other_part_again) depth 8)

dotted_part_near : {k : Mode} → L near dotted_part near k
unfolding dotted_part clear other_part part need
dotted_part_near = f_marked (f_said {r = other_part} refl other_part_near (f_refuse refl) f_done)

member_again : {k : Mode} → L (pend (seq part blanks)) member (pend blanks) k
unfolding member advances dotted blanks expect need
member_again = node_flow Kind.member refl (search (blank_rules, object_again, dotted_part_near) depth 10)

element_name_flow : {k : Mode} → L near element_name (pend blanks) k
unfolding element_name
element_name_flow =
    after_near look_goes look_near namespaced_again (f_after look_goes look_near member_again one_part_again)

attribute_name_flow : {k : Mode} → L near attribute_name (pend blanks) k
unfolding attribute_name
attribute_name_flow = after_near look_goes look_near namespaced_again other_part_again

-- ---- texts, strings, words and numbers

text_near : {k : Mode} → L near text near k
unfolding text advances
text_near = node_flow Kind.text refl (search byte_rules)

quoted_near : {k : Mode} → L near quoted near k
unfolding quoted quoted_by quoted_turn advances
quoted_near = node_flow Kind.quoted refl (search byte_rules depth 12)

word_near : {k : Mode} → L near word near k
unfolding word advances
word_near = search byte_rules

primary_word_near : {k : Mode} → L near primary_word near k
unfolding primary_word clear word need
primary_word_near = f_marked (f_said {r = word} refl word_near (f_refuse refl) f_done)

number_near : {k : Mode} → L near number near k
unfolding number whole fraction digits advances
number_near = search byte_rules depth 12

string_near : {k : Mode} → L near string near k
unfolding string string_by string_turn advances
string_near = search byte_rules depth 12

ruleset flow_rules = (blank_rules, word_near, primary_word_near, number_near, string_near)

-- ---- what may be entered one level deeper

-- How far each of them looks, and that it passes a byte where a loop may hold it.
pub record InnerFlow (n : Inner) : Type 0 where
  pub element : {k : Mode} → L (pend pass) n.element shut k
  pub child_braces : {k : Mode} → L near n.child_braces shut k
  pub value_braces : {k : Mode} → L near n.value_braces shut k
  pub spread_braces : {k : Mode} → L near n.spread_braces shut k
  pub paren : {k : Mode} → L near n.paren near k
  pub bracket : {k : Mode} → L near n.bracket near k
  pub call : {k : Mode} → L near n.call near k
  pub prefix : {k : Mode} → L near n.prefix (pend blanks) k
  pub choice : {k : Mode} → L near n.choice (pend blanks) k
  pub spread_braces_advances : advances n.spread_braces ≡ true
  pub element_advances : advances n.element ≡ true
  pub child_braces_advances : advances n.child_braces ≡ true
  pub bracket_advances : advances n.bracket ≡ true
  pub call_advances : advances n.call ≡ true

-- Behind an element that is no child.
no_sibling_flow : (x : ℕ) → eqb x 0 ≡ false → {k : Mode} → L (pend blanks) (no_sibling x) (pend blanks) k
unfolding no_sibling sibling lacking closer
no_sibling_flow x e = search (blank_rules, e) depth 8

turn_advances : (f : Test) (op next : Rule) → advances op ≡ true → advances (joined_turn f op next) ≡ true
unfolding joined_turn advances blanks
turn_advances f op next a = rw a

joined_flow : (f : Test) (op next : Rule)
    → advances op ≡ true
    → ((k : Mode) → L near op near k)
    → ((k : Mode) → L near next (pend blanks) k)
    → {k : Mode} → L near (joined f op next) (pend blanks) k
unfolding joined joined_turn
joined_flow f op next a x y = search (blank_rules, turn_advances f op next a, x, y) depth 8

module _ (n : Inner) (h : InnerFlow n) where
  -- An element that is no child.
  element_near : {k : Mode} → L near n.element (pend blanks) k
  element_near = f_weak near_pend shut_pend same h.element

  postfix_turn_advances : advances (postfix_turn n) ≡ true
  unfolding postfix_turn advances blanks expect need
  postfix_turn_advances = rw (h.bracket_advances, h.call_advances)

  postfix_flow : {k : Mode} → L near (postfix n) (pend blanks) k
  unfolding postfix postfix_turn primary
  postfix_flow = search (flow_rules, postfix_turn_advances, h.paren, h.bracket, h.call) depth 12

  unary_flow : {k : Mode} → L near (unary n) (pend blanks) k
  unfolding unary lacking closer
  unary_flow = search (flow_rules, h.prefix, element_near, no_sibling_flow, postfix_flow) depth 8

  conditional_flow : {k : Mode} → L near (conditional n) (pend blanks) k
  unfolding conditional question either both sum product times plus_minus and_and or_or advances lacking closer
  conditional_flow = search (flow_rules, joined_flow, unary_flow, h.choice) depth 16

  expression_flow : {k : Mode} → L near (expression n) (pend blanks) k
  unfolding expression
  expression_flow = node_flow Kind.expression refl conditional_flow

  -- ---- braces

  container_again : {k : Mode} → L (pend pass) (container n) shut k
  unfolding container close_container closer
  container_again = node_flow Kind.container refl (search (flow_rules, expression_flow, expect_shut) depth 8)

  empty_braces_again : {k : Mode} → L (pend pass) empty_braces shut k
  unfolding empty_braces pass closer goes clear
  empty_braces_again = node_flow Kind.container refl
      (f_seq (f_pass refl refl step_near)
      (f_seq (node_flow Kind.empty_expression refl blanks_again) (expect_shut "}" refl)))

  dots_near : {k : Mode} → L near dots near k
  unfolding dots lacking closer
  dots_near = search byte_rules

  spread_again : (x : ℕ) → paired_label (node x 0) ≡ false → {k : Mode} → L (pend pass) (spread x n) shut k
  unfolding spread closer
  spread_again x e = node_flow x e (search (flow_rules, dots_near, expression_flow, expect_shut) depth 8)

  -- ---- tags

  value_flow : {k : Mode} → L near (value n) (pend blanks) k
  unfolding value
  value_flow = search (flow_rules, shut_to_pend, quoted_near, h.value_braces, element_near, no_sibling_flow) depth 8

  named_attribute_flow : {k : Mode} → L near (named_attribute n) (pend blanks) k
  unfolding named_attribute initializer
  named_attribute_flow = node_flow Kind.attribute refl (search (flow_rules, attribute_name_flow, value_flow) depth 8)

  attribute_turn_advances : advances (attribute_turn n) ≡ true
  unfolding attribute_turn attribute named_attribute attribute_name namespaced other_part part need advances blanks
  attribute_turn_advances = rw h.spread_braces_advances

  attributes_flow : {k : Mode} → L (pend blanks) (attributes n) near k
  unfolding attributes attribute_turn attribute
  attributes_flow =
      search (flow_rules, attribute_turn_advances, shut_to_pend, h.spread_braces, named_attribute_flow) depth 8

  tag_end_shut : L near tag_end shut shut
  unfolding tag_end closer
  tag_end_shut = f_when seen_near (f_seq pass_near (f_seq (expect_shut ">" refl) f_stop)) (expect_shut ">" refl)

  open_tag_again : L (pend pass) (open_tag n) shut shut
  unfolding open_tag
  open_tag_again = node_flow Kind.opening_tag refl
      (search (flow_rules, element_name_flow, attributes_flow, tag_end_shut))

  -- ---- children and elements

  child_flow : L near (child n) near (pend pass)
  unfolding child
  child_flow =
      search (flow_rules, after_near, pass_goes, stop_pend, shut_to_near, text_near, h.element, h.child_braces) depth 8

  child_advances : advances (child n) ≡ true
  unfolding child advances text
  child_advances = rw (h.element_advances, h.child_braces_advances)

  children_flow : {k : Mode} → L near (children n) (pend pass) k
  unfolding children
  children_flow = f_many child_advances child_flow

open_fragment_again : L (pend pass) open_fragment shut shut
unfolding open_fragment closer
open_fragment_again = node_flow Kind.opening_tag refl (f_seq pass_again (expect_shut ">" refl))

-- The `<` of a closing tag was looked over with the blanks behind it.
close_tag_again : {k : Mode} → L (pend pass) close_tag shut k
unfolding close_tag close_name expect pass goes clear closer
close_tag_again = node_flow Kind.closing_tag refl
    (f_seq (f_when seen_pend (f_pass refl refl step_near) (need_flow seen_pend))
    (search (flow_rules, element_name_flow, expect_shut) depth 10))

close_tag_clear : clear close_tag ≡ true
unfolding clear close_tag close_name expect need element_name namespaced member one_part other_part object dotted
    dotted_part
    part blanks blank comment comment_turn line_comment line_turn
close_tag_clear = refl

-- An element with d levels left inside.
module _ (d : ℕ) (h : InnerFlow (within d)) where
  -- What may stand between the two tags.
  pair_again : {t : Rule} → advances t ≡ true → L (pend pass) t shut shut
      → {k : Mode} → L (pend pass) (paired t d (content_of d) close_tag verdict) shut k
  unfolding goes children
  pair_again a x = f_paired {k' = shut} fair_verdict a x refl
      (f_weak shut_near same same (children_flow (within d) h)) close_tag_clear close_tag_again

  element_in_again : {k : Mode} → L (pend pass) (element_in d (within d)) shut k
  unfolding element_in fragment_in named_in open_tag open_fragment advances pass
  element_in_again = f_after pass_goes pass_near
      (f_wrap (steady_node Kind.fragment) (fragment_fits d (within d))
      (pair_again {t = open_fragment} refl open_fragment_again))
      (f_wrap steady_element (element_fits d (within d))
      (pair_again {t = open_tag (within d)} refl (open_tag_again (within d) h)))

  element_in_advances : advances (element_in d (within d)) ≡ true
  unfolding element_in fragment_in named_in open_tag open_fragment advances moves pass
  element_in_advances = refl

-- With no level left.
none_flow : InnerFlow no_level
unfolding no_level element_too_deep advances pass
none_flow = record {
  element = search (flow_rules, closer_heads);
  child_braces = f_refuse refl;
  value_braces = f_refuse refl;
  spread_braces = f_refuse refl;
  paren = f_refuse refl;
  bracket = f_refuse refl;
  call = f_refuse refl;
  prefix = f_refuse refl;
  choice = f_refuse refl;
  spread_braces_advances = refl;
  element_advances = refl;
  child_braces_advances = refl;
  bracket_advances = refl;
  call_advances = refl;
}

-- With one level more, the rules of the level.
level_flow : (d : ℕ) → InnerFlow (within d) → InnerFlow (level d (within d))
unfolding level child_braces_in value_braces_in empty_value_braces empty_braces spread container paren_in bracket_in
    call_in
    argument_turn prefix_in choice_in advances pass blanks
level_flow d h = let n = within d in record {
  element = element_in_again d h;
  child_braces = after_near pass_goes pass_near (empty_braces_again n h)
      (f_after pass_goes pass_near (spread_again n h Kind.spread_child refl) (container_again n h));
  value_braces = search (flow_rules, after_near, pass_goes, container_again n h) depth 8;
  spread_braces = f_weak near_pend same same (spread_again n h Kind.spread_attribute refl);
  paren = search (flow_rules, conditional_flow n h) depth 8;
  bracket = search (flow_rules, conditional_flow n h) depth 8;
  call = search (flow_rules, conditional_flow n h) depth 12;
  prefix = search (flow_rules, unary_flow n h);
  choice = search (flow_rules, conditional_flow n h) depth 8;
  spread_braces_advances = refl;
  element_advances = element_in_advances d h;
  child_braces_advances = refl;
  bracket_advances = refl;
  call_advances = refl;
}

-- So it is at every depth.
pub within_flow : (d : ℕ) → InnerFlow (within d)
unfolding within
within_flow zero = none_flow
within_flow (suc d) = level_flow d (within_flow d)

-- ---- the readings

-- Children may have looked over the `<` of a closing tag.
pub children_reach : (d : ℕ) {k : Mode} → L near (content_of d) (pend pass) k
children_reach d = children_flow (within d) (within_flow d)

-- So may a run.
pub run_flow : (d : ℕ) {k : Mode} → L near (run d) (pend pass) k
unfolding run
run_flow d = f_seq (children_reach d) (f_when seen_pend f_done (f_refuse refl))

-- A stage has looked at the byte behind it.
pub stage_flow : (d : ℕ) {k : Mode} → L near (stage d) near k
unfolding stage
stage_flow d = search (flow_rules, shut_to_pend, element_near (within d) (within_flow d), no_sibling_flow) depth 8

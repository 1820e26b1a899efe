-- A reading with less depth left is the same with more: what is accepted stays accepted, with the same
-- count and the same table.
use mathlib.Core.Path.{◌≡◌, refl, sym, ap, subst, ◌∙◌}
use mathlib.Core.Bool.{Bool, true, false}
use mathlib.Core.List.{List, [], ◌∷◌}
use Prim.Native.Nat.{ℕ, zero, suc, ◌+◌}
use Prim.Native.Char.{Char}
use native.Mathlib.Omega.{arith}
use lib.ListN.{length}
use lib.Dec.{eqb, leb, ltb}
use Rattle.rules.specs.Forest.{Label, node, content, Forest, nil, byte, group, width, inside}
use Rattle.rules.specs.Rule.{Test, fine, differ, Rule, wrap, paired}
use Rattle.rules.specs.Parse.{Answer, got, trouble, pick, and_then, parse_all}
use Rattle.rules.proofs.Run.{never, goes}
use Rattle.rules.proofs.Flow.{near, clear, IsNode, Steady}
use Rattle.rules.proofs.Stuck.{NotStuck, never_stuck}
use Rattle.rules.proofs.Deeper.{deepen_label, deepen, width_deepen, count_deepen, direct_deepen, inside_deepen}
use Rattle.rules.proofs.Deeper.{records_deepen, labels, is_node, fails, Deeper, deeper_clear, deeper_fails}
use Rattle.rules.proofs.Deeper.{deeper_refuse, deeper_done, deeper_stop, deeper_step, deeper_when, deeper_look}
use Rattle.rules.proofs.Deeper.{deeper_over, deeper_seq, deeper_many, deeper_wrap, deeper_marked, deeper_paired, Deep}
use Rattle.rules.proofs.Deeper.{deep, deeper_got}
use Rattle.jsx.specs.Kind as Kind
use Rattle.jsx.specs.Refusal.{too_long, names_differ, fragment_closed_by_name, element_closed_by_fragment}
use Rattle.jsx.specs.Refusal.{table_too_small}
use Rattle.jsx.specs.Byte.{need, expect}
use Rattle.jsx.specs.Utf8.{utf8}
use Rattle.jsx.specs.Blank.{comment_turn, comment, line_turn, line_comment, blank, blanks, pass}
use Rattle.jsx.specs.Name.{part, one_part, other_part, namespaced, dotted_part, object, dotted, member, element_name}
use Rattle.jsx.specs.Name.{attribute_name}
use Rattle.jsx.specs.Text.{text, quoted_turn, quoted_by, quoted}
use Rattle.jsx.specs.Word.{word, primary_word, digits, whole, fraction, number, string_turn, string_by, string}
use Rattle.jsx.specs.Expression.{Inner, sibling, no_sibling, primary, postfix_turn, postfix, unary, joined_turn}
use Rattle.jsx.specs.Expression.{joined, times, plus_minus, and_and, or_or, product, sum, both, either, question}
use Rattle.jsx.specs.Expression.{conditional, expression, paren_in, bracket_in, argument_turn, call_in, prefix_in}
use Rattle.jsx.specs.Expression.{choice_in}
use Rattle.jsx.specs.Braces.{close_container, container, empty_braces, dots, spread, child_braces_in}
use Rattle.jsx.specs.Braces.{empty_value_braces, value_braces_in}
use Rattle.jsx.specs.Tag.{value, initializer, named_attribute, attribute, attribute_turn, attributes, tag_end}
use Rattle.jsx.specs.Tag.{open_tag, open_fragment, close_name, close_tag}
use Rattle.jsx.specs.Closing.{TagName, no_name, named, further_on, name_in, nodes_of, several_parts, parts_of, all_same}
use Rattle.jsx.specs.Closing.{same_name, compared, verdict}
use Rattle.jsx.specs.Element.{child, children, paired_or_not, fragment_in, named_in, element_in}
use Rattle.jsx.specs.Depth.{element_too_deep, no_level, level, within}
use Rattle.jsx.specs.Reading.{Limits, stage, run, answer}
use Rattle.jsx.specs.Table.{Outcome, missing, refused, accepted, holds, written, checked, read_into, check, read}
use Rattle.jsx.proofs.Steady.{steady_one_name, steady_other_part, steady_object_name}
use Rattle.jsx.proofs.Paired.{well_paired}
use Rattle.jsx.proofs.Shape.{closer, content_of, run_flow, stage_flow}

-- ---- labels

is_node_lem : (l : Label) → IsNode l → is_node l ≡ true
is_node_lem (node n x) h = refl
is_node_lem (content d) h = absurd h

-- A steady label makes a node.
steady_is_node : {l : Forest → Label} → Steady l → (o : Forest) → is_node (l o) ≡ true
steady_is_node {l} st o = is_node_lem (l o) (st.plain o)

module _ (k : ℕ) where
  -- Whether a content stands in a forest, not what depth it has left.
  paired_deepen : (o : Forest) → paired_or_not (deepen k o) ≡ paired_or_not o
  unfolding deepen deepen_label paired_or_not
  paired_deepen nil = refl
  paired_deepen (byte b u) = paired_deepen u
  paired_deepen (group (node n x) c u) = paired_deepen u
  paired_deepen (group (content d) c u) = refl

  -- ---- the verdict

  deepen_name : TagName → TagName
  deepen_name no_name = no_name
  deepen_name (named p n c) = named p n (deepen k c)

  further_deepen : (n : ℕ) (x : TagName) → further_on n (deepen_name x) ≡ deepen_name (further_on n x)
  unfolding further_on deepen_name
  further_deepen n no_name = refl
  further_deepen n (named p l c) = refl

  -- The name of a tag is the same name,
  name_deepen : (u : Forest) → name_in (deepen k u) ≡ deepen_name (name_in u)
  unfolding deepen deepen_label name_in deepen_name
  name_deepen nil = refl
  name_deepen (byte b u) = ap (further_on 1) (name_deepen u) ∙ further_deepen 1 (name_in u)
  name_deepen (group (node n x) c u) = refl
  name_deepen (group (content d) c u) =
      (λ i. further_on (width_deepen k c i) (name_deepen u i)) ∙ further_deepen (width c) (name_in u)

  -- with the same parts.
  nodes_deepen : (u : Forest) → nodes_of (deepen k u) ≡ nodes_of u
  unfolding deepen deepen_label nodes_of
  nodes_deepen nil = refl
  nodes_deepen (byte b u) = nodes_deepen u
  nodes_deepen (group (node n x) c u) = λ i. direct_deepen k c i ∷ nodes_deepen u i
  nodes_deepen (group (content d) c u) = nodes_deepen u

  parts_deepen : (n : ℕ) (c : Forest) → parts_of n (deepen k c) ≡ parts_of n c
  unfolding parts_of
  parts_deepen n c = λ i. pick (several_parts n) (nodes_deepen c i) (direct_deepen k c i ∷ [])

  compared_deepen : (m n : ℕ) (x y : TagName) → compared m n (deepen_name x) (deepen_name y) ≡ compared m n x y
  unfolding compared deepen_name same_name
  compared_deepen m n no_name no_name = refl
  compared_deepen m n no_name (named q l d) = λ i. differ fragment_closed_by_name 0 m q (q + width_deepen k d i)
  compared_deepen m n (named p h c) no_name = λ i. differ element_closed_by_fragment p (p + width_deepen k c i) 0 n
  compared_deepen m n (named p h c) (named q l d) =
      λ i. pick (pick (eqb h l) (all_same (parts_deepen h c i) (parts_deepen l d i)) false) fine
      (differ names_differ p (p + width_deepen k c i) q (q + width_deepen k d i))

  -- The verdict on two tags does not ask how much depth is left.
  pub verdict_deepen : (o r : Forest) → verdict (deepen k o) (deepen k r) ≡ verdict o r
  unfolding verdict
  verdict_deepen o r =
      (λ i. compared (width_deepen k o i) (width_deepen k r i) (tag o i) (tag r i))
      ∙ compared_deepen (width o) (width r) (name_in (inside o)) (name_in (inside r))
    where
      tag : (u : Forest) → name_in (inside (deepen k u)) ≡ deepen_name (name_in (inside u))
      tag u = ap name_in (inside_deepen k u) ∙ name_deepen (inside u)

  -- ---- rules that make no node

  need_deeper : Deeper k need need
  unfolding need clear labels
  need_deeper = deeper_clear refl tt

  expect_deeper : (c : Char) → Deeper k (expect c) (expect c)
  unfolding expect need clear labels
  expect_deeper c = deeper_clear refl tt

  blanks_deeper : Deeper k blanks blanks
  unfolding blanks blank comment comment_turn line_comment line_turn clear labels
  blanks_deeper = deeper_clear refl tt

  pass_deeper : Deeper k pass pass
  unfolding pass
  pass_deeper = deeper_seq deeper_step blanks_deeper

  word_deeper : Deeper k word word
  unfolding word need clear labels
  word_deeper = deeper_clear refl tt

  primary_word_deeper : Deeper k primary_word primary_word
  unfolding primary_word word need clear labels
  primary_word_deeper = deeper_clear refl tt

  number_deeper : Deeper k number number
  unfolding number whole fraction digits clear labels
  number_deeper = deeper_clear refl tt

  string_deeper : Deeper k string string
  unfolding string string_by string_turn clear labels
  string_deeper = deeper_clear refl tt

  -- ---- names

  -- A part of a name, whatever its label.
  part_deeper : {l : Forest → Label} → Steady l → Deeper k (wrap l part) (wrap l part)
  unfolding part need clear labels
  part_deeper {l} st = deeper_clear {t = wrap l part} refl (steady_is_node st, tt)

  dotted_part_deeper : Deeper k dotted_part dotted_part
  unfolding dotted_part other_part part need clear labels
  dotted_part_deeper = deeper_clear {t = dotted_part} refl (steady_is_node steady_other_part, tt)

-- Rule by rule, and under a node.
ruleset shape_rules = (
  deeper_refuse,
  deeper_done,
  deeper_stop,
  deeper_step,
  deeper_when,
  deeper_look,
  deeper_over,
  deeper_seq,
  deeper_many,
  deeper_wrap,
  deeper_marked,
)

ruleset name_rules = (
  shape_rules,
  blanks_deeper,
  expect_deeper,
  part_deeper,
  dotted_part_deeper,
  steady_one_name,
  steady_other_part,
  steady_object_name,
)

module _ (k : ℕ) where
  element_name_deeper : Deeper k element_name element_name
  unfolding element_name namespaced member object dotted one_part other_part deepen_label
  element_name_deeper = search name_rules depth 12

  attribute_name_deeper : Deeper k attribute_name attribute_name
  unfolding attribute_name namespaced other_part deepen_label
  attribute_name_deeper = search name_rules depth 12

  -- ---- braces and tags with nothing of a deeper level

  empty_value_braces_deeper : Deeper k empty_value_braces empty_value_braces
  unfolding empty_value_braces fails pass blanks expect need goes
  empty_value_braces_deeper = deeper_fails refl

  close_tag_deeper : Deeper k close_tag close_tag
  unfolding close_tag close_name deepen_label
  close_tag_deeper = search (name_rules, element_name_deeper) depth 12

-- ---- what may be entered one level deeper

-- What may be entered with n, and with k more levels in n'.
pub record InnerDeeper (k : ℕ) (n n' : Inner) : Type 0 where
  pub element : Deeper k n.element n'.element
  pub child_braces : Deeper k n.child_braces n'.child_braces
  pub value_braces : Deeper k n.value_braces n'.value_braces
  pub spread_braces : Deeper k n.spread_braces n'.spread_braces
  pub paren : Deeper k n.paren n'.paren
  pub bracket : Deeper k n.bracket n'.bracket
  pub call : Deeper k n.call n'.call
  pub prefix : Deeper k n.prefix n'.prefix
  pub choice : Deeper k n.choice n'.choice

joined_deeper : (k : ℕ) (f : Test) (op next next' : Rule)
    → Deeper k op op
    → Deeper k next next'
    → Deeper k (joined f op next) (joined f op next')
unfolding joined joined_turn
joined_deeper k f op next next' o h = search (shape_rules, blanks_deeper, o, h) depth 8

ruleset deeper_rules = (
  shape_rules,
  need_deeper,
  expect_deeper,
  blanks_deeper,
  pass_deeper,
  word_deeper,
  primary_word_deeper,
  number_deeper,
  string_deeper,
  joined_deeper,
)

module _ (k : ℕ) (n n' : Inner) (h : InnerDeeper k n n') where
  unary_deeper : Deeper k (unary n) (unary n')
  unfolding unary postfix postfix_turn primary no_sibling sibling
  unary_deeper = search (deeper_rules, h.prefix, h.element, h.paren, h.bracket, h.call) depth 12

  conditional_deeper : Deeper k (conditional n) (conditional n')
  unfolding conditional question either both sum product times plus_minus and_and or_or
  conditional_deeper = search (deeper_rules, unary_deeper, h.choice) depth 12

  container_deeper : Deeper k (container n) (container n')
  unfolding container close_container expression deepen_label
  container_deeper = search (deeper_rules, conditional_deeper) depth 8

  spread_deeper : (x : ℕ) → Deeper k (spread x n) (spread x n')
  unfolding spread dots expression deepen_label
  spread_deeper x = search (deeper_rules, conditional_deeper) depth 9

  value_deeper : Deeper k (value n) (value n')
  unfolding value quoted quoted_by quoted_turn no_sibling sibling deepen_label
  value_deeper = search (deeper_rules, h.value_braces, h.element) depth 12

  open_tag_deeper : Deeper k (open_tag n) (open_tag n')
  unfolding open_tag attributes attribute_turn attribute named_attribute initializer tag_end deepen_label
  open_tag_deeper =
      search (deeper_rules, element_name_deeper, attribute_name_deeper, value_deeper, h.spread_braces) depth 16

  -- Children,
  pub children_deeper : Deeper k (children n) (children n')
  unfolding children child text deepen_label
  children_deeper = search (deeper_rules, h.element, h.child_braces) depth 12

  -- A content between two tags, with d levels left inside it.
  pair_deeper : (d : ℕ) {t t' : Rule} → Deeper k t t'
      → Deeper k (paired t d (children n) close_tag verdict) (paired t' (k + d) (children n') close_tag verdict)
  pair_deeper d x = deeper_paired (λ o r e. verdict_deepen k o r ∙ e) x children_deeper (close_tag_deeper k)

  element_label : (o : Forest)
      → node Kind.element (paired_or_not (deepen k o)) ≡ deepen_label k (node Kind.element (paired_or_not o))
  unfolding deepen_label
  element_label o = ap (node Kind.element) (paired_deepen k o)

  level_deeper : (d : ℕ) → InnerDeeper k (level d n) (level (k + d) n')
  unfolding level element_in fragment_in named_in open_fragment child_braces_in empty_braces value_braces_in paren_in
      bracket_in
      call_in argument_turn prefix_in choice_in deepen_label
  level_deeper d = record {
    element = search (deeper_rules, pair_deeper, open_tag_deeper, element_label) depth 8;
    child_braces = search (deeper_rules, spread_deeper, container_deeper) depth 8;
    value_braces = search (deeper_rules, empty_value_braces_deeper, container_deeper);
    spread_braces = spread_deeper Kind.spread_attribute;
    paren = search (deeper_rules, conditional_deeper);
    bracket = search (deeper_rules, conditional_deeper);
    call = search (deeper_rules, conditional_deeper) depth 12;
    prefix = search (deeper_rules, unary_deeper);
    choice = search (deeper_rules, conditional_deeper) depth 8;
  }

element_too_deep_fails : fails element_too_deep ≡ true
unfolding fails element_too_deep pass blanks need goes
element_too_deep_fails = refl

-- No level is left, so nothing is read.
none_deeper : (k : ℕ) (n : Inner) → InnerDeeper k no_level n
unfolding no_level
none_deeper k n = record {
  element = deeper_fails element_too_deep_fails;
  child_braces = deeper_refuse;
  value_braces = deeper_refuse;
  spread_braces = deeper_refuse;
  paren = deeper_refuse;
  bracket = deeper_refuse;
  call = deeper_refuse;
  prefix = deeper_refuse;
  choice = deeper_refuse;
}

-- What is entered with d levels left is entered with k more.
pub within_deeper : (k d : ℕ) → InnerDeeper k (within d) (within (k + d))
unfolding within
within_deeper k zero = none_deeper k (within (k + 0))
within_deeper k (suc d) =
    let e : suc (k + d) ≡ k + suc d = omega arith in
    subst (λ (m : ℕ). InnerDeeper k (level d (within d)) (within m)) e
    (level_deeper k (within d) (within (k + d)) (within_deeper k d) d)

-- ---- the readings

-- A run with more depth left,
pub run_deeper : (k d : ℕ) → Deeper k (run d) (run (k + d))
unfolding run
run_deeper k d =
    deeper_seq (children_deeper k (within d) (within (k + d)) (within_deeper k d))
    (deeper_when deeper_done deeper_refuse)

-- and a stage.
pub stage_deeper : (k d : ℕ) → Deeper k (stage d) (stage (k + d))
unfolding stage no_sibling sibling
stage_deeper k d = search (deeper_rules, (within_deeper k d).element) depth 8

-- A reading that stays the same with more depth, and is never stuck: `run` and `stage`.
pub record Deepens (reading : ℕ → Rule) : Type 0 where
  pub deeper : (k d : ℕ) → Deeper k (reading d) (reading (k + d))
  pub numbered : (d : ℕ) (s : List ℕ) → NotStuck (parse_all (reading d) s)

-- Runs do,
pub run_deepens : Deepens run
run_deepens =
    record {
      deeper = run_deeper;
      numbered = λ d s. never_stuck content_of closer well_paired
          (run_flow d {k = near}) s;
    }

-- and stages.
pub stage_deepens : Deepens stage
stage_deepens =
    record {
      deeper = stage_deeper;
      numbered = λ d s. never_stuck content_of closer well_paired (stage_flow d
          {k = near}) s;
    }

-- What is read with d levels is read with k more, with the same bytes, nodes and places.
pub reads_deeper : {reading : ℕ → Rule}
    → Deepens reading
    → (k d : ℕ) (s : List ℕ) {a : Bool} {u : Forest} {p : ℕ} → parse_all (reading d) s ≡ got a u p
    → parse_all (reading (k + d)) s ≡ got a (deepen k u) p
unfolding parse_all
reads_deeper r k d s e = deeper_got k s (suc (length s)) (r.deeper k d) 0 0 e

-- Of a run.
pub run_reads_deeper : (k d : ℕ) (s : List ℕ) {a : Bool} {u : Forest} {p : ℕ}
    → parse_all (run d) s ≡ got a u p
    → parse_all (run (k + d)) s ≡ got a (deepen k u) p
run_reads_deeper = reads_deeper run_deepens

-- ---- the calls

-- If the first answer is accepted, the second has the same outcome.
abbrev Stays : (Answer → Outcome) → Answer → Answer → Type 0
Stays f x y = (f x).number ≡ 0 → f y ≡ f x

-- No refusal has the number 0.
not_zero : {X : Type 0} (n : ℕ) → eqb n 0 ≡ false → n ≡ 0 → X
not_zero n h e = never (sym h ∙ ap (λ (m : ℕ). eqb m 0) e)

-- The number of an outcome tells what was got from what was refused.
checked_stays : (k : ℕ) (x y : Answer) → Deep k x y → NotStuck x → Stays checked x y
unfolding checked accepted refused
checked_stays k (got a u p) y h n e = ap checked h ∙ ap (λ (m : ℕ). accepted m []) (count_deepen k u)
checked_stays k (trouble m a b c d) y h n e = not_zero m n e

read_into_stays : (k : ℕ) (t : List ℕ) (x y : Answer) → Deep k x y → NotStuck x → Stays (read_into t) x y
unfolding read_into accepted refused
read_into_stays k t (got a u p) y h n e =
    ap (read_into t) h ∙ (λ i. into (count_deepen k u i) (records_deepen k u 0 0 missing 0 i))
  where
    into : ℕ → List ℕ → Outcome
    into m rows = pick (leb m (holds t)) (accepted m (written rows t)) (refused table_too_small m 0 0 0 t)
read_into_stays k t (trouble m a b c d) y h n e = not_zero m n e

-- The tests before the reading do not ask for the depth.
answer_stays : (f : Answer → Outcome) (b : Bool) (w x y : Answer)
    → Stays f x y
    → Stays f (pick b (trouble too_long 0 0 0 0) (and_then w (λ a o p. x)))
    (pick b (trouble too_long 0 0 0 0) (and_then w (λ a o p. y)))
answer_stays f true w x y h e = refl
answer_stays f false (got a o p) x y h e = h e
answer_stays f false (trouble n a b c d) x y h e = refl

module _ {reading : ℕ → Rule} (r : Deepens reading) (k : ℕ) (l l' : Limits) (bytes : l'.bytes ≡ l.bytes)
    (depth : l'.depth ≡ k + l.depth) (s : List ℕ) where
  stays : (f : Answer → Outcome)
      → ((x y : Answer) → Deep k x y → NotStuck x → Stays f x y)
      → Stays f (answer l reading s) (answer l' reading s)
  unfolding answer
  stays f h =
      rw (bytes, depth) (answer_stays f (ltb l.bytes (length s)) (parse_all utf8 s) less more (h less more
      (unfold parse_all in deep k s (suc (length s)) (r.deeper k l.depth) 0 0) (r.numbered l.depth s)))
    where
      less : Answer
      less = parse_all (reading l.depth) s

      more : Answer
      more = parse_all (reading (k + l.depth)) s

  -- Of runs by `run_deepens`, of stages by `stage_deepens`: a check that accepts accepts with k more
  -- levels, with the same count;
  pub check_deeper : (check l reading s).number ≡ 0 → check l' reading s ≡ check l reading s
  unfolding check
  check_deeper = stays checked (checked_stays k)

  -- and a read writes the same table.
  pub read_deeper : (t : List ℕ) → (read l reading s t).number ≡ 0 → read l' reading s t ≡ read l reading s t
  unfolding read
  read_deeper t = stays (read_into t) (read_into_stays k t)

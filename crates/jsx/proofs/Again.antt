-- One look decides, and what it looked over is read again, the same:
-- the language's three looks are blanks, a byte with the blanks behind it, and a name part with the blanks behind it.
use mathlib.Core.Path.{◌≡◌, refl, ap, ◌∙◌}
use mathlib.Core.Bool.{true, false}
use mathlib.Core.List.{List}
use Prim.Native.Nat.{ℕ, ◌+◌, ◌<◌}
use Prim.Native.Char.{Char}
use lib.ListN.{length}
use Rattle.rules.specs.Forest.{node, Forest, nil, byte, group, ◌⋈◌, direct}
use Rattle.rules.specs.Rule.{Test, Rule, done, stop, step, refuse, after, many, from_mark, node_of, ◌⨾◌}
use Rattle.rules.specs.Parse.{Answer, got, pick, behind, byte_at, parse}
use Rattle.rules.proofs.Run.{behind_behind}
use Rattle.rules.proofs.Again.{grouped, step_got, wrap_answer, wrap_got, after_got, choice_got, again, again_wrap}
use Rattle.rules.proofs.Again.{again_own, again_marked, again_two, two_got}
use Rattle.jsx.specs.Kind as Kind
use Rattle.jsx.specs.Refusal.{empty_value}
use Rattle.jsx.specs.Byte.{is, ◌or◌, expect}
use Rattle.jsx.specs.Blank.{blanks, pass}
use Rattle.jsx.specs.Name.{dashed, one_name, object_name, part, one_part, other_part, namespaced, dotted_part, object}
use Rattle.jsx.specs.Name.{dotted, member, element_name, attribute_name}
use Rattle.jsx.specs.Word.{word}
use Rattle.jsx.specs.Expression.{Inner, sibling, no_sibling, postfix_turn, unary, times, plus_minus, and_and, or_or}
use Rattle.jsx.specs.Expression.{question, expression}
use Rattle.jsx.specs.Braces.{close_container, container, empty_braces, dots, spread, child_braces_in}
use Rattle.jsx.specs.Braces.{empty_value_braces, value_braces_in}
use Rattle.jsx.specs.Tag.{value, initializer, attributes, tag_end, open_tag, open_fragment, close_name, close_tag}
use Rattle.jsx.specs.Element.{fragment_in, named_in, element_in}
use Rattle.jsx.proofs.Ladder.{flat_turn, loose_turn}

-- A node of a kind around what was read.
abbrev pub node_around : ℕ → Answer → Answer
node_around k x = grouped (λ u. node k 0) x

-- The node of a name of one part.
abbrev pub one_part_of : Forest → Forest
one_part_of w = group (one_name (direct w)) w nil

-- The node of another part of a name.
abbrev pub other_part_of : Forest → Forest
other_part_of w = group (node Kind.other_part (dashed (direct w))) w nil

-- The node of a member's first part.
abbrev pub object_of : Forest → Forest
object_of w = group (object_name (direct w)) w nil

-- The node of what stands in braces with nothing in them.
abbrev pub empty_of : Forest → Forest
empty_of v = group (node Kind.empty_expression 0) v nil

module _ (s : List ℕ) (F e at : ℕ) where
  does_nothing : parse s F done e at ≡ got true nil at
  unfolding parse
  does_nothing = refl

  stops_here : parse s F stop e at ≡ got false nil at
  unfolding parse
  stops_here = refl

  -- A byte that is asked for and is there.
  expect_got : (c : Char)
      → is c (byte_at s at) ≡ true
      → at < length s
      → parse s F (expect c) e at ≡ got true (byte (byte_at s at) nil) (at + 1)
  unfolding expect parse
  expect_got c k i = rw k (step_got s F e at i)

  -- ---- blanks

  module _ {o : Forest} {q : ℕ} (h : parse s F blanks e at ≡ got true o q) where
    -- Blanks in front of any rule are read again, the same, and then the rule.
    pub blanks_again : (t : Rule) → parse s F (blanks ⨾ t) e at ≡ behind o (parse s F t e q)
    blanks_again t = again s F blanks e at h t

    -- A choice behind blanks, and what is left where it is not taken.
    pub choice_behind : (f : Test) (t u : Rule) {y : Answer}
        → parse s F u e at ≡ y
        → parse s F (after blanks f (blanks ⨾ t) u) e at ≡ pick (f (byte_at s q)) (behind o (parse s F t e q)) y
    choice_behind f t u k = choice_got s F blanks e at h f (blanks ⨾ t) u (blanks_again t) k

    -- Behind blanks, `<` begins a sibling; else nothing is read.
    pub no_sibling_once : (n : ℕ)
        → parse s F (no_sibling n) e at
        ≡ pick (is "<" (byte_at s q)) (behind o (parse s F (sibling n) e q)) (got true nil at)
    unfolding no_sibling
    no_sibling_once n = choice_behind (is "<") (sibling n) done does_nothing

    -- Behind blanks, `.` begins one more part of a member; else its loop stops.
    pub dotted_once : parse s F dotted e at
        ≡ pick (is "." (byte_at s q)) (behind o (parse s F (expect "." ⨾ blanks ⨾ dotted_part) e q)) (got false nil at)
    unfolding dotted
    dotted_once = choice_behind (is ".") (expect "." ⨾ blanks ⨾ dotted_part) stop stops_here

    -- Behind blanks, `=` begins an attribute's value; else nothing is read.
    pub initializer_once : (n : Inner)
        → parse s F (initializer n) e at
        ≡ pick (is "=" (byte_at s q)) (behind o (parse s F (expect "=" ⨾ blanks ⨾ value n) e q)) (got true nil at)
    unfolding initializer
    initializer_once n = choice_behind (is "=") (expect "=" ⨾ blanks ⨾ value n) done does_nothing

    -- Behind blanks, `?` begins what follows a condition; else nothing is read.
    pub question_once : (n : Inner)
        → parse s F (after blanks (is "?") (blanks ⨾ question n) done) e at
        ≡ pick (is "?" (byte_at s q)) (behind o (parse s F (question n) e q)) (got true nil at)
    question_once n = choice_behind (is "?") (question n) done does_nothing

    -- Behind blanks, `.`, `[` or `(` begins one more turn of a postfix; else its loop stops.
    pub postfix_turn_once : (n : Inner) → parse s F (postfix_turn n) e at ≡
        pick (is "." (byte_at s q)) (behind o (parse s F (expect "." ⨾ blanks ⨾ word) e q))
        (pick (is "[" (byte_at s q)) (behind o (parse s F n.bracket e q))
        (pick (is "(" (byte_at s q)) (behind o (parse s F n.call e q)) (got false nil at)))
    unfolding postfix_turn
    postfix_turn_once n = choice_behind (is ".") _ _
        (choice_behind (is "[") _ _ (choice_behind (is "(") _ _ stops_here))

    -- Behind blanks, `*`, `+`, `-`, `&` or `|` begins an operator with one more unary; else the loop stops.
    pub flat_turn_once : (n : Inner) → parse s F (flat_turn n) e at ≡
        pick (is "*" (byte_at s q)) (behind o (parse s F (times ⨾ blanks ⨾ unary n) e q))
        (pick ((is "+" or is "-") (byte_at s q)) (behind o (parse s F (plus_minus ⨾ blanks ⨾ unary n) e q))
        (pick (is "&" (byte_at s q)) (behind o (parse s F (and_and ⨾ blanks ⨾ unary n) e q))
        (pick (is "|" (byte_at s q)) (behind o (parse s F (or_or ⨾ blanks ⨾ unary n) e q)) (got false nil at))))
    unfolding flat_turn
    flat_turn_once n =
        choice_behind (is "*") _ _
        (choice_behind (is "+" or is "-") _ _ (choice_behind (is "&") _ _ (choice_behind (is "|") _ _ stops_here)))

    -- The same, with the loosest operator tried first.
    pub loose_turn_once : (n : Inner) → parse s F (loose_turn n) e at ≡
        pick (is "|" (byte_at s q)) (behind o (parse s F (or_or ⨾ blanks ⨾ unary n) e q))
        (pick (is "&" (byte_at s q)) (behind o (parse s F (and_and ⨾ blanks ⨾ unary n) e q))
        (pick ((is "+" or is "-") (byte_at s q)) (behind o (parse s F (plus_minus ⨾ blanks ⨾ unary n) e q))
        (pick (is "*" (byte_at s q)) (behind o (parse s F (times ⨾ blanks ⨾ unary n) e q)) (got false nil at))))
    unfolding loose_turn
    loose_turn_once n =
        choice_behind (is "|") _ _
        (choice_behind (is "&") _ _ (choice_behind (is "+" or is "-") _ _ (choice_behind (is "*") _ _ stops_here)))

  -- ---- a byte, and the blanks behind it

  module _ {o : Forest} {q : ℕ} (h : parse s F pass e at ≡ got true o q) where
    -- A byte with the blanks behind it, in front of any rule, is read again, the same, and then the rule.
    pub pass_again : (t : Rule) → parse s F (pass ⨾ t) e at ≡ behind o (parse s F t e q)
    pass_again t = again s F pass e at h t

    -- In a node.
    pub node_again : (k : ℕ) (t : Rule)
        → parse s F (node_of k (pass ⨾ t)) e at ≡ node_around k (behind o (parse s F t e q))
    node_again k t = again_wrap s F pass e at h (λ u. node k 0) t

    -- A container begins by what was looked over; then an expression, and the end of the container.
    pub container_again : (n : Inner)
        → parse s F (container n) e at
        ≡ node_around Kind.container (behind o (parse s F (expression n ⨾ blanks ⨾ close_container) e q))
    unfolding container
    container_again n = node_again Kind.container _

    -- A spread begins by what was looked over; then dots, an expression and `}`.
    pub spread_again : (k : ℕ) (n : Inner)
        → parse s F (spread k n) e at
        ≡ node_around k (behind o (parse s F (dots ⨾ blanks ⨾ expression n ⨾ blanks ⨾ expect "}") e q))
    unfolding spread
    spread_again k n = node_again k _

    -- An opening tag begins by what was looked over; then a name, attributes and the tag's end.
    pub open_tag_again : (n : Inner)
        → parse s F (open_tag n) e at
        ≡ node_around Kind.opening_tag (behind o (parse s F (element_name ⨾ attributes n ⨾ tag_end) e q))
    unfolding open_tag
    open_tag_again n = node_again Kind.opening_tag _

    -- A fragment's opening tag begins by what was looked over; then `>`.
    pub open_fragment_again : parse s F open_fragment e at
        ≡ node_around Kind.opening_tag (behind o (parse s F (expect ">") e q))
    unfolding open_fragment
    open_fragment_again = node_again Kind.opening_tag _

    -- An empty value begins by what was looked over; then `}`, and the refusal, marked where the value begins.
    pub empty_value_again : parse s F empty_value_braces e at
        ≡ behind o (parse s F (expect "}" ⨾ refuse empty_value from_mark) at q)
    unfolding empty_value_braces
    empty_value_again = again_marked s F pass e at h _

    -- `}` tells an empty value from a container.
    pub value_braces_in_once : (n : Inner) → parse s F (value_braces_in n) e at ≡
        pick (is "}" (byte_at s q)) (behind o (parse s F (expect "}" ⨾ refuse empty_value from_mark) at q))
        (node_around Kind.container (behind o (parse s F (expression n ⨾ blanks ⨾ close_container) e q)))
    unfolding value_braces_in
    value_braces_in_once n =
        choice_got s F pass e at h (is "}") empty_value_braces (container n) empty_value_again (container_again n)

    -- A `>` tells a fragment from an element.
    pub element_in_once : (d : ℕ) (n : Inner)
        → parse s F (element_in d n) e at
        ≡ pick (is ">" (byte_at s q)) (parse s F (fragment_in d n) e at) (parse s F (named_in d n) e at)
    unfolding element_in
    element_in_once d n = after_got s F pass e at h (is ">") (fragment_in d n) (named_in d n)

    -- A `/` ends the children.
    pub close_once : (n : Inner)
        → parse s F (after pass (is "/") stop n.element) e at
        ≡ pick (is "/" (byte_at s q)) (got false nil at) (parse s F n.element e at)
    close_once n = choice_got s F pass e at h (is "/") stop n.element stops_here refl

  -- The same from the byte, which is there, and the blanks.
  module _ (inside : at < length s) {v : Forest} {q : ℕ} (h : parse s F blanks e (at + 1) ≡ got true v q) where
    -- A byte within the input, and the blanks behind it, are got as one.
    pub pass_got : parse s F pass e at ≡ got true (byte (byte_at s at) v) q
    unfolding pass ◌⋈◌
    pass_got = two_got s F step blanks e at (step_got s F e at inside) h

    -- A closing tag, whose `<` was looked over with the blanks behind it.
    pub close_tag_again : is "<" (byte_at s at) ≡ true
        → parse s F close_tag e at ≡ node_around Kind.closing_tag
        (behind (byte (byte_at s at) v) (parse s F (expect "/" ⨾ blanks ⨾ close_name ⨾ blanks ⨾ expect ">") e q))
    unfolding close_tag ◌⋈◌
    close_tag_again k =
        wrap_answer s F (λ u. node Kind.closing_tag 0) _ e at
        ∙ ap (node_around Kind.closing_tag)
        (again_two s F (expect "<") blanks _ e at (two_got s F (expect "<") blanks e at (expect_got "<" k inside) h))

    -- Empty braces begin by the byte, and by the blanks in a node of their own; then `}`.
    pub empty_braces_again : parse s F empty_braces e at
        ≡ node_around Kind.container (behind (byte (byte_at s at) (empty_of v)) (parse s F (expect "}") e q))
    unfolding empty_braces ◌⋈◌
    empty_braces_again =
        again_wrap s F step e at (step_got s F e at inside) (λ u. node Kind.container 0)
        (node_of Kind.empty_expression blanks ⨾ expect "}")
        ∙ ap (λ (x : Answer). node_around Kind.container (behind (byte (byte_at s at) nil) x))
        (again_own s F blanks e (at + 1) h (λ u. node Kind.empty_expression 0) (expect "}"))
        ∙ ap (node_around Kind.container)
        (behind_behind (byte (byte_at s at) nil) (empty_of v) (parse s F (expect "}") e q))

    -- `}` tells empty braces, and `.` a spread, from a container.
    pub child_braces_in_once : (n : Inner) → parse s F (child_braces_in n) e at ≡
        pick (is "}" (byte_at s q))
        (node_around Kind.container (behind (byte (byte_at s at) (empty_of v)) (parse s F (expect "}") e q)))
        (pick (is "." (byte_at s q)) (node_around Kind.spread_child
        (behind (byte (byte_at s at) v) (parse s F (dots ⨾ blanks ⨾ expression n ⨾ blanks ⨾ expect "}") e q)))
        (node_around Kind.container
        (behind (byte (byte_at s at) v) (parse s F (expression n ⨾ blanks ⨾ close_container) e q))))
    unfolding child_braces_in
    child_braces_in_once n = choice_got s F pass e at pass_got (is "}") _ _ empty_braces_again
        (choice_got s F pass e at pass_got (is ".") (spread Kind.spread_child n) (container n)
        (spread_again pass_got Kind.spread_child n) (container_again pass_got n))

  -- ---- a part of a name, and the blanks behind it

  -- A part with the blanks behind it, in front of any rule, is read again, the same, and then the rule.
  pub look_again : {o : Forest} {q : ℕ}
      → parse s F (part ⨾ blanks) e at ≡ got true o q
      → (t : Rule) → parse s F (part ⨾ blanks ⨾ t) e at ≡ behind o (parse s F t e q)
  look_again h t = again_two s F part blanks t e at h

  module _ {w : Forest} {p : ℕ} (h : parse s F part e at ≡ got true w p) where
    -- A name of one part is that part, in a node.
    pub one_part_again : parse s F one_part e at ≡ got true (one_part_of w) p
    unfolding one_part
    one_part_again = wrap_got s F part e at h (λ u. one_name (direct u))

    -- Another part of a name is that part, in a node.
    pub other_part_again : parse s F other_part e at ≡ got true (other_part_of w) p
    unfolding other_part
    other_part_again = wrap_got s F part e at h (λ u. node Kind.other_part (dashed (direct u)))

    -- A member begins by that part, in a node of its own; then the parts behind dots.
    pub member_again : parse s F member e at
        ≡ node_around Kind.member (behind (object_of w) (parse s F (many dotted) e p))
    unfolding member object
    member_again =
        again_wrap s F object e at (wrap_got s F part e at h (λ u. object_name (direct u))) (λ u. node Kind.member 0)
        (many dotted)

    module _ {v : Forest} {q : ℕ} (k : parse s F blanks e p ≡ got true v q) where
      -- A part, and the blanks behind it, are got as one.
      pub look_got : parse s F (part ⨾ blanks) e at ≡ got true (w ⋈ v) q
      look_got = two_got s F part blanks e at h k

      -- A namespaced name begins by that part, in a node of its own, and the blanks; then a colon and another part.
      pub namespaced_again : parse s F namespaced e at ≡ node_around Kind.namespaced
          (behind (other_part_of w) (behind v (parse s F (expect ":" ⨾ blanks ⨾ other_part) e q)))
      unfolding namespaced
      namespaced_again = again_wrap s F other_part e at other_part_again (λ u. node Kind.namespaced 0) _
          ∙ ap (λ (x : Answer). node_around Kind.namespaced (behind (other_part_of w) x))
          (again s F blanks e p k (expect ":" ⨾ blanks ⨾ other_part))

      -- One look tells the form of an element's name: `:` a namespaced one, `.` a member, else one part.
      pub element_name_once : parse s F element_name e at ≡
          pick (is ":" (byte_at s q)) (node_around Kind.namespaced
          (behind (other_part_of w) (behind v (parse s F (expect ":" ⨾ blanks ⨾ other_part) e q))))
          (pick (is "." (byte_at s q)) (node_around Kind.member (behind (object_of w) (parse s F (many dotted) e p)))
          (got true (one_part_of w) p))
      unfolding element_name
      element_name_once =
          choice_got s F (part ⨾ blanks) e at look_got (is ":") _ _ namespaced_again
          (choice_got s F (part ⨾ blanks) e at look_got (is ".") member one_part member_again one_part_again)

      -- One look tells the form of an attribute's name: `:` a namespaced one, else one part.
      pub attribute_name_once : parse s F attribute_name e at ≡
          pick (is ":" (byte_at s q)) (node_around Kind.namespaced
          (behind (other_part_of w) (behind v (parse s F (expect ":" ⨾ blanks ⨾ other_part) e q))))
          (got true (other_part_of w) p)
      unfolding attribute_name
      attribute_name_once =
          choice_got s F (part ⨾ blanks) e at look_got (is ":") namespaced other_part namespaced_again other_part_again

-- Names of elements and attributes. Chapter 'Markup'; their kinds, chapter 'The table'.
use Rattle.std.specs.Prelude.{ℕ, Bool, true, false, List, [], ◌∷◌, eqb}
use Prim.Native.Char.{Char, code}
use Rattle.rules.specs.Forest.{Label, node, direct, inside}
use Rattle.rules.specs.Rule.{Test, Rule, done, stop, refuse, when_char, after, many, wrap, said, marked, from_mark}
use Rattle.rules.specs.Rule.{node_of, ◌⨾◌, ◌⇒◌∣◌}
use Rattle.rules.specs.Parse.{pick}
use Rattle.jsx.specs.Refusal.{dash_after_dot}
use Rattle.jsx.specs.Kind as Kind
use Rattle.jsx.specs.Byte.{bytes_of, is, ◌‥◌, ◌or◌, letter, digit, character, need, expect}
use Rattle.jsx.specs.Blank.{blanks}
use Rattle.jsx.specs.Unicode.{id_start, id_continue}

-- Names in braces, by their bytes. D2: "Names in braces stay ASCII."
unfoldable pub opens_name : Test
opens_name = letter or is "_" or is "$"

unfoldable pub in_word : Test
in_word = opens_name or digit

-- Names in tags, by their characters. D2: "Name parts take ID_Start, `$` and `_` first, then ID_Continue, `$`, U+200C,
-- U+200D and `-`".
unfoldable pub opens_part : Test
opens_part = id_start or is "$" or is "_"

unfoldable pub in_part : Test
in_part = id_continue or is "$" or is "\u{200c}" or is "\u{200d}" or is "-"

unfoldable pub part : Rule
part = (when_char opens_part ⇒ character ∣ need) ⨾ many (when_char in_part ⇒ character ∣ stop)

-- Whether a byte stands among some.
unfoldable pub has : Char → List ℕ → Bool
has c [] = false
has c (b ∷ w) = pick (is c b) true (has c w)

unfoldable pub same : List ℕ → List ℕ → Bool
same [] [] = true
same [] (b ∷ v) = false
same (a ∷ u) [] = false
same (a ∷ u) (b ∷ v) = pick (eqb a b) (same u v) false

unfoldable pub first_is : Test → List ℕ → Bool
first_is f [] = false
first_is f (b ∷ w) = f b

-- D: "Extra is 1 for a 3, 4 or 16 with a dash; else 0".
unfoldable pub dashed : List ℕ → ℕ
dashed w = pick (has "-" w) 1 0

unfoldable pub is_this : List ℕ → Bool
is_this w = same w (bytes_of "this")

-- D: "One-part names: with no dash and a first byte A-Z, `_` or `$`, a reference; else `this`, exactly, is This; else
-- an identifier." D2: "A first character beyond ASCII makes a dashless one-part name a reference."
unfoldable pub opens_reference : Test
opens_reference = (code "A" ‥ code "Z") or is "_" or is "$" or (0x80 ‥ 0xFF)

unfoldable pub one_name : List ℕ → Label
one_name w =
    pick (has "-" w) (node Kind.identifier 1)
    (pick (first_is opens_reference w) (node Kind.reference 0)
    (pick (is_this w) (node Kind.this 0)
    (node Kind.identifier 0)))

unfoldable pub one_part : Rule
one_part = wrap (λ o. one_name (direct o)) part

-- D: "16 other part": of a namespaced name, behind a dot, or an attribute's name.
unfoldable pub other_part : Rule
other_part = wrap (λ o. node Kind.other_part (dashed (direct o))) part

-- D: "`part:part`"; "6 holds two 16".
unfoldable pub namespaced : Rule
namespaced = node_of Kind.namespaced (other_part ⨾ blanks ⨾ expect ":" ⨾ blanks ⨾ other_part)

-- D: "After a dot no part may hold `-`"; 10 at "that part", "as soon as the part ends".
unfoldable pub dotted_part : Rule
dotted_part = marked (said (λ o. has "-" (direct (inside o))) other_part (refuse dash_after_dot from_mark) done)

-- D: "7 holds a 5 (`this`) or 4, then 16s."
unfoldable pub object_name : List ℕ → Label
object_name w = pick (is_this w) (node Kind.this 0) (node Kind.reference (dashed w))

unfoldable pub object : Rule
object = wrap (λ o. object_name (direct o)) part

unfoldable pub dotted : Rule
dotted =
    after blanks (is ".") ⇒ blanks ⨾ expect "." ⨾ blanks ⨾ dotted_part
    ∣ stop

-- D: "`part.part.part..`"; the first part may hold a dash.
unfoldable pub member : Rule
member = node_of Kind.member (object ⨾ many dotted)

-- D: "Element name: one part; or `part:part`; or `part.part.part..`."
unfoldable pub element_name : Rule
element_name =
    after (part ⨾ blanks) (is ":") ⇒ namespaced
    ∣ after (part ⨾ blanks) (is ".") ⇒ member
    ∣ one_part

-- D: "name (part or `part:part`)".
unfoldable pub attribute_name : Rule
attribute_name =
    after (part ⨾ blanks) (is ":") ⇒ namespaced
    ∣ other_part

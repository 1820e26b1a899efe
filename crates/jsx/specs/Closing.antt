-- Whether a closing tag belongs to an opening tag. Chapters 'Markup' and 'Refusal numbers': 7, 8 and 9.
use Rattle.std.specs.Prelude.{ℕ, ◌+◌, Bool, true, false, List, [], ◌∷◌, eqb}
use Rattle.rules.specs.Forest.{node, content, Forest, nil, byte, group, width, direct, inside}
use Rattle.rules.specs.Rule.{Verdict, fine, differ}
use Rattle.rules.specs.Parse.{pick}
use Rattle.jsx.specs.Refusal.{names_differ, fragment_closed_by_name, element_closed_by_fragment}
use Rattle.jsx.specs.Kind as Kind
use Rattle.jsx.specs.Name.{same}

-- The name of a tag: the bytes before it, its kind, and what is inside it. A fragment's tag has none.
pub data TagName : Type 0 where
  no_name : TagName
  named : (before kind : ℕ) → Forest → TagName

unfoldable pub further_on : ℕ → TagName → TagName
further_on n no_name = no_name
further_on n (named p k c) = named (n + p) k c

-- The first node of what is inside the tag.
unfoldable pub name_in : Forest → TagName
name_in nil = no_name
name_in (byte b u) = further_on 1 (name_in u)
name_in (group (node k x) c u) = named 0 k c
name_in (group (content d) c u) = further_on (width c) (name_in u)

-- The bytes of each node of a namespaced or member name.
unfoldable pub nodes_of : Forest → List (List ℕ)
nodes_of nil = []
nodes_of (byte b u) = nodes_of u
nodes_of (group (node k x) c u) = direct c ∷ nodes_of u
nodes_of (group (content d) c u) = nodes_of u

unfoldable pub several_parts : ℕ → Bool
several_parts k = pick (eqb k Kind.namespaced) true (eqb k Kind.member)

unfoldable pub parts_of : (kind : ℕ) → Forest → List (List ℕ)
parts_of k c = pick (several_parts k) (nodes_of c) (direct c ∷ [])

unfoldable pub all_same : List (List ℕ) → List (List ℕ) → Bool
all_same [] [] = true
all_same [] (w ∷ ws) = false
all_same (v ∷ vs) [] = false
all_same (v ∷ vs) (w ∷ ws) = pick (same v w) (all_same vs ws) false

-- D: "Closing names are equal part for part, with the same form; blanks don't count." (One-part names of the same
-- bytes are of the same kind.)
unfoldable pub same_name : (kind : ℕ) → Forest → (kind₂ : ℕ) → Forest → Bool
same_name k c l d = pick (eqb k l) (all_same (parts_of k c) (parts_of l d)) false

-- opening, closing: the widths of the tags. D: 7 "opening name; closing name"; 8 "opening fragment; closing name"; 9
-- "opening name; closing fragment".
unfoldable pub compared : (opening closing : ℕ) → TagName → TagName → Verdict
compared opening closing no_name no_name = fine
compared opening closing no_name (named q l d) = differ fragment_closed_by_name 0 opening q (q + width d)
compared opening closing (named p k c) no_name = differ element_closed_by_fragment p (p + width c) 0 closing
compared opening closing (named p k c) (named q l d) =
    pick (same_name k c l d) fine (differ names_differ p (p + width c) q (q + width d))

unfoldable pub verdict : Forest → Forest → Verdict
verdict o r = compared (width o) (width r) (name_in (inside o)) (name_in (inside r))

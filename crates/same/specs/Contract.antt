-- What the contract of names' equality says.
use Rattle.std.specs.Prelude.{ℕ, ◌≤◌, ◌≡◌, Bool, true, false, List, length}
use Rattle.rules.specs.Forest.{node, content, Forest, nil, byte, group}
use Rattle.rules.specs.Rule.{Rule, many, ◌⨾◌}
use Rattle.rules.specs.Parse.{got, read_at}
use Rattle.jsx.specs.Blank.{blanks}
use Rattle.jsx.specs.Name.{other_part, dotted_part, dotted, element_name}
use Rattle.jsx.specs.Closing.{nodes_of, all_same, same_name}
use Rattle.lex.specs.Contract.{out_of}

-- The rule t reads something at a place, and goes on.
pub record ReadsAt (s : List ℕ) (t : Rule) (at : ℕ) : Type 0 where
  pub to : ℕ
  pub read : read_at s t at ≡ got true (out_of (read_at s t at)) to
  pub inside : at ≤ length s

-- What the rule t reads at a ends at b.
pub record ReadTo (s : List ℕ) (t : Rule) (a b : ℕ) : Type 0 where
  pub read : read_at s t a ≡ got true (out_of (read_at s t a)) b
  pub inside : b ≤ length s

-- An element's name was read from a to b.
abbrev pub Named : List ℕ → (a b : ℕ) → Type 0
Named s a b = ReadTo s element_name a b

-- Whether two names that were read are equal, part for part and form for form.
unfoldable pub same_names : Forest → Forest → Bool
same_names nil v = false
same_names (byte b u) v = false
same_names (group (content d) c u) v = false
same_names (group (node k x) c u) nil = false
same_names (group (node k x) c u) (byte b v) = false
same_names (group (node k x) c u) (group (content d) e v) = false
same_names (group (node k x) c u) (group (node l y) e v) = same_name k c l e

-- What is behind the colon of a namespaced name, and behind a dot of a member's name.
unfoldable pub behind_colon : Rule
behind_colon = blanks ⨾ other_part

unfoldable pub behind_dot : Rule
behind_dot = blanks ⨾ dotted_part ⨾ many dotted

-- The bytes of each part that the rule t reads there.
abbrev pub parts_from : List ℕ → Rule → ℕ → List (List ℕ)
parts_from s t p = nodes_of (out_of (read_at s t p))

-- Whether they are the same at two places.
abbrev pub same_parts : List ℕ → Rule → (p q : ℕ) → Bool
same_parts s t p q = all_same (parts_from s t p) (parts_from s t q)

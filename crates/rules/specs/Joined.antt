-- One forest behind the other, but that a text and a text that meet become one. Which groups are texts is a parameter.
use Rattle.std.specs.Prelude.{ℕ, Bool, false, List, [], ◌∷◌}
use Rattle.rules.specs.Forest.{Label, Forest, nil, byte, group, ◌⋈◌}
use Rattle.rules.specs.Parse.{pick}
use Rattle.rules.specs.Record.{row}

module _ (is_text : Label → Bool) where
  -- A group in front of a forest; a text in front of a text is one text.
  unfoldable pub meet : Label → Forest → Forest → Forest
  meet l c nil = group l c nil
  meet l c (byte b v) = group l c (byte b v)
  meet l c (group l' c' v) = pick (pick (is_text l) (is_text l') false) (group l (c ⋈ c') v) (group l c (group l' c' v))

  -- One forest behind the other.
  unfoldable pub join : Forest → Forest → Forest
  join nil v = v
  join (byte b u) v = byte b (join u v)
  join (group l c nil) v = meet l c v
  join (group l c (byte b u)) v = group l c (join (byte b u) v)
  join (group l c (group l' c' u)) v = group l c (join (group l' c' u) v)

  -- Whether its last thing is a text.
  unfoldable pub ends_in_text : Forest → Bool
  ends_in_text nil = false
  ends_in_text (byte b u) = ends_in_text u
  ends_in_text (group l c nil) = is_text l
  ends_in_text (group l c (byte b u)) = ends_in_text (byte b u)
  ends_in_text (group l c (group l' c' u)) = ends_in_text (group l' c' u)

  -- Whether its first thing is a text.
  unfoldable pub begins_with_text : Forest → Bool
  begins_with_text nil = false
  begins_with_text (byte b u) = false
  begins_with_text (group l c u) = is_text l

  -- Whether a text meets a text.
  unfoldable pub meets : Forest → Forest → Bool
  meets u v = pick (ends_in_text u) (begins_with_text v) false

-- A table whose last row ends at z.
unfoldable pub last_ends : (z : ℕ) → List ℕ → List ℕ
last_ends z [] = []
last_ends z (k ∷ []) = k ∷ []
last_ends z (k ∷ a ∷ []) = k ∷ a ∷ []
last_ends z (k ∷ a ∷ e ∷ []) = k ∷ a ∷ e ∷ []
last_ends z (k ∷ a ∷ e ∷ p ∷ []) = k ∷ a ∷ e ∷ p ∷ []
last_ends z (k ∷ a ∷ e ∷ p ∷ n ∷ []) = k ∷ a ∷ e ∷ p ∷ n ∷ []
last_ends z (k ∷ a ∷ e ∷ p ∷ n ∷ x ∷ []) = k ∷ a ∷ e ∷ p ∷ n ∷ x ∷ []
last_ends z (k ∷ a ∷ e ∷ p ∷ n ∷ x ∷ d ∷ []) = row k a z p n x d []
last_ends z (k ∷ a ∷ e ∷ p ∷ n ∷ x ∷ d ∷ y ∷ rest) = row k a e p n x d (last_ends z (y ∷ rest))

-- Where a table's first row ends.
unfoldable pub first_end : List ℕ → ℕ
first_end [] = 0
first_end (k ∷ []) = 0
first_end (k ∷ a ∷ []) = 0
first_end (k ∷ a ∷ z ∷ rest) = z

-- What a reading gives: every byte that was read, in its place, in nested groups. No offset stands in it.
use Rattle.std.specs.Prelude.{ℕ, suc, ◌+◌, List, [], ◌∷◌}

-- A group is a node of the tree, with its kind and its extra word, or the content between two tags, with the depth
-- that is left inside it.
pub data Label : Type 0 where
  node : ℕ → ℕ → Label
  content : ℕ → Label

-- A byte and what follows it; or a group, what is inside it, and what follows it.
pub data Forest : Type 0 where
  nil : Forest
  byte : ℕ → Forest → Forest
  group : Label → Forest → Forest → Forest

infixr 50 ◌⋈◌
-- One forest behind the other.
unfoldable pub ◌⋈◌ : Forest → Forest → Forest
nil ⋈ v = v
byte b u ⋈ v = byte b (u ⋈ v)
group l c u ⋈ v = group l c (u ⋈ v)

-- How many bytes it holds.
unfoldable pub width : Forest → ℕ
width nil = 0
width (byte b u) = suc (width u)
width (group l c u) = width c + width u

-- The bytes that stand in none of its groups.
unfoldable pub direct : Forest → List ℕ
direct nil = []
direct (byte b u) = b ∷ direct u
direct (group l c u) = direct u

-- What is inside its first node.
unfoldable pub inside : Forest → Forest
inside nil = nil
inside (byte b u) = inside u
inside (group (node k x) c u) = c
inside (group (content d) c u) = inside u

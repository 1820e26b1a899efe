-- The nodes of a forest.
use mathlib.Core.Path.{◌≡◌, refl, ap}
use mathlib.Core.List.{List, ◌∷◌, ◌++◌}
use Prim.Native.Nat.{ℕ}
use Rattle.rules.specs.Forest.{node, content, Forest, nil, byte, group, ◌⋈◌, direct}
use Rattle.jsx.specs.Closing.{nodes_of}
use Rattle.lex.proofs.Bare.{Flat}

-- Bytes in front have none.
pub nodes_flat : (u v : Forest) → Flat u → nodes_of (u ⋈ v) ≡ nodes_of v
unfolding nodes_of ◌⋈◌
nodes_flat nil v h = refl
nodes_flat (byte b u) v h = nodes_flat u v h
nodes_flat (group l c u) v h = absurd h

-- Those of two forests, one behind the other.
pub nodes_join : (u v : Forest) → nodes_of (u ⋈ v) ≡ nodes_of u ++ nodes_of v
unfolding nodes_of ◌⋈◌
nodes_join nil v = refl
nodes_join (byte b u) v = nodes_join u v
nodes_join (group (node k x) c u) v = ap (λ (l : List (List ℕ)). direct c ∷ l) (nodes_join u v)
nodes_join (group (content d) c u) v = nodes_join u v

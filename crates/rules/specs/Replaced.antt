-- A place in a forest where a content stands, another content put there, and what that does to the rows of its table.
use Rattle.std.specs.Prelude.{ℕ, suc, ◌+◌, ◌-◌, ◌≡◌, ltb, eqb}
use Rattle.rules.specs.Forest.{Label, node, content, Forest, nil, byte, group, width}
use Rattle.rules.specs.Parse.{pick}
use Rattle.rules.specs.Record.{count}
use Rattle.rules.specs.Moved.{Row, fields}

-- The way to a content c₀ with d levels left inside it.
pub data Spot (d : ℕ) (c₀ : Forest) : Forest → Type 0 where
  arrived : {l : Label} {c v : Forest} → l ≡ content d → c ≡ c₀ → Spot d c₀ (group l c v)
  under : {l : Label} {c v : Forest} → Spot d c₀ c → Spot d c₀ (group l c v)
  past : {l : Label} {c v : Forest} → Spot d c₀ v → Spot d c₀ (group l c v)
  skip : {b : ℕ} {v : Forest} → Spot d c₀ v → Spot d c₀ (byte b v)

module _ {d : ℕ} {c₀ : Forest} where
  -- With c₁ in the place of c₀.
  unfoldable pub fill : {u : Forest} → Spot d c₀ u → Forest → Forest
  fill (arrived {l = l} {v = v} p q) c₁ = group l c₁ v
  fill (under {l = l} {v = v} ω) c₁ = group l (fill ω c₁) v
  fill (past {l = l} {c = c} ω) c₁ = group l c (fill ω c₁)
  fill (skip {b = b} ω) c₁ = byte b (fill ω c₁)

  -- How many bytes stand before it.
  unfoldable pub bytes_before : {u : Forest} → Spot d c₀ u → ℕ
  bytes_before (arrived p q) = 0
  bytes_before (under ω) = bytes_before ω
  bytes_before (past {c = c} ω) = width c + bytes_before ω
  bytes_before (skip ω) = suc (bytes_before ω)

  -- How many records stand before the content.
  unfoldable pub records_before : {u : Forest} → Spot d c₀ u → ℕ
  records_before (arrived p q) = 0
  records_before (under {l = node k x} ω) = 1 + records_before ω
  records_before (under {l = content d'} ω) = records_before ω
  records_before (past {l = node k x} {c = c} ω) = 1 + count c + records_before ω
  records_before (past {l = content d'} {c = c} ω) = count c + records_before ω
  records_before (skip ω) = records_before ω

  -- The parent of the content's outermost records, in a forest under par whose first record is n.
  unfoldable pub holder : {u : Forest} (n par : ℕ) → Spot d c₀ u → ℕ
  holder n par (arrived p q) = par
  holder n par (under {l = node k x} ω) = holder (n + 1) n ω
  holder n par (under {l = content d'} ω) = holder n par ω
  holder n par (past {l = node k x} {c = c} ω) = holder (n + (1 + count c)) par ω
  holder n par (past {l = content d'} {c = c} ω) = holder (n + count c) par ω
  holder n par (skip ω) = holder n par ω

  -- How many ancestors they have, in a forest that has so many.
  unfoldable pub holders : {u : Forest} (deep : ℕ) → Spot d c₀ u → ℕ
  holders deep (arrived p q) = deep
  holders deep (under {l = node k x} ω) = holders (deep + 1) ω
  holders deep (under {l = content d'} ω) = holders deep ω
  holders deep (past ω) = holders deep ω
  holders deep (skip ω) = holders deep ω

-- ---- the content of a node, by its record number

-- What is inside the node with the number j, in a forest whose first record is n.
unfoldable pub inside_of : (n j : ℕ) → Forest → Forest
inside_of n j nil = nil
inside_of n j (byte b u) = inside_of n j u
inside_of n j (group (node k x) c u) =
    pick (eqb j n) c (pick (ltb j (n + (1 + count c))) (inside_of (n + 1) j c) (inside_of (n + (1 + count c)) j u))
inside_of n j (group (content d) c u) = pick (ltb j (n + count c)) (inside_of n j c) (inside_of (n + count c) j u)

-- The levels that are left inside the first content that stands in none of its nodes.
unfoldable pub content_depth : Forest → ℕ
content_depth nil = 0
content_depth (byte b u) = content_depth u
content_depth (group (node k x) c u) = content_depth u
content_depth (group (content d) c u) = d

-- ---- how a row changes where a content, whose first record has the number n₀, is replaced

-- How many bytes and records the old content has, and how many the new one.
pub record Change : Type 0 where
  pub old_bytes : ℕ
  pub new_bytes : ℕ
  pub old_records : ℕ
  pub new_records : ℕ

-- A place, and a record number, behind the content.
abbrev pub place_along : Change → ℕ → ℕ
place_along h x = x + h.new_bytes - h.old_bytes

abbrev pub number_along : Change → ℕ → ℕ
number_along h x = x + h.new_records - h.old_records

-- A row in front of the content. It is an ancestor's if its `after` is past n₀: then it ends further on. Any other
-- stays.
unfoldable pub widened : (n₀ : ℕ) → Change → Row → Row
widened n₀ h (fields k a z p n x d) =
    pick (ltb n₀ n) (fields k a (place_along h z) p (number_along h n) x d) (fields k a z p n x d)

-- The parent of a row behind the content: a record behind the content has a new number. Any other stays, and so does
-- the outermost parent par.
unfoldable pub pushed_parent : (n₀ par : ℕ) → Change → (p : ℕ) → ℕ
pushed_parent n₀ par h p = pick (ltb p (n₀ + h.old_records)) p (pick (eqb p par) p (number_along h p))

-- A row behind the content.
unfoldable pub pushed : (n₀ par : ℕ) → Change → Row → Row
pushed n₀ par h (fields k a z p n x d) =
    fields k (place_along h a) (place_along h z) (pushed_parent n₀ par h p) (number_along h n) x d

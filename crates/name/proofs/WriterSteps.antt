-- The rows of names: what each need of their writers follows from.
use mathlib.Core.Path.{◌≡◌, refl}
use mathlib.Core.Bool.{Bool, true, false}
use mathlib.Core.List.{List}
use Prim.Native.Nat.{ℕ, ◌≤◌}
use native.Mathlib.Omega.{arith}
use lib.ListN.{length}
use borrow.Author.Rules.{rules}
use Rattle.rules.specs.Forest.{Label, node}
use Rattle.rules.specs.Parse.{pick}
use Rattle.jsx.specs.Kind as Kind
use Rattle.jsx.specs.Name.{has, first_is, dashed, is_this, opens_reference, one_name, object_name}
use Rattle.table.specs.Slot.{Seat}
use Rattle.table.specs.Contract.{Words, Stored}
use Rattle.table.specs.Reader.{Room}
use Rattle.table.proofs.Laws.{stored_none}
use Rattle.name.specs.Contract.{Spelt}
use Rattle.name.proofs.Labels.{dashed_few, name_few, object_few}

-- ---- what a label says

-- Each label of a name is a node's.
record Says (l : Label) : Type 0 where
  kind : ℕ
  extra : ℕ
  so : l ≡ node kind extra

one_says : (w : List ℕ) → Says (one_name w)
unfolding one_name
one_says w = go (has "-" w) (first_is opens_reference w) (is_this w)
  where
    go : (a b c : Bool) → Says (pick a (node 3 1) (pick b (node 4 0) (pick c (node 5 0) (node 3 0))))
    go true b c = record { kind = 3; extra = 1; so = refl }
    go false true c = record { kind = 4; extra = 0; so = refl }
    go false false true = record { kind = 5; extra = 0; so = refl }
    go false false false = record { kind = 3; extra = 0; so = refl }

object_says : (w : List ℕ) → Says (object_name w)
unfolding object_name
object_says w = go (is_this w)
  where
    go : (b : Bool) → Says (pick b (node 5 0) (node 4 (dashed w)))
    go true = record { kind = 5; extra = 0; so = refl }
    go false = record { kind = 4; extra = dashed w; so = refl }

-- ---- to close a return

-- Its row was stored.
pub spelt : {l : Label} {i k x : ℕ} {q : Seat} {a z : ℕ} {t t' : List ℕ}
    → l ≡ node k x
    → Stored i q k a z x 0 t t'
    → Spelt i q l a z t t'
spelt {k = k} {x} e w = record { kind = k; extra = x; says = e; stored = w }

module _ {c : ℕ} {s : List ℕ} {a : ℕ} {q : Seat} (room : Room c s a q) (i : ℕ) (z : ℕ) {t : List ℕ}
    (h : length t ≡ 0) where
  unstored : {l : Label} → c ≤ 100 → Says l → Spelt i q l a z t t
  unstored j l =
      let few = room.few in
      let here = room.inside in
      let short = room.short in
      spelt l.so (stored_none t i q l.kind a z l.extra 0 h (omega arith))

  -- No table is lent: the row of a whole name is stored by changing nothing.
  pub name_unstored : (w : List ℕ) → c ≤ 100 → Spelt i q (one_name w) a z t t
  name_unstored w j = unstored j (one_says w)

  -- No table is lent: the row of an object is stored by changing nothing.
  pub object_unstored : (w : List ℕ) → c ≤ 100 → Spelt i q (object_name w) a z t t
  object_unstored w j = unstored j (object_says w)

  -- No table is lent: the row of another part is stored by changing nothing.
  pub part_unstored : (x : ℕ) → c ≤ 100 → Spelt i q (node Kind.other_part x) a z t t
  part_unstored x j = unstored j (record { kind = Kind.other_part; extra = x; so = refl })

-- The row of a part says what its label does.
pub part_spelt : {i x d : ℕ} {q : Seat} {a z : ℕ} {t t' : List ℕ}
    → d ≡ x
    → Stored i q Kind.other_part a z d 0 t t'
    → Spelt i q (node Kind.other_part x) a z t t'
part_spelt {i} {q = q} {a} {z} {t} {t'} e w = spelt refl (rw e at w)

-- The row of an object says what its label does.
pub object_spelt : (w : List ℕ) {i k d : ℕ} {q : Seat} {a z : ℕ} {t t' : List ℕ}
    → d ≡ dashed w
    → object_name w ≡ node k (dashed w)
    → Stored i q k a z d 0 t t'
    → Spelt i q (object_name w) a z t t'
object_spelt w e l v = spelt l (rw e at v)

-- ---- what the calls ask: words

module _ {c : ℕ} {s : List ℕ} {a : ℕ} {q : Seat} (room : Room c s a q) {b : ℕ} (j : b ≤ length s) (w : List ℕ) {d : ℕ}
    (e : d ≡ dashed w) where
  small_words : {k : ℕ} {q₁ : Seat} {a₁ b₁ d₁ : ℕ}
      → k ≤ 16
      → c ≤ 100
      → q₁ ≡ q
      → a₁ ≡ a
      → b₁ ≡ b
      → d₁ ≡ d
      → Words q₁ k a₁ b₁ d₁ 0
  small_words i f g₁ g₂ g₃ g₄ =
      let few = room.few in
      let here = room.inside in
      let short = room.short in
      let held = room.held in
      let deep = room.shallow in
      let one = dashed_few w in
      rw (g₁, g₂, g₃, g₄) (omega arith)

  -- The numbers in the row of another part are words.
  pub part_words : {q₁ : Seat} {a₁ b₁ d₁ : ℕ}
      → c ≤ 100
      → q₁ ≡ q
      → a₁ ≡ a
      → b₁ ≡ b
      → d₁ ≡ d
      → Words q₁ Kind.other_part a₁ b₁ d₁ 0
  part_words f g₁ g₂ g₃ g₄ = small_words (omega arith) f g₁ g₂ g₃ g₄

  -- The numbers in the row of a whole name are words.
  pub name_words : {k k₁ : ℕ} {q₁ : Seat} {a₁ b₁ d₁ : ℕ}
      → one_name w ≡ node k d
      → c ≤ 100
      → q₁ ≡ q
      → k₁ ≡ k
      → a₁ ≡ a
      → b₁ ≡ b
      → d₁ ≡ d
      → Words q₁ k₁ a₁ b₁ d₁ 0
  name_words l f g₁ g₂ g₃ g₄ g₅ = let few = name_few w l in small_words (omega arith) f g₁ g₃ g₄ g₅

  -- The numbers in the row of an object are words.
  pub object_words : {k k₁ : ℕ} {q₁ : Seat} {a₁ b₁ d₁ : ℕ}
      → object_name w ≡ node k (dashed w)
      → c ≤ 100
      → q₁ ≡ q
      → k₁ ≡ k
      → a₁ ≡ a
      → b₁ ≡ b
      → d₁ ≡ d
      → Words q₁ k₁ a₁ b₁ d₁ 0
  object_words l f g₁ g₂ g₃ g₄ g₅ = let few = object_few w l in small_words (omega arith) f g₁ g₃ g₄ g₅

pub ruleset writer_steps = (rules, name_unstored, object_unstored, part_unstored, spelt, part_spelt, object_spelt)

pub ruleset writer_asked = (rules, part_words, name_words, object_words)

-- Bytes as the lanes of a word, eight bits each: the first byte stands in the lowest lane.
use Rattle.std.specs.Prelude.{ℕ, ◌+◌, ◌*◌, ◌<◌, ◌≡◌, true, List, [], ◌∷◌, length, eqb, leb}
use Rattle.rules.specs.Rule.{Test}
use Rattle.rules.specs.Parse.{pick}
use Rattle.lex.specs.Contract.{bytes_from}

-- The word with g of each byte in the byte's lane.
unfoldable pub spread : (ℕ → ℕ) → List ℕ → ℕ
spread g [] = 0
spread g (b ∷ bs) = spread g bs * 256 + g b

-- The n bytes from p on as a word.
abbrev pub word_of : List ℕ → (p n : ℕ) → ℕ
word_of s p n = spread (λ b. b) (bytes_from s p n)

-- Each is a byte.
unfoldable pub Bytes : List ℕ → Type 0
Bytes [] = Unit {0}
Bytes (b ∷ bs) = (b < 256) × Bytes bs

-- Where w is eight bytes, r has g of each in its lane.
pub record Lanes (g : ℕ → ℕ) (w r : ℕ) : Type 0 where
  pub at : (bs : List ℕ) → length bs ≡ 8 → Bytes bs → w ≡ spread (λ b. b) bs → r ≡ spread g bs

-- Where w is eight bytes, r marks the lanes of those that pass a test, by the high bit; its other bits are 0.
pub record Marked (f : Test) (w r : ℕ) : Type 0 where
  pub lanes : Lanes (λ b. pick (f b) 0x80 0) w r

-- The same turned round: the high bit is clear in the lanes of those that pass the test, every other bit is set.
pub record Cleared (f : Test) (w r : ℕ) : Type 0 where
  pub lanes : Lanes (λ b. pick (f b) 0x7F 0xFF) w r

-- ---- tests

-- A byte beyond ASCII.
abbrev pub beyond : Test
beyond b = leb 0x80 b

-- The byte a.
abbrev pub only : ℕ → Test
only a x = eqb x a

-- One of the bytes a, b, c and d.
abbrev pub any_of : (a b c d : ℕ) → Test
any_of a b c d x = pick (eqb x a) true (pick (eqb x b) true (pick (eqb x c) true (eqb x d)))

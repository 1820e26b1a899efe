-- A list of words of one length, and the test that it has the refused words of that length, and no other.
use Rattle.std.specs.Prelude.{Bool, true, false, List, [], ◌∷◌, ℕ, zero, suc, ◌+◌, length, eqb}
use Rattle.rules.specs.Parse.{pick}
use Rattle.jsx.specs.Word.{among, reserved, spared, strict, refused_word}
use Rattle.lex.specs.Contract.{bytes_from}

-- Words of n bytes from k on, each with one byte behind it; how many.
unfoldable pub cells : List ℕ → (k n count : ℕ) → List (List ℕ)
cells t k n zero = []
cells t k n (suc c) = bytes_from t k n ∷ cells t (k + n + 1) n c

-- Whether every word of a list passes a test.
unfoldable pub each : (List ℕ → Bool) → List (List ℕ) → Bool
each P [] = true
each P (v ∷ vs) = pick (P v) (each P vs) false

-- t: so many words of n bytes.
module _ (t : List ℕ) (n count : ℕ) where
  -- A word has another length, is spared, or is listed.
  unfoldable pub covered : List ℕ → Bool
  covered w = pick (eqb (length w) n) (pick (among spared w) true (among (cells t 0 n count) w)) true

  -- Each word of the list is refused, and each reserved or strict word is covered: so these are just the refused words
  -- of n bytes.
  unfoldable pub good : Bool
  good = pick (each refused_word (cells t 0 n count)) (pick (each covered reserved) (each covered strict) false) false

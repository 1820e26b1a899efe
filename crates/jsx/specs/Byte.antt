-- Bytes written as characters, tests of a byte or of a character, and the rules that ask for one of them.
use Rattle.std.specs.Prelude.{ℕ, ◌+◌, ◌/◌, ◌%◌, true, false, List, [], ◌∷◌, leb, ltb, eqb}
use Prim.Native.Char.{Char, code}
use Prim.Native.String as S
use Rattle.rules.specs.Rule.{Test, Rule, step, refuse, when, here, ◌⨾◌, ◌⇒◌∣◌}
use Rattle.rules.specs.Parse.{pick}
use Rattle.jsx.specs.Refusal.{unexpected, end_of_input}

-- The bytes of a character in UTF-8, in front of others.
abbrev pub encoded : ℕ → List ℕ → List ℕ
encoded c rest =
    pick (ltb c 0x80) (c ∷ rest)
    (pick (ltb c 0x800) ((0xC0 + c / 0x40) ∷ (0x80 + c % 0x40) ∷ rest)
    (pick (ltb c 0x10000) ((0xE0 + c / 0x1000) ∷ (0x80 + c / 0x40 % 0x40) ∷ (0x80 + c % 0x40) ∷ rest)
    ((0xF0 + c / 0x40000) ∷ (0x80 + c / 0x1000 % 0x40) ∷ (0x80 + c / 0x40 % 0x40) ∷ (0x80 + c % 0x40) ∷ rest)))

-- The bytes of a text in UTF-8.
abbrev pub bytes_of : S.String → List ℕ
bytes_of S.[] = []
bytes_of (S.◌∷◌ c w) = encoded (code c) (bytes_of w)

-- The byte of this (ASCII) character.
abbrev pub is : Char → Test
is c b = eqb b (code c)

-- One of the characters of this text, by its code.
unfoldable pub one_of : S.String → Test
one_of S.[] c = false
one_of (S.◌∷◌ x w) c = pick (eqb c (code x)) true (one_of w c)

-- The end of the input.
abbrev pub end : Test
end b = eqb b 256

infix 60 ◌‥◌
-- A byte from one to another, both included.
abbrev pub ◌‥◌ : ℕ → ℕ → Test
(lo ‥ hi) b = pick (leb lo b) (leb b hi) false

infixr 55 ◌or◌
abbrev pub ◌or◌ : Test → Test → Test
(f or g) b = pick (f b) true (g b)

abbrev pub none : Test → Test
none f b = pick (f b) false true

-- D: "Names are ASCII": a letter is an ASCII letter.
unfoldable pub letter : Test
letter = (code "a" ‥ code "z") or (code "A" ‥ code "Z")

unfoldable pub digit : Test
digit = code "0" ‥ code "9"

unfoldable pub quote : Test
quote = is "\"" or is "'"

-- LF or CR.
unfoldable pub line_end : Test
line_end = is "\n" or is "\r"

-- Something is needed here and does not begin here: 4 at the end, 3 elsewhere.
-- D: "input ends where something is still needed"; "no allowed token begins here".
unfoldable pub need : Rule
need =
    when end ⇒ refuse end_of_input here
    ∣ refuse unexpected here

-- This byte and no other.
unfoldable pub expect : Char → Rule
expect c =
    when (is c) ⇒ step
    ∣ need

-- The bytes of the character here, as many as the first of them says. D: "Tests run in this order: 1; 2; the reading":
-- what is read is good UTF-8, so no character is spelled with more bytes than it needs.
abbrev pub character : Rule
character =
    when (0xC0 ‥ 0xDF) ⇒ step ⨾ step
    ∣ when (0xE0 ‥ 0xEF) ⇒ step ⨾ step ⨾ step
    ∣ when (0xF0 ‥ 0xF7) ⇒ step ⨾ step ⨾ step ⨾ step
    ∣ step

-- What a lead byte decides, and where a sequence ends.
use Rattle.std.specs.Prelude.{ℕ, ◌≡◌, List, [], ◌∷◌, Option, None, Some}
use Rattle.rules.specs.Rule.{Test, marked}
use Rattle.rules.specs.Parse.{trouble, pick, read_at}
use Rattle.jsx.specs.Refusal.{not_utf8}
use Rattle.jsx.specs.Byte.{◌‥◌, ◌or◌}
use Rattle.jsx.specs.Utf8.{sequence}
use Rattle.lex.specs.Contract.{Past}
use Rattle.utf8.specs.declared.Lead.{Lead}
use Rattle.utf8.specs.declared.Lead.TheVariants.{Alone, Of}

-- D: "The lead byte decides the length and the range of the second byte: 00-7F alone; C2-DF; E0 then A0-BF; E1-EC and
-- EE-EF; ED then 80-9F; F0 then 90-BF; F1-F3; F4 then 80-8F."
unfoldable pub leads : List (Test × Lead)
leads =
    (0x00 ‥ 0x7F, Alone)
    ∷ (0xC2 ‥ 0xDF, Of 2 0x80 0xBF)
    ∷ (0xE0 ‥ 0xE0, Of 3 0xA0 0xBF)
    ∷ ((0xE1 ‥ 0xEC) or (0xEE ‥ 0xEF), Of 3 0x80 0xBF)
    ∷ (0xED ‥ 0xED, Of 3 0x80 0x9F)
    ∷ (0xF0 ‥ 0xF0, Of 4 0x90 0xBF)
    ∷ (0xF1 ‥ 0xF3, Of 4 0x80 0xBF)
    ∷ (0xF4 ‥ 0xF4, Of 4 0x80 0x8F)
    ∷ []

-- What a table says of a byte; one that is in no row is no lead byte.
unfoldable pub said_of : List (Test × Lead) → ℕ → Option Lead
said_of [] b = None
said_of (l ∷ ls) b = pick (l.0 b) (Some l.1) (said_of ls b)

-- What a byte says as a lead byte.
unfoldable pub lead_of : ℕ → Option Lead
lead_of b = said_of leads b

-- The sequence that begins at p ends at r; where none begins, the refusal is 2 at p.
abbrev pub Ended : Option ℕ → List ℕ → ℕ → Type 0
Ended None s p = read_at s (marked sequence) p ≡ trouble not_utf8 p p 0 0
Ended (Some q) s p = Past q s (marked sequence) p 1

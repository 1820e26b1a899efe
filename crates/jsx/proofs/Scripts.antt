-- Names in the author's script, computed: inputs for 7.1 to 7.17 of docs/DECISIONS.md.
use mathlib.Core.Path.{◌≡◌, refl}
use mathlib.Core.List.{List, [], ◌∷◌}
use Rattle.rules.specs.Record.{row}
use Rattle.jsx.specs.Reading.{stage, run}
use Rattle.jsx.proofs.Case.{Case, on, on_bytes, refused_by, rows, counted, at, span, ◌&◌, copies, wrong}

-- Which characters, and where a refusal points.
abbrev character_cases : List Case
character_cases =
    -- 7.1: the last range of Unicode 17.0, and what 18.0 adds.
    on stage "<\u{33479}/>" (counted 3)
    ∷ on stage "<\u{3347a}/>" (at 3 1)
    ∷ on stage "<\u{88f}/>" (counted 3)
    ∷ on stage "<\u{209d}/>" (at 3 1)
    ∷ on stage "<a・･/>" (counted 3)
    ∷ on stage "<a\u{e0100}/>" (counted 3)
    ∷ on stage "<a\u{e01f0}/>" (at 3 2)
    -- 7.2: ASCII is as it was.
    ∷ on stage "<1é/>" (at 3 1)
    ∷ on stage "<-é/>" (at 3 1)
    ∷ on stage "<$é/>" (counted 3)
    -- 7.3: at the first byte of a character that is none of a name's.
    ∷ on stage "<×/>" (at 3 1)
    ∷ on stage "<a×/>" (at 3 2)
    ∷ on stage "<😀/>" (at 3 1)
    ∷ on stage "<\u{e000}/>" (at 3 1)
    ∷ on stage "<\u{378}/>" (at 3 1)
    ∷ on stage "<a\u{ad}/>" (at 3 2)
    ∷ on stage "<a⃝/>" (at 3 2)
    ∷ on stage "<a²/>" (at 3 2)
    -- 7.4: a later character as the first.
    ∷ on stage "<́/>" (at 3 1)
    ∷ on stage "<a ́/>" (at 3 3)
    ∷ on stage "<a.́/>" (at 3 3)
    ∷ on stage "<á/>" (counted 3)
    ∷ on stage "<·/>" (at 3 1)
    ∷ on stage "<a·/>" (counted 3)
    ∷ on stage "<\u{e0100}/>" (at 3 1)
    -- 7.5: U+200C and U+200D.
    ∷ on stage "<a\u{200c}\u{200d}/>" (counted 3)
    ∷ on stage "<a-\u{200d}/>" (counted 3)
    ∷ on stage "<\u{200d}/>" (at 3 1)
    -- 7.6: what looks like a dash, a colon or a dot.
    ∷ on stage "<a‐b/>" (at 3 2)
    ∷ on stage "<a－/>" (at 3 2)
    ∷ on stage "<a：b/>" (at 3 2)
    ∷ on stage "<a．b/>" (at 3 2)
    -- ID_Start, not XID_Start.
    ∷ on stage "<℘℮゛/>" (counted 3)
    ∷ on stage "<ⸯ/>" (at 3 1)
    ∷ []

-- No case is answered otherwise.
pub character_cases_hold : wrong character_cases ≡ []
unfolding wrong
character_cases_hold = refl

-- What a name is, and which names are equal.
abbrev name_cases : List Case
name_cases =
    -- 7.7: the kind of a one-part name.
    on stage "<한/>" (rows (row 1 0 6 4294967295 3 0 0 (row 18 0 6 0 3 0 1 (row 4 1 4 1 3 0 2 []))))
    ∷ on stage "<é-/>" (rows (row 1 0 6 4294967295 3 0 0 (row 18 0 6 0 3 0 1 (row 3 1 4 1 3 1 2 []))))
    ∷ on stage "<aé/>" (rows (row 1 0 6 4294967295 3 0 0 (row 18 0 6 0 3 0 1 (row 3 1 4 1 3 0 2 []))))
    ∷ on stage "<Aé/>" (rows (row 1 0 6 4294967295 3 0 0 (row 18 0 6 0 3 0 1 (row 4 1 4 1 3 0 2 []))))
    ∷ on stage "<𐐀/>" (rows (row 1 0 7 4294967295 3 0 0 (row 18 0 7 0 3 0 1 (row 4 1 5 1 3 0 2 []))))
    -- 7.8: `this`, exactly.
    ∷ on stage "<thisé/>" (rows (row 1 0 9 4294967295 3 0 0 (row 18 0 9 0 3 0 1 (row 3 1 7 1 3 0 2 []))))
    ∷ on stage "<this\u{200d}/>" (counted 3)
    ∷ on stage "<thiś.b/>" (rows (row 1 0 11 4294967295 5 0 0 (row 18 0 11 0 5 0 1 (row 7 1 9 1 5 0 2
    (row 4 1 7 2 4 0 3 (row 16 8 9 2 5 0 3 []))))))
    -- 7.9: members and namespaces.
    ∷ on stage "<é.b/>" (counted 5)
    ∷ on stage "<é-a.b/>" (counted 5)
    ∷ on stage "<é:한/>" (rows (row 1 0 9 4294967295 5 0 0 (row 18 0 9 0 5 0 1 (row 6 1 7 1 5 0 2
    (row 16 1 3 2 4 0 3 (row 16 4 7 2 5 0 3 []))))))
    ∷ on stage "<a.é-/>" (span 10 3 6)
    -- 7.10: equal is byte for byte.
    ∷ on stage "<λλ></λλ>" (counted 5)
    ∷ on stage "<é></é>" (refused_by 7 1 3 6 9)
    ∷ on stage "<Å></Å>" (refused_by 7 1 4 7 9)
    ∷ on stage "<a></a\u{200d}>" (refused_by 7 1 2 5 9)
    ∷ on stage "<é></>" (refused_by 9 1 3 4 7)
    ∷ on stage "<></é>" (refused_by 8 0 2 4 6)
    ∷ []

-- No case is answered otherwise.
pub name_cases_hold : wrong name_cases ≡ []
unfolding wrong
name_cases_hold = refl

-- Where names stand.
abbrev place_cases : List Case
place_cases =
    -- 7.11 and 7.12: names in braces stay ASCII; tags that stand in braces are tags.
    on stage "<a>{é}</a>" (at 3 4)
    ∷ on stage "<a>{aé}</a>" (at 3 5)
    ∷ on stage "<a>{a.é}</a>" (at 3 6)
    ∷ on stage "<a>{<é λ={b}/>}</a>" (counted 14)
    ∷ on stage "<a>{1é}</a>" (at 3 5)
    ∷ on stage "<a>{ifé}</a>" (at 3 4)
    -- 7.13: an attribute behind a string or braces.
    ∷ on stage "<a 한='b'/>" (counted 6)
    ∷ on stage "<a b:é/>" (counted 7)
    ∷ on stage "<a b='c'é/>" (counted 8)
    ∷ on stage "<a {...b}é/>" (counted 7)
    ∷ on stage "<a b='c'́/>" (at 3 8)
    -- 7.14: depth.
    ∷ on stage (copies 64 "<a>" & "<é") (at 14 192)
    ∷ on stage (copies 64 "<a>" & "<́") (at 3 193)
    -- 7.15: escapes.
    ∷ on stage "<\\u0061/>" (at 3 1)
    ∷ on stage "<a\\u0061/>" (at 3 2)
    -- 7.16: cut by the end.
    ∷ on stage "<é" (at 4 3)
    ∷ on stage "<a></é" (at 4 7)
    ∷ on_bytes stage (0x3C ∷ 0xC3 ∷ []) (at 2 1)
    -- 7.17: blanks beside names.
    ∷ on stage "<\u{a0}é\u{a0}/>" (counted 3)
    ∷ on stage "<é\u{2028}é/>" (counted 5)
    ∷ on run "é<é/>" (counted 4)
    ∷ []

-- No case is answered otherwise.
pub place_cases_hold : wrong place_cases ≡ []
unfolding wrong
place_cases_hold = refl

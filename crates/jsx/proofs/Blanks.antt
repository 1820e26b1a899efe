-- Blanks beyond ASCII and the ends of `//` comments, computed: inputs for 1.1 to 1.14 of docs/DECISIONS.md.
use mathlib.Core.Path.{◌≡◌, refl}
use mathlib.Core.List.{List, [], ◌∷◌}
use Prim.Native.String as S
use Rattle.rules.specs.Record.{row}
use Rattle.jsx.specs.Reading.{stage, run}
use Rattle.jsx.proofs.Case.{Wanted, Case, on, on_bytes, refused_by, counted, rows, at, span, ◌&◌, copies, wrong}

-- Each character of a text between a name and an attribute.
unfoldable pub between : S.String → Wanted → List Case
between S.[] x = []
between (S.◌∷◌ c w) x = on stage ("<a" & S.◌∷◌ c "b/>") x ∷ between w x

-- 1.1: all 25 of them.
abbrev blank_cases : List Case
blank_cases =
    between
    ("\t\n\u{b}\u{c}\r \u{a0}\u{1680}\u{2000}\u{2001}\u{2002}\u{2003}\u{2004}\u{2005}\u{2006}"
    & "\u{2007}\u{2008}\u{2009}\u{200a}\u{2028}\u{2029}\u{202f}\u{205f}\u{3000}\u{feff}")
    (counted 5)

-- 1.2: their neighbours, but for U+200C and U+200D, which are a name's.
abbrev other_cases : List Case
other_cases = between "\u{85}\u{ad}\u{180e}\u{200b}\u{200e}\u{200f}\u{2060}" (at 3 2)

abbrev place_cases : List Case
place_cases =
    on stage "<a\u{1680}:\u{202f}b\u{205f}/>" (counted 5)
    ∷ on stage "<\u{2060}a/>" (at 3 1)
    ∷ on stage "<a/>\u{200b}" (at 13 4)
    -- 1.3: at the very start a U+FEFF is a blank as any other, and in a run it is text.
    ∷ on stage "\u{feff}<a/>" (rows (row 1 3 7 4294967295 3 0 0 (row 18 3 7 0 3 0 1 (row 3 4 5 1 3 0 2 []))))
    ∷ on stage "\u{feff}" (at 4 3)
    ∷ on run "\u{feff}" (rows (row 14 0 3 4294967295 1 0 0 []))
    -- 1.4: behind the stage.
    ∷ on stage "<a/>\u{feff}" (counted 3)
    ∷ on stage "<a/>\u{a0}x" (at 13 6)
    ∷ on stage "<a/>\u{a0}<b/>" (span 12 6 7)
    -- 1.5: in child position nothing is a blank; behind a child's `<` it is.
    ∷ on stage "<a>\u{a0}</a>" (rows (row 1 0 9 4294967295 6 1 0 (row 18 0 3 0 3 0 1 (row 3 1 2 1 3 0 2
    (row 14 3 5 0 4 0 1 (row 17 5 9 0 6 0 1 (row 3 7 8 4 6 0 2 [])))))))
    ∷ on stage "<a>\u{2028}//\u{2028}</a>" (counted 6)
    ∷ on stage "<a><\u{a0}/a>" (counted 5)
    ∷ on run "<\u{a0}/a>" (at 3 0)
    -- 1.8: U+2028 and U+2029 elsewhere.
    ∷ on stage "<\u{2028}" (at 4 4)
    ∷ on stage "<a>{'\u{2028}'}</a>" (counted 7)
    ∷ on stage "<a/*\u{2028}" (at 17 2)
    -- 1.10: none stands inside a token.
    ∷ on stage "<a>{b|\u{a0}|c}</a>" (at 3 5)
    ∷ on stage "<a {.\u{a0}..b}/>" (at 3 4)
    ∷ on stage "<a/\u{a0}*" (at 3 5)
    ∷ on stage "<a>{b?\u{2028}.c:d}</a>" (at 3 9)
    -- 1.11: one ends a number.
    ∷ on stage "<a>{1\u{a0}.b}</a>" (counted 7)
    ∷ on stage "<a>{1.\u{a0}b}</a>" (at 3 4)
    -- 1.12: spans count bytes.
    ∷ on stage "<a>{\u{a0}}</a>" (rows (row 1 0 11 4294967295 7 1 0 (row 18 0 3 0 3 0 1 (row 3 1 2 1 3 0 2
    (row 11 3 7 0 5 0 1 (row 12 4 6 3 5 0 2 (row 17 7 11 0 7 0 1 (row 3 9 10 5 7 0 2 []))))))))
    ∷ on stage "<a b={\u{3000}}/>" (span 11 5 10)
    ∷ on stage "<\u{2007}></a>" (refused_by 8 0 5 7 8)
    ∷ on stage "<a></\u{2007}>" (refused_by 9 1 2 3 9)
    ∷ on stage "<a>{b\u{3000},c}</a>" (span 16 8 9)
    -- 1.13: one that is cut is no UTF-8.
    ∷ on_bytes stage (0x3C ∷ 0x61 ∷ 0xC2 ∷ []) (at 2 2)
    ∷ on_bytes stage (0x3C ∷ 0x61 ∷ 0xE2 ∷ 0x80 ∷ []) (at 2 2)
    ∷ on_bytes stage (0x3C ∷ 0x61 ∷ 0x3E ∷ 0xE2 ∷ 0x80 ∷ 0xA8 ∷ 0xA8 ∷ []) (at 2 6)
    -- 1.14: the level is tested behind one.
    ∷ on stage (copies 64 "<a>" & "<\u{a0}b") (at 14 192)
    ∷ on stage (copies 64 "<a>" & "<\u{2028}") (at 4 196)
    ∷ []

abbrev line_cases : List Case
line_cases =
    -- 1.6: each of the four ends a `//` comment, and is then a blank; nothing else does.
    on stage "<a//x\u{2028}b/>" (rows (row 1 0 11 4294967295 5 0 0 (row 18 0 11 0 5 0 1 (row 3 1 2 1 3 0 2
    (row 8 8 9 1 5 0 2 (row 16 8 9 3 5 0 3 []))))))
    ∷ on stage "<a//\nb/>" (counted 5)
    ∷ on stage "<a//\rb/>" (counted 5)
    ∷ on stage "<a//\u{2029}b/>" (counted 5)
    ∷ on stage "<a//\u{a0}\u{feff}\u{b}\u{c}\u{85}\n/>" (counted 3)
    ∷ on stage "<a>{//}\u{2029}b}</a>" (counted 7)
    -- 1.7: none is refused in it.
    ∷ on stage "<a/>//\u{2028}" (counted 3)
    ∷ on stage "<a/>//\u{2028}<b/>" (span 12 9 10)
    -- 1.9: CR LF is two of them.
    ∷ on stage "<a\r\nb/>" (counted 5)
    ∷ on stage "<a//\r\u{2028}b/>" (counted 5)
    ∷ []

-- Each of the 25 is a blank,
pub blank_cases_hold : wrong blank_cases ≡ []
unfolding wrong between
blank_cases_hold = refl

-- none of their neighbours is,
pub other_cases_hold : wrong other_cases ≡ []
unfolding wrong between
other_cases_hold = refl

-- they stand where blanks do,
pub place_cases_hold : wrong place_cases ≡ []
unfolding wrong
place_cases_hold = refl

-- and four end a line.
pub line_cases_hold : wrong line_cases ≡ []
unfolding wrong
line_cases_hold = refl

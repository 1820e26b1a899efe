-- The examples that document 01 gives in passing, chapter by chapter.
use mathlib.Core.Path.{◌≡◌, refl}
use mathlib.Core.List.{List, [], ◌∷◌}
use Rattle.rules.specs.Record.{row}
use Rattle.jsx.specs.Reading.{stage, run}
use Rattle.jsx.proofs.Case.{Case, on, rows, counted, refused_by, at, span, ◌&◌, copies, wrong}

-- 'The two readings': the empty run; `<` `/` at a run's outermost level; text to the end of a run.
abbrev readings : List Case
readings =
    on run "" (counted 0)
    ∷ on run "</a>" (at 3 0)
    ∷ on run "a< /b" (at 3 1)
    ∷ on run "</>+<>" (at 3 0)
    ∷ on run "hi" (rows (row 14 0 2 4294967295 1 0 0 []))
    ∷ on stage " \t\n\u{b}\u{c}\r/* * */<a/>// x" (counted 3)
    ∷ []

-- 'Bytes, blanks, comments'
abbrev blank_cases : List Case
blank_cases =
    on stage "< a . b / >" (rows (row 1 0 11 4294967295 5 0 0 (row 18 0 11 0 5 0 1 (row 7 2 7 1 5 0 2 (row 4 2 3 2 4 0 3
    (row 16 6 7 2 5 0 3 []))))))
    ∷ on stage "<a//b\r/>" (counted 3)
    ∷ on stage "<a//\u{2028}\n/>" (counted 3)
    ∷ on stage "<a//\u{2029}" (at 4 7)
    ∷ on stage "<a/*\u{2028}*//>" (counted 3)
    ∷ on run "//\u{2028}/*" (counted 1)
    ∷ on stage "<a /* " (at 17 3)
    ∷ on stage "<a b c/>" (counted 7)
    ∷ on stage "<a b-\nc/>" (counted 7)
    ∷ []

-- 'Markup'
abbrev markup_cases : List Case
markup_cases =
    on stage "<a-/>" (rows (row 1 0 5 4294967295 3 0 0 (row 18 0 5 0 3 0 1 (row 3 1 3 1 3 1 2 []))))
    ∷ on stage "<a--1/>" (counted 3)
    ∷ on stage "<if/>" (counted 3)
    ∷ on stage "<a:b.c/>" (at 3 4)
    ∷ on stage "<a.b:c/>" (at 3 4)
    ∷ on stage "<a-b:c-d/>" (rows (row 1 0 10 4294967295 5 0 0 (row 18 0 10 0 5 0 1 (row 6 1 8 1 5 0 2
    (row 16 1 4 2 4 1 3 (row 16 5 8 2 5 1 3 []))))))
    ∷ on stage "<A/>" (rows (row 1 0 4 4294967295 3 0 0 (row 18 0 4 0 3 0 1 (row 4 1 2 1 3 0 2 []))))
    ∷ on stage "<_a/>" (rows (row 1 0 5 4294967295 3 0 0 (row 18 0 5 0 3 0 1 (row 4 1 3 1 3 0 2 []))))
    ∷ on stage "<$a/>" (rows (row 1 0 5 4294967295 3 0 0 (row 18 0 5 0 3 0 1 (row 4 1 3 1 3 0 2 []))))
    ∷ on stage "<A-b/>" (rows (row 1 0 6 4294967295 3 0 0 (row 18 0 6 0 3 0 1 (row 3 1 4 1 3 1 2 []))))
    ∷ on stage "<this/>" (rows (row 1 0 7 4294967295 3 0 0 (row 18 0 7 0 3 0 1 (row 5 1 5 1 3 0 2 []))))
    ∷ on stage "<thisx/>" (rows (row 1 0 8 4294967295 3 0 0 (row 18 0 8 0 3 0 1 (row 3 1 6 1 3 0 2 []))))
    ∷ on stage "<this.a/>" (rows (row 1 0 9 4294967295 5 0 0 (row 18 0 9 0 5 0 1 (row 7 1 7 1 5 0 2 (row 5 1 5 2 4 0 3
    (row 16 6 7 2 5 0 3 []))))))
    ∷ on stage "<foo.bar/>" (rows (row 1 0 10 4294967295 5 0 0 (row 18 0 10 0 5 0 1 (row 7 1 8 1 5 0 2
    (row 4 1 4 2 4 0 3 (row 16 5 8 2 5 0 3 []))))))
    ∷ on stage "<a b=\"x\"c='y'{...d}e={f}g:h=<i/>/>" (counted 22)
    ∷ on stage "<a b b/>" (counted 7)
    ∷ on stage "<a b=\"\\\"/>" (rows (row 1 0 10 4294967295 6 0 0 (row 18 0 10 0 6 0 1 (row 3 1 2 1 3 0 2
    (row 8 3 8 1 6 0 2 (row 16 3 4 3 5 0 3 (row 10 5 8 3 6 0 3 [])))))))
    ∷ on stage "<a b='\n'/>" (counted 6)
    ∷ on stage "<a>{ /* x */ }</a>" (rows (row 1 0 18 4294967295 7 1 0 (row 18 0 3 0 3 0 1 (row 3 1 2 1 3 0 2
    (row 11 3 14 0 5 0 1 (row 12 4 13 3 5 0 2 (row 17 14 18 0 7 0 1 (row 3 16 17 5 7 0 2 []))))))))
    ∷ on stage "<a>{...b}</a>" (rows (row 1 0 13 4294967295 7 1 0 (row 18 0 3 0 3 0 1 (row 3 1 2 1 3 0 2
    (row 13 3 9 0 5 0 1 (row 15 7 8 3 5 0 2 (row 17 9 13 0 7 0 1 (row 3 11 12 5 7 0 2 []))))))))
    ∷ on stage "<a . b></ a/**/.b >" (counted 9)
    ∷ on stage "<a.b></a:b>" (refused_by 7 1 4 7 10)
    ∷ on stage "<a></A>" (refused_by 7 1 2 5 6)
    ∷ on stage "<a b={<c/>}><></></a>" (counted 15)
    ∷ []

-- 'Inside braces'
abbrev brace_cases : List Case
brace_cases =
    on stage "<a>{<a/>.b}</a>" (at 3 8)
    ∷ on stage "<a>{1.a}</a>" (at 3 4)
    ∷ on stage "<a>{1 .a}</a>" (counted 7)
    ∷ on stage "<a>{1." (at 3 4)
    ∷ on stage "<a>{01}</a>" (at 3 4)
    ∷ on stage "<a>{0.10}</a>" (counted 7)
    ∷ on stage "<a>{1a}</a>" (at 3 4)
    ∷ on stage "<a>{1.5_}</a>" (at 3 4)
    ∷ on stage "<a>{b.if}</a>" (counted 7)
    ∷ on stage "<a>{b.1}</a>" (at 3 6)
    ∷ on stage "<a>{b+=c}</a>" (at 3 6)
    ∷ on stage "<a>{b++c}</a>" (at 3 5)
    ∷ on stage "<a>{b--c}</a>" (at 3 5)
    ∷ on stage "<a>{--c}</a>" (at 3 4)
    ∷ on stage "<a>{b**c}</a>" (at 3 5)
    ∷ on stage "<a>{b?.c}</a>" (at 3 5)
    ∷ on stage "<a>{b??c}</a>" (at 3 5)
    ∷ on stage "<a>{b|c}</a>" (at 3 5)
    ∷ on stage "<a>{b|" (at 3 5)
    ∷ on stage "<a>{b&c}</a>" (at 3 5)
    ∷ on stage "<a>{b/c}</a>" (at 3 5)
    ∷ on stage "<a>{b/" (at 3 5)
    ∷ on stage "<a>{..b}</a>" (at 3 4)
    ∷ on stage "<a>{." (at 3 4)
    ∷ on stage "<a {..b}/>" (at 3 4)
    ∷ on stage "<a>{'b\\'}</a>" (at 3 6)
    ∷ on stage "<a>{'b\n'}</a>" (span 3 4 6)
    ∷ on stage "<a>{\"b\r\"}</a>" (span 3 4 6)
    ∷ on stage "<a>{'b}</a>" (at 18 4)
    ∷ on stage "<a>{!-b.c[d](e, f)()*1+'s'-(g)&&h||i?j:k?l:m}</a>" (counted 7)
    ∷ on stage "<a>{b ? <c/> : <></>}</a>" (counted 13)
    ∷ on stage "<a>{b[}</a>" (at 3 6)
    ∷ on stage "<a>{b?c}</a>" (at 3 7)
    ∷ []

-- 'Refusal numbers' and 'Marked inputs': the inputs without a star, and the easy slips.
abbrev refusal_cases : List Case
refusal_cases =
    on stage "" (at 4 0)
    ∷ on stage "<a>x" (at 4 4)
    ∷ on stage "<x>{a, b}</x>" (span 16 5 6)
    ∷ on run "hiyo" (rows (row 14 0 4 4294967295 1 0 0 []))
    ∷ on stage "<v></w" (at 4 6)
    ∷ on stage "<f.b-" (span 10 3 5)
    ∷ on stage "<a b={ /**/ }/>" (span 11 5 13)
    ∷ on stage "<a b=<c/> <d/>/>" (span 12 10 11)
    ∷ on stage "<a>{<b/> <c/>}</a>" (span 12 9 10)
    ∷ on stage "<a/> <" (span 12 5 6)
    ∷ on stage "<a>></a>" (at 6 3)
    ∷ on stage "<a b=\"x" (at 5 5)
    ∷ []

-- Depth: 64 elements are good, the 65th is 14 at its `<`.
abbrev depth_cases : List Case
depth_cases =
    on stage (copies 64 "<>" & copies 64 "</>") (counted 192)
    ∷ on stage (copies 65 "<>" & copies 65 "</>") (at 14 128)
    ∷ on stage ("<a>{" & copies 62 "!" & "b}</a>") (counted 7)
    ∷ on stage ("<a>{" & copies 63 "!" & "b}</a>") (at 14 66)
    ∷ on stage ("<a>{" & copies 62 "(" & "b" & copies 62 ")" & "}</a>") (counted 7)
    ∷ on stage ("<a>{" & copies 63 "(" & "b" & copies 63 ")" & "}</a>") (at 14 66)
    ∷ on stage ("<a>{" & copies 62 "b[" & "c" & copies 62 "]" & "}</a>") (counted 7)
    ∷ on stage ("<a>{" & copies 63 "b[" & "c" & copies 63 "]" & "}</a>") (at 14 129)
    ∷ on stage ("<a>{" & copies 62 "b(" & copies 62 ")" & "}</a>") (counted 7)
    ∷ on stage ("<a>{" & copies 63 "b(" & copies 63 ")" & "}</a>") (at 14 129)
    ∷ on stage ("<a>{" & copies 62 "b?c:" & "d}</a>") (counted 7)
    ∷ on stage ("<a>{" & copies 63 "b?c:" & "d}</a>") (at 14 253)
    ∷ on run (copies 64 "<>" & copies 64 "</>") (counted 192)
    ∷ on run (copies 65 "<>" & copies 65 "</>") (at 14 128)
    ∷ on run (copies 63 "<>" & "{b}" & copies 63 "</>") (counted 191)
    ∷ on run (copies 64 "<>" & "{b}" & copies 64 "</>") (at 14 128)
    ∷ []

-- Each input from 'The two readings' is answered as above.
pub readings_hold : wrong readings ≡ []
unfolding wrong
readings_hold = refl

-- Each input from 'Bytes, blanks, comments' is answered as above.
pub blanks_hold : wrong blank_cases ≡ []
unfolding wrong
blanks_hold = refl

-- Each input from 'Markup' is answered as above.
pub markup_holds : wrong markup_cases ≡ []
unfolding wrong
markup_holds = refl

-- Each input from 'Inside braces' is answered as above.
pub braces_hold : wrong brace_cases ≡ []
unfolding wrong
braces_hold = refl

-- Each input from 'Refusal numbers' and 'Marked inputs' is answered as above.
pub refusals_hold : wrong refusal_cases ≡ []
unfolding wrong
refusals_hold = refl

-- Each input at either end of the depth limit is answered as above.
pub depth_holds : wrong depth_cases ≡ []
unfolding wrong
depth_holds = refl

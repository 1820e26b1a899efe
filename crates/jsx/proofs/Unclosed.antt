-- What was opened and never closed, and a string that is broken, computed: inputs for 3.1 to 3.13 of docs/DECISIONS.md.
use mathlib.Core.Path.{◌≡◌, refl}
use mathlib.Core.List.{List, [], ◌∷◌}
use Rattle.jsx.specs.Reading.{stage, run}
use Rattle.jsx.proofs.Case.{Case, on, counted, at, span, ◌&◌, copies, wrong}

-- A string in braces.
abbrev string_cases : List Case
string_cases =
    -- 3.1: LF breaks it; from the quote to the line end.
    on stage "<a>{\"b\n\"}</a>" (span 3 4 6)
    ∷ on stage "<a>{'\n" (span 3 4 5)
    -- 3.2: of CR LF the CR is the line end.
    ∷ on stage "<a>{\"b\r\n\"}</a>" (span 3 4 6)
    -- 3.3: a backslash stays 3 where it stands.
    ∷ on stage "<a>{\"b\\" (at 3 6)
    ∷ on stage "<a>{\"b\\\"}</a>" (at 3 6)
    -- 3.4: the first bad byte counts, and 18 is given where there is none.
    ∷ on stage "<a>{\"b\\\n" (at 3 6)
    ∷ on stage "<a>{\"b\n\\" (span 3 4 6)
    ∷ on stage "<a>{\"b\n" (span 3 4 6)
    ∷ on stage "<a>{\"b" (at 18 4)
    -- 3.5: U+2028 and U+2029 are content.
    ∷ on stage "<a>{\"\u{2028}\"}</a>" (counted 7)
    ∷ on stage "<a>{\"\u{2028}" (at 18 4)
    ∷ on stage "<a>{\"\u{2029}\n" (span 3 4 8)
    -- 3.6: wherever the braces stand.
    ∷ on stage "<a b={\"x" (at 18 6)
    ∷ on stage "<a {...\"x" (at 18 7)
    ∷ on stage "<a>{...'x" (at 18 7)
    ∷ on stage "<a>{f(\"x" (at 18 6)
    ∷ on run "{\"x" (at 18 1)
    -- 3.7: a tag's quoted attribute string is 5 in braces too, and its lines may end.
    ∷ on stage "<a>{<b c=\"x" (at 5 9)
    ∷ on stage "<a>{<b c={'x" (at 18 10)
    ∷ on stage "<a b='x\n" (at 5 5)
    -- 3.11: no string may stand here, so none is read.
    ∷ on stage "<a \"x" (at 3 3)
    ∷ on stage "<a>{b \"x\n" (at 3 6)
    ∷ on stage "\"" (at 3 0)
    ∷ on stage "<a/>\"" (at 13 4)
    ∷ []

-- A comment.
abbrev comment_cases : List Case
comment_cases =
    -- 3.8: wherever blanks may stand.
    on stage "/*" (at 17 0)
    ∷ on stage "<a /*" (at 17 3)
    ∷ on stage "<a>{b/*" (at 17 5)
    ∷ on stage "<a/>/*" (at 17 4)
    ∷ on run "</*" (at 17 1)
    ∷ on stage "<a/>/*/" (at 17 4)
    -- 3.9: the end of input closes a `//` comment.
    ∷ on stage "<a //x" (at 4 6)
    -- 3.10: in child position `/*` and quotes are text.
    ∷ on stage "<a>/*" (at 4 5)
    ∷ on stage "<a>/*{\"" (at 18 6)
    -- 3.12: what opened first counts.
    ∷ on stage "<a>{'/*" (at 18 4)
    ∷ on stage "<a>{/*'" (at 17 4)
    ∷ on stage "<a>{\"'" (at 18 4)
    -- 3.13: the brace is counted before its string is read, the comment behind `<` before the level.
    ∷ on stage (copies 64 "<a>" & "{\"") (at 14 192)
    ∷ on stage (copies 64 "<a>" & "</*") (at 17 193)
    ∷ []

-- Each string is answered so,
pub string_cases_hold : wrong string_cases ≡ []
unfolding wrong
string_cases_hold = refl

-- and each comment.
pub comment_cases_hold : wrong comment_cases ≡ []
unfolding wrong
comment_cases_hold = refl

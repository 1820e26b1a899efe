-- The starred inputs of document 01, chapter 'Marked inputs', with their whole answers.
use mathlib.Core.Path.{◌≡◌, refl}
use mathlib.Core.List.{List, [], ◌∷◌}
use Rattle.rules.specs.Record.{row}
use Rattle.jsx.specs.Reading.{stage}
use Rattle.jsx.proofs.Case.{Case, on, rows, refused_by, at, span, wrong}

-- Each starred input, under document 01's words for it, with its answer.
abbrev pub starred : List Case
starred =
    -- "`<a/>` 3 records"
    on stage "<a/>" (rows (row 1 0 4 4294967295 3 0 0 (row 18 0 4 0 3 0 1 (row 3 1 2 1 3 0 2 []))))
    -- "`<v>hi</v>` as above"
    ∷ on stage "<v>hi</v>" (rows (row 1 0 9 4294967295 6 1 0 (row 18 0 3 0 3 0 1 (row 3 1 2 1 3 0 2 (row 14 3 5 0 4 0 1
    (row 17 5 9 0 6 0 1 (row 3 7 8 4 6 0 2 [])))))))
    -- "`<a-b.c/>` 5 records"
    ∷ on stage "<a-b.c/>" (rows (row 1 0 8 4294967295 5 0 0 (row 18 0 8 0 5 0 1 (row 7 1 6 1 5 0 2 (row 4 1 4 2 4 1 3
    (row 16 5 6 2 5 0 3 []))))))
    -- "`<a>{}</a>` empty expression 4, 4"
    ∷ on stage "<a>{}</a>" (rows (row 1 0 9 4294967295 7 1 0 (row 18 0 3 0 3 0 1 (row 3 1 2 1 3 0 2 (row 11 3 5 0 5 0 1
    (row 12 4 4 3 5 0 2 (row 17 5 9 0 7 0 1 (row 3 7 8 5 7 0 2 []))))))))
    -- "`<v></w>` 7: 1, 2 and 5, 6"
    ∷ on stage "<v></w>" (refused_by 7 1 2 5 6)
    -- "`<></a>` 8: 0, 2 and 4, 5"
    ∷ on stage "<></a>" (refused_by 8 0 2 4 5)
    -- "`<a></>` 9: 1, 2 and 3, 6"
    ∷ on stage "<a></>" (refused_by 9 1 2 3 6)
    -- "`<f.b-/>` 10: 3, 5"
    ∷ on stage "<f.b-/>" (span 10 3 5)
    -- "`<a b={}/>` 11: 5, 7"
    ∷ on stage "<a b={}/>" (span 11 5 7)
    -- "`<a/><b/>` 12: 4, 5"
    ∷ on stage "<a/><b/>" (span 12 4 5)
    -- "`<a/> x` 13: 5"
    ∷ on stage "<a/> x" (at 13 5)
    -- "`<a>}</a>` 6: 3"
    ∷ on stage "<a>}</a>" (at 6 3)
    ∷ []

-- Each starred input has just the answer above: number, places, count and table.
pub starred_hold : wrong starred ≡ []
unfolding wrong
starred_hold = refl

-- 'The table': every kind with each extra that it may have, in whole rows.
use mathlib.Core.Path.{◌≡◌, refl}
use mathlib.Core.List.{List, [], ◌∷◌}
use Rattle.rules.specs.Record.{row}
use Rattle.jsx.specs.Reading.{stage, run}
use Rattle.jsx.proofs.Case.{Case, on, rows, wrong}

-- A fragment (2) with a spread attribute (9) inside; elements in elements; names of two parts, opened and closed.
abbrev pub stage_rows : List Case
stage_rows =
    on stage "<><a {...b}/></>" (rows (row 2 0 16 4294967295 8 0 0
    (row 18 0 2 0 2 0 1 (row 1 2 13 0 7 0 1 (row 18 2 13 2 7 0 2
    (row 3 3 4 3 5 0 3 (row 9 5 11 3 7 0 3 (row 15 9 10 5 7 0 4 (row 17 13 16 0 8 0 1 [])))))))))
    ∷ on stage "<a><b>c</b></a>" (rows (row 1 0 15 4294967295 11 1 0
    (row 18 0 3 0 3 0 1 (row 3 1 2 1 3 0 2 (row 1 3 11 0 9 1 1
    (row 18 3 6 3 6 0 2 (row 3 4 5 4 6 0 3 (row 14 6 7 3 7 0 2 (row 17 7 11 3 9 0 2 (row 3 9 10 7 9 0 3
    (row 17 11 15 0 11 0 1 (row 3 13 14 9 11 0 2 []))))))))))))
    ∷ on stage "<a.b></a.b>" (rows (row 1 0 11 4294967295 9 1 0
    (row 18 0 5 0 5 0 1 (row 7 1 4 1 5 0 2 (row 4 1 2 2 4 0 3
    (row 16 3 4 2 5 0 3 (row 17 5 11 0 9 0 1 (row 7 7 10 5 9 0 2 (row 4 7 8 6 8 0 3 (row 16 9 10 6 9 0 3 []))))))))))
    ∷ []

-- Attributes (8): an element and a fragment as values; a container (11) for a name with a dash; a name of
-- two parts (6).
abbrev pub attribute_rows : List Case
attribute_rows =
    on stage "<a b=<c/> d=<></>/>"
    (rows (row 1 0 19 4294967295 13 0 0 (row 18 0 19 0 13 0 1 (row 3 1 2 1 3 0 2 (row 8 3 9 1 8 0 2
    (row 16 3 4 3 5 0 3 (row 1 5 9 3 8 0 3 (row 18 5 9 5 8 0 4
    (row 3 6 7 6 8 0 5 (row 8 10 17 1 13 0 2 (row 16 10 11 8 10 0 3
    (row 2 12 17 8 13 0 3 (row 18 12 14 10 12 0 4 (row 17 14 17 10 13 0 4 []))))))))))))))
    ∷ on stage "<a b-c={d} e:f/>"
    (rows (row 1 0 16 4294967295 11 0 0 (row 18 0 16 0 11 0 1 (row 3 1 2 1 3 0 2 (row 8 3 10 1 7 0 2
    (row 16 3 6 3 5 1 3 (row 11 7 10 3 7 0 3 (row 15 8 9 5 7 0 4
    (row 8 11 14 1 11 0 2 (row 6 11 14 7 11 0 3 (row 16 11 12 8 10 0 4
    (row 16 13 14 8 11 0 4 []))))))))))))
    ∷ []

-- Children of a run, each with no parent: texts (14), elements, containers with an expression (15) or empty (12),
-- spread children (13).
abbrev pub child_rows : List Case
child_rows =
    on run "{ <b/> }"
    (rows (row 11 0 8 4294967295 5 0 0 (row 15 2 6 0 5 0 1
    (row 1 2 6 1 5 0 2 (row 18 2 6 2 5 0 3 (row 3 3 4 3 5 0 4 []))))))
    ∷ on run "{...<c/>}" (rows (row 13 0 9 4294967295 5 0 0 (row 15 4 8 0 5 0 1 (row 1 4 8 1 5 0 2 (row 18 4 8 2 5 0 3
    (row 3 5 6 3 5 0 4 []))))))
    ∷ on run "{a?<b/>:<></>}" (rows (row 11 0 14 4294967295 8 0 0
    (row 15 1 13 0 8 0 1 (row 1 3 7 1 5 0 2 (row 18 3 7 2 5 0 3
    (row 3 4 5 3 5 0 4 (row 2 8 13 1 8 0 2 (row 18 8 10 5 7 0 3 (row 17 10 13 5 8 0 3 [])))))))))
    ∷ on run "x<a/>{}" (rows (row 14 0 1 4294967295 1 0 0
    (row 1 1 5 4294967295 4 0 0 (row 18 1 5 1 4 0 1 (row 3 2 3 2 4 0 2
    (row 11 5 7 4294967295 6 0 0 (row 12 6 6 4 6 0 1 [])))))))
    ∷ []

-- Each has just the rows above.
pub stages_hold : wrong stage_rows ≡ []
unfolding wrong
stages_hold = refl

-- Each has just the rows above.
pub attributes_hold : wrong attribute_rows ≡ []
unfolding wrong
attributes_hold = refl

-- Each has just the rows above.
pub children_hold : wrong child_rows ≡ []
unfolding wrong
children_hold = refl

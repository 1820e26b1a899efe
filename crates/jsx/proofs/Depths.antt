-- What the depth of a record counts, computed: an input for 5.1, 5.2 and 5.6 of docs/DECISIONS.md.
use Prim.Native.Nat.{◌*◌}
use Prim.Native.String.{String}
use mathlib.Core.Path.{◌≡◌, refl}
use mathlib.Core.List.{List, [], ◌∷◌}
use lib.ListN.{replicate}
use Rattle.rules.specs.Record.{row_words, row}
use Rattle.jsx.specs.Byte.{bytes_of}
use Rattle.jsx.specs.Reading.{standard, stage, run}
use Rattle.jsx.specs.Table.{read, table_word}
use Rattle.jsx.proofs.Case.{Case, on, rows, ◌&◌, copies, wrong, whole_language}

abbrev depth_cases : List Case
depth_cases =
    -- 5.1: each outermost record of a run has 0.
    on run "x<a/>" (rows (row 14 0 1 4294967295 1 0 0 (row 1 1 5 4294967295 4 0 0
    (row 18 1 5 1 4 0 1 (row 3 2 3 2 4 0 2 [])))))
    -- 5.2: parentheses, prefixes and conditionals leave no record and count nothing.
    ∷ on stage "<a>{((<b/>))}</a>" (rows (row 1 0 17 4294967295 10 1 0
    (row 18 0 3 0 3 0 1 (row 3 1 2 1 3 0 2 (row 11 3 13 0 8 0 1 (row 15 4 12 3 8 0 2
    (row 1 6 10 4 8 0 3 (row 18 6 10 5 8 0 4 (row 3 7 8 6 8 0 5 (row 17 13 17 0 10 0 1
    (row 3 15 16 8 10 0 2 [])))))))))))
    ∷ on run "{a?<b/>:!(<c/>)}" (rows (row 11 0 16 4294967295 8 0 0
    (row 15 1 15 0 8 0 1 (row 1 3 7 1 5 0 2 (row 18 3 7 2 5 0 3 (row 3 4 5 3 5 0 4
    (row 1 10 14 1 8 0 2 (row 18 10 14 5 8 0 3 (row 3 11 12 6 8 0 4 [])))))))))
    ∷ []

-- Each is answered so.
pub depth_cases_hold : wrong depth_cases ≡ []
unfolding wrong
depth_cases_hold = refl

-- 5.6: the greatest depth within document 01's limits. 64 elements, each but the first an attribute's value, and in the
-- last one's opening tag a part of an attribute's name.
abbrev deepest : String
deepest = copies 63 "<a b=" & "<a b:c/>" & copies 63 "/>"

pub greatest_depth : table_word (read standard stage (bytes_of deepest) (replicate (row_words * 322) 0)).table 321 6
    ≡ 193
unfolding whole_language ◌&◌ copies table_word
greatest_depth = refl

-- The two readings, and the order of the tests. Chapters 'The two readings', 'Bytes, blanks, comments', 'Refusal
-- numbers'.
use Rattle.std.specs.Prelude.{ℕ, List, length, ltb}
use Rattle.rules.specs.Rule.{Rule, done, refuse, when, here, ◌⨾◌, ◌⇒◌∣◌}
use Rattle.rules.specs.Parse.{Answer, trouble, pick, and_then, parse_all}
use Rattle.jsx.specs.Refusal.{too_long, unexpected, after_stage}
use Rattle.jsx.specs.Byte.{is, end, need}
use Rattle.jsx.specs.Utf8.{utf8}
use Rattle.jsx.specs.Blank.{blanks}
use Rattle.jsx.specs.Expression.{no_sibling}
use Rattle.jsx.specs.Element.{children}
use Rattle.jsx.specs.Depth.{within}

-- D: "Stage: blanks, one element or fragment, blanks, end of input." D: "anything else after a stage" is 13 at "its
-- start".
-- d: the levels that are allowed.
unfoldable pub stage : ℕ → Rule
stage d =
    blanks
    ⨾ (when (is "<") ⇒ (within d).element ∣ need)
    ⨾ no_sibling after_stage
    ⨾ blanks
    ⨾ (when end ⇒ done ∣ refuse after_stage here)

-- D: "Run: zero or more children up to the end of input. .. `<` `/` at the outermost level, blanks between or not, is
-- refusal 3 at the `<`."
unfoldable pub run : ℕ → Rule
run d = children (within d) ⨾ (when end ⇒ done ∣ refuse unexpected here)

pub record Limits : Type 0 where
  -- the most bytes of an input
  pub bytes : ℕ
  -- the most levels of depth
  pub depth : ℕ

-- D: "Input is at most 1,048,576 bytes"; "64 is good".
unfoldable pub standard : Limits
standard = record { bytes = 1_048_576; depth = 64 }

-- D: "Tests run in this order: 1; 2; the reading, left to right, first trouble wins; 15." The last is the table's. A
-- reading is `stage` or `run`.
-- What `utf8` got may be dropped: wherever it got something, it has read the input to its end (`utf8_ends`,
-- proofs/Pieces).
unfoldable pub answer : Limits → (ℕ → Rule) → List ℕ → Answer
answer l reading s =
    pick (ltb l.bytes (length s)) (trouble too_long 0 0 0 0)
    (and_then (parse_all utf8 s) (λ a o p. parse_all (reading l.depth) s))

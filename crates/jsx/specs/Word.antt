-- Names, numbers and strings inside braces. Chapter 'Inside braces'.
use Rattle.std.specs.Prelude.{ℕ, Bool, true, false, List, [], ◌∷◌, ◌++◌}
use Prim.Native.Char.{Char}
use Prim.Native.String.{String}
use Rattle.rules.specs.Forest.{direct}
use Rattle.rules.specs.Rule.{Rule, done, stop, step, refuse, when, many, said, marked, here, mark, from_mark, ◌⨾◌}
use Rattle.rules.specs.Rule.{◌⇒◌∣◌}
use Rattle.rules.specs.Parse.{pick}
use Rattle.jsx.specs.Refusal.{unexpected, string_never_closed}
use Rattle.jsx.specs.Byte.{bytes_of, is, end, digit, line_end, need}
use Rattle.jsx.specs.Name.{opens_name, in_word, same}

-- D: "Names here: letters, digits, `_`, `$`, no leading digit." D: "After a dot any name is good."
unfoldable pub word : Rule
word = (when opens_name ⇒ step ∣ need) ⨾ many (when in_word ⇒ step ∣ stop)

-- A byte in front of the first of some words.
unfoldable pub on_first : ℕ → List (List ℕ) → List (List ℕ)
on_first b [] = (b ∷ []) ∷ []
on_first b (w ∷ ws) = (b ∷ w) ∷ ws

-- Bytes cut at each space.
unfoldable pub cut : List ℕ → List (List ℕ)
cut [] = [] ∷ []
cut (b ∷ w) = pick (is " " b) ([] ∷ cut w) (on_first b (cut w))

unfoldable pub words : String → List (List ℕ)
words w = cut (bytes_of w)

unfoldable pub among : List (List ℕ) → List ℕ → Bool
among [] w = false
among (v ∷ vs) w = pick (same v w) true (among vs w)

-- D: "the 38 reserved words of ECMA-262".
unfoldable pub reserved : List (List ℕ)
reserved =
    words "await break case catch class const continue debugger default delete do else enum export extends"
    ++ words "false finally for function if import in instanceof new null return super switch this throw true"
    ++ words "try typeof var void while with yield"

-- D: "are refused except `this`, `true`, `false`, `null`".
unfoldable pub spared : List (List ℕ)
spared = words "this true false null"

-- D: "so are `let static implements interface package private protected public`".
unfoldable pub strict : List (List ℕ)
strict = words "let static implements interface package private protected public"

unfoldable pub refused_word : List ℕ → Bool
refused_word w = pick (among spared w) false (pick (among reserved w) true (among strict w))

-- A name as a primary; D: "a bad word": 3 at "its start".
unfoldable pub primary_word : Rule
primary_word = marked (said (λ o. refused_word (direct o)) word (refuse unexpected mark) done)

unfoldable pub digits : Rule
digits = many (when digit ⇒ step ∣ stop)

-- D: "Numbers: `0`, or digits not starting with 0".
unfoldable pub whole : Rule
whole =
    when (is "0") ⇒ step
    ∣ digits

-- D: "then optionally `.` and digits"; "A `.` right after the whole digits needs a digit next".
unfoldable pub fraction : Rule
fraction =
    when (is ".") ⇒ step ⨾ (when digit ⇒ digits ∣ refuse unexpected mark)
    ∣ done

-- D: "no letter, digit, `_` or `$` may follow". A bad number is 3 at "its start".
unfoldable pub number : Rule
number = marked (whole ⨾ fraction ⨾ (when in_word ⇒ refuse unexpected mark ∣ done))

-- D: "Strings: no backslash, LF or CR"; 3 at "inside a string, the offset of the bad byte", but D2: "broken by LF or CR
-- now shows the whole piece, from its quote to the line end". Never closed, 18 at its quote.
unfoldable pub string_turn : Char → Rule
string_turn q =
    when end ⇒ refuse string_never_closed mark
    ∣ when (is q) ⇒ stop
    ∣ when (is "\\") ⇒ refuse unexpected here
    ∣ when line_end ⇒ refuse unexpected from_mark
    ∣ step

unfoldable pub string_by : Char → Rule
string_by q = marked (step ⨾ many (string_turn q) ⨾ step)

unfoldable pub string : Rule
string =
    when (is "'") ⇒ string_by "'"
    ∣ string_by "\""

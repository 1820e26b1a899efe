-- An input for each reading of docs/DECISIONS.md, under its name there.
use Prim.Native.Nat.{ℕ}
use Prim.Native.String.{String}
use mathlib.Core.Path.{◌≡◌, refl}
use mathlib.Core.List.{List, [], ◌∷◌}
use Rattle.rules.specs.Record.{row}
use Rattle.jsx.specs.Reading.{Limits, stage, run}
use Rattle.jsx.proofs.Case.{Case, limited, on, on_bytes, rows, counted, refused_by, at, span, ◌&◌, copies, wrong}

-- Document 01's length with another depth.
abbrev deep : ℕ → Limits
deep d = record { bytes = 1_048_576; depth = d }

-- 64 levels of elements.
abbrev full : String
full = copies 64 "<a>"

-- 64 levels: an element, braces and 62 parentheses.
abbrev full_in_braces : String
full_in_braces = "<a>{" & copies 62 "("

abbrev first_ten : List Case
first_ten =
    -- A1
    on stage "<a \"x" (at 3 3)
    ∷ on stage "<a>{b 'x" (at 3 6)
    ∷ on stage "<a b\"x" (at 3 4)
    ∷ on stage "<a/>\"x" (at 13 4)
    ∷ on stage "<a /*" (at 17 3)
    -- A2
    ∷ on stage (full_in_braces & "b(") (at 14 67)
    ∷ on stage (full_in_braces & "b[") (at 14 67)
    ∷ on stage (full_in_braces & "b?") (at 14 67)
    ∷ limited (deep 3) stage "<a>{f()()()[b][c]}</a>" (counted 7)
    -- A3
    ∷ on stage (full & "<f.b-") (at 14 192)
    ∷ on stage (full & "<f:") (at 14 192)
    ∷ on stage (full & "<>") (at 14 192)
    ∷ on stage (full & "<") (at 4 193)
    ∷ on stage (full & "< ") (at 4 194)
    ∷ on stage (full & "<!") (at 3 193)
    -- A5
    ∷ on stage "<a>{b..c}</a>" (at 3 6)
    ∷ on stage "<a>{b...c}</a>" (at 3 6)
    ∷ on stage "<a>{1 ...c}</a>" (at 3 7)
    ∷ on stage "<f..b/>" (at 3 3)
    -- A6
    ∷ on stage "<a>{if" (at 3 4)
    ∷ on stage "<a>{i" (at 4 5)
    ∷ on stage "<a>{iff" (at 4 7)
    -- A7
    ∷ on stage "<a>{1é}</a>" (at 3 5)
    ∷ on stage "<aé/>" (counted 3)
    ∷ on stage "<a>{bé}</a>" (at 3 5)
    -- A8
    ∷ on stage "<a>{\"b\\" (at 3 6)
    ∷ on stage "<a>{\"b\n" (span 3 4 6)
    -- A9
    ∷ on stage "/" (at 3 0)
    ∷ on stage "<a b=/" (at 3 5)
    ∷ on stage "<a:/" (at 3 3)
    ∷ on stage "</" (at 3 1)
    ∷ on stage "<a/>/" (at 13 4)
    ∷ on stage "<a/" (at 4 3)
    ∷ on stage "<a></" (at 4 5)
    ∷ on run "</" (at 3 0)
    -- A10
    ∷ on stage "<a/>/*/" (at 17 4)
    ∷ []

abbrev smaller_ones : List Case
smaller_ones =
    -- A11
    on stage "</a>" (at 3 1)
    ∷ on stage "<a b=</a>" (at 3 6)
    ∷ on stage "<a>{</a>}" (at 3 5)
    -- A12
    ∷ on stage "<a b={c,d}/>" (span 16 7 8)
    ∷ on stage "<a>{b,c}</a>" (span 16 5 6)
    ∷ on stage "<a>{...b,c}</a>" (at 3 8)
    ∷ on stage "<a {...b,c}/>" (at 3 8)
    ∷ on stage "<a>{(b,c)}</a>" (at 3 6)
    ∷ on stage "<a>{b[c,d]}</a>" (at 3 7)
    ∷ on stage "<a>{b?c,d:e}</a>" (at 3 7)
    -- A13
    ∷ on stage "<a {}/>" (at 3 4)
    -- A14
    ∷ on stage "<a>{f(b,)}</a>" (at 3 8)
    -- A15
    ∷ on stage "<a>{1.5.c}</a>" (counted 7)
    ∷ on stage "<a>{1.5.5}</a>" (at 3 8)
    ∷ on stage "<a>{1..c}</a>" (at 3 4)
    -- A16
    ∷ on stage "<a>{.5}</a>" (at 3 4)
    ∷ on stage "<a>{(.5)}</a>" (at 3 5)
    ∷ on stage "<a>{a?.5:1}</a>" (at 3 5)
    -- A17
    ∷ on stage "<a//b\u{2028}" (at 4 8)
    ∷ on stage "<a/*\u{2028}*/b=\"\u{2029}\">\u{2028}{'\u{2029}'}</a>" (counted 11)
    -- A18
    ∷ on_bytes stage (0x41 ∷ 0xE2 ∷ 0x28 ∷ 0xA1 ∷ []) (at 2 1)
    ∷ on_bytes run (0xC0 ∷ 0x80 ∷ []) (at 2 0)
    ∷ on_bytes run (0x41 ∷ 0xF0 ∷ 0x90 ∷ 0x80 ∷ []) (at 2 1)
    ∷ on_bytes run (0xED ∷ 0xA0 ∷ 0x80 ∷ []) (at 2 0)
    ∷ on_bytes run (0xF4 ∷ 0x90 ∷ 0x80 ∷ 0x80 ∷ []) (at 2 0)
    -- A19
    ∷ on stage "< ></a>" (refused_by 8 0 3 5 6)
    ∷ on stage "<a></ >" (refused_by 9 1 2 3 7)
    ∷ on stage "<a b = 'c' d/>" (rows (row 1 0 14 4294967295 8 0 0 (row 18 0 14 0 8 0 1 (row 3 1 2 1 3 0 2
    (row 8 3 10 1 6 0 2 (row 16 3 4 3 5 0 3 (row 10 7 10 3 6 0 3 (row 8 11 12 1 8 0 2 (row 16 11 12 6 8 0 3 [])))))))))
    -- A20
    ∷ limited (deep 2) stage "<a b={c}/>" (counted 7)
    ∷ limited (deep 1) stage "<a b={c}/>" (at 14 5)
    ∷ limited (deep 1) stage "<a b={}/>" (at 14 5)
    ∷ limited (deep 1) stage "<a {...b}/>" (at 14 3)
    ∷ on stage (full & "{}") (at 14 192)
    ∷ on stage (full & "{") (at 14 192)
    -- A21
    ∷ on stage (full_in_braces & "--b") (at 3 66)
    ∷ on stage (full_in_braces & "b??") (at 3 67)
    ∷ on stage (full_in_braces & "b?.") (at 3 67)
    ∷ on stage (full_in_braces & "-") (at 14 66)
    ∷ on stage (full_in_braces & "b?") (at 14 67)
    -- A22
    ∷ limited (deep 3) stage "<a>{!a?b:c}</a>" (counted 7)
    ∷ limited (deep 3) stage "<a>{!a()}</a>" (at 14 6)
    -- A23
    ∷ on stage "<a/>/*" (at 17 4)
    ∷ on run "</*" (at 17 1)
    ∷ on stage "<a/>//\u{2028}\n<b/>" (span 12 10 11)
    -- A24
    ∷ on stage "<a/><" (span 12 4 5)
    ∷ on stage "<a/><<" (at 13 4)
    ∷ on stage "<a/><=" (at 13 4)
    ∷ on stage "<a b=<c/><=" (at 3 9)
    -- A28
    ∷ on run "{a" (at 4 2)
    ∷ []

-- Each input for A1 to A10 is answered as above.
pub first_ten_hold : wrong first_ten ≡ []
unfolding wrong
first_ten_hold = refl

-- Each input for A11 to A28 is answered as above.
pub smaller_ones_hold : wrong smaller_ones ≡ []
unfolding wrong
smaller_ones_hold = refl

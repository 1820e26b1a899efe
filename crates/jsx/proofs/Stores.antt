-- Settings stores, and readings with the limits that they set, computed: inputs for 14.1 to 14.13 of docs/DECISIONS.md.
use Prim.Native.Nat.{ℕ}
use Prim.Native.String as S
use mathlib.Core.Path.{◌≡◌, refl}
use mathlib.Core.List.{List, [], ◌∷◌, ◌++◌}
use lib.ListN.{replicate}
use Rattle.jsx.specs.Byte.{bytes_of}
use Rattle.jsx.specs.Reading.{Limits, standard, stage, run}
use Rattle.jsx.specs.Settings.{Settled, set, unset, held, settings, capped}
use Rattle.jsx.specs.Lasting.{entry, depth_entry, length_entry}
use Rattle.jsx.proofs.Case.{Case, limited, counted, at, wrong, whole_language}

-- The store of a text.
abbrev store : S.String → Settled
store w = settings (bytes_of w)

abbrev limits : (bytes depth : ℕ) → Settled
limits n d = set (record { bytes = n; depth = d })

-- A depth of 5.
abbrev five : List ℕ
five = depth_entry 5

-- 14.1: a record's offset is that of its mark.
pub offsets : (settings (five ++ (0 ∷ [])) ≡ unset 31 5 5) × (settings (five ++ depth_entry 0) ≡ unset 34 5 5)
unfolding whole_language
offsets = (refl, refl)

-- 14.2: 31 is for a byte that is another one; a byte that is missing is 32.
pub marks : (store "S" ≡ unset 32 0 0)
    × (store "T" ≡ unset 31 0 0)
    × (store "SS" ≡ unset 31 0 0)
    × (store "ST" ≡ unset 32 0 0)
    × (settings (five ++ bytes_of "S") ≡ unset 32 5 5)
unfolding whole_language
marks = (refl, refl, refl, refl, refl)

-- 14.3: the kind is judged only in a whole record.
pub cut_first : (store "ST\u{3}" ≡ unset 32 0 0)
    × (store "ST\u{3}\u{1}" ≡ unset 32 0 0)
    × (store "ST\u{1}\u{2}\u{5}" ≡ unset 32 0 0)
    × (settings (bytes_of "ST" ++ (0x80 ∷ 5 ∷ 1 ∷ [])) ≡ unset 32 0 0)
unfolding whole_language
cut_first = (refl, refl, refl, refl)

-- 14.4, 14.5: an unknown kind below 128 stands for its place; 0 is one.
pub unknown_kinds : (store "ST\u{3}\u{1}x" ≡ unset 33 3 0)
    × (store "ST\u{7f}\0" ≡ unset 33 127 0)
    × (store "ST\0\0" ≡ unset 33 0 0)
unfolding whole_language
unknown_kinds = (refl, refl, refl)

-- 14.6: kinds of 128 and above are skipped with any length, and no mark is looked for in them.
pub skipped_kinds : (settings (entry 0x80 (bytes_of "ST\u{1}")) ≡ set standard)
    × (settings (entry 0xFF []) ≡ set standard)
    × (settings (entry 0x80 (replicate 255 0) ++ five) ≡ limits 1_048_576 5)
unfolding whole_language
skipped_kinds = (refl, refl, refl)

-- 14.7: both ends of each number.
pub numbers : (settings (depth_entry 0) ≡ unset 34 0 0)
    × (settings (depth_entry 1) ≡ limits 1_048_576 1)
    × (settings (depth_entry 64) ≡ limits 1_048_576 64)
    × (settings (depth_entry 65) ≡ unset 34 0 0)
    × (settings (length_entry 0) ≡ limits 0 64)
    × (settings (length_entry 1_048_576) ≡ limits 1_048_576 64)
    × (settings (length_entry 1_048_577) ≡ unset 34 0 0)
unfolding whole_language
numbers = (refl, refl, refl, refl, refl, refl, refl)

-- Each of the four bytes counts, low byte first.
pub low_first : (store "ST\u{2}\u{4}\t\0\0\0" ≡ limits 9 64)
    × (store "ST\u{2}\u{4}\u{1}\u{2}\u{3}\0" ≡ limits 197_121 64)
    × (store "ST\u{2}\u{4}\0\0\0\u{1}" ≡ unset 34 0 0)
unfolding whole_language
low_first = (refl, refl, refl)

-- 14.8: the length byte of a known kind.
pub sizes : (store "ST\u{1}\0" ≡ unset 34 0 0)
    × (store "ST\u{1}\u{2}\u{5}\0" ≡ unset 34 0 0)
    × (store "ST\u{2}\u{1}\u{5}" ≡ unset 34 0 0)
unfolding whole_language
sizes = (refl, refl, refl)

-- 14.9: the last of a kind counts, if all are good.
pub several : (settings (five ++ depth_entry 7) ≡ limits 1_048_576 7)
    × (settings (depth_entry 0 ++ depth_entry 7) ≡ unset 34 0 0)
    × (settings (length_entry 9 ++ depth_entry 2 ++ entry 0xC8 []) ≡ limits 9 2)
unfolding whole_language
several = (refl, refl, refl)

-- 14.10: after a refusal both limits are document 01's.
pub refused_holds : (settings (five ++ entry 3 []) ≡ unset 33 3 0) × (held (settings (five ++ entry 3 [])) ≡ standard)
unfolding whole_language
refused_holds = (refl, refl)

-- 14.12: the empty store.
pub empty_store : settings [] ≡ set standard
unfolding whole_language
empty_store = refl

-- The limits that hold behind a store.
abbrev by : List ℕ → Limits
by s = held (settings s)

-- 14.11, 14.13: readings with the limits that hold.
abbrev limit_cases : List Case
limit_cases =
    limited (by (depth_entry 1)) stage "<a/>" (counted 3)
    ∷ limited (by (depth_entry 1)) stage "<a>{b}</a>" (at 14 3)
    ∷ limited (by (depth_entry 2)) stage "<a>{b}</a>" (counted 7)
    ∷ limited (by (depth_entry 1)) run "x<a><b/></a>" (at 14 4)
    ∷ limited (by (length_entry 4)) stage "<a/>" (counted 3)
    ∷ limited (by (length_entry 3)) stage "<a/>" (at 1 0)
    ∷ limited (by (length_entry 0)) stage "" (at 4 0)
    ∷ limited (by (length_entry 0)) run "" (counted 0)
    ∷ limited (by (depth_entry 1 ++ (0 ∷ []))) stage "<a>{b}</a>" (counted 7)
    ∷ []

pub with_limits : wrong limit_cases ≡ []
unfolding wrong
with_limits = refl

-- Limits that no store sets: above document 01's they count as document 01's; a depth of 0 is 14 at the first level.
abbrev given_cases : List Case
given_cases =
    limited (record { bytes = 4; depth = 0 }) stage "<a/>" (at 14 0)
    ∷ limited (record { bytes = 4; depth = 0 }) run "abcd" (counted 1)
    ∷ []

pub given_limits : (capped (record { bytes = 1_048_577; depth = 65 }) ≡ standard) × (wrong given_cases ≡ [])
unfolding wrong
given_limits = (refl, refl)

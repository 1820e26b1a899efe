-- Pieces of the rules of tags, and what their leaves' numbers say.
use Prim.Native.Char.{code}
use Rattle.std.specs.Prelude.{ℕ, Bool}
use Rattle.rules.specs.Forest.{Forest}
use Rattle.rules.specs.Rule.{Rule, ◌⨾◌}
use Rattle.rules.specs.Parse.{pick}
use Rattle.jsx.specs.Blank.{blanks}
use Rattle.lex.specs.Contract.{expect_byte}

-- This byte, and blanks; blanks, and this byte.
unfoldable pub open_by : ℕ → Rule
open_by b = expect_byte b ⨾ blanks

unfoldable pub close_by : ℕ → Rule
close_by b = blanks ⨾ expect_byte b

-- What opens a closing tag: `<`, blanks, `/`, blanks.
unfoldable pub close_open : Rule
close_open = open_by (code "<") ⨾ open_by (code "/")

-- The number of a tag's end: 1 where a content follows, 0 where the tag has none.
abbrev pub goes_on : Bool → Forest → ℕ
goes_on a o = pick a 1 0

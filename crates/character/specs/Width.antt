-- How many bytes a character has.
use Rattle.std.specs.Prelude.{ℕ}
use Rattle.rules.specs.Parse.{pick}
use Rattle.jsx.specs.Byte.{◌‥◌}

-- As many as the first of them says: the rule `character` takes so many steps.
unfoldable pub width_of : ℕ → ℕ
width_of b =
    pick ((0xC0 ‥ 0xDF) b) 2
    (pick ((0xE0 ‥ 0xEF) b) 3
    (pick ((0xF0 ‥ 0xF7) b) 4
    1))

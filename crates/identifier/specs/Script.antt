-- Characters for which no table is searched: letters of common scripts, each of these ranges within one of ID_Start;
-- and what stands between names, each of these ranges between two of ID_Continue.
use Rattle.rules.specs.Rule.{Test}
use Rattle.jsx.specs.Byte.{◌‥◌, ◌or◌, is}

-- Greek from Σ on.
unfoldable pub greek : Test
greek = (0x3A3 ‥ 0x3F5)

-- Greek before Σ; Latin; Cyrillic.
unfoldable pub european : Test
european =
    (0x38E ‥ 0x3A1)
    or (0x388 ‥ 0x38A)
    or is "Ά"
    or is "Ό"
    or (0xF8 ‥ 0x2C1)
    or (0xD8 ‥ 0xF6)
    or (0xC0 ‥ 0xD6)
    or (0x3F7 ‥ 0x481)
    or (0x48A ‥ 0x52F)

-- Hangul, Han, Hiragana, Katakana.
unfoldable pub east_asian : Test
east_asian =
    (0xAC00 ‥ 0xD7A3)
    or (0x4E00 ‥ 0xA48C)
    or (0x3041 ‥ 0x3096)
    or (0x30A1 ‥ 0x30FA)

unfoldable pub common : Test
common = greek or east_asian or european

-- U+00A0, the spaces from U+2000 on, U+2028 and its neighbours, U+3000, U+FEFF: blanks, and signs about them.
unfoldable pub gap : Test
gap =
    (0x80 ‥ 0xA9)
    or (0x2000 ‥ 0x200B)
    or (0x200E ‥ 0x203E)
    or (0x2E00 ‥ 0x3004)
    or (0xFEFD ‥ 0xFF0F)

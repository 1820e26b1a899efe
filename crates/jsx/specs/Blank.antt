-- Blanks and comments. Chapter 'Bytes, blanks, comments'.
use Rattle.rules.specs.Rule.{Test, Rule, stop, step, refuse, when, starts, when_char, many, marked, mark, ◌⨾◌, ◌⇒◌∣◌}
use Rattle.jsx.specs.Refusal.{comment_never_closed}
use Rattle.jsx.specs.Byte.{bytes_of, one_of, end, ◌or◌, character}

-- The Unicode class Zs.
unfoldable pub space_separator : Test
space_separator =
    one_of " \u{a0}\u{1680}"
    or one_of "\u{2000}\u{2001}\u{2002}\u{2003}\u{2004}\u{2005}\u{2006}\u{2007}\u{2008}\u{2009}\u{200a}"
    or one_of "\u{202f}\u{205f}\u{3000}"

-- D2: "its white space (tab, VT, FF, space, U+00A0, U+FEFF and the Unicode class Zs)".
unfoldable pub white_space : Test
white_space = one_of "\t\u{b}\u{c} \u{a0}\u{feff}" or space_separator

-- D2: "its line terminators (LF, CR, U+2028, U+2029)".
unfoldable pub line_terminator : Test
line_terminator = one_of "\n\r\u{2028}\u{2029}"

-- D2: "Blank characters become those of ECMA-262".
unfoldable pub blank_char : Test
blank_char = white_space or line_terminator

-- D: "`/*` to the next `*/`". Never closed, 17 at "its first byte"; D2: "17 and 18 stand where 5 stood".
unfoldable pub comment_turn : Rule
comment_turn =
    when end ⇒ refuse comment_never_closed mark
    ∣ starts (bytes_of "*/") ⇒ stop
    ∣ step

unfoldable pub comment : Rule
comment = marked (step ⨾ step ⨾ many comment_turn ⨾ step ⨾ step)

-- D: "`//` to LF, CR or the end of input"; D2: "All four terminators end a `//` comment." What ends it is not of it.
unfoldable pub line_turn : Rule
line_turn =
    when end ⇒ stop
    ∣ when_char line_terminator ⇒ stop
    ∣ step

unfoldable pub line_comment : Rule
line_comment = step ⨾ step ⨾ many line_turn

unfoldable pub blank : Rule
blank =
    when_char blank_char ⇒ character
    ∣ starts (bytes_of "/*") ⇒ comment
    ∣ starts (bytes_of "//") ⇒ line_comment
    ∣ stop

-- D: "Blanks may stand between any two tokens of a tag or of braces".
unfoldable pub blanks : Rule
blanks = many blank

-- The byte of a token, and the blanks behind it.
unfoldable pub pass : Rule
pass = step ⨾ blanks

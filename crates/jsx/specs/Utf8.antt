-- Well-formed UTF-8. Chapter 'Bytes, blanks, comments'.
use Rattle.std.specs.Prelude.{ℕ}
use Rattle.rules.specs.Rule.{Rule, stop, step, refuse, when, many, marked, mark, ◌⨾◌, ◌⇒◌∣◌}
use Rattle.jsx.specs.Refusal.{not_utf8}
use Rattle.jsx.specs.Byte.{end, ◌‥◌, ◌or◌}

-- A byte of this range, or the sequence is not good. D: "offset where no good sequence begins".
unfoldable pub second : ℕ → ℕ → Rule
second lo hi =
    when (lo ‥ hi) ⇒ step
    ∣ refuse not_utf8 mark

-- D: "Other continuation bytes are 80-BF."
unfoldable pub other : Rule
other = second 0x80 0xBF

-- D: "The lead byte decides the length and the range of the second byte: 00-7F alone; C2-DF; E0 then A0-BF; E1-EC and
-- EE-EF; ED then 80-9F; F0 then 90-BF; F1-F3; F4 then 80-8F."
unfoldable pub sequence : Rule
sequence =
    when (0x00 ‥ 0x7F) ⇒ step
    ∣ when (0xC2 ‥ 0xDF) ⇒ step ⨾ other
    ∣ when (0xE0 ‥ 0xE0) ⇒ step ⨾ second 0xA0 0xBF ⨾ other
    ∣ when ((0xE1 ‥ 0xEC) or (0xEE ‥ 0xEF)) ⇒ step ⨾ other ⨾ other
    ∣ when (0xED ‥ 0xED) ⇒ step ⨾ second 0x80 0x9F ⨾ other
    ∣ when (0xF0 ‥ 0xF0) ⇒ step ⨾ second 0x90 0xBF ⨾ other ⨾ other
    ∣ when (0xF1 ‥ 0xF3) ⇒ step ⨾ other ⨾ other ⨾ other
    ∣ when (0xF4 ‥ 0xF4) ⇒ step ⨾ second 0x80 0x8F ⨾ other ⨾ other
    ∣ refuse not_utf8 mark

unfoldable pub utf8 : Rule
utf8 = many (when end ⇒ stop ∣ marked sequence)

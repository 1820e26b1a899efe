-- The meaning of a grammar: what a rule reads of an input, from a place on.
use Rattle.std.specs.Prelude.{ℕ, zero, suc, ◌+◌, ◌-◌, ◌*◌, ◌<◌, Bool, true, false, List, [], ◌∷◌, length, get_or, ltb}
use Rattle.std.specs.Prelude.{eqb}
use Rattle.rules.specs.Forest.{Forest, nil, byte, group, content, ◌⋈◌}
use Rattle.rules.specs.Rule.{Place, here, mark, from_mark, this_byte, Verdict, fine, differ, Look, bytes, char}
use Rattle.rules.specs.Rule.{Rule, done, stop, step}
use Rattle.rules.specs.Rule.{refuse, when, look, after, seq, many, wrap, said, marked, paired}

-- Whether to go on, what was read, and the next place; or a refusal: its number and two places, start and end.
pub data Answer : Type 0 where
  got : (goes_on : Bool) (read : Forest) (next : ℕ) → Answer
  trouble : (number start end start₂ end₂ : ℕ) → Answer

-- The one number that the interpreter gives of itself: the input ends where a byte is still needed.
abbrev pub end_of_input : ℕ
end_of_input = 4

-- A turn of a loop passed nothing, or there were more turns than bytes. No grammar of this project comes to that.
abbrev pub stuck : ℕ
stuck = 0

abbrev pub pick : {A : Type 0} → Bool → A → A → A
pick true a b = a
pick false a b = b

-- A refusal is the whole answer.
abbrev pub and_then : Answer → (Bool → Forest → ℕ → Answer) → Answer
and_then (got a o p) f = f a o p
and_then (trouble n a b c d) f = trouble n a b c d

-- The answer with a forest in front of what was read.
abbrev pub behind : Forest → Answer → Answer
behind u (got a o p) = got a (u ⋈ o) p
behind u (trouble n a b c d) = trouble n a b c d

-- The byte at a place, 256 at the end.
abbrev pub byte_at : List ℕ → ℕ → ℕ
byte_at s at = get_or s at 256

-- A list of bytes: each is below 256, so that none is taken for the end.
unfoldable pub Plain : List ℕ → Type 0
Plain s = (p : ℕ) → p < length s → byte_at s p < 256

-- Whether these bytes stand at a place.
unfoldable pub opens : List ℕ → List ℕ → ℕ → Bool
opens s [] at = true
opens s (b ∷ w) at = pick (eqb (byte_at s at) b) (opens s w (at + 1)) false

-- The code that no character has: that of the end of the input, and of bytes that make no character.
abbrev pub no_char : ℕ
no_char = 0x11_0000

-- The code that begins with c and goes on with the n bytes from a place on: each is 80 to BF and brings six bits.
unfoldable pub code_on : List ℕ → (n c at : ℕ) → ℕ
code_on s zero c at = c
code_on s (suc n) c at =
    let b = byte_at s at in
    pick (ltb b 0x80) no_char
    (pick (ltb b 0xC0) (code_on s n (c * 0x40 + (b - 0x80)) (at + 1))
    no_char)

-- The code of the character at a place, by its UTF-8: the first byte says how many follow.
unfoldable pub code_at : List ℕ → ℕ → ℕ
code_at s at =
    let b = byte_at s at in
    pick (ltb b 0x80) b
    (pick (ltb b 0xC0) no_char
    (pick (ltb b 0xE0) (code_on s 1 (b - 0xC0) (at + 1))
    (pick (ltb b 0xF0) (code_on s 2 (b - 0xE0) (at + 1))
    (pick (ltb b 0xF8) (code_on s 3 (b - 0xF0) (at + 1))
    no_char))))

-- Whether what is asked holds at a place.
abbrev pub stands : List ℕ → Look → ℕ → Bool
stands s (bytes w) at = opens s w at
stands s (char f) at = f (code_at s at)

-- A refusal at a place, read at `at` with the mark at `e`.
abbrev pub refusal : ℕ → Place → (e at : ℕ) → Answer
refusal n here e at = trouble n at at 0 0
refusal n mark e at = trouble n e e 0 0
refusal n from_mark e at = trouble n e at 0 0
refusal n this_byte e at = trouble n at (at + 1) 0 0

-- An answer under a verdict on two tags that begin at `at` and at `q`.
abbrev pub judged : (at q : ℕ) → Verdict → Answer → Answer
judged at q fine x = x
judged at q (differ n a b c d) x = trouble n (at + a) (at + b) (q + c) (q + d)

unfoldable pub repeat : (ℕ → Answer) → (fuel at : ℕ) → Answer
repeat body zero at = trouble stuck at at 0 0
repeat body (suc f) at =
    and_then (body at) (λ a o p.
    pick a (pick (ltb at p) (behind o (repeat body f p)) (trouble stuck at at 0 0)) (got true o p))

-- s: the input. fuel: the most turns of a loop, more than s has bytes. e: the mark.
unfoldable pub parse : (s : List ℕ) (fuel : ℕ) → Rule → (e at : ℕ) → Answer
parse s fuel done e at = got true nil at
parse s fuel stop e at = got false nil at
parse s fuel step e at =
    pick (ltb at (length s)) (got true (byte (byte_at s at) nil) (at + 1)) (trouble end_of_input at at 0 0)
parse s fuel (refuse n w) e at = refusal n w e at
parse s fuel (when f t u) e at = pick (f (byte_at s at)) (parse s fuel t e at) (parse s fuel u e at)
parse s fuel (look w t u) e at = pick (stands s w at) (parse s fuel t e at) (parse s fuel u e at)
parse s fuel (after r f t u) e at =
    and_then (parse s fuel r e at) (λ a o p. pick (f (byte_at s p)) (parse s fuel t e at) (parse s fuel u e at))
parse s fuel (seq t u) e at =
    and_then (parse s fuel t e at) (λ a o p. pick a (behind o (parse s fuel u e p)) (got false o p))
parse s fuel (many t) e at = repeat (parse s fuel t e) fuel at
parse s fuel (wrap f t) e at = and_then (parse s fuel t e at) (λ a o p. got a (group (f o) o nil) p)
parse s fuel (said f r t u) e at =
    and_then (parse s fuel r e at) (λ a o p.
    pick a (behind o (pick (f o) (parse s fuel t e p) (parse s fuel u e p))) (got false o p))
parse s fuel (marked t) e at = parse s fuel t at at
parse s fuel (paired t d c u v) e at =
    and_then (parse s fuel t e at) (λ a o p.
    pick a
    (and_then (parse s fuel c e p) (λ b h q.
    and_then (parse s fuel u e q) (λ b' r z.
    judged at q (v o r) (got true (o ⋈ group (content d) h r) z))))
    (got true o p))

-- What a rule reads of the input s at a place, with the mark at e: turns never run out.
abbrev pub parsed : (s : List ℕ) → Rule → (e at : ℕ) → Answer
parsed s = parse s (suc (length s))

-- The same with no mark.
abbrev pub read_at : (s : List ℕ) → Rule → (at : ℕ) → Answer
read_at s t at = parsed s t 0 at

-- A rule from the input's first byte on.
unfoldable pub parse_all : Rule → List ℕ → Answer
parse_all t s = read_at s t 0

-- Parts of names, character by character: what each need of their readers follows from.
use mathlib.Core.Path.{◌≡◌, refl, sym, ap, subst, ◌∙◌}
use mathlib.Core.Bool.{Bool, true, false}
use mathlib.Core.List.{List}
use Prim.Native.Nat.{ℕ, suc, ◌+◌, ◌-◌, ◌*◌, ◌^◌, ◌≤◌, ◌<◌}
use native.Mathlib.Omega.{arith}
use native.Mathlib.Decide.{dec_lt}
use lib.ListN.{length}
use borrow.Author.Rules.{rules}
use borrow.Author.Tests.{lt-ltb, le-ltb}
use Rattle.std.specs.Prelude.{Option, Some, None, is_some}
use Rattle.std.specs.Option.{unwrap_or}
use Rattle.std.specs.Bool.{then_some}
use Rattle.rules.specs.Forest.{nil}
use Rattle.rules.specs.Rule.{Rule, stop, when_char, ◌⇒◌∣◌}
use Rattle.rules.specs.Parse.{got, trouble, pick, and_then, behind, byte_at, no_char, code_at, parse, parsed, read_at}
use Rattle.rules.proofs.Run.{never}
use Rattle.jsx.specs.Refusal.{unexpected, end_of_input}
use Rattle.jsx.specs.Byte.{end, is, ◌or◌, character, need}
use Rattle.jsx.specs.Ranges.{start_ranges, continue_ranges}
use Rattle.jsx.specs.Unicode.{in_ranges}
use Rattle.jsx.specs.Name.{opens_name, opens_part, in_part, part as name_part}
use Rattle.lex.specs.Contract.{out_of, nothing, Leaf, Past}
use Rattle.lex.specs.Answer.{Ans}
use Rattle.lex.specs.Answer.{Got}
use Rattle.lex.proofs.Laws as Lex
use Rattle.lex.proofs.Turns.{Turns, turns_begin, turns_more, turns_end}
use Rattle.character.specs.Width.{width_of}
use Rattle.character.proofs.CodeSteps.{code_alone}
use Rattle.character.proofs.WidthSteps.{width_one}
use Rattle.character.proofs.Read.{character_inside, character_wide, character_read}
use Rattle.identifier.specs.Script.{common, gap}
use Rattle.word.specs.Here.{name_byte, part_width, common_width, ends_part, rest_of_part}
use Rattle.word.proofs.Ascii.{opens_low, name_low}
use Rattle.word.proofs.RunSteps.{opens_inside, past_is}
use Rattle.word.proofs.PartTests

-- ---- tests of a code

module _ {c : ℕ} where
  -- A character of ASCII.
  pub opens_by_byte : {t : Bool} → c < 0x80 → t ≡ opens_name c → t ≡ opens_part c
  opens_by_byte h i = i ∙ sym (PartTests.opens_ascii c h)

  pub in_by_byte : {t : Bool} → c < 0x80 → t ≡ name_byte c → t ≡ in_part c
  in_by_byte h i = i ∙ sym (PartTests.in_ascii c h)

  -- One beyond it.
  pub opens_by_table : {t : Bool} → 0x80 ≤ c → t ≡ in_ranges start_ranges c → t ≡ opens_part c
  opens_by_table h i = i ∙ sym (PartTests.opens_wide c h)

  pub in_by_table : {t : Bool} → 0x80 ≤ c → t ≡ (in_ranges continue_ranges or is "\u{200c}" or is "\u{200d}") c
      → t ≡ in_part c
  in_by_table h i = i ∙ sym (PartTests.in_wide c h)

-- ---- what stands here

module _ (s : List ℕ) (at : ℕ) {b : ℕ} (y : b ≡ byte_at s at) where
  module _ (h : b < 0x80) where
    -- A byte of ASCII.
    pub ends_byte : true ≡ ends_part s at
    unfolding ends_part
    ends_byte = sym (rw (← y, lt-ltb b 0x80 h))

    part_of_byte : in_part (code_at s at) ≡ name_byte b
    part_of_byte = ap in_part (sym (code_alone s at y h)) ∙ PartTests.in_ascii b h

    module _ {t : Bool} (i : t ≡ name_byte b) where
      -- It is one of a name, or it is not.
      pub common_byte : {o : Option ℕ} → o ≡ then_some t 1 → o ≡ common_width s at
      unfolding common_width
      common_byte e = e ∙ ap (λ (x : Bool). then_some {T = ℕ} x 1) i ∙ go (name_byte b) ∙ sym (rw (← y, lt-ltb b 0x80 h))
        where
          go : (x : Bool) → then_some {T = ℕ} x 1 ≡ pick x (Some 1) None
          go true = refl
          go false = refl

  module _ (h : 0x80 ≤ b) {c : ℕ} (z : c ≡ code_at s at) where
    -- A character beyond ASCII that stands between names, or does not.
    pub ends_by_code : {t : Bool} → t ≡ gap c → t ≡ ends_part s at
    unfolding ends_part
    ends_by_code i = i ∙ ap gap z ∙ sym (rw (← y, le-ltb b 0x80 h))

    module _ {t : Bool} (i : t ≡ common c) where
      -- One of a common script,
      pub common_here : t ≡ true → {n : ℕ} → n ≡ width_of b → Some n ≡ common_width s at
      unfolding common_width
      common_here x e = ap Some e ∙ sym (rw (← y, le-ltb b 0x80 h, sym (ap common z) ∙ sym i ∙ x))

      -- and one that is not.
      pub common_none : t ≡ false → None ≡ common_width s at
      unfolding common_width
      common_none x = sym (rw (← y, le-ltb b 0x80 h, sym (ap common z) ∙ sym i ∙ x))

module _ (s : List ℕ) (at : ℕ) {c : ℕ} (z : c ≡ code_at s at) {t : Bool} (i : t ≡ in_part c) where
  -- A character of a part,
  pub width_here : t ≡ true → {b n : ℕ} → b ≡ byte_at s at → n ≡ width_of b → Some n ≡ part_width s at
  unfolding part_width
  width_here x y e = ap Some (e ∙ ap width_of y) ∙ sym (rw (sym (ap in_part z) ∙ sym i ∙ x))

  -- and one of none.
  pub width_none : t ≡ false → None ≡ part_width s at
  unfolding part_width
  width_none x = sym (rw (sym (ap in_part z) ∙ sym i ∙ x))

-- A part begins here by the code of the character here.
pub opens_here : (s : List ℕ) (at : ℕ) {c : ℕ} → c ≡ code_at s at → {t : Bool} → t ≡ opens_part c
    → t ≡ opens_part (code_at s at)
opens_here s at z i = i ∙ ap opens_part z

-- ---- a character of a part

the : {n m : ℕ} → Some n ≡ Some m → n ≡ m
the f = ap (λ (o : Option ℕ). unwrap_or o 0) f

module _ (s : List ℕ) (p : ℕ) where
  -- A character of n bytes that goes on with a part.
  record OnePart (n : ℕ) : Type 0 where
    coded : in_part (code_at s p) ≡ true
    wide : n ≡ width_of (byte_at s p)
    some : 0 < n
    inside : p + n ≤ length s

  part_of : {n : ℕ} → in_part (code_at s p) ≡ true → n ≡ width_of (byte_at s p) → OnePart n
  part_of t e =
      let k : code_at s p ≡ no_char → ⊥ = λ z. never (sym PartTests.none_goes_on ∙ sym (ap in_part z) ∙ t) in
      let w = character_wide s p k in
      let i = character_inside s p k in
      record { coded = t; wide = e; some = omega arith; inside = omega arith }

  -- It has a width; where none stands, there is none.
  here : {n : ℕ} → Some n ≡ part_width s p → OnePart n
  unfolding part_width
  here {n} e = go (in_part (code_at s p)) refl
    where
      go : (t : Bool) → in_part (code_at s p) ≡ t → OnePart n
      go true x = let f : Some n ≡ Some (width_of (byte_at s p)) = e ∙ rw x in part_of x (the f)
      go false x = let f : Some n ≡ None = e ∙ rw x in never (sym (ap is_some f))

  none : None ≡ part_width s p → in_part (code_at s p) ≡ false
  unfolding part_width
  none e = go (in_part (code_at s p)) refl
    where
      go : (t : Bool) → in_part (code_at s p) ≡ t → in_part (code_at s p) ≡ false
      go true x = let f : None ≡ Some (width_of (byte_at s p)) = e ∙ rw x in never (ap is_some f)
      go false x = x

  -- The same of one of ASCII or of a common script.
  common_here_part : {n : ℕ} → Some n ≡ common_width s p → OnePart n
  unfolding common_width
  common_here_part {n} e = go (dec_lt (byte_at s p) 0x80) (name_byte (byte_at s p)) refl (common (code_at s p)) refl
    where
      go : Dec (byte_at s p < 0x80) → (t : Bool) → name_byte (byte_at s p) ≡ t → (u : Bool) → common (code_at s p) ≡ u
          → OnePart n
      go (yes h) true x u v =
          let f : Some n ≡ Some 1 = e ∙ rw (lt-ltb (byte_at s p) 0x80 h, x) in
          part_of (part_of_byte s p refl h ∙ x) (the f ∙ width_one (omega arith))
      go (yes h) false x u v =
          let f : Some n ≡ None = e ∙ rw (lt-ltb (byte_at s p) 0x80 h, x) in never (sym (ap is_some f))
      go (no h) t x true v =
          let f : Some n ≡ Some (width_of (byte_at s p)) = e ∙ rw (le-ltb (byte_at s p) 0x80 (omega arith), v) in
          part_of (PartTests.common_goes_on (code_at s p) v) (the f)
      go (no h) t x false v =
          let f : Some n ≡ None = e ∙ rw (le-ltb (byte_at s p) 0x80 (omega arith), v) in never (sym (ap is_some f))

  -- Where none of these stands, and a byte of ASCII or what stands between names does, the part ends.
  common_ends_part : None ≡ common_width s p → ends_part s p ≡ true → in_part (code_at s p) ≡ false
  unfolding common_width ends_part
  common_ends_part e h = by (dec_lt (byte_at s p) 0x80)
    where
      go : byte_at s p < 0x80 → (t : Bool) → name_byte (byte_at s p) ≡ t → name_byte (byte_at s p) ≡ false
      go l true x = let f : None ≡ Some 1 = e ∙ rw (lt-ltb (byte_at s p) 0x80 l, x) in never (ap is_some f)
      go l false x = x

      by : Dec (byte_at s p < 0x80) → in_part (code_at s p) ≡ false
      by (yes l) = part_of_byte s p refl l ∙ go l (name_byte (byte_at s p)) refl
      by (no l) = PartTests.gap_stops (code_at s p) (rw (le-ltb (byte_at s p) 0x80 (omega arith)) at h)

-- ---- the rest of a part

-- One turn of it.
abbrev pub part_turn : Rule
part_turn = when_char in_part ⇒ character ∣ stop

-- Before the first turn.
pub rest_begins : {s : List ℕ} {at : ℕ} → at ≤ length s → Turns s part_turn 0 at at
rest_begins {s} {at} h = turns_begin s part_turn 0 at h

module _ {s : List ℕ} {at p : ℕ} (v : Turns s part_turn 0 at p) where
  goes_on : {n : ℕ} → OnePart s p n → Turns s part_turn 0 at (p + n)
  unfolding parse
  goes_on {n} b =
      let k : code_at s p ≡ no_char → ⊥ = λ z. never (sym PartTests.none_goes_on ∙ sym (ap in_part z) ∙ b.coded) in
      let e : parsed s part_turn 0 p ≡ got true (out_of (parsed s character 0 p)) (p + width_of (byte_at s p)) =
      rw b.coded (character_read s (suc (length s)) 0 p k) in
      let o = b.some in
      let i = b.inside in
      let w = b.wide in
      rw b.wide (turns_more v e (omega arith) (omega arith))

  ends : in_part (code_at s p) ≡ false → Past p s rest_of_part at 0
  unfolding parse
  ends x =
      let e : parsed s part_turn 0 p ≡ got false nil p = rw x in
      let f = v.past in
      let i = v.inside in
      record { is = Lex.known _ (turns_end v e); far = omega arith }

  -- The rest was read by a call.
  pub rest_behind : {q : ℕ} → Past q s rest_of_part p 0 → Past q s rest_of_part at 0
  rest_behind l =
      let f = v.past in
      let g = l.far in
      record { is = Lex.known _ (v.so ∙ ap (behind v.acc) l.is); far = omega arith }

  -- One character more,
  pub part_goes_on : {n : ℕ} → Some n ≡ part_width s p → Turns s part_turn 0 at (p + n)
  part_goes_on e = goes_on (here s p e)

  -- or none.
  pub part_stops : None ≡ part_width s p → Past p s rest_of_part at 0
  part_stops e = ends (none s p e)

  -- One character of ASCII or of a common script more,
  pub common_goes_on : {n : ℕ} → Some n ≡ common_width s p → Turns s part_turn 0 at (p + n)
  common_goes_on e = goes_on (common_here_part s p e)

  -- or none, and it ends.
  pub common_stops : None ≡ common_width s p → {t : Bool} → t ≡ ends_part s p → t ≡ true → Past p s rest_of_part at 0
  common_stops e i x = ends (common_ends_part s p e (sym i ∙ x))

-- ---- behind a first byte of ASCII

module _ (s : List ℕ) (p : ℕ) {b : ℕ} (y : b ≡ byte_at s p) {t : Bool} (i : t ≡ name_byte b) (x : t ≡ true) where
  byte_part : OnePart s p 1
  byte_part =
      let h = name_low b (sym i ∙ x) in
      part_of s p (part_of_byte s p y h ∙ sym i ∙ x) (width_one (omega arith) ∙ ap width_of y)

  -- A byte of a name stands within the input.
  pub byte_inside : p + 1 ≤ length s
  byte_inside = byte_part.inside

  -- Behind it is nearer to the end.
  pub byte_nearer : length s - (p + 1) < length s - p
  byte_nearer = let o = byte_inside in omega arith

-- A part that begins at `at` with a byte of ASCII has come to p.
pub record Ascii (s : List ℕ) (at p : ℕ) : Type 0 where
  pub opens : opens_name (byte_at s at) ≡ true
  pub turns : Turns s part_turn 0 (at + 1) p

-- Behind the first byte.
pub ascii_begins : (s : List ℕ) (at : ℕ) {b : ℕ} → b ≡ byte_at s at → {t : Bool} → t ≡ opens_name b → t ≡ true
    → Ascii s at (at + 1)
ascii_begins s at y i x =
    let o = ap opens_name (sym y) ∙ sym i ∙ x in
    let h = opens_inside s at o in
    record { opens = o; turns = turns_begin s part_turn 0 (at + 1) (omega arith) }

-- One byte more.
pub byte_goes_on : {s : List ℕ} {at p : ℕ} → Ascii s at p → {b : ℕ} → b ≡ byte_at s p → {t : Bool} → t ≡ name_byte b
    → t ≡ true
    → Ascii s at (p + 1)
byte_goes_on {s} {at} {p} v y i x = record { opens = v.opens; turns = goes_on v.turns (byte_part s p y i x) }

-- ---- the whole part

module _ (s : List ℕ) (at : ℕ) where
  -- Its first character, and what was read behind it.
  pub part_got : opens_part (code_at s at) ≡ true → {q : ℕ} → Past q s rest_of_part (at + width_of (byte_at s at)) 0
      → Past q s name_part at 1
  unfolding name_part parse
  part_got h {q} l =
      let k : code_at s at ≡ no_char → ⊥ = λ z. never (sym PartTests.none_opens ∙ sym (ap opens_part z) ∙ h) in
      let e : parsed s (when_char opens_part ⇒ character ∣ need) 0 at
      ≡ got true (out_of (parsed s character 0 at)) (at + width_of (byte_at s at)) =
      rw h (character_read s (suc (length s)) 0 at k) in
      let w = character_wide s at k in
      let f = l.far in
      record {
        is = Lex.known _
            (Lex.seq_is s (suc (length s)) 0 at (when_char opens_part ⇒ character ∣ need) rest_of_part e
            ∙ ap (behind (out_of (parsed s character 0 at))) l.is);
        far = omega arith;
      }

  -- A character that opens none is what is needed here and does not begin.
  pub part_no : opens_part (code_at s at) ≡ false → read_at s need at ≡ read_at s name_part at
  unfolding name_part parse need
  part_no h = rw h (go (end (byte_at s at)))
    where
      go : (b : Bool) → pick b (trouble end_of_input at at 0 0) (trouble unexpected at at 0 0)
          ≡ and_then (pick b (trouble end_of_input at at 0 0) (trouble unexpected at at 0 0))
          (λ a o p. pick a (behind o (parsed s rest_of_part 0 p)) (got false o p))
      go true = refl
      go false = refl

  -- A part of ASCII.
  pub ascii_ends : {p : ℕ} → Ascii s at p → {b : ℕ} → b ≡ byte_at s p → {t : Bool} → t ≡ name_byte b → t ≡ false
      → {c : ℕ} → c ≡ byte_at s p → c < 0x80
      → Leaf nothing (Got p 0) s name_part at 1
  ascii_ends {p} v y i x z k =
      let l = opens_low (byte_at s at) v.opens in
      let n = width_one {b = byte_at s at} (omega arith) in
      let o : opens_part (code_at s at) ≡ true =
      ap opens_part (sym (code_alone s at refl l)) ∙ PartTests.opens_ascii (byte_at s at) l ∙ v.opens in
      let e : Past p s rest_of_part (at + 1) 0 = ends v.turns (part_of_byte s p y (omega arith) ∙ sym i ∙ x) in
      past_is (part_got o (rw (← n) e))

  module _ (h : opens_part (code_at s at) ≡ true) {b : ℕ} (y : b ≡ byte_at s at) {n : ℕ} (e : n ≡ width_of b) where
    -- The first character stands within the input,
    pub first_inside : at + n ≤ length s
    first_inside =
        let k : code_at s at ≡ no_char → ⊥ = λ z. never (sym PartTests.none_opens ∙ sym (ap opens_part z) ∙ h) in
        let l = character_inside s at k in
        rw (e, y) l

    -- and the part goes on behind it.
    pub first_got : {q : ℕ} → Past q s rest_of_part (at + n) 0 → Past q s name_part at 1
    first_got {q} l = part_got h (subst (λ (m : ℕ). Past q s rest_of_part (at + m) 0) (e ∙ ap width_of y) l)

    -- The sum that passes it fits.
    pub first_fits : length s * 1 < 2 ^ 63 → at + n < 2 ^ 64
    first_fits l = let j = first_inside in omega arith

  -- It does not begin.
  pub part_fails : opens_part (code_at s at) ≡ false → {r : Ans} → Leaf nothing r s need at 0
      → Leaf nothing r s name_part at 1
  part_fails x m = Lex.leaf_refuses m (part_no x) (Lex.need_fails s at)

-- ---- sums and loops

module _ (s : List ℕ) (p : ℕ) {n : ℕ} where
  module _ (e : Some n ≡ part_width s p) where
    -- A character of a part: the sum that passes it fits, and behind it is nearer to the end.
    pub part_fits : length s * 1 < 2 ^ 63 → p + n < 2 ^ 64
    part_fits l = let i = (here s p e).inside in omega arith

    pub part_nearer : length s - (p + n) < length s - p
    part_nearer = let h = here s p e in let i = h.inside in let w = h.some in omega arith

  module _ (e : Some n ≡ common_width s p) where
    -- The same of one of a common script.
    pub common_fits : length s * 1 < 2 ^ 63 → p + n < 2 ^ 64
    common_fits l = let i = (common_here_part s p e).inside in omega arith

    pub common_nearer : length s - (p + n) < length s - p
    common_nearer = let h = common_here_part s p e in let i = h.inside in let w = h.some in omega arith

pub ruleset part_steps = (
  rules,
  opens_by_byte,
  in_by_byte,
  opens_by_table,
  in_by_table,
  ends_byte,
  common_byte,
  ends_by_code,
  common_here,
  common_none,
  width_here,
  width_none,
  opens_here,
  rest_begins,
  rest_behind,
  part_goes_on,
  part_stops,
  common_goes_on,
  common_stops,
  ascii_begins,
  byte_goes_on,
  ascii_ends,
  first_got,
  part_fails,
  past_is,
)

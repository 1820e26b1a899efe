-- Tests of a byte, of a character, and of what stands here: what each answer follows from.
use mathlib.Core.Path.{◌≡◌, refl, sym, ap, ◌∙◌}
use mathlib.Core.Bool.{Bool, true, false}
use mathlib.Core.List.{List}
use Rattle.std.specs.Prelude.{None, Some}
use mathlib.Core.Logic.{◌⊎◌, inl, inr}
use Prim.Native.Nat.{ℕ, ◌+◌, ◌≤◌, ◌<◌}
use Prim.Native.Char.{code}
use native.Mathlib.Omega.{arith}
use native.Mathlib.Decide.{dec_lt}
use lib.Dec.{ltb, eqb}
use borrow.Author.Tests.{lt-ltb, le-ltb, ne_eqb, eq-eqb}
use Rattle.rules.specs.Parse.{pick, byte_at, code_at}
use Rattle.jsx.specs.Byte.{one_of}
use Rattle.jsx.specs.Blank.{space_separator, white_space, line_terminator, blank_char}
use Rattle.lex.proofs.Laws.{is_first, is_second}
use Rattle.lex.proofs.Ranges.{each, each_passes}
use Rattle.character.specs.Width.{width_of}
use Rattle.character.proofs.CodeSteps.{code_alone}
use Rattle.blank.specs.Here.{blank_byte, blank_width, line_ends}

-- ---- a character, by its code

-- Tab to CR.
low_blank : (c : ℕ) → code "\t" ≤ c → c < 1 + code "\r" → blank_char c ≡ true
unfolding one_of each blank_char white_space space_separator line_terminator
low_blank c h k = each_passes blank_char 9 5 refl c h (omega arith)

-- U+2000 to U+200A.
wide_blank : (c : ℕ) → 0x2000 ≤ c → c < 0x200B → blank_char c ≡ true
unfolding one_of each blank_char white_space space_separator line_terminator
wide_blank c h k = each_passes blank_char 0x2000 11 refl c h (omega arith)

-- U+2028 and U+2029 are blanks and end a line.
line_blank : (c : ℕ) → 0x2028 ≤ c → c < 0x202A → blank_char c ≡ true
unfolding one_of each blank_char white_space space_separator line_terminator
line_blank c h k = each_passes blank_char 0x2028 2 refl c h (omega arith)

line_wide : (c : ℕ) → 0x2028 ≤ c → c < 0x202A → line_terminator c ≡ true
unfolding one_of each line_terminator
line_wide c h k = each_passes line_terminator 0x2028 2 refl c h (omega arith)

-- The six that stand alone, by their codes.
abbrev Alone : ℕ → Type 0
Alone c = (c ≡ 0xA0) ⊎ ((c ≡ 0x1680) ⊎ ((c ≡ 0x202F) ⊎ ((c ≡ 0x205F) ⊎ ((c ≡ 0x3000) ⊎ (c ≡ 0xFEFF)))))

-- What is none of those, nor in a range, nor the space, is no blank.
none_blank : (c : ℕ) → (9 ≤ c → c < 14 → ⊥) → (c ≡ code " " → ⊥)
    → (Alone c → ⊥)
    → (0x2000 ≤ c → c < 0x200B → ⊥) → (0x2028 ≤ c → c < 0x202A → ⊥)
    → blank_char c ≡ false
unfolding one_of blank_char white_space space_separator line_terminator
none_blank c low space others wide line =
    let l : (k : ℕ) → 9 ≤ k → k < 14 → eqb c k ≡ false = λ k i j. ne_eqb c k (λ x. low (omega arith) (omega arith)) in
    let w : (k : ℕ) → 0x2000 ≤ k → k < 0x200B → eqb c k ≡ false =
    λ k i j. ne_eqb c k (λ x. wide (omega arith) (omega arith)) in
    let t : (k : ℕ) → 0x2028 ≤ k → k < 0x202A → eqb c k ≡ false =
    λ k i j. ne_eqb c k (λ x. line (omega arith) (omega arith)) in
    rw (
      l 9 (omega arith) (omega arith),
      l 11 (omega arith) (omega arith),
      l 12 (omega arith) (omega arith),
      ne_eqb c 32 space,
      ne_eqb c 0xA0 (λ x. others (inl x)),
      ne_eqb c 0xFEFF (λ x. others (inr (inr (inr (inr (inr x)))))),
      ne_eqb c 0x1680 (λ x. others (inr (inl x))),
      w 0x2000 (omega arith) (omega arith),
      w 0x2001 (omega arith) (omega arith),
      w 0x2002 (omega arith) (omega arith),
      w 0x2003 (omega arith) (omega arith),
      w 0x2004 (omega arith) (omega arith),
      w 0x2005 (omega arith) (omega arith),
      w 0x2006 (omega arith) (omega arith),
      w 0x2007 (omega arith) (omega arith),
      w 0x2008 (omega arith) (omega arith),
      w 0x2009 (omega arith) (omega arith),
      w 0x200A (omega arith) (omega arith),
      ne_eqb c 0x202F (λ x. others (inr (inr (inl x)))),
      ne_eqb c 0x205F (λ x. others (inr (inr (inr (inl x))))),
      ne_eqb c 0x3000 (λ x. others (inr (inr (inr (inr (inl x)))))),
      l 10 (omega arith) (omega arith),
      l 13 (omega arith) (omega arith),
      t 0x2028 (omega arith) (omega arith),
      t 0x2029 (omega arith) (omega arith),
    )

module _ {c : ℕ} where
  -- One of them.
  pub char_alone : Alone c → true ≡ blank_char c
  unfolding one_of blank_char white_space space_separator line_terminator
  char_alone (inl h) = sym (rw h)
  char_alone (inr (inl h)) = sym (rw h)
  char_alone (inr (inr (inl h))) = sym (rw h)
  char_alone (inr (inr (inr (inl h)))) = sym (rw h)
  char_alone (inr (inr (inr (inr (inl h))))) = sym (rw h)
  char_alone (inr (inr (inr (inr (inr h))))) = sym (rw h)

  -- Below 80 a byte decides.
  pub char_ascii : c < 0x80 → {r : Bool} → r ≡ blank_byte c → r ≡ blank_char c
  unfolding blank_byte
  char_ascii h e = e ∙ rw (lt-ltb c 0x80 h)

  module _ (h : 0x80 ≤ c) (others : Alone c → ⊥) where
    none_wide : (0x2000 ≤ c → c < 0x200B → ⊥) → (0x2028 ≤ c → c < 0x202A → ⊥) → false ≡ blank_char c
    none_wide wide line = sym (none_blank c (λ i j. omega arith) (λ x. omega arith) others wide line)

    -- Up to U+2000.
    pub char_under : c < 0x2000 → false ≡ blank_char c
    char_under k = none_wide (λ i j. omega arith) (λ i j. omega arith)

    module _ (h₂ : 0x2000 ≤ c) where
      -- U+2000 to U+200A.
      pub char_wide : c < 0x200B → true ≡ blank_char c
      char_wide k = sym (wide_blank c h₂ k)

      module _ (h₃ : 0x200B ≤ c) where
        -- Up to U+2028.
        pub char_between : c < 0x2028 → false ≡ blank_char c
        char_between k = none_wide (λ i j. omega arith) (λ i j. omega arith)

        module _ (h₄ : 0x2028 ≤ c) where
          -- U+2028 and U+2029.
          pub char_line : c < 0x202A → true ≡ blank_char c
          char_line k = sym (line_blank c h₄ k)

          -- Above.
          pub char_over : 0x202A ≤ c → false ≡ blank_char c
          char_over k = none_wide (λ i j. omega arith) (λ i j. omega arith)

  -- LF or CR.
  pub line_low : (c ≡ code "\n") ⊎ (c ≡ code "\r") → true ≡ line_terminator c
  unfolding one_of line_terminator
  line_low (inl h) = sym (rw h)
  line_low (inr h) = sym (rw h)

  module _ (low : (c ≡ code "\n") ⊎ (c ≡ code "\r") → ⊥) where
    none_line : (0x2028 ≤ c → c < 0x202A → ⊥) → false ≡ line_terminator c
    unfolding one_of line_terminator
    none_line h =
        sym (rw (
          ne_eqb c 10 (λ x. low (inl x)),
          ne_eqb c 13 (λ x. low (inr x)),
          ne_eqb c 0x2028 (λ x. h (omega arith) (omega arith)),
          ne_eqb c 0x2029 (λ x. h (omega arith) (omega arith)),
        ))

    -- Below U+2028.
    pub line_under : c < 0x2028 → false ≡ line_terminator c
    line_under h = none_line (λ i j. omega arith)

    module _ (h : 0x2028 ≤ c) where
      -- U+2028 and U+2029.
      pub line_high : c < 0x202A → true ≡ line_terminator c
      line_high k = sym (line_wide c h k)

      -- Above.
      pub line_over : 0x202A ≤ c → false ≡ line_terminator c
      line_over k = none_line (λ i j. omega arith)

-- ---- a byte

module _ {b : ℕ} where
  -- The space.
  pub byte_space : b ≡ code " " → true ≡ blank_byte b
  unfolding one_of blank_byte blank_char white_space space_separator line_terminator
  byte_space h = sym (rw h)

  module _ (space : b ≡ code " " → ⊥) where
    none_byte : (9 ≤ b → b < 14 → ⊥) → false ≡ blank_byte b
    unfolding blank_byte
    none_byte low = sym (go (dec_lt b 0x80))
      where
        go : Dec (b < 0x80) → pick (ltb b 0x80) (blank_char b) false ≡ false
        go (yes h) =
            rw (lt-ltb b 0x80 h) (none_blank b low space alone (λ i j. omega arith) (λ i j. omega arith))
          where
            alone : Alone b → ⊥
            alone (inl x) = omega arith
            alone (inr (inl x)) = omega arith
            alone (inr (inr (inl x))) = omega arith
            alone (inr (inr (inr (inl x)))) = omega arith
            alone (inr (inr (inr (inr (inl x))))) = omega arith
            alone (inr (inr (inr (inr (inr x))))) = omega arith
        go (no h) = rw (le-ltb b 0x80 (omega arith))

    -- Below them.
    pub byte_under : b < code "\t" → false ≡ blank_byte b
    byte_under h = none_byte (λ i j. omega arith)

    module _ (h : code "\t" ≤ b) where
      -- Tab to CR.
      pub byte_low : b < 1 + code "\r" → true ≡ blank_byte b
      unfolding blank_byte
      byte_low k = sym (rw (lt-ltb b 0x80 (omega arith)) (low_blank b h k))

      -- Above them, but for the space.
      pub byte_over : 1 + code "\r" ≤ b → false ≡ blank_byte b
      byte_over k = none_byte (λ i j. omega arith)

-- ---- what stands here

module _ (s : List ℕ) (at : ℕ) where
  module _ {c : ℕ} (y : c ≡ code_at s at) {t : Bool} (i : t ≡ blank_char c) where
    -- A blank.
    pub width_here : t ≡ true → {b r : ℕ} → b ≡ byte_at s at → r ≡ width_of b → Some r ≡ blank_width s at
    unfolding blank_width
    width_here x z e = ap Some (e ∙ ap width_of z) ∙ sym (rw (sym (ap blank_char y) ∙ sym i ∙ x))

    -- None.
    pub width_none : t ≡ false → None ≡ blank_width s at
    unfolding blank_width
    width_none x = sym (rw (sym (ap blank_char y) ∙ sym i ∙ x))

  module _ {b : ℕ} (y : b ≡ byte_at s at) where
    -- A byte of ASCII.
    pub ends_ascii : b < 0x80 → {r : Bool} → r ≡ line_terminator b → r ≡ line_ends s at
    unfolding line_ends
    ends_ascii h e =
        e ∙ ap line_terminator (code_alone s at y h)
        ∙ sym (rw (ne_eqb (byte_at s at) 256 (λ x. omega arith)))

    -- The end.
    pub ends_input : b ≡ 256 → true ≡ line_ends s at
    unfolding line_ends
    ends_input h = sym (rw (eq-eqb (byte_at s at) 256 (sym y ∙ h)))

    -- Another character.
    pub ends_wide : (b ≡ 256 → ⊥) → {c : ℕ} → c ≡ code_at s at → {r : Bool} → r ≡ line_terminator c → r ≡ line_ends s at
    unfolding line_ends
    ends_wide h z e = e ∙ ap line_terminator z ∙ sym (rw (ne_eqb (byte_at s at) 256 (λ x. h (y ∙ x))))

pub ruleset test_steps = (
  char_alone,
  char_ascii,
  char_under,
  char_wide,
  char_between,
  char_line,
  char_over,
  line_low,
  line_under,
  line_high,
  line_over,
  byte_space,
  byte_under,
  byte_low,
  byte_over,
  is_first,
  is_second,
  width_here,
  width_none,
  ends_ascii,
  ends_input,
  ends_wide,
)

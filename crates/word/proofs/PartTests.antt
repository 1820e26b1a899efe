-- Characters of a part of a name: of ASCII by their bytes, beyond it by the tables.
use mathlib.Core.Path.{◌≡◌, refl, sym, ap, ◌∙◌}
use mathlib.Core.Bool.{Bool, true, false, not}
use Prim.Native.Nat.{ℕ, ◌≤◌, ◌<◌}
use Prim.Native.Char.{code}
use native.Mathlib.Omega.{arith}
use native.Mathlib.Decide.{dec_lt}
use lib.Dec.{eqb}
use borrow.Author.Tests.{le-ltb, ne_eqb, not-true}
use Rattle.rules.specs.Parse.{pick, no_char}
use Rattle.rules.proofs.Run.{never}
use Rattle.rules.proofs.Got.{false_true}
use Rattle.jsx.specs.Byte.{letter, digit, is, ◌or◌}
use Rattle.jsx.specs.Ranges.{start_ranges, continue_ranges}
use Rattle.jsx.specs.Unicode.{in_ranges, id_start, id_continue}
use Rattle.jsx.specs.Name.{opens_name, in_word, opens_part, in_part}
use Rattle.jsx.proofs.Unicode.{opens_goes_on}
use Rattle.lex.proofs.Ranges.{each, each_passes}
use Rattle.identifier.specs.Script.{greek, european, east_asian, common, gap}
use Rattle.identifier.proofs.ScriptSteps.{common_starts, gap_continues_none}
use Rattle.word.specs.Here.{name_byte}

-- ---- of ASCII

alike : Bool → Bool → Bool
unfolding not
alike a b = pick a b (not b)

alike_same : (a b : Bool) → alike a b ≡ true → a ≡ b
unfolding alike not
alike_same true b h = sym h
alike_same false true h = never h
alike_same false false h = refl

module _ (c : ℕ) (h : c < 0x80) where
  -- A character that opens a part opens a name in braces.
  pub opens_ascii : opens_part c ≡ opens_name c
  unfolding each alike not opens_part opens_name id_start letter
  opens_ascii =
      alike_same _ _ (each_passes (λ b. alike (opens_part b) (opens_name b)) 0 0x80 refl c (omega arith) (omega arith))

  -- Its characters are bytes of a name.
  pub in_ascii : in_part c ≡ name_byte c
  unfolding each alike not in_part name_byte in_word opens_name id_continue letter digit
  in_ascii =
      alike_same _ _ (each_passes (λ b. alike (in_part b) (name_byte b)) 0 0x80 refl c (omega arith) (omega arith))

-- ---- beyond ASCII

first_only : (a : Bool) → pick a true false ≡ a
first_only true = refl
first_only false = refl

module _ (c : ℕ) (h : 0x80 ≤ c) where
  -- ID_Start opens a part,
  pub opens_wide : opens_part c ≡ in_ranges start_ranges c
  unfolding opens_part id_start
  opens_wide =
      rw (ne_eqb c (code "$") (λ e. omega arith), ne_eqb c (code "_") (λ e. omega arith), le-ltb c 0x80 h)
      (first_only (in_ranges start_ranges c))

  -- and ID_Continue, U+200C and U+200D go on.
  pub in_wide : in_part c ≡ (in_ranges continue_ranges or is "\u{200c}" or is "\u{200d}") c
  unfolding in_part id_continue
  in_wide =
      rw (ne_eqb c (code "$") (λ e. omega arith), ne_eqb c (code "-") (λ e. omega arith), le-ltb c 0x80 h)
      (go (in_ranges continue_ranges c) (eqb c 0x200C) (eqb c 0x200D))
    where
      go : (a x y : Bool) → pick a true (pick x true (pick y true false)) ≡ pick a true (pick x true y)
      go true x y = refl
      go false true y = refl
      go false false true = refl
      go false false false = refl

-- A letter of a common script is beyond ASCII, and goes on.
pub common_goes_on : (c : ℕ) → common c ≡ true → in_part c ≡ true
unfolding each not common greek european east_asian
common_goes_on c h = go (dec_lt c 0x80)
  where
    go : Dec (c < 0x80) → in_part c ≡ true
    go (yes k) =
        never
        (sym (not-true (common c) (each_passes (λ b. not (common b)) 0 0x80 refl c (omega arith) (omega arith))) ∙ h)
    go (no k) = opens_goes_on c (opens_wide c (omega arith) ∙ common_starts c h)

-- What stands between names does not go on.
pub gap_stops : (c : ℕ) → gap c ≡ true → in_part c ≡ false
unfolding each not gap
gap_stops c h = go (dec_lt c 0x80)
  where
    none : (k : ℕ) → gap k ≡ false → eqb c k ≡ false
    none k e = ne_eqb c k (λ x. false_true (ap gap x ∙ e) h)

    go : Dec (c < 0x80) → in_part c ≡ false
    go (yes k) =
        never
        (sym (not-true (gap c) (each_passes (λ b. not (gap b)) 0 0x80 refl c (omega arith) (omega arith))) ∙ h)
    go (no k) =
        in_wide c (omega arith) ∙ rw (gap_continues_none c h, none 0x200C refl, none 0x200D refl)

-- ---- where no character stands

-- None opens a part,
pub none_opens : opens_part no_char ≡ false
unfolding opens_part id_start in_ranges start_ranges
none_opens = refl

-- and none goes on.
pub none_goes_on : in_part no_char ≡ false
unfolding in_part id_continue in_ranges continue_ranges
none_goes_on = refl

-- The table of lead bytes: what each arm of the code follows from, and what the table says of the rule `sequence`.
use mathlib.Core.Path.{◌≡◌, refl, sym, ap, ◌∙◌}
use mathlib.Core.Bool.{Bool, true, false}
use mathlib.Core.List.{List, [], ◌∷◌}
use Rattle.std.specs.Prelude.{Option, None, Some}
use Prim.Native.Nat.{ℕ, ◌≤◌, ◌<◌}
use native.Mathlib.Omega.{arith}
use native.Mathlib.Decide.{dec_lt}
use lib.Dec.{eqb, ltb}
use borrow.Author.Tests.{eqb-true, ne_eqb, ltb-true}
use Rattle.rules.specs.Rule.{Test, Rule, stop, step, refuse, when, mark, ◌⨾◌}
use Rattle.rules.specs.Parse.{pick, byte_at, parse}
use Rattle.rules.proofs.Run.{both}
use Rattle.jsx.specs.Refusal.{not_utf8}
use Rattle.jsx.specs.Byte.{◌‥◌, ◌or◌}
use Rattle.jsx.specs.Utf8.{second, other, sequence}
use Rattle.utf8.specs.Lead.{leads, said_of, lead_of}
use Rattle.utf8.specs.declared.Lead.{Lead}
use Rattle.utf8.specs.declared.Lead.TheVariants.{Alone, Of}
use Rattle.lex.proofs.Ranges.{in_range, under, over}

-- ---- the arms

-- E1-EC and EE-EF.
middle : (b : ℕ) → 0xE1 ≤ b → (b ≡ 0xED → ⊥) → b ≤ 0xEF → ((0xE1 ‥ 0xEC) or (0xEE ‥ 0xEF)) b ≡ true
middle b l d u = go (dec_lt b 0xED)
  where
    go : Dec (b < 0xED) → ((0xE1 ‥ 0xEC) or (0xEE ‥ 0xEF)) b ≡ true
    go (yes k) = rw (in_range 0xE1 0xEC b l (omega arith))
    go (no k) = rw (over 0xE1 0xEC b (omega arith), in_range 0xEE 0xEF b (omega arith) u)

module _ {b : ℕ} where
  -- E0.
  pub lead_e0 : b ≡ 0xE0 → Some (Of 3 0xA0 0xBF) ≡ lead_of b
  unfolding lead_of said_of leads
  lead_e0 h = sym (rw h)

  -- ED.
  pub lead_ed : b ≡ 0xED → Some (Of 3 0x80 0x9F) ≡ lead_of b
  unfolding lead_of said_of leads
  lead_ed h = sym (rw h)

  -- F0.
  pub lead_f0 : b ≡ 0xF0 → Some (Of 4 0x90 0xBF) ≡ lead_of b
  unfolding lead_of said_of leads
  lead_f0 h = sym (rw h)

  -- F4.
  pub lead_f4 : b ≡ 0xF4 → Some (Of 4 0x80 0x8F) ≡ lead_of b
  unfolding lead_of said_of leads
  lead_f4 h = sym (rw h)

  -- 00-7F.
  pub lead_alone : b < 0x80 → Some Alone ≡ lead_of b
  unfolding lead_of said_of leads
  lead_alone u = sym (rw (in_range 0x00 0x7F b (omega arith) (omega arith)))

  -- C2-DF.
  pub lead_two : 0xC2 ≤ b → b < 0xE0 → Some (Of 2 0x80 0xBF) ≡ lead_of b
  unfolding lead_of said_of leads
  lead_two l u = sym (rw (over 0x00 0x7F b (omega arith), in_range 0xC2 0xDF b l (omega arith)))

  -- E1-EC and EE-EF.
  pub lead_three : (b ≡ 0xE0 → ⊥) → (b ≡ 0xED → ⊥) → 0xE0 ≤ b → b < 0xF0 → Some (Of 3 0x80 0xBF) ≡ lead_of b
  unfolding lead_of said_of leads
  lead_three k d l u =
      sym
      (rw (
        over 0x00 0x7F b (omega arith),
        over 0xC2 0xDF b (omega arith),
        over 0xE0 0xE0 b (omega arith),
        middle b (omega arith) d (omega arith),
      ))

  -- F1-F3.
  pub lead_four : (b ≡ 0xF0 → ⊥) → 0xF0 ≤ b → b < 0xF4 → Some (Of 4 0x80 0xBF) ≡ lead_of b
  unfolding lead_of said_of leads
  lead_four k l u =
      sym
      (rw (
        over 0x00 0x7F b (omega arith),
        over 0xC2 0xDF b (omega arith),
        over 0xE0 0xE0 b (omega arith),
        over 0xE1 0xEC b (omega arith),
        over 0xEE 0xEF b (omega arith),
        over 0xED 0xED b (omega arith),
        over 0xF0 0xF0 b (omega arith),
        in_range 0xF1 0xF3 b (omega arith) (omega arith),
      ))

  -- 80-C1: no lead bytes.
  pub lead_low : 0x80 ≤ b → b < 0xC2 → None ≡ lead_of b
  unfolding lead_of said_of leads
  lead_low l u =
      sym
      (rw (
        over 0x00 0x7F b (omega arith),
        under 0xC2 0xDF b u,
        under 0xE0 0xE0 b (omega arith),
        under 0xE1 0xEC b (omega arith),
        under 0xEE 0xEF b (omega arith),
        under 0xED 0xED b (omega arith),
        under 0xF0 0xF0 b (omega arith),
        under 0xF1 0xF3 b (omega arith),
        under 0xF4 0xF4 b (omega arith),
      ))

  -- F5-FF: no lead bytes.
  pub lead_high : (b ≡ 0xF4 → ⊥) → 0xF4 ≤ b → None ≡ lead_of b
  unfolding lead_of said_of leads
  lead_high k l =
      sym
      (rw (
        over 0x00 0x7F b (omega arith),
        over 0xC2 0xDF b (omega arith),
        over 0xE0 0xE0 b (omega arith),
        over 0xE1 0xEC b (omega arith),
        over 0xEE 0xEF b (omega arith),
        over 0xED 0xED b (omega arith),
        over 0xF0 0xF0 b (omega arith),
        over 0xF1 0xF3 b (omega arith),
        over 0xF4 0xF4 b (omega arith),
      ))

pub ruleset lead_steps = (
  lead_e0,
  lead_ed,
  lead_f0,
  lead_f4,
  lead_alone,
  lead_two,
  lead_three,
  lead_four,
  lead_low,
  lead_high,
)

-- ---- the table and the rule

-- The bytes behind the lead byte of a sequence of n: n - 1 of them, and no n is more than 4.
abbrev pub behind_lead : (n lo hi : ℕ) → Rule
behind_lead n lo hi =
    pick (eqb n 2) (second lo hi) (second lo hi ⨾ pick (eqb n 3) other (other ⨾ pick (eqb n 4) other stop))

-- A sequence that begins so.
abbrev pub begun : Option Lead → Rule
begun (Some Alone) = step
begun (Some (Of n lo hi)) = step ⨾ behind_lead n lo hi
begun None = refuse not_utf8 mark

-- The table as a rule.
whens : List (Test × Lead) → Rule
whens [] = begun None
whens (l ∷ ls) = when l.0 (begun (Some l.1)) (whens ls)

module _ (s : List ℕ) (F e at : ℕ) where
  said_reads : (ls : List (Test × Lead))
      → parse s F (whens ls) e at ≡ parse s F (begun (said_of ls (byte_at s at))) e at
  unfolding parse said_of whens
  said_reads [] = refl
  said_reads (l ∷ ls) = go (l.0 (byte_at s at)) (said_reads ls)
    where
      go : (x : Bool) → parse s F (whens ls) e at ≡ parse s F (begun (said_of ls (byte_at s at))) e at
          → pick x (parse s F (begun (Some l.1)) e at) (parse s F (whens ls) e at)
          ≡ parse s F (begun (pick x (Some l.1) (said_of ls (byte_at s at)))) e at
      go true h = refl
      go false h = h

  -- For every byte, the rule reads the sequence that the table says.
  pub lead_reads : parse s F sequence e at ≡ parse s F (begun (lead_of (byte_at s at))) e at
  unfolding sequence other lead_of leads whens
  lead_reads = said_reads leads

-- ---- the lengths

-- Whether a bound is a byte, and a length 2, 3 or 4.
short : Option Lead → Bool
short (Some Alone) = true
short (Some (Of n lo hi)) = pick (ltb hi 256) (pick (eqb n 2) true (pick (eqb n 3) true (eqb n 4))) false
short None = true

all_short : List (Test × Lead) → Bool
all_short [] = true
all_short (l ∷ ls) = pick (short (Some l.1)) (all_short ls) false

said_short : (ls : List (Test × Lead)) (b : ℕ) → all_short ls ≡ true → short (said_of ls b) ≡ true
unfolding said_of all_short short
said_short [] b h = refl
said_short (l ∷ ls) b h =
    let g = both (short (Some l.1)) (all_short ls) h in
    go (l.0 b) g.0 (said_short ls b g.1)
  where
    go : (x : Bool) → short (Some l.1) ≡ true → short (said_of ls b) ≡ true
        → short (pick x (Some l.1) (said_of ls b)) ≡ true
    go true h k = h
    go false h k = k

module _ (b : ℕ) {n lo hi : ℕ} (e : lead_of b ≡ Some (Of n lo hi)) where
  parts : (ltb hi 256 ≡ true) × (pick (eqb n 2) true (pick (eqb n 3) true (eqb n 4)) ≡ true)
  unfolding lead_of leads all_short short
  parts =
      both (ltb hi 256) (pick (eqb n 2) true (pick (eqb n 3) true (eqb n 4)))
      (sym (ap short e) ∙ said_short leads b refl)

  -- A bound is a byte.
  pub lead_fits : hi < 256
  lead_fits = ltb-true hi 256 parts.0

  -- A length that is neither 2 nor 3 is 4.
  pub lead_length : (n ≡ 2 → ⊥) → (n ≡ 3 → ⊥) → n ≡ 4
  lead_length x y = eqb-true n 4 (sym (rw (ne_eqb n 2 x, ne_eqb n 3 y)) ∙ parts.1)

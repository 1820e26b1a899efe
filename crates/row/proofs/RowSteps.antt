-- The row of an opening tag, behind that of its element or fragment.
use mathlib.Core.Path.{◌≡◌}
use mathlib.Core.List.{List}
use Prim.Native.Nat.{ℕ}
use native.Mathlib.Omega.{arith}
use Rattle.lex.proofs.Results.{results}
use Rattle.table.specs.Slot.{Seat, seat_inside}
use Rattle.table.specs.Contract.{Enterable, Words, Stored}

-- The element or fragment may be entered,
pub opening_enter : (j : Seat) {kind at z extra : ℕ} (m : ℕ) → Words (seat_inside j) kind at z extra m
    → {j₁ : Seat} → j₁ ≡ j
    → Enterable j₁
opening_enter j m w g = let h = w.4 in let d = w.6 in rw g (record { small = omega arith; shallow = d })

-- and the tag's numbers are words.
pub opening_words : (j : Seat) {kind at z extra m : ℕ} → Words (seat_inside j) kind at z extra m
    → {j₁ : Seat} {k a y x b : ℕ} → j₁ ≡ seat_inside j
    → k ≡ kind
    → a ≡ at
    → y ≡ z
    → x ≡ extra
    → b ≡ m
    → Words j₁ k a y x b
opening_words j w g e₁ e₂ e₃ e₄ e₅ = rw (g, e₁, e₂, e₃, e₄, e₅) w

-- It was stored.
pub opening_stored : (j : Seat) {j₁ : Seat} {k kind at z extra m : ℕ} {t t' : List ℕ} → j₁ ≡ seat_inside j
    → Stored k j₁ kind at z extra m t t'
    → Stored k (seat_inside j) kind at z extra m t t'
opening_stored j g w = rw g at w

pub ruleset opening_steps = (results, opening_enter, opening_words, opening_stored)

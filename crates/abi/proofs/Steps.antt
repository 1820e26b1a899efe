-- What each need of the calls follows from.
use mathlib.Core.Path.{◌≡◌, refl, sym, subst}
use mathlib.Core.Bool.{Bool, true, false}
use mathlib.Core.List.{List, [], ◌∷◌}
use Prim.Native.Nat.{ℕ}
use Rattle.std.specs.Prelude.{Option, Some, None}
use Rattle.jsx.specs.Table.{Part, no_part}
use Rattle.part.specs.Contract.{Placed, part_of}
use Rattle.stage.specs.Reply.{Reply, Accepted, Refused}
use Rattle.abi.specs.Said.{Says, SaysPart}

-- ---- replies

-- An acceptance is number 0 with its count,
pub say_accepted : {x : Reply} {m k : ℕ} → x ≡ Accepted m → k ≡ m
    → Says x 0 (k ∷ 0 ∷ 0 ∷ 0 ∷ [])
say_accepted e f = rw (e, f) (record { number = refl; is = refl })

-- and a refusal its own with its places.
pub say_refused : {x : Reply} {n a b c d n₁ a₁ b₁ c₁ d₁ : ℕ} → x ≡ Refused n a b c d
    → n₁ ≡ n
    → a₁ ≡ a
    → b₁ ≡ b
    → c₁ ≡ c
    → d₁ ≡ d
    → Says x n₁ (a₁ ∷ b₁ ∷ c₁ ∷ d₁ ∷ [])
say_refused e en ea eb ec ed = rw (e, en, ea, eb, ec, ed) (record { number = refl; is = refl })

-- ---- parts

-- What says the part that the places say says the part that is there.
pub says_placed : {s : List ℕ} {p : Part} {o : Option (ℕ × ℕ)} {r : Bool} {part : List ℕ} → Placed s p o
    → SaysPart (part_of o) r part
    → SaysPart p r part
says_placed {r = r} {part} h x = subst (λ (p : Part). SaysPart p r part) (sym h.is) x

-- A part that is found, by its places,
pub says_some : (a z : ℕ) → SaysPart (part_of (Some (a, z))) true (a ∷ z ∷ [])
says_some a z = record { tells = refl; is = refl }

-- and one that is not.
pub says_none : SaysPart (part_of None) false (0 ∷ 0 ∷ [])
unfolding no_part
says_none = record { tells = refl; is = refl }

-- Each operation of a word works lane by lane.
use mathlib.Core.Path.{◌≡◌, refl, sym, ap, ap₂, ◌∙◌}
use mathlib.Core.Bool.{true}
use mathlib.Core.List.{List, [], ◌∷◌}
use Prim.Native.Nat.{ℕ, zero, suc, ◌+◌, ◌*◌, ◌<◌}
use native.Mathlib.Omega.{arith}
use lib.ListN.{length}
use lib.Dec.{eqb}
use lib.Bits.{bit_and, bit_or, bit_xor, and_block, or_block, xor_block}
use borrow.Author.Tests.{eqb-true}
use Rattle.lex.proofs.Ranges.{each, each_passes}
use Rattle.lanes.specs.Lanes.{spread, Bytes, Lanes}

-- What g gives of a byte is a byte.
abbrev pub Small : (ℕ → ℕ) → Type 0
Small g = (b : ℕ) → b < 256 → g b < 256

-- g and h give the same of a byte, if they do of each.
pub all_same_lem : (g h : ℕ → ℕ) → each (λ b. eqb (g b) (h b)) 0 256 ≡ true → (b : ℕ) → b < 256 → g b ≡ h b
all_same_lem g h e b k = eqb-true (g b) (h b) (each_passes (λ x. eqb (g x) (h x)) 0 256 e b (omega arith) (omega arith))

-- ---- words and lanes

-- The bytes themselves.
pub lanes_self : (w : ℕ) → Lanes (λ b. b) w w
lanes_self w = record { at = λ bs n y i. i }

-- The same byte in n lanes.
unfoldable copies : (n c : ℕ) → ℕ
copies zero c = 0
copies (suc n) c = copies n c * 256 + c

spread_copies : (c : ℕ) (bs : List ℕ) → spread (λ b. c) bs ≡ copies (length bs) c
unfolding spread copies
spread_copies c [] = refl
spread_copies c (b ∷ bs) = ap (λ (x : ℕ). x * 256 + c) (spread_copies c bs)

copies_eight : (c : ℕ) → copies 8 c ≡ c * 0x0101010101010101
unfolding copies
copies_eight c = omega arith

-- A byte times the ones stands in each lane.
pub lanes_copies : (c w : ℕ) → Lanes (λ b. c) w (c * 0x0101010101010101)
lanes_copies c w = record {
  at = λ bs n y i. sym (spread_copies c bs ∙ ap (λ (x : ℕ). copies x c) n ∙ copies_eight c);
}

-- Two ways to compute a lane.
pub lanes_change : {g h : ℕ → ℕ} {w r : ℕ} → ((b : ℕ) → b < 256 → g b ≡ h b) → Lanes g w r → Lanes h w r
unfolding spread Bytes
lanes_change {g} {h} e l = record { at = λ bs n y i. l.at bs n y i ∙ go bs y }
  where
    go : (bs : List ℕ) → Bytes bs → spread g bs ≡ spread h bs
    go [] y = refl
    go (b ∷ bs) y = ap₂ (λ (u v : ℕ). u * 256 + v) (go bs y.1) (e b y.0)

-- The lanes of lanes.
pub lanes_lanes : {g h : ℕ → ℕ} {w x r : ℕ} → Small g → Lanes g w x → Lanes h x r → Lanes (λ b. h (g b)) w r
unfolding spread Bytes
lanes_lanes {g} {h} k l m = record {
  at = λ bs n y i.
      m.at (all bs) (long bs ∙ n) (bytes bs y) (l.at bs n y i ∙ same bs)
      ∙ again bs;
}
  where
    all : List ℕ → List ℕ
    all [] = []
    all (b ∷ bs) = g b ∷ all bs

    long : (bs : List ℕ) → length (all bs) ≡ length bs
    long [] = refl
    long (b ∷ bs) = ap suc (long bs)

    bytes : (bs : List ℕ) → Bytes bs → Bytes (all bs)
    bytes [] y = y
    bytes (b ∷ bs) y = (k b y.0, bytes bs y.1)

    same : (bs : List ℕ) → spread g bs ≡ spread (λ b. b) (all bs)
    same [] = refl
    same (b ∷ bs) = ap (λ (x : ℕ). x * 256 + g b) (same bs)

    again : (bs : List ℕ) → spread h (all bs) ≡ spread (λ b. h (g b)) bs
    again [] = refl
    again (b ∷ bs) = ap (λ (x : ℕ). x * 256 + h (g b)) (again bs)

-- ---- operations

-- An operation that works on the lowest lane and on those above it apart works lane by lane.
module _
    (op : ℕ → ℕ → ℕ) (z : op 0 0 ≡ 0)
    (block : (a c b d : ℕ) → b < 256 → d < 256 → op (a * 256 + b) (c * 256 + d) ≡ op a c * 256 + op b d)
    {g h : ℕ → ℕ} (k : Small g) (l : Small h)
  where
    spread_op : (bs : List ℕ) → Bytes bs → op (spread g bs) (spread h bs) ≡ spread (λ b. op (g b) (h b)) bs
    unfolding spread Bytes
    spread_op [] y = z
    spread_op (b ∷ bs) y =
        block (spread g bs) (spread h bs) (g b) (h b) (k b y.0) (l b y.0)
        ∙ ap (λ (x : ℕ). x * 256 + op (g b) (h b)) (spread_op bs y.1)

    lanes_op : {w x y : ℕ} → Lanes g w x → Lanes h w y → Lanes (λ b. op (g b) (h b)) w (op x y)
    lanes_op u v = record { at = λ bs n y i. ap₂ op (u.at bs n y i) (v.at bs n y i) ∙ spread_op bs y }

module _ {g h : ℕ → ℕ} (k : Small g) (l : Small h) {w x y : ℕ} (u : Lanes g w x) (v : Lanes h w y) where
  pub lanes_and : Lanes (λ b. bit_and (g b) (h b)) w (bit_and x y)
  lanes_and = lanes_op bit_and refl (λ a c b d. and_block 8 a c b d) k l u v

  pub lanes_or : Lanes (λ b. bit_or (g b) (h b)) w (bit_or x y)
  lanes_or = lanes_op bit_or refl (λ a c b d. or_block 8 a c b d) k l u v

  pub lanes_xor : Lanes (λ b. bit_xor (g b) (h b)) w (bit_xor x y)
  lanes_xor = lanes_op bit_xor refl (λ a c b d. xor_block 8 a c b d) k l u v

  -- A sum, which stays in its lane as long as it is a byte.
  pub lanes_sum : Lanes (λ b. g b + h b) w (x + y)
  lanes_sum = lanes_op (λ a c. a + c) refl (λ a c b d i j. omega arith) k l u v

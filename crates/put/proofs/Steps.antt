-- Texts put one behind the other: what each need of the writers follows from.
use mathlib.Core.Path.{◌≡◌, refl, sym, ap, ◌∙◌}
use mathlib.Core.List.{List, [], ◌∷◌, ◌++◌, append_assoc, append-nil}
use Prim.Native.Nat.{ℕ, zero, suc, ◌+◌, ◌*◌, ◌≤◌, ◌<◌}
use native.Mathlib.Omega.{arith}
use lib.ListN.{length, get_or, take, length-append}
use lib.Seq.{sets}
use Rattle.std.proofs.lemmas.List.{take_more}
use borrow.Author.Rules.{rules}
use borrow.Author.Tests.{eq-eqb, ne_eqb}
use Rattle.io.specs.Digits.{last_digits, IsDigitCount}
use Rattle.rules.specs.Record.{row_words}
use Rattle.jsx.specs.Table.{missing, table_word}
use Rattle.jsx.specs.Program.{decimal, field, parent_field, row_line, row_lines}
use Rattle.table.proofs.Laws.{sets_append}
use Rattle.put.proofs.Digits.{decimal_is}
use Rattle.put.specs.Text.{Prints, field_at, ok_line, no_line, set_line, row_bytes}
use Rattle.put.specs.Puts.{Puts}
use Rattle.put.specs.declared.text.Text.{Text}

-- ---- any texts

-- One behind the other,
behind : {p q at j k : ℕ} {u v : List ℕ} {o o₁ o₂ : List ℕ} → Prints p at j u o o₁ → Prints q p k v o₁ o₂
    → Prints q at (j + k) (u ++ v) o o₂
behind {p} {q} {at} {j} {k} {u} {v} {o} x y =
    let n = length-append u v in
    let e = x.ends in
    let f = y.ends in
    let g = x.near in
    let h = y.near in
    record {
      ends = omega arith;
      near = omega arith;
      is = y.is
          ∙ (λ i. sets (x.is i) (e i) v)
          ∙ sym (sets_append u v o at);
    }

pub then : {j k : ℕ} {u v : List ℕ} {a b c : Text} → Puts j u a b → Puts k v b c → Puts (j + k) (u ++ v) a c
then x y = record { lent = y.lent ∙ x.lent; long = y.long ∙ x.long; put = behind x.put y.put }

-- The same text, said otherwise, with a longer bound.
pub said : {j k : ℕ} {u v : List ℕ} {a b : Text} → Puts j u a b → u ≡ v → j ≤ k → Puts k v a b
said {a = a} x e h =
    let f = x.put.near in
    record {
      lent = x.lent;
      long = x.long;
      put = record {
        ends = x.put.ends ∙ ap (λ (l : List ℕ). a.end + length l) e;
        near = omega arith;
        is = x.put.is ∙ ap (sets a.bytes.now a.end) e;
      };
    }

-- No text.
none : (a : Text) → Puts 0 [] a a
none a = record { lent = refl; long = refl; put = record { ends = omega arith; near = omega arith; is = refl } }

-- ---- bytes

-- One more of some bytes.
pub byte_more : (l : List ℕ) (i : ℕ) {x : ℕ} {a b c : Text} → i < length l → Puts i (take i l) a b
    → Puts 1 (x ∷ []) b c
    → x ≡ get_or l i 0
    → Puts (i + 1) (take (i + 1) l) a c
byte_more l i h x y e = said (then x y) (rw (e, take_more l i 0 h)) (omega arith)

pub ruleset byte_steps = (rules, byte_more)

-- ---- numbers

-- The digits that the library gives of a number, as many as it says.
pub decimal_put : (n k : ℕ) (l : List ℕ) {a b : Text} → Puts (length (take k l)) (take k l) a b
    → take k l ≡ last_digits 10 k n
    → IsDigitCount 10 1 n k
    → k ≡ length (take k l)
    → k ≤ 20
    → Puts 20 (decimal n) a b
decimal_put n k l x e h f m = said x (e ∙ decimal_is n k m h) (omega arith)

-- A blank in front of a number.
pub field_put : (n : ℕ) {a b c : Text} → Puts 1 (32 ∷ []) a b → Puts 20 (decimal n) b c → Puts 21 (field n) a c
unfolding field
field_put n x y = then x y

pub ruleset number_steps = (rules, field_put)

-- ---- rows

-- A dash for the missing parent,
pub parent_missing : (n : ℕ) {w j : ℕ} {a b : Text} → w ≡ 4_294_967_295 → Puts j (32 ∷ 45 ∷ []) a b → w ≡ n → j ≤ 21
    → Puts 21 (parent_field n) a b
unfolding parent_field
parent_missing n h x e m = let t = eq-eqb n missing (sym e ∙ h) in said x (rw t) m

-- and any other by its number.
pub parent_put : (n : ℕ) {w : ℕ} {a b : Text} → (w ≡ 4_294_967_295 → ⊥) → Puts 21 (field w) a b → w ≡ n
    → Puts 21 (parent_field n) a b
unfolding parent_field
parent_put n h x e = let t = ne_eqb n missing (rw e at h) in said x (rw (t, e)) (omega arith)

-- The line of a record.
pub row_put : (t : List ℕ) (k : ℕ) {i k₁ k₂ k₃ k₄ k₅ k₆ : ℕ} {a b c d e f g h r s : Text} → Puts 20 (decimal k) a b
    → Puts 21 (field_at t i) b c
    → Puts 21 (field_at t k₁) c d
    → Puts 21 (field_at t k₂) d e
    → Puts 21 (parent_field (get_or t k₃ 0)) e f
    → Puts 21 (field_at t k₄) f g
    → Puts 21 (field_at t k₅) g h
    → Puts 21 (field_at t k₆) h r
    → Puts 1 (10 ∷ []) r s
    → i ≡ row_words * k + 0
    → k₁ ≡ row_words * k + 1
    → k₂ ≡ row_words * k + 2
    → k₃ ≡ row_words * k + 3
    → k₄ ≡ row_words * k + 4
    → k₅ ≡ row_words * k + 5
    → k₆ ≡ row_words * k + 6
    → Puts row_bytes (row_line t k) a s
unfolding row_line table_word
row_put t k x y₀ y₁ y₂ y₃ y₄ y₅ y₆ z e₀ e₁ e₂ e₃ e₄ e₅ e₆ =
    said (then (then (then (then (then (then (then (then x y₀) y₁) y₂) y₃) y₄) y₅) y₆) z)
    (rw (e₀, e₁, e₂, e₃, e₄, e₅, e₆))
    (omega arith)

-- One more record.
line_behind : (t : List ℕ) (n k : ℕ) → row_lines t n k ++ row_line t (k + n) ≡ row_lines t (n + 1) k
unfolding row_lines
line_behind t zero k = let e : k + 0 ≡ k = omega arith in rw e (sym (append-nil (row_line t k)))
line_behind t (suc n) k =
    let e : k + suc n ≡ (k + 1) + n = omega arith in
    let f : suc n + 1 ≡ suc (n + 1) = omega arith in
    rw (e, f) (append_assoc (row_line t k) (row_lines t n (k + 1)) (row_line t (k + 1 + n))
    ∙ ap (λ (l : List ℕ). row_line t k ++ l) (line_behind t n (k + 1)))

pub rows_none : (t : List ℕ) (k : ℕ) (a : Text) → Puts 0 (row_lines t 0 k) a a
unfolding row_lines
rows_none t k a = none a

pub rows_more : (t : List ℕ) (i k : ℕ) {a b c : Text} → Puts (row_bytes * i) (row_lines t i k) a b
    → Puts row_bytes (row_line t (k + i)) b c
    → Puts (row_bytes * (i + 1)) (row_lines t (i + 1) k) a c
rows_more t i k x y = said (then x y) (line_behind t i k) (omega arith)

pub ruleset row_steps = (rules, parent_missing, parent_put, row_put, rows_none, rows_more)

-- ---- first lines

-- The first line of an acceptance.
pub ok_put : (m : ℕ) {j : ℕ} {a b c d : Text} → Puts j (111 ∷ 107 ∷ []) a b → Puts 21 (field m) b c
    → Puts 1 (10 ∷ []) c d
    → j ≤ 2
    → Puts 24 (ok_line m) a d
unfolding ok_line
ok_put m x y z h = said (then (then x y) z) refl (omega arith)

-- The line of a refusal.
pub no_put : (n p q r s : ℕ) {i j : ℕ} {a b c d e f g h : Text} → Puts j (110 ∷ 111 ∷ []) a b → Puts 21 (field i) b c
    → Puts 21 (field p) c d
    → Puts 21 (field q) d e
    → Puts 21 (field r) e f
    → Puts 21 (field s) f g
    → Puts 1 (10 ∷ []) g h
    → j ≤ 2
    → i ≡ n
    → Puts 108 (no_line n p q r s) a h
unfolding no_line
no_put n p q r s x y₁ y₂ y₃ y₄ y₅ z l e =
    said (then (then (then (then (then (then x y₁) y₂) y₃) y₄) y₅) z) (rw e) (omega arith)

-- The same of a number that is another's.
pub no_named : (n p q r s : ℕ) {m : ℕ} {a b : Text} → Puts 108 (no_line m p q r s) a b → m ≡ n
    → Puts 108 (no_line n p q r s) a b
no_named n p q r s x e = rw (sym e) x

-- The line of a store that sets limits.
pub set_put : (d n : ℕ) {j : ℕ} {a b c e f : Text} → Puts j (115 ∷ 101 ∷ 116 ∷ []) a b → Puts 21 (field d) b c
    → Puts 21 (field n) c e
    → Puts 1 (10 ∷ []) e f
    → j ≤ 3
    → Puts 46 (set_line d n) a f
unfolding set_line
set_put d n x y z w h = said (then (then (then x y) z) w) refl (omega arith)

pub ruleset first_line_steps = (rules, ok_put, no_put, no_named, set_put)

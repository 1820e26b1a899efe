-- The text of an answer: what each need follows from.
use mathlib.Core.Path.{◌≡◌, refl}
use mathlib.Core.List.{List, ◌++◌}
use Prim.Native.Nat.{ℕ, ◌+◌, ◌*◌, ◌<◌, ◌^◌}
use native.Mathlib.Omega.{arith}
use borrow.Author.Rules.{rules}
use borrow.Author.Tests.{ne_eqb}
use Rattle.jsx.specs.Table.{accepted, refused}
use Rattle.jsx.specs.Program.{row_lines, printed}
use Rattle.put.specs.Text.{row_bytes, ok_line, no_line}
use Rattle.put.specs.Puts.{Puts}
use Rattle.put.specs.declared.text.Text.{Text}
use Rattle.put.proofs.Steps.{then, said}
use Rattle.std.specs.Prelude.{Result, Ok, Err}
use Rattle.lex.specs.declared.refusal.Reason.{Reason}
use Rattle.lex.specs.declared.refusal.Refusal.{Refusal}
use Rattle.lex.specs.Answer.{number, refused as refusal_of}
use Rattle.stage.specs.Call.{outcome, replied}
use Rattle.print.specs.Answer.{most, Small}

-- What is printed of an acceptance,
accepted_is : (m : ℕ) (t : List ℕ) → ok_line m ++ row_lines t m 0 ≡ printed (accepted m t)
unfolding ok_line printed accepted
accepted_is m t = refl

-- and of a refusal, whose number is not that of an acceptance.
numbered : (e : Reason) → number e ≡ 0 → ⊥
numbered e h = grind (arith, h)

pub refused_is : (e : Reason) (a b c d : ℕ) (t : List ℕ)
    → no_line (number e) a b c d ≡ printed (refused (number e) a b c d t)
unfolding no_line printed refused
refused_is e a b c d t = let f = ne_eqb (number e) 0 (numbered e) in rw f

-- The count and the rows.
pub answer_rows : (t : List ℕ) {x : Result ℕ Refusal} {m m₁ l k : ℕ} {a b c : Text} → x ≡ Ok m
    → Puts 24 (ok_line m₁) a b
    → Puts (row_bytes * l) (row_lines t l k) b c
    → m₁ ≡ m
    → l ≡ m
    → k ≡ 0
    → Puts (most (replied x)) (printed (outcome (replied x) t)) a c
answer_rows t {m = m} h x y e f g =
    let x₁ = rw e at x in
    let y₁ = rw (f, g) at y in
    rw h (said (then x₁ y₁) (accepted_is m t) (omega arith))

-- A refusal's line.
pub answer_no : (t : List ℕ) {x : Result ℕ Refusal} {e f : Refusal} {a b : Text} → x ≡ Err e
    → Puts 108 (no_line (number f.reason) f.first.start f.first.end f.second.start f.second.end) a b
    → f ≡ e
    → Puts (most (replied x)) (printed (outcome (replied x) t)) a b
unfolding refusal_of
answer_no t {e = e} h y g =
    rw h (said (rw g at y) (refused_is e.reason e.first.start e.first.end e.second.start e.second.end t) (omega arith))

module _ {x : Result ℕ Refusal} {m : ℕ} (v : Small (replied x)) (h : x ≡ Ok m) where
  -- The record numbers of an acceptance are words,
  pub rows_fit : {n k : ℕ} → n ≡ m → k ≡ 0 → k + n < 2 ^ 32
  rows_fit e f = let w : m < 2 ^ 32 = rw h at v in omega arith

  -- and its text ends at a number.
  pub rows_room : {n : ℕ} {u : List ℕ} {a b : Text} → a.end < 2 ^ 60 → Puts 24 u a b → n ≡ m
      → b.end + row_bytes * n < 2 ^ 62
  rows_room i x e = let w : m < 2 ^ 32 = rw h at v in let z = x.put.near in omega arith

pub ruleset answer_steps = (rules, answer_rows, answer_no)

pub ruleset answer_asked = (rules, rows_fit, rows_room)

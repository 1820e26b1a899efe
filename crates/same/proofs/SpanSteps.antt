-- The bytes of two spans compared: what each need of `same_bytes` follows from.
use mathlib.Core.Path.{◌≡◌, sym, ap, ◌∙◌}
use mathlib.Core.Bool.{Bool, false}
use mathlib.Core.List.{List}
use Prim.Native.Nat.{ℕ, ◌-◌}
use borrow.Author.Rules.{rules}
use Rattle.jsx.specs.Name.{same}
use Rattle.lex.specs.Contract.{bytes_from}
use Rattle.lex.proofs.SameBytes.{length_part, same_lengths}

module _ (s : List ℕ) (a b c e : ℕ) where
  -- Spans of different lengths differ.
  pub spans_differ : (b - a ≡ e - c → ⊥) → false ≡ same (bytes_from s a (b - a)) (bytes_from s c (e - c))
  spans_differ h =
      sym (same_lengths (bytes_from s a (b - a)) (bytes_from s c (e - c))
      (λ z. h (sym (length_part s a (b - a)) ∙ z ∙ length_part s c (e - c))))

  -- Spans of one length are compared byte for byte.
  pub spans_same : {r : Bool} → b - a ≡ e - c → r ≡ same (bytes_from s a (b - a)) (bytes_from s c (b - a))
      → r ≡ same (bytes_from s a (b - a)) (bytes_from s c (e - c))
  spans_same h g = g ∙ ap (λ (n : ℕ). same (bytes_from s a (b - a)) (bytes_from s c n)) h

pub ruleset span_steps = (rules, spans_differ, spans_same)

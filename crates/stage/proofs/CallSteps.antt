-- From a reading to what its calls answer. Of a reading, `stage` or `run`.
use mathlib.Core.Path.{◌≡◌, refl, sym, ap, ◌∙◌}
use mathlib.Core.Bool.{Bool}
use mathlib.Core.List.{List, []}
use Prim.Native.Nat.{ℕ, ◌/◌, ◌≤◌, ◌<◌}
use native.Mathlib.Omega.{arith}
use lib.ListN.{length}
use lib.Seq.{sets}
use Rattle.lex.proofs.Results.{results}
use borrow.Author.Tests.{le-leb, lt-leb}
use Rattle.rules.specs.Forest.{Forest}
use Rattle.rules.specs.Rule.{Rule}
use Rattle.rules.specs.Parse.{Answer, got, trouble, and_then, read_at, parse_all}
use Rattle.rules.specs.Record.{row_words, count, records}
use Rattle.rules.proofs.Forests.{length_records}
use Rattle.jsx.specs.Utf8.{utf8}
use Rattle.jsx.specs.Reading.{standard, answer}
use Rattle.jsx.specs.Table.{Outcome, missing, accepted, refused, holds, written, checked, read_into, check, read}
use Rattle.jsx.specs.Compose.{IsGot, WellFormed}
use Rattle.jsx.proofs.Calls.{not_too_long}
use Rattle.jsx.proofs.Accepted.{check_zero}
use Rattle.jsx.proofs.Numbers.{Numbering, stage_numbers, run_numbers, refusal_number}
use Rattle.lex.specs.Contract.{view, out_of}
use Rattle.lex.specs.Answer.{Ans, Got, No}
use Rattle.table.specs.Slot.{rows_from}
use Rattle.table.specs.Reader.{counted, Made}
use Rattle.table.proofs.Laws.{sets_written}
use Rattle.stage.specs.declared.Reading.{Reading}
use Rattle.stage.specs.declared.Reading.TheVariants.{Stage, Run}
use Rattle.stage.specs.Reply.{Reply, Accepted, Refused}
use Rattle.stage.specs.Call.{outcome, Numbered, Checks, Reads, reply_of, rule_of, whole, Sound}

-- ---- answers and outcomes

-- A refusal says its number, places, no count and the table.
pub refused_same : (n a b c d n' a' b' c' d' : ℕ) (t t' : List ℕ)
    → refused n a b c d t ≡ refused n' a' b' c' d' t'
    → trouble n a b c d ≡ trouble n' a' b' c' d'
unfolding refused
refused_same n a b c d n' a' b' c' d' t t' e =
    let e₁ : n ≡ n' = ap (λ (x : Outcome). x.number) e in
    let e₂ : a ≡ a' = ap (λ (x : Outcome). x.start) e in
    let e₃ : b ≡ b' = ap (λ (x : Outcome). x.end) e in
    let e₄ : c ≡ c' = ap (λ (x : Outcome). x.start₂) e in
    let e₅ : d ≡ d' = ap (λ (x : Outcome). x.end₂) e in
    λ i. trouble (e₁ i) (e₂ i) (e₃ i) (e₄ i) (e₅ i)

-- A refusal whose number is not 0 is no acceptance.
pub not_both : (n a b c d m : ℕ) (t t' : List ℕ) → 1 ≤ n → refused n a b c d t ≡ accepted m t' → ⊥
unfolding refused accepted
not_both n a b c d m t t' h e = let z = ap (λ (x : Outcome). x.number) e in omega arith

-- What was got, as a check says it.
abbrev pub Counted : ℕ → Answer → Type 0
Counted m x = (a : Bool) × (o : Forest) × (p : ℕ) × (x ≡ got a o p) × (m ≡ count o)

-- What a reading has answered, as its check says it.
viewed : (x : Answer) → outcome (reply_of (view counted x)) [] ≡ checked x
unfolding checked
viewed (got a o p) = refl
viewed (trouble n a b c d) = refl

module _ {reading : ℕ → Rule} (nu : Numbering reading) (s : List ℕ) where
  -- A refusal has a number of its own.
  numbered : (x : Answer) → answer standard reading s ≡ x → Numbered (reply_of (view counted x))
  numbered (got a o p) e = tt
  numbered (trouble n a b c d) e = (refusal_number nu standard s e).0

  -- Where the first two tests are passed, the reading answers.
  reads : length s ≤ 1_048_576 → WellFormed s → answer standard reading s ≡ read_at s (reading 64) 0
  unfolding WellFormed parse_all
  reads h g = not_too_long reading s h ∙ by (parse_all utf8 s) g
    where
      by : (x : Answer) → IsGot x → and_then x (λ a o p. parse_all (reading 64) s) ≡ read_at s (reading 64) 0
      by (got a o p) h = refl
      by (trouble n a b c d) h = absurd h

module _ {reading : ℕ → Rule} (nu : Numbering reading) {s : List ℕ} where
  -- ---- a check

  -- One of the first two tests refuses.
  pub check_stops : {r : Ans} {x : Reply} {n a b c d : ℕ} → Sound r s → r ≡ No n a b c d → x ≡ reply_of r
      → Checks reading s x
  unfolding check checked
  check_stops {r} {n = n} {a} {b} {c} {d} v h e =
      let k = v.stopped n a b c d h reading in
      rw (e, h) (record { is = sym (ap checked k); numbered = (refusal_number nu standard s k).0 })

  -- Both are passed, and the reading answers.
  pub check_made : {r r₂ : Ans} {x : Reply} {p m : ℕ} {t t' : List ℕ} → Sound r s → r ≡ Got p m
      → Made r₂ s (reading 64) 0 0 whole 0 t t'
      → x ≡ reply_of r₂
      → Checks reading s x
  unfolding check
  check_made v h l e =
      let w = v.passed _ _ h in
      let k = reads nu s w.0 w.1 in
      rw (e, l.of.is)
      (record { is = viewed (read_at s (reading 64) 0) ∙ sym (ap checked k); numbered = numbered nu s _ k })

  -- ---- what a check has said

  -- It has refused: so does the reading.
  pub checked_no : {n a b c d : ℕ} → Checks reading s (Refused n a b c d)
      → answer standard reading s ≡ trouble n a b c d
  unfolding check checked
  checked_no {n} {a} {b} {c} {d} v = by (answer standard reading s) v.is
    where
      by : (x : Answer) → refused n a b c d [] ≡ checked x → x ≡ trouble n a b c d
      by (got a₁ o p) e = absurd (not_both n a b c d (count o) [] [] v.numbered e)
      by (trouble n₁ a₁ b₁ c₁ d₁) e = sym (refused_same n a b c d n₁ a₁ b₁ c₁ d₁ [] [] e)

  -- It has accepted: the reading got something, with so many records.
  pub checked_got : {m : ℕ} → Checks reading s (Accepted m) → Counted m (answer standard reading s)
  unfolding check checked accepted
  checked_got {m} v = by (answer standard reading s) refl v.is
    where
      by : (x : Answer) → answer standard reading s ≡ x → accepted m [] ≡ checked x → Counted m x
      by (got a o p) k e = (a, o, p, refl, ap (λ (y : Outcome). y.count) e)
      by (trouble n a b c d) k e = absurd (not_both n a b c d m [] [] (refusal_number nu standard s k).0 (sym e))

  -- What is accepted is no longer than is allowed.
  pub checked_short : {r : Reply} {m : ℕ} {u : List ℕ} → Checks reading s r → r ≡ Accepted m
      → u ≡ s
      → length u ≤ 1_048_576
  unfolding accepted standard
  checked_short {m = m} v h e =
      let w : outcome (Accepted m) [] ≡ check standard reading s = rw h at v.is in
      rw e (check_zero standard reading s nu.proper (sym (ap (λ (y : Outcome). y.number) w))).1.short

  -- What is accepted is well-formed.
  pub checked_sound : {m : ℕ} → Checks reading s (Accepted m) → WellFormed s
  unfolding accepted
  checked_sound v =
      (check_zero standard reading s nu.proper (sym (ap (λ (y : Outcome). y.number) v.is))).1.well_formed

  -- ---- a read

  module _ {t : List ℕ} {r : Reply} (v : Checks reading s r) where
    -- The check has refused, and nothing is written.
    pub read_stops : {n a b c d : ℕ} → r ≡ Refused n a b c d → Reads reading s t r t
    unfolding read read_into
    read_stops h = let v₁ = rw h at v in
        rw h (record { is = sym (ap (read_into t) (checked_no v₁)); numbered = v₁.numbered })

    module _ {m : ℕ} (h : r ≡ Accepted m) where
      -- The table is too small, and nothing is written.
      pub read_small : {k : ℕ} → length t / row_words < m → k ≡ m → Reads reading s t (Refused 15 k 0 0 0) t
      unfolding read read_into holds
      read_small i e = rw e (by (checked_got (rw h at v)))
        where
          by : Counted m (answer standard reading s) → Reads reading s t (Refused 15 m 0 0 0) t
          by (a, o, p, g, c) =
              let f = lt-leb (count o) (length t / row_words) (omega arith) in
              let z = ap (read_into t) {y = got a o p} g in
              rw c (record { is = sym (z ∙ rw f); numbered = omega arith })

      -- There is room, and the reading's rows are written.
      pub read_made : {r₂ : Ans} {x : Reply} {t' : List ℕ} → m ≤ length t / row_words
          → Made r₂ s (reading 64) 0 0 whole 0 t t'
          → x ≡ reply_of r₂
          → Reads reading s t x t'
      unfolding read read_into holds
      read_made {r₂} {t' = t'} i l e =
          let v₁ = rw h at v in
          rw e (by (reads nu s (checked_short v h refl) (checked_sound v₁)) (checked_got v₁))
        where
          by : answer standard reading s ≡ read_at s (reading 64) 0 → Counted m (answer standard reading s)
              → Reads reading s t (reply_of r₂) t'
          by k (a, o, p, g, c) =
              let w : r₂ ≡ Got p (count o) = l.of.is ∙ ap (view counted) (sym k ∙ g) in
              let f = le-leb (count o) (length t / row_words) (omega arith) in
              let n = length_records o 0 0 missing 0 in
              let z : t' ≡ written (records 0 0 missing 0 o) t =
              l.of.wrote p (count o) w
              ∙ ap (λ (y : Answer). sets t 0 (rows_from whole 0 (out_of y))) {y = got a o p} (sym k ∙ g)
              ∙ sets_written (records 0 0 missing 0 o) t (omega arith) in
              let u = ap (read_into t) {y = got a o p} g in
              rw w (record { is = ap (accepted (count o)) z ∙ sym (u ∙ rw f); numbered = tt })

-- ---- the calls

-- Either reading gives its refusals numbers.
pub numbers : (r : Reading) → Numbering (rule_of r)
numbers Stage = stage_numbers
numbers Run = run_numbers

-- Where the first two tests are passed, the input is no longer than is allowed.
pub sound_short : {r : Ans} {s u : List ℕ} {p m : ℕ} → Sound r s → r ≡ Got p m → u ≡ s → length u ≤ 1_048_576
sound_short v h e = rw e (v.passed _ _ h).0

pub ruleset check_steps = (results, numbers, check_stops, check_made)

pub ruleset read_steps = (results, numbers, read_stops, read_small, read_made)

pub ruleset call_asked = (results, numbers, sound_short, checked_short)

-- Demand 1: specs/Demand1.antt proved, statement by statement.
use mathlib.Core.Path.{◌≡◌, refl, sym, ap, ◌∙◌}
use mathlib.Core.Logic.{◌⊎◌, inl, inr}
use mathlib.Core.Bool.{Bool, true, false}
use mathlib.Core.List.{List}
use Prim.Native.Nat.{ℕ}
use native.Mathlib.Omega.{arith}
use lib.Dec.{leb}
use borrow.Author.Tests.{leb-false}
use Rattle.rules.specs.Forest.{Forest}
use Rattle.rules.specs.Rule.{Rule}
use Rattle.rules.specs.Parse.{Answer, got, trouble, pick}
use Rattle.rules.specs.Record.{count, records}
use Rattle.jsx.specs.Refusal.{table_too_small}
use Rattle.jsx.specs.Reading.{standard, answer, stage, run}
use Rattle.jsx.specs.Table.{missing, accepted, refused, holds, written, checked, read_into, check, read}
use Rattle.jsx.proofs.Numbers.{Numbering, stage_numbers, run_numbers, refusal_number}
use Rattle.stage.specs.Reply.{Reply, Accepted, Refused}
use Rattle.stage.specs.Call.{Checks, Reads}
use Rattle.stage.specs.Demand1.{EveryInputIsAnswered, ChecksRefuseByDefinition, TooSmall, ReadsRefuseByDefinition}
use Rattle.stage.specs.Demand1.{RefusalsWriteNothing}
use Rattle.stage.proofs.CallSteps.{not_both, checked_no}
use Rattle.stage.proofs.Tight.{one_outcome}

module _ {reading : ℕ → Rule} (nu : Numbering reading) where
  module _ (s : List ℕ) where
    -- A check that says what the reading answers.
    check_got : {a : Bool} {o : Forest} {p : ℕ} → answer standard reading s ≡ got a o p
        → Checks reading s (Accepted (count o))
    unfolding check checked
    check_got e = record { is = sym (ap checked e); numbered = tt }

    check_no : {n a b c d : ℕ} → answer standard reading s ≡ trouble n a b c d → Checks reading s (Refused n a b c d)
    unfolding check checked
    check_no e = record { is = sym (ap checked e); numbered = (refusal_number nu standard s e).0 }

    a_check : (r : Reply) × Checks reading s r
    a_check = by (answer standard reading s) refl
      where
        by : (x : Answer) → answer standard reading s ≡ x → (r : Reply) × Checks reading s r
        by (got a o p) e = (Accepted (count o), check_got e)
        by (trouble n a b c d) e = (Refused n a b c d, check_no e)

    a_read : (t : List ℕ) → (r : Reply) × (t' : List ℕ) × Reads reading s t r t'
    unfolding read read_into
    a_read t = by (answer standard reading s) refl
      where
        room : {a : Bool} {o : Forest} {p : ℕ} → answer standard reading s ≡ got a o p → (f : Bool)
            → leb (count o) (holds t) ≡ f
            → (r : Reply) × (t' : List ℕ) × Reads reading s t r t'
        room {a} {o} {p} e true h = (
          Accepted (count o),
          written (records 0 0 missing 0 o) t,
          record { is = sym (ap (read_into t) {y = got a o p} e ∙ rw h); numbered = tt },
        )
        room {a} {o} {p} e false h = (
          Refused table_too_small (count o) 0 0 0,
          t,
          record { is = sym (ap (read_into t) {y = got a o p} e ∙ rw h); numbered = omega arith },
        )

        by : (x : Answer) → answer standard reading s ≡ x → (r : Reply) × (t' : List ℕ) × Reads reading s t r t'
        by (got a o p) e = room e (leb (count o) (holds t)) refl
        by (trouble n a b c d) e = (
          Refused n a b c d,
          t,
          record { is = sym (ap (read_into t) e); numbered = (refusal_number nu standard s e).0 },
        )

  every_input : EveryInputIsAnswered reading
  every_input = record { by_check = a_check; by_read = a_read }

  checks_refuse : ChecksRefuseByDefinition reading
  checks_refuse s n a b c d v =
      let e = checked_no nu v in
      let k = refusal_number nu standard s e in
      (e, k.0, k.1)

  -- What a read's refusal is, and the table after it.
  refusal_of : (s t t' : List ℕ) (n a b c d : ℕ) → Reads reading s t (Refused n a b c d) t'
      → (Checks reading s (Refused n a b c d) ⊎ TooSmall reading s t n a b c d) × (t' ≡ t)
  unfolding read read_into
  refusal_of s t t' n a b c d v = by (answer standard reading s) refl v.is
    where
      room : {g : Bool} {o : Forest} {p : ℕ} → answer standard reading s ≡ got g o p → (f : Bool)
          → leb (count o) (holds t) ≡ f
          → refused n a b c d t'
          ≡ pick f (accepted (count o) (written (records 0 0 missing 0 o) t))
          (refused table_too_small (count o) 0 0 0 t)
          → (Checks reading s (Refused n a b c d) ⊎ TooSmall reading s t n a b c d) × (t' ≡ t)
      room {o = o} e true h k =
          absurd (not_both n a b c d (count o) t' (written (records 0 0 missing 0 o) t) v.numbered k)
      room {o = o} e false h k =
          let w = one_outcome (Refused n a b c d) (Refused table_too_small (count o) 0 0 0) t' t v.numbered
          (omega arith) k in
          let m : a ≡ count o = cc w.0 in
          let few = leb-false (count o) (holds t) h in (
            inr (record {
              is_accepted = rw m (check_got s e);
              needed = omega arith;
              said = w.0 ∙ rw m;
            }),
            w.1,
          )

      by : (x : Answer) → answer standard reading s ≡ x → refused n a b c d t' ≡ read_into t x
          → (Checks reading s (Refused n a b c d) ⊎ TooSmall reading s t n a b c d) × (t' ≡ t)
      by (got g o p) e k = room e (leb (count o) (holds t)) refl k
      by (trouble n₁ a₁ b₁ c₁ d₁) e k =
          let w = one_outcome (Refused n a b c d) (Refused n₁ a₁ b₁ c₁ d₁) t' t v.numbered
          (refusal_number nu standard s e).0 k in
          (inl (rw w.0 (check_no s e)), w.1)

  reads_refuse : ReadsRefuseByDefinition reading
  reads_refuse s t t' n a b c d v = (refusal_of s t t' n a b c d v).0

  writes_nothing : RefusalsWriteNothing reading
  writes_nothing s t t' n a b c d v = (refusal_of s t t' n a b c d v).1

-- Every input is answered as a stage,
pub stage_answered : EveryInputIsAnswered stage
stage_answered = every_input stage_numbers

-- and as a run.
pub run_answered : EveryInputIsAnswered run
run_answered = every_input run_numbers

-- A check refuses a stage as the definition does,
pub stage_checks_refuse : ChecksRefuseByDefinition stage
stage_checks_refuse = checks_refuse stage_numbers

-- and a run.
pub run_checks_refuse : ChecksRefuseByDefinition run
run_checks_refuse = checks_refuse run_numbers

-- A read refuses a stage as the check does, or by 15,
pub stage_reads_refuse : ReadsRefuseByDefinition stage
stage_reads_refuse = reads_refuse stage_numbers

-- and a run.
pub run_reads_refuse : ReadsRefuseByDefinition run
run_reads_refuse = reads_refuse run_numbers

-- A read that refuses a stage writes nothing,
pub stage_refusals_write_nothing : RefusalsWriteNothing stage
stage_refusals_write_nothing = writes_nothing stage_numbers

-- and so does one that refuses a run.
pub run_refusals_write_nothing : RefusalsWriteNothing run
run_refusals_write_nothing = writes_nothing run_numbers

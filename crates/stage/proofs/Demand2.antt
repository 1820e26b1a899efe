-- Demand 2: specs/Demand2.antt proved, statement by statement.
use mathlib.Core.Path.{◌≡◌, refl, sym, ap, subst, ◌∙◌}
use mathlib.Core.Bool.{true}
use mathlib.Core.List.{List, [], ◌++◌}
use Prim.Native.Nat.{ℕ, ◌*◌, ◌≤◌, ◌<◌}
use native.Mathlib.Omega.{arith}
use native.Mathlib.Decide.{dec_lt}
use lib.ListN.{get_or}
use borrow.Author.Tests.{lt-leb}
use Rattle.rules.specs.Forest.{Forest}
use Rattle.rules.specs.Rule.{Rule}
use Rattle.rules.specs.Parse.{Answer, got, trouble}
use Rattle.rules.specs.Record.{row_words, row, count}
use Rattle.jsx.specs.Byte.{bytes_of}
use Rattle.jsx.specs.Kind as Kind
use Rattle.jsx.specs.Refusal.{table_too_small, names_differ}
use Rattle.jsx.specs.Reading.{standard, answer, stage, run}
use Rattle.jsx.specs.Table.{Outcome, accepted, refused, holds}
use Rattle.jsx.specs.Table.{written, checked, read_into, check, read, table_word}
use Rattle.jsx.specs.Compose.{ReadAs, rows_of}
use Rattle.jsx.proofs.Case.{whole_language}
use Rattle.jsx.proofs.Accepted.{check_zero, accepted_answer, accepted_check, accepted_read, read_accepted}
use Rattle.jsx.proofs.Numbers.{Numbering, stage_numbers, run_numbers, refusal_number}
use Rattle.stage.specs.Reply.{Reply, Accepted, Refused}
use Rattle.stage.specs.Call.{outcome, Numbered, Checks, Reads}
use Rattle.stage.specs.Demand2.{AcceptsWhatIsRead, WritesWhatIsRead, Reader, Right, IsRefusal}
use Rattle.stage.specs.Demand2.{NotRefusingEverything, NotOneTable, NotWritingNothing, first_child}
use Rattle.stage.specs.Demand2.{NotTheFirstChildAlone, NoInventedCount, table_of}
use Rattle.stage.specs.Demand2.{ClosingNamesCount, BackslashIsAByte, EndBeforeVerdict, ObjectIsAReference}
use Rattle.stage.proofs.CallSteps.{not_both}
use Rattle.stage.proofs.Tight.{one_outcome}

-- ---- acceptance and the table

-- A check whose outcome is known gives one reply,
check_is : {reading : ℕ → Rule} {s : List ℕ} (r r' : Reply) → Checks reading s r → Numbered r'
    → check standard reading s ≡ outcome r' []
    → r ≡ r'
check_is r r' v n e = (one_outcome r r' [] [] v.numbered n (v.is ∙ e)).0

-- and so does a read, with one table after it.
read_is : {reading : ℕ → Rule} {s t t₁ : List ℕ} (r r' : Reply) (t₂ : List ℕ) → Reads reading s t r t₁ → Numbered r'
    → read standard reading s t ≡ outcome r' t₂
    → (r ≡ r') × (t₁ ≡ t₂)
read_is {t₁ = t₁} r r' t₂ v n e = one_outcome r r' t₁ t₂ v.numbered n (v.is ∙ e)

module _ {reading : ℕ → Rule} (nu : Numbering reading) where
  accepts : AcceptsWhatIsRead reading
  unfolding accepted
  accepts = record {
    only_that = λ s m v.
        let x = check_zero standard reading s nu.proper (sym (ap (λ (y : Outcome). y.number) v.is)) in
        let k = ap (λ (y : Outcome). y.count) (v.is ∙ accepted_check standard reading s x.1) in
        (x.0, x.1, k);
    all_of_that = λ s u x r v. check_is r (Accepted (count u)) v tt (accepted_check standard reading s x);
  }

  -- Without room, 15.
  small : (s t : List ℕ) (u : Forest) → ReadAs standard reading s u → holds t < count u
      → read standard reading s t ≡ refused table_too_small (count u) 0 0 0 t
  unfolding read read_into
  small s t u x h =
      let e = accepted_answer standard reading s x in
      let f = lt-leb (count u) (holds t) h in
      ap (read_into t) {y = got true u e.0} e.1 ∙ rw f

  -- Where a read accepts, so does the check.
  read_zero : (s t : List ℕ) (m : ℕ) (t' : List ℕ) → Reads reading s t (Accepted m) t'
      → (check standard reading s).number ≡ 0
  unfolding read read_into check checked accepted
  read_zero s t m t' v = by (answer standard reading s) refl v.is
    where
      by : (x : Answer) → answer standard reading s ≡ x → accepted m t' ≡ read_into t x → (checked x).number ≡ 0
      by (got a o p) e k = refl
      by (trouble n a b c d) e k = absurd (not_both n a b c d m t t' (refusal_number nu standard s e).0 (sym k))

  only_rows : (s t : List ℕ) (m : ℕ) (t' : List ℕ) → Reads reading s t (Accepted m) t'
      → (u : Forest) × ReadAs standard reading s u × (m ≡ count u) × (t' ≡ written (rows_of u) t)
  unfolding accepted
  only_rows s t m t' v = by (check_zero standard reading s nu.proper (read_zero s t m t' v))
    where
      by : (u : Forest) × ReadAs standard reading s u
          → (u : Forest) × ReadAs standard reading s u × (m ≡ count u) × (t' ≡ written (rows_of u) t)
      by (u, x) = room (dec_lt (holds t) (count u))
        where
          room : Dec (holds t < count u)
              → (u : Forest) × ReadAs standard reading s u × (m ≡ count u) × (t' ≡ written (rows_of u) t)
          room (yes h) =
              absurd (not_both table_too_small (count u) 0 0 0 m t t' (omega arith) (sym (v.is ∙ small s t u x h)))
          room (no h) =
              let e = v.is ∙ accepted_read standard reading s x t (omega arith) in
              (u, x, ap (λ (y : Outcome). y.count) e, ap (λ (y : Outcome). y.table) e)

  writes : WritesWhatIsRead reading
  writes = record {
    only_that = only_rows;
    with_room = λ s t u x h r t' v.
        read_is r (Accepted (count u)) (written (rows_of u) t) v tt (accepted_read standard reading s x t h);
    without_room = λ s t u x h r t' v.
        read_is r (Refused table_too_small (count u) 0 0 0) t v (omega arith) (small s t u x h);
  }

-- Stages are accepted as the definition says,
pub stage_accepts : AcceptsWhatIsRead stage
stage_accepts = accepts stage_numbers

-- and runs;
pub run_accepts : AcceptsWhatIsRead run
run_accepts = accepts run_numbers

-- a stage's rows are the definition's,
pub stage_writes : WritesWhatIsRead stage
stage_writes = writes stage_numbers

-- and a run's.
pub run_writes : WritesWhatIsRead run
run_writes = writes run_numbers

-- A read's count is within its table.
pub reads_fit : {reading : ℕ → Rule} → WritesWhatIsRead reading → (s t : List ℕ) (m : ℕ) (t' : List ℕ)
    → Reads reading s t (Accepted m) t'
    → m ≤ holds t
reads_fit {reading} writes s t m t' v = by (writes.only_that s t m t' v)
  where
    by : (u : Forest) × ReadAs standard reading s u × (m ≡ count u) × (t' ≡ written (rows_of u) t) → m ≤ holds t
    by (u, x, e, w) = room (dec_lt (holds t) m)
      where
        room : Dec (holds t < m) → m ≤ holds t
        room (yes h) =
            let z = (writes.without_room s t u x (omega arith) (Accepted m) t' v).0 in
            let one : ◌≡◌ {A = ℕ} 0 1 = cc z in
            absurd (omega arith)
        room (no h) = omega arith

-- ---- wrong readers

-- What a right reader gives where the read's outcome is known.
gives : (f : Reader) → Right f → (s t : List ℕ) (m : ℕ) (t' : List ℕ) → read standard stage s t ≡ accepted m t'
    → ((f s t).0 ≡ Accepted m) × ((f s t).1 ≡ t')
gives f right s t m t' e = read_is (f s t).0 (Accepted m) t' (right s t) tt e

abbrev rows_a : List ℕ
rows_a = row 1 0 4 4294967295 3 0 0 (row 18 0 4 0 3 0 1 (row 3 1 2 1 3 0 2 []))

read_a : read standard stage (bytes_of "<a/>") (table_of 3) ≡ accepted 3 rows_a
unfolding whole_language
read_a = refl

abbrev rows_ab : List ℕ
rows_ab = row 1 0 5 4294967295 3 0 0 (row 18 0 5 0 3 0 1 (row 3 1 3 1 3 0 2 []))

read_ab : read standard stage (bytes_of "<ab/>") (table_of 3) ≡ accepted 3 rows_ab
unfolding whole_language
read_ab = refl

-- `<a/>` is accepted.
pub not_refusing_everything : NotRefusingEverything
not_refusing_everything f right all =
    subst IsRefusal (gives f right (bytes_of "<a/>") (table_of 3) 3 rows_a read_a).0
    (all (bytes_of "<a/>") (table_of 3))

-- `<a/>` and `<ab/>` have different tables.
pub not_one_table : NotOneTable
not_one_table f right same =
    let e = (gives f right (bytes_of "<a/>") (table_of 3) 3 rows_a read_a).1 in
    let e' = (gives f right (bytes_of "<ab/>") (table_of 3) 3 rows_ab read_ab).1 in
    let z : ◌≡◌ {A = ℕ} 4 5 =
    ap (λ (l : List ℕ). get_or l 2 0) (sym e ∙ same (bytes_of "<a/>") (bytes_of "<ab/>") (table_of 3) ∙ e') in
    omega arith

-- `<a/>` is written.
pub not_writing_nothing : NotWritingNothing
not_writing_nothing f right same =
    let e = (gives f right (bytes_of "<a/>") (table_of 3) 3 rows_a read_a).1 in
    let z : ◌≡◌ {A = ℕ} 1 0 = ap (λ (l : List ℕ). get_or l 0 7) (sym e ∙ same (bytes_of "<a/>") (table_of 3)) in
    omega arith

-- Behind the first child, a text or braces.
abbrev text_behind : List ℕ
text_behind = bytes_of "hi</v>"

abbrev braces_behind : List ℕ
braces_behind = bytes_of "{}</v>"

abbrev rows_text : List ℕ
rows_text = (read standard stage (first_child ++ text_behind) (table_of 10)).table

read_text : (read standard stage (first_child ++ text_behind) (table_of 10) ≡ accepted 9 rows_text)
    × (get_or rows_text (row_words * 6) 0 ≡ Kind.text)
unfolding whole_language
read_text = (refl, refl)

abbrev rows_braces : List ℕ
rows_braces = (read standard stage (first_child ++ braces_behind) (table_of 10)).table

read_braces : (read standard stage (first_child ++ braces_behind) (table_of 10) ≡ accepted 10 rows_braces)
    × (get_or rows_braces (row_words * 6) 0 ≡ Kind.container)
unfolding whole_language
read_braces = (refl, refl)

-- A text behind the first child, or braces: record 6 tells them apart.
pub not_the_first_child_alone : NotTheFirstChildAlone
not_the_first_child_alone f right same =
    let e = (gives f right (first_child ++ text_behind) (table_of 10) 9 rows_text read_text.0).1 in
    let e' = (gives f right (first_child ++ braces_behind) (table_of 10) 10 rows_braces read_braces.0).1 in
    let z : ◌≡◌ {A = ℕ} Kind.text Kind.container =
    sym read_text.1
    ∙ ap (λ (l : List ℕ). get_or l (row_words * 6) 0) (sym e ∙ same text_behind braces_behind (table_of 10) refl ∙ e')
    ∙ read_braces.1 in
    omega arith

-- The count is the check's.
pub no_invented_count : NoInventedCount
no_invented_count f right s t m h =
    let v = subst (λ (r : Reply). Reads stage s t r (f s t).1) h (right s t) in
    let x = only_rows stage_numbers s t m (f s t).1 v in
    x.2 ∙ sym (read_accepted standard stage s x.1).1

-- ---- easy slips

differing : check standard stage (bytes_of "<v></w>") ≡ refused 7 1 2 5 6 []
unfolding whole_language
differing = refl

-- A closing tag is not taken because it arrived next.
pub closing_names_count : ClosingNamesCount
closing_names_count r v = check_is r (Refused names_differ 1 2 5 6) v (omega arith) differing

abbrev rows_backslash : List ℕ
rows_backslash =
    row 1 0 10 4294967295 6 0 0 (row 18 0 10 0 6 0 1 (row 3 1 2 1 3 0 2 (row 8 3 8 1 6 0 2 (row 16 3 4 3 5 0 3
    (row 10 5 8 3 6 0 3 [])))))

backslash : read standard stage (bytes_of "<a b=\"\\\"/>") (table_of 6) ≡ accepted 6 rows_backslash
unfolding whole_language
backslash = refl

-- A backslash is a byte of an attribute's string.
pub backslash_is_a_byte : BackslashIsAByte
unfolding table_word
backslash_is_a_byte r t' v =
    let e = read_is r (Accepted 6) rows_backslash v tt backslash in
    let word : (i : ℕ) → table_word t' 5 i ≡ table_word rows_backslash 5 i =
    λ i. ap (λ (l : List ℕ). table_word l 5 i) e.1 in
    (e.0, word 0, word 1, word 2)

cut_short_lem : check standard stage (bytes_of "<v></w") ≡ refused 4 6 6 0 0 []
unfolding whole_language
cut_short_lem = refl

-- The end of input comes before the verdict.
pub end_before_verdict : EndBeforeVerdict
end_before_verdict r v = check_is r (Refused 4 6 6 0 0) v (omega arith) cut_short_lem

abbrev rows_member : List ℕ
rows_member =
    row 1 0 10 4294967295 5 0 0 (row 18 0 10 0 5 0 1 (row 7 1 8 1 5 0 2 (row 4 1 4 2 4 0 3 (row 16 5 8 2 5 0 3 []))))

member_read : read standard stage (bytes_of "<foo.bar/>") (table_of 5) ≡ accepted 5 rows_member
unfolding whole_language
member_read = refl

-- The object of a member is a reference.
pub object_is_a_reference : ObjectIsAReference
unfolding table_word
object_is_a_reference r t' v =
    let e = read_is r (Accepted 5) rows_member v tt member_read in
    (e.0, ap (λ (l : List ℕ). table_word l 3 0) e.1)

-- What an accepted input is, and what the calls answer on it. No input is answered 0 but an accepted one.
use mathlib.Core.Path.{◌≡◌, refl, sym, ap, subst, ◌∙◌}
use mathlib.Core.Bool.{Bool, true, false}
use mathlib.Core.List.{List, [], ◌++◌, append-nil}
use Prim.Native.Nat.{ℕ, suc, ◌*◌, ◌≤◌}
use lib.ListN.{length, replicate, length-replicate, drop_of_length-le}
use lib.Dec.{ltb, eqb}
use native.Mathlib.Omega.{arith}
use borrow.Author.Tests.{ltb-false, le-ltb, le-leb, eqb-true, eqb-false}
use Rattle.rules.specs.Forest.{Forest, nil}
use Rattle.rules.specs.Rule.{Rule, done, refuse, when, seq, here}
use Rattle.rules.specs.Parse.{Answer, got, trouble, pick, and_then, byte_at, parse, parse_all, parsed}
use Rattle.rules.specs.Record.{row_words, count, records}
use Rattle.rules.proofs.Forests.{length_records}
use Rattle.rules.proofs.Run.{goes, on, got_goes, Goes, both_read}
use Rattle.rules.proofs.Got.{trouble_got, got_same}
use Rattle.rules.proofs.Ends.{top_got}
use Rattle.rules.proofs.Agree.{Plain, byte_end}
use Rattle.rules.proofs.Flow.{shut}
use Rattle.rules.proofs.Stuck.{NotStuck, Refuses, never_stuck}
use Rattle.jsx.specs.Refusal.{too_long, not_utf8, unexpected, after_stage}
use Rattle.jsx.specs.Byte.{end, need}
use Rattle.jsx.specs.Blank.{blanks}
use Rattle.jsx.specs.Utf8.{utf8}
use Rattle.jsx.specs.Expression.{sibling, no_sibling}
use Rattle.jsx.specs.Element.{children}
use Rattle.jsx.specs.Reading.{Limits, stage, run, answer}
use Rattle.jsx.specs.Table.{Outcome, missing, accepted, refused, holds, written, checked, read_into, check, read}
use Rattle.jsx.specs.Compose.{Accepted, count_of, rows_read, IsGot, WellFormed, Reads, ReadAs, rows_of}
use Rattle.jsx.proofs.Goes.{within_goes}
use Rattle.jsx.proofs.Paired.{well_paired}
use Rattle.jsx.proofs.Shape.{content_of, closer, stage_flow, run_flow}
use Rattle.jsx.proofs.Pieces.{utf8_refuses}

-- ---- the two readings

-- A reading goes on, ends where no byte is left, and is refused by no number 0.
pub record Proper (reading : ℕ → Rule) : Type 0 where
  pub goes_on : (d : ℕ) → goes (reading d) ≡ true
  pub at_end : (d : ℕ) (s : List ℕ) (u : Forest) (p : ℕ) → parse_all (reading d) s ≡ got true u p → byte_at s p ≡ 256
  pub unstuck : (d : ℕ) (s : List ℕ) → NotStuck (parse_all (reading d) s)

module _ (s : List ℕ) where
  -- A rule that got something only at the end of the input.
  abbrev Ending : Rule → Type 0
  Ending t = (at : ℕ) (o : Forest) (p : ℕ) → parsed s t 0 at ≡ got true o p → byte_at s p ≡ 256

  -- The end and nothing else is such a rule,
  end_ends : (n : ℕ) → Ending (when end done (refuse n here))
  unfolding parse
  end_ends n at o p h = go (end (byte_at s at)) refl h
    where
      go : (b : Bool)
          → end (byte_at s at) ≡ b
          → pick b (got true nil at) (trouble n at at 0 0) ≡ got true o p
          → byte_at s p ≡ 256
      go true e k = let q : at ≡ p = (got_same k).2 in subst (λ (n : ℕ). byte_at s n ≡ 256) q (eqb-true _ _ e)
      go false e k = trouble_got k

  -- and so is any rule with such a rule behind it.
  then_ends : (t u : Rule) → Ending u → Ending (seq t u)
  then_ends t u h at o p k = let x = both_read s (suc (length s)) t u 0 at k in h x.1 x.2 p x.4

run_goes : (d : ℕ) → goes (run d) ≡ true
unfolding goes run children
run_goes d = refl

stage_goes : (d : ℕ) → goes (stage d) ≡ true
unfolding goes stage blanks need no_sibling sibling
stage_goes d = rw (within_goes d).element

-- A run is proper: it goes on, ends where no byte is left, and is refused by no number 0;
pub run_proper : Proper run
run_proper = record {
  goes_on = run_goes;
  at_end = λ d s u p h. unfold run parse_all in then_ends s _ _ (end_ends s unexpected) 0 u p h;
  unstuck = λ d s. never_stuck content_of closer well_paired (run_flow d {k = shut}) s;
}

-- and so is a stage.
pub stage_proper : Proper stage
stage_proper = record {
  goes_on = stage_goes;
  at_end = λ d s u p h. unfold stage parse_all in
      then_ends s _ _ (then_ends s _ _ (then_ends s _ _ (then_ends s _ _ (end_ends s after_stage)))) 0 u p h;
  unstuck = λ d s. never_stuck content_of closer well_paired (stage_flow d {k = shut}) s;
}

-- ---- accepted

module _ (l : Limits) (reading : ℕ → Rule) (s : List ℕ) where
  -- Once 1 and 2 are passed, the reading answers.
  answer_reads : length s ≤ l.bytes → WellFormed s → answer l reading s ≡ parse_all (reading l.depth) s
  unfolding answer WellFormed
  answer_reads h g = rw (le-ltb l.bytes (length s) h) (by (parse_all utf8 s) g)
    where
      by : (x : Answer)
          → IsGot x
          → and_then x (λ a o p. parse_all (reading l.depth) s) ≡ parse_all (reading l.depth) s
      by (got a o p) h = refl
      by (trouble n a b c d) h = absurd h

  -- An input that is read as a forest is answered by that forest.
  pub accepted_answer : {u : Forest} → ReadAs l reading s u → (p : ℕ) × (answer l reading s ≡ got true u p)
  unfolding Reads
  accepted_answer x = (x.reads.0, answer_reads x.short x.well_formed ∙ x.reads.1)

  -- An input has one reading.
  pub accepted_one : {u v : Forest} → ReadAs l reading s u → ReadAs l reading s v → u ≡ v
  accepted_one x y = (got_same (sym (accepted_answer x).1 ∙ (accepted_answer y).1)).1

  module _ (pr : Proper reading) where
    abbrev Result : Answer → Type 0
    Result (got a o p) = ReadAs l reading s o
    Result (trouble n a b c d) = eqb n 0 ≡ false

    last_test : length s ≤ l.bytes → WellFormed s → Result (parse_all (reading l.depth) s)
    unfolding Reads
    last_test h g = by (parse_all (reading l.depth) s) refl (pr.unstuck l.depth s)
      where
        goes_through : Goes (parse_all (reading l.depth) s)
        goes_through = unfold parse_all in on s (suc (length s)) (reading l.depth) (pr.goes_on l.depth) 0 0

        by : (x : Answer) → parse_all (reading l.depth) s ≡ x → NotStuck x → Result x
        by (got a o p) e n =
            record {
              short = h;
              well_formed = g;
              reads = (p, e ∙ ap (λ (b : Bool). got b o p) (got_goes (parse_all (reading l.depth) s) goes_through e));
            }
        by (trouble n a b c d) e k = k

    -- Every answer is a reading, or a refusal by a number that is not 0.
    pub answered : Result (answer l reading s)
    unfolding answer
    answered = by_length (ltb l.bytes (length s)) refl
      where
        by_utf8 : length s ≤ l.bytes → (x : Answer)
            → parse_all utf8 s ≡ x
            → Refuses (λ n. n ≡ not_utf8) x
            → Result (and_then x (λ a o p. parse_all (reading l.depth) s))
        by_utf8 h (got a o p) e r = last_test h (unfold WellFormed in subst IsGot (sym e) tt)
        by_utf8 h (trouble n a b c d) e r = ap (λ (m : ℕ). eqb m 0) r

        by_length : (b : Bool)
            → ltb l.bytes (length s) ≡ b
            → Result
            (pick b (trouble too_long 0 0 0 0) (and_then (parse_all utf8 s) (λ a o p. parse_all (reading l.depth) s)))
        by_length true e = refl
        by_length false e = by_utf8 (ltb-false _ _ e) (parse_all utf8 s) refl (utf8_refuses s)

    -- What is got is got to the input's end, and not by a `stop`.
    pub answer_whole : Plain s → {a : Bool} {o : Forest} {p : ℕ}
        → answer l reading s ≡ got a o p
        → (a ≡ true) × (p ≡ length s)
    unfolding Reads parse_all
    answer_whole ps {a} {o} {p} e =
        let x : ReadAs l reading s o = subst Result e answered in
        let h = got_same (sym e ∙ answer_reads x.short x.well_formed ∙ x.reads.1) in
        let q = x.reads.1 in
        let m = byte_end s ps x.reads.0 (pr.at_end l.depth s o x.reads.0 q) in
        let n = top_got s (suc (length s)) (reading l.depth) 0 0 (omega arith) q in
        (h.0, h.2 ∙ omega arith)

    -- Trouble 0 never comes.
    pub never_zero : NotStuck (answer l reading s)
    never_zero = by (answer l reading s) answered
      where
        by : (x : Answer) → Result x → NotStuck x
        by (got a o p) r = tt
        by (trouble n a b c d) r = r

    -- The number 0 is given to an accepted input, and to no other.
    pub check_zero : (check l reading s).number ≡ 0 → (u : Forest) × ReadAs l reading s u
    unfolding check checked refused
    check_zero h = by (answer l reading s) answered h
      where
        by : (x : Answer) → Result x → (checked x).number ≡ 0 → (u : Forest) × ReadAs l reading s u
        by (got a o p) r k = (o, r)
        by (trouble n a b c d) r k = absurd (eqb-false n 0 r k)

  module _ {u : Forest} (x : ReadAs l reading s u) where
    -- The check's whole answer.
    pub accepted_check : check l reading s ≡ accepted (count u) []
    unfolding check checked
    accepted_check = rw (accepted_answer x).1

    -- The read's whole answer, on a table with room.
    pub accepted_read : (t : List ℕ)
        → count u ≤ holds t
        → read l reading s t ≡ accepted (count u) (written (records 0 0 missing 0 u) t)
    unfolding read read_into
    accepted_read t h = rw ((accepted_answer x).1, le-leb (count u) (holds t) h)

    -- The check counts the nodes of what was read,
    counted : count_of l reading s ≡ count u
    unfolding accepted
    counted = ap (λ (r : Outcome). r.count) accepted_check

    -- and a read writes their rows.
    rows : rows_read l reading s ≡ rows_of u
    unfolding rows_read accepted written holds
    rows =
        let n = length_records u 0 0 missing 0 in
        ap (λ (r : Outcome). r.table) (accepted_read table (omega (arith, size)))
        ∙ ap (λ (r : List ℕ). rows_of u ++ r) (drop_of_length-le table {i = length (rows_of u)} (omega (arith, size)))
        ∙ append-nil (rows_of u)
      where
        table : List ℕ
        table = replicate (row_words * count_of l reading s) 0

        size : length table ≡ row_words * count u
        size = length-replicate {A = ℕ} (row_words * count_of l reading s) 0 ∙ ap (λ (n : ℕ). row_words * n) counted

    -- An input that is read is accepted; the check counts the nodes, and a read writes their rows.
    pub read_accepted : Accepted l reading s × (count_of l reading s ≡ count u) × (rows_read l reading s ≡ rows_of u)
    unfolding accepted
    read_accepted = (ap (λ (r : Outcome). r.number) accepted_check, counted, rows)

  -- Of what is accepted a read writes the rows into every table with room.
  pub every_table : (pr : Proper reading) (t : List ℕ) → Accepted l reading s → count_of l reading s ≤ holds t
      → read l reading s t ≡ accepted (count_of l reading s) (written (rows_read l reading s) t)
  every_table pr t h room =
      let x = check_zero pr h in
      let k = read_accepted x.1 in
      accepted_read x.1 t (omega (arith, k.1))
      ∙ (λ i. accepted (sym k.1 i) (written (sym k.2 i) t))

-- The program's whole output: what each need of it follows from.
use mathlib.Core.Path.{◌≡◌, refl, sym, ap, ◌∙◌}
use mathlib.Core.List.{List}
use Prim.Native.Nat.{ℕ, ◌*◌, ◌/◌, ◌≤◌, ◌<◌}
use native.Mathlib.Omega.{arith}
use lib.ListN.{length, take, drop, replicate, length-replicate}
use lib.Seq.{length-sets, length-take-le, take_at}
use borrow.Author.Rules.{rules}
use borrow.Author.Tests.{le-ltb}
use Rattle.rules.specs.Parse.{Answer}
use Rattle.rules.specs.Record.{row_words}
use Rattle.jsx.specs.Reading.{standard, answer, stage}
use Rattle.jsx.specs.Table.{holds, written, read_into, read}
use Rattle.jsx.specs.Program.{printed, program_limits, program_table, output}
use Rattle.jsx.proofs.Calls.{too_long_lem}
use Rattle.table.proofs.Laws.{sets_written}
use Rattle.std.specs.Prelude.{Result}
use Rattle.lex.specs.declared.refusal.Reason.TheVariants as R
use Rattle.lex.specs.declared.refusal.Refusal.{Refusal}
use Rattle.lex.specs.Answer.{No, number, refused}
use Rattle.stage.specs.Reply.{Reply, Accepted, Refused}
use Rattle.stage.specs.Call.{outcome, replied, Reads}
use Rattle.stage.proofs.Demand2.{stage_writes, reads_fit}
use Rattle.put.specs.Text.{Prints, no_line}
use Rattle.put.specs.Puts.{Puts}
use Rattle.put.specs.declared.text.Text.{Text}
use Rattle.print.specs.Answer.{Whole, text_room, most, Small}
use Rattle.put.proofs.Steps.{said}
use Rattle.print.proofs.Steps.{refused_is}

-- An input that is too long for the program.
pub output_long : (s : List ℕ) (e : Refusal) {a b : Text} → refused e ≡ No 1 0 0 0 0
    → Puts 108 (no_line (number e.reason) e.first.start e.first.end e.second.start e.second.end) a b
    → 65_536 < length s
    → Puts (text_room 2_048) (output s) a b
unfolding output read read_into program_limits refused
output_long s e q x h =
    let n : number e.reason ≡ 1 = cc q in
    let f : e.first.start ≡ 0 = cc q in
    let g : e.first.end ≡ 0 = cc q in
    let k : e.second.start ≡ 0 = cc q in
    let l : e.second.end ≡ 0 = cc q in
    said (rw (n, f, g, k, l) at x)
    (refused_is R.TooLong 0 0 0 0 program_table
    ∙ ap (λ (y : Answer). printed (read_into program_table y)) (sym (too_long_lem program_limits stage s h)))
    (omega arith)

-- Within the program's length its limits answer as document 01's do.
same_answer : (s : List ℕ) → length s ≤ 65_536 → answer standard stage s ≡ answer program_limits stage s
unfolding answer standard program_limits
same_answer s h =
    let e = le-ltb 1_048_576 (length s) (omega arith) in
    let f = le-ltb 65_536 (length s) h in
    rw (e, f)

program_holds : holds program_table ≡ 2_048
unfolding program_table holds
program_holds = ap (λ (n : ℕ). n / row_words) (length-replicate {A = ℕ} (row_words * 2_048) 0)

abbrev zeros : List ℕ
zeros = replicate (row_words * 2_048) 0

zeros_are : zeros ≡ program_table
unfolding program_table
zeros_are = refl

module _ {s t t' : List ℕ} (r : Result ℕ Refusal) (z : t ≡ zeros) (v : Reads stage s t (replied r) t') where
  -- Of the program's table, the count is a word,
  pub output_small : Small (replied r)
  output_small = by (replied r) v
    where
      by : (r : Reply) → Reads stage s t r t' → Small r
      by (Accepted m) w =
          let f = reads_fit stage_writes s t m t' w in
          let g : holds t ≡ 2_048 = ap holds (z ∙ zeros_are) ∙ program_holds in
          omega arith
      by (Refused n a b c d) w = tt

  few : most (replied r) ≤ text_room 2_048
  few = by (replied r) v
    where
      by : (r : Reply) → Reads stage s t r t' → most r ≤ text_room 2_048
      by (Accepted m) w =
          let f = reads_fit stage_writes s t m t' w in
          let g : holds t ≡ 2_048 = ap holds (z ∙ zeros_are) ∙ program_holds in
          omega arith
      by (Refused n a b c d) w = omega arith

  -- and the text of the answer is the program's.
  pub output_answer : {a b : Text} → Puts (most (replied r)) (printed (outcome (replied r) t')) a b → length s ≤ 65_536
      → Puts (text_room 2_048) (output s) a b
  unfolding output read
  output_answer p h =
      said p
      (ap printed (v.is
      ∙ ap (read_into t) (same_answer s h)
      ∙ ap (λ (u : List ℕ). read_into u (answer program_limits stage s)) (z ∙ zeros_are)))
      few

pub ruleset output_steps = (rules, output_long, output_answer)

pub ruleset output_asked = (rules, output_small)

-- ---- at the front of a buffer

-- A text that fits, put at the front, is the front.
pub fronted : {r : ℕ} {u o o' : List ℕ} → text_room 2_048 ≤ length o → Prints r 0 (text_room 2_048) u o o'
    → Whole r u o'
unfolding written
fronted {r} {u} {o} {o'} h x =
    let e = x.ends in
    let f = x.near in
    let n : length o' ≡ length o = ap length x.is ∙ length-sets o 0 u in
    let l : length u ≤ length o = omega arith in
    let w : length u ≡ r = omega arith in
    let b : r ≤ length o' = omega arith in
    record {
      inside = b;
      counts = sym (length-take-le r o' b);
      is = ap (take r) (x.is ∙ sets_written u o l) ∙ take_at u (drop (length u) o) r w;
    }

pub ruleset whole_steps = (rules, fronted)

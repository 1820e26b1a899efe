-- Runs join: of readings, and of their rows.
use mathlib.Core.Path.{◌≡◌, refl, sym, ap, subst, ◌∙◌}
use mathlib.Core.Bool.{Bool, true, false}
use mathlib.Core.List.{List, [], ◌++◌}
use Prim.Native.Nat.{ℕ, zero, suc, ◌+◌, ◌-◌, ◌≤◌}
use native.Mathlib.Omega.{arith}
use lib.ListN.{length, drop}
use Rattle.rules.specs.Forest.{Forest, nil, ◌⋈◌, width}
use Rattle.rules.specs.Parse.{got, repeat, parse}
use Rattle.rules.specs.Record.{row_words, count}
use Rattle.rules.proofs.Run.{wide_got}
use Rattle.rules.proofs.Got.{trouble_got, false_true}
use Rattle.rules.proofs.Ends.{top_got, Turn, last, goon, turn, turn_last}
use Rattle.rules.proofs.Agree.{Plain, byte_end}
use Rattle.rules.proofs.Moved.{moved, beyond}
use Rattle.rules.proofs.Joined.{meets, last_ends, first_end, Bare, records_apart, records_met}
use Rattle.jsx.specs.Element.{children}
use Rattle.jsx.specs.Compose.{text_label, joined_readings, rows_of, Reads, ReadAs}
use Rattle.jsx.specs.Depth.{within}
use Rattle.jsx.specs.Reading.{Limits, run}
use Rattle.jsx.specs.Table.{missing}
use Rattle.jsx.proofs.Child.{end_stop, tbody, TextByte, tstop, tstep, text_byte, cbody, Child, ends, a_text}
use Rattle.jsx.proofs.Child.{other, child_of}
use Rattle.jsx.proofs.Pieces.{good_join, good_empty}
use Rattle.jsx.proofs.JoinRead.{run_of, run_is, join_reads}
use Rattle.jsx.proofs.Fits.{run_few}

-- ---- of readings

-- The joined run is accepted, and read as the two readings joined.
pub runs_join : (l : Limits) (x y : List ℕ)
    → Plain x
    → {u v : Forest}
    → ReadAs l run x u
    → ReadAs l run y v
    → length (x ++ y) ≤ l.bytes
    → ReadAs l run (x ++ y) (joined_readings u v)
runs_join l x y px {u} {v} ax ay h =
    record {
      short = h;
      well_formed = good_join x y px ax.well_formed ay.well_formed;
      reads = join_reads l.depth x y px u v ax.reads ay.reads;
    }

-- The empty run is accepted, with no record; so it may stand on either side, and in the place of any content.
pub empty_run : (l : Limits) → ReadAs l run [] nil
unfolding children parse
empty_run l = record {
  short = omega arith;
  well_formed = good_empty;
  reads = run_is l.depth [] nil 0 (turn_last (cbody [] 1 0 l.depth) 0 0 (end_stop [] 1 0 l.depth 0 refl)) refl;
}

-- ---- of tables

-- A run is read to its last byte.
pub run_width : (l : Limits) (x : List ℕ) → Plain x → {u : Forest} → ReadAs l run x u → width u ≡ length x
run_width l x px {u} ax =
    let X = run_of l.depth x u ax.reads in
    let w = wide_got x (suc (length x)) (children (within l.depth)) 0 0 X.1 in
    let t = top_got x (suc (length x)) (children (within l.depth)) 0 0 (omega arith) X.1 in
    let b = byte_end x px X.0 X.2 in
    omega arith

-- A text has no node inside it.
bytes_only : (s : List ℕ) (F e f at : ℕ) {a : Bool} {c : Forest} {p : ℕ}
    → repeat (tbody s F e) f at ≡ got a c p
    → count c ≡ 0
unfolding repeat count ◌⋈◌
bytes_only s F e zero at h = trouble_got h
bytes_only s F e (suc f) at {a} {c} {p} h = by (turn (tbody s F e) f at h).1 (λ q v r. bytes_only s F e f q r)
  where
    one : {b : Bool} {o : Forest} {q : ℕ} → TextByte s F e at b o q → count o ≡ 0
    one (tstop x y z w) = ap count z
    one (tstep x y z w) = ap count z

    more : (o v : Forest) → count o ≡ 0 → count v ≡ 0 → {b : Bool} {q : ℕ} → TextByte s F e at b o q → count (o ⋈ v) ≡ 0
    more o v ho hv (tstop x y z w) = ap (λ (n : Forest). count (n ⋈ v)) z ∙ hv
    more o v ho hv (tstep x y z w) = ap (λ (n : Forest). count (n ⋈ v)) z ∙ hv

    by : Turn (tbody s F e) f at c p
        → ((q : ℕ) (v : Forest) → repeat (tbody s F e) f q ≡ got true v p → count v ≡ 0)
        → count c ≡ 0
    by (last k) ih = one (text_byte s F e at k)
    by (goon o q v k lt r w) ih = let t = text_byte s F e at k in ap count w ∙ more o v (one t) (ih q v r) t

run_bare : (s : List ℕ) (F e d f at : ℕ) {a : Bool} {u : Forest} {p : ℕ}
    → repeat (cbody s F e d) f at ≡ got a u p
    → Bare text_label u
unfolding repeat Bare ◌⋈◌ count text_label
run_bare s F e d zero at h = trouble_got h
run_bare s F e d (suc f) at {a} {u} {p} h = by (turn (cbody s F e d) f at h).1 (λ q v r. run_bare s F e d f q r)
  where
    bare_is : {o v : Forest} → o ≡ v → Bare text_label v → Bare text_label o
    bare_is e x = subst (Bare text_label) (sym e) x

    stops : Child s F e d at false u p → Bare text_label u
    stops (ends a b c g z) = bare_is b tt
    stops (a_text a b c g i) = false_true refl a
    stops (other a b n r i j l m) = false_true refl a

    goes_on : (o : Forest) (q : ℕ) (v : Forest)
        → u ≡ o ⋈ v
        → Bare text_label v
        → Child s F e d at true o q
        → Bare text_label u
    goes_on o q v w bv (ends a b c g z) = false_true a refl
    goes_on o q v w bv (a_text a b c g i) =
        bare_is (w ∙ ap (λ (n : Forest). n ⋈ v) g) ((λ _. bytes_only s F e F (at + 1) i), bv)
    goes_on o q v w bv (other a b n r i j l m) =
        bare_is (w ∙ ap (λ (n : Forest). n ⋈ v) n.2) ((λ k. false_true n.3 k), bv)

    by : Turn (cbody s F e d) f at u p
        → ((q : ℕ) (v : Forest) → repeat (cbody s F e d) f q ≡ got true v p → Bare text_label v)
        → Bare text_label u
    by (last k) ih = stops (child_of s F e d at k)
    by (goon o q v k lt r w) ih = goes_on o q v w (ih q v r) (child_of s F e d at k)

-- The outermost texts of a run's reading have no nodes inside them.
pub reads_bare : (d : ℕ) (s : List ℕ) (u : Forest) → Reads (run d) s u → Bare text_label u
unfolding children parse
reads_bare d s u h = let X = run_of d s u h in run_bare s (suc (length s)) 0 d (suc (length s)) 0 X.1

-- Within document 01's length every record number is below that of the missing parent.
pub few_rows : (l : Limits) → l.bytes ≤ 1_048_576 → (y : List ℕ) {v : Forest} → ReadAs l run y v → count v ≤ missing
unfolding Reads
few_rows l small y b =
    let n = run_few l.depth y b.reads.1 in
    let s = b.short in
    omega arith

module _ (l : Limits) (small : l.bytes ≤ 1_048_576) (x y : List ℕ) (px : Plain x) {u v : Forest}
    (ax : ReadAs l run x u) (ay : ReadAs l run y v) (together : length (x ++ y) ≤ l.bytes) where
  few : 0 + count v ≤ missing
  few = omega (arith, few_rows l small y ay)

  -- No text meets a text: the first's rows, then the second's, places moved by the first's length, record numbers by
  -- the first's count; a missing parent stays missing.
  pub rows_apart : meets text_label u v ≡ false
      → rows_of (joined_readings u v) ≡ rows_of u ++ moved (length x) (count u) 0 missing missing (rows_of v)
  rows_apart m =
      records_apart text_label u v 0 0 missing 0 m (beyond 0 (count v) few)
      ∙ ap (λ (n : ℕ). rows_of u ++ moved n (count u) 0 missing missing (rows_of v)) (run_width l x px ax)

  -- A text meets a text: the first's last row ends where the second's first row ends, moved along; then the second's
  -- other rows, places moved by the first's length, record numbers by one less than the first's count.
  pub rows_met : meets text_label u v ≡ true
      → rows_of (joined_readings u v) ≡ last_ends (length x + first_end (rows_of v)) (rows_of u) ++ moved (length x)
      (count u - 1) 0 missing missing (drop row_words (rows_of v))
  unfolding text_label
  rows_met m =
      records_met text_label (λ d. refl) u v 0 0 missing 0 m (reads_bare l.depth x u ax.reads)
      (reads_bare l.depth y v ay.reads) (beyond 0 (count v) few)
      ∙ ap
      (λ (n : ℕ). last_ends (n + first_end (rows_of v)) (rows_of u) ++ moved n (count u - 1) 0 missing missing
      (drop row_words (rows_of v)))
      (run_width l x px ax)

-- Contents can be replaced: of readings, and of their rows.
use mathlib.Core.Path.{◌≡◌, refl, sym, ap, subst, ◌∙◌}
use mathlib.Core.Bool.{Bool, true, false}
use mathlib.Core.Logic.{◌⊎◌, inl, inr}
use mathlib.Core.List.{List, ◌++◌}
use Prim.Native.Nat.{ℕ, suc, ◌+◌, ◌-◌, ◌*◌, ◌≤◌, ◌<◌}
use Prim.Native.Char.{code}
use native.Mathlib.Omega.{arith}
use native.Mathlib.Nat.{zero-add}
use lib.ListN.{length, take, drop, get_or, length-drop}
use lib.Seq.{length-take-le}
use lib.Dec.{ltb}
use borrow.Author.Tests.{eqb-true, ltb-true, ltb-false}
use Rattle.rules.specs.Forest.{node, content, Forest, nil, group, ◌⋈◌, width}
use Rattle.rules.specs.Rule.{Rule}
use Rattle.rules.specs.Parse.{got, pick, byte_at, parse, parse_all, parsed}
use Rattle.rules.specs.Record.{row_words, count, records}
use Rattle.rules.specs.Replaced.{content_depth}
use Rattle.rules.proofs.Run.{wide_got}
use Rattle.rules.proofs.Ends.{top_got}
use Rattle.rules.proofs.Agree.{Plain, byte_end}
use Rattle.rules.proofs.Spots.{Spot, fill, bytes_before, fits}
use Rattle.rules.proofs.Flow.{Mode, near, pend}
use Rattle.rules.proofs.Found.{Content, found}
use Rattle.rules.proofs.Deeper.{deepen, records_deepen}
use Rattle.rules.proofs.Formed.{Formed, formed}
use Rattle.rules.proofs.Rows.{each_row}
use Rattle.rules.proofs.Moved.{moved, beyond}
use Rattle.rules.proofs.Edited.{change_of, widened, pushed, records_before, holder, holders, Edited, edited}
use Rattle.rules.proofs.Edited.{edited_moved}
use Rattle.rules.proofs.Held.{inside_of, place_of, ContentOf, content_of_lem}
use Rattle.rules.proofs.Numbered.{label_of, parent_of, RowOf, row_of, formed_at, NodeIs, first_child_lem, child_behind}
use Rattle.rules.proofs.Numbered.{child_parent, parent_known, parent_inside}
use Rattle.jsx.specs.Kind as Kind
use Rattle.jsx.specs.Byte.{is, end}
use Rattle.jsx.specs.Blank.{pass}
use Rattle.jsx.specs.Element.{children}
use Rattle.jsx.specs.Compose.{rows_of, with_depth, WellFormed, Reads, ReadAs, bytes_between, replaced_bytes}
use Rattle.jsx.specs.Compose.{paired_row, Closed, content_first, content_deeper}
use Rattle.jsx.specs.Reading.{Limits, stage, run}
use Rattle.jsx.specs.Table.{missing, table_word}
use Rattle.jsx.proofs.Paired.{HasContent, paired_label, well_paired}
use Rattle.jsx.proofs.Shape.{content_of, closer, L, stage_flow, run_flow}
use Rattle.jsx.proofs.Child.{end_or_angle, stops_at, stops_before}
use Rattle.jsx.proofs.Cut.{Cut, at_end, behind_ascii, before_ascii, cut_middle, good_replace}
use Rattle.jsx.proofs.Back.{content_run}
use Rattle.jsx.proofs.ReplaceRead.{replace_reads}
use Rattle.jsx.proofs.Deep.{run_reads_deeper}
use Rattle.jsx.proofs.Fits.{run_few, stage_few}
use Rattle.jsx.proofs.Join.{few_rows}

-- ---- where a content may be cut out

closer_ascii : (b : ℕ) → closer b ≡ true → b < 128
unfolding closer
closer_ascii b h = by (is ">" b) refl (is "}" b) refl h
  where
    by : (x : Bool) → is ">" b ≡ x → (y : Bool) → is "}" b ≡ y → pick x true y ≡ true → b < 128
    by true e y f k = let q = eqb-true b (code ">") e in omega arith
    by false e true f k = let q = eqb-true b (code "}") f in omega arith
    by false e false f k = let z : ◌≡◌ {A = ℕ} 0 1 = cc in absurd (omega arith)

end_or_angle_lem : (s : List ℕ) → Plain s → (q : ℕ) → q ≤ length s → end_or_angle (byte_at s q) ≡ true → Cut s q
end_or_angle_lem s ps q le h = by (end (byte_at s q)) refl (is "<" (byte_at s q)) refl h
  where
    by : (x : Bool) → end (byte_at s q) ≡ x → (y : Bool) → is "<" (byte_at s q) ≡ y → pick x true y ≡ true → Cut s q
    by true e y f k = let b = byte_end s ps q (eqb-true _ _ e) in at_end (omega arith)
    by false e true f k = let b : byte_at s q ≡ 60 = eqb-true _ _ f in before_ascii (omega arith)
    by false e false f k = let z : ◌≡◌ {A = ℕ} 0 1 = cc in absurd (omega arith)

module _ (t : Rule) {g k : Mode} (flow : L near t g k) (s : List ℕ) (ps : Plain s) {u : Forest} (rs : Reads t s u)
    {d : ℕ} {c₀ : Forest} (ω : Spot d c₀ u) where
  there : Content content_of closer well_paired s (suc (length s)) d c₀ (0 + bytes_before ω)
  unfolding Reads parse_all
  there = (found content_of closer well_paired s (suc (length s)) d c₀ flow 0 0 true u rs.0 rs.1 tt ω).1

  -- A content ends within the input.
  pub content_inside : bytes_before ω + width c₀ ≤ length s
  unfolding Reads parse_all
  content_inside =
      omega (
        arith,
        fits ω,
        wide_got s (suc (length s)) t 0 0 rs.1,
        top_got s (suc (length s)) t 0 0 (omega arith)
            rs.1,
      )

  -- Behind the byte that closes the tag,
  cut_start : Cut s (bytes_before ω)
  cut_start = let c = there.closed in behind_ascii c.0 (omega (arith, c.1)) (closer_ascii (byte_at s c.0) c.2)

  -- The content is what its children's rule reads there,
  was_read : parsed s (content_of d) there.at_mark (bytes_before ω) ≡ got true c₀ (bytes_before ω + width c₀)
  was_read =
      subst (λ (n : ℕ). parsed s (content_of d) there.at_mark n ≡ got true c₀ (n + width c₀)) zeros there.was
    where
      zeros : 0 + bytes_before ω ≡ bytes_before ω
      zeros = omega arith

  -- and it ends before the `<` of the closing tag.
  cut_end : Cut s (bytes_before ω + width c₀)
  unfolding children parse
  cut_end =
      end_or_angle_lem s ps (bytes_before ω + width c₀) content_inside
      (stops_before s (suc (length s)) there.at_mark d (bytes_before ω + width c₀)
      (stops_at s (suc (length s)) there.at_mark d (suc (length s)) (bytes_before ω) was_read))

  -- By itself the content is a run.
  content_good : WellFormed s → WellFormed (bytes_between s (bytes_before ω) (bytes_before ω + width c₀))
  content_good k = subst (λ (n : ℕ). WellFormed (take n (drop (bytes_before ω) s))) size
      (cut_middle s ps k (bytes_before ω) (width c₀) content_inside cut_start cut_end)
    where
      size : width c₀ ≡ bytes_before ω + width c₀ - bytes_before ω
      size = omega arith

  content_reads : Reads (run d) (bytes_between s (bytes_before ω) (bytes_before ω + width c₀)) c₀
  content_reads =
      let n = content_inside in
      content_run s d there.at_mark (bytes_before ω) (bytes_before ω + width c₀) (omega arith) was_read

  content_size : length (bytes_between s (bytes_before ω) (bytes_before ω + width c₀)) ≤ length s
  content_size =
      let n = content_inside in
      let m = length-drop (bytes_before ω) s in
      let k = length-take-le (bytes_before ω + width c₀ - bytes_before ω) (drop (bytes_before ω) s) (omega arith) in
      omega arith

-- ---- of readings

-- The input with other bytes in the place of a content.
abbrev pub refilled : {d : ℕ} {c₀ u : Forest} → (s : List ℕ) → Spot d c₀ u → (y : List ℕ) → List ℕ
refilled {c₀ = c₀} s ω y = replaced_bytes s (bytes_before ω) (bytes_before ω + width c₀) y

-- The input stays accepted, and its reading is the old one with the run's reading in the place of the content. The
-- reading is a stage's or a run's, as its flow shows.
module _ (reading : ℕ → Rule) {out : ℕ → Mode} (flow : (n : ℕ) → L near (reading n) (out n) near) where
  -- The content is read by itself as it is read there, with the depth that is left there.
  pub content_read : (l : Limits) (s : List ℕ)
      → Plain s
      → {u : Forest}
      → ReadAs l reading s u
      → {d : ℕ} {c₀ : Forest} (ω : Spot d c₀ u)
      → ReadAs (with_depth l d) run (bytes_between s (bytes_before ω) (bytes_before ω + width c₀)) c₀
  content_read l s ps a ω =
      let t = reading l.depth in
      let f = flow l.depth in
      let n = content_size t f s ps a.reads ω in
      let k = a.short in
      record {
        short = omega arith;
        well_formed = content_good t f s ps a.reads ω a.well_formed;
        reads = content_reads t f s ps a.reads ω;
      }

  replaces : (l : Limits) (s y : List ℕ)
      → Plain s
      → Plain y
      → {u v : Forest}
      → ReadAs l reading s u
      → {d : ℕ} {c₀ : Forest} (ω : Spot d c₀ u)
      → ReadAs (with_depth l d) run y v
      → length (refilled s ω y) ≤ l.bytes → ReadAs l reading (refilled s ω y) (fill ω v)
  replaces l s y ps py {u} {v} a {d} {c₀} ω b h =
      let t = reading l.depth in
      let f = flow l.depth in
      let inside = content_inside t f s ps a.reads ω in
      record {
        short = h;
        well_formed =
            good_replace s ps a.well_formed (bytes_before ω) (bytes_before ω + width c₀) (omega arith) inside
            (cut_start t f s ps a.reads ω) (cut_end t f s ps a.reads ω) y py b.well_formed;
        reads = replace_reads t f s y py u v a.reads d c₀ ω b.reads;
      }

-- A stage stays accepted with another run for a content, and is read with the run's reading there;
pub stage_replace : (l : Limits) (s y : List ℕ)
    → Plain s
    → Plain y
    → {u v : Forest}
    → ReadAs l stage s u
    → {d : ℕ} {c₀ : Forest} (ω : Spot d c₀ u)
    → ReadAs (with_depth l d) run y v
    → length (refilled s ω y) ≤ l.bytes → ReadAs l stage (refilled s ω y) (fill ω v)
stage_replace = replaces stage (λ n. stage_flow n)

-- and so does a run.
pub run_replace : (l : Limits) (s y : List ℕ)
    → Plain s
    → Plain y
    → {u v : Forest}
    → ReadAs l run s u
    → {d : ℕ} {c₀ : Forest} (ω : Spot d c₀ u)
    → ReadAs (with_depth l d) run y v
    → length (refilled s ω y) ≤ l.bytes → ReadAs l run (refilled s ω y) (fill ω v)
run_replace = replaces run (λ n. run_flow n)

-- ---- by record number, and of tables

-- The content that the record j has: where it stands, and what replacing it does to the rows.
pub record ContentOfRecord (u : Forest) (j : ℕ) : Type 0 where
  -- the levels left inside it, and what stands there
  pub depth : ℕ
  pub inner : Forest
  pub spot : Spot depth inner u
  -- it begins where the opening tag ends, which is the next record,
  pub begins : bytes_before spot ≡ table_word (rows_of u) (j + 1) 2
  -- and ends where the closing tag begins, which is the first record behind its own;
  pub ends : bytes_before spot + width inner ≡ table_word (rows_of u) (records_before spot + count inner) 1
  -- its first record is the first past those of the opening tag,
  pub since : records_before spot ≡ content_first (rows_of u) j
  -- its outermost records have the record j for parent
  pub parent : holder 0 missing spot ≡ j
  -- and stand one deeper than it;
  pub deeper : holders 0 spot ≡ content_deeper (rows_of u) j
  -- the levels are those that the record's forest has;
  pub levels : content_depth (inside_of 0 j u) ≡ depth
  -- the record behind it, and no other, is the closing tag.
  pub closed : Closed (rows_of u) (count u) j (records_before spot + count inner)
  pub one : (c : ℕ) → Closed (rows_of u) (count u) j c → c ≡ records_before spot + count inner
  -- the rows in front of it and behind it, and what becomes of them
  pub rows : Edited spot 0 0 missing 0

module _ (u : Forest) (small : count u ≤ missing) (formed-u : Formed well_paired u) (j : ℕ) (known : j < count u)
    (pr : paired_row (rows_of u) j ≡ true) where
  in_range : j < 0 + count u
  in_range = omega arith

  row_j : RowOf u 0 0 missing 0 j j
  row_j = row_of u 0 0 missing 0 j j (omega arith) known

  paired_j : paired_label (label_of 0 j u) ≡ true
  unfolding table_word
  paired_j = ap paired_label (row_j.label ∙ (λ i. node (sym kind_is i) (sym extra_is i))) ∙ pr
    where
      kind_is : get_or (rows_of u) (row_words * j + 0) 0 ≡ row_j.kind
      kind_is = ap (λ (n : ℕ). get_or (rows_of u) n 0) (omega arith) ∙ row_j.kind_word

      extra_is : get_or (rows_of u) (row_words * j + 5) 0 ≡ row_j.extra
      extra_is = row_j.extra_word

  -- An opening tag, a content and a closing tag.
  has : HasContent (inside_of 0 j u)
  has = formed_at well_paired u 0 j formed-u (omega arith) in_range paired_j

  tag : Forest
  tag = has.0

  close : Forest
  close = has.3

  abbrev opening : Forest
  opening = group (node Kind.opening_tag 0) tag nil

  abbrev closing : Forest
  closing = group (node Kind.closing_tag 0) close nil

  abbrev between : Forest
  between = group (node Kind.opening_tag 0) tag (group (content has.1) has.2 nil)

  held_j : ContentOf has.1 has.2 u 0 missing j opening closing
  held_j = content_of_lem has.1 has.2 u 0 missing j opening closing (omega arith) (unfold ◌⋈◌ tag close in has.4)

  first_row : NodeIs u 0 0 (j + 1) (node Kind.opening_tag 0) tag (place_of 0 0 j u)
  first_row =
      first_child_lem u 0 0 j Kind.opening_tag 0 tag (group (content has.1) has.2 closing) (omega arith) in_range
      (unfold tag close in has.4)

  last_row : NodeIs u 0 0 (j + 1 + count between) (node Kind.closing_tag 0) close (place_of 0 0 j u + width between)
  last_row =
      child_behind u 0 0 j between Kind.closing_tag 0 close nil (omega arith) in_range (unfold ◌⋈◌ tag close in has.4)

  row_at : (n : ℕ) → n < 0 + count u → RowOf u 0 0 missing 0 n n
  row_at n h = row_of u 0 0 missing 0 n n (omega arith) (omega arith)

  opening_end : table_word (rows_of u) (j + 1) 2 ≡ place_of 0 0 j u + width tag
  unfolding table_word
  opening_end = (row_at (j + 1) first_row.known).end_word ∙ (λ i. first_row.place i + width (first_row.inner i))

  closing_start : table_word (rows_of u) (j + 1 + count between) 1 ≡ place_of 0 0 j u + width between
  unfolding table_word
  closing_start = (row_at (j + 1 + count between) last_row.known).start_word ∙ last_row.place

  ends_at : bytes_before held_j.spot + width has.2 ≡ table_word (rows_of u) (j + 1 + count between) 1
  unfolding width
  ends_at = omega (arith, held_j.begins 0, closing_start)

  number_is : j + 1 + count between ≡ records_before held_j.spot + count has.2
  unfolding count
  number_is = omega (arith, held_j.since)

  abbrev close_number : ℕ
  close_number = j + 1 + count between

  close_row : RowOf u 0 0 missing 0 close_number close_number
  close_row = row_at close_number last_row.known

  -- All records of the record j: those of the opening tag, of the content and of the closing tag.
  counts : count (inside_of 0 j u) ≡ count between + 1 + count close
  unfolding count tag close
  counts = omega (arith, ap count has.4)

  after_j : table_word (rows_of u) j 4 ≡ close_number + (1 + count close)
  unfolding table_word
  after_j = row_j.after_word ∙ omega (arith, counts)

  close_parent : parent_of 0 missing close_number u ≡ j
  close_parent =
      child_parent u 0 missing j between Kind.closing_tag 0 close nil (omega arith) in_range
      (unfold ◌⋈◌ tag close in has.4)

  close_inside : count (inside_of 0 close_number u) ≡ count close
  close_inside = ap count last_row.inner

  is_closed : Closed (rows_of u) (count u) j close_number
  unfolding table_word
  is_closed = record {
    known = known;
    is_paired = pr;
    close_known = let n = last_row.known in omega arith;
    closing = ap (λ (n : ℕ). get_or (rows_of u) n 0) (omega arith) ∙ close_row.kind_word ∙ kind_is;
    parent = close_row.parent_word ∙ close_parent;
    last = close_row.after_word ∙ omega (arith, close_inside) ∙ sym after_j;
  }
    where
      kind_is : close_row.kind ≡ Kind.closing_tag
      kind_is = cc (close_row.label, last_row.label)

  -- Of two records in j that end with it, one would stand in the other; but then it would not have j for parent.
  one_closed : (c : ℕ) → Closed (rows_of u) (count u) j c → c ≡ close_number
  unfolding table_word
  one_closed c h = go (ltb c close_number) refl (ltb close_number c) refl
    where
      row_c : RowOf u 0 0 missing 0 c c
      row_c = row_of u 0 0 missing 0 c c (omega arith) h.close_known

      parent_c : parent_of 0 missing c u ≡ j
      parent_c = sym row_c.parent_word ∙ h.parent

      ends_c : c + (1 + count (inside_of 0 c u)) ≡ close_number + (1 + count close)
      ends_c = sym row_c.after_word ∙ h.last ∙ after_j

      go : (b : Bool) → ltb c close_number ≡ b → (b' : Bool) → ltb close_number c ≡ b' → c ≡ close_number
      go true e b' e' =
          let l : c < close_number = ltb-true _ _ e in
          let k = h.close_known in
          let n = last_row.known in
          let q = parent_inside u 0 missing c close_number (omega arith) (omega arith) (omega arith)
          (omega (arith, ends_c)) in
          absurd (before (parent_known u 0 missing c (omega arith) (omega arith)) (omega (arith, close_parent)))
        where
          before : (parent_of 0 missing c u ≡ missing) ⊎ ((0 ≤ parent_of 0 missing c u) × (parent_of 0 missing c u < c))
              → c ≤ j
              → ⊥
          before (inl z) k = omega (arith, parent_c)
          before (inr z) k = omega (arith, parent_c)
      go false e true e' =
          let l : close_number < c = ltb-true _ _ e' in
          let k = h.close_known in
          let n = last_row.known in
          let q = parent_inside u 0 missing close_number c (omega arith) (omega arith) (omega arith)
          (omega (arith, ends_c, close_inside)) in
          absurd (omega (arith, parent_c))
      go false e false e' =
          let l : close_number ≤ c = ltb-false _ _ e in
          let l' : c ≤ close_number = ltb-false _ _ e' in
          omega arith

  -- The content of a paired record.
  pub content_of_record : ContentOfRecord u j
  unfolding width count table_word content_depth tag close
  content_of_record = record {
    depth = has.1;
    inner = has.2;
    spot = held_j.spot;
    begins = omega (arith, held_j.begins 0, opening_end);
    ends = ends_at ∙ ap (λ (n : ℕ). table_word (rows_of u) n 1) number_is;
    since = omega (arith, held_j.since, ap count first_row.inner)
        ∙ sym (row_at (j + 1) first_row.known).after_word;
    parent = held_j.parent;
    deeper = held_j.deeper 0 ∙ ap (λ (n : ℕ). n + 1) (sym row_j.depth_word);
    levels = ap content_depth has.4;
    closed = subst (Closed (rows_of u) (count u) j) number_is is_closed;
    one = λ c h. one_closed c h ∙ number_is;
    rows = edited held_j.spot (held_j.follows (omega arith)) 0 0 missing 0 (beyond 0 (count u) (omega arith));
  }

-- What the two readings have in common: how far they look, and that their records are few.
pub record Readable (reading : ℕ → Rule) : Type 0 where
  pub out : ℕ → Mode
  pub flow : (n : ℕ) → L near (reading n) (out n) near
  pub few : (n : ℕ) (s : List ℕ) (a : Bool) (u : Forest) (p : ℕ)
      → parse_all (reading n) s ≡ got a u p
      → count u ≤ length s

-- Stages have it,
pub stage_readable : Readable stage
stage_readable = record { out = λ n. near; flow = λ n. stage_flow n; few = λ n s a u p h. stage_few n s h }

-- and so have runs.
pub run_readable : Readable run
run_readable = record { out = λ n. pend pass; flow = λ n. run_flow n; few = λ n s a u p h. run_few n s h }

-- Limits of length up to document 01's: every record number is below that of the missing parent.
module _ (reading : ℕ → Rule) (rd : Readable reading) (l : Limits) (small : l.bytes ≤ 1_048_576) (s : List ℕ)
    (ps : Plain s) {u : Forest} (a : ReadAs l reading s u) (j : ℕ) (known : j < count u)
    (pr : paired_row (rows_of u) j ≡ true) where
  -- The content of the record j is what is meant.
  pub meant : ContentOfRecord u j
  unfolding Reads parse_all
  meant =
      let n = rd.few l.depth s true u a.reads.0 a.reads.1 in
      let h = a.short in
      content_of_record u (omega arith)
      (formed well_paired content_of closer s (suc (length s)) (rd.flow l.depth) 0 0 true u a.reads.0
      a.reads.1)
      j known pr

  -- Its rows: those in front of the content, the content's, and those behind it.
  pub rows_were : rows_of u ≡ meant.rows.ahead ++
      (records (bytes_before meant.spot) (records_before meant.spot) j (content_deeper (rows_of u) j) meant.inner
      ++ meant.rows.rest)
  rows_were = meant.rows.was ∙ (λ i. meant.rows.ahead
      ++
      (records (zero-add (bytes_before meant.spot) i) (zero-add (records_before meant.spot) i)
      (meant.parent i) (meant.deeper i) meant.inner ++ meant.rows.rest))

  -- After it was replaced by the run y, which is read as v.
  pub record Replaced (y : List ℕ) (v : Forest) : Type 0 where
    -- the input stays accepted, and is read with the run's reading inside;
    pub stays : ReadAs l reading (refilled s meant.spot y) (fill meant.spot v)
    -- in front, rows stay, but that the records around the content have their `end` and `after` moved; then the run's
    -- rows moved along, with the record j for parent and so much deeper; behind, all places and numbers of records
    -- behind the content are moved.
    pub now : rows_of (fill meant.spot v) ≡ each_row
        (widened (records_before meant.spot) (change_of meant.inner v)) meant.rows.ahead
        ++ (moved (bytes_before meant.spot) (records_before meant.spot) (content_deeper (rows_of u) j) missing j
        (rows_of v)
        ++ each_row (pushed (records_before meant.spot) missing (change_of meant.inner v)) meant.rows.rest)

  -- DEMAND 3: any accepted run that keeps the length limit, and the depth limit by the depth that is left there.
  pub replace_record : (y : List ℕ)
      → Plain y
      → {v : Forest}
      → ReadAs (with_depth l meant.depth) run y v
      → length (refilled s meant.spot y) ≤ l.bytes
      → Replaced y v
  replace_record y py {v} b h = record {
    stays = replaces reading rd.flow l s y ps py a meant.spot b h;
    now =
        edited_moved meant.spot 0 0 missing 0 missing meant.rows v
        (few_rows (with_depth l meant.depth) small y b)
        ∙ (λ i. each_row (widened (zero-add (records_before meant.spot) i) (change_of meant.inner v))
        meant.rows.ahead
        ++
        (moved (zero-add (bytes_before meant.spot) i) (zero-add (records_before meant.spot) i)
        (meant.deeper i) missing (meant.parent i) (rows_of v)
        ++ each_row (pushed (zero-add (records_before meant.spot) i) missing (change_of meant.inner v))
        meant.rows.rest));
  }

-- ---- depth

-- A run accepted with less depth left is accepted with more, with the same rows; only the depths that its reading
-- notes at contents grow.
pub run_deeper_accepted : (l : Limits) (k d : ℕ) (y : List ℕ) {v : Forest}
    → ReadAs (with_depth l d) run y v
    → ReadAs (with_depth l (k + d)) run y (deepen k v)
unfolding Reads
run_deeper_accepted l k d y b =
    record
    { short = b.short; well_formed = b.well_formed; reads = (b.reads.0, run_reads_deeper k d y b.reads.1) }

-- The depths that a reading notes at contents may grow: its rows stay the same.
pub rows_deeper : (k : ℕ) (v : Forest) → rows_of (deepen k v) ≡ rows_of v
rows_deeper k v = records_deepen k v 0 0 missing 0

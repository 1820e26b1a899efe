-- Demand 3: specs/Demand3.antt proved, statement by statement, and an instance of each, computed.
use mathlib.Core.Path.{◌≡◌, refl, sym, ap, subst, subst₂, subst₃, ◌∙◌}
use mathlib.Core.Bool.{Bool, true}
use mathlib.Core.List.{List, [], ◌++◌, append_assoc}
use Prim.Native.Nat.{ℕ, ◌+◌, ◌-◌, ◌*◌, ◌≤◌, ◌<◌}
use native.Mathlib.Omega.{arith}
use lib.ListN.{length, take, drop, get_or, length-append}
use lib.Seq.{take_at, drop_at}
use lib.Dec.{eqb}
use borrow.Author.Tests.{eq-eqb, ne_eqb}
use Rattle.rules.specs.Forest.{Forest, width}
use Rattle.rules.specs.Rule.{Rule}
use Rattle.rules.specs.Parse.{Answer, pick, Plain}
use Rattle.rules.specs.Record.{row_words, count, records}
use Rattle.rules.specs.Moved.{each_row, moved}
use Rattle.rules.specs.Replaced.{inside_of, content_depth, widened, pushed}
use Rattle.rules.proofs.Forests.{length_records}
use Rattle.rules.proofs.Spots.{fill, bytes_before, count_fill}
use Rattle.rules.proofs.Moved.{records_from_zero}
use Rattle.rules.proofs.Joined.{meets, last_ends, first_end, count_apart, count_met}
use Rattle.rules.proofs.Deeper.{deepen, count_deepen}
use Rattle.rules.proofs.Edited.{change_of, records_before}
use Rattle.rules.proofs.Held.{depth_of}
use Rattle.rules.proofs.Numbered.{parent_of, Under, outermost, inner, depth_known, RowOf, row_of}
use Rattle.jsx.specs.Reading.{Limits, stage, run}
use Rattle.jsx.specs.Table.{missing, table_word}
use Rattle.jsx.specs.Compose.{Accepted, count_of, rows_read, with_depth, ReadAs, rows_of, forest_of, text_label}
use Rattle.jsx.specs.Compose.{joined_readings, texts_meet, bytes_between, replaced_bytes, Closed, content_start}
use Rattle.jsx.specs.Compose.{content_first, content_end, content_rows, depth_left, content_change, replaced_rows}
use Rattle.jsx.specs.Compose.{content_deeper, paired_row, depth_by_parent, Reads}
use Rattle.jsx.specs.Demand3.{LimitsSet, TooLongMoves}
use Rattle.jsx.specs.Demand3.{BytesStay, AcceptedIsRead, ReadToTheEnd, EveryTable, NumbersTo18, RunsJoin}
use Rattle.jsx.specs.Demand3.{DepthsCountAncestors}
use Rattle.jsx.specs.Demand3.{EmptyRun, RowsFollow, TextsBecomeOne, Stands, OneClosingTag, ContentIsRun}
use Rattle.jsx.specs.Demand3.{ContentsAreRuns, Replaces, RowsReplaced, RunsDeepen}
use Rattle.jsx.proofs.Calls.{too_long_lem}
use Rattle.jsx.proofs.Lasting.{limits_within}
use Rattle.jsx.proofs.Cut.{plain_join, plain_replace}
use Rattle.jsx.proofs.Accepted.{Proper, run_proper, stage_proper, answer_whole, accepted_answer, check_zero}
use Rattle.jsx.proofs.Accepted.{read_accepted, every_table}
use Rattle.jsx.proofs.Meets.{run_nodes, texts_meet_lem}
use Rattle.jsx.proofs.Numbers.{Numbering, run_numbers, stage_numbers, refusal_number, check_number_lem, read_number_lem}
use Rattle.jsx.proofs.Join.{runs_join, empty_run, run_width, few_rows, rows_apart, rows_met}
use Rattle.jsx.proofs.Replace.{Readable, stage_readable, run_readable, ContentOfRecord, content_inside}
use Rattle.jsx.proofs.Replace.{content_read, meant, rows_were, Replaced, replace_record, run_deeper_accepted}
use Rattle.jsx.proofs.Replace.{rows_deeper}

-- ---- inputs

-- Bytes stay bytes.
pub bytes_stay : BytesStay
bytes_stay x y px py = (plain_join x y px py, λ a z. plain_replace x px a z y py)

-- ---- limits

-- The limits that hold behind a store keep the condition.
pub limits_set : LimitsSet
limits_set store = (limits_within store).bytes

-- A stage that is too long is refused by 1,
pub stage_too_long : TooLongMoves stage
stage_too_long l s h = too_long_lem l stage s h

-- and so is a run.
pub run_too_long : TooLongMoves run
run_too_long l s h = too_long_lem l run s h

-- ---- accepted

accepted_is_read : {reading : ℕ → Rule} → Proper reading → AcceptedIsRead reading
accepted_is_read {reading} pr = record {
  accepted_read = λ l s h. check_zero l reading s pr h;
  read_accepted = λ l s u x. read_accepted l reading s x;
}

-- A stage is accepted just where it is read;
pub stage_accepted : AcceptedIsRead stage
stage_accepted = accepted_is_read stage_proper

-- and so is a run.
pub run_accepted : AcceptedIsRead run
run_accepted = accepted_is_read run_proper

-- A stage is read to the end,
pub stage_to_the_end : ReadToTheEnd stage
stage_to_the_end l s ps a u p e = answer_whole l stage s stage_proper ps e

-- and so is a run.
pub run_to_the_end : ReadToTheEnd run
run_to_the_end l s ps a u p e = answer_whole l run s run_proper ps e

-- A read of a stage writes its rows into every table with room,
pub stage_every_table : EveryTable stage
stage_every_table l s t h room = every_table l stage s stage_proper t h room

-- and so does one of a run.
pub run_every_table : EveryTable run
run_every_table l s t h room = every_table l run s run_proper t h room

numbers : {reading : ℕ → Rule} → Numbering reading → NumbersTo18 reading
numbers r = record {
  refusals = λ l s n a b c d e. refusal_number r l s e;
  check_number = λ l s. check_number_lem r l s;
  read_number = λ l s t. read_number_lem r l s t;
}

-- The refusals of a stage have numbers of the two documents,
pub stage_numbers_to_18 : NumbersTo18 stage
stage_numbers_to_18 = numbers stage_numbers

-- and so have those of a run.
pub run_numbers_to_18 : NumbersTo18 run
run_numbers_to_18 = numbers run_numbers

-- A row of a reading has the depth that its parent gives it.
row_depth : (u : Forest) → count u ≤ missing → (j : ℕ) → j < count u
    → table_word (rows_of u) j 6 ≡ depth_by_parent (rows_of u) j
unfolding table_word depth_by_parent
row_depth u small j h = by (depth_known u 0 missing 0 j (omega arith) (omega arith)) (row j h) (row _)
  where
    row : (m : ℕ) → m < count u → RowOf u 0 0 missing 0 m m
    row m k = row_of u 0 0 missing 0 m m (omega arith) k

    by : Under 0 missing 0 j (parent_of 0 missing j u) (depth_of 0 0 j u) u
        → RowOf u 0 0 missing 0 j j
        → (parent_of 0 missing j u < count u
        → RowOf u 0 0 missing 0 (parent_of 0 missing j u) (parent_of 0 missing j u))
        → get_or (rows_of u) (row_words * j + 6) 0
        ≡ pick (eqb (get_or (rows_of u) (row_words * j + 3) 0) missing) 0
        (get_or (rows_of u) (row_words * get_or (rows_of u) (row_words * j + 3) 0 + 6) 0 + 1)
    by (outermost f g) r p = rw (eq-eqb _ missing (r.parent_word ∙ f)) (r.depth_word ∙ g)
    by (inner a b g) r p =
        rw (
          ne_eqb (get_or (rows_of u) (row_words * j + 3) 0) missing
              (λ z. omega (arith, r.parent_word)),
          r.parent_word,
        )
        (r.depth_word ∙ g ∙ ap (λ (n : ℕ). n + 1) (sym (p (omega arith)).depth_word))

depths_count_ancestors : {reading : ℕ → Rule} → Readable reading → Proper reading → DepthsCountAncestors reading
unfolding Reads
depths_count_ancestors {reading} rd pr l small s h j k =
    let x = check_zero l reading s pr h in
    let e = read_accepted l reading s x.1 in
    let few = rd.few l.depth s true x.0 x.1.reads.0 x.1.reads.1 in
    let short = x.1.short in
    subst (λ (t : List ℕ). table_word t j 6 ≡ depth_by_parent t j) (sym e.2)
    (row_depth x.0 (omega arith) j (omega (arith, e.1)))

-- So it is in a stage,
pub stage_depths_count_ancestors : DepthsCountAncestors stage
stage_depths_count_ancestors = depths_count_ancestors stage_readable stage_proper

-- and in a run.
pub run_depths_count_ancestors : DepthsCountAncestors run
run_depths_count_ancestors = depths_count_ancestors run_readable run_proper

-- ---- runs join

-- The check accepts the joined run.
pub checks_join : RunsJoin
checks_join l x y px hx hy h =
    let ax = check_zero l run x run_proper hx in
    let ay = check_zero l run y run_proper hy in
    (read_accepted l run (x ++ y) (runs_join l x y px ax.1 ay.1 h)).0

-- The check accepts the empty run.
pub empty_run_checks : EmptyRun
unfolding count
empty_run_checks l = let k = read_accepted l run [] (empty_run l) in (k.0, k.1)

module _ (l : Limits) (small : l.bytes ≤ 1_048_576) (x y : List ℕ) (px : Plain x) (hx : Accepted l run x)
    (hy : Accepted l run y) (h : length (x ++ y) ≤ l.bytes) where
  ax : (u : Forest) × ReadAs l run x u
  ax = check_zero l run x run_proper hx

  ay : (v : Forest) × ReadAs l run y v
  ay = check_zero l run y run_proper hy

  of_x : Accepted l run x × (count_of l run x ≡ count ax.0) × (rows_read l run x ≡ rows_of ax.0)
  of_x = read_accepted l run x ax.1

  of_y : Accepted l run y × (count_of l run y ≡ count ay.0) × (rows_read l run y ≡ rows_of ay.0)
  of_y = read_accepted l run y ay.1

  of_both : Accepted l run (x ++ y) × (count_of l run (x ++ y) ≡ count (joined_readings ax.0 ay.0)) ×
      (rows_read l run (x ++ y) ≡ rows_of (joined_readings ax.0 ay.0))
  of_both = read_accepted l run (x ++ y) (runs_join l x y px ax.1 ay.1 h)

  -- Whether texts meet is said of the rows as of the readings.
  meeting : {b : Bool}
      → texts_meet (rows_read l run x) (count_of l run x) (rows_read l run y) ≡ b
      → meets text_label ax.0 ay.0 ≡ b
  meeting e =
      texts_meet_lem ax.0 ay.0 (run_nodes l.depth x ax.0 ax.1.reads)
      (run_nodes l.depth y ay.0 ay.1.reads)
      (few_rows l small x ax.1)
      ∙ (λ i. texts_meet (sym of_x.2 i) (sym of_x.1 i) (sym of_y.2 i)) ∙ e

-- No text meets a text: the second's rows follow, moved along.
pub rows_follow : RowsFollow
rows_follow l small x y px hx hy h e =
    let u = ax l small x y px hx hy h in
    let v = ay l small x y px hx hy h in
    let kx = of_x l small x y px hx hy h in
    let ky = of_y l small x y px hx hy h in
    let k = of_both l small x y px hx hy h in
    let m = meeting l small x y px hx hy h e in (
      omega (arith, kx.1, ky.1, k.1, count_apart text_label u.0 v.0 m),
      k.2 ∙ rows_apart l small x y px u.1 v.1 h m
          ∙ (λ i. sym kx.2 i ++ moved (length x) (sym kx.1 i) 0 missing missing (sym ky.2 i)),
    )

-- A text meets a text: they have one row.
pub texts_become_one : TextsBecomeOne
unfolding text_label
texts_become_one l small x y px hx hy h e =
    let u = ax l small x y px hx hy h in
    let v = ay l small x y px hx hy h in
    let kx = of_x l small x y px hx hy h in
    let ky = of_y l small x y px hx hy h in
    let k = of_both l small x y px hx hy h in
    let m = meeting l small x y px hx hy h e in (
      omega (arith, kx.1, ky.1, k.1, count_met text_label (λ d. refl) u.0 v.0 m),
      k.2 ∙ rows_met l small x y px u.1 v.1 h m
          ∙ (λ i. last_ends (length x + first_end (sym ky.2 i)) (sym kx.2 i)
          ++ moved (length x) (sym kx.1 i - 1) 0 missing missing (drop row_words (sym ky.2 i))),
    )

-- ---- contents can be replaced

-- An input and its reading u; j and c as in `Closed`.
module _ {reading : ℕ → Rule} (rd : Readable reading) (l : Limits) (small : l.bytes ≤ 1_048_576) (s : List ℕ)
    (ps : Plain s) {u : Forest} (a : ReadAs l reading s u) (j c : ℕ) (cl : Closed (rows_of u) (count u) j c) where
  abbrev t : List ℕ
  t = rows_of u

  abbrev left : ℕ
  left = depth_left l reading s j

  M : ContentOfRecord u j
  M = meant reading rd l small s ps a j cl.known cl.is_paired

  close_is : c ≡ records_before M.spot + count M.inner
  close_is = M.one c cl

  start_is : bytes_before M.spot ≡ content_start t j
  start_is = M.begins

  first_is_lem : records_before M.spot ≡ content_first t j
  first_is_lem = M.since

  end_is : bytes_before M.spot + width M.inner ≡ content_end t c
  end_is = M.ends ∙ ap (content_end t) (sym close_is)

  depth_is : M.depth ≡ left
  unfolding depth_left forest_of
  depth_is =
      sym
      (ap (λ (x : Answer). content_depth (inside_of 0 j (forest_of x))) (accepted_answer l reading s a).1 ∙ M.levels)

  as_run : ReadAs (with_depth l left) run (bytes_between s (content_start t j) (content_end t c)) M.inner
  as_run = subst₃ (λ (d p q : ℕ). ReadAs (with_depth l d) run (bytes_between s p q) M.inner) depth_is start_is end_is
      (content_read reading rd.flow l s ps a M.spot)

  -- The three parts of the table.
  abbrev middle : List ℕ
  middle = records (bytes_before M.spot) (records_before M.spot) j (content_deeper t j) M.inner

  were : t ≡ M.rows.ahead ++ (middle ++ M.rows.rest)
  unfolding M
  were = rows_were reading rd l small s ps a j cl.known cl.is_paired

  ahead_size : length M.rows.ahead ≡ row_words * content_first t j
  ahead_size = M.rows.size ∙ ap (λ (n : ℕ). row_words * n) first_is_lem

  middle_size : length middle ≡ row_words * (c - content_first t j)
  middle_size = length_records M.inner _ _ j _ ∙ ap (λ (n : ℕ). row_words * n) (omega (arith, close_is, first_is_lem))

  ahead_is : M.rows.ahead ≡ take (row_words * content_first t j) t
  ahead_is = sym (ap (take (row_words * content_first t j)) were ∙ take_at M.rows.ahead _ _ ahead_size)

  behind_is : middle ++ M.rows.rest ≡ drop (row_words * content_first t j) t
  behind_is = sym (ap (drop (row_words * content_first t j)) were ∙ drop_at M.rows.ahead _ _ ahead_size)

  middle_is : middle ≡ content_rows t j c
  middle_is =
      sym
      (ap (take (row_words * (c - content_first t j))) (sym behind_is) ∙ take_at middle M.rows.rest _ middle_size)

  rest_is : M.rows.rest ≡ drop (row_words * c) t
  rest_is = sym (ap (drop (row_words * c)) (were ∙ sym (append_assoc M.rows.ahead middle M.rows.rest))
      ∙ drop_at (M.rows.ahead ++ middle) M.rows.rest (row_words * c)
      (length-append M.rows.ahead middle ∙ omega (arith, ahead_size, middle_size, close_is, first_is_lem)))

  content_is_run : ContentIsRun reading l s t j c
  content_is_run =
      let k = read_accepted (with_depth l left) run _ as_run in
      let n = content_inside (reading l.depth) (rd.flow l.depth) s ps a.reads M.spot in
      record {
        start_end = omega (arith, start_is, end_is);
        in_input = omega (arith, end_is);
        first_last = omega (arith, close_is, first_is_lem);
        is_run = k.0;
        counted = omega (arith, k.1, close_is, first_is_lem);
        moved_rows = sym middle_is
            ∙ records_from_zero missing j M.inner _ _ _ (few_rows (with_depth l left) small _ as_run)
            ∙ (λ i. moved (start_is i) (first_is_lem i) (content_deeper t j) missing j (sym k.2 i));
      }

  module _ (y : List ℕ) (py : Plain y) (hy : Accepted (with_depth l left) run y)
      (h : length (replaced_bytes s (content_start t j) (content_end t c) y) ≤ l.bytes) where
    ay' : (v : Forest) × ReadAs (with_depth l left) run y v
    ay' = check_zero (with_depth l left) run y run_proper hy

    of_y' : Accepted (with_depth l left) run y × (count_of (with_depth l left) run y ≡ count ay'.0) ×
        (rows_read (with_depth l left) run y ≡ rows_of ay'.0)
    of_y' = read_accepted (with_depth l left) run y ay'.1

    there : ReadAs (with_depth l M.depth) run y ay'.0
    there = subst (λ (d : ℕ). ReadAs (with_depth l d) run y ay'.0) (sym depth_is) ay'.1

    fits : length (replaced_bytes s (bytes_before M.spot) (bytes_before M.spot + width M.inner) y) ≤ l.bytes
    fits = subst₂ (λ (p q : ℕ). length (replaced_bytes s p q y) ≤ l.bytes) (sym start_is) (sym end_is) h

    R : Replaced reading rd l small s ps a j cl.known cl.is_paired y ay'.0
    unfolding M
    R = replace_record reading rd l small s ps a j cl.known cl.is_paired y py there fits

    stays : ReadAs l reading (replaced_bytes s (content_start t j) (content_end t c) y) (fill M.spot ay'.0)
    unfolding M
    stays =
        subst₂ (λ (p q : ℕ). ReadAs l reading (replaced_bytes s p q y) (fill M.spot ay'.0)) start_is end_is
        R.stays

    of_edited : Accepted l reading (replaced_bytes s (content_start t j) (content_end t c) y)
        × (count_of l reading (replaced_bytes s (content_start t j) (content_end t c) y) ≡ count (fill M.spot ay'.0))
        × (rows_read l reading (replaced_bytes s (content_start t j) (content_end t c) y) ≡ rows_of
        (fill M.spot ay'.0))
    of_edited = read_accepted l reading _ stays

    change_is : change_of M.inner ay'.0 ≡ content_change t j c y (count_of (with_depth l left) run y)
    change_is =
        λ i. record { old_bytes = out i; new_bytes = in_bytes i; old_records = gone i; new_records = sym of_y'.1 i }
      where
        out : width M.inner ≡ content_end t c - content_start t j
        out = omega (arith, start_is, end_is)

        in_bytes : width ay'.0 ≡ length y
        in_bytes = run_width (with_depth l left) y py ay'.1

        gone : count M.inner ≡ c - content_first t j
        gone = omega (arith, close_is, first_is_lem)

    rows_now : rows_read l reading (replaced_bytes s (content_start t j) (content_end t c) y)
        ≡ replaced_rows t j c (content_change t j c y (count_of (with_depth l left) run y))
        (rows_read (with_depth l left) run y)
    unfolding M
    rows_now = of_edited.2 ∙ R.now ∙ (λ i. each_row (widened (first_is_lem i) (change_is i)) (ahead_is i)
        ++ (moved (start_is i) (first_is_lem i) (content_deeper t j) missing j (sym of_y'.2 i)
        ++ each_row (pushed (first_is_lem i) missing (change_is i)) (rest_is i)))

    count_now : count_of l reading (replaced_bytes s (content_start t j) (content_end t c) y) + (c - content_first t j)
        ≡ count u + count_of (with_depth l left) run y
    count_now = omega (arith, of_edited.1, of_y'.1, count_fill M.spot ay'.0, close_is, first_is_lem)

-- Of a reading, `stage` or `run`.
module _ {reading : ℕ → Rule} (rd : Readable reading) (pr : Proper reading) where
  one_closing_tag : OneClosingTag reading
  one_closing_tag l small s ps h j known paired =
      let x = check_zero l reading s pr h in
      let k = read_accepted l reading s x.1 in
      let m = meant reading rd l small s ps x.1 j (omega (arith, k.1))
      (subst (λ (t : List ℕ). paired_row t j ≡ true) k.2 paired) in (
        records_before m.spot + count m.inner,
        subst₂ (λ (t : List ℕ) (n : ℕ). Closed t n j (records_before m.spot + count m.inner)) (sym k.2)
            (sym k.1) m.closed,
        λ c e. m.one c (subst₂ (λ (t : List ℕ) (n : ℕ). Closed t n j c) k.2 k.1 e),
      )

  -- What stands in an accepted input stands in the rows of its reading.
  module _ (l : Limits) (s t : List ℕ) (j c : ℕ) (h : Stands reading l s t j c) where
    au : (u : Forest) × ReadAs l reading s u
    au = check_zero l reading s pr h.is_accepted

    of_s : Accepted l reading s × (count_of l reading s ≡ count au.0) × (rows_read l reading s ≡ rows_of au.0)
    of_s = read_accepted l reading s au.1

    table_is : rows_of au.0 ≡ t
    table_is = sym (h.rows ∙ of_s.2)

    closed_is : Closed (rows_of au.0) (count au.0) j c
    closed_is = subst₂ (λ (t : List ℕ) (m : ℕ). Closed t m j c) (sym table_is) of_s.1 h.closed

  contents_are_runs : ContentsAreRuns reading
  contents_are_runs l s t j c h = subst (λ (t : List ℕ). ContentIsRun reading l s t j c) (table_is l s t j c h)
      (content_is_run rd l h.small s h.plain (au l s t j c h).1 j c (closed_is l s t j c h))

  replaces : Replaces reading
  replaces l s t j c h = subst
      (λ (t : List ℕ). (y : List ℕ) → Plain y → Accepted (with_depth l (depth_left l reading s j)) run y
      → length (replaced_bytes s (content_start t j) (content_end t c) y) ≤ l.bytes
      → Accepted l reading (replaced_bytes s (content_start t j) (content_end t c) y)) (table_is l s t j c h)
      (λ y py hy k. (of_edited rd l h.small s h.plain (au l s t j c h).1 j c (closed_is l s t j c h) y py hy k).0)

  rows_replaced : RowsReplaced reading
  rows_replaced l s t j c h = subst
      (λ (t : List ℕ). (y : List ℕ) → Plain y → Accepted (with_depth l (depth_left l reading s j)) run y
      → length (replaced_bytes s (content_start t j) (content_end t c) y) ≤ l.bytes
      → (count_of l reading (replaced_bytes s (content_start t j) (content_end t c) y) + (c - content_first t j)
      ≡ count_of l reading s + count_of (with_depth l (depth_left l reading s j)) run y)
      × (rows_read l reading (replaced_bytes s (content_start t j) (content_end t c) y)
      ≡ replaced_rows t j c (content_change t j c y (count_of (with_depth l (depth_left l reading s j)) run y))
      (rows_read (with_depth l (depth_left l reading s j)) run y))) (table_is l s t j c h)
      (λ y py hy k. (
        count_now rd l h.small s h.plain (au l s t j c h).1 j c (closed_is l s t j c h) y py hy k
            ∙ ap (λ (n : ℕ). n + count_of (with_depth l (depth_left l reading s j)) run y) (sym (of_s l s t j c h).1),
        rows_now rd l h.small s h.plain (au l s t j c h).1 j c (closed_is l s t j c h) y py hy k,
      ))

-- In a stage each paired record has one closing tag,
pub stage_one_closing_tag : OneClosingTag stage
stage_one_closing_tag = one_closing_tag stage_readable stage_proper

-- and so it has in a run.
pub run_one_closing_tag : OneClosingTag run
run_one_closing_tag = one_closing_tag run_readable run_proper

-- In a stage each content is a run,
pub stage_contents_are_runs : ContentsAreRuns stage
stage_contents_are_runs = contents_are_runs stage_readable stage_proper

-- and so it is in a run.
pub run_contents_are_runs : ContentsAreRuns run
run_contents_are_runs = contents_are_runs run_readable run_proper

-- The check accepts a stage with another content,
pub stage_checks_replace : Replaces stage
stage_checks_replace = replaces stage_readable stage_proper

-- and a run.
pub run_checks_replace : Replaces run
run_checks_replace = replaces run_readable run_proper

-- The rows of a stage with another content,
pub stage_tables_replace : RowsReplaced stage
stage_tables_replace = rows_replaced stage_readable stage_proper

-- and of a run.
pub run_tables_replace : RowsReplaced run
run_tables_replace = rows_replaced run_readable run_proper

-- ---- depth

-- With more depth a run is read the same.
pub runs_deepen : RunsDeepen
runs_deepen l d d' h y k =
    let x = check_zero (with_depth l d) run y run_proper k in
    let more : d' - d + d ≡ d' = omega arith in
    let z = subst (λ (n : ℕ). ReadAs (with_depth l n) run y (deepen (d' - d) x.0)) more
    (run_deeper_accepted l (d' - d) d y x.1) in
    let kx = read_accepted (with_depth l d) run y x.1 in
    let kz = read_accepted (with_depth l d') run y z in (
      kz.0,
      kz.1 ∙ count_deepen (d' - d) x.0 ∙ sym kx.1,
      kz.2 ∙ rows_deeper (d' - d) x.0 ∙ sym kx.2,
    )

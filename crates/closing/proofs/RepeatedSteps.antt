-- A closing tag that repeats a name byte for byte, with its rows: what each need of its reader follows from.
use mathlib.Core.Path.{◌≡◌, refl, sym, ap, ◌∙◌}
use mathlib.Core.Bool.{true}
use mathlib.Core.List.{List}
use Prim.Native.Nat.{ℕ, suc, ◌+◌, ◌-◌, ◌<◌}
use native.Mathlib.Omega.{arith}
use lib.ListN.{length}
use lib.Seq.{sets}
use Rattle.lex.proofs.Results.{results}
use borrow.Rule.Slice.PartMut.{put_mid, mid_of}
use Rattle.rules.specs.Forest.{Label, node, Forest, nil, byte, group, direct, width}
use Rattle.rules.specs.Parse.{got, byte_at, read_at}
use Rattle.rules.specs.Record.{row_words, count, records}
use Rattle.rules.proofs.Run.{wide_got}
use Rattle.jsx.specs.Kind as Kind
use Rattle.jsx.specs.Name.{one_name, part}
use Rattle.jsx.proofs.Again.{one_part_of, one_part_again}
use Rattle.lex.specs.Contract.{out_of, bytes_from}
use Rattle.lex.specs.Answer.{Got}
use Rattle.lex.proofs.Laws as Lex
use Rattle.lex.proofs.Bare.{bare_part, flat_got, count_flat}
use Rattle.table.specs.Slot.{Seat, seat_inside, rows_from}
use Rattle.table.specs.Contract.{Start, Words, node_row, Stored}
use Rattle.table.specs.Reader.{Room, MadeOf}
use Rattle.table.proofs.Laws.{headed, sets_out}
use Rattle.table.proofs.Made.{made_done, made_lent}
use Rattle.table.proofs.Asked.{enter_here}
use Rattle.name.specs.Contract.{Spelt}
use Rattle.name.proofs.Parts.{one_made}
use Rattle.same.proofs.Forms.{one_low}
use Rattle.closing.specs.declared.Opened.{Opened}
use Rattle.closing.specs.Close.{Closes, Opening, closing_named}
use Rattle.closing.proofs.Repeated.{in_closed, closed_forest, part_there, close_judged, one_by_count}
use Rattle.closing.proofs.OpenedSteps.{name_longer, name_ordered}

-- ---- what is in the tag's node

-- A group's rows do not go by a byte behind it.
byte_behind : (p n par deep b : ℕ) (l : Label) (w : Forest) {k x : ℕ} → l ≡ node k x
    → records p n par deep (group l w (byte b nil)) ≡ records p n par deep (group l w nil)
unfolding records
byte_behind p n par deep b l w e =
    ap (λ (y : Label). records p n par deep (group y w (byte b nil))) e
    ∙ sym (ap (λ (y : Label). records p n par deep (group y w nil)) e)

module _ (s : List ℕ) (c q : ℕ) (w : Forest) where
  in_count : count w ≡ 0 → 1 ≡ count (in_closed s c q w)
  unfolding count
  in_count h =
      let l = one_low (direct w) in
      let z : 1 ≡ 1 + count w + 0 = omega arith in
      z ∙ sym (ap (λ (y : Label). count (group y w (byte (byte_at s q) nil))) l.1)

  in_rows : (i : Seat) → rows_from i c (in_closed s c q w) ≡ rows_from i (c + 1 + 1) (one_part_of w)
  unfolding records
  in_rows i =
      let l = one_low (direct w) in
      byte_behind (c + 1 + 1) i.number i.parent i.depth (byte_at s q) (one_name (direct w)) w l.1

  in_width : width (in_closed s c q w) ≡ width w + 3
  unfolding width
  in_width = omega arith

  all_count : count w ≡ 0 → 2 ≡ count (closed_forest s c q w)
  unfolding count
  all_count h = let k = in_count h in omega arith

-- ---- the returns

module _ {s : List ℕ} {o : Opened} {c : ℕ} (v : Opening s o) (one : o.count ≡ 1)
    (b : Closes s c o.start (o.end - o.start)) where
  abbrev wide : ℕ
  wide = o.end - o.start

  abbrev w : Forest
  w = out_of (read_at s part o.start)

  abbrev last : ℕ
  last = c + 1 + 1 + wide

  ends : o.end ≡ o.start + wide
  ends = let i = name_longer v in omega arith

  known : (read_at s part o.start ≡ got true w o.end) × (read_at s part (c + 1 + 1) ≡ got true w last)
  known =
      let l = one_by_count v.read (sym v.all ∙ one) in
      (l.0, part_there s c o.start o.end wide l.0 ends b)

  judged : closing_named s o c ≡ got true (closed_forest s c last w) (last + 1)
  judged =
      let l = one_by_count v.read (sym v.all ∙ one) in
      close_judged s o.at o.start c o.end wide 0 l.0 ends b l.1

  none : count w ≡ 0
  none = count_flat w (flat_got s (suc (length s)) part 0 o.start bare_part known.0)

  made : {q : Seat} {t t' : List ℕ} → t' ≡ sets t 0 (rows_from q c (closed_forest s c last w))
      → {y : ℕ} → y ≡ last + 1
      → MadeOf (Got y 2) (closing_named s o c) s c 3 q 0 t t'
  made {q} {t} {t'} h e =
      let i = b.inside in
      let j = name_longer v in
      rw e (made_done s (closed_forest s c last w) c 3 q 0 t t' (last + 1) 2 judged (all_count s c last w none)
      (omega arith) h)

  -- No table is lent.
  pub same_unstored : {q : Seat} {t : List ℕ} {y : ℕ} → length t ≡ 0 → y ≡ c + 2 + (o.end - o.start) + 1
      → MadeOf (Got y 2) (closing_named s o c) s c 3 q 0 t t
  same_unstored {q} {t} h e =
      made (sym (sets_out (rows_from q c (closed_forest s c last w)) t 0 (omega arith))) (omega arith)

  -- Both rows were stored.
  pub same_stored : (t : List ℕ) {i : ℕ} {q q₁ : Seat} {a z : ℕ} {u t₁ t₂ : List ℕ} {y : ℕ}
      → Start (length t) row_words i
      → q₁ ≡ seat_inside q
      → Spelt 0 q₁ (one_name (bytes_from s a (z - a))) a z (mid_of i (length t - i) t) u
      → a ≡ c + 2
      → z ≡ c + 2 + (o.end - o.start)
      → t₁ ≡ put_mid i (length t - i) t u
      → Stored 0 q Kind.closing_tag c (c + 2 + (o.end - o.start) + 1) 0 1 t₁ t₂
      → y ≡ c + 2 + (o.end - o.start) + 1
      → MadeOf (Got y 2) (closing_named s o c) s c 3 q 0 t t₂
  same_stored t {i} {q} {q₁} {a} {z} {u} {t₁} {t₂} st g sp ea ez e₁ w₂ e =
      let F = suc (length s) in
      let x₁ : a ≡ c + 1 + 1 = omega arith in
      let x₂ : z ≡ last = omega arith in
      let x₃ : c + 2 + wide + 1 ≡ last + 1 = omega arith in
      let inner = in_closed s c last w in
      let end = name_longer v in
      let in-input = b.inside in
      let there = Lex.known (read_at s part (c + 1 + 1)) known.1 in
      let sp₂ : Spelt 0 q₁ (one_name (bytes_from s (c + 1 + 1) (last - (c + 1 + 1)))) (c + 1 + 1) last
      (mid_of i (length t - i) t) u = rw (x₁, x₂) at sp in
      let name = made_lent t st (one_made there (omega arith) (omega arith) sp₂) e₁ in
      let rows : t₁ ≡ sets t row_words (rows_from (seat_inside q) c inner) =
      name.of.wrote _ _ refl
      ∙ (λ j. sets t row_words (rows_from (g j) (c + 1 + 1) (ap out_of (one_part_again s F 0 (c + 1 + 1) known.1) j)))
      ∙ ap (sets t row_words) (sym (in_rows s c last w (seat_inside q))) in
      let wd = wide_got s F part 0 o.start known.0 in
      let iw = in_width s c last w in
      made
      (w₂.is
      ∙ (λ j. sets (rows j) 0 (node_row q Kind.closing_tag c (x₃ j) 0 1))
      ∙ headed inner t q c 0 row_words Kind.closing_tag (last + 1) 0 1 (omega arith) (in_count s c last w none) refl)
      (e ∙ x₃)

-- ---- what the calls ask

module _ {s : List ℕ} {o : Opened} {c : ℕ} (v : Opening s o) (b : Closes s c o.start (o.end - o.start)) where
  -- The name is no empty span.
  pub same_longer : {x y : ℕ} → x ≡ c + 2 → y ≡ c + 2 + (o.end - o.start) → x < y
  same_longer e f = let i = name_longer v in rw (e, f) (omega arith)

  -- There is room for its row,
  pub same_room : {q : Seat} → Room 3 s c q → {q₁ : Seat} {u : List ℕ} {y : ℕ} → q₁ ≡ seat_inside q → u ≡ s → y ≡ c + 2
      → Room 4 u y q₁
  same_room room g e f =
      let few = room.few in
      let short = room.short in
      let i = b.inside in
      rw (g, e, f) (record {
        short = room.short;
        inside = omega arith;
        few = omega arith;
        held = omega arith;
        shallow = omega (arith, room.shallow);
      })

  -- and for the tag's.
  pub same_words : {q : Seat} → Room 3 s c q → {q₁ : Seat} {x y : ℕ} → q₁ ≡ q → x ≡ c
      → y ≡ c + 2 + (o.end - o.start) + 1
      → Words q₁ Kind.closing_tag x y 0 1
  same_words room g e f =
      let few = room.few in
      let short = room.short in
      let held = room.held in
      let deep = room.shallow in
      let i = b.inside in
      rw (g, e, f) (omega arith)

pub ruleset same_steps = (results, same_unstored, same_stored)

pub ruleset same_asked = (results, enter_here, name_ordered, same_longer, same_room, same_words)

-- An element or a fragment with a content: its opening tag, its children and its closing tag, with all their rows.
use mathlib.Core.Path.{◌≡◌, refl, sym, ap, subst, ◌∙◌}
use mathlib.Core.Bool.{Bool, true}
use mathlib.Core.List.{List, ◌++◌, append-nil}
use Prim.Native.Nat.{ℕ, suc, ◌+◌, ◌*◌, ◌≤◌}
use native.Mathlib.Omega.{arith}
use lib.ListN.{length}
use lib.Seq.{sets}
use Rattle.rules.specs.Forest.{Label, node, content, Forest, nil, byte, group, ◌⋈◌, width}
use Rattle.rules.specs.Rule.{Rule, wrap, paired}
use Rattle.rules.specs.Parse.{Answer, got, trouble, parse, read_at}
use Rattle.rules.specs.Record.{row_words, count, records}
use Rattle.rules.proofs.Forests.{records_join, count_behind, width_behind}
use Rattle.rules.proofs.Run.{goes, wide_got}
use Rattle.rules.proofs.Again.{wrap_no, wrap_got}
use Rattle.jsx.specs.Kind as Kind
use Rattle.jsx.specs.Expression.{Inner}
use Rattle.jsx.specs.Tag.{close_tag}
use Rattle.jsx.specs.Closing.{verdict}
use Rattle.jsx.specs.Element.{children}
use Rattle.lex.specs.Contract.{out_of}
use Rattle.lex.specs.Answer.{Ans, Got, No}
use Rattle.lex.proofs.Laws as Lex
use Rattle.lex.proofs.Bare.{Flat, count_flat}
use Rattle.table.specs.Slot.{Seat, seat_inside, seat_behind, rows_from}
use Rattle.table.specs.Contract.{node_row, Stored}
use Rattle.table.specs.Reader.{counted, MadeOf, Made}
use Rattle.table.proofs.Laws.{stored, headed, rows_none}
use Rattle.table.proofs.Made.{made_got, made_count, made_done, refused}
use Rattle.closing.proofs.Verdict.{closed_by}
use Rattle.row.specs.Shut.{Shut}

-- ---- rows

-- Bytes in front of a forest have no rows.
pub rows_behind : (v o : Forest) (q : Seat) (at : ℕ) {a : ℕ} → Flat v → a ≡ at + width v
    → rows_from q at (v ⋈ o) ≡ rows_from q a o
rows_behind v o q at f e =
    let none = count_flat v f in
    let n : q.number + count v ≡ q.number = omega arith in
    records_join v o at q.number q.parent q.depth
    ∙ (λ i. rows_none v q at none i ++ records (sym e i) (n i) q.parent q.depth o)

-- Nor have bytes behind one.
pub rows_front : (u v : Forest) (q : Seat) (at : ℕ) → count v ≡ 0 → rows_from q at (u ⋈ v) ≡ rows_from q at u
rows_front u v q at none =
    records_join u v at q.number q.parent q.depth
    ∙ ap (λ (x : List ℕ). rows_from q at u ++ x) (rows_none v (seat_behind (count u) q) (at + width u) none)
    ∙ append-nil (rows_from q at u)

-- A content and what is behind it have the rows of the two.
pub content_rows_lem : (d : ℕ) (h r : Forest) (q : Seat) (at : ℕ)
    → rows_from q at (h ⋈ r) ≡ rows_from q at (group (content d) h r)
unfolding records
content_rows_lem d h r q at = records_join h r at q.number q.parent q.depth

join_three : (o h r : Forest) → o ⋈ (h ⋈ r) ≡ (o ⋈ h) ⋈ r
unfolding ◌⋈◌
join_three nil h r = refl
join_three (byte b o) h r = ap (byte b) (join_three o h r)
join_three (group l c o) h r = ap (group l c) (join_three o h r)

-- So has it behind an opening tag.
tag_rows : (d : ℕ) (o h r : Forest) (q : Seat) (at : ℕ)
    → rows_from q at ((o ⋈ h) ⋈ r) ≡ rows_from q at (o ⋈ group (content d) h r)
tag_rows d o h r q at =
    let p = at + width o in
    let k : Seat = seat_behind (count o) q in
    ap (rows_from q at) (sym (join_three o h r))
    ∙ records_join o (h ⋈ r) at q.number q.parent q.depth
    ∙ ap (λ (x : List ℕ). rows_from q at o ++ x) (content_rows_lem d h r k p)
    ∙ sym (records_join o (group (content d) h r) at q.number q.parent q.depth)

-- ---- the whole

-- The opening tag's rule T at `at` has got a node around C, up to z, and its rows are stored behind one row. The answer
-- of the closing tag at c, with the verdict, is y c. The label of the whole is that of a node of kind K with extra x.
pub record Opens (s : List ℕ) (d : ℕ) (n : Inner) (T : Rule) (label : Forest → Label) (K x at z m : ℕ) (y : ℕ → Answer)
    (q : Seat) (t t₁ : List ℕ) : Type 0 where
  pub under : Forest
  pub tag : read_at s T at ≡ got true (group (node Kind.opening_tag 0) under nil) z
  pub wrote : t₁ ≡ sets t row_words (rows_from (seat_inside q) at (group (node Kind.opening_tag 0) under nil))
  pub all : m ≡ count under
  pub few : 2 * at + (m + 2) ≤ 2 * z
  pub closed : (h : Forest) (c : ℕ) (b : Bool) → read_at s (children n) z ≡ got b h c
      → read_at s (paired T d (children n) close_tag verdict) at
      ≡ closed_by (group (node Kind.opening_tag 0) under nil) d h (y c)
  pub says : (h r : Forest) → label (group (node Kind.opening_tag 0) under nil ⋈ group (content d) h r) ≡ node K x

module _ {s : List ℕ} {d : ℕ} {n : Inner} {T : Rule} {label : Forest → Label} {K x at z m : ℕ} {y : ℕ → Answer}
    {q : Seat} {t t₁ : List ℕ} (v : Opens s d n T label K x at z m y q t t₁) where
  -- The children refuse.
  pub paired_no : {e a b c f : ℕ} → read_at s (children n) z ≡ trouble e a b c f
      → read_at s (wrap label (paired T d (children n) close_tag verdict)) at ≡ trouble e a b c f
  unfolding parse
  paired_no h = let g = v.tag in rw (g, h)

  -- The closing tag or the verdict refuses.
  pub paired_refused : (h : Forest) (c : ℕ) (b : Bool) {e a b₂ c₂ f : ℕ} → read_at s (children n) z ≡ got b h c
      → y c ≡ trouble e a b₂ c₂ f
      → read_at s (wrap label (paired T d (children n) close_tag verdict)) at ≡ trouble e a b₂ c₂ f
  paired_refused h c b e k =
      wrap_no s (suc (length s)) _ 0 at
      (v.closed h c b e ∙ ap (closed_by (group (node Kind.opening_tag 0) v.under nil) d h) k) label

  -- All was read and stored.
  pub paired_made : {r : Ans} {q₁ : Seat} {i₁ : ℕ} {t₂ : List ℕ}
      → Made r s (children n) z 0 q₁ i₁ t₁ t₂
      → goes (children n) ≡ true
      → q₁ ≡ seat_behind (m + 1) (seat_inside q)
      → i₁ ≡ row_words * (m + 1 + 1)
      → {c k : ℕ} → r ≡ Got c k
      → {r₂ : Ans} {q₂ : Seat} {i₂ : ℕ} {t₃ : List ℕ} → MadeOf r₂ (y c) s c 3 q₂ i₂ t₂ t₃
      → q₂ ≡ seat_behind (m + 1 + k) (seat_inside q)
      → i₂ ≡ row_words * (m + 1 + k + 1)
      → {e l : ℕ} → r₂ ≡ Got e l
      → {t₄ : List ℕ} → Stored 0 q K at e x (m + 1 + k + l) t₃ t₄
      → Made (Got e (m + 1 + k + l + 1)) s (wrap label (paired T d (children n) close_tag verdict)) at 1 q 0 t t₄
  unfolding count width
  paired_made {t₂ = t₂} l go eq ei {c} {k} h {r₂} {t₃ = t₃} l₂ eq₂ ei₂ {e} {l = j} h₂ {t₄} st =
      let O : Forest = group (node Kind.opening_tag 0) v.under nil in
      let H : Forest = out_of (read_at s (children n) z) in
      let R : Forest = out_of (y c) in
      let P : Forest = O ⋈ group (content d) H R in
      let Q : Seat = seat_inside q in
      let F = suc (length s) in
      let far = l.of.far _ _ h in
      let far₂ = l₂.far _ _ h₂ in
      let few = v.few in
      let all = v.all in
      let kids = made_got l go h in
      let kids-all = made_count l go h in
      let last = Lex.view_got counted (y c) l₂.is h₂ in
      let read = v.closed H c true kids ∙ ap (closed_by O d H) last.1 in
      let whole = wrap_got s F _ 0 at read label in
      let w₁ = wide_got s F T 0 at v.tag in
      let w₂ = wide_got s F (children n) 0 z kids in
      let w₃ = wide_got s F _ 0 at read in
      let cO : count O ≡ m + 1 = omega arith in
      let cOH = count_behind O H in
      let cP = count_behind O (group (content d) H R) in
      let lR : j ≡ count R = last.2 in
      let s₂ : t₂ ≡ sets t row_words (rows_from Q at (O ⋈ H)) =
      l.of.wrote _ _ h ∙ (λ i. sets (v.wrote i) (ei i) (rows_from (eq i) z H))
      ∙ stored O H t Q at row_words z (Q.number + (m + 1)) (row_words * (m + 1 + 1)) w₁ (omega arith) (omega arith) in
      let s₃ : t₃ ≡ sets t row_words (rows_from Q at ((O ⋈ H) ⋈ R)) =
      l₂.wrote _ _ h₂ ∙ (λ i. sets (s₂ i) (ei₂ i) (rows_from (eq₂ i) c R))
      ∙ stored (O ⋈ H) R t Q at row_words c (Q.number + (m + 1 + k)) (row_words * (m + 1 + k + 1))
      (omega (arith, width_behind O H)) (omega arith) (omega arith) in
      let s₄ : t₄ ≡ sets t 0 (rows_from q at (group (node K x) P nil)) =
      st.is
      ∙ ap (λ (u : List ℕ). sets u 0 (node_row q K at e x (m + 1 + k + j)))
      (s₃ ∙ ap (λ (u : List ℕ). sets t row_words u) (tag_rows d O H R Q at))
      ∙ headed P t q at 0 row_words K e x (m + 1 + k + j) w₃ (omega arith) refl in
      record {
        of = made_done s (group (node K x) P nil) at 1 q 0 t t₄ e (m + 1 + k + j + 1)
            (whole ∙ ap (λ (u : Label). got true (group u P nil) e) (v.says H R))
            (omega arith) (omega arith) s₄;
      }

  -- The closing tag and the record of the whole, as their reader promises them.
  pub paired_shut : {r : Ans} {q₁ : Seat} {i₁ : ℕ} {t₂ : List ℕ}
      → Made r s (children n) z 0 q₁ i₁ t₁ t₂
      → goes (children n) ≡ true
      → q₁ ≡ seat_behind (m + 1) (seat_inside q)
      → i₁ ≡ row_words * (m + 1 + 1)
      → {c k : ℕ} → r ≡ Got c k
      → {r₂ : Ans} {u : ℕ} {t₃ : List ℕ} → Shut r₂ (y c) s K x at c u q t₂ t₃
      → u ≡ m + 1 + k
      → Made r₂ s (wrap label (paired T d (children n) close_tag verdict)) at 1 q 0 t t₃
  paired_shut l go eq ei {c} {k} h {r₂} {u} {t₃} w eu = by w.closed refl
    where
      W : Rule
      W = wrap label (paired T d (children n) close_tag verdict)

      by : (v₂ : Ans) → w.closed ≡ v₂ → Made r₂ s W at 1 q 0 t t₃
      by (No e a b c₂ f) i =
          refused (paired_refused (out_of (read_at s (children n) z)) c true (made_got l go h)
          (Lex.view_no counted (y c) w.made.is i)) (w.refuses e a b c₂ f i)
      by (Got e j) i =
          let ends = w.ends e j i in
          let st = subst (λ (p : ℕ). Stored 0 q K at e x (p + j) w.between t₃) eu ends.1 in
          let whole = paired_made l go eq ei h w.made (ap (λ (p : ℕ). seat_behind p (seat_inside q)) eu)
          (ap (λ (p : ℕ). row_words * (p + 1)) eu) i st in
          let same : r₂ ≡ Got e (m + 1 + k + j + 1) = ends.0 ∙ ap (λ (p : ℕ). Got e (p + j + 1)) eu in
          rw same whole

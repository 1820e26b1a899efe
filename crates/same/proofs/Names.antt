-- One name that was read: its parts, its form, and the dots of a member's name.
use mathlib.Core.Path.{◌≡◌, refl, sym, ap, subst, ◌∙◌}
use mathlib.Core.Bool.{Bool, true, false}
use mathlib.Core.List.{List, [], ◌∷◌, ◌++◌}
use Prim.Native.Nat.{ℕ, suc, ◌+◌, ◌-◌, ◌≤◌, ◌<◌}
use Prim.Native.Char.{Char, code}
use native.Mathlib.Omega.{arith}
use lib.ListN.{length}
use lib.Dec.{eqb, ltb}
use borrow.Author.Tests.{ltb-true, eqb-true}
use Rattle.rules.specs.Forest.{node, Forest, nil, byte, ◌⋈◌, direct, inside}
use Rattle.rules.specs.Rule.{Rule, done, refuse, many, from_mark, ◌⨾◌}
use Rattle.rules.specs.Parse.{Answer, got, trouble, pick, behind, byte_at, repeat, parse, parsed, read_at}
use Rattle.rules.proofs.Run.{goes, both_read}
use Rattle.rules.proofs.Forests.{behind_nil, behind_assoc}
use Rattle.rules.proofs.Got.{trouble_got, false_true, got_same, then_got, behind_out, going, wrap_read}
use Rattle.rules.proofs.Got.{SaidOut, so, otherwise, stopped, said_read}
use Rattle.rules.proofs.Mark.{any_mark}
use Rattle.rules.proofs.Local.{up, up_got}
use Rattle.rules.proofs.Ends.{Turn, last, goon, turn, refuel}
use Rattle.rules.proofs.Again.{two_got}
use Rattle.jsx.specs.Kind as Kind
use Rattle.jsx.specs.Byte.{is, need, expect}
use Rattle.jsx.specs.Blank.{blanks}
use Rattle.jsx.specs.Name.{has, dashed, part as name_part, other_part, dotted_part, dotted}
use Rattle.jsx.specs.Closing.{nodes_of}
use Rattle.jsx.proofs.Again.{other_part_of, dotted_once}
use Rattle.lex.specs.Contract.{out_of, bytes_from, Past}
use Rattle.lex.proofs.Laws as Lex
use Rattle.same.specs.Contract.{ReadsAt, ReadTo, behind_dot, parts_from}
use Rattle.lex.proofs.Bare.{Flat, flat_got, direct_got, bare_part, bare_blanks, goes_blanks}
use Rattle.same.proofs.Nodes.{nodes_flat, nodes_join}

-- ---- rules

-- A name's first part and the blanks behind it, which its rule looks over, go on.
pub goes_look : goes (name_part ⨾ blanks) ≡ true
unfolding goes name_part need blanks
goes_look = refl

goes_turn : goes (expect "." ⨾ blanks ⨾ dotted_part) ≡ true
unfolding goes expect need blanks dotted_part other_part name_part
goes_turn = refl

module _ (s : List ℕ) where
  -- What was got is the forest of the answer.
  pub reads : {t : Rule} {at : ℕ} {o : Forest} {p : ℕ} → at ≤ length s → read_at s t at ≡ got true o p → ReadsAt s t at
  reads {t} {at} {o} {p} i h = record { to = p; read = Lex.known (read_at s t at) h; inside = i }

  -- What was read begins within the input.
  pub begins_inside : {t : Rule} {a b : ℕ} → ReadTo s t a b → a ≤ length s
  begins_inside {t} {a} h =
      let i = up_got s (suc (length s)) t 0 a h.read in
      let j = h.inside in
      omega arith

  -- It ends where the code has found its end.
  pub past_same : {t : Rule} {at k p q : ℕ} {o : Forest} → read_at s t at ≡ got true o p → Past q s t at k → p ≡ q
  past_same h l = (got_same (sym h ∙ l.is)).2

  -- ---- a separator, blanks, and what is behind them

  -- A byte was read at x.
  abbrev Stepped : (x p : ℕ) → Forest → Type 0
  Stepped x p o = (x < length s) × (p ≡ x + 1) × Flat o

  expect_read : (c : Char) (x : ℕ) {o : Forest} {p : ℕ} → read_at s (expect c) x ≡ got true o p → Stepped x p o
  unfolding expect need parse
  expect_read c x {o} {p} h = go (is c (byte_at s x)) h
    where
      other : (b : Bool) → pick b (trouble 4 x x 0 0) (trouble 3 x x 0 0) ≡ got true o p → Stepped x p o
      other true k = trouble_got k
      other false k = trouble_got k

      inner : (b : Bool) → ltb x (length s) ≡ b
          → pick b (got true (byte (byte_at s x) nil) (x + 1)) (trouble 4 x x 0 0) ≡ got true o p
          → Stepped x p o
      inner true e k = let g = got_same k in (ltb-true x (length s) e, sym g.2, subst Flat g.1 tt)
      inner false e k = trouble_got k

      go : (b : Bool)
          → pick b (pick (ltb x (length s)) (got true (byte (byte_at s x) nil) (x + 1)) (trouble 4 x x 0 0))
          (pick (eqb (byte_at s x) 256) (trouble 4 x x 0 0) (trouble 3 x x 0 0))
          ≡ got true o p
          → Stepped x p o
      go true k = inner (ltb x (length s)) refl k
      go false k = other (eqb (byte_at s x) 256) k

  -- A separator at x, and t from behind it to b: the nodes are those of t.
  pub record Behind (t : Rule) (x b : ℕ) (u : Forest) : Type 0 where
    pub inside : x < length s
    pub o : Forest
    pub read : read_at s t (x + 1) ≡ got true o b
    pub nodes : nodes_of u ≡ nodes_of o

  -- A byte that was asked for, and what was read behind it.
  pub separated : (c : Char) (t : Rule) (x b : ℕ) {u : Forest} → read_at s (expect c ⨾ t) x ≡ got true u b
      → Behind t x b u
  separated c t x b h =
      let y = both_read s (suc (length s)) (expect c) t 0 x h in
      let g = expect_read c x y.3 in
      record {
        inside = g.0;
        o = y.2;
        read = ap (λ (n : ℕ). read_at s t n) (sym g.1) ∙ y.4;
        nodes = ap nodes_of y.5 ∙ nodes_flat y.0 y.2 g.2;
      }

  -- Blanks from x to i, and t from there to b: the nodes are those of t.
  pub record Passed (t : Rule) (x b : ℕ) (u : Forest) : Type 0 where
    pub i : ℕ
    pub v : Forest
    pub o : Forest
    pub passed : read_at s blanks x ≡ got true v i
    pub behind : read_at s t i ≡ got true o b
    pub nodes : nodes_of u ≡ nodes_of o

  -- Blanks, and what was read behind them.
  pub blanks_passed : (t : Rule) (x b : ℕ) {u : Forest} → read_at s (blanks ⨾ t) x ≡ got true u b → Passed t x b u
  blanks_passed t x b h =
      let z = both_read s (suc (length s)) blanks t 0 x h in
      let f = flat_got s (suc (length s)) blanks 0 x bare_blanks z.3 in
      record {
        i = z.1;
        v = z.0;
        o = z.2;
        passed = z.3;
        behind = z.4;
        nodes = ap nodes_of z.5 ∙ nodes_flat z.0 z.2 f;
      }

  -- ---- parts

  -- A part in a group of its own.
  nodes_other : (at : ℕ) {p : ℕ} {w : Forest} → read_at s name_part at ≡ got true w p
      → nodes_of (other_part_of w) ≡ bytes_from s at (p - at) ∷ []
  unfolding nodes_of
  nodes_other at h = ap (λ (l : List ℕ). l ∷ []) (direct_got s (suc (length s)) name_part 0 at bare_part h)

  -- A part that was read in some group.
  pub record OnePart (at p : ℕ) (u : Forest) : Type 0 where
    pub w : Forest
    pub read : read_at s name_part at ≡ got true w p
    pub nodes : nodes_of u ≡ bytes_from s at (p - at) ∷ []

  -- Another part that was read is one node, with its bytes.
  pub other_read : (e at : ℕ) {u : Forest} {p : ℕ} → parsed s other_part e at ≡ got true u p → OnePart at p u
  unfolding other_part
  other_read e at h =
      let y = wrap_read s (suc (length s)) (λ o. node Kind.other_part (dashed (direct o))) name_part e at h in
      let k = any_mark s (suc (length s)) name_part e 0 at y.1 in
      record { w = y.0; read = k; nodes = ap nodes_of y.2 ∙ nodes_other at k }

  -- So is a part behind a dot.
  pub dotted_read : (at : ℕ) {u : Forest} {p : ℕ} → read_at s dotted_part at ≡ got true u p → OnePart at p u
  unfolding dotted_part parse
  dotted_read at {u} {p} h = go (said_read s (suc (length s)) _ other_part (refuse 10 from_mark) done at at h)
    where
      go : SaidOut (λ o. has "-" (direct (inside o)))
          (parsed s other_part at at) (parsed s (refuse 10 from_mark) at) (parsed s done at) true u p
          → OnePart at p u
      go (so o₁ p₁ o₂ x c y w) = trouble_got y
      go (otherwise o₁ p₁ o₂ x c y w) =
          let g = got_same y in
          let k = w ∙ ap (λ (v : Forest). o₁ ⋈ v) (sym g.1) ∙ behind_nil o₁ in
          other_read at at (x ∙ (λ i. got true (sym k i) (g.2 i)))
      go (stopped x ae) = false_true ae refl

  -- ---- a member's name from a dot on

  -- Blanks from x to i, a part from there to e, and the rest of the loop.
  pub record Part (x b : ℕ) : Type 0 where
    pub i : ℕ
    pub v : Forest
    pub passed : read_at s blanks x ≡ got true v i
    pub e : ℕ
    pub w : Forest
    pub read : read_at s name_part i ≡ got true w e
    pub u : Forest
    pub rest : read_at s (many dotted) e ≡ got true u b
    pub parts : parts_from s behind_dot x ≡ bytes_from s i (e - i) ∷ nodes_of u

  -- So it was read.
  pub part_read : {x b : ℕ} → ReadTo s behind_dot x b → Part x b
  unfolding behind_dot
  part_read {x} {b} h =
      let z = blanks_passed (dotted_part ⨾ many dotted) x b h.read in
      let y = both_read s (suc (length s)) dotted_part (many dotted) 0 z.i z.behind in
      let o = dotted_read z.i y.3 in
      record {
        i = z.i;
        v = z.v;
        passed = z.passed;
        e = y.1;
        w = o.w;
        read = o.read;
        u = y.2;
        rest = y.4;
        parts = z.nodes
            ∙ ap nodes_of y.5
            ∙ nodes_join y.0 y.2
            ∙ ap (λ (l : List (List ℕ)). l ++ nodes_of y.2) o.nodes;
      }

  -- What is left of the loop at e, where blanks end at q.
  pub data Rest (e b q : ℕ) (u : Forest) : Type 0 where
    over : is "." (byte_at s q) ≡ false → e ≡ b → nodes_of u ≡ [] → Rest e b q u
    more : e < b → byte_at s q ≡ code "." → ReadTo s behind_dot (q + 1) b → nodes_of u ≡ parts_from s behind_dot (q + 1)
        → Rest e b q u

  -- Blanks were read at e.
  abbrev Blanks : ℕ → Type 0
  Blanks e = (v : Forest) × (q : ℕ) × (read_at s blanks e ≡ got true v q)

  dotted_look : (e : ℕ) {a : Bool} {o : Forest} {p : ℕ} → read_at s dotted e ≡ got a o p → Blanks e
  unfolding dotted parse
  dotted_look e k =
      let y = then_got (parsed s blanks 0 e) _ k in
      (y.1, y.2, going s (suc (length s)) blanks 0 e goes_blanks y.3)

  -- The look-ahead of a turn has read the blanks.
  pub dotted_blanks : (e : ℕ) {b : ℕ} {u : Forest} → read_at s (many dotted) e ≡ got true u b → Blanks e
  unfolding parse
  dotted_blanks e {b} {u} h = go (turn (parsed s dotted 0) (length s) e h).1
    where
      look : {a : Bool} {o : Forest} {p : ℕ} → parsed s dotted 0 e ≡ got a o p → Blanks e
      look k = dotted_look e k

      go : Turn (parsed s dotted 0) (length s) e u b → Blanks e
      go (last k) = look k
      go (goon o p v k l r w) = look k

  rest_more : {e b q p : ℕ} {u v o r : Forest} → e < b → byte_at s q ≡ code "." → b ≤ length s
      → read_at s blanks e ≡ got true v q
      → read_at s (expect "." ⨾ blanks ⨾ dotted_part) q ≡ got true o p
      → read_at s (many dotted) p ≡ got true r b
      → u ≡ (v ⋈ o) ⋈ r
      → Rest e b q u
  unfolding behind_dot
  rest_more {e} {b} {q} {p} {u} {v} {o} {r} l dot i k h m w =
      let F = suc (length s) in
      let z = separated "." (blanks ⨾ dotted_part) q p h in
      let y = both_read s F blanks dotted_part 0 (q + 1) z.read in
      let d : read_at s behind_dot (q + 1) ≡ got true (y.0 ⋈ (y.2 ⋈ r)) b =
      two_got s F blanks (dotted_part ⨾ many dotted) 0 (q + 1) y.3
      (two_got s F dotted_part (many dotted) 0 y.1 y.4 m) in
      let n : nodes_of u ≡ nodes_of (y.0 ⋈ (y.2 ⋈ r)) =
      ap nodes_of (w ∙ behind_assoc v o r)
      ∙ nodes_flat v (o ⋈ r) (flat_got s F blanks 0 e bare_blanks k)
      ∙ nodes_join o r
      ∙ ap (λ (x : List (List ℕ)). x ++ nodes_of r) z.nodes
      ∙ sym (nodes_join z.o r)
      ∙ ap nodes_of (ap (λ (x : Forest). x ⋈ r) y.5 ∙ behind_assoc y.0 y.2 r) in
      more l dot (record { read = Lex.known (read_at s behind_dot (q + 1)) d; inside = i })
      (n ∙ sym (ap (λ (x : Answer). nodes_of (out_of x)) d))

  -- It is over, or a dot is next.
  pub rest_read : {e b q : ℕ} {u v : Forest} → b ≤ length s → read_at s blanks e ≡ got true v q
      → read_at s (many dotted) e ≡ got true u b
      → Rest e b q u
  unfolding parse nodes_of
  rest_read {e} {b} {q} {u} {v} i k h =
      go (is "." (byte_at s q)) refl (dotted_once s (suc (length s)) 0 e k) (turn (parsed s dotted 0) (length s) e h).1
    where
      Next : Answer
      Next = parsed s (expect "." ⨾ blanks ⨾ dotted_part) 0 q

      on : (o : Forest) (p : ℕ) (r : Forest) → is "." (byte_at s q) ≡ true → behind v Next ≡ got true o p → e < p
          → repeat (parsed s dotted 0) (length s) p ≡ got true r b
          → u ≡ o ⋈ r
          → Rest e b q u
      on o p r f m l n w =
          let y = behind_out v Next m in
          let F = suc (length s) in
          let z : read_at s (many dotted) p ≡ got true r b =
          refuel (parsed s dotted 0) (λ at. up s F dotted 0 at) (length s) F p n (omega arith) in
          let le = up_got s F (many dotted) 0 p z in
          rest_more (omega arith)
          (eqb-true (byte_at s q) (code ".") f) i k y.1 z (w ∙ ap (λ (x : Forest). x ⋈ r) y.2)

      go : (c : Bool) → is "." (byte_at s q) ≡ c → read_at s dotted e ≡ pick c (behind v Next) (got false nil e)
          → Turn (parsed s dotted 0) (length s) e u b
          → Rest e b q u
      go true f m (last n) =
          let y = behind_out v Next (sym m ∙ n) in
          let g = going s (suc (length s)) (expect "." ⨾ blanks ⨾ dotted_part) 0 q goes_turn y.1 in
          false_true refl (got_same (sym y.1 ∙ g)).0
      go true f m (goon o p r n l w x) = on o p r f (sym m ∙ n) l w x
      go false f m (last n) = let g = got_same (sym m ∙ n) in over f g.2 (sym (ap nodes_of g.1))
      go false f m (goon o p r n l w x) = false_true refl (got_same (sym m ∙ n)).0

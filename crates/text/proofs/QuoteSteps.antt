-- Quoted attribute strings, and strings inside braces, step by step.
use mathlib.Core.Path.{◌≡◌, refl, sym, ap, ◌∙◌}
use mathlib.Core.Bool.{Bool, true, false}
use mathlib.Core.List.{List}
use Prim.Native.Nat.{ℕ, suc, ◌+◌, ◌≤◌, ◌<◌}
use Prim.Native.Char.{code}
use native.Mathlib.Omega.{arith}
use mir.Syntax.{w8}
use mir.Val.{Fits}
use lib.ListN.{length, get_or, get_or-eq_default}
use lib.Dec.{eqb}
use borrow.Author.Tests.{eq-eqb, ne_eqb, eqb-true, lt-ltb}
use Rattle.lex.proofs.Results.{results_made}
use Rattle.rules.specs.Forest.{node, Forest, nil, byte, group, ◌⋈◌}
use Rattle.rules.specs.Rule.{Rule, stop, step, refuse, when, many, marked, here, mark, from_mark, ◌⨾◌, ◌⇒◌∣◌}
use Rattle.rules.specs.Parse.{Answer, got, trouble, pick, and_then, byte_at, parse, parsed, read_at}
use Rattle.rules.proofs.Run.{never}
use Rattle.jsx.specs.Refusal.{unexpected, quoted_never_closed, string_never_closed}
use Rattle.jsx.specs.Kind as Kind
use Rattle.jsx.specs.Byte.{is, end, line_end, quote}
use Rattle.jsx.specs.Text.{quoted, quoted_by, quoted_turn}
use Rattle.jsx.specs.Word.{string, string_by, string_turn}
use Rattle.lex.specs.Contract.{nothing, Leaf}
use Rattle.lex.specs.Answer.{Got, No}
use Rattle.lex.proofs.Laws.{inside, test_inside, byte_is, byte_not, tested, step_is, leaf_stop, leaf_done}
use Rattle.lex.proofs.Turns.{Turns, turns_begin, turns_more, turns_end, turns_no}
use Rattle.lanes.specs.Lanes.{only}
use Rattle.lanes.specs.First.{First}
use Rattle.lanes.proofs.Over.{turns_over}

-- ---- the rules, over the number when never closed, the byte that quotes and what is read between

-- One turn: up to the byte q the rule t. Never closed: n at the first byte.
abbrev pub turn : ℕ → Rule → ℕ → Rule
turn n t q = when end ⇒ refuse n mark ∣ when (λ b. eqb b q) ⇒ stop ∣ t

abbrev between : ℕ → Rule → ℕ → Rule
between n t q = marked (step ⨾ many (turn n t q) ⨾ step)

abbrev either : ℕ → Rule → Rule
either n t = when (is "'") ⇒ between n t (code "'") ∣ between n t (code "\"")

-- Inside a string a backslash is refused where it stands, a line end from the quote on.
abbrev pub in_string : Rule
in_string = when (is "\\") ⇒ refuse unexpected here ∣ when line_end ⇒ refuse unexpected from_mark ∣ step

module _ (s : List ℕ) (F e p n : ℕ) (t : Rule) (q : ℕ) where
  turn_end : end (byte_at s p) ≡ true → parse s F (turn n t q) e p ≡ trouble n e e 0 0
  unfolding parse
  turn_end h = rw h

  module _ (h : end (byte_at s p) ≡ false) where
    turn_close : eqb (byte_at s p) q ≡ true → parse s F (turn n t q) e p ≡ got false nil p
    unfolding parse
    turn_close k = rw (h, k)

    turn_in : eqb (byte_at s p) q ≡ false → parse s F (turn n t q) e p ≡ parse s F t e p
    unfolding parse
    turn_in k = rw (h, k)

module _ (s : List ℕ) (F e p : ℕ) where
  string_escape : is "\\" (byte_at s p) ≡ true → parse s F in_string e p ≡ trouble unexpected p p 0 0
  unfolding parse
  string_escape h = rw h

  module _ (h : is "\\" (byte_at s p) ≡ false) where
    string_break : line_end (byte_at s p) ≡ true → parse s F in_string e p ≡ trouble unexpected e p 0 0
    unfolding parse
    string_break k = rw (h, k)

    string_step : line_end (byte_at s p) ≡ false → p < length s
        → parse s F in_string e p ≡ got true (byte (byte_at s p) nil) (p + 1)
    unfolding parse
    string_step k i = rw (h, k, lt-ltb p (length s) i)

-- The rule for either quote is the rule for the byte that is there.
either_is : (n : ℕ) (t : Rule) (s : List ℕ) (at : ℕ) → quote (byte_at s at) ≡ true
    → read_at s (either n t) at ≡ read_at s (between n t (byte_at s at)) at
unfolding parse quote
either_is n t s at h = go (is "'" (byte_at s at)) refl
  where
    third : (x y : Bool) → pick x true y ≡ true → y ≡ false → x ≡ true
    third true y a b = refl
    third false y a b = never (sym b ∙ a)

    read : ℕ → Answer
    read q = read_at s (between n t q) at

    go : (x : Bool) → is "'" (byte_at s at) ≡ x → pick x (read (code "'")) (read (code "\"")) ≡ read (byte_at s at)
    go true e = ap read (sym (eqb-true (byte_at s at) (code "'") e))
    go false e =
        ap read (sym (eqb-true (byte_at s at) (code "\"") (third (is "\"" (byte_at s at)) (is "'" (byte_at s at)) h e)))

-- ---- the loop

-- Behind the quote q, which stands at `at`, the loop has come to p.
pub record Quoted (n : ℕ) (t : Rule) (s : List ℕ) (at q p : ℕ) : Type 0 where
  pub opens : quote (byte_at s at) ≡ true
  pub first : q ≡ byte_at s at
  pub turns : Turns s (turn n t (byte_at s at)) at (at + 1) p

-- A quote stands within the input.
quote_inside : (s : List ℕ) (at : ℕ) → quote (byte_at s at) ≡ true → at < length s
unfolding quote
quote_inside s at h = test_inside quote refl s at h

module _ (s : List ℕ) (at : ℕ) (o : quote (byte_at s at) ≡ true) where
  -- Behind it is within the input.
  pub quote_asked : at + 1 ≤ length s
  quote_asked = let i = quote_inside s at o in omega arith

-- Behind the quote.
pub quote_begins : {n : ℕ} {t : Rule} {s : List ℕ} {at q : ℕ} → quote (byte_at s at) ≡ true → q ≡ byte_at s at
    → Quoted n t s at q (at + 1)
quote_begins {n} {t} {s} {at} h e =
    let i = quote_inside s at h in
    record { opens = h; first = e; turns = turns_begin s (turn n t (byte_at s at)) at (at + 1) (omega arith) }

module _ {n : ℕ} {t : Rule} {s : List ℕ} {at q p : ℕ} (v : Quoted n t s at q p) where
  starts : at < length s
  starts = quote_inside s at v.opens

  -- The turns refuse; they end at the same quote.
  refuses : {m a b c d : ℕ} → parsed s (turn n t (byte_at s at)) at p ≡ trouble m a b c d
      → read_at s (either n t) at ≡ trouble m a b c d
  unfolding parse
  refuses e = either_is n t s at v.opens ∙ go (turns_no v.turns e)
    where
      go : {m a b c d : ℕ} → parsed s (many (turn n t (byte_at s at))) at (at + 1) ≡ trouble m a b c d
          → read_at s (between n t (byte_at s at)) at ≡ trouble m a b c d
      go h = rw (lt-ltb at (length s) starts, h)

  closes : end (byte_at s p) ≡ false → eqb (byte_at s p) (byte_at s at) ≡ true → p < length s
      → read_at s (either n t) at ≡ got true (byte (byte_at s at) nil ⋈ (v.turns.acc ⋈ byte (byte_at s p) nil)) (p + 1)
  unfolding parse
  closes x z j =
      either_is n t s at v.opens
      ∙ go (turns_end v.turns (turn_close s (suc (length s)) at p n t (byte_at s at) x z))
    where
      go : {o : Forest} → parsed s (many (turn n t (byte_at s at))) at (at + 1) ≡ got true o p
          → read_at s (between n t (byte_at s at)) at
          ≡ got true (byte (byte_at s at) nil ⋈ (o ⋈ byte (byte_at s p) nil)) (p + 1)
      go h = rw (lt-ltb at (length s) starts, h, lt-ltb p (length s) j)

-- ---- a quoted attribute string

quoted_as : (s : List ℕ) (at : ℕ) {x : Answer} → read_at s (either quoted_never_closed step) at ≡ x
    → read_at s quoted at ≡ and_then x (λ a o p. got a (group (node Kind.quoted 0) o nil) p)
unfolding parse quoted quoted_by quoted_turn
quoted_as s at e = ap (λ (x : Answer). and_then x (λ a o p. got a (group (node Kind.quoted 0) o nil) p)) e

-- A byte is not the end.
no_end : (s : List ℕ) → ((k : ℕ) → Fits w8 (get_or s k 0)) → (i : ℕ) → i < length s → end (byte_at s i) ≡ false
no_end s each i k =
    let f = (each i).fits in
    let x = inside s i 0 256 k in
    ne_eqb (byte_at s i) 256 (λ z. omega arith)

module _
    (s : List ℕ) (at : ℕ) (each : (k : ℕ) → Fits w8 (get_or s k 0)) {p : ℕ} (o : quote (byte_at s at) ≡ true)
    (l : First (only (get_or s at 0)) s (at + 1) p)
  where
    abbrev q : ℕ
    q = get_or s at 0

    e : q ≡ byte_at s at
    e = inside s at 0 256 (quote_inside s at o)

    -- Up to the same quote, or to the end.
    scanned : Quoted quoted_never_closed step s at q p
    scanned =
        let v = quote_begins {n = quoted_never_closed} {t = step} o e in
        record { opens = o; first = e; turns = turns_over (only q) v.turns l.clear passes }
      where
        passes : (i : ℕ) → i < length s → only q (byte_at s i) ≡ false
            → parsed s (turn quoted_never_closed step (byte_at s at)) at i ≡ got true (byte (byte_at s i) nil) (i + 1)
        passes i k n =
            turn_in s _ at i quoted_never_closed step (byte_at s at) (no_end s each i k)
            (sym (ap (eqb (byte_at s i)) e) ∙ n)
            ∙ step_is s _ at i k

    -- The input ends.
    pub quoted_open : length s ≤ p → Leaf nothing (No quoted_never_closed at at 0 0) s quoted at 2
    quoted_open h =
        let x = eq-eqb (byte_at s p) 256 (get_or-eq_default s 256 h) in
        leaf_stop nothing s quoted at 2 refl
        (quoted_as s at (refuses scanned (turn_end s (suc (length s)) at p quoted_never_closed step (byte_at s at) x)))

    -- The same quote.
    pub quoted_ends : p < length s → Leaf nothing (Got (p + 1) 0) s quoted at 2
    quoted_ends i =
        let k = l.clear.past in
        let x = closes scanned (no_end s each p i) (sym (ap (eqb (byte_at s p)) e) ∙ l.met i) i in
        leaf_done nothing s quoted at 2 (p + 1) 0 (quoted_as s at x) refl (omega arith)

-- ---- a string inside braces

module _ {s : List ℕ} {at q p : ℕ} (v : Quoted string_never_closed in_string s at q p) where
  -- The input ends.
  pub string_open : length s ≤ p → Leaf nothing (No string_never_closed at at 0 0) s string at 2
  unfolding string string_by string_turn
  string_open h =
      let x = eq-eqb (byte_at s p) 256 (get_or-eq_default s 256 h) in
      leaf_stop nothing s string at 2 refl
      (refuses v (turn_end s (suc (length s)) at p string_never_closed in_string (byte_at s at) x))

  module _
      (i : p < length s) (each : (k : ℕ) → Fits w8 (get_or s k 0)) {b : ℕ} (y : b ≡ byte_at s p)
    where
      -- The same quote.
      pub string_ends : b ≡ q → Leaf nothing (Got (p + 1) 0) s string at 2
      unfolding string string_by string_turn
      string_ends z =
          let o = v.turns.past in
          let e = closes v (no_end s each p i) (eq-eqb _ _ (sym y ∙ z ∙ v.first)) i in
          leaf_done nothing s string at 2 (p + 1) 0 e refl (omega arith)

      module _ (z : b ≡ q → ⊥) where
        other : parsed s (turn string_never_closed in_string (byte_at s at)) at p ≡ parsed s in_string at p
        other =
            turn_in s (suc (length s)) at p string_never_closed in_string (byte_at s at) (no_end s each p i)
            (ne_eqb _ _ (λ e. z (y ∙ e ∙ sym v.first)))

        -- A backslash: there.
        pub string_escaped : b ≡ code "\\" → Leaf nothing (No unexpected p p 0 0) s string at 2
        unfolding string string_by string_turn
        string_escaped k =
            leaf_stop nothing s string at 2 refl
            (refuses v (other ∙ string_escape s (suc (length s)) at p (byte_is y k)))

        module _ (l : b ≡ code "\\" → ⊥) {t : Bool} (w : t ≡ line_end b) where
          -- A line end: from the quote to it.
          pub string_broken : t ≡ true → Leaf nothing (No unexpected at p 0 0) s string at 2
          unfolding string string_by string_turn
          string_broken k =
              leaf_stop nothing s string at 2 refl
              (refuses v (other ∙ string_break s (suc (length s)) at p (byte_not y l) (tested line_end y w k)))

          -- Another byte.
          pub string_goes_on : t ≡ false → Quoted string_never_closed in_string s at q (p + 1)
          string_goes_on k =
              let e = other ∙ string_step s (suc (length s)) at p (byte_not y l) (tested line_end y w k) i in
              record { opens = v.opens; first = v.first; turns = turns_more v.turns e (omega arith) (omega arith) }

pub ruleset quote_steps = (
  results_made,
  quote_begins,
  quoted_open,
  quoted_ends,
  string_open,
  string_ends,
  string_escaped,
  string_broken,
  string_goes_on,
)

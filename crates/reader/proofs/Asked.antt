-- What the calls of the cycle's readers ask.
-- A value that the code has copied since is a variable of its own, with an equation.
use mathlib.Core.Path.{◌≡◌, sym, ap, ◌∙◌}
use mathlib.Core.Bool.{Bool, true}
use mathlib.Core.List.{List}
use Prim.Native.Char.{code}
use Prim.Native.Nat.{ℕ, ◌+◌, ◌*◌, ◌≤◌, ◌<◌, ◌^◌}
use native.Mathlib.Omega.{arith}
use lib.Dec.{lit<}
use lib.ListN.{length}
use Rattle.lex.proofs.Results.{results}
use mir.Syntax.{w64}
use mir.Val.{Fits}
use Rattle.rules.specs.Forest.{Forest}
use Rattle.rules.specs.Rule.{Rule}
use Rattle.rules.specs.Parse.{byte_at}
use Rattle.rules.specs.Record.{row_words}
use Rattle.jsx.specs.Kind as Kind
use Rattle.jsx.specs.Byte.{digit, quote}
use Rattle.jsx.specs.Blank.{pass}
use Rattle.jsx.specs.Name.{opens_name}
use Rattle.jsx.specs.Text.{in_text}
use Rattle.jsx.specs.Expression.{Inner}
use Rattle.lex.specs.Contract.{nothing, Leaf, Past}
use Rattle.lex.specs.Answer.{Ans}
use Rattle.lex.specs.Answer as A
use Rattle.lex.proofs.Laws as Lex
use Rattle.table.specs.Slot.{Seat, seat_inside, seat_behind}
use Rattle.table.specs.Contract.{Enterable, Words}
use Rattle.table.specs.Reader.{Room, Made}
use Rattle.table.proofs.Asked.{reader_asked, room_here, leaf_inside, past_inside}
use Rattle.closing.specs.declared.Opened.{Opened}
use Rattle.closing.specs.Close.{Opening}
use Rattle.reader.specs.Contract as T
use Rattle.reader.specs.Contract.{TagAns, plain, TagMade, Ready}
use Rattle.token.proofs.Rules as K
use Rattle.reader.proofs.Steps.{cycle_asked, node_asked}

-- ---- bytes that were seen

module _ (s : List ℕ) (at : ℕ) {b : ℕ} (e : b ≡ byte_at s at) where
  -- A byte below 256 stands within the input.
  pub seen_inside : {k : ℕ} (u : List ℕ) {y : ℕ} → b ≡ k → k < 256 → y ≡ at → u ≡ s → y < length u
  seen_inside {k} u h i f g = rw (f, g) (Lex.before_end s at k (sym e ∙ h) i)

  -- It is handed on.
  pub seen_byte : {k : ℕ} (u : List ℕ) {y : ℕ} → b ≡ k → y ≡ at → u ≡ s → byte_at u y ≡ k
  seen_byte u h f g = rw (f, g) (sym e ∙ h)

  -- So is what a test of it says.
  pub seen_name : {t : Bool} (u : List ℕ) {y : ℕ} → t ≡ opens_name b → t ≡ true → y ≡ at → u ≡ s
      → opens_name (byte_at u y) ≡ true
  seen_name u h i f g = rw (f, g) (Lex.tested opens_name e h i)

  -- A digit was seen.
  pub seen_digit : {t : Bool} (u : List ℕ) {y : ℕ} → t ≡ digit b → t ≡ true → y ≡ at → u ≡ s
      → digit (byte_at u y) ≡ true
  seen_digit u h i f g = rw (f, g) (Lex.tested digit e h i)

  -- A quote was seen.
  pub seen_quote : {t : Bool} (u : List ℕ) {y : ℕ} → t ≡ quote b → t ≡ true → y ≡ at → u ≡ s
      → quote (byte_at u y) ≡ true
  seen_quote u h i f g = rw (f, g) (Lex.tested quote e h i)

  -- A byte of a text was seen.
  pub seen_text : {t : Bool} (u : List ℕ) {y : ℕ} → t ≡ in_text b → t ≡ true → y ≡ at → u ≡ s
      → in_text (byte_at u y) ≡ true
  seen_text u h i f g = rw (f, g) (Lex.tested in_text e h i)

-- A byte that was seen where a reader stands is within the input.
module _ {c : ℕ} {s : List ℕ} {at : ℕ} {q : Seat} (room : Room c s at q) {b : ℕ} where
  -- A `!` was seen.
  pub bang_inside : b ≡ code "!" → b ≡ byte_at s at → (u : List ℕ) {y : ℕ} → y ≡ at → u ≡ s → y < length u
  bang_inside h e u f g = seen_inside s at e u h (lit< tt) f g

  -- A `-` was seen.
  pub dash_inside : b ≡ code "-" → b ≡ byte_at s at → (u : List ℕ) {y : ℕ} → y ≡ at → u ≡ s → y < length u
  dash_inside h e u f g = seen_inside s at e u h (lit< tt) f g

  -- A `(` was seen.
  pub paren_inside : b ≡ code "(" → b ≡ byte_at s at → (u : List ℕ) {y : ℕ} → y ≡ at → u ≡ s → y < length u
  paren_inside h e u f g = seen_inside s at e u h (lit< tt) f g

  -- A `[` was seen.
  pub bracket_inside : b ≡ code "[" → b ≡ byte_at s at → (u : List ℕ) {y : ℕ} → y ≡ at → u ≡ s → y < length u
  bracket_inside h e u f g = seen_inside s at e u h (lit< tt) f g

  -- A `{` was seen.
  pub brace_inside : b ≡ code "{" → b ≡ byte_at s at → (u : List ℕ) {y : ℕ} → y ≡ at → u ≡ s → y < length u
  brace_inside h e u f g = seen_inside s at e u h (lit< tt) f g

  -- A `<` was seen.
  pub less_inside : b ≡ code "<" → b ≡ byte_at s at → (u : List ℕ) {y : ℕ} → y ≡ at → u ≡ s → y < length u
  less_inside h e u f g = seen_inside s at e u h (lit< tt) f g

-- A `?` that was seen behind a leaf is.
pub question_inside : {w : Bool → Forest → ℕ} {r : Ans} {s : List ℕ} {g : Rule} {at k p j b : ℕ} → Leaf w r s g at k
    → r ≡ A.Got p j
    → b ≡ code "?"
    → b ≡ byte_at s p
    → (u : List ℕ) {y : ℕ} → y ≡ p
    → u ≡ s
    → y < length u
question_inside {s = s} {p = p} l h i e u f g = seen_inside s p e u i (lit< tt) f g

-- ---- a byte and blanks that were passed

-- A leaf has passed them.
pub passed : {r : Ans} {s : List ℕ} {at p j : ℕ} → Leaf nothing r s pass at 1 → r ≡ A.Got p j
    → {u : List ℕ} {x y : ℕ} → y ≡ p
    → u ≡ s
    → x ≡ at
    → Past y u pass x 1
passed l h e f g = rw (e, f, g) (record { is = Lex.leaf_got K.goes_pass l h; far = l.far _ _ h })

-- That is handed on.
pub passed_on : {s : List ℕ} {at p k : ℕ} {x : Rule} → Past p s x at k
    → {u : List ℕ} {y z : ℕ} → y ≡ p
    → u ≡ s
    → z ≡ at
    → Past y u x z k
passed_on l e f g = rw (e, f, g) l

-- A place behind a leaf and one more byte.
pub leaf_one_more : {c : ℕ} {s : List ℕ} {at : ℕ} {q : Seat} {w : Bool → Forest → ℕ} {r : Ans} {g : Rule}
    {x k p j y : ℕ}
    → Room c s at q
    → Leaf w r s g x k
    → r ≡ A.Got p j
    → y ≡ p
    → Fits w64 (y + 1)
leaf_one_more room l h e =
    let far = l.far _ _ h in
    let short = room.short in
    omega arith

module _ {c : ℕ} {s : List ℕ} {at : ℕ} {q : Seat} (room : Room c s at q) {p k : ℕ}
    {g : Rule} (l : Past p s g at k) where
  -- Room inside the record here, behind bytes that were passed.
  pub past_room : {d : ℕ} {u : List ℕ} {y : ℕ} {q₁ : Seat}
      → c + 1 ≤ d + 2 * k
      → c ≤ 100
      → u ≡ s
      → y ≡ p
      → q₁ ≡ seat_inside q
      → Room d u y q₁
  past_room i j e f h =
      let far = l.far in
      let few = room.few in
      let short = room.short in
      rw (e, f, h) (record {
        short = short;
        inside = far.1;
        few = omega arith;
        held = omega arith;
        shallow = omega (arith, room.shallow);
      })

  -- Room one record deeper.
  pub past_room_deep : {d : ℕ} {u : List ℕ} {y : ℕ} {q₁ q₂ : Seat}
      → c + 2 ≤ d + 2 * k
      → c ≤ 100
      → u ≡ s
      → y ≡ p
      → q₁ ≡ seat_inside q
      → q₂ ≡ seat_inside q₁
      → Room d u y q₂
  past_room_deep i j e f h₁ h₂ =
      let far = l.far in
      let few = room.few in
      let short = room.short in
      rw (e, f, h₂, h₁) (record {
        short = short;
        inside = far.1;
        few = omega arith;
        held = omega arith;
        shallow = omega (arith, room.shallow);
      })

-- ---- by reader

pub ruleset asked = (cycle_asked, leaf_one_more)

pub ruleset primary_asked = (results, room_here, seen_name, seen_digit, seen_quote, paren_inside)

pub ruleset tail_asked = (results, room_here, bracket_inside, paren_inside)

pub ruleset unary_asked = (results, room_here, bang_inside, dash_inside, less_inside)

pub ruleset lone_asked = (cycle_asked, passed)

pub ruleset cond_asked = (cycle_asked, question_inside)

pub ruleset value_asked = (results, room_here, leaf_inside, seen_quote, brace_inside, less_inside, passed, leaf_one_more)

pub ruleset attr_asked = (node_asked, brace_inside, passed)

pub ruleset element_asked = (results, room_here, past_inside, passed_on, seen_byte)

pub ruleset child_asked = (results, room_here, seen_text, less_inside, brace_inside, passed, seen_byte)

pub ruleset wrapped_asked = (node_asked, past_room)

-- ---- a content

module _ {s : List ℕ} {at p v : ℕ} {q : Seat} (ready : Ready s at p v q) where
  few : q.number + 1 + v ≤ 2 * p + 3
  few = ready.room.few

  low : p ≤ 1_048_576
  low = omega (arith, ready.room.inside, ready.room.short)

  -- The record may be entered;
  pub content_enter : {q₁ : Seat} → q₁ ≡ q → Enterable q₁
  content_enter e =
      let n = few in
      let p = low in
      let deep = ready.room.shallow in
      rw e (record { small = omega arith; shallow = omega arith })

  -- the seat inside it, behind what it holds, is within 32 bits,
  pub content_behind_lem : {q₁ : Seat} {x y : ℕ} → q₁ ≡ seat_inside q → x ≡ q₁.number → y ≡ v → x + y < 2 ^ 32
  content_behind_lem f e g = rw (e, f, g) (omega (arith, few, low))

  -- and the place of the next record.
  pub content_next : {y : ℕ} → y ≡ v → Fits w64 (y + 1)
  content_next e = omega (arith, few, low)

  -- So is its place in the table.
  pub content_row : {y : ℕ} → y ≡ v + 1 → Fits w64 (row_words * y)
  content_row e = omega (arith, few, low)

  -- Room for the children.
  pub content_room : {q₁ q₂ : Seat} {u : List ℕ} {y : ℕ} → q₁ ≡ seat_inside q → q₂ ≡ seat_behind v q₁ → u ≡ s → y ≡ p
      → Room 3 u y q₂
  content_room f g e h = rw (e, h, g, f) ready.room

  module _ {r : Ans} {g : Rule} {k : ℕ} {q₁ : Seat} {j : ℕ} {t t' : List ℕ} (l : Made r s g p k q₁ j t t') {z m : ℕ}
      (h : r ≡ A.Got z m) where
    -- Room for the closing tag.
    pub shut_room : {u : List ℕ} {y w : ℕ} {q₂ : Seat} → u ≡ s → y ≡ z → w ≡ v + m → q₂ ≡ q
        → Room 3 u y (seat_behind w (seat_inside q₂))
    shut_room e f g₁ g₂ =
        let far = l.of.far _ _ h in
        rw (e, f, g₁, g₂)
        (record {
          short = ready.room.short;
          inside = far.1;
          few = omega (arith, few);
          held = ready.room.held;
          shallow = omega (arith, ready.room.shallow);
        })

    -- It begins no earlier than the tag.
    pub shut_behind : {x y : ℕ} → x ≡ at → y ≡ z → x ≤ y
    shut_behind e f =
        let far = l.of.far _ _ h in
        let from = ready.from in
        rw (e, f) (omega arith)

    -- The records so far are a number.
    pub shut_sum : {x y : ℕ} → x ≡ v → y ≡ m → Fits w64 (x + y)
    shut_sum e f = let far = l.of.far _ _ h in omega (arith, few, low)

-- The parent of the record is a number.
pub content_held : {s : List ℕ} {at p v : ℕ} {q q₁ : Seat} → Ready s at p v q → q₁ ≡ q → q₁.parent < 2 ^ 32
content_held ready e = rw e ready.held

-- The name is handed on.
pub opening_on : {s : List ℕ} {o : Opened} → Opening s o → {u : List ℕ} {o₁ : Opened} → u ≡ s → o₁ ≡ o → Opening u o₁
opening_on v e f = rw (e, f) v

pub ruleset content_asked = (
  results,
  content_enter,
  content_behind_lem,
  content_next,
  content_row,
  content_room,
  content_held,
  shut_room,
  shut_behind,
  shut_sum,
  opening_on,
)

-- ---- an element

module _ {s : List ℕ} {at : ℕ} {q : Seat} (room : Room 3 s at q) {a : ℕ} (pa : Past a s pass at 1) (t : List ℕ)
    {q₂ : Seat}
    {r : TagAns} {n : Inner} {t₁ t₂ : List ℕ} (l : TagMade r s n a q₂ t₁ t₂)
    {z m e k g : ℕ} (h : r ≡ T.Got z m e k g) where
  tag_far : (2 * a + m ≤ 2 * z) × (z ≤ length s) × (a + 2 ≤ z)
  unfolding plain
  tag_far = l.made.of.far z m (ap plain h)

  -- The tag has two bytes at least for its own two records, and ends within the input.
  tag_wide : 2 * at + (m + 2) ≤ 2 * z
  tag_wide =
      let far = tag_far in
      let fp = pa.far in
      omega arith

  tag_ends : z ≤ 1_048_576
  tag_ends =
      let far = tag_far in
      let short = room.short in
      omega arith

  -- The words of its opening tag are numbers,
  pub tag_words : {q₃ : Seat} {x y w : ℕ} → q₃ ≡ q → x ≡ at → y ≡ z → w ≡ m
      → Words (seat_inside q₃) Kind.opening_tag x y 0 w
  tag_words f₁ f₂ f₃ f₄ =
      rw (f₁, f₂, f₃, f₄) (omega (arith, tag_wide, tag_ends, room.few, room.held))

  -- and those of its own record.
  pub single_words : {q₃ : Seat} {x y w : ℕ} → q₃ ≡ q → x ≡ at → y ≡ z → w ≡ m + 1 → Words q₃ Kind.element x y 0 w
  single_words f₁ f₂ f₃ f₄ =
      rw (f₁, f₂, f₃, f₄) (omega (arith, tag_wide, tag_ends, room.few, room.held))

  -- So are the counts of records.
  pub tag_one_more : {y : ℕ} → y ≡ m → Fits w64 (y + 1)
  tag_one_more f = omega (arith, tag_wide, tag_ends)

  -- With the element there is one more.
  pub tag_two_more : {y : ℕ} → y ≡ m → Fits w64 (y + 2)
  tag_two_more f = omega (arith, tag_wide, tag_ends)

  -- The name was read.
  pub tag_opening : {u : List ℕ} {o : Opened} → u ≡ s → o ≡ record { at = at; start = a; end = e; count = k }
      → Opening u o
  tag_opening f i =
      let fp = pa.far in
      let name = l.name z m e k g h in
      rw (f, i) (record { read = name.0; all = name.1; behind = omega arith })

  -- Room for its content.
  pub tag_ready : {u : List ℕ} {x y w : ℕ} {q₃ : Seat} → u ≡ s → x ≡ at → y ≡ z → w ≡ m + 1 → q₃ ≡ q → Ready u x y w q₃
  tag_ready f₁ f₂ f₃ f₄ f₅ =
      let far = tag_far in
      let fp = pa.far in
      let few = room.few in
      let short = room.short in
      rw (f₁, f₂, f₃, f₄, f₅)
      (record {
        room = record {
          short = short;
          inside = far.1;
          few = omega arith;
          held = omega arith;
          shallow = omega (arith, room.shallow);
        };
        held = room.held;
        from = omega arith;
      })

pub ruleset named_asked = (
  reader_asked,
  past_room_deep,
  tag_words,
  single_words,
  tag_one_more,
  tag_two_more,
  tag_opening,
  tag_ready,
)

-- ---- a fragment

module _ {s : List ℕ} {at : ℕ} {q : Seat} (room : Room 3 s at q) {a : ℕ} (pa : Past a s pass at 1) where
  -- Its opening tag ends within the input.
  pub fragment_one_more : {y : ℕ} → y ≡ a → Fits w64 (y + 1)
  fragment_one_more f =
      let fp = pa.far in
      let short = room.short in
      omega arith

  module _ (b : byte_at s a ≡ code ">") where
    fragment_ends : a < length s
    fragment_ends = Lex.before_end s a (code ">") b (lit< tt)

    -- The words of its opening tag are numbers.
    pub fragment_words : {q₁ : Seat} {x y : ℕ} → q₁ ≡ q → x ≡ at → y ≡ a + 1
        → Words (seat_inside q₁) Kind.opening_tag x y 0 0
    fragment_words f₁ f₂ f₃ =
        let fp = pa.far in
        let few = room.few in
        let short = room.short in
        let held = room.held in
        let deep = room.shallow in
        let ends = fragment_ends in
        rw (f₁, f₂, f₃) (omega arith)

    -- Room for its children.
    pub fragment_room : {u : List ℕ} {y : ℕ} {q₁ q₂ : Seat} → q₁ ≡ seat_inside q → q₂ ≡ seat_behind 1 q₁ → u ≡ s
        → y ≡ a + 1
        → Room 3 u y q₂
    fragment_room f₁ f₂ f₃ f₄ =
        let fp = pa.far in
        let few = room.few in
        let short = room.short in
        let ends = fragment_ends in
        rw (f₃, f₄, f₂, f₁)
        (record {
          short = short;
          inside = omega arith;
          few = omega arith;
          held = omega arith;
          shallow = omega (arith, room.shallow);
        })

    module _ {r : Ans} {g : Rule} {p k : ℕ} {q₁ : Seat} {j : ℕ} {t t' : List ℕ} (l : Made r s g p k q₁ j t t')
        (ep : p ≡ a + 1) {z m : ℕ} (h : r ≡ A.Got z m) where
      -- Room for its closing tag,
      pub fragment_shut : {u : List ℕ} {y w : ℕ} {q₂ : Seat} → u ≡ s → y ≡ z → w ≡ m + 1 → q₂ ≡ q
          → Room 3 u y (seat_behind w (seat_inside q₂))
      fragment_shut e f g₁ g₂ =
          let far = l.of.far _ _ h in
          let fp = pa.far in
          let few = room.few in
          let short = room.short in
          let ends = fragment_ends in
          rw (e, f, g₁, g₂)
          (record {
            short = short;
            inside = far.1;
            few = omega arith;
            held = omega arith;
            shallow = omega (arith, room.shallow);
          })

      -- which begins behind it.
      pub fragment_behind : {x y : ℕ} → x ≡ at → y ≡ z → x ≤ y
      fragment_behind e f =
          let far = l.of.far _ _ h in
          let fp = pa.far in
          rw (e, f) (omega arith)

      -- The records so far are a number.
      pub fragment_sum : {y : ℕ} → y ≡ m → Fits w64 (y + 1)
      fragment_sum e =
          let far = l.of.far _ _ h in
          let short = room.short in
          omega arith

-- An opening tag's width.
pub fragment_wide : {s : List ℕ} {at a k : ℕ} {g : Rule} → Past a s g at k → {x y : ℕ} → x ≡ at → y ≡ a + 1 → x ≤ y
fragment_wide pa e f = let fp = pa.far in rw (e, f) (omega arith)

pub ruleset fragment_asked = (
  reader_asked,
  fragment_one_more,
  fragment_words,
  fragment_room,
  fragment_shut,
  fragment_behind,
  fragment_sum,
  fragment_wide,
)

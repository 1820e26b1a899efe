-- What the contracts of the cycle say besides those of every reader.
use Rattle.std.specs.Prelude.{ℕ, ◌+◌, ◌*◌, ◌≤◌, ◌<◌, ◌^◌, ◌≡◌, true, false, List, Result, Ok, Err}
use Rattle.rules.specs.Forest.{nil}
use Rattle.rules.specs.Parse.{got, read_at}
use Rattle.rules.specs.Record.{row_words}
use Rattle.jsx.specs.Kind as Kind
use Rattle.jsx.specs.Expression.{Inner}
use Rattle.jsx.specs.Element.{child, children}
use Rattle.lex.specs.Contract.{out_of}
use Rattle.lex.specs.Answer.{Ans}
use Rattle.lex.specs.Answer as A
use Rattle.table.specs.Slot.{Seat, seat_inside, seat_behind}
use Rattle.table.specs.Reader.{Room, Made}
use Rattle.same.specs.Contract.{Named}
use Rattle.closing.specs.declared.Opened.{Opened}
use Rattle.closing.specs.Close.{name_count, closing_named}
use Rattle.row.specs.Shut.{Shut}
use Rattle.lex.specs.declared.refusal.Refusal.{Refusal}
use Rattle.reader.specs.declared.Tagged.{Tagged}
use Rattle.reader.specs.Cut.{in_tag}

-- An opening tag's answer: its end, the records in it, its name's end and the name's records, and 1 where a content
-- follows, else 0; or a refusal.
pub data TagAns : Type 0 where
  Got : ℕ → ℕ → ℕ → ℕ → ℕ → TagAns
  No : ℕ → ℕ → ℕ → ℕ → ℕ → TagAns

-- The same without what it says of the name and the content.
unfoldable pub plain : TagAns → Ans
plain (Got z m e k g) = A.Got z m
plain (No n a b c d) = A.No n a b c d

-- How the code says it.
unfoldable pub tag_refused : Refusal → TagAns
tag_refused e = No (A.number e.reason) e.first.start e.first.end e.second.start e.second.end

abbrev pub tagged_in : Result Tagged Refusal → TagAns
tagged_in (Ok x) = Got x.end x.records x.name_end x.name_records (A.flag x.goes_on)
tagged_in (Err e) = tag_refused e

-- The inside of an opening tag was read from its name on, at a. Where it was got, its name ends at e and has k records,
-- and g is 0 where the tag stops, with no content.
pub record TagMade (r : TagAns) (s : List ℕ) (n : Inner) (a : ℕ) (q : Seat) (t t' : List ℕ) : Type 0 where
  pub made : Made (plain r) s (in_tag n) a 2 q 0 t t'
  pub name : (z m e k g : ℕ) → r ≡ Got z m e k g → Named s a e × (k ≡ name_count s a)
  pub stops : (z m e k g : ℕ) → r ≡ Got z m e k g → g ≡ 0
      → read_at s (in_tag n) a ≡ got false (out_of (read_at s (in_tag n) a)) z
  pub goes : (z m e k g : ℕ) → r ≡ Got z m e k g → (g ≡ 0 → ⊥)
      → read_at s (in_tag n) a ≡ got true (out_of (read_at s (in_tag n) a)) z

-- Behind v records below the record in the seat q, which begins at `at`, there is room at p.
pub record Ready (s : List ℕ) (at p v : ℕ) (q : Seat) : Type 0 where
  pub room : Room 3 s p (seat_behind v (seat_inside q))
  pub held : q.parent < 2 ^ 32
  pub from : at ≤ p

-- Children were read from p on, behind v records below an element that stands in the seat q; where they were got, its
-- closing tag was read, and the element's record stored.
pub record Content (r : Ans) (s : List ℕ) (n : Inner) (o : Opened) (p v : ℕ) (q : Seat) (t t' : List ℕ) : Type 0 where
  pub held : Ans
  pub between : List ℕ
  pub made : Made held s (children n) p 0 (seat_behind v (seat_inside q)) (row_words * (v + 1)) t between
  pub refuses : (n a b c d : ℕ) → held ≡ A.No n a b c d → r ≡ A.No n a b c d
  pub ends : (c k : ℕ) → held ≡ A.Got c k
      → Shut r (closing_named s o c) s Kind.element 1 o.at c (v + k) q between t'

-- One child was read; or it stays, and the children end here.
pub record ChildMade (r : Ans) (s : List ℕ) (n : Inner) (at : ℕ) (q : Seat) (t t' : List ℕ) : Type 0 where
  pub made : Made r s (child n) at 0 q 0 t t'
  pub stays : (m : ℕ) → r ≡ A.Got at m → read_at s (child n) at ≡ got false nil at
  pub goes : (z m : ℕ) → r ≡ A.Got z m → (z ≡ at → ⊥)
      → read_at s (child n) at ≡ got true (out_of (read_at s (child n) at)) z

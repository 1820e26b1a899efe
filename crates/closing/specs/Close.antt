-- A closing tag with the verdict on it, and what the contracts of its readers say.
use Prim.Native.Char.{code}
use Rattle.std.specs.Prelude.{ℕ, ◌+◌, ◌-◌, ◌≤◌, ◌<◌, ◌≡◌, Bool, true, List, length}
use Rattle.rules.specs.Forest.{width, inside}
use Rattle.rules.specs.Parse.{Answer, got, and_then, judged, byte_at, read_at}
use Rattle.rules.specs.Record.{count}
use Rattle.jsx.specs.Name.{same, element_name}
use Rattle.jsx.specs.Tag.{close_tag}
use Rattle.jsx.specs.Closing.{TagName, further_on, name_in, compared}
use Rattle.lex.specs.Contract.{out_of, bytes_from, Past}
use Rattle.same.specs.Contract.{Named}
use Rattle.closing.specs.declared.Opened.{Opened}
use Rattle.tag.specs.Token.{close_open}

-- A closing tag at c, with the verdict on it and on a tag that begins at `at`, is w wide and has the name q.
unfoldable pub closing : List ℕ → (at w : ℕ) → TagName → (c : ℕ) → Answer
closing s at w q c =
    and_then (read_at s close_tag c) (λ b r z.
    judged at c (compared w (width r) q (name_in (inside r))) (got true r z))

-- The name at a, of a tag that begins at `at`.
unfoldable pub name_from : List ℕ → (at a : ℕ) → TagName
name_from s at a = further_on (a - at) (name_in (out_of (read_at s element_name a)))

-- The same with the name o. (No verdict on a tag that has a name goes by its width.)
abbrev pub closing_named : List ℕ → Opened → (c : ℕ) → Answer
closing_named s o c = closing s o.at 0 (name_from s o.at o.start) c

-- How many records the name at a has.
abbrev pub name_count : List ℕ → (a : ℕ) → ℕ
name_count s a = count (out_of (read_at s element_name a))

-- An opening tag's name was read.
pub record Opening (s : List ℕ) (o : Opened) : Type 0 where
  pub read : Named s o.start o.end
  pub all : o.count ≡ name_count s o.start
  pub behind : o.at ≤ o.start

-- `<`, `/` and the blanks behind each stand from c to q, and there no `>`.
pub record Slashed (s : List ℕ) (c q : ℕ) : Type 0 where
  pub read : Past q s close_open c 2
  pub named : byte_at s q ≡ code ">" → ⊥

-- `</`, the n bytes from a on, and `>` stand at c.
pub record Closes (s : List ℕ) (c a n : ℕ) : Type 0 where
  pub opens : byte_at s c ≡ code "<"
  pub slash : byte_at s (c + 1) ≡ code "/"
  pub name : same (bytes_from s a n) (bytes_from s (c + 2) n) ≡ true
  pub shut : byte_at s (c + 2 + n) ≡ code ">"
  pub inside : c + 2 + n < length s

-- Where r says so, they do.
pub record Told (r : Bool) (s : List ℕ) (c a n : ℕ) : Type 0 where
  pub so : r ≡ true → Closes s c a n

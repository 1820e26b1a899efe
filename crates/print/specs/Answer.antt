-- The text of an answer: how long it is at most, and when it is whole.
use Rattle.std.specs.Prelude.{ℕ, ◌+◌, ◌*◌, ◌≤◌, ◌<◌, ◌^◌, ◌≡◌, List, length, take}
use Rattle.put.specs.Text.{row_bytes}
use Rattle.stage.specs.Reply.{Reply, Accepted, Refused}

-- The first r bytes of out are the text. (`counts` follows from `inside`; both are what `&out[..r]` asks.)
pub record Whole (r : ℕ) (text : List ℕ) (out : List ℕ) : Type 0 where
  pub inside : r ≤ length out
  pub counts : r ≡ length (take r out)
  pub is : take r out ≡ text

-- The most bytes of an acceptance's text, by its records.
abbrev pub text_room : (records : ℕ) → ℕ
text_room m = 24 + row_bytes * m

-- The most bytes of an answer's text.
abbrev pub most : Reply → ℕ
most (Accepted m) = text_room m
most (Refused n a b c d) = 108

-- A record's number is a word.
abbrev pub Small : Reply → Type 0
Small (Accepted m) = m < 2 ^ 32
Small (Refused n a b c d) = Unit {0}

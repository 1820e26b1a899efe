-- What a method of a text promises.
use Rattle.std.specs.Prelude.{ℕ, ◌≡◌, List, length}
use Rattle.put.specs.declared.text.Text.{Text}
use Rattle.put.specs.Text.{Prints}

-- From one text to the next, in the same lent bytes, these were put behind its end, at most k of them.
pub record Puts (k : ℕ) (bytes : List ℕ) (t t' : Text) : Type 0 where
  pub lent : t'.bytes.ghost_name ≡ t.bytes.ghost_name
  pub long : length t'.bytes.now ≡ length t.bytes.now
  pub put : Prints t'.end t.end k bytes t.bytes.now t'.bytes.now

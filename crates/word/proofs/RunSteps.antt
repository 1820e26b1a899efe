-- Names in braces, runs of bytes that pass a test: what each need of their readers follows from.
use mathlib.Core.Path.{◌≡◌, refl, ap}
use mathlib.Core.Bool.{Bool, true, false}
use mathlib.Core.List.{List}
use Prim.Native.Nat.{ℕ, ◌+◌, ◌<◌}
use lib.ListN.{length}
use borrow.Author.Tests.{lt-ltb}
use Rattle.rules.specs.Forest.{Forest, nil, byte, ◌⋈◌}
use Rattle.rules.specs.Rule.{Test, Rule, stop, step, when, ◌⨾◌, ◌⇒◌∣◌}
use Rattle.rules.specs.Parse.{got, trouble, pick, and_then, behind, byte_at, parse, parsed, read_at}
use Rattle.jsx.specs.Refusal.{unexpected, end_of_input}
use Rattle.jsx.specs.Byte.{end, letter, digit, need}
use Rattle.jsx.specs.Name.{opens_name, in_word}
use Rattle.jsx.specs.Word.{word}
use Rattle.lex.specs.Contract.{nothing, Leaf, Past}
use Rattle.lex.specs.Answer.{Ans}
use Rattle.lex.specs.Answer.{Got}
use Rattle.lex.proofs.Laws.{test_inside, tested, need_fails, leaf_refuses, leaf_done}
use Rattle.lex.proofs.Turns.{Turns}
use Rattle.lex.proofs.Runs.{run, run_begins, run_goes_on, run_ends, past}

-- ---- the end passes no test, so a byte that passes one stands within the input

-- It opens no name.
pub opens_end : opens_name 256 ≡ false
unfolding opens_name letter
opens_end = refl

-- It is in no word.
pub word_end : in_word 256 ≡ false
unfolding in_word opens_name letter digit
word_end = refl

-- A byte that opens a name.
pub opens_inside : (s : List ℕ) (at : ℕ) → opens_name (byte_at s at) ≡ true → at < length s
opens_inside s at h = test_inside opens_name opens_end s at h

-- ---- what the rules read

-- A byte that passes a test, and a rule behind it.
module _ (f : Test) (u : Rule) (s : List ℕ) (at : ℕ) where
  -- It is here, and the rule behind it reads on.
  pub front_got : f (byte_at s at) ≡ true → at < length s → {o : Forest} {p : ℕ} → read_at s u (at + 1) ≡ got true o p
      → read_at s ((when f ⇒ step ∣ need) ⨾ u) at ≡ got true (byte (byte_at s at) nil ⋈ o) p
  unfolding parse
  front_got h i e = rw (h, lt-ltb at (length s) i) (ap (behind (byte (byte_at s at) nil)) e)

  -- A byte that fails the test is what is needed here and does not begin.
  pub front_no : f (byte_at s at) ≡ false → read_at s need at ≡ read_at s ((when f ⇒ step ∣ need) ⨾ u) at
  unfolding parse need
  front_no h = rw h (go (end (byte_at s at)))
    where
      go : (b : Bool) → pick b (trouble end_of_input at at 0 0) (trouble unexpected at at 0 0)
          ≡ and_then (pick b (trouble end_of_input at at 0 0) (trouble unexpected at at 0 0))
          (λ a o p. pick a (behind o (parsed s u 0 p)) (got false o p))
      go true = refl
      go false = refl

-- ---- what a run ends with

module _ {s : List ℕ} {at p b : ℕ} {t : Bool} where
  -- A name inside braces.
  pub word_ends : opens_name (byte_at s at) ≡ true → Turns s (when in_word step stop) 0 (at + 1) p → b ≡ byte_at s p
      → t ≡ in_word b → t ≡ false → Past p s word at 1
  unfolding word
  word_ends o v y i x =
      let h = opens_inside s at o in
      past h v (front_got opens_name (run in_word) s at o h (run_ends v y i x))

-- ---- where it is asked for

-- It is here.
pub past_is : {s : List ℕ} {g : Rule} {at k p : ℕ} → Past p s g at k → Leaf nothing (Got p 0) s g at k
past_is {s} {g} {at} {k} {p} l = leaf_done nothing s g at k p 0 l.is refl l.far

module _ {s : List ℕ} {at b : ℕ} (y : b ≡ byte_at s at) {t : Bool} (i : t ≡ opens_name b)
    (x : t ≡ false) {r : Ans} where
  -- A name inside braces does not begin here.
  pub word_fails : Leaf nothing r s need at 0 → Leaf nothing r s word at 1
  unfolding word
  word_fails l = leaf_refuses l (front_no opens_name (run in_word) s at (tested opens_name y i x)) (need_fails s at)

module _ (s : List ℕ) (at : ℕ) {b : ℕ} (y : b ≡ byte_at s at) {t : Bool} where
  -- The byte that the code has seen opens a name.
  pub opens_asked : t ≡ opens_name b → t ≡ true → opens_name (byte_at s at) ≡ true
  opens_asked i x = tested opens_name y i x

pub ruleset run_steps = (
  opens_end,
  word_end,
  opens_inside,
  run_begins,
  run_goes_on,
  word_ends,
  past_is,
  word_fails,
)

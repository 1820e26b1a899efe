-- Runs of bytes that pass a test: what their rules read, and the loop of code that reads one.
use mathlib.Core.Path.{◌≡◌}
use mathlib.Core.Bool.{Bool, true, false}
use mathlib.Core.List.{List}
use Prim.Native.Nat.{ℕ, suc, ◌+◌, ◌-◌, ◌<◌}
use native.Mathlib.Omega.{arith}
use lib.ListN.{length}
use borrow.Author.Tests.{lt-ltb}
use Rattle.rules.specs.Forest.{Forest, nil, byte}
use Rattle.rules.specs.Rule.{Test, Rule, stop, step, when, many, ◌⇒◌∣◌}
use Rattle.rules.specs.Parse.{got, byte_at, parse, parsed, read_at}
use Rattle.lex.specs.Contract.{Past}
use Rattle.lex.proofs.Laws.{test_inside, tested, known}
use Rattle.lex.proofs.Turns.{Turns, turns_begin, turns_more, turns_end}

-- ---- what the rules read

-- Bytes that pass a test, as many as there are.
abbrev pub run : Test → Rule
run f = many (when f ⇒ step ∣ stop)

module _ (s : List ℕ) (F e p : ℕ) where
  -- A byte that passes a test is passed.
  pub test_step : (f : Test) (u : Rule) → f (byte_at s p) ≡ true → p < length s
      → parse s F (when f step u) e p ≡ got true (byte (byte_at s p) nil) (p + 1)
  unfolding parse
  test_step f u t i = rw (t, lt-ltb p (length s) i)

  -- One that fails it ends the run.
  pub test_stop : (f : Test) (t : Rule) → f (byte_at s p) ≡ false → parse s F (when f t stop) e p ≡ got false nil p
  unfolding parse
  test_stop f t h = rw h

-- ---- the loop

-- Behind the first byte.
pub run_begins : {s : List ℕ} {f : Test} {at : ℕ} → at < length s → Turns s (when f step stop) 0 (at + 1) (at + 1)
run_begins {s} {f} {at} h = turns_begin s (when f step stop) 0 (at + 1) (omega arith)

module _
    {s : List ℕ} {f : Test} {e at p : ℕ} (v : Turns s (when f step stop) e at p)
    {b : ℕ} (y : b ≡ byte_at s p) {t : Bool} (i : t ≡ f b)
  where
    -- A turn comes nearer to the end.
    pub run_nearer : t ≡ true → f 256 ≡ false → length s - (p + 1) < length s - p
    run_nearer x z = let o = test_inside f z s p (tested f y i x) in omega arith

    -- A turn.
    pub run_goes_on : t ≡ true → f 256 ≡ false → Turns s (when f step stop) e at (p + 1)
    run_goes_on x z =
        let o = test_inside f z s p (tested f y i x) in
        turns_more v (test_step s (suc (length s)) e p f stop (tested f y i x) o) (omega arith) (omega arith)

    -- The last byte was passed.
    pub run_ends : t ≡ false → parsed s (run f) e at ≡ got true v.acc p
    run_ends x = turns_end v (test_stop s (suc (length s)) e p f step (tested f y i x))

-- ---- what it ends with

module _
    {f : Test} {s : List ℕ} {at : ℕ} (h : at < length s) {p : ℕ} (v : Turns s (when f step stop) 0 (at + 1) p)
    {g : Rule} {o : Forest}
  where
    -- So a rule that is the run behind its first byte has read up to here.
    pub past : read_at s g at ≡ got true o p → Past p s g at 1
    past e = record { is = known _ e; far = omega arith }

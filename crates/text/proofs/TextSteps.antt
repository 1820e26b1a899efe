-- Texts, step by step.
use mathlib.Core.Path.{◌≡◌, refl, ◌∙◌}
use mathlib.Core.Bool.{Bool, true, false}
use mathlib.Core.List.{List}
use Prim.Native.Nat.{ℕ, suc, ◌+◌, ◌≤◌, ◌<◌}
use Prim.Native.Char.{code}
use native.Mathlib.Omega.{arith}
use native.Mathlib.Decide.{dec_lt}
use mir.Syntax.{w8}
use mir.Val.{Fits}
use lib.Dec.{eqb}
use lib.ListN.{length, get_or, get_or-eq_default}
use borrow.Author.Tests.{lt-ltb, ne_eqb}
use Rattle.rules.specs.Forest.{node, Forest, nil, byte, group, ◌⋈◌}
use Rattle.rules.specs.Rule.{Test, stop, step, when}
use Rattle.rules.specs.Parse.{got, pick, byte_at, parse, parsed, read_at}
use Rattle.jsx.specs.Kind as Kind
use Rattle.jsx.specs.Text.{in_text, text}
use Rattle.lex.specs.Contract.{Past}
use Rattle.lex.proofs.Laws.{inside, test_inside}
use Rattle.lex.proofs.Runs.{run, run_begins, run_ends, test_step, past}
use Rattle.lanes.specs.Lanes.{any_of}
use Rattle.lanes.specs.First.{First}
use Rattle.lanes.proofs.Over.{turns_over}

-- The end is in no text, so a byte of one stands within the input.
text_inside : (s : List ℕ) (at : ℕ) → in_text (byte_at s at) ≡ true → at < length s
unfolding in_text
text_inside s at h = test_inside in_text refl s at h

-- The bytes at which a text's scan stops.
abbrev stops : Test
stops = any_of (code "<") (code ">") (code "{") (code "}")

-- The test of a text's bytes is those, and the end.
in_text_lem : (b : ℕ) → in_text b ≡ pick (stops b) false (pick (eqb b 256) false true)
unfolding in_text
in_text_lem b = go (eqb b (code "<")) (eqb b (code ">")) (eqb b (code "{")) (eqb b (code "}")) (eqb b 256)
  where
    go : (v w x y z : Bool)
        → pick (pick v true (pick w true (pick x true (pick y true z)))) false true
        ≡ pick (pick v true (pick w true (pick x true y))) false (pick z false true)
    go true w x y z = refl
    go false true x y z = refl
    go false false true y z = refl
    go false false false true z = refl
    go false false false false z = refl

module _ (s : List ℕ) (at : ℕ) (o : in_text (byte_at s at) ≡ true) where
  -- Behind its first byte is within the input.
  pub text_asked : at + 1 ≤ length s
  text_asked = let i = text_inside s at o in omega arith

  -- Its end.
  pub text_ends : {p : ℕ} → ((k : ℕ) → Fits w8 (get_or s k 0)) → First stops s (at + 1) p → Past p s text at 1
  unfolding text parse
  text_ends {p} each l =
      let h = text_inside s at o in
      let v = turns_over stops (run_begins {f = in_text} h) l.clear passes in
      past h v (text_is h (run_ends v refl refl (last (dec_lt p (length s)))))
    where
      passes : (i : ℕ) → i < length s → stops (byte_at s i) ≡ false
          → parsed s (when in_text step stop) 0 i ≡ got true (byte (byte_at s i) nil) (i + 1)
      passes i k n =
          let f = (each i).fits in
          let e = inside s i 0 256 k in
          let m = ne_eqb (byte_at s i) 256 (λ z. omega arith) in
          test_step s (suc (length s)) 0 i in_text stop (in_text_lem (byte_at s i) ∙ rw (n, m)) k

      last : Dec (p < length s) → in_text (byte_at s p) ≡ false
      last (yes k) = in_text_lem (byte_at s p) ∙ rw (l.met k)
      last (no k) =
          let z : byte_at s p ≡ 256 = get_or-eq_default s 256 (omega arith) in
          in_text_lem (byte_at s p) ∙ rw z

      text_is : at < length s → {u : Forest} → read_at s (run in_text) (at + 1) ≡ got true u p
          → read_at s text at ≡ got true (group (node Kind.text 0) (byte (byte_at s at) nil ⋈ u) nil) p
      text_is h e = rw (lt-ltb at (length s) h, e)

pub ruleset text_steps = (text_ends)

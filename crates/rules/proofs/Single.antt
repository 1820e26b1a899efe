-- A rule that refuses by one number only: each of its refusals has it, and each byte is read where one was seen.
use mathlib.Core.Path.{◌≡◌, refl, sym, ap, subst, ◌∙◌}
use mathlib.Core.Bool.{Bool, true, false}
use mathlib.Core.List.{List}
use Prim.Native.Nat.{ℕ, suc, ◌+◌, ◌≤◌, ◌<◌}
use native.Mathlib.Omega.{arith}
use lib.ListN.{length}
use lib.Dec.{eqb, ltb}
use borrow.Author.Tests.{ltb-true, ltb-false, eqb-true, lt-ltb}
use Rattle.rules.specs.Forest.{nil, byte}
use Rattle.rules.specs.Rule.{Test, Rule, done, stop, step, refuse, when, look, after, seq, many, wrap, said}
use Rattle.rules.specs.Rule.{marked, paired}
use Rattle.rules.specs.Parse.{Answer, got, trouble, pick, byte_at, stands, parse, parse_all}
use Rattle.rules.proofs.Run.{never, both}
use Rattle.rules.proofs.Got.{false_true}
use Rattle.rules.proofs.Ends.{top_got}
use Rattle.rules.proofs.Agree.{byte_beyond}
use Rattle.rules.proofs.Flow.{advances}
use Rattle.rules.proofs.Advance.{advance}
use Rattle.rules.proofs.Stuck.{Refuses, refuses_if, refuses_then, refuses_behind, refuses_refusal, refuses_loop}

-- The test fails at the end of the input.
unfoldable pub not_at_end : Test → Bool
not_at_end f = pick (f 256) false true

-- byte: whether a byte is known to stand here.
unfoldable pub refuses_by : (number : ℕ) (byte : Bool) → Rule → Bool
refuses_by n b done = true
refuses_by n b stop = true
refuses_by n b step = b
refuses_by n b (refuse m w) = eqb m n
refuses_by n b (when f t u) = pick (refuses_by n (pick b true (not_at_end f)) t) (refuses_by n b u) false
refuses_by n b (look w t u) = pick (refuses_by n b t) (refuses_by n b u) false
refuses_by n b (after r f t u) = pick (refuses_by n b r) (pick (refuses_by n b t) (refuses_by n b u) false) false
refuses_by n b (seq t u) = pick (refuses_by n b t) (refuses_by n false u) false
refuses_by n b (many t) = pick (advances t) (refuses_by n false t) false
refuses_by n b (wrap f t) = refuses_by n b t
refuses_by n b (said f r t u) = pick (refuses_by n b r) (pick (refuses_by n false t) (refuses_by n false u) false) false
refuses_by n b (marked t) = refuses_by n b t
refuses_by n b (paired t d c u v) = false

module _ (n : ℕ) (s : List ℕ) (F : ℕ) (enough : length s < F) where
  -- What the answer refuses by is n.
  abbrev Only : Answer → Type 0
  Only = Refuses (λ m. m ≡ n)

  -- A test that fails at the end of the input passes only before it.
  before_end : (f : Test) (at : ℕ) → not_at_end f ≡ true → f (byte_at s at) ≡ true → at < length s
  unfolding not_at_end
  before_end f at h e = go (ltb at (length s)) refl
    where
      fails : (c : Bool) → pick c false true ≡ true → c ≡ false
      fails true k = never k
      fails false k = refl

      go : (c : Bool) → ltb at (length s) ≡ c → at < length s
      go true c = ltb-true at (length s) c
      go false c = false_true (ap f (byte_beyond s at (ltb-false at (length s) c)) ∙ fails (f 256) h) e

  -- Where the test passes, what was known of the byte, or the test, says that there is one.
  known : (f : Test) (at : ℕ) (b : Bool)
      → (b ≡ true → at < length s)
      → f (byte_at s at) ≡ true
      → pick b true (not_at_end f) ≡ true
      → at < length s
  known f at true k e h = k refl
  known f at false k e h = before_end f at h e

  unknown : {at : ℕ} → false ≡ true → at < length s
  unknown e = never e

  only_step : (e at : ℕ) → at < length s → Only (parse s F step e at)
  unfolding parse
  only_step e at l =
      subst (λ (b : Bool). Only (pick b (got true (byte (byte_at s at) nil) (at + 1)) (trouble 4 at at 0 0)))
      (sym (lt-ltb at (length s) l)) tt

  -- Each refusal of such a rule has the number n. b: whether a byte is known to stand here.
  pub only : (t : Rule) (b : Bool)
      → refuses_by n b t ≡ true
      → (e at : ℕ) → at ≤ length s
      → (b ≡ true → at < length s)
      → Only (parse s F t e at)
  unfolding parse refuses_by
  only done b h e at i k = tt
  only stop b h e at i k = tt
  only step b h e at i k = only_step e at (k h)
  only (refuse m w) b h e at i k = refuses_refusal (λ m. m ≡ n) m w e at (eqb-true m n h)
  only (when f t u) b h e at i k =
      let g = both (refuses_by n (pick b true (not_at_end f)) t) (refuses_by n b u) h in
      by (f (byte_at s at)) refl (λ c. only t (pick b true (not_at_end f)) g.0 e at i (known f at b k c))
      (only u b g.1 e at i k)
    where
      by : (c : Bool)
          → f (byte_at s at) ≡ c
          → (f (byte_at s at) ≡ true → Only (parse s F t e at))
          → Only (parse s F u e at)
          → Only (pick c (parse s F t e at) (parse s F u e at))
      by true c x y = x c
      by false c x y = y
  only (look w t u) b h e at i k =
      let g = both (refuses_by n b t) (refuses_by n b u) h in
      refuses_if (λ m. m ≡ n) (stands s w at) _ _ (only t b g.0 e at i k) (only u b g.1 e at i k)
  only (after r f t u) b h e at i k =
      let g = both (refuses_by n b r) (pick (refuses_by n b t) (refuses_by n b u) false) h in
      let g' = both (refuses_by n b t) (refuses_by n b u) g.1 in
      refuses_then (λ m. m ≡ n) (parse s F r e at) _ (only r b g.0 e at i k)
      (λ a o p x. refuses_if (λ m. m ≡ n) (f (byte_at s p)) _ _ (only t b g'.0 e at i k) (only u b g'.1 e at i k))
  only (seq t u) b h e at i k =
      let g = both (refuses_by n b t) (refuses_by n false u) h in
      refuses_then (λ m. m ≡ n) (parse s F t e at) _ (only t b g.0 e at i k)
      (λ a o p x. refuses_if (λ m. m ≡ n) a _ _
      (refuses_behind (λ m. m ≡ n) o (parse s F u e p) (only u false g.1 e p (top_got s F t e at i x) unknown)) tt)
  only (many t) b h e at i k =
      let g = both (advances t) (refuses_by n false t) h in
      refuses_loop (λ m. m ≡ n) (length s) (parse s F t e) (λ p j. only t false g.1 e p j unknown)
      (λ p o q j x. (advance s F t g.0 e p o q x, top_got s F t e p j x)) F at i (omega arith)
  only (wrap f t) b h e at i k = refuses_then (λ m. m ≡ n) (parse s F t e at) _ (only t b h e at i k) (λ a o p x. tt)
  only (said f r t u) b h e at i k =
      let g = both (refuses_by n b r) (pick (refuses_by n false t) (refuses_by n false u) false) h in
      let g' = both (refuses_by n false t) (refuses_by n false u) g.1 in
      refuses_then (λ m. m ≡ n) (parse s F r e at) _ (only r b g.0 e at i k) (λ a o p x.
      let j = top_got s F r e at i x in
      refuses_if (λ m. m ≡ n) a _ _ (refuses_behind (λ m. m ≡ n) o (pick (f o) (parse s F t e p) (parse s F u e p))
      (refuses_if (λ m. m ≡ n) (f o) (parse s F t e p) (parse s F u e p) (only t false g'.0 e p j unknown)
      (only u false g'.1 e p j unknown))) tt)
  only (marked t) b h e at i k = only t b h at at i k
  only (paired t d c u v) b h e at i k = never h

-- A whole input is read, or refused by n.
pub refuses_only : (n : ℕ) (t : Rule) → refuses_by n false t ≡ true → (s : List ℕ)
    → Refuses (λ m. m ≡ n) (parse_all t s)
unfolding parse_all
refuses_only n t h s = only n s (suc (length s)) (omega arith) t false h 0 0 (omega arith) (λ e. never e)

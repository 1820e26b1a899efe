-- Which numbers a rule refuses by: those that stand in it, that of the end of input, and 0, for a loop that is stuck.
use mathlib.Core.Path.{◌≡◌}
use mathlib.Core.Bool.{Bool, true, false}
use mathlib.Core.List.{List}
use Prim.Native.Nat.{ℕ, zero, suc}
use lib.ListN.{length}
use lib.Dec.{ltb}
use Rattle.rules.specs.Forest.{Forest, group, content, ◌⋈◌}
use Rattle.rules.specs.Rule.{Verdict, fine, differ, Rule, done, stop, step, refuse, when, look, after, seq}
use Rattle.rules.specs.Rule.{many, wrap, said, marked, paired}
use Rattle.rules.specs.Parse.{Answer, got, pick, byte_at, stands, end_of_input, stuck, judged}
use Rattle.rules.specs.Parse.{repeat, parse, parse_all}
use Rattle.rules.proofs.Run.{both, never}
use Rattle.rules.proofs.Stuck.{Refuses, refuses_if, refuses_then, refuses_behind, refuses_refusal}

-- ok: the numbers that are allowed.
module _ (ok : ℕ → Bool) where
  -- A verdict's number is allowed.
  abbrev pub JudgedBy : Verdict → Type 0
  JudgedBy fine = Unit {0}
  JudgedBy (differ n a b c d) = ok n ≡ true

  -- Each number that stands in the rule is allowed.
  unfoldable pub NumberedBy : Rule → Type 0
  NumberedBy done = Unit {0}
  NumberedBy stop = Unit {0}
  NumberedBy step = Unit {0}
  NumberedBy (refuse n w) = ok n ≡ true
  NumberedBy (when f t u) = NumberedBy t × NumberedBy u
  NumberedBy (look w t u) = NumberedBy t × NumberedBy u
  NumberedBy (after r f t u) = NumberedBy r × NumberedBy t × NumberedBy u
  NumberedBy (seq t u) = NumberedBy t × NumberedBy u
  NumberedBy (many t) = NumberedBy t
  NumberedBy (wrap f t) = NumberedBy t
  NumberedBy (said f r t u) = NumberedBy r × NumberedBy t × NumberedBy u
  NumberedBy (marked t) = NumberedBy t
  NumberedBy (paired t d c u v) = NumberedBy t × NumberedBy c × NumberedBy u × ((o r : Forest) → JudgedBy (v o r))

  -- The same, computed, of a rule with no content in it.
  unfoldable pub numbered : Rule → Bool
  numbered done = true
  numbered stop = true
  numbered step = true
  numbered (refuse n w) = ok n
  numbered (when f t u) = pick (numbered t) (numbered u) false
  numbered (look w t u) = pick (numbered t) (numbered u) false
  numbered (after r f t u) = pick (numbered r) (pick (numbered t) (numbered u) false) false
  numbered (seq t u) = pick (numbered t) (numbered u) false
  numbered (many t) = numbered t
  numbered (wrap f t) = numbered t
  numbered (said f r t u) = pick (numbered r) (pick (numbered t) (numbered u) false) false
  numbered (marked t) = numbered t
  numbered (paired t d c u v) = false

  -- What is computed holds.
  pub computed : (t : Rule) → numbered t ≡ true → NumberedBy t
  unfolding numbered NumberedBy
  computed done h = tt
  computed stop h = tt
  computed step h = tt
  computed (refuse n w) h = h
  computed (when f t u) h = let g = both (numbered t) (numbered u) h in (computed t g.0, computed u g.1)
  computed (look w t u) h = let g = both (numbered t) (numbered u) h in (computed t g.0, computed u g.1)
  computed (after r f t u) h =
      let g = both (numbered r) (pick (numbered t) (numbered u) false) h in
      let g' = both (numbered t) (numbered u) g.1 in
      (computed r g.0, computed t g'.0, computed u g'.1)
  computed (seq t u) h = let g = both (numbered t) (numbered u) h in (computed t g.0, computed u g.1)
  computed (many t) h = computed t h
  computed (wrap f t) h = computed t h
  computed (said f r t u) h =
      let g = both (numbered r) (pick (numbered t) (numbered u) false) h in
      let g' = both (numbered t) (numbered u) g.1 in
      (computed r g.0, computed t g'.0, computed u g'.1)
  computed (marked t) h = computed t h
  computed (paired t d c u v) h = never h

  -- What the answer refuses by is allowed.
  abbrev pub Allowed : Answer → Type 0
  Allowed = Refuses (λ n. ok n ≡ true)

  abbrev N : ℕ → Type 0
  N n = ok n ≡ true

  module _ (zero_ok : ok stuck ≡ true) (end-ok : ok end_of_input ≡ true) (s : List ℕ) (F : ℕ) where
    allowed_loop : (body : ℕ → Answer) → ((at : ℕ) → Allowed (body at)) → (f at : ℕ) → Allowed (repeat body f at)
    unfolding repeat
    allowed_loop body h zero at = zero_ok
    allowed_loop body h (suc f) at = refuses_then N (body at) _ (h at) (λ a o p e. refuses_if N a _ _
        (refuses_if N (ltb at p) _ _ (refuses_behind N o (repeat body f p) (allowed_loop body h f p)) zero_ok) tt)

    allowed_judged : (at q : ℕ) (v : Verdict) (x : Answer) → JudgedBy v → Allowed x → Allowed (judged at q v x)
    allowed_judged at q fine x n h = h
    allowed_judged at q (differ n a b c d) x k h = k

    -- A rule refuses by no other number.
    pub allowed : (t : Rule) → NumberedBy t → (e at : ℕ) → Allowed (parse s F t e at)
    unfolding parse NumberedBy
    allowed done n e at = tt
    allowed stop n e at = tt
    allowed step n e at = refuses_if N (ltb at (length s)) _ _ tt end-ok
    allowed (refuse m w) n e at = refuses_refusal N m w e at n
    allowed (when f t u) n e at = refuses_if N (f (byte_at s at)) _ _ (allowed t n.0 e at) (allowed u n.1 e at)
    allowed (look w t u) n e at = refuses_if N (stands s w at) _ _ (allowed t n.0 e at) (allowed u n.1 e at)
    allowed (after r f t u) n e at = refuses_then N (parse s F r e at) _ (allowed r n.0 e at)
        (λ a o p h. refuses_if N (f (byte_at s p)) _ _ (allowed t n.1 e at) (allowed u n.2 e at))
    allowed (seq t u) n e at = refuses_then N (parse s F t e at) _ (allowed t n.0 e at)
        (λ a o p h. refuses_if N a _ _ (refuses_behind N o (parse s F u e p) (allowed u n.1 e p)) tt)
    allowed (many t) n e at = allowed_loop (parse s F t e) (λ p. allowed t n e p) F at
    allowed (wrap f t) n e at = refuses_then N (parse s F t e at) _ (allowed t n e at) (λ a o p h. tt)
    allowed (said f r t u) n e at = refuses_then N (parse s F r e at) _ (allowed r n.0 e at)
        (λ a o p h. refuses_if N a _ _ (refuses_behind N o (pick (f o) (parse s F t e p) (parse s F u e p))
        (refuses_if N (f o) (parse s F t e p) (parse s F u e p) (allowed t n.1 e p) (allowed u n.2 e p))) tt)
    allowed (marked t) n e at = allowed t n at at
    allowed (paired t d c u v) n e at = refuses_then N (parse s F t e at) _ (allowed t n.0 e at) (λ a o p h.
        refuses_if N a _ _
        (refuses_then N (parse s F c e p) _ (allowed c n.1 e p) (λ b i q h₂.
        refuses_then N (parse s F u e q) _ (allowed u n.2 e q) (λ b₂ r z h₃.
        allowed_judged at q (v o r) (got true (o ⋈ group (content d) i r) z) (n.3 o r) tt)))
        tt)

  -- A whole input is read, or refused by an allowed number.
  pub allowed_all : ok stuck ≡ true
      → ok end_of_input ≡ true
      → (t : Rule)
      → NumberedBy t
      → (s : List ℕ)
      → Allowed (parse_all t s)
  unfolding parse_all
  allowed_all z e t n s = allowed z e s (suc (length s)) t n 0 0

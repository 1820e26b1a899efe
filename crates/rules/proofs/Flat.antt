-- A ladder of binary operators reads the same as one flat loop, whatever it answers.
use mathlib.Core.Path.{◌≡◌, refl, sym, ap, subst, ◌∙◌, fun_ext}
use mathlib.Core.Bool.{Bool, true, false}
use mathlib.Core.List.{List, [], ◌∷◌, ◌++◌, append_assoc, append-nil}
use Prim.Native.Nat.{ℕ, zero, suc, ◌+◌, ◌≤◌, ◌<◌}
use native.Mathlib.Omega.{arith}
use lib.ListN.{length}
use lib.Dec.{ltb}
use borrow.Author.Tests.{ltb-true}
use Rattle.rules.specs.Forest.{Forest, nil}
use Rattle.rules.specs.Rule.{Test, Rule, stop, after, seq, many}
use Rattle.rules.specs.Parse.{Answer, got, trouble, pick, and_then, behind, byte_at, repeat, parse}
use Rattle.rules.proofs.Forests.{behind_nil}
use Rattle.rules.proofs.Run.{Then, Either, behind_none, behind_behind, never, both, goes, on, Goes, goes_repeat}
use Rattle.rules.proofs.Run.{repeat_same}
use Rattle.rules.proofs.Local.{Up, up, up_repeat}
use Rattle.rules.proofs.Ends.{Top, top, turn_more, turn_last, turn_no, turn_stuck}
use Rattle.rules.proofs.Moves.{moves, passes, Past}

-- ---- one reading, then another

-- How `seq` answers.
abbrev pub Next : Answer → (ℕ → Answer) → Answer
Next x y = and_then x (λ a o p. pick a (behind o (y p)) (got false o p))

-- A forest in front stays in front.
pub next_behind : (u : Forest) (x : Answer) (y : ℕ → Answer) → Next (behind u x) y ≡ behind u (Next x y)
next_behind u (got true o p) y = sym (behind_behind u o (y p))
next_behind u (got false o p) y = refl
next_behind u (trouble n a b c d) y = refl

-- Three readings, one after the other.
pub next_assoc : (x : Answer) (y z : ℕ → Answer) → Next (Next x y) z ≡ Next x (λ p. Next (y p) z)
next_assoc (got true o p) y z = next_behind o (y p) z
next_assoc (got false o p) y z = refl
next_assoc (trouble n a b c d) y z = refl

-- `seq` is associative.
pub seq_assoc : (s : List ℕ) (F : ℕ) (t u v : Rule) (e at : ℕ)
    → parse s F (seq (seq t u) v) e at ≡ parse s F (seq t (seq u v)) e at
unfolding parse
seq_assoc s F t u v e at = next_assoc (parse s F t e at) (parse s F u e) (parse s F v e)

-- The second reading may be another one, if it answers the same where the first can end.
next_same : (l : ℕ) (x : Answer) (y y' : ℕ → Answer) → Top l x → ((p : ℕ) → p ≤ l → y p ≡ y' p) → Next x y ≡ Next x y'
next_same l (got true o p) y y' t h = ap (behind o) (h p t)
next_same l (got false o p) y y' t h = refl
next_same l (trouble n a b c d) y y' t h = refl

repeat_same_in : (l : ℕ) (body body' : ℕ → Answer)
    → ((at : ℕ) → at ≤ l → Top l (body at))
    → ((at : ℕ) → at ≤ l → body at ≡ body' at)
    → (f at : ℕ) → at ≤ l
    → repeat body f at ≡ repeat body' f at
unfolding repeat
repeat_same_in l body body' tb h zero at i = refl
repeat_same_in l body body' tb h (suc f) at i =
    go (body at) (body' at) (tb at i) (h at i) (λ p k. repeat_same_in l body body' tb h f p k)
  where
    rest : (ℕ → Answer) → Bool → Forest → ℕ → Answer
    rest b a o p = pick a (pick (ltb at p) (behind o (repeat b f p)) (trouble 0 at at 0 0)) (got true o p)

    go : (x x' : Answer)
        → Top l x
        → x ≡ x'
        → ((p : ℕ) → p ≤ l → repeat body f p ≡ repeat body' f p)
        → and_then x (rest body) ≡ and_then x' (rest body')
    go (got a o p) x' t e ih =
        (λ i. pick a (pick (ltb at p) (behind o (ih p t i)) (trouble 0 at at 0 0)) (got true o p))
        ∙ ap (λ (z : Answer). and_then z (rest body')) e
    go (trouble n a b c d) x' t e ih = ap (λ (z : Answer). and_then z (rest body')) e

-- ---- two loops, one in the other, and one loop

-- What the loops do at a place p. G: the inner loop's turn; H: the flat loop's; K: the outer loop's; R:
-- the inner loop, behind a turn of the outer.
-- The flat loop does what the inner one does, which goes on;
-- or the inner one ends, and the outer one does what the flat one does, and then the inner loop.
pub data Split (R : ℕ → Answer) (p : ℕ) (G H K : Answer) : Type 0 where
  inner : H ≡ G → Goes G → Split R p G H K
  outer : G ≡ got false nil p → K ≡ Next H R → Then H (λ a o q. Either a (p < q) (Unit {0})) → Split R p G H K

module _ (l F : ℕ) (lf : l < F) (G H K : ℕ → Answer) (upG : (p : ℕ) → Up p (G p)) (topH : (p : ℕ) → p ≤ l → Top l (H p))
    (split : (p : ℕ) → p ≤ l → Split (repeat G F) p (G p) (H p) (K p)) where
  abbrev Climbs : (f f₁ f₂ p : ℕ) → Type 0
  Climbs f f₁ f₂ p = repeat H f p ≡ Next (repeat G f₁ p) (repeat K f₂)

  -- The flat loop is the inner loop, then the outer one.
  pub climbs : (f f₁ f₂ p : ℕ) → p ≤ l → l < f + p → l < f₁ + p → l < f₂ + p → Climbs f f₁ f₂ p
  climbs zero f₁ f₂ p i h h₁ h₂ = absurd (omega arith)
  climbs (suc f) zero f₂ p i h h₁ h₂ = absurd (omega arith)
  climbs (suc f) (suc f₁) zero p i h h₁ h₂ = absurd (omega arith)
  climbs (suc f) (suc f₁) (suc f₂) p i h h₁ h₂ =
      go (split p i) (topH p i) (λ g₁ g₂ q j k k₁ k₂. climbs f g₁ g₂ q j k k₁ k₂)
    where
      IH : Type 0
      IH = (g₁ g₂ q : ℕ) → q ≤ l → l < f + q → l < g₁ + q → l < g₂ + q → Climbs f g₁ g₂ q

      -- a turn of the inner loop
      within : (x : Answer) → H p ≡ x → G p ≡ x → Goes x → Top l x → IH → Climbs (suc f) (suc f₁) (suc f₂) p
      within (got true o q) hx gx g t ih = pass (ltb p q) refl
        where
          pass : (b : Bool) → ltb p q ≡ b → Climbs (suc f) (suc f₁) (suc f₂) p
          pass true e =
              let lt : p < q = ltb-true p q e in
              turn_more H f p hx lt ∙ ap (behind o) (ih f₁ (suc f₂) q t (omega arith) (omega arith) (omega arith))
              ∙ sym (next_behind o (repeat G f₁ q) (repeat K (suc f₂)))
              ∙ ap (λ (z : Answer). Next z (repeat K (suc f₂))) (sym (turn_more G f₁ p gx lt))
          pass false e =
              turn_stuck H f p hx e ∙ ap (λ (z : Answer). Next z (repeat K (suc f₂))) (sym (turn_stuck G f₁ p gx e))
      within (got false o q) hx gx g t ih = never g
      within (trouble n a b c d) hx gx g t ih =
          turn_no H f p hx ∙ ap (λ (z : Answer). Next z (repeat K (suc f₂))) (sym (turn_no G f₁ p gx))

      -- a turn of the outer loop, and the inner loop behind it
      behind_turn : (o : Forest) (q : ℕ)
          → p < q
          → (y : Answer) → K p ≡ behind o y
          → Goes y
          → Up q y
          → behind o (Next y (repeat K f₂)) ≡ repeat K (suc f₂) p
      behind_turn o q lt (got true v r) k g u =
          behind_behind o v (repeat K f₂ r) ∙ sym (turn_more K f₂ p k (omega arith))
      behind_turn o q lt (got false v r) k g u = never g
      behind_turn o q lt (trouble n a b c d) k g u = sym (turn_no K f₂ p k)

      outside : (x : Answer)
          → H p ≡ x
          → K p ≡ Next x (repeat G F)
          → Then x (λ a o q. Either a (p < q) (Unit {0}))
          → Top l x
          → IH
          → repeat H (suc f) p ≡ repeat K (suc f₂) p
      outside (got true o q) hx k m t ih =
          turn_more H f p hx m ∙ ap (behind o) (ih F f₂ q t (omega arith) (omega arith) (omega arith))
          ∙ behind_turn o q m (repeat G F q) k (goes_repeat G F q) (up_repeat G upG F q)
      outside (got false o q) hx k m t ih = turn_last H f p hx ∙ sym (turn_last K f₂ p k)
      outside (trouble n a b c d) hx k m t ih = turn_no H f p hx ∙ sym (turn_no K f₂ p k)

      go : Split (repeat G F) p (G p) (H p) (K p) → Top l (H p) → IH → Climbs (suc f) (suc f₁) (suc f₂) p
      go (inner e g) t ih = within (H p) refl (sym e) (subst Goes (sym e) g) t ih
      go (outer e k m) t ih =
          outside (H p) refl k m t ih
          ∙ sym (behind_none (repeat K (suc f₂) p))
          ∙ ap (λ (z : Answer). Next z (repeat K (suc f₂))) (sym (turn_last G f₁ p e))

-- ---- the rules

-- An operator: what its first byte is, behind the gap, and the rule that reads it.
pub record Operator : Type 0 where
  pub begins : Test
  pub token : Rule

module _ (gap : Rule) where
  -- an operator and one more part
  abbrev pub one_part : Rule → Rule → Rule
  one_part op next = seq gap (seq op (seq gap next))

  -- A turn: an operator that begins so and one more part, or the end.
  abbrev pub turn_of : Test → Rule → Rule → Rule
  turn_of f op next = after gap f (one_part op next) stop

  -- parts with an operator between them
  abbrev pub joined : Test → Rule → Rule → Rule
  joined f op next = seq next (many (turn_of f op next))

  -- the operators of a turn, tried in order
  abbrev pub table_of : List Operator → Rule → Rule → Rule
  table_of [] next end = end
  table_of (x ∷ xs) next end = after gap x.begins (one_part x.token next) (table_of xs next end)

  -- parts with any of these operators between them
  abbrev pub flat : List Operator → Rule → Rule
  flat xs next = seq next (many (table_of xs next stop))

  -- parts joined by the first operator, those joined by the second, and so on
  abbrev pub ladder : List Operator → Rule → Rule
  ladder [] next = next
  ladder (x ∷ xs) next = ladder xs (joined x.begins x.token next)

  -- each turn goes on and passes a byte
  abbrev pub steady : List Operator → Rule → Bool
  steady [] next = true
  steady (x ∷ xs) next =
      pick (goes (one_part x.token next)) (pick (moves (one_part x.token next)) (steady xs next) false) false

-- ---- what the loops do at a place

moved : (p : ℕ) (x : Answer) → Past p x → Then x (λ a o q. Either a (p < q) (Unit {0}))
moved p (got true o q) h = h
moved p (got false o q) h = tt
moved p (trouble n a b c d) h = tt

-- one more operator in front, whose turn goes on
split_front : (R : ℕ → Answer) (p : ℕ) (x y G H K : Answer) (b : ℕ → Bool)
    → Goes y
    → Split R p G H K
    → Split R p (and_then x (λ a o q. pick (b q) y G)) (and_then x (λ a o q. pick (b q) y H)) K
split_front R p (got a o q) y G H K b g k = go (b q)
  where
    go : (c : Bool) → Split R p (pick c y G) (pick c y H) K
    go true = inner refl g
    go false = k
split_front R p (trouble n a b' c d) y G H K b g k = inner refl tt

-- the last operator, whose turn passes a byte
split_last : (R : ℕ → Answer) (p : ℕ) (x y z : Answer) (b : ℕ → Bool)
    → z ≡ Next y R
    → Past p y
    → Split R p (got false nil p) (and_then x (λ a o q. pick (b q) y (got false nil p)))
    (and_then x (λ a o q. pick (b q) z (got false nil p)))
split_last R p (got a o q) y z b e h = go (b q)
  where
    go : (c : Bool) → Split R p (got false nil p) (pick c y (got false nil p)) (pick c z (got false nil p))
    go true = outer refl e (moved p y h)
    go false = outer refl refl tt
split_last R p (trouble n a b' c d) y z b e h = outer refl refl tt

module _ (gap : Rule) (s : List ℕ) (F e : ℕ) where
  part_then : (op next more : Rule) (p : ℕ)
      → parse s F (one_part gap op (seq next more)) e p ≡ Next (parse s F (one_part gap op next) e p) (parse s F more e)
  unfolding parse
  part_then op next more p = sym (next_assoc (A p) (λ q. Next (B q) (λ r. Next (A r) C)) D
      ∙ ap (Next (A p))
      (fun_ext (λ q. next_assoc (B q) (λ r. Next (A r) C) D ∙ ap (Next (B q)) (fun_ext (λ r. next_assoc (A r) C D)))))
    where
      A : ℕ → Answer
      A = parse s F gap e

      B : ℕ → Answer
      B = parse s F op e

      C : ℕ → Answer
      C = parse s F next e

      D : ℕ → Answer
      D = parse s F more e

  -- all: the operators of the inner loop; xs: those that are not tried yet
  splits : (next : Rule) (all xs : List Operator) (x : Operator)
      → steady gap xs next ≡ true
      → moves (one_part gap x.token next) ≡ true
      → (p : ℕ)
      → Split (repeat (parse s F (table_of gap all next stop) e) F) p (parse s F (table_of gap xs next stop) e p)
      (parse s F (table_of gap (xs ++ (x ∷ [])) next stop) e p)
      (parse s F (turn_of gap x.begins x.token (flat gap all next)) e p)
  unfolding parse
  splits next all [] x st m p =
      split_last (repeat (parse s F (table_of gap all next stop) e) F) p (parse s F gap e p)
      (parse s F (one_part gap x.token next) e p)
      (parse s F (one_part gap x.token (flat gap all next)) e p) (λ q. x.begins (byte_at s q))
      (part_then x.token next (many (table_of gap all next stop)) p) (passes s F (one_part gap x.token next) m e p)
  splits next all (y ∷ xs) x st m p =
      let g = both (goes (one_part gap y.token next))
      (pick (moves (one_part gap y.token next)) (steady gap xs next) false) st in
      let k = both (moves (one_part gap y.token next)) (steady gap xs next) g.1 in
      split_front (repeat (parse s F (table_of gap all next stop) e) F) p (parse s F gap e p)
      (parse s F (one_part gap y.token next) e p) (parse s F (table_of gap xs next stop) e p)
      (parse s F (table_of gap (xs ++ (x ∷ [])) next stop) e p)
      (parse s F (turn_of gap x.begins x.token (flat gap all next)) e p) (λ q. y.begins (byte_at s q))
      (on s F (one_part gap y.token next) g.0 e p) (splits next all xs x k.1 m p)

  module _ (lf : length s < F) where
    -- One level around a flat loop is a flat loop with one more operator.
    pub level_flat : (next : Rule) (xs : List Operator) (x : Operator)
        → steady gap xs next ≡ true
        → moves (one_part gap x.token next) ≡ true
        → (at : ℕ) → at ≤ length s
        → parse s F (joined gap x.begins x.token (flat gap xs next)) e at
        ≡ parse s F (flat gap (xs ++ (x ∷ [])) next) e at
    unfolding parse
    level_flat next xs x st m at i =
        next_assoc (parse s F next e at) (repeat G F) (repeat K F)
        ∙ next_same (length s) (parse s F next e at) (λ p. Next (repeat G F p) (repeat K F)) (repeat H F)
        (top s F next e at i)
        (λ p j. sym (climbs (length s) F lf G H K (λ q. up s F (table_of gap xs next stop) e q)
        (λ q k. top s F (table_of gap (xs ++ (x ∷ [])) next stop) e q k)
        (λ q k. splits next xs xs x st m q) F F F p j (omega arith) (omega arith) (omega arith)))
      where
        G : ℕ → Answer
        G = parse s F (table_of gap xs next stop) e

        H : ℕ → Answer
        H = parse s F (table_of gap (xs ++ (x ∷ [])) next stop) e

        K : ℕ → Answer
        K = parse s F (turn_of gap x.begins x.token (flat gap xs next)) e

    -- ---- a rule in place of another that answers the same

    Same : Rule → Rule → Type 0
    Same t t' = (at : ℕ) → at ≤ length s → parse s F t e at ≡ parse s F t' e at

    part_same : (op t t' : Rule) → Same t t' → Same (one_part gap op t) (one_part gap op t')
    unfolding parse Same
    part_same op t t' h p i = next_same (length s) (parse s F gap e p) _ _ (top s F gap e p i)
        (λ q j. next_same (length s) (parse s F op e q) _ _ (top s F op e q j)
        (λ r k. next_same (length s) (parse s F gap e r) (parse s F t e) (parse s F t' e) (top s F gap e r k) h))

    joined_same : (f : Test) (op t t' : Rule) → Same t t' → Same (joined gap f op t) (joined gap f op t')
    unfolding parse Same
    joined_same f op t t' h at i =
        ap (λ (z : Answer). Next z (repeat (parse s F (turn_of gap f op t) e) F)) (h at i)
        ∙ next_same (length s) (parse s F t' e at) (repeat (parse s F (turn_of gap f op t) e) F)
        (repeat (parse s F (turn_of gap f op t') e) F) (top s F t' e at i)
        (λ p j. repeat_same_in (length s) (parse s F (turn_of gap f op t) e) (parse s F (turn_of gap f op t') e)
        (λ q k. top s F (turn_of gap f op t) e q k)
        (λ q k. ap (λ (z : Answer). and_then (parse s F gap e q) (λ a o r. pick (f (byte_at s r)) z (got false nil q)))
        (part_same op t t' h q k)) F p j)

    ladder_same : (xs : List Operator) (t t' : Rule) → Same t t' → Same (ladder gap xs t) (ladder gap xs t')
    ladder_same [] t t' h = h
    ladder_same (x ∷ xs) t t' h =
        ladder_same xs (joined gap x.begins x.token t) (joined gap x.begins x.token t')
        (joined_same x.begins x.token t t' h)

    -- ---- all levels

    steady_more : (next : Rule) (xs ys : List Operator)
        → steady gap xs next ≡ true
        → steady gap ys next ≡ true
        → steady gap (xs ++ ys) next ≡ true
    steady_more next [] ys h k = k
    steady_more next (x ∷ xs) ys h k =
        let g = both (goes (one_part gap x.token next))
        (pick (moves (one_part gap x.token next)) (steady gap xs next) false) h in
        let m = both (moves (one_part gap x.token next)) (steady gap xs next) g.1 in
        rw (g.0, m.0) (steady_more next xs ys m.1 k)

    -- a loop over no operator reads nothing
    flat_none : (next : Rule) → Same next (flat gap [] next)
    unfolding parse Same repeat
    flat_none next at i = go F lf (parse s F next e at)
      where
        go : (f : ℕ) → length s < f → (x : Answer) → x ≡ Next x (repeat (λ p. got false nil p) f)
        go zero l x = absurd (omega arith)
        go (suc f) l (got true o p) = ap (λ (v : Forest). got true v p) (sym (behind_nil o))
        go (suc f) l (got false o p) = refl
        go (suc f) l (trouble n a b c d) = refl

    -- xs: the levels that are flat already
    ladder_more : (next : Rule) (xs ys : List Operator)
        → steady gap xs next ≡ true
        → steady gap ys next ≡ true
        → Same (ladder gap ys (flat gap xs next)) (flat gap (xs ++ ys) next)
    unfolding Same
    ladder_more next xs [] h k at i = ap (λ (l : List Operator). parse s F (flat gap l next) e at) (sym (append-nil xs))
    ladder_more next xs (y ∷ ys) h k at i =
        let g = both (goes (one_part gap y.token next))
        (pick (moves (one_part gap y.token next)) (steady gap ys next) false) k in
        let m = both (moves (one_part gap y.token next)) (steady gap ys next) g.1 in
        let one : steady gap (y ∷ []) next ≡ true = rw (g.0, m.0) refl in
        ladder_same ys (joined gap y.begins y.token (flat gap xs next)) (flat gap (xs ++ (y ∷ [])) next)
        (λ p j. level_flat next xs y h m.0 p j) at i
        ∙ ladder_more next (xs ++ (y ∷ [])) ys (steady_more next xs (y ∷ []) h one) m.1 at i
        ∙ ap (λ (l : List Operator). parse s F (flat gap l next) e at) (append_assoc xs (y ∷ []) ys)

    -- A ladder of levels reads the same as one flat loop, whose turn tries the operators from the tightest on.
    pub ladder_flat : (next : Rule) (xs : List Operator)
        → steady gap xs next ≡ true
        → (at : ℕ) → at ≤ length s
        → parse s F (ladder gap xs next) e at ≡ parse s F (flat gap xs next) e at
    unfolding Same
    ladder_flat next xs h at i =
        ladder_same xs next (flat gap [] next) (flat_none next) at i ∙ ladder_more next [] xs refl h at i

    -- Two levels. f: the looser operator; g: the tighter one.
    pub two_levels : (f g : Test) (opF op_g next : Rule)
        → goes (one_part gap op_g next) ≡ true
        → moves (one_part gap op_g next) ≡ true
        → moves (one_part gap opF next) ≡ true
        → (at : ℕ) → at ≤ length s
        → parse s F (joined gap f opF (joined gap g op_g next)) e at ≡ parse s F
        (seq next (many (after gap g (one_part gap op_g next) (after gap f (one_part gap opF next) stop)))) e at
    two_levels f g opF op_g next h k m at i =
        level_flat next (record { begins = g; token = op_g } ∷ []) (record { begins = f; token = opF })
        (rw (h, k) refl) m at i

  -- ---- in any order

  -- No byte begins both.
  abbrev pub Apart : Operator → Operator → Type 0
  Apart x y = (b : ℕ) → x.begins b ≡ true → y.begins b ≡ false

  -- The same operators in another order, where no byte begins two that change places.
  pub data Shuffle : List Operator → List Operator → Type 0 where
    as_is : {xs : List Operator} → Shuffle xs xs
    keep : {x : Operator} {xs ys : List Operator} → Shuffle xs ys → Shuffle (x ∷ xs) (x ∷ ys)
    swap : {x y : Operator} {xs : List Operator} → Apart x y → Shuffle (x ∷ y ∷ xs) (y ∷ x ∷ xs)
    also : {xs ys zs : List Operator} → Shuffle xs ys → Shuffle ys zs → Shuffle xs zs

  swapped : (x y z w : Answer) (f g : Test)
      → ((b : ℕ) → f b ≡ true → g b ≡ false)
      → and_then x (λ a o q. pick (f (byte_at s q)) y (and_then x (λ a' o' q'. pick (g (byte_at s q')) z w)))
      ≡ and_then x (λ a o q. pick (g (byte_at s q)) z (and_then x (λ a' o' q'. pick (f (byte_at s q')) y w)))
  swapped (got a o q) y z w f g h = go (f (byte_at s q)) (g (byte_at s q)) (h (byte_at s q))
    where
      go : (c d : Bool) → (c ≡ true → d ≡ false) → pick c y (pick d z w) ≡ pick d z (pick c y w)
      go true true h = never (sym (h refl))
      go true false h = refl
      go false d h = refl
  swapped (trouble n a b c d) y z w f g h = refl

  table_shuffled : {xs ys : List Operator}
      → Shuffle xs ys
      → (next end : Rule) (at : ℕ) → parse s F (table_of gap xs next end) e at
      ≡ parse s F (table_of gap ys next end) e at
  unfolding parse
  table_shuffled as_is next end at = refl
  table_shuffled (keep {x = x} k) next end at =
      ap (λ (z : Answer). and_then (parse s F gap e at) (λ a o q. pick (x.begins (byte_at s q))
      (parse s F (one_part gap x.token next) e at) z)) (table_shuffled k next end at)
  table_shuffled (swap {x = x} {y = y} {xs = xs} k) next end at =
      swapped (parse s F gap e at) (parse s F (one_part gap x.token next) e at) (parse s F
      (one_part gap y.token next) e at) (parse s F (table_of gap xs next end) e at) x.begins y.begins k
  table_shuffled (also k l) next end at = table_shuffled k next end at ∙ table_shuffled l next end at

  -- The operators of a flat loop may be tried in another order, if those that change places are apart.
  pub flat_shuffled : {xs ys : List Operator}
      → Shuffle xs ys
      → (next : Rule) (at : ℕ) → parse s F (flat gap xs next) e at ≡ parse s F (flat gap ys next) e at
  unfolding parse
  flat_shuffled {xs} {ys} k next at = ap (Next (parse s F next e at))
      (fun_ext (repeat_same (parse s F (table_of gap xs next stop) e) (parse s F (table_of gap ys next stop) e)
      (λ p. table_shuffled k next stop p) F))

-- ---- operators whose turns are steady, whatever stands between them

-- each token goes on and passes a byte
abbrev pub sound : List Operator → Bool
sound [] = true
sound (x ∷ xs) = pick (goes x.token) (pick (moves x.token) (sound xs) false) false

-- An operator with its part goes on,
pub part_goes : (gap op next : Rule)
    → goes gap ≡ true
    → goes op ≡ true
    → goes next ≡ true
    → goes (one_part gap op next) ≡ true
unfolding goes
part_goes gap op next h k l = rw (h, k, l) refl

-- and passes a byte.
pub part_moves : (gap op next : Rule) → goes gap ≡ true → moves op ≡ true → moves (one_part gap op next) ≡ true
unfolding moves
part_moves gap op next h k = rw (h, k) (go (moves gap))
  where
    go : (b : Bool) → pick b true true ≡ true
    go true = refl
    go false = refl

-- The same, where not the operator but the next part passes a byte.
pub part_moves_next : (gap op next : Rule)
    → goes gap ≡ true
    → goes op ≡ true
    → moves next ≡ true
    → moves (one_part gap op next) ≡ true
unfolding moves
part_moves_next gap op next h k l = rw (h, k, l) (go (moves gap) (moves op))
  where
    go : (b c : Bool) → pick b true (pick c true (pick b true true)) ≡ true
    go true c = refl
    go false true = refl
    go false false = refl

-- Operators that are sound are steady between parts that go on.
pub sound_steady : (gap next : Rule)
    → goes gap ≡ true
    → goes next ≡ true
    → (xs : List Operator) → sound xs ≡ true
    → steady gap xs next ≡ true
sound_steady gap next h k [] l = refl
sound_steady gap next h k (x ∷ xs) l =
    let g = both (goes x.token) (pick (moves x.token) (sound xs) false) l in
    let m = both (moves x.token) (sound xs) g.1 in
    rw (part_goes gap x.token next h g.0 k, part_moves gap x.token next h m.0)
    (sound_steady gap next h k xs m.1)

-- A reading with less depth left is the same with more.
use mathlib.Core.Path.{◌≡◌, refl, sym, ap, subst, ◌∙◌}
use mathlib.Core.Bool.{Bool, true, false}
use mathlib.Core.List.{List, [], ◌∷◌, ◌++◌}
use Prim.Native.Nat.{ℕ, zero, suc, ◌+◌}
use lib.ListN.{length}
use lib.Dec.{ltb}
use Rattle.rules.specs.Forest.{Label, node, content, Forest, nil, byte, group, ◌⋈◌, width, direct, inside}
use Rattle.rules.specs.Rule.{Test, Place, Verdict, fine, differ, Look, Rule, done, stop, step, refuse, when, look}
use Rattle.rules.specs.Rule.{after, seq, many, wrap, said, marked, paired}
use Rattle.rules.specs.Parse.{Answer, got, trouble, pick, and_then, behind, byte_at, stands, judged, repeat, parse}
use Rattle.rules.specs.Record.{row, count, records}
use Rattle.rules.proofs.Run.{Then, then_if, then_then, then_any, then_behind, then_refusal, both, never, goes}
use Rattle.rules.proofs.Run.{on, Goes}
use Rattle.rules.proofs.Moves.{one_of}
use Rattle.rules.proofs.Flow.{clear}

-- ---- a forest with more depth left in its contents

-- k more levels left inside a content.
unfoldable pub deepen_label : ℕ → Label → Label
deepen_label k (node n x) = node n x
deepen_label k (content d) = content (k + d)

-- The forest with k more levels left in each of its contents.
unfoldable pub deepen : ℕ → Forest → Forest
deepen k nil = nil
deepen k (byte b u) = byte b (deepen k u)
deepen k (group l c u) = group (deepen_label k l) (deepen k c) (deepen k u)

-- Of one forest behind the other.
pub deepen_join : (k : ℕ) (u v : Forest) → deepen k (u ⋈ v) ≡ deepen k u ⋈ deepen k v
unfolding deepen ◌⋈◌
deepen_join k nil v = refl
deepen_join k (byte b u) v = ap (byte b) (deepen_join k u v)
deepen_join k (group l c u) v = ap (group (deepen_label k l) (deepen k c)) (deepen_join k u v)

-- As many bytes,
pub width_deepen : (k : ℕ) (u : Forest) → width (deepen k u) ≡ width u
unfolding deepen width
width_deepen k nil = refl
width_deepen k (byte b u) = ap suc (width_deepen k u)
width_deepen k (group l c u) = λ i. width_deepen k c i + width_deepen k u i

-- as many nodes,
pub count_deepen : (k : ℕ) (u : Forest) → count (deepen k u) ≡ count u
unfolding deepen deepen_label count
count_deepen k nil = refl
count_deepen k (byte b u) = count_deepen k u
count_deepen k (group (node n x) c u) = λ i. 1 + count_deepen k c i + count_deepen k u i
count_deepen k (group (content d) c u) = λ i. count_deepen k c i + count_deepen k u i

-- the same bytes outside its groups,
pub direct_deepen : (k : ℕ) (u : Forest) → direct (deepen k u) ≡ direct u
unfolding deepen direct
direct_deepen k nil = refl
direct_deepen k (byte b u) = ap (λ (l : List ℕ). b ∷ l) (direct_deepen k u)
direct_deepen k (group l c u) = direct_deepen k u

-- and in its first node the same, deepened.
pub inside_deepen : (k : ℕ) (u : Forest) → inside (deepen k u) ≡ deepen k (inside u)
unfolding deepen deepen_label inside
inside_deepen k nil = refl
inside_deepen k (byte b u) = inside_deepen k u
inside_deepen k (group (node n x) c u) = refl
inside_deepen k (group (content d) c u) = inside_deepen k u

-- The record table does not show how much depth is left.
pub records_deepen : (k : ℕ) (u : Forest) (at n par deep : ℕ)
    → records at n par deep (deepen k u) ≡ records at n par deep u
unfolding deepen deepen_label records
records_deepen k nil at n par deep = refl
records_deepen k (byte b u) at n par deep = records_deepen k u (at + 1) n par deep
records_deepen k (group (node m x) c u) at n par deep =
    (λ i. row m at (at + w i) par (n + (1 + c' i)) x deep
    (records_deepen k c at (n + 1) n (deep + 1) i ++ records (at + w i) (n + (1 + c' i)) par deep (deepen k u)))
    ∙ ap (λ (l : List ℕ). row m at (at + width c) par (n + (1 + count c)) x deep
    (records at (n + 1) n (deep + 1) c ++ l))
    (records_deepen k u (at + width c) (n + (1 + count c)) par deep)
  where
    w : width (deepen k c) ≡ width c
    w = width_deepen k c

    c' : count (deepen k c) ≡ count c
    c' = count_deepen k c
records_deepen k (group (content d) c u) at n par deep =
    (λ i. records_deepen k c at n par deep i ++ records (at + width_deepen k c i) (n + count_deepen k c i) par deep
    (deepen k u))
    ∙ ap (λ (l : List ℕ). records at n par deep c ++ l) (records_deepen k u (at + width c) (n + count c) par deep)

-- ---- rules with no content in them

-- the labels that `wrap` gives in it
unfoldable pub labels : Rule → List (Forest → Label)
labels done = []
labels stop = []
labels step = []
labels (refuse n w) = []
labels (when f t u) = labels t ++ labels u
labels (look w t u) = labels t ++ labels u
labels (after r f t u) = labels t ++ labels u
labels (seq t u) = labels t ++ labels u
labels (many t) = labels t
labels (wrap f t) = f ∷ labels t
labels (said f r t u) = labels r ++ (labels t ++ labels u)
labels (marked t) = labels t
labels (paired t d c u v) = []

-- No content's label.
abbrev pub is_node : Label → Bool
is_node (node n x) = true
is_node (content d) = false

-- All of them are nodes.
abbrev pub Nodes : List (Forest → Label) → Type 0
Nodes [] = Unit {0}
Nodes (f ∷ fs) = ((o : Forest) → is_node (f o) ≡ true) × Nodes fs

nodes_both : (fs gs : List (Forest → Label)) → Nodes (fs ++ gs) → Nodes fs × Nodes gs
nodes_both [] gs h = (tt, h)
nodes_both (f ∷ fs) gs h = let r = nodes_both fs gs h.1 in ((h.0, r.0), r.1)

node_label : (k : ℕ) (l : Label) → is_node l ≡ true → deepen_label k l ≡ l
unfolding deepen_label
node_label k (node n x) h = refl
node_label k (content d) h = never h

module _ (k : ℕ) where
  abbrev Kept : Bool → Forest → ℕ → Type 0
  Kept a o p = deepen k o ≡ o

  kept_join : (u v : Forest) → deepen k u ≡ u → deepen k v ≡ v → deepen k (u ⋈ v) ≡ u ⋈ v
  kept_join u v h g = deepen_join k u v ∙ (λ i. h i ⋈ g i)

  kept_behind : (u : Forest) (x : Answer) → deepen k u ≡ u → Then x Kept → Then (behind u x) Kept
  kept_behind u x h g = then_behind Kept Kept u x g (λ a o p m. kept_join u o h m)

  kept_repeat : (body : ℕ → Answer) → ((at : ℕ) → Then (body at) Kept) → (f at : ℕ) → Then (repeat body f at) Kept
  unfolding repeat
  kept_repeat body h zero at = tt
  kept_repeat body h (suc f) at =
      then_then Kept Kept (body at) _ (h at) (λ a o p m. then_if Kept a _ _
      (then_if Kept (ltb at p) _ _ (kept_behind o (repeat body f p) m (kept_repeat body h f p)) tt) m)

  -- What such a rule reads has no content in it.
  pub kept : (s : List ℕ) (F : ℕ) (t : Rule)
      → clear t ≡ true
      → Nodes (labels t)
      → (e at : ℕ) → Then (parse s F t e at) Kept
  unfolding parse clear labels deepen
  kept s F done c n e at = refl
  kept s F stop c n e at = refl
  kept s F step c n e at = then_if Kept (ltb at (length s)) _ _ refl tt
  kept s F (refuse m w) c n e at = then_refusal Kept m w e at
  kept s F (when f t u) c n e at = let g = both (clear t) (clear u) c in let m = nodes_both (labels t) (labels u) n in
      then_if Kept (f (byte_at s at)) (parse s F t e at) (parse s F u e at) (kept s F t g.0 m.0 e at)
      (kept s F u g.1 m.1 e at)
  kept s F (look w t u) c n e at = let g = both (clear t) (clear u) c in let m = nodes_both (labels t) (labels u) n in
      then_if Kept (stands s w at) (parse s F t e at) (parse s F u e at) (kept s F t g.0 m.0 e at)
      (kept s F u g.1 m.1 e at)
  kept s F (after r f t u) c n e at =
      let g = both (clear t) (clear u) c in
      let m = nodes_both (labels t) (labels u) n in
      then_any Kept (parse s F r e at) (λ a o p. pick (f (byte_at s p)) (parse s F t e at) (parse s F u e at))
      (λ a o p. then_if Kept (f (byte_at s p)) (parse s F t e at) (parse s F u e at) (kept s F t g.0 m.0 e at)
      (kept s F u g.1 m.1 e at))
  kept s F (seq t u) c n e at = let g = both (clear t) (clear u) c in let m = nodes_both (labels t) (labels u) n in
      then_then Kept Kept (parse s F t e at) (λ a o p. pick a (behind o (parse s F u e p)) (got false o p))
      (kept s F t g.0 m.0 e at)
      (λ a o p h. then_if Kept a (behind o (parse s F u e p)) (got false o p)
      (kept_behind o (parse s F u e p) h (kept s F u g.1 m.1 e p)) h)
  kept s F (many t) c n e at = kept_repeat (parse s F t e) (λ p. kept s F t c n e p) F at
  kept s F (wrap f t) c n e at =
      then_then Kept Kept (parse s F t e at) _ (kept s F t c n.1 e at)
      (λ a o p h. λ i. group (node_label k (f o) (n.0 o) i) (h i) nil)
  kept s F (said f r t u) c n e at =
      let g = both (clear r) (pick (clear t) (clear u) false) c in
      let g' = both (clear t) (clear u) g.1 in
      let m = nodes_both (labels r) (labels t ++ labels u) n in
      let m' = nodes_both (labels t) (labels u) m.1 in
      then_then Kept Kept (parse s F r e at) (λ a o p. pick a
      (behind o (pick (f o) (parse s F t e p) (parse s F u e p))) (got false o p)) (kept s F r g.0 m.0 e at)
      (λ a o p h. then_if Kept a (behind o (pick (f o) (parse s F t e p) (parse s F u e p))) (got false o p)
      (kept_behind o (pick (f o) (parse s F t e p) (parse s F u e p)) h (then_if Kept (f o) (parse s F t e p)
      (parse s F u e p) (kept s F t g'.0 m'.0 e p) (kept s F u g'.1 m'.1 e p))) h)
  kept s F (marked t) c n e at = kept s F t c n at at
  kept s F (paired t d x u v) c n e at = never c

-- ---- rules that never read anything: each way through them ends in a refusal

-- Every way through the rule ends in a refusal.
unfoldable pub fails : Rule → Bool
fails done = false
fails stop = false
fails step = false
fails (refuse n w) = true
fails (when f t u) = pick (fails t) (fails u) false
fails (look w t u) = pick (fails t) (fails u) false
fails (after r f t u) = pick (fails t) (fails u) false
fails (seq t u) = pick (fails t) true (pick (goes t) (fails u) false)
fails (many t) = false
fails (wrap f t) = fails t
fails (said f r t u) = pick (fails r) true (pick (goes r) (pick (fails t) (fails u) false) false)
fails (marked t) = fails t
fails (paired t d c u v) = fails t

-- Nothing was got.
abbrev pub Nothing : Bool → Forest → ℕ → Type 0
Nothing a o p = ⊥

nothing_first : (x : Answer) (f : Bool → Forest → ℕ → Answer) → Then x Nothing → Then (and_then x f) Nothing
nothing_first x f h = then_then Nothing Nothing x f h (λ a o p z. absurd z)

nothing_second : (x : Answer) (y : Forest → ℕ → Answer)
    → Goes x
    → ((o : Forest) (p : ℕ) → Then (y o p) Nothing)
    → Then (and_then x (λ a o p. pick a (behind o (y o p)) (got false o p))) Nothing
nothing_second (got true o p) y g h = then_behind Nothing Nothing o (y o p) (h o p) (λ a v q z. z)
nothing_second (got false o p) y g h = never g
nothing_second (trouble n a b c d) y g h = tt

-- Such a rule gets nothing.
pub nothing : (s : List ℕ) (F : ℕ) (t : Rule) → fails t ≡ true → (e at : ℕ) → Then (parse s F t e at) Nothing
unfolding parse fails
nothing s F done h e at = never h
nothing s F stop h e at = never h
nothing s F step h e at = never h
nothing s F (refuse n w) h e at = then_refusal Nothing n w e at
nothing s F (when f t u) h e at =
    let g = both (fails t) (fails u) h in
    then_if Nothing (f (byte_at s at)) (parse s F t e at) (parse s F u e at) (nothing s F t g.0 e at)
    (nothing s F u g.1 e at)
nothing s F (look w t u) h e at =
    let g = both (fails t) (fails u) h in
    then_if Nothing (stands s w at) (parse s F t e at) (parse s F u e at) (nothing s F t g.0 e at)
    (nothing s F u g.1 e at)
nothing s F (after r f t u) h e at = let g = both (fails t) (fails u) h in
    then_any Nothing (parse s F r e at) (λ a o p. pick (f (byte_at s p)) (parse s F t e at) (parse s F u e at))
    (λ a o p. then_if Nothing (f (byte_at s p)) (parse s F t e at) (parse s F u e at) (nothing s F t g.0 e at)
    (nothing s F u g.1 e at))
nothing s F (seq t u) h e at = one_of (fails t) (pick (goes t) (fails u) false) h
    (λ m. nothing_first (parse s F t e at) _ (nothing s F t m e at))
    (λ m. let g = both (goes t) (fails u) m in
    nothing_second (parse s F t e at) (λ o p. parse s F u e p) (on s F t g.0 e at) (λ o p. nothing s F u g.1 e p))
nothing s F (many t) h e at = never h
nothing s F (wrap f t) h e at = nothing_first (parse s F t e at) _ (nothing s F t h e at)
nothing s F (said f r t u) h e at = one_of (fails r) (pick (goes r) (pick (fails t) (fails u) false) false) h
    (λ m. nothing_first (parse s F r e at) _ (nothing s F r m e at))
    (λ m. let g = both (goes r) (pick (fails t) (fails u) false) m in
    let g' = both (fails t) (fails u) g.1 in
    nothing_second (parse s F r e at) (λ o p. pick (f o) (parse s F t e p) (parse s F u e p)) (on s F r g.0 e at)
    (λ o p. then_if Nothing (f o) (parse s F t e p) (parse s F u e p) (nothing s F t g'.0 e p)
    (nothing s F u g'.1 e p)))
nothing s F (marked t) h e at = nothing s F t h at at
nothing s F (paired t d c u v) h e at = nothing_first (parse s F t e at) _ (nothing s F t h e at)

-- ---- a rule, and the same with k more levels inside it

-- The second rule is the first with k more levels inside it.
pub data Deeper (k : ℕ) : Rule → Rule → Type 0 where
  -- what reads no content; what reads nothing may be any rule instead
  deeper_clear : {t : Rule} → clear t ≡ true → Nodes (labels t) → Deeper k t t
  deeper_fails : {t t' : Rule} → fails t ≡ true → Deeper k t t'
  deeper_refuse : {n : ℕ} {w : Place} {t' : Rule} → Deeper k (refuse n w) t'
  deeper_done : Deeper k done done
  deeper_stop : Deeper k stop stop
  deeper_step : Deeper k step step
  deeper_when : {f : Test} {t u t' u' : Rule} → Deeper k t t' → Deeper k u u' → Deeper k (when f t u) (when f t' u')
  deeper_look : {w : Look} {t u t' u' : Rule}
      → Deeper k t t'
      → Deeper k u u'
      → Deeper k (look w t u) (look w t' u')
  deeper_after : {f : Test} {r t u r' t' u' : Rule}
      → Deeper k r r'
      → Deeper k t t'
      → Deeper k u u'
      → Deeper k (after r f t u) (after r' f t' u')
  -- what is only looked at may stay as it is
  deeper_over : {f : Test} {r t u t' u' : Rule}
      → Deeper k t t'
      → Deeper k u u'
      → Deeper k (after r f t u) (after r f t' u')
  deeper_seq : {t u t' u' : Rule} → Deeper k t t' → Deeper k u u' → Deeper k (seq t u) (seq t' u')
  deeper_many : {t t' : Rule} → Deeper k t t' → Deeper k (many t) (many t')
  deeper_wrap : {f : Forest → Label} {t t' : Rule}
      → ((o : Forest) → f (deepen k o) ≡ deepen_label k (f o))
      → Deeper k t t'
      → Deeper k (wrap f t) (wrap f t')
  deeper_said : {f : Forest → Bool} {r t u r' t' u' : Rule}
      → ((o : Forest) → f (deepen k o) ≡ f o)
      → Deeper k r r'
      → Deeper k t t'
      → Deeper k u u'
      → Deeper k (said f r t u) (said f r' t' u')
  deeper_marked : {t t' : Rule} → Deeper k t t' → Deeper k (marked t) (marked t')
  deeper_paired : {d : ℕ} {v : Forest → Forest → Verdict} {t c u t' c' u' : Rule}
      → ((o r : Forest) → v o r ≡ fine → v (deepen k o) (deepen k r) ≡ fine)
      → Deeper k t t'
      → Deeper k c c'
      → Deeper k u u'
      → Deeper k (paired t d c u v) (paired t' (k + d) c' u' v)

module _ (k : ℕ) where
  -- What the first answer got, the second got, with k more levels left in its contents.
  abbrev pub Deep : Answer → Answer → Type 0
  Deep x y = Then x (λ a o p. y ≡ got a (deepen k o) p)

  deep_if : (b : Bool) (x y x' y' : Answer) → Deep x x' → Deep y y' → Deep (pick b x y) (pick b x' y')
  deep_if true x y x' y' h g = h
  deep_if false x y x' y' h g = g

  deep_then : (x x' : Answer) (f f' : Bool → Forest → ℕ → Answer)
      → Deep x x'
      → ((a : Bool) (o : Forest) (p : ℕ) → Deep (f a o p) (f' a (deepen k o) p))
      → Deep (and_then x f) (and_then x' f')
  deep_then (got a o p) x' f f' h g = subst (λ (z : Answer). Deep (f a o p) (and_then z f')) (sym h) (g a o p)
  deep_then (trouble n a b c d) x' f f' h g = tt

  deep_behind : (u : Forest) (x x' : Answer) → Deep x x' → Deep (behind u x) (behind (deepen k u) x')
  deep_behind u (got a o p) x' h = ap (behind (deepen k u)) h ∙ ap (λ (v : Forest). got a v p) (sym (deepen_join k u o))
  deep_behind u (trouble n a b c d) x' h = tt

  deep_repeat : (body body' : ℕ → Answer)
      → ((at : ℕ) → Deep (body at) (body' at))
      → (f at : ℕ) → Deep (repeat body f at) (repeat body' f at)
  unfolding repeat
  deep_repeat body body' h zero at = tt
  deep_repeat body body' h (suc f) at = deep_then (body at) (body' at) _ _ (h at)
      (λ a o p. deep_if a _ _ _ _ (deep_if (ltb at p) _ _ _ _
      (deep_behind o (repeat body f p) (repeat body' f p) (deep_repeat body body' h f p)) tt) refl)

  deep_kept : (x : Answer) → Then x (λ a o p. deepen k o ≡ o) → Deep x x
  deep_kept (got a o p) h = ap (λ (v : Forest). got a v p) (sym h)
  deep_kept (trouble n a b c d) h = tt

  deep_nothing : (x y : Answer) → Then x Nothing → Deep x y
  deep_nothing (got a o p) y h = absurd h
  deep_nothing (trouble n a b c d) y h = tt

  -- a reading that is only looked at
  deep_look : (x : Answer) (f f' : ℕ → Answer)
      → ((p : ℕ) → Deep (f p) (f' p))
      → Deep (and_then x (λ a o p. f p)) (and_then x (λ a o p. f' p))
  deep_look (got a o p) f f' h = h p
  deep_look (trouble n a b c d) f f' h = tt

  deep_judged : (at q : ℕ) (v v' : Verdict) (x x' : Answer)
      → (v ≡ fine → v' ≡ fine)
      → Deep x x'
      → Deep (judged at q v x) (judged at q v' x')
  deep_judged at q fine v' x x' h g = subst (λ (z : Verdict). Deep x (judged at q z x')) (sym (h refl)) g
  deep_judged at q (differ n a b c d) v' x x' h g = tt

  module _ (s : List ℕ) (F : ℕ) where
    -- What the rule reads, the deeper one reads, deepened.
    pub deep : {t t' : Rule} → Deeper k t t' → (e at : ℕ) → Deep (parse s F t e at) (parse s F t' e at)
    unfolding parse deepen deepen_label
    deep (deeper_clear {t = t} c n) e at = deep_kept (parse s F t e at) (kept k s F t c n e at)
    deep (deeper_fails {t = t} {t' = t'} h) e at =
        deep_nothing (parse s F t e at) (parse s F t' e at) (nothing s F t h e at)
    deep (deeper_refuse {n = n} {w = w}) e at = then_refusal _ n w e at
    deep deeper_done e at = refl
    deep deeper_stop e at = refl
    deep deeper_step e at = deep_if (ltb at (length s)) _ _ _ _ refl tt
    deep (deeper_when {f = f} h g) e at = deep_if (f (byte_at s at)) _ _ _ _ (deep h e at) (deep g e at)
    deep (deeper_look {w = w} h g) e at = deep_if (stands s w at) _ _ _ _ (deep h e at) (deep g e at)
    deep (deeper_after {f = f} {r = r} {r' = r'} l h g) e at =
        deep_then (parse s F r e at) (parse s F r' e at) _ _ (deep l e at)
        (λ a o p. deep_if (f (byte_at s p)) _ _ _ _ (deep h e at) (deep g e at))
    deep (deeper_over {f = f} {r = r} {t = t} {u = u} {t' = t'} {u' = u'} h g) e at =
        deep_look (parse s F r e at) (λ p. pick (f (byte_at s p)) (parse s F t e at) (parse s F u e at))
        (λ p. pick (f (byte_at s p)) (parse s F t' e at) (parse s F u' e at))
        (λ p. deep_if (f (byte_at s p)) _ _ _ _ (deep h e at) (deep g e at))
    deep (deeper_seq {t = t} {u = u} {t' = t'} {u' = u'} h g) e at =
        deep_then (parse s F t e at) (parse s F t' e at) _ _ (deep h e at)
        (λ a o p. deep_if a _ _ _ _ (deep_behind o (parse s F u e p) (parse s F u' e p) (deep g e p)) refl)
    deep (deeper_many {t = t} {t' = t'} h) e at = deep_repeat (parse s F t e) (parse s F t' e) (λ p. deep h e p) F at
    deep (deeper_wrap {f = f} {t = t} {t' = t'} w h) e at =
        deep_then (parse s F t e at) (parse s F t' e at) _ _ (deep h e at)
        (λ a o p. ap (λ (l : Label). got a (group l (deepen k o) nil) p) (w o))
    deep (deeper_said {f = f} {r = r} {t = t} {u = u} {r' = r'} {t' = t'} {u' = u'} w l h g) e at =
        deep_then (parse s F r e at) (parse s F r' e at) _ _ (deep l e at)
        (λ a o p. deep_if a _ _ _ _ (deep_behind o (pick (f o) (parse s F t e p) (parse s F u e p))
        (pick (f (deepen k o)) (parse s F t' e p) (parse s F u' e p))
        (subst (λ (b : Bool). Deep (pick (f o) (parse s F t e p) (parse s F u e p))
        (pick b (parse s F t' e p) (parse s F u' e p))) (sym (w o))
        (deep_if (f o) (parse s F t e p) (parse s F u e p) (parse s F t' e p) (parse s F u' e p) (deep h e p)
        (deep g e p)))) refl)
    deep (deeper_marked h) e at = deep h at at
    deep (deeper_paired {d = d} {v = v} {t = t} {c = c} {u = u} {t' = t'} {c' = c'} {u' = u'} w h l g) e at =
        deep_then (parse s F t e at) (parse s F t' e at) _ _ (deep h e at) (λ a o p. deep_if a _ _ _ _
        (deep_then (parse s F c e p) (parse s F c' e p) _ _ (deep l e p) (λ b x q.
        deep_then (parse s F u e q) (parse s F u' e q) _ _ (deep g e q) (λ b' r z.
        deep_judged at q (v o r) (v (deepen k o) (deepen k r)) (got true (o ⋈ group (content d) x r) z) _ (w o r)
        (ap (λ (y : Forest). got true y z) (sym (deepen_join k o (group (content d) x r)))))))
        refl)

    -- What a rule gets, it gets with k more levels too.
    pub deeper_got : {t t' : Rule}
        → Deeper k t t'
        → (e at : ℕ) {a : Bool} {o : Forest} {p : ℕ} → parse s F t e at ≡ got a o p
        → parse s F t' e at ≡ got a (deepen k o) p
    deeper_got {t} {t'} h e at g = subst (λ (x : Answer). Deep x (parse s F t' e at)) g (deep h e at)

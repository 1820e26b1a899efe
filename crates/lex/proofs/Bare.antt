-- A rule that makes no group reads bytes alone: what it read are the input's bytes there.
use mathlib.Core.Path.{◌≡◌, refl, sym, ap, subst, ◌∙◌}
use mathlib.Core.Bool.{Bool, true, false}
use mathlib.Core.List.{List, ◌∷◌}
use Prim.Native.Nat.{ℕ, zero, suc, ◌+◌, ◌-◌}
use native.Mathlib.Omega.{arith}
use lib.ListN.{length}
use lib.Dec.{ltb}
use Rattle.rules.specs.Forest.{Forest, nil, byte, group, ◌⋈◌, width, direct}
use Rattle.rules.specs.Rule.{Rule, done, stop, step, refuse, when, look, after, seq, many, wrap, said, marked, paired}
use Rattle.rules.specs.Parse.{Answer, got, pick, behind, byte_at, stands, repeat, parse}
use Rattle.rules.specs.Record.{count}
use Rattle.rules.proofs.Run.{goes, Then, Lies, never, both, then_if, then_any, then_then, then_behind, then_refusal}
use Rattle.rules.proofs.Run.{wide_got, lies_got}
use Rattle.jsx.specs.Byte.{need}
use Rattle.jsx.specs.Blank.{comment_turn, comment, line_turn, line_comment, blank, blanks}
use Rattle.jsx.specs.Name.{part as name_part}
use Rattle.lex.specs.Contract.{bytes_from}

-- Whether a rule makes no group: no `wrap` and no `paired` stands in it, what it only looks over aside.
unfoldable pub bare : Rule → Bool
bare done = true
bare stop = true
bare step = true
bare (refuse n w) = true
bare (when f t u) = pick (bare t) (bare u) false
bare (look w t u) = pick (bare t) (bare u) false
bare (after r f t u) = pick (bare t) (bare u) false
bare (seq t u) = pick (bare t) (bare u) false
bare (many t) = bare t
bare (wrap f t) = false
bare (said f r t u) = pick (bare r) (pick (bare t) (bare u) false) false
bare (marked t) = bare t
bare (paired t d c u v) = false

-- Bytes alone.
abbrev pub Flat : Forest → Type 0
Flat nil = Unit {0}
Flat (byte b u) = Flat u
Flat (group l c u) = ⊥

flat_join : (u v : Forest) → Flat u → Flat v → Flat (u ⋈ v)
unfolding ◌⋈◌
flat_join nil v h k = k
flat_join (byte b u) v h k = flat_join u v h k
flat_join (group l c u) v h k = absurd h

abbrev FlatTo : Bool → Forest → ℕ → Type 0
FlatTo a o p = Flat o

flat_behind : (u : Forest) (x : Answer) → Flat u → Then x FlatTo → Then (behind u x) FlatTo
flat_behind u x h k = then_behind FlatTo FlatTo u x k (λ a o p g. flat_join u o h g)

flat_repeat : (body : ℕ → Answer) → ((at : ℕ) → Then (body at) FlatTo) → (f at : ℕ) → Then (repeat body f at) FlatTo
unfolding repeat
flat_repeat body h zero at = tt
flat_repeat body h (suc f) at = then_then FlatTo FlatTo (body at) _ (h at)
    (λ a o p w. then_if FlatTo a _ _
    (then_if FlatTo (ltb at p) _ _ (flat_behind o (repeat body f p) w (flat_repeat body h f p)) tt) w)

module _ (s : List ℕ) (F : ℕ) where
  flat : (t : Rule) → bare t ≡ true → (e at : ℕ) → Then (parse s F t e at) FlatTo
  unfolding parse bare
  flat done h e at = tt
  flat stop h e at = tt
  flat step h e at = then_if FlatTo (ltb at (length s)) _ _ tt tt
  flat (refuse n w) h e at = then_refusal FlatTo n w e at
  flat (when f t u) h e at =
      let g = both (bare t) (bare u) h in
      then_if FlatTo (f (byte_at s at)) _ _ (flat t g.0 e at) (flat u g.1 e at)
  flat (look w t u) h e at =
      let g = both (bare t) (bare u) h in
      then_if FlatTo (stands s w at) _ _ (flat t g.0 e at) (flat u g.1 e at)
  flat (after r f t u) h e at = let g = both (bare t) (bare u) h in
      then_any FlatTo (parse s F r e at) _
      (λ a o p. then_if FlatTo (f (byte_at s p)) _ _ (flat t g.0 e at) (flat u g.1 e at))
  flat (seq t u) h e at = let g = both (bare t) (bare u) h in
      then_then FlatTo FlatTo (parse s F t e at) _ (flat t g.0 e at)
      (λ a o p w. then_if FlatTo a _ _ (flat_behind o (parse s F u e p) w (flat u g.1 e p)) w)
  flat (many t) h e at = flat_repeat (parse s F t e) (λ p. flat t h e p) F at
  flat (wrap f t) h e at = never h
  flat (said f r t u) h e at =
      let g = both (bare r) (pick (bare t) (bare u) false) h in
      let k = both (bare t) (bare u) g.1 in
      then_then FlatTo FlatTo (parse s F r e at) _ (flat r g.0 e at)
      (λ a o p w. then_if FlatTo a _ _ (flat_behind o (pick (f o) (parse s F t e p) (parse s F u e p)) w
      (then_if FlatTo (f o) (parse s F t e p) (parse s F u e p) (flat t k.0 e p) (flat u k.1 e p))) w)
  flat (marked t) h e at = flat t h at at
  flat (paired t d c u v) h e at = never h

-- What such a rule got has no group.
pub flat_got : (s : List ℕ) (F : ℕ) (t : Rule) (e at : ℕ) {a : Bool} {o : Forest} {p : ℕ}
    → bare t ≡ true
    → parse s F t e at ≡ got a o p
    → Flat o
flat_got s F t e at h g = subst (λ (x : Answer). Then x FlatTo) g (flat s F t h e at)

-- Bytes alone make no record.
pub count_flat : (u : Forest) → Flat u → count u ≡ 0
unfolding count
count_flat nil h = refl
count_flat (byte b u) h = count_flat u h
count_flat (group l c u) h = absurd h

direct_lies : (s : List ℕ) (u : Forest) (at : ℕ) → Flat u → Lies s at u → direct u ≡ bytes_from s at (width u)
unfolding direct width bytes_from
direct_lies s nil at h l = refl
direct_lies s (byte b u) at h l = λ i. sym l.0 i ∷ direct_lies s u (at + 1) h l.1 i
direct_lies s (group k c u) at h l = absurd h

-- Its bytes are those of the input that it passed.
pub direct_got : (s : List ℕ) (F : ℕ) (t : Rule) (e at : ℕ) {a : Bool} {o : Forest} {p : ℕ}
    → bare t ≡ true
    → parse s F t e at ≡ got a o p
    → direct o ≡ bytes_from s at (p - at)
direct_got s F t e at {o = o} {p} h g =
    let w = wide_got s F t e at g in
    let k : width o ≡ p - at = omega arith in
    direct_lies s o at (flat_got s F t e at h g) (lies_got s F t e at g) ∙ ap (bytes_from s at) k

-- ---- a name's part, and blanks

-- A name's part makes no group.
pub bare_part : bare name_part ≡ true
unfolding bare name_part need
bare_part = refl

-- Blanks make no group.
pub bare_blanks : bare blanks ≡ true
unfolding bare blanks blank comment comment_turn line_comment line_turn
bare_blanks = refl

-- A name's part goes on wherever it gets something.
pub goes_part : goes name_part ≡ true
unfolding goes name_part need
goes_part = refl

-- Blanks go on wherever they get something.
pub goes_blanks : goes blanks ≡ true
unfolding goes blanks
goes_blanks = refl

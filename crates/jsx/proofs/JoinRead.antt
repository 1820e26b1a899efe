-- A run behind a run is a run: of readings.
use mathlib.Core.Path.{◌≡◌, refl, sym, ap, ◌∙◌}
use mathlib.Core.Bool.{Bool, true, false}
use mathlib.Core.List.{List, ◌++◌}
use Prim.Native.Nat.{ℕ, suc, ◌+◌, ◌≤◌}
use native.Mathlib.Omega.{arith}
use native.Mathlib.Nat.{le_refl}
use lib.ListN.{length, length-append}
use borrow.Author.Tests.{eqb-true}
use Rattle.rules.specs.Forest.{Forest, nil, ◌⋈◌}
use Rattle.rules.specs.Rule.{Rule, done, refuse, when, here}
use Rattle.rules.specs.Parse.{got, trouble, pick, byte_at, parse, parse_all, parsed}
use Rattle.rules.proofs.Forests.{behind_nil}
use Rattle.rules.proofs.Run.{both_read}
use Rattle.rules.proofs.Got.{trouble_got, got_same}
use Rattle.rules.proofs.Local.{local_got}
use Rattle.rules.proofs.Ends.{top_got, sees}
use Rattle.rules.proofs.Agree.{moved_along, byte_behind, Plain}
use Rattle.rules.proofs.Joined.{join}
use Rattle.jsx.specs.Refusal.{unexpected}
use Rattle.jsx.specs.Byte.{end}
use Rattle.jsx.specs.Element.{children}
use Rattle.jsx.specs.Compose.{text_label, Reads}
use Rattle.jsx.specs.Depth.{within}
use Rattle.jsx.specs.Reading.{run}
use Rattle.jsx.proofs.Front.{front}

-- A run is its children, and then the end.
pub run_of : (d : ℕ) (s : List ℕ) (u : Forest)
    → Reads (run d) s u
    → (p : ℕ) × (parsed s (children (within d)) 0 0 ≡ got true u p) × (byte_at s p ≡ 256)
unfolding Reads run parse_all parse
run_of d s u (p, h) =
    let x = both_read s (suc (length s)) (children (within d)) (when end done (refuse unexpected here)) 0 0 h in
    go x.0 x.1 x.2 x.3 x.5 (end (byte_at s x.1)) refl x.4
  where
    go : (o₁ : Forest) (p₁ : ℕ) (o₂ : Forest)
        → parsed s (children (within d)) 0 0 ≡ got true o₁ p₁
        → u ≡ o₁ ⋈ o₂
        → (b : Bool) → end (byte_at s p₁) ≡ b
        → pick b (got true nil p₁) (trouble 3 p₁ p₁ 0 0) ≡ got true o₂ p
        → (p : ℕ) × (parsed s (children (within d)) 0 0 ≡ got true u p) × (byte_at s p ≡ 256)
    go o₁ p₁ o₂ r w true e k =
        let k₁ = (got_same k).1 in (
          p₁,
          r ∙ ap (λ (n : Forest). got true n p₁) (sym (w ∙ ap (λ (n : Forest). o₁ ⋈ n) (sym k₁) ∙ behind_nil o₁)),
          eqb-true _ _ e,
        )
    go o₁ p₁ o₂ r w false e k = trouble_got k

-- Children, and then the end, are a run.
pub run_is : (d : ℕ) (s : List ℕ) (u : Forest) (p : ℕ)
    → parsed s (children (within d)) 0 0 ≡ got true u p
    → byte_at s p ≡ 256
    → Reads (run d) s u
unfolding Reads run parse_all parse
run_is d s u p h e = (p, rw (h, e) (ap (λ (n : Forest). got true n p) (behind_nil u)))

-- What reads y reads y behind x.
pub read_behind : (x y : List ℕ) (t : Rule) (e e' at : ℕ) {a : Bool} {o : Forest} {p : ℕ}
    → at ≤ length y
    → parsed y t e at ≡ got a o p
    → parsed (x ++ y) t e' (length x + at) ≡ got a o (length x + p)
read_behind x y t e e' at {a} {o} {p} le h = res.1 ∙ ap (λ (n : ℕ). got a o n) (omega (arith, res.2))
  where
    res : (q : ℕ) × (parsed (x ++ y) t e' (length x + at) ≡ got a o q) × (p + length x ≡ q + 0)
    res =
        let la = length-append x y in
        let pl = top_got y (suc (length y)) t e at le h in
        local_got (λ w. Unit {0}) y (x ++ y) 0 (length x) 0 (suc (length y)) (suc (length y)) (le_refl _)
        (moved_along y (x ++ y) 0 (length x) 0 (λ m m' tm lm. byte_behind x y m ∙ ap (byte_at (x ++ y)) (omega arith))
        (omega arith) (λ w. Unit {0}) (suc (length y)))
        (suc (length y)) (suc (length (x ++ y))) t e e' at (length x + at) (omega arith) (omega arith) (omega arith)
        (sees y (suc (length y)) t e at le) h (omega arith)

-- The reading of the two is the first's followed by the second's, but that a text and a text that meet are one.
-- For every depth that is left.
pub join_reads : (d : ℕ) (x y : List ℕ)
    → Plain x
    → (u v : Forest) → Reads (run d) x u
    → Reads (run d) y v
    → Reads (run d) (x ++ y) (join text_label u v)
join_reads d x y px u v hx hy =
    run_is d (x ++ y) (join text_label u v) (length x + Y.0)
    (unfold children parse in
    front x y px (suc (length x)) (suc (length (x ++ y))) 0 d (omega arith) (suc (length (x ++ y))) v
    (length x + Y.0) zR (suc (length x)) 0 (omega arith) X.1 X.2 (suc (length (x ++ y))) (omega (arith, ql)))
    (sym (byte_behind x y Y.0) ∙ Y.2)
  where
    X : (p : ℕ) × (parsed x (children (within d)) 0 0 ≡ got true u p) × (byte_at x p ≡ 256)
    X = run_of d x u hx

    Y : (p : ℕ) × (parsed y (children (within d)) 0 0 ≡ got true v p) × (byte_at y p ≡ 256)
    Y = run_of d y v hy

    zR : parsed (x ++ y) (children (within d)) 0 (length x) ≡ got true v (length x + Y.0)
    zR =
        ap (parsed (x ++ y) (children (within d)) 0) (omega arith)
        ∙ read_behind x y (children (within d)) 0 0 0 (omega arith) Y.1

    ql : length x + Y.0 ≤ length (x ++ y)
    ql =
        top_got (x ++ y) (suc (length (x ++ y))) (children (within d)) 0 (length x)
        (omega (arith, length-append x y)) zR

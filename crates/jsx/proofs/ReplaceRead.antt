-- The content of a paired element or of a fragment may be any run that is accepted with the depth that is left there:
-- of readings.
use mathlib.Core.Path.{◌≡◌, refl, sym, ap, subst, ◌∙◌}
use mathlib.Core.Bool.{true, false}
use mathlib.Core.List.{List, ◌++◌}
use Prim.Native.Nat.{ℕ, suc, ◌+◌, ◌-◌, ◌≤◌, ◌<◌}
use native.Mathlib.Omega.{arith}
use native.Mathlib.Nat.{le_refl}
use lib.ListN.{length, take, drop, length-append, length-drop, take-append-drop}
use lib.Seq.{length-take-le}
use Rattle.rules.specs.Forest.{Forest, nil, width}
use Rattle.rules.specs.Rule.{Rule}
use Rattle.rules.specs.Parse.{got, byte_at, parse, parse_all, parsed}
use Rattle.rules.proofs.Run.{wide_got}
use Rattle.rules.proofs.Local.{local_got}
use Rattle.rules.proofs.Ends.{top_got, sees, turn_last}
use Rattle.rules.proofs.Agree.{moved_along, byte_in, byte_behind, Plain}
use Rattle.rules.proofs.Spots.{Spot, fill, bytes_before, fits}
use Rattle.rules.proofs.Flow.{Mode, near}
use Rattle.rules.proofs.Found.{Content, found}
use Rattle.rules.proofs.Hole.{refill}
use Rattle.rules.proofs.Joined.{join_nil}
use Rattle.jsx.specs.Element.{child, children}
use Rattle.jsx.specs.Compose.{text_label, Reads}
use Rattle.jsx.specs.Depth.{within}
use Rattle.jsx.specs.Reading.{run}
use Rattle.jsx.proofs.Paired.{well_paired}
use Rattle.jsx.proofs.Shape.{content_of, closer, closer_low, L}
use Rattle.jsx.proofs.Child.{cbody, stops_at}
use Rattle.jsx.proofs.Front.{front}
use Rattle.jsx.proofs.JoinRead.{run_of, read_behind}

-- what stands behind b
backs : (s : List ℕ) (b j : ℕ) → b ≤ length s → byte_at (drop b s) j ≡ byte_at s (b + j)
backs s b j le =
    byte_behind (take b s) (drop b s) j ∙ (λ k. byte_at (take-append-drop b s k) (length-take-le b s le k + j))

-- t: what reads the whole.
module _ (t : Rule) (g k : Mode) (ut : L near t g k) (s y : List ℕ) (py : Plain y) (d : ℕ) (c₀ u v : Forest) (q : ℕ)
    (hs : parsed s t 0 0 ≡ got true u q) (ω : Spot d c₀ u) (hy : Reads (run d) y v) where
  p : ℕ
  p = bytes_before ω

  b : ℕ
  b = bytes_before ω + width c₀

  f : Content content_of closer well_paired s (suc (length s)) d c₀ (0 + bytes_before ω)
  f = (found content_of closer well_paired s (suc (length s)) d c₀ ut 0 0 true u q hs tt ω).1

  was : parsed s (children (within d)) f.at_mark p ≡ got true c₀ b
  unfolding p b
  was = ap (parsed s (children (within d)) f.at_mark) e ∙ f.was ∙ ap (λ (n : ℕ). got true c₀ (n + width c₀)) (sym e)
    where
      e : bytes_before ω ≡ 0 + bytes_before ω
      e = omega arith

  p_le : p ≤ length s
  unfolding p
  p_le = go
    where
      go : bytes_before ω ≤ length s
      go =
          omega (arith, fits ω, wide_got s (suc (length s)) t 0 0 hs, top_got s (suc (length s)) t 0 0 (omega arith) hs)

  b_le : b ≤ length s
  b_le = top_got s (suc (length s)) (children (within d)) f.at_mark p p_le was

  bp : b ≡ p + width c₀
  unfolding b p
  bp = refl

  z : List ℕ
  z = y ++ drop b s

  s' : List ℕ
  s' = take p s ++ z

  length_z : length z + b ≡ length y + length s
  unfolding z
  length_z = omega (arith, length-append y (drop b s), length-drop b s, b_le)

  length_p : length (take p s) ≡ p
  length_p = length-take-le p s p_le

  length_s' : length s' ≡ p + length z
  unfolding s'
  length_s' = length-append (take p s) z ∙ ap (λ (n : ℕ). n + length z) length_p

  -- s from b on is z from y's end on
  tail : (n n' : ℕ) → n + length y ≡ n' + b → b ≤ n → byte_at s n ≡ byte_at z n'
  unfolding z
  tail n n' tw lo =
      ap (byte_at s) (omega arith)
      ∙ sym (backs s b (n - b) b_le)
      ∙ byte_behind y (drop b s) (n - b)
      ∙ ap (byte_at z) (omega arith)

  halt : cbody z (suc (length z)) 0 d (length y) ≡ got false nil (length y)
  halt = res.1 ∙ ap (λ (n : ℕ). got false nil n) (omega (arith, res.2))
    where
      h : cbody s (suc (length s)) f.at_mark d b ≡ got false nil b
      h = unfold children parse in stops_at s (suc (length s)) f.at_mark d (suc (length s)) p was

      res : (n : ℕ) × (cbody z (suc (length z)) 0 d (length y) ≡ got false nil n) × (b + length y ≡ n + b)
      res =
          local_got (λ w. Unit {0}) s z b (length y) b (suc (length s)) (suc (length s)) (le_refl _)
          (moved_along s z b (length y) b tail (omega (arith, length_z)) (λ w. Unit {0}) (suc (length s)))
          (suc (length s)) (suc (length z)) (child (within d)) f.at_mark 0 b (length y) (omega (arith, length_z))
          (omega arith) (le_refl _) (sees s (suc (length s)) (child (within d)) f.at_mark b b_le) h
          (omega (arith, b_le))

  -- y, in front of the closing tag
  content : parsed z (children (within d)) 0 0 ≡ got true v (length y)
  unfolding children parse z
  content =
      front y (drop b s) py (suc (length y)) (suc (length z)) 0 d (omega arith) 1 nil (length y)
      (turn_last (cbody z (suc (length z)) 0 d) 0 (length y) halt) (suc (length y)) 0 (omega arith) Y.1 Y.2
      (suc (length z)) (omega (arith, length_z, b_le))
      ∙ ap (λ (n : Forest). got true n (length y)) (join_nil text_label v)
    where
      Y : (n : ℕ) × (parsed y (children (within d)) 0 0 ≡ got true v n) × (byte_at y n ≡ 256)
      Y = run_of d y v hy

  reads : (m : ℕ) → parsed s' (content_of d) m p ≡ got true v (p + length y)
  unfolding s'
  reads m =
      ap (parsed s' (children (within d)) m) (omega (arith, length_p))
      ∙ read_behind (take p s) z (children (within d)) 0 m 0 (omega arith) content
      ∙ ap (λ (n : ℕ). got true v (n + length y)) length_p

  ante : (n : ℕ) → n < p → byte_at s n ≡ byte_at s' n
  unfolding s'
  ante n lt =
      ap (λ (l : List ℕ). byte_at l n) (sym (take-append-drop p s))
      ∙ sym (byte_in (take p s) (drop p s) n (omega (arith, length_p)))
      ∙ byte_in (take p s) z n (omega (arith, length_p))

  post : (n n' : ℕ) → n + length y ≡ n' + width c₀ → p + width c₀ ≤ n → byte_at s n ≡ byte_at s' n'
  unfolding s'
  post n n' tw lo =
      tail n (n' - p) (omega (arith, bp)) (omega (arith, bp))
      ∙ byte_behind (take p s) z (n' - p)
      ∙ ap (byte_at s') (omega (arith, length_p, bp))

  replaced : Reads t s' (fill ω v)
  unfolding Reads parse_all p
  replaced =
      let X = refill content_of closer well_paired s s' d c₀ v p (p + length y) (width c₀) (length y)
      (omega (arith, bp, b_le)) (omega (arith, length_s')) ante post (omega (arith, length_s', length_z, bp))
      (omega arith) (omega arith)
      (λ j ej. let c = f.closed in subst (λ (n : ℕ). closer (byte_at s n) ≡ true) (omega (arith, c.1)) c.2)
      closer_low reads ut
      0 0 0 true u q (omega arith) tt hs ω (omega arith) in
      (X.0, X.1)

  replace : Reads t (take (bytes_before ω) s ++ (y ++ drop (bytes_before ω + width c₀) s)) (fill ω v)
  unfolding s' z p b
  replace = replaced

-- ω is the way to a content c₀ in the reading u of s; the run y is read as v with the depth d that is left there.
pub replace_reads : (t : Rule) {g k : Mode}
    → L near t g k
    → (s y : List ℕ) → Plain y
    → (u v : Forest) → Reads t s u
    → (d : ℕ) (c₀ : Forest) (ω : Spot d c₀ u) → Reads (run d) y v
    → Reads t (take (bytes_before ω) s ++ (y ++ drop (bytes_before ω + width c₀) s)) (fill ω v)
unfolding Reads parse_all
replace_reads t {g} {k} flow s y py u v (q, hs) d c₀ ω hy = replace t g k flow s y py d c₀ u v q hs ω hy

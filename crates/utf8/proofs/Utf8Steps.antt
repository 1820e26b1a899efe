-- The loop over sequences, step by step.
use mathlib.Core.Path.{◌≡◌, refl, sym, ap, subst, ◌∙◌}
use mathlib.Core.Bool.{true, false}
use mathlib.Core.List.{List}
use Rattle.std.specs.Prelude.{Option, None, Some}
use Prim.Native.Nat.{ℕ, ◌+◌, ◌-◌, ◌≤◌, ◌<◌}
use native.Mathlib.Omega.{arith}
use mir.Syntax.{w8}
use mir.Val.{Fits}
use lib.Dec.{leb}
use lib.ListN.{length, get_or, get_or-eq_default}
use borrow.Author.Tests.{lt-ltb, lt-leb, leb-false, ne_eqb}
use Rattle.rules.specs.Forest.{nil, byte}
use Rattle.rules.specs.Rule.{Rule, stop, when, marked, ◌⇒◌∣◌}
use Rattle.rules.specs.Parse.{got, byte_at, parsed, read_at, parse}
use Rattle.jsx.specs.Refusal.{not_utf8}
use Rattle.jsx.specs.Byte.{end}
use Rattle.jsx.specs.Utf8.{sequence, utf8}
use Rattle.lex.specs.Contract.{out_of, nothing, Leaf, Past}
use Rattle.lex.specs.Answer.{Got, No}
use Rattle.lex.proofs.Laws.{inside, before_end, when_no, leaf_stop, leaf_done}
use Rattle.lex.proofs.Turns.{Turns, turns_begin, turns_more, turns_end, turns_no}
use Rattle.lex.proofs.Results.{results_made}
use Rattle.lanes.specs.Lanes.{beyond}
use Rattle.lanes.specs.First.{First}
use Rattle.lanes.proofs.Over.{turns_over}
use Rattle.lex.proofs.Ranges.{in_range}
use Rattle.utf8.specs.Lead.{Ended}

-- The rule `utf8` is `many turn`.
abbrev pub turn : Rule
turn = when end ⇒ stop ∣ marked sequence

-- Before the first byte.
pub utf8_begins : {s : List ℕ} → Turns s turn 0 0 0
utf8_begins {s} = turns_begin s turn 0 0 (omega arith)

module _ (s : List ℕ) (each : (k : ℕ) → Fits w8 (get_or s k 0)) (p : ℕ) (i : p < length s) where
  -- Within the input a turn reads a sequence.
  on : parsed s turn 0 p ≡ read_at s (marked sequence) p
  on =
      let f = (each p).fits in
      let e = inside s p 0 256 i in
      when_no s _ 0 p end stop (marked sequence) (ne_eqb (byte_at s p) 256 (λ z. omega arith))

  -- A byte of ASCII is one.
  passes : beyond (byte_at s p) ≡ false → parsed s turn 0 p ≡ got true (byte (byte_at s p) nil) (p + 1)
  unfolding parse sequence
  passes h =
      let k = leb-false 0x80 (byte_at s p) h in
      on ∙ rw (in_range 0x00 0x7F (byte_at s p) (omega arith) (omega arith), lt-ltb p (length s) i)

module _ {s : List ℕ} {p : ℕ} (v : Turns s turn 0 0 p) where
  -- The input ends.
  pub utf8_ends : length s ≤ p → Leaf nothing (Got p 0) s utf8 0 0
  unfolding utf8 parse
  utf8_ends h = leaf_done nothing s utf8 0 0 p 0 (turns_end v (rw (get_or-eq_default s 256 h))) refl (omega arith)

  module _ (i : p < length s) (each : (k : ℕ) → Fits w8 (get_or s k 0)) where
    -- A byte of ASCII.
    pub ascii_passes : get_or s p 0 < 0x80 → Turns s turn 0 0 (p + 1)
    ascii_passes h =
        let e = inside s p 0 256 i in
        let k = lt-leb 0x80 (byte_at s p) (omega arith) in
        turns_more v (passes s each p i k) (omega arith) (omega arith)

    -- One more, and all up to the first beyond it.
    module _ (h : get_or s p 0 < 0x80) {b : ℕ} (y : b ≡ byte_at s (p + 1)) (k : b < 0x80) where
      pub ascii_goes_on : {q : ℕ} → First beyond s (p + 2) q → Turns s turn 0 0 q
      ascii_goes_on l =
          let j = before_end s (p + 1) b (sym y) (omega arith) in
          let e : p + 1 + 1 ≡ p + 2 = omega arith in
          let m = passes s each (p + 1) j (ap (leb 0x80) (sym y) ∙ lt-leb 0x80 b k) in
          let w = turns_more (ascii_passes h) m (omega arith) (omega arith) in
          turns_over beyond (subst (Turns s turn 0 0) e w) l.clear (passes s each)

    module _ {x : Option ℕ} (l : Ended x s p) where
      -- No sequence begins here.
      pub utf8_stops : x ≡ None → Leaf nothing (No not_utf8 p p 0 0) s utf8 0 0
      unfolding utf8
      utf8_stops h = leaf_stop nothing s utf8 0 0 refl (turns_no v (on s each p i ∙ rw h at l))

      -- One does.
      pub utf8_goes_on : {q : ℕ} → x ≡ Some q → Turns s turn 0 0 q
      utf8_goes_on {q} h =
          let m : Past q s (marked sequence) p 1 = rw h at l in
          let k = m.far in
          turns_more v {o = out_of (read_at s (marked sequence) p)} (on s each p i ∙ m.is) (omega arith) (omega arith)

-- What is asked: behind two bytes of ASCII is within the input, and nearer to its end.
module _ (s : List ℕ) (p : ℕ) {b : ℕ} (y : b ≡ byte_at s (p + 1)) (k : b < 0x80) where
  pub ascii_asked : p + 2 ≤ length s
  ascii_asked = let j = before_end s (p + 1) b (sym y) (omega arith) in omega arith

  pub ascii_nearer : {q : ℕ} → First beyond s (p + 2) q → length s - q < length s - p
  ascii_nearer l =
      let j = ascii_asked in
      let m = l.clear.past in
      let n = l.clear.inside in
      omega arith

-- The byte at p, as the code has it.
pub byte_here : (s : List ℕ) (p : ℕ) → p < length s → byte_at s p ≡ get_or s p 0
byte_here s p i = sym (inside s p 0 256 i)

pub ruleset utf8_steps = (results_made, utf8_begins, utf8_ends, ascii_passes, ascii_goes_on, utf8_stops, utf8_goes_on)

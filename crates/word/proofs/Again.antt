-- A part of a name, and the same bytes elsewhere: the same part.
use mathlib.Core.Path.{◌≡◌, refl, sym, ap, subst, ◌∙◌}
use mathlib.Core.Bool.{Bool, true, false}
use mathlib.Core.List.{List}
use Prim.Native.Nat.{ℕ, zero, suc, ◌+◌, ◌-◌, ◌≤◌, ◌<◌}
use native.Mathlib.Omega.{arith}
use lib.ListN.{length}
use Rattle.rules.specs.Forest.{Forest, nil, ◌⋈◌}
use Rattle.rules.specs.Rule.{when_char, ◌⇒◌∣◌}
use Rattle.rules.specs.Parse.{Answer, got, pick, behind, byte_at, no_char, code_at, repeat, parse, parsed, read_at}
use Rattle.rules.proofs.Run.{never, both_read}
use Rattle.rules.proofs.Got.{trouble_got, got_same}
use Rattle.rules.proofs.Ends.{Turn, last, goon, turn}
use Rattle.rules.proofs.Local.{Up, up, up_repeat}
use Rattle.rules.proofs.Turns.{many_more, many_last}
use Rattle.jsx.specs.Byte.{character, need}
use Rattle.jsx.specs.Name.{opens_part, in_part, part as name_part}
use Rattle.lex.proofs.Laws as Lex
use Rattle.character.specs.Width.{width_of}
use Rattle.character.proofs.Read.{spelled, character_spelled, character_wide}
use Rattle.character.proofs.Again.{Same, code_again, first_again, spelling_again}
use Rattle.word.specs.Here.{rest_of_part}
use Rattle.word.proofs.PartTests
use Rattle.word.proofs.PartSteps.{part_turn, part_no}

-- A character of a part is one.
in_coded : (s : List ℕ) (p : ℕ) → in_part (code_at s p) ≡ true → code_at s p ≡ no_char → ⊥
in_coded s p t z = never (sym PartTests.none_goes_on ∙ sym (ap in_part z) ∙ t)

opens_coded : (s : List ℕ) (p : ℕ) → opens_part (code_at s p) ≡ true → code_at s p ≡ no_char → ⊥
opens_coded s p t z = never (sym PartTests.none_opens ∙ sym (ap opens_part z) ∙ t)

module _ (s : List ℕ) where
  -- What a character is read as.
  abbrev letters : ℕ → Forest
  letters p = spelled s p (width_of (byte_at s p) - 1)

  abbrev behind_one : ℕ → ℕ
  behind_one p = p + width_of (byte_at s p)

  -- ---- a turn, by what it got

  -- It went on: over one character of a part.
  record On (at : ℕ) (o : Forest) (p : ℕ) : Type 0 where
    coded : in_part (code_at s at) ≡ true
    reads : o ≡ letters at
    next : p ≡ behind_one at

  turn_on : (at : ℕ) {o : Forest} {p : ℕ} → read_at s part_turn at ≡ got true o p → On at o p
  unfolding parse
  turn_on at {o} {p} h = go (in_part (code_at s at)) refl h
    where
      go : (b : Bool) → in_part (code_at s at) ≡ b → pick b (parsed s character 0 at) (got false nil at) ≡ got true o p
          → On at o p
      go true e k =
          let c = character_spelled s (suc (length s)) 0 at (in_coded s at e) in
          let g = got_same (sym c ∙ k) in
          record { coded = e; reads = sym g.1; next = sym g.2 }
      go false e k = never (got_same k).0

  -- It ended: at a character of no part.
  record Off (at : ℕ) (o : Forest) (p : ℕ) : Type 0 where
    other : in_part (code_at s at) ≡ false
    none : o ≡ nil
    here : p ≡ at

  turn_off : (at : ℕ) {o : Forest} {p : ℕ} → read_at s part_turn at ≡ got false o p → Off at o p
  unfolding parse
  turn_off at {o} {p} h = go (in_part (code_at s at)) refl h
    where
      go : (b : Bool) → in_part (code_at s at) ≡ b → pick b (parsed s character 0 at) (got false nil at) ≡ got false o p
          → Off at o p
      go true e k =
          let c = character_spelled s (suc (length s)) 0 at (in_coded s at e) in
          never (sym (got_same (sym c ∙ k)).0)
      go false e k = let g = got_same k in record { other = e; none = sym g.1; here = sym g.2 }

  -- ---- the rest of a part from p to e, and the same bytes from q on

  abbrev turns : (fuel at : ℕ) → Answer
  turns fuel at = repeat (parse s (suc (length s)) part_turn 0) fuel at

  turns_up : (fuel at : ℕ) {w : Forest} {e : ℕ} → turns fuel at ≡ got true w e → at ≤ e
  turns_up fuel at h =
      subst (Up at) h
      (up_repeat (parse s (suc (length s)) part_turn 0) (λ p. up s (suc (length s)) part_turn 0 p) fuel at)

  abbrev Agree : (p e q : ℕ) → Type 0
  Agree p e q = (i : ℕ) → p + i < e → byte_at s (p + i) ≡ byte_at s (q + i)

  -- Behind n of them.
  agree_on : (p e q n : ℕ) → Agree p e q → Agree (p + n) e (q + n)
  agree_on p e q n h i l =
      let x : p + n + i ≡ p + (n + i) = omega arith in
      let y : q + n + i ≡ q + (n + i) = omega arith in
      rw (x, y) (h (n + i) (omega arith))

  -- A character that stands before e stands from q on.
  agree_one : (p e q : ℕ) → Agree p e q → behind_one p ≤ e → Same s p q (width_of (byte_at s p))
  agree_one p e q h l i m = h i (omega arith)

  -- The bytes of q are those of p.
  agree_back : (p e q f : ℕ) → Agree p e q → e + q ≡ f + p → Agree q f p
  agree_back p e q f h j i l = sym (h i (omega arith))

  -- With a character of no part behind them, they are the same rest.
  rest_again : (fuel p e q z : ℕ) (w : Forest)
      → turns fuel p ≡ got true w e
      → z + p ≡ q + e
      → Agree p e q
      → in_part (code_at s z) ≡ false
      → z ≤ length s
      → read_at s rest_of_part q ≡ got true w z
  unfolding repeat parse
  rest_again zero p e q z w h j agree st i = trouble_got h
  rest_again (suc fuel) p e q z w h j agree st i =
      go (turn (parse s (suc (length s)) part_turn 0) fuel p h).1
      (λ v r.
      rest_again fuel (behind_one p) e (q + width_of (byte_at s p)) z v r (omega arith)
      (agree_on p e q (width_of (byte_at s p)) agree) st i)
    where
      go : Turn (parse s (suc (length s)) part_turn 0) fuel p w e
          → ((v : Forest)
          → turns fuel (behind_one p) ≡ got true v e
          → read_at s rest_of_part (q + width_of (byte_at s p)) ≡ got true v z)
          → read_at s rest_of_part q ≡ got true w z
      go (last x) ih =
          let g = turn_off p x in
          let k : z ≡ q = omega (arith, g.here) in
          let y : in_part (code_at s q) ≡ false = rw k at st in
          many_last s part_turn 0 q (rw y) ∙ (λ j. got true (sym g.none j) (sym k j))
      go (goon o p₁ v x m r c) ih =
          let g = turn_on p x in
          let r' : turns fuel (behind_one p) ≡ got true v e = ap (turns fuel) (sym g.next) ∙ r in
          let le : behind_one p ≤ e = turns_up fuel (behind_one p) r' in
          let k = in_coded s p g.coded in
          let same = agree_one p e q agree le in
          let wide = character_wide s p k in
          let b = first_again s p q k same wide in
          let t : in_part (code_at s q) ≡ true = ap in_part (sym (code_again s p q k same)) ∙ g.coded in
          let n = ap width_of b in
          let read : read_at s part_turn q ≡ got true (letters q) (q + width_of (byte_at s p)) =
          rw t (character_spelled s (suc (length s)) 0 q (in_coded s q t)
          ∙ ap (λ (m : ℕ). got true (letters q) (q + m)) (sym n)) in
          many_more s part_turn 0 q read (omega arith) (omega arith)
          ∙ ap (behind (letters q)) (ih v r')
          ∙ ap (λ (u : Forest). got true (u ⋈ v) z) (sym (spelling_again s p q k same) ∙ sym g.reads)
          ∙ ap (λ (u : Forest). got true u z) (sym c)

  -- Rests in the same bytes, up to b and up to d, end at the same one.
  rest_twin : (fuel fuel₂ p q e f b d : ℕ) {w w₂ : Forest}
      → turns fuel p ≡ got true w e
      → turns fuel₂ q ≡ got true w₂ f
      → Agree p b q
      → b + q ≡ d + p
      → e ≤ b
      → f ≤ d
      → e + q ≡ f + p
  unfolding repeat
  rest_twin zero fuel₂ p q e f b d h h₂ agree j le le₂ = trouble_got h
  rest_twin (suc fuel) zero p q e f b d h h₂ agree j le le₂ = trouble_got h₂
  rest_twin (suc fuel) (suc fuel₂) p q e f b d {w} {w₂} h h₂ agree j le le₂ =
      go (turn (parse s (suc (length s)) part_turn 0) fuel p h).1
      (turn (parse s (suc (length s)) part_turn 0) fuel₂ q h₂).1
      (λ n v v₂ r r₂.
      rest_twin fuel fuel₂ (p + n) (q + n) e f b d r r₂ (agree_on p b q n agree) (omega arith) le le₂)
    where
      -- A character of the one is one of the other.
      meets : (p q b : ℕ) → Agree p b q → (k : code_at s p ≡ no_char → ⊥) → behind_one p ≤ b
          → (code_at s p ≡ code_at s q) × (width_of (byte_at s p) ≡ width_of (byte_at s q))
      meets p q b agree k le =
          let same = agree_one p b q agree le in
          (code_again s p q k same, ap width_of (first_again s p q k same (character_wide s p k)))

      go : Turn (parse s (suc (length s)) part_turn 0) fuel p w e
          → Turn (parse s (suc (length s)) part_turn 0) fuel₂ q w₂ f
          → ((n : ℕ) (v v₂ : Forest) → turns fuel (p + n) ≡ got true v e → turns fuel₂ (q + n) ≡ got true v₂ f
          → e + (q + n) ≡ f + (p + n))
          → e + q ≡ f + p
      go (last x) (last y) ih = omega (arith, (turn_off p x).here, (turn_off q y).here)
      go (last x) (goon o q₁ v y m r c) ih =
          let g = turn_on q y in
          let r' = ap (turns fuel₂) (sym g.next) ∙ r in
          let up₂ = turns_up fuel₂ (behind_one q) r' in
          let t = meets q p d (agree_back p b q d agree j) (in_coded s q g.coded) (omega arith) in
          never (sym (turn_off p x).other ∙ ap in_part (sym t.0) ∙ g.coded)
      go (goon o p₁ v x m r c) (last y) ih =
          let g = turn_on p x in
          let r' = ap (turns fuel) (sym g.next) ∙ r in
          let up₁ = turns_up fuel (behind_one p) r' in
          let t = meets p q b agree (in_coded s p g.coded) (omega arith) in
          never (sym (turn_off q y).other ∙ ap in_part (sym t.0) ∙ g.coded)
      go (goon o p₁ v x m r c) (goon o₂ q₁ v₂ y m₂ r₂ c₂) ih =
          let g = turn_on p x in
          let g₂ = turn_on q y in
          let r' = ap (turns fuel) (sym g.next) ∙ r in
          let up₁ = turns_up fuel (behind_one p) r' in
          let t = meets p q b agree (in_coded s p g.coded) (omega arith) in
          let n = width_of (byte_at s p) in
          let i : q₁ ≡ q + n = g₂.next ∙ ap (λ (m : ℕ). q + m) (sym t.1) in
          let z = ih n v v₂ r' (ap (turns fuel₂) (sym i) ∙ r₂) in
          omega arith

-- ---- a part from a to e

module _ (s : List ℕ) (a e : ℕ) {w : Forest} (h : read_at s name_part a ≡ got true w e) where
  abbrev First : Type 0
  First = (o₁ : Forest)
      × (p₁ : ℕ)
      × (o₂ : Forest)
      × (read_at s (when_char opens_part ⇒ character ∣ need) a ≡ got true o₁ p₁)
      × (read_at s rest_of_part p₁ ≡ got true o₂ e)
      × (w ≡ o₁ ⋈ o₂)

  first : First
  unfolding name_part parse
  first = both_read s (suc (length s)) (when_char opens_part ⇒ character ∣ need) rest_of_part 0 a h

  -- It begins with a character that opens one.
  pub part_opens : opens_part (code_at s a) ≡ true
  part_opens = go (opens_part (code_at s a)) refl
    where
      go : (b : Bool) → opens_part (code_at s a) ≡ b → opens_part (code_at s a) ≡ true
      go true x = x
      go false x = absurd (subst Lex.Fails (part_no s a x ∙ h) (Lex.need_fails s a))

  -- Behind it the rest is read.
  record Opened : Type 0 where
    rest : Forest
    read : read_at s rest_of_part (behind_one s a) ≡ got true rest e
    whole : w ≡ letters s a ⋈ rest

  opened : Opened
  unfolding parse
  opened = go first
    where
      go : First → Opened
      go (o₁, p₁, o₂, x, y, z) =
          let c : read_at s (when_char opens_part ⇒ character ∣ need) a ≡ got true (letters s a) (behind_one s a) =
          rw part_opens (character_spelled s (suc (length s)) 0 a (opens_coded s a part_opens)) in
          let g = got_same (sym c ∙ x) in
          record {
            rest = o₂;
            read = ap (read_at s rest_of_part) g.2 ∙ y;
            whole = z ∙ ap (λ (u : Forest). u ⋈ o₂) (sym g.1);
          }

  -- Its first character ends within it.
  pub first_within : behind_one s a ≤ e
  unfolding parse
  first_within = turns_up s (suc (length s)) (behind_one s a) opened.read

  module _ (c : ℕ) (agree : Agree s a e c) where
    same_one : Same s a c (width_of (byte_at s a))
    same_one = agree_one s a e c agree first_within

    -- The same bytes from c on begin with that character.
    pub opens_again : opens_part (code_at s c) ≡ true
    opens_again = ap opens_part (sym (code_again s a c (opens_coded s a part_opens) same_one)) ∙ part_opens

    -- With a character of no part behind them, they are the same part.
    pub part_again : (z : ℕ) → z + a ≡ c + e → in_part (code_at s z) ≡ false → z ≤ length s
        → read_at s name_part c ≡ got true w z
    unfolding name_part parse
    part_again z j st i =
        let k = opens_coded s a part_opens in
        let wide = character_wide s a k in
        let b = first_again s a c k same_one wide in
        let n = ap width_of b in
        let up = first_within in
        let one : read_at s (when_char opens_part ⇒ character ∣ need) c
        ≡ got true (letters s c) (c + width_of (byte_at s a)) =
        rw opens_again (character_spelled s (suc (length s)) 0 c (opens_coded s c opens_again)
        ∙ ap (λ (m : ℕ). got true (letters s c) (c + m)) (sym n)) in
        let rest = rest_again s (suc (length s)) (behind_one s a) e (c + width_of (byte_at s a)) z opened.rest
        opened.read (omega arith) (agree_on s a e c (width_of (byte_at s a)) agree) st i in
        Lex.seq_is s (suc (length s)) 0 c (when_char opens_part ⇒ character ∣ need) rest_of_part one
        ∙ ap (behind (letters s c)) rest
        ∙ ap (λ (u : Forest). got true (u ⋈ opened.rest) z) (sym (spelling_again s a c k same_one))
        ∙ ap (λ (u : Forest). got true u z) (sym opened.whole)

-- Parts in the same bytes, up to b and up to d, end at the same one.
pub parts_twin : (s : List ℕ) (p q e f b d : ℕ) {w w₂ : Forest}
    → read_at s name_part p ≡ got true w e
    → read_at s name_part q ≡ got true w₂ f
    → Agree s p b q
    → b + q ≡ d + p
    → e ≤ b
    → f ≤ d
    → e + q ≡ f + p
unfolding parse
parts_twin s p q e f b d h h₂ agree j le le₂ =
    let within = first_within s p e h in
    let k = opens_coded s p (part_opens s p e h) in
    let same = agree_one s p b q agree (omega arith) in
    let n = width_of (byte_at s p) in
    let m : n ≡ width_of (byte_at s q) = ap width_of (first_again s p q k same (character_wide s p k)) in
    let r₂ = ap (λ (i : ℕ). read_at s rest_of_part (q + i)) m ∙ (opened s q f h₂).read in
    let z = rest_twin s (suc (length s)) (suc (length s)) (p + n) (q + n) e f b d (opened s p e h).read r₂
    (agree_on s p b q n agree) (omega arith) le le₂ in
    omega arith

-- The two readings, step by step, from the readers' answers.
use mathlib.Core.Path.{◌≡◌, refl, sym, ◌∙◌}
use mathlib.Core.Bool.{Bool, true, false}
use mathlib.Core.List.{List}
use Prim.Native.Char.{code}
use Prim.Native.Nat.{ℕ, suc, ◌≤◌, ◌<◌}
use native.Mathlib.Omega.{arith}
use lib.Dec.{lit<}
use lib.ListN.{length}
use Rattle.lex.proofs.Results.{results}
use Rattle.rules.specs.Forest.{Forest}
use Rattle.rules.specs.Rule.{Rule, done, refuse, when, here, ◌⨾◌, ◌⇒◌∣◌}
use Rattle.rules.specs.Parse.{Answer, got, trouble, byte_at, parse, read_at}
use Rattle.rules.proofs.Run.{goes}
use Rattle.rules.proofs.Flat.{seq_assoc}
use Rattle.jsx.specs.Refusal.{unexpected, after_stage}
use Rattle.jsx.specs.Byte.{is, end, need}
use Rattle.jsx.specs.Blank.{blanks}
use Rattle.jsx.specs.Expression.{no_sibling}
use Rattle.jsx.specs.Element.{children}
use Rattle.jsx.specs.Depth.{within}
use Rattle.jsx.specs.Reading.{stage, run}
use Rattle.jsx.proofs.Goes.{within_goes}
use Rattle.lex.specs.Contract.{nothing, Leaf}
use Rattle.lex.specs.Answer.{Ans, Got, No, refused as says}
use Rattle.lex.specs.declared.refusal.Refusal.{Refusal}
use Rattle.lex.proofs.Laws as Lex
use Rattle.lex.proofs.Bare.{goes_blanks, bare_blanks}
use Rattle.table.specs.Slot.{Seat}
use Rattle.table.specs.Reader.{Room, Made}
use Rattle.table.proofs.Made.{refused}
use Rattle.table.proofs.Upto.{Upto, upto_begin, upto_as, upto_count}
use Rattle.table.proofs.Upto.{upto_no, upto_when, upto_else, leaf_goes, leaf_stops}
use Rattle.table.proofs.Upto.{made_goes, made_stops, upto_made, same_seat}
use Rattle.table.proofs.Asked.{reader_asked}
use Rattle.tag.proofs.Rules.{goes_sibling}
use Rattle.stage.specs.Call.{whole}

-- ---- the end of either reading

-- The end of input, or refusal n.
abbrev ending : ℕ → Rule
ending n = when end ⇒ done ∣ refuse n here

module _ {s : List ℕ} {G : Rule} {n p m : ℕ} {t₀ t : List ℕ} (v : Upto s G 0 whole 0 t₀ (ending n) p m t)
    {b : ℕ} (y : b ≡ byte_at s p) where
  -- The input ends here: the reading is through.
  ends : b ≡ 256 → Made (Got p m) s G 0 0 whole 0 t₀ t
  ends h = upto_made 0 (upto_when v y (Lex.byte_is refl h)) (omega arith)

  -- It does not: the reading is refused.
  ends_not : {t' : List ℕ} → (b ≡ 256 → ⊥) → Made (No n p p 0 0) s G 0 0 whole 0 t₀ t'
  unfolding parse
  ends_not h = refused (upto_no (upto_else v y (Lex.byte_not refl h)) refl) refl

-- ---- a stage

-- What is behind the element of a stage.
abbrev behind_element : Rule
behind_element = blanks ⨾ ending after_stage

-- A stage behind its blanks.
abbrev from_element : Rule
from_element = (when (is "<") ⇒ (within 64).element ∣ need) ⨾ no_sibling after_stage ⨾ behind_element

-- An element that is no child goes on.
goes_lone : goes ((within 64).element ⨾ no_sibling after_stage) ≡ true
unfolding goes
goes_lone = rw ((within_goes 64).element, goes_sibling after_stage)

module _ (s : List ℕ) (p : ℕ) where
  first : is "<" (byte_at s p) ≡ true
      → read_at s from_element p ≡ read_at s ((within 64).element ⨾ no_sibling after_stage ⨾ behind_element) p
  unfolding parse
  first h = rw h

  -- Where a `<` stands, an element is read, and the look behind it with it.
  opened : is "<" (byte_at s p) ≡ true
      → read_at s from_element p ≡ read_at s (((within 64).element ⨾ no_sibling after_stage) ⨾ behind_element) p
  opened h =
      first h ∙ sym (seq_assoc s (suc (length s)) (within 64).element (no_sibling after_stage) behind_element 0 p)

  -- Where none stands, the refusal of what is needed is the whole answer.
  unopened : is "<" (byte_at s p) ≡ false → {n a b c d : ℕ} → read_at s need p ≡ trouble n a b c d
      → read_at s from_element p ≡ trouble n a b c d
  unfolding parse
  unopened h e = rw (h, e)

module _ {s : List ℕ} {t : List ℕ} (i : length s ≤ 1_048_576) {r : Ans} (l : Leaf nothing r s blanks 0 0) where
  begun : Upto s (stage 64) 0 whole 0 t (blanks ⨾ from_element) 0 0 t
  unfolding stage
  begun = upto_begin (stage 64) whole 0 t (omega arith)

  -- The blanks in front refuse.
  pub stage_blanks_stop : {t' : List ℕ} {n a b c d : ℕ} → r ≡ No n a b c d → Made r s (stage 64) 0 0 whole 0 t t'
  stage_blanks_stop h = refused (leaf_stops begun l h) h

  module _ {p j : ℕ} (h : r ≡ Got p j) {b : ℕ} (y : b ≡ byte_at s p) where
    passed : Upto s (stage 64) 0 whole 0 t from_element p 0 t
    passed = leaf_goes begun l goes_blanks bare_blanks h

    -- No `<` is behind them.
    pub stage_unopened : {r₂ : Ans} {t' : List ℕ} → (b ≡ code "<" → ⊥) → Leaf nothing r₂ s need p 0
        → Made r₂ s (stage 64) 0 0 whole 0 t t'
    stage_unopened {r₂} {t'} x l₂ = by r₂ refl
      where
        by : (z : Ans) → r₂ ≡ z → Made r₂ s (stage 64) 0 0 whole 0 t t'
        by (Got q k) e =
            let v = Lex.view_got nothing (read_at s need p) l₂.is e in
            absurd (never (read_at s need p) (Lex.need_fails s p) v.1)
          where
            never : (w : Answer) → Lex.Fails w → {a : Bool} {o : Forest} {q : ℕ} → w ≡ got a o q → ⊥
            never (got a o q) f g = f
            never (trouble n a b c d) f g = let z : ◌≡◌ {A = ℕ} 0 1 = cc in omega arith
        by (No n a b₁ c d) e =
            refused (upto_no passed (unopened s p (Lex.byte_not y x) (Lex.leaf_no l₂ e))) e

    module _ (x : b ≡ code "<") {w : Seat} (e₀ : w ≡ whole) {r₂ : Ans} {t₂ : List ℕ}
        (l₂ : Made r₂ s ((within 64).element ⨾ no_sibling after_stage) p 1 w 0 t t₂) where
      read : Upto s (stage 64) 0 whole 0 t (((within 64).element ⨾ no_sibling after_stage) ⨾ behind_element) p 0 t
      read = upto_as passed (opened s p (Lex.byte_is y x))

      -- The element refuses, or what is behind it.
      pub stage_element_stops : {n a c d e : ℕ} → r₂ ≡ No n a c d e → Made r₂ s (stage 64) 0 0 whole 0 t t₂
      stage_element_stops h₂ = refused (made_stops read l₂ h₂) h₂

      module _ {z m : ℕ} (h₂ : r₂ ≡ Got z m) {r₃ : Ans} (l₃ : Leaf nothing r₃ s blanks z 0) where
        behind_it : Upto s (stage 64) 0 whole 0 t behind_element z m t₂
        behind_it = upto_count (made_goes read l₂ goes_lone (e₀ ∙ same_seat whole) refl h₂) (omega arith)

        -- The blanks behind it refuse.
        pub stage_last_stop : {t' : List ℕ} {n a c d e : ℕ} → r₃ ≡ No n a c d e → Made r₃ s (stage 64) 0 0 whole 0 t t'
        stage_last_stop h₃ = refused (leaf_stops behind_it l₃ h₃) h₃

        module _ {q k : ℕ} (h₃ : r₃ ≡ Got q k) {f : ℕ} (y₃ : f ≡ byte_at s q) where
          last : Upto s (stage 64) 0 whole 0 t (ending after_stage) q m t₂
          last = leaf_goes behind_it l₃ goes_blanks bare_blanks h₃

          -- The input ends behind them.
          pub stage_ends : f ≡ 256 → {q₁ m₁ : ℕ} → q₁ ≡ q → m₁ ≡ m → Made (Got q₁ m₁) s (stage 64) 0 0 whole 0 t t₂
          stage_ends x₃ e₁ e₂ = rw (e₁, e₂) (ends last y₃ x₃)

          -- It does not.
          pub stage_more : (f ≡ 256 → ⊥) → {q₁ q₂ : ℕ} → q₁ ≡ q → q₂ ≡ q
              → Made (No 13 q₁ q₂ 0 0) s (stage 64) 0 0 whole 0 t t₂
          stage_more x₃ e₁ e₂ = rw (e₁, e₂) (ends_not last y₃ x₃)

pub ruleset stage_steps = (
  results,
  stage_blanks_stop,
  stage_unopened,
  stage_element_stops,
  stage_last_stop,
  stage_ends,
  stage_more,
)

-- ---- a run

-- A refusal that is made here.
pub made_refusal : (e : Refusal) {v : Ans} {s : List ℕ} {g : Rule} {at k i : ℕ} {q : Seat} {t t' : List ℕ} → says e ≡ v
    → Made v s g at k q i t t'
    → Made (says e) s g at k q i t t'
made_refusal e h m = rw h m

module _ {s : List ℕ} {t t₂ : List ℕ} (i : length s ≤ 1_048_576) {w : Seat} (e₀ : w ≡ whole) {r : Ans}
    (l : Made r s (children (within 64)) 0 0 w 0 t t₂) where
  run_begun : Upto s (run 64) 0 whole 0 t (children (within 64) ⨾ ending unexpected) 0 0 t
  unfolding run
  run_begun = upto_begin (run 64) whole 0 t (omega arith)

  goes_children : goes (children (within 64)) ≡ true
  unfolding goes children
  goes_children = refl

  -- A child refuses.
  pub run_stops : {n a b c d : ℕ} → r ≡ No n a b c d → Made r s (run 64) 0 0 whole 0 t t₂
  run_stops h = refused (made_stops run_begun l h) h

  module _ {p m : ℕ} (h : r ≡ Got p m) {b : ℕ} (y : b ≡ byte_at s p) where
    run_last : Upto s (run 64) 0 whole 0 t (ending unexpected) p m t₂
    run_last = upto_count (made_goes run_begun l goes_children (e₀ ∙ same_seat whole) refl h) (omega arith)

    -- The input ends behind the children.
    pub run_ends : b ≡ 256 → {p₁ m₁ : ℕ} → p₁ ≡ p → m₁ ≡ m → Made (Got p₁ m₁) s (run 64) 0 0 whole 0 t t₂
    run_ends x e₁ e₂ = rw (e₁, e₂) (ends run_last y x)

    -- It does not: a closing tag is there.
    pub run_more : (b ≡ 256 → ⊥) → {p₁ p₂ : ℕ} → p₁ ≡ p → p₂ ≡ p → Made (No 3 p₁ p₂ 0 0) s (run 64) 0 0 whole 0 t t₂
    run_more x e₁ e₂ = rw (e₁, e₂) (ends_not run_last y x)

pub ruleset run_steps = (results, run_stops, run_ends, run_more)

-- ---- what the calls ask

-- Room at the front of a table.
pub whole_room : {s : List ℕ} {u : List ℕ} {q : Seat} → length s ≤ 1_048_576 → u ≡ s → q ≡ whole → Room 3 u 0 q
whole_room i e f =
    rw (e, f) (record {
      short = i;
      inside = omega arith;
      few = omega arith;
      held = lit< tt;
      shallow = omega arith;
    })

-- Room behind the first blanks.
pub blanks_room : {s : List ℕ} {u : List ℕ} {q : Seat} {r : Ans} {p j y : ℕ}
    → length s ≤ 1_048_576
    → Leaf nothing r s blanks 0 0
    → r ≡ Got p j
    → u ≡ s
    → y ≡ p
    → q ≡ whole
    → Room 3 u y q
blanks_room i l h e f g =
    let far = l.far _ _ h in
    rw (e, f, g) (record {
      short = i;
      inside = far.1;
      few = omega arith;
      held = lit< tt;
      shallow = omega arith;
    })

-- A `<` that was seen stands within the input.
pub open_inside : (s : List ℕ) (p : ℕ) {b : ℕ} (u : List ℕ) {y : ℕ}
    → b ≡ byte_at s p
    → b ≡ code "<"
    → y ≡ p
    → u ≡ s
    → y < length u
open_inside s p u e h f g = rw (f, g) (Lex.before_end s p (code "<") (sym e ∙ h) (lit< tt))

pub ruleset into_asked = (reader_asked, whole_room, blanks_room, open_inside)

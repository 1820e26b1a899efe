-- A sequence, byte by byte: what each answer of the code's `sequence` follows from.
use mathlib.Core.Path.{◌≡◌, sym, ap, ◌∙◌}
use mathlib.Core.Bool.{Bool, true, false}
use mathlib.Core.List.{List}
use Rattle.std.specs.Prelude.{Option, None, Some}
use Prim.Native.Nat.{ℕ, suc, ◌+◌, ◌<◌}
use native.Mathlib.Omega.{arith}
use lib.ListN.{length}
use lib.Dec.{eqb, lit<}
use borrow.Author.Tests.{lt-ltb, eq-eqb, ne_eqb}
use Rattle.rules.specs.Forest.{Forest, nil, byte, ◌⋈◌}
use Rattle.rules.specs.Rule.{Rule, marked, ◌⨾◌}
use Rattle.rules.specs.Parse.{got, trouble, pick, byte_at, parse, parsed, read_at}
use Rattle.jsx.specs.Refusal.{not_utf8}
use Rattle.jsx.specs.Byte.{◌‥◌}
use Rattle.jsx.specs.Utf8.{second, other, sequence}
use Rattle.lex.proofs.Laws.{seq_no, known}
use Rattle.lex.specs.Contract.{Past}
use Rattle.utf8.specs.Lead.{lead_of}
use Rattle.utf8.specs.declared.Lead.{Lead}
use Rattle.utf8.specs.declared.Lead.TheVariants.{Alone, Of}
use Rattle.lex.proofs.Ranges.{range_inside}
use Rattle.utf8.proofs.LeadSteps.{begun, lead_reads, lead_fits, lead_length}

-- ---- a byte behind the lead byte

module _ (s : List ℕ) (F e p lo hi : ℕ) where
  -- In its range; not in it.
  good : hi < 256 → (lo ‥ hi) (byte_at s p) ≡ true
      → parse s F (second lo hi) e p ≡ got true (byte (byte_at s p) nil) (p + 1)
  unfolding parse second
  good h t = rw (t, lt-ltb p (length s) (range_inside s p lo hi h t))

  bad : (lo ‥ hi) (byte_at s p) ≡ false → parse s F (second lo hi) e p ≡ trouble not_utf8 e e 0 0
  unfolding parse second
  bad t = rw t

-- Where the first of two rules refuses, so do both, whether or not the second is there.
first_bad : (s : List ℕ) (F e p : ℕ) (t u : Rule) {n a b c d : ℕ} (alone : Bool) → parse s F t e p ≡ trouble n a b c d
    → parse s F (pick alone t (t ⨾ u)) e p ≡ trouble n a b c d
first_bad s F e p t u true h = h
first_bad s F e p t u false h = seq_no s F e p t u h

next : (p k : ℕ) → p + k + 1 ≡ p + (k + 1)
next p k = omega arith

-- ---- where a sequence ends

-- One of k + 1 bytes begins.
ended_at_lem : {s : List ℕ} {p : ℕ} (k : ℕ) (o : Forest) → p + k < length s
    → read_at s (marked sequence) p ≡ got true o (p + (k + 1)) → Past (p + (k + 1)) s (marked sequence) p 1
ended_at_lem {s} {p} k o j e = record { is = known _ e; far = omega arith }

-- ---- steps

module _
    (s : List ℕ) (p : ℕ) {b : ℕ} (i : p < length s) (y : byte_at s p ≡ b) {l : Option Lead} (f : l ≡ lead_of b)
  where
    begins : {m : Option Lead} → l ≡ m → read_at s (marked sequence) p ≡ parsed s (begun m) p p
    unfolding parse
    begins g =
        lead_reads s (suc (length s)) p p
        ∙ ap (λ (m : Option Lead). parsed s (begun m) p p) (ap lead_of y ∙ sym f ∙ g)

    -- No lead byte.
    pub lead_bad : l ≡ None → read_at s (marked sequence) p ≡ trouble not_utf8 p p 0 0
    unfolding parse
    lead_bad g = begins g

    -- A byte alone.
    pub lead_ascii : {m : Lead} → l ≡ Some m → m ≡ Alone → Past (p + 1) s (marked sequence) p 1
    unfolding parse
    lead_ascii j v =
        ended_at_lem 0 (byte (byte_at s p) nil) (omega arith) (begins (j ∙ ap Some v) ∙ rw (lt-ltb p (length s) i))

    module _
        {m : Lead} {n lo hi : ℕ} (j : l ≡ Some m) (v : m ≡ Of n lo hi)
        {t : Bool} (w : t ≡ (lo ‥ hi) (byte_at s (p + 1)))
      where
        g : l ≡ Some (Of n lo hi)
        g = j ∙ ap Some v

        h : hi < 256
        h = lead_fits b (sym f ∙ g)

        -- The second byte is not in its range.
        pub no_second : t ≡ false → read_at s (marked sequence) p ≡ trouble not_utf8 p p 0 0
        unfolding parse
        no_second x =
            let F = suc (length s) in
            let z = bad s F p (p + 1) lo hi (sym w ∙ x) in
            begins g ∙ rw (lt-ltb p (length s) i, first_bad s F p (p + 1) (second lo hi) _ (eqb n 2) z)

        module _ (x : t ≡ true) where
          here : (lo ‥ hi) (byte_at s (p + 1)) ≡ true
          here = sym w ∙ x

          passes : parse s (suc (length s)) (second lo hi) p (p + 1)
              ≡ got true (byte (byte_at s (p + 1)) nil) (p + 1 + 1)
          passes = good s _ p (p + 1) lo hi h here

          -- Two bytes.
          pub two : n ≡ 2 → Past (p + 2) s (marked sequence) p 1
          unfolding parse ◌⋈◌
          two k =
              ended_at_lem 1 (byte (byte_at s p) (byte (byte_at s (p + 1)) nil))
              (range_inside s (p + 1) lo hi h here)
              (begins g ∙ rw (lt-ltb p (length s) i, eq-eqb n 2 k, passes, next p 1))

          module _ (k : n ≡ 2 → ⊥) {t₂ : Bool} (w₂ : t₂ ≡ (0x80 ‥ 0xBF) (byte_at s (p + 2))) where
            -- The third byte is not in its range.
            pub no_third : t₂ ≡ false → read_at s (marked sequence) p ≡ trouble not_utf8 p p 0 0
            unfolding parse other
            no_third x₂ =
                let z = bad s (suc (length s)) p (p + 2) 0x80 0xBF (sym w₂ ∙ x₂) in
                (begins g
                ∙ rw (
                  lt-ltb p (length s) i,
                  ne_eqb n 2 k,
                  passes,
                  next p 1,
                  first_bad s (suc (length s)) p (p + 2) other _ (eqb n 3) z,
                ))

            module _ (x₂ : t₂ ≡ true) where
              here₂ : (0x80 ‥ 0xBF) (byte_at s (p + 2)) ≡ true
              here₂ = sym w₂ ∙ x₂

              passes₂ : parse s (suc (length s)) (second 0x80 0xBF) p (p + 2)
                  ≡ got true (byte (byte_at s (p + 2)) nil) (p + 2 + 1)
              passes₂ = good s _ p (p + 2) 0x80 0xBF (lit< tt) here₂

              -- Three bytes.
              pub three : n ≡ 3 → Past (p + 3) s (marked sequence) p 1
              unfolding parse other ◌⋈◌
              three k₂ =
                  ended_at_lem 2 (byte (byte_at s p) (byte (byte_at s (p + 1)) (byte (byte_at s (p + 2)) nil)))
                  (range_inside s (p + 2) 0x80 0xBF (lit< tt) here₂)
                  (begins g
                  ∙ rw (
                    lt-ltb p (length s) i,
                    ne_eqb n 2 k,
                    passes,
                    next p 1,
                    eq-eqb n 3 k₂,
                    passes₂,
                    next p 2,
                  ))

              module _ (k₂ : n ≡ 3 → ⊥) {t₃ : Bool} (w₃ : t₃ ≡ (0x80 ‥ 0xBF) (byte_at s (p + 3))) where
                last : n ≡ 4
                last = lead_length b (sym f ∙ g) k k₂

                -- The fourth byte is not in its range.
                pub no_fourth : t₃ ≡ false → read_at s (marked sequence) p ≡ trouble not_utf8 p p 0 0
                unfolding parse other
                no_fourth x₃ =
                    (begins g
                    ∙ rw (
                      lt-ltb p (length s) i,
                      ne_eqb n 2 k,
                      passes,
                      next p 1,
                      ne_eqb n 3 k₂,
                      passes₂,
                      next p 2,
                      eq-eqb n 4 last,
                      bad s (suc (length s)) p (p + 3) 0x80 0xBF (sym w₃ ∙ x₃),
                    ))

                -- Four bytes.
                pub four : t₃ ≡ true → Past (p + 4) s (marked sequence) p 1
                unfolding parse other ◌⋈◌
                four x₃ =
                    let z = sym w₃ ∙ x₃ in
                    ended_at_lem 3
                    (byte (byte_at s p) (byte (byte_at s (p + 1))
                    (byte (byte_at s (p + 2)) (byte (byte_at s (p + 3)) nil))))
                    (range_inside s (p + 3) 0x80 0xBF (lit< tt) z)
                    (begins g
                    ∙ rw (
                      lt-ltb p (length s) i,
                      ne_eqb n 2 k,
                      passes,
                      next p 1,
                      ne_eqb n 3 k₂,
                      passes₂,
                      next p 2,
                      eq-eqb n 4 last,
                      good s (suc (length s)) p (p + 3) 0x80 0xBF (lit< tt) z,
                      next p 3,
                    ))

pub ruleset sequence_steps = (lead_bad, lead_ascii, no_second, two, no_third, three, no_fourth, four)

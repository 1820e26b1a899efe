-- Parts of an input: which part a span or a record is, and what answers it.
use mathlib.Core.Path.{◌≡◌, refl, sym, ap, subst, ◌∙◌}
use mathlib.Core.Bool.{Bool, true, false}
use mathlib.Core.List.{List, []}
use Prim.Native.Nat.{ℕ, ◌+◌, ◌*◌, ◌/◌, ◌≤◌, ◌<◌}
use native.Mathlib.Omega.{arith}
use native.Mathlib.Nat.{add_comm}
use lib.ListN.{length, get_or}
use lib.Dec.{leb, ltb}
use Rattle.std.specs.Prelude.{Option, Some, None}
use borrow.Author.Tests.{le-leb, lt-leb, lt-ltb, le-ltb}
use borrow.Author.Rules.{rules}
use borrow.Rule.Slice.PartAt.{sl_partˢ}
use borrow.Rule.Slice.Shared.{by_byte}
use denote.Ref.{Bor}
use Rattle.rules.specs.Parse.{pick}
use Rattle.rules.specs.Record.{row_words}
use Rattle.jsx.specs.Table.{Part, no_part, span_part, record_part, holds, table_word, bytes_in}
use Rattle.part.specs.Contract.{Answered, Placed, part_of}

-- ---- which part it is

module _ (s : List ℕ) (a z : ℕ) where
  -- A span that ends before it starts is no part.
  pub span_turned : z < a → span_part s a z ≡ no_part
  unfolding span_part
  span_turned h = rw (lt-leb a z h)

  -- A span that ends past the input is no part.
  pub span_past : a ≤ z → length s < z → span_part s a z ≡ no_part
  unfolding span_part
  span_past h l = rw (le-leb a z h, lt-leb z (length s) l)

  -- Any other span is the part from its start to its end.
  pub span_is : a ≤ z → z ≤ length s → span_part s a z ≡ record { found = true; start = a; end = z }
  unfolding span_part
  span_is h l = rw (le-leb a z h, le-leb z (length s) l)

module _ (s t : List ℕ) (m k : ℕ) where
  -- A record from the count on is no part.
  pub record_from_count : m ≤ k → record_part s t m k ≡ no_part
  unfolding record_part
  record_from_count h = rw (le-ltb k m h)

  -- A record past the table is no part, though it is counted.
  pub record_past : k < m → length t / row_words ≤ k → record_part s t m k ≡ no_part
  unfolding record_part holds
  record_past h l = rw (lt-ltb k m h, le-ltb k (length t / row_words) l)

  -- Any other record is the span that its row says.
  pub record_is : {a z : ℕ}
      → k < m
      → k < length t / row_words
      → a ≡ get_or t (row_words * k + 1) 0
      → z ≡ get_or t (row_words * k + 2) 0
      → record_part s t m k ≡ span_part s a z
  unfolding record_part holds table_word
  record_is h l p q = rw (lt-ltb k m h, lt-ltb k (length t / row_words) l) (λ i. span_part s (sym p i) (sym q i))

-- ---- where it is

placed_as : {s : List ℕ} {r : Option (ℕ × ℕ)} {p q : Part} → Placed s p r → q ≡ p → Placed s q r
placed_as {s} {r} {p} {q} h e = subst (λ (p : Part). Placed s p r) (sym e) h

-- No part is nowhere.
placed_none : {s : List ℕ} → Placed s no_part None
placed_none = record { is = refl; within = tt }

module _ (s : List ℕ) (a z : ℕ) where
  -- A span that ends before it starts is nowhere,
  pub placed_turned : z < a → Placed s (span_part s a z) None
  placed_turned h = placed_as placed_none (span_turned s a z h)

  -- nor is one that ends past the input;
  pub placed_past : a ≤ z → length s < z → Placed s (span_part s a z) None
  placed_past h l = placed_as placed_none (span_past s a z h l)

  -- any other is from its start to its end.
  pub placed_span : a ≤ z → z ≤ length s → Placed s (span_part s a z) (Some (a, z))
  placed_span h l = placed_as (record { is = refl; within = (h, l) }) (span_is s a z h l)

module _ (s : List ℕ) (t : List ℕ) (m k : ℕ) where
  -- A record from the count on is nowhere,
  pub placed_uncounted : m ≤ k → Placed s (record_part s t m k) None
  placed_uncounted h = placed_as placed_none (record_from_count s t m k h)

  -- nor is one past the table;
  pub placed_no_row : k < m → length t / row_words ≤ k → Placed s (record_part s t m k) None
  placed_no_row h l = placed_as placed_none (record_past s t m k h l)

  -- any other is where the span is that its row says.
  pub placed_record : {a z : ℕ} {r : Option (ℕ × ℕ)}
      → k < m
      → k < length t / row_words
      → a ≡ get_or t (row_words * k + 1) 0
      → z ≡ get_or t (row_words * k + 2) 0
      → Placed s (span_part s a z) r
      → Placed s (record_part s t m k) r
  placed_record h l p q x = placed_as x (record_is s t m k h l p q)

-- ---- what answers it

-- What answers the part that the places say answers the part that is there.
pub answers_placed : {s r : Bor (List ℕ)} {p : Part} {o : Option (ℕ × ℕ)} {f : Bool} → Placed s.now p o
    → Answered s (part_of o) r f
    → Answered s p r f
answers_placed {s} {r} {f = f} h x = subst (λ (p : Part). Answered s p r f) (sym h.is) x

-- The empty part at the start.
pub answers_none : (s : Bor (List ℕ)) → Answered s no_part (sl_partˢ s (by_byte 0 s.ref_ptr.1) 0 0) false
unfolding no_part bytes_in
answers_none s =
    record { tells = refl; bytes = refl; place = ap (λ (n : ℕ). (s.ref_ptr.0, n)) (add_comm 0 s.ref_ptr.1) }

-- The part from a to z.
pub answers_part : (s : Bor (List ℕ)) (a z : ℕ)
    → Answered s (part_of (Some (a, z))) (sl_partˢ s (by_byte a s.ref_ptr.1) a z) true
unfolding bytes_in
answers_part s a z =
    record { tells = refl; bytes = refl; place = ap (λ (n : ℕ). (s.ref_ptr.0, n)) (add_comm a s.ref_ptr.1) }

pub ruleset place_steps = (
  rules,
  placed_turned,
  placed_past,
  placed_span,
  placed_uncounted,
  placed_no_row,
  placed_record,
)

-- Any two answers say the same, have the same bytes and stand at the same place.
pub one_answer : {s r r' : Bor (List ℕ)} {p : Part} {f f' : Bool}
    → Answered s p r f
    → Answered s p r' f'
    → (f ≡ f') × (r.now ≡ r'.now) × (r.ref_ptr ≡ r'.ref_ptr)
one_answer x y = (x.tells ∙ sym y.tells, x.bytes ∙ sym y.bytes, x.place ∙ sym y.place)

-- ---- out of range

-- A part that is not found is the empty part at the start.
abbrev Given : Part → Type 0
Given p = p.found ≡ false → p ≡ no_part

-- A span that is not found is the empty part at the start.
pub span_none : (s : List ℕ) (a z : ℕ) → (span_part s a z).found ≡ false → span_part s a z ≡ no_part
unfolding span_part
span_none s a z = go (leb a z) (leb z (length s))
  where
    go : (b c : Bool) → Given (pick b (pick c (record { found = true; start = a; end = z }) no_part) no_part)
    go true true e = let w : ◌≡◌ {A = ℕ} 0 1 = cc in absurd (omega arith)
    go true false e = refl
    go false c e = refl

-- A record that is not found is the empty part at the start.
pub record_none : (s t : List ℕ) (m k : ℕ) → (record_part s t m k).found ≡ false → record_part s t m k ≡ no_part
unfolding record_part
record_none s t m k = go (ltb k m) (ltb k (holds t))
  where
    go : (b c : Bool) → Given (pick b (pick c (span_part s (table_word t k 1) (table_word t k 2)) no_part) no_part)
    go true true e = span_none s (table_word t k 1) (table_word t k 2) e
    go true false e = refl
    go false c e = refl

-- It has no bytes.
pub bytes_none : (s : List ℕ) → bytes_in s no_part ≡ []
unfolding no_part bytes_in
bytes_none s = refl

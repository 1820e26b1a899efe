-- The tables of name characters.
use Prim.Native.Nat.{ℕ, zero, suc, ◌+◌, ◌*◌, ◌≤◌, ◌<◌}
use Prim.Native.Char.{code}
use Prim.Native.String as S
use native.Mathlib.Omega.{arith}
use mathlib.Core.Path.{◌≡◌, refl, ap, sym, ◌∙◌}
use mathlib.Core.Bool.{Bool, true, false}
use mathlib.Core.List.{List, [], ◌∷◌}
use lib.ListN.{length, get_or}
use lib.Dec.{leb, ltb, eqb}
use borrow.Author.Tests.{ltb-false, leb-true, le-ltb, le-leb, eqb-true}
use Rattle.rules.specs.Parse.{pick}
use Rattle.rules.proofs.Run.{never, both}
use Rattle.rules.specs.Rule.{Test}
use Rattle.jsx.specs.Byte.{letter, digit, is, one_of, ◌or◌}
use Rattle.jsx.specs.Blank.{space_separator, white_space, line_terminator, blank_char}
use Rattle.jsx.specs.Ranges.{start_ranges, continue_ranges}
use Rattle.jsx.specs.Unicode.{in_ranges, id_start, id_continue, first_of, last_of, ordered_from, Ordered}
use Rattle.jsx.specs.Name.{opens_part, in_part}

-- ---- in order, and no range into another

-- Behind the first range.
pub first_more : (lo hi : ℕ) (more : List ℕ) (i : ℕ) → first_of (lo ∷ hi ∷ more) (suc i) ≡ first_of more i
first_more lo hi more i = ap (λ (n : ℕ). get_or (lo ∷ hi ∷ more) n 0) (twice i)
  where
    twice : (i : ℕ) → 2 * suc i ≡ suc (suc (2 * i))
    twice i = omega arith

pub last_more : (lo hi : ℕ) (more : List ℕ) (i : ℕ) → last_of (lo ∷ hi ∷ more) (suc i) ≡ last_of more i
last_more lo hi more i = ap (λ (n : ℕ). get_or (lo ∷ hi ∷ more) n 0) (twice i)
  where
    twice : (i : ℕ) → 2 * suc i + 1 ≡ suc (suc (2 * i + 1))
    twice i = omega arith

-- A table that begins with a range, taken apart.
record Front (from lo hi : ℕ) (more : List ℕ) : Type 0 where
  begins : from ≤ lo
  range : lo ≤ hi
  rest : ordered_from (hi + 2) more ≡ true

front : (from lo hi : ℕ) (more : List ℕ) → ordered_from from (lo ∷ hi ∷ more) ≡ true → Front from lo hi more
unfolding ordered_from
front from lo hi more h =
    let g = both (leb from lo) _ h in
    let k = both (leb lo hi) _ g.1 in
    record { begins = leb-true from lo g.0; range = leb-true lo hi k.0; rest = k.1 }

-- Each range begins at the number or behind it, and does not end before it begins.
record Behind (from : ℕ) (t : List ℕ) (i : ℕ) : Type 0 where
  begins : from ≤ first_of t i
  range : first_of t i ≤ last_of t i

behind : (from : ℕ) (t : List ℕ) → ordered_from from t ≡ true → (i : ℕ) → 2 * i + 1 < length t → Behind from t i
unfolding ordered_from
behind from [] h i l = omega arith
behind from (lo ∷ []) h i l = never h
behind from (lo ∷ hi ∷ more) h zero l =
    let f = front from lo hi more h in record { begins = f.begins; range = f.range }
behind from (lo ∷ hi ∷ more) h (suc i) l =
    let f = front from lo hi more h in
    let r = behind (hi + 2) more f.rest i (omega arith) in
    record {
      begins = omega (arith, f.begins, f.range, r.begins, first_more lo hi more i);
      range = omega (arith, r.range, first_more lo hi more i, last_more lo hi more i);
    }

ranges_apart : (from : ℕ) (t : List ℕ) → ordered_from from t ≡ true → (i j : ℕ) → i < j → 2 * j + 1 < length t
    → last_of t i < first_of t j
unfolding ordered_from
ranges_apart from [] h i j l m = omega arith
ranges_apart from (lo ∷ []) h i j l m = never h
ranges_apart from (lo ∷ hi ∷ more) h i zero l m = omega arith
ranges_apart from (lo ∷ hi ∷ more) h zero (suc j) l m =
    let r = behind (hi + 2) more (front from lo hi more h).rest j (omega arith) in
    omega (arith, r.begins, first_more lo hi more j)
ranges_apart from (lo ∷ hi ∷ more) h (suc i) (suc j) l m =
    let r = ranges_apart (hi + 2) more (front from lo hi more h).rest i j (omega arith) (omega arith) in
    omega (arith, r, last_more lo hi more i, first_more lo hi more j)

-- A table that passes the test is ordered.
pub is_ordered : (from : ℕ) (t : List ℕ) → ordered_from from t ≡ true → Ordered t
is_ordered from t h = record { each = λ i l. (behind from t h i l).range; apart = ranges_apart from t h }

-- Both tables do.
pub start_passes : ordered_from 0x80 start_ranges ≡ true
unfolding ordered_from start_ranges
start_passes = refl

pub continue_passes : ordered_from 0x80 continue_ranges ≡ true
unfolding ordered_from continue_ranges
continue_passes = refl

pub start_ordered : Ordered start_ranges
start_ordered = is_ordered 0x80 start_ranges start_passes

pub continue_ordered : Ordered continue_ranges
continue_ordered = is_ordered 0x80 continue_ranges continue_passes

-- ---- what may be first may be later

-- Whether one range of the table holds all from lo to hi.
unfoldable pub holds_range : List ℕ → (lo hi : ℕ) → Bool
holds_range [] lo hi = false
holds_range (a ∷ []) lo hi = false
holds_range (a ∷ z ∷ rest) lo hi = pick (ltb lo a) false (pick (leb hi z) true (holds_range rest lo hi))

-- The table from its first range on that does not end before lo. t: what is left of it, of which `all` is all.
unfoldable pub from : (lo : ℕ) (t all : List ℕ) → List ℕ
from lo [] all = all
from lo (a ∷ []) all = all
from lo (a ∷ z ∷ rest) all = pick (pick (leb a lo) (ltb z lo) false) (from lo rest rest) all

-- Whether each range of w lies in one of t. Both are gone through once.
unfoldable pub covers : (t w : List ℕ) → Bool
covers t [] = true
covers t (lo ∷ []) = true
covers t (lo ∷ hi ∷ more) = pick (holds_range (from lo t t) lo hi) (covers (from lo t t) more) false

-- One more range in front.
in_more : (a z : ℕ) (rest : List ℕ) (c : ℕ) → a ≤ c → in_ranges rest c ≡ true → in_ranges (a ∷ z ∷ rest) c ≡ true
unfolding in_ranges
in_more a z rest c l h = rw (le-ltb c a l) (go (leb c z))
  where
    go : (b : Bool) → pick b true (in_ranges rest c) ≡ true
    go true = refl
    go false = h

-- A code within a range that lies in one of the table.
pub in_range : (t : List ℕ) (lo hi c : ℕ) → holds_range t lo hi ≡ true → lo ≤ c → c ≤ hi → in_ranges t c ≡ true
unfolding holds_range in_ranges
in_range [] lo hi c h l u = never h
in_range (a ∷ []) lo hi c h l u = never h
in_range (a ∷ z ∷ rest) lo hi c h l u = go (ltb lo a) refl (leb hi z) refl h (λ k. in_range rest lo hi c k l u)
  where
    go : (b : Bool) → ltb lo a ≡ b → (d : Bool) → leb hi z ≡ d
        → pick b false (pick d true (holds_range rest lo hi)) ≡ true
        → (holds_range rest lo hi ≡ true → in_ranges rest c ≡ true)
        → in_ranges (a ∷ z ∷ rest) c ≡ true
    go true e d f k ih = never k
    go false e true f k ih =
        let x = ltb-false lo a e in
        let y = leb-true hi z f in
        rw (le-ltb c a (omega (arith, x)), le-leb c z (omega (arith, y)))
    go false e false f k ih = in_more a z rest c (omega (arith, ltb-false lo a e)) (ih k)

in_from : (lo : ℕ) (t all : List ℕ) (c : ℕ) → lo ≤ c → (in_ranges t c ≡ true → in_ranges all c ≡ true)
    → in_ranges (from lo t all) c ≡ true → in_ranges all c ≡ true
unfolding from
in_from lo [] all c l g h = h
in_from lo (a ∷ []) all c l g h = h
in_from lo (a ∷ z ∷ rest) all c l g h =
    go (pick (leb a lo) (ltb z lo) false) refl h (in_from lo rest rest c l (λ k. k))
  where
    go : (b : Bool) → pick (leb a lo) (ltb z lo) false ≡ b → in_ranges (pick b (from lo rest rest) all) c ≡ true
        → (in_ranges (from lo rest rest) c ≡ true → in_ranges rest c ≡ true)
        → in_ranges all c ≡ true
    go true e k ih =
        let x = leb-true a lo (both (leb a lo) (ltb z lo) e).0 in
        g (in_more a z rest c (omega (arith, x)) (ih k))
    go false e k ih = k

in_covered : (t w : List ℕ) (c : ℕ) → covers t w ≡ true → in_ranges w c ≡ true → in_ranges t c ≡ true
unfolding covers in_ranges
in_covered t [] c h k = never k
in_covered t (lo ∷ []) c h k = never k
in_covered t (lo ∷ hi ∷ more) c h k =
    let g = both (holds_range (from lo t t) lo hi) (covers (from lo t t) more) h in
    go (ltb c lo) refl (leb c hi) refl k (in_range (from lo t t) lo hi c g.0)
    (in_covered (from lo t t) more c g.1)
  where
    go : (b : Bool) → ltb c lo ≡ b → (d : Bool) → leb c hi ≡ d
        → pick b false (pick d true (in_ranges more c)) ≡ true
        → (lo ≤ c → c ≤ hi → in_ranges (from lo t t) c ≡ true)
        → (in_ranges more c ≡ true → in_ranges (from lo t t) c ≡ true)
        → in_ranges t c ≡ true
    go true e d f k i ih = never k
    go false e true f k i ih = in_from lo t t c (ltb-false c lo e) (λ x. x) (i (ltb-false c lo e) (leb-true c hi f))
    go false e false f k i ih = in_from lo t t c (ltb-false c lo e) (λ x. x) (ih k)

continue_covers_start : covers continue_ranges start_ranges ≡ true
unfolding covers from holds_range continue_ranges start_ranges
continue_covers_start = refl

-- ID_Continue has all of ID_Start.
pub start_continues : (c : ℕ) → id_start c ≡ true → id_continue c ≡ true
unfolding id_start id_continue
start_continues c h = go (ltb c 0x80) h
  where
    go : (b : Bool)
        → pick b (letter c) (in_ranges start_ranges c) ≡ true
        → pick b ((letter or digit or is "_") c) (in_ranges continue_ranges c) ≡ true
    go true h = rw h
    go false h = in_covered continue_ranges start_ranges c continue_covers_start h

low_line : {c : ℕ} → c ≡ code "_" → id_continue c ≡ true
unfolding id_continue letter digit
low_line e = rw e

first_holds : (a b : Bool) → a ≡ true → pick a true b ≡ true
first_holds a b h = rw h

second_holds : (a b c : Bool) → b ≡ true → pick a true (pick b true c) ≡ true
second_holds true b c h = refl
second_holds false b c h = rw h

-- A character that may be the first of a part may be a later one.
pub opens_goes_on : (c : ℕ) → opens_part c ≡ true → in_part c ≡ true
unfolding opens_part in_part
opens_goes_on c h = go (id_start c) refl (is "$" c) refl h
  where
    go : (a : Bool) → id_start c ≡ a → (b : Bool) → is "$" c ≡ b → pick a true (pick b true (is "_" c)) ≡ true
        → in_part c ≡ true
    go true e b f k = first_holds (id_continue c) _ (start_continues c e)
    go false e true f k = second_holds (id_continue c) (is "$" c) _ f
    go false e false f k = first_holds (id_continue c) _ (low_line (eqb-true c (code "_") k))

-- ---- no blank is a character of a name

-- Whether none of these characters passes a test.
unfoldable pub none_passes : Test → S.String → Bool
none_passes f S.[] = true
none_passes f (S.◌∷◌ x w) = pick (f (code x)) false (none_passes f w)

one_fails : (f : Test) (w : S.String) (c : ℕ) → none_passes f w ≡ true → one_of w c ≡ true → f c ≡ false
unfolding none_passes one_of
one_fails f S.[] c h k = never k
one_fails f (S.◌∷◌ x w) c h k =
    go (eqb c (code x)) refl (f (code x)) refl h k (one_fails f w c)
  where
    go : (a : Bool) → eqb c (code x) ≡ a → (b : Bool) → f (code x) ≡ b → pick b false (none_passes f w) ≡ true
        → pick a true (one_of w c) ≡ true
        → (none_passes f w ≡ true → one_of w c ≡ true → f c ≡ false)
        → f c ≡ false
    go a e true i h k ih = never h
    go true e false i h k ih = ap f (eqb-true c (code x) e) ∙ i
    go false e false i h k ih = ih h k

-- One of these, or what is left.
one_or : (f : Test) (w : S.String) (c : ℕ) (more : Bool) → none_passes f w ≡ true → pick (one_of w c) true more ≡ true
    → (more ≡ true → f c ≡ false)
    → f c ≡ false
one_or f w c more h k g = go (one_of w c) refl k
  where
    go : (b : Bool) → one_of w c ≡ b → pick b true more ≡ true → f c ≡ false
    go true e i = one_fails f w c h e
    go false e i = g i

-- None of the 25.
blank_apart : (c : ℕ) → blank_char c ≡ true → in_part c ≡ false
unfolding none_passes blank_char white_space space_separator line_terminator in_part id_continue in_ranges
    continue_ranges letter
    digit
blank_apart c h = go (white_space c) refl h
  where
    space : space_separator c ≡ true → in_part c ≡ false
    space k = one_or in_part _ c _ refl k (λ k. one_or in_part _ c _ refl k (one_fails in_part _ c refl))

    go : (b : Bool) → white_space c ≡ b → pick b true (line_terminator c) ≡ true → in_part c ≡ false
    go true e k = one_or in_part _ c _ refl e space
    go false e k = one_fails in_part _ c refl k

-- So a character that opens a part is no blank.
pub opens_no_blank : (c : ℕ) → opens_part c ≡ true → blank_char c ≡ false
opens_no_blank c h = go (blank_char c) refl
  where
    go : (b : Bool) → blank_char c ≡ b → blank_char c ≡ false
    go true e = never (sym (blank_apart c e) ∙ opens_goes_on c h)
    go false e = e

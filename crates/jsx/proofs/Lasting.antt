-- Request 14: specs/Lasting.antt proved, statement by statement.
use mathlib.Core.Path.{◌≡◌, refl, sym, ap, subst, ◌∙◌}
use mathlib.Core.Bool.{Bool, true, false}
use mathlib.Core.List.{List, [], ◌∷◌, ◌++◌}
use Prim.Native.Nat.{ℕ, zero, suc, ◌+◌, ◌*◌, ◌/◌, ◌%◌, ◌≤◌, ◌<◌}
use native.Mathlib.Omega.{arith}
use lib.ListN.{length, length-append}
use lib.Dec.{leb, ltb, eqb}
use lib.Seq.{drop-append_seam}
use borrow.Author.Tests.{leb-true, lt-ltb, le-ltb, le-leb, ne_eqb}
use Rattle.rules.specs.Parse.{pick}
use Rattle.jsx.specs.Reading.{Limits, standard}
use Rattle.jsx.specs.Settings.{wrong_mark, cut_short, unknown_kind, bad_setting, Settled, set, unset, held, kind_of}
use Rattle.jsx.specs.Settings.{size_of, marks_other, is_cut, depth_kind, depth_in}
use Rattle.jsx.specs.Settings.{good_depth, depth_set, length_kind, length_in, good_length, length_set, skipped_from}
use Rattle.jsx.specs.Settings.{judged, on_set, settled_from, settings, capped}
use Rattle.jsx.specs.Lasting.{entry, depth_entry, low_first, length_entry, Within, LimitsWithin, LimitsKept}
use Rattle.jsx.specs.Lasting.{AllCanBeSet, LastCounts, StoresFollow, moved_by, OffsetsMove, RefusedStays}
use Rattle.jsx.specs.Lasting.{SkippedChangesNothing, UnknownRefuses, RefusalsPlaced}
use Rattle.jsx.proofs.Settings.{number, start, finish, Whole, judged_by, judged_whole, set_unset, set_same}
use Rattle.jsx.proofs.Settings.{set_whole, judged_front, judged_stays, size_front, next_record, follows}

-- ---- offsets

moved_pick : (n : ℕ) (b : Bool) (x y : Settled) → moved_by n (pick b x y) ≡ pick b (moved_by n x) (moved_by n y)
moved_pick n true x y = refl
moved_pick n false x y = refl

judged_moves : (n at : ℕ) (l : Limits) (s : List ℕ) → judged (at + n) l s ≡ moved_by n (judged at l s)
unfolding judged depth_set length_set
judged_moves n at l s =
    rw (
      moved_pick n (marks_other s),
      moved_pick n (is_cut s),
      moved_pick n (eqb (kind_of s) depth_kind),
      moved_pick n (good_depth s),
      moved_pick n (eqb (kind_of s) length_kind),
      moved_pick n (good_length s),
      moved_pick n (ltb (kind_of s) skipped_from),
    )

moves : (n at k : ℕ) (l : Limits) (s : List ℕ) → settled_from (at + n) k l s ≡ moved_by n (settled_from at k l s)
unfolding settled_from
moves n at k l [] = refl
moves n at (suc k) l (b ∷ s) = ap (λ (m : ℕ). settled_from m k l s) (omega arith) ∙ moves n (at + 1) k l s
moves n at zero l (b ∷ s) =
    rw (judged_moves n at l (b ∷ s)) (by (λ l'. moves n (at + 1) (3 + size_of (b ∷ s)) l' s) (judged at l (b ∷ s)))
  where
    here : (e : Bool) (m a c a' c' : ℕ) (f : Limits → Settled)
        → on_set (pick e (unset m a c) (unset m a' c')) f ≡ pick e (unset m a c) (unset m a' c')
    here true m a c a' c' f = refl
    here false m a c a' c' f = refl

    by : ((l' : Limits) → settled_from (at + 1 + n) (3 + size_of (b ∷ s)) l' s
        ≡ moved_by n (settled_from (at + 1) (3 + size_of (b ∷ s)) l' s))
        → (r : Settled)
        → on_set (moved_by n r) (λ l'. settled_from (at + n + 1) (3 + size_of (b ∷ s)) l' s)
        ≡ moved_by n (on_set r (λ l'. settled_from (at + 1) (3 + size_of (b ∷ s)) l' s))
    by go (set l') = ap (λ (m : ℕ). settled_from m (3 + size_of (b ∷ s)) l' s) (omega arith) ∙ go l'
    by go (unset m a c) = here (eqb m unknown_kind) m a c (a + n) (c + n) _

pub offsets_move : OffsetsMove
offsets_move n at l s = moves n at 0 l s

-- ---- stores behind each other

pub stores_follow : StoresFollow
unfolding settings
stores_follow x y l e = follows 0 0 standard l x y (omega arith) e ∙ ap (λ (n : ℕ). settled_from n 0 l y) (omega arith)

-- What is refused for another reason than its end stays refused.
stays : (at k : ℕ) (l : Limits) (x y : List ℕ) (n a b : ℕ) → settled_from at k l x ≡ unset n a b → (n ≡ cut_short → ⊥)
    → settled_from at k l (x ++ y) ≡ unset n a b
unfolding settled_from
stays at k l [] y n a b e f = set_unset e
stays at (suc k) l (c ∷ x) y n a b e f = stays (at + 1) k l x y n a b e f
stays at zero l (c ∷ x) y n a b e f =
    by (λ k l' g. stays (at + 1) k l' x y n a b g f) (judged at l (c ∷ x)) refl e
  where
    by : ((k : ℕ) (l' : Limits) → settled_from (at + 1) k l' x ≡ unset n a b
        → settled_from (at + 1) k l' (x ++ y) ≡ unset n a b)
        → (r : Settled) → judged at l (c ∷ x) ≡ r
        → on_set r (λ m. settled_from (at + 1) (3 + size_of (c ∷ x)) m x) ≡ unset n a b
        → on_set (judged at l (c ∷ (x ++ y))) (λ m. settled_from (at + 1) (3 + size_of (c ∷ (x ++ y))) m (x ++ y))
        ≡ unset n a b
    by go (set m) g h =
        let w = set_whole at l (c ∷ x) g in
        rw (judged_front (c ∷ x) y w at l ∙ g, ← size_front (c ∷ x) y w) (go (3 + size_of (c ∷ x)) m h)
    by go (unset n₁ a₁ b₁) g h =
        rw (judged_stays (c ∷ x) y at l (unset n₁ a₁ b₁) g (λ q. f (sym (ap number h) ∙ ap number q))) h

pub refused_stays : RefusedStays
unfolding settings
refused_stays x y n a b = stays 0 0 standard x y n a b

-- ---- records of a given kind

module _ (at : ℕ) (l : Limits) (k : ℕ) (c y : List ℕ) where
  entry_whole : Whole (entry k c ++ y)
  unfolding marks_other is_cut
  entry_whole = record {
    marked = refl;
    uncut = let e = length-append c y in le-ltb (length (entry k c ++ y)) (4 + length c) (omega arith);
  }

  entry_front : settled_from at 0 l (entry k c ++ y)
      ≡ on_set (judged at l (entry k c ++ y)) (λ l'. settled_from (at + length (entry k c)) 0 l' y)
  entry_front =
      next_record at (length (entry k c)) l (entry k c ++ y) entry_whole.uncut (omega arith)
      ∙ ap (λ (z : List ℕ). on_set (judged at l (entry k c ++ y)) (λ l'. settled_from (at + length (entry k c)) 0 l' z))
      (drop-append_seam (entry k c) y)

  -- A kind to be skipped.
  skip_judged : skipped_from ≤ k → judged at l (entry k c ++ y) ≡ set l
  skip_judged h =
      judged_whole at l (entry k c ++ y) entry_whole
      ∙ rw (ne_eqb k 1 (λ e. omega arith), ne_eqb k 2 (λ e. omega arith), le-ltb k 128 h)

  -- A kind that is not known, and not skipped.
  unknown_judged : k < skipped_from → (k ≡ depth_kind → ⊥) → (k ≡ length_kind → ⊥)
      → judged at l (entry k c ++ y) ≡ unset unknown_kind k 0
  unknown_judged h f g =
      judged_whole at l (entry k c ++ y) entry_whole ∙ rw (ne_eqb k 1 f, ne_eqb k 2 g, lt-ltb k 128 h)

pub skipped_changes_nothing : SkippedChangesNothing
skipped_changes_nothing x y l e k c h =
    stores_follow x (entry k c ++ y) l e
    ∙ entry_front (length x) l k c y
    ∙ ap (λ (r : Settled). on_set r (λ l'. settled_from (length x + length (entry k c)) 0 l' y))
    (skip_judged (length x) l k c y h)
    ∙ offsets_move (length (entry k c)) (length x) l y
    ∙ ap (moved_by (length (entry k c))) (sym (stores_follow x y l e))

pub unknown_refuses : UnknownRefuses
unknown_refuses x y l e k c h f g =
    stores_follow x (entry k c ++ y) l e
    ∙ entry_front (length x) l k c y
    ∙ ap (λ (r : Settled). on_set r (λ l'. settled_from (length x + length (entry k c)) 0 l' y))
    (unknown_judged (length x) l k c y h f g)

-- A depth that is good.
depth_judged : (at : ℕ) (l : Limits) (d : ℕ) → 1 ≤ d → d ≤ 64
    → judged at l (depth_entry d) ≡ set (record { bytes = l.bytes; depth = d })
unfolding depth_set good_depth
depth_judged at l d h k =
    judged_whole at l (depth_entry d) (entry_whole at l 1 (d ∷ []) []) ∙ rw (le-leb 1 d h, le-leb d 64 k)

-- A length that is good.
length_judged : (at : ℕ) (l : Limits) (n : ℕ) → n ≤ 1_048_576
    → judged at l (length_entry n) ≡ set (record { bytes = n; depth = l.depth })
unfolding length_set good_length
length_judged at l n h =
    judged_whole at l (length_entry n) (entry_whole at l 2 (low_first n) []) ∙ rw (four, le-leb n 1_048_576 h)
  where
    four : n % 256 + 256 * (n / 256 % 256) + 65_536 * (n / 65_536 % 256) + 16_777_216 * (n / 16_777_216) ≡ n
    four = omega arith

pub last_counts : LastCounts
unfolding settings settled_from
last_counts = record {
  absent = refl;
  of_depth = λ x l d e h k. stores_follow x (depth_entry d) l e
      ∙ entry_front (length x) l 1 (d ∷ []) []
      ∙ ap (λ (r : Settled). on_set r (λ l'. settled_from (length x + 5) 0 l' [])) (depth_judged (length x) l d h k);
  of_length = λ x l n e h. stores_follow x (length_entry n) l e
      ∙ entry_front (length x) l 2 (low_first n) []
      ∙ ap (λ (r : Settled). on_set r (λ l'. settled_from (length x + 8) 0 l' [])) (length_judged (length x) l n h);
}

pub all_can_be_set : AllCanBeSet
all_can_be_set l w =
    last_counts.of_length (depth_entry l.depth) _ l.bytes
    (last_counts.of_depth [] standard l.depth last_counts.absent w.some_depth w.depth) w.bytes

-- ---- limits that come out

module _ {l : Limits} (v : Within l) (at : ℕ) (s : List ℕ) where
  depth_within : {l' : Limits} → depth_set at l s ≡ set l' → Within l'
  unfolding depth_set good_depth
  depth_within {l'} = by (eqb (size_of s) 1) (leb 1 (depth_in s)) refl (leb (depth_in s) 64) refl
    where
      by : (e g : Bool) → leb 1 (depth_in s) ≡ g → (h : Bool) → leb (depth_in s) 64 ≡ h
          → pick (pick e (pick g h false) false) (set (record { bytes = l.bytes; depth = depth_in s }))
          (unset bad_setting at at)
          ≡ set l'
          → Within l'
      by true true f true f₂ k = subst Within (set_same k) (record {
        some_depth = leb-true _ _ f;
        depth = leb-true _ _ f₂;
        bytes = v.bytes;
      })
      by true true f false f₂ k = set_unset (sym k)
      by true false f h f₂ k = set_unset (sym k)
      by false g f h f₂ k = set_unset (sym k)

  length_within : {l' : Limits} → length_set at l s ≡ set l' → Within l'
  unfolding length_set good_length
  length_within {l'} = by (eqb (size_of s) 4) (leb (length_in s) 1_048_576) refl
    where
      by : (e g : Bool) → leb (length_in s) 1_048_576 ≡ g
          → pick (pick e g false) (set (record { bytes = length_in s; depth = l.depth })) (unset bad_setting at at)
          ≡ set l'
          → Within l'
      by true true f k = subst Within (set_same k) (record {
        some_depth = v.some_depth;
        depth = v.depth;
        bytes = leb-true _ _ f;
      })
      by true false f k = set_unset (sym k)
      by false g f k = set_unset (sym k)

  judged_within : {l' : Limits} → judged at l s ≡ set l' → Within l'
  judged_within {l'} =
      judged_by (λ r. r ≡ set l' → Within l') at l s
      (λ m e. set_unset (sym e))
      (λ m c e. set_unset (sym e))
      (λ w. depth_within)
      (λ w. length_within)
      (λ w k e. set_unset (sym e))
      (λ w e. subst Within (set_same e) v)

-- Document 01's limits are such.
standard_within : Within standard
unfolding standard
standard_within = record { some_depth = omega arith; depth = omega arith; bytes = omega arith }

from_within : (at k : ℕ) (l : Limits) (s : List ℕ) → Within l → Within (held (settled_from at k l s))
unfolding settled_from held
from_within at k l [] v = v
from_within at (suc k) l (b ∷ s) v = from_within (at + 1) k l s v
from_within at zero l (b ∷ s) v =
    by (λ l'. from_within (at + 1) (3 + size_of (b ∷ s)) l' s) (judged at l (b ∷ s)) refl
  where
    by : ((l' : Limits) → Within l' → Within (held (settled_from (at + 1) (3 + size_of (b ∷ s)) l' s)))
        → (r : Settled) → judged at l (b ∷ s) ≡ r
        → Within (held (on_set r (λ l'. settled_from (at + 1) (3 + size_of (b ∷ s)) l' s)))
    by go (set l') e = go l' (judged_within v at (b ∷ s) e)
    by go (unset n a c) e = standard_within

pub limits_within : LimitsWithin
unfolding settings
limits_within s = from_within 0 0 standard s standard_within

-- Such limits are kept.
pub within_kept : (l : Limits) → Within l → capped l ≡ l
unfolding capped
within_kept l w = rw (le-leb l.bytes 1_048_576 w.bytes, le-leb l.depth 64 w.depth)

pub limits_kept : LimitsKept
limits_kept s = within_kept _ (limits_within s)

-- ---- refusals

-- A refusal of the record at the offset p: which number it has, and which place.
record Of (p n a b : ℕ) : Type 0 where
  least : 31 ≤ n
  most : n ≤ 34
  offset : (n ≡ unknown_kind → ⊥) → (a ≡ p) × (b ≡ a)
  kind : n ≡ unknown_kind → (a < skipped_from) × (b ≡ 0)

module _ (p : ℕ) {n a b : ℕ} where
  -- At the record's offset.
  here : (m : ℕ) → 31 ≤ m → m ≤ 34 → (m ≡ unknown_kind → ⊥) → unset m p p ≡ unset n a b → Of p n a b
  here m h k f e =
      let e₁ : m ≡ n = ap number e in
      let e₂ : p ≡ a = ap start e in
      let e₃ : p ≡ b = ap finish e in record {
        least = omega arith;
        most = omega arith;
        offset = λ g. (sym e₂, sym e₃ ∙ e₂);
        kind = λ g. absurd (f (e₁ ∙ g));
      }

  bad : unset bad_setting p p ≡ unset n a b → Of p n a b
  bad = here bad_setting (omega arith) (omega arith) (λ g. omega arith)

  -- At a kind.
  there : (k : ℕ) → k < skipped_from → unset unknown_kind k 0 ≡ unset n a b → Of p n a b
  there k h e =
      let e₁ : unknown_kind ≡ n = ap number e in
      let e₂ : k ≡ a = ap start e in
      let e₃ : 0 ≡ b = ap finish e in record {
        least = omega arith;
        most = omega arith;
        offset = λ g. absurd (g (sym e₁));
        kind = λ g. (omega arith, sym e₃);
      }

  either : (g : Bool) (m : Limits) → pick g (set m) (unset bad_setting p p) ≡ unset n a b → Of p n a b
  either true m e = set_unset e
  either false m e = bad e

  judged_of : (l : Limits) (s : List ℕ) → judged p l s ≡ unset n a b → Of p n a b
  unfolding depth_set length_set
  judged_of l s =
      judged_by (λ r. r ≡ unset n a b → Of p n a b) p l s
      (λ m. here wrong_mark (omega arith) (omega arith) (λ g. omega arith))
      (λ m c. here cut_short (omega arith) (omega arith) (λ g. omega arith))
      (λ w. either (good_depth s) _)
      (λ w. either (good_length s) _)
      (λ w k. there (kind_of s) k)
      (λ w e. set_unset e)

-- A refusal of some record from the offset p on.
record From (p : ℕ) (s : List ℕ) (n a b : ℕ) : Type 0 where
  at : ℕ
  before : at < p + length s
  of : Of at n a b

placed : (p k : ℕ) (l : Limits) (s : List ℕ) {n a b : ℕ} → settled_from p k l s ≡ unset n a b → From p s n a b
unfolding settled_from
placed p k l [] e = set_unset e
placed p (suc k) l (c ∷ s) e = later (placed (p + 1) k l s e)
  where
    later : {n a b : ℕ} → From (p + 1) s n a b → From p (c ∷ s) n a b
    later v = let h = v.before in record { at = v.at; before = omega arith; of = v.of }
placed p zero l (c ∷ s) {n} {a} {b} e = by (λ l'. placed (p + 1) (3 + size_of (c ∷ s)) l' s) (judged p l (c ∷ s)) refl e
  where
    by : ((l' : Limits) → settled_from (p + 1) (3 + size_of (c ∷ s)) l' s ≡ unset n a b → From (p + 1) s n a b)
        → (r : Settled) → judged p l (c ∷ s) ≡ r
        → on_set r (λ l'. settled_from (p + 1) (3 + size_of (c ∷ s)) l' s) ≡ unset n a b
        → From p (c ∷ s) n a b
    by go (set l') f g =
        let v = go l' g in
        let h = v.before in
        record { at = v.at; before = omega arith; of = v.of }
    by go (unset m x y) f g = record { at = p; before = omega arith; of = judged_of p l (c ∷ s) (f ∙ g) }

pub refusals_placed : RefusalsPlaced
unfolding settings
refusals_placed s n a b e =
    let v = placed 0 0 standard s e in
    let h = v.before in
    record {
      least = v.of.least;
      most = v.of.most;
      offset = λ f. let w = v.of.offset f in (let z = w.0 in omega arith, w.1);
      kind = v.of.kind;
    }

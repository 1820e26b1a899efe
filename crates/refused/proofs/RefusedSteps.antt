-- The refused words, step by step: the search of a list, and a name as a primary.
use mathlib.Core.Path.{◌≡◌, refl, sym, ap, ◌∙◌}
use mathlib.Core.Bool.{Bool, true, false}
use mathlib.Core.List.{List}
use Prim.Native.Nat.{ℕ, suc, ◌+◌, ◌-◌, ◌*◌, ◌≤◌, ◌<◌}
use native.Mathlib.Omega.{arith}
use lib.ListN.{length}
use Rattle.rules.specs.Forest.{Forest, nil, ◌⋈◌}
use Rattle.rules.specs.Parse.{got, trouble, parse, read_at}
use Rattle.rules.proofs.Mark.{any_mark}
use Rattle.jsx.specs.Refusal.{unexpected}
use Rattle.jsx.specs.Byte.{need}
use Rattle.jsx.specs.Name.{same}
use Rattle.jsx.specs.Word.{word, among, refused_word, primary_word}
use Rattle.lex.specs.Contract.{nothing, Leaf, Past, bytes_from}
use Rattle.lex.specs.Answer.{Got, No}
use Rattle.lex.proofs.Bare.{bare, direct_got}
use Rattle.lex.proofs.Laws.{leaf_stop, leaf_done}
use Rattle.refused.specs.WordList.{cells, good}
use Rattle.refused.proofs.Words.{among_more, among_found, among_end, refused_start, refused_other}

-- ---- the search of a list

-- The first i of all words of n bytes were compared, and the next begins at p.
pub record Seen (t s : List ℕ) (a n all p i : ℕ) : Type 0 where
  pub small : all ≤ 9
  pub fewer : i ≤ all
  pub near : p ≤ 11 * i
  pub so : refused_word (bytes_from s a n) ≡ among (cells t p n (all - i)) (bytes_from s a n)

-- Before the first word.
pub list_begins : {t s : List ℕ} {a n all : ℕ} → good t n all ≡ true → all ≤ 9 → Seen t s a n all 0 0
list_begins {t} {s} {a} {n} {all} h k =
    record { small = k; fewer = omega arith; near = omega arith; so = refused_start t n all h s a }

module _ {t s : List ℕ} {a n all p i : ℕ} (v : Seen t s a n all p i) where
  -- No word is left.
  pub list_ends : all ≤ i → false ≡ refused_word (bytes_from s a n)
  list_ends h = sym (among_end t (bytes_from s a n) p n all i v.so h)

  module _ (h : i < all) {r : Bool} (e : r ≡ same (bytes_from t p n) (bytes_from s a n)) where
    -- This word.
    pub list_finds : r ≡ true → true ≡ refused_word (bytes_from s a n)
    list_finds x = sym (among_found t (bytes_from s a n) p n all i v.so h (sym e ∙ x))

    -- Another word.
    pub list_goes_on : r ≡ false → n ≤ 10 → Seen t s a n all (p + n + 1) (i + 1)
    list_goes_on x k = record {
      small = v.small;
      fewer = omega arith;
      near = omega arith;
      so = among_more t (bytes_from s a n) p n all i v.so h (sym e ∙ x);
    }

-- The list of one length says it of bytes of that length.
pub listed : (s : List ℕ) (a k n : ℕ) {m : ℕ} {r : Bool} → r ≡ refused_word (bytes_from s a k) → m ≡ k → m ≡ n
    → r ≡ refused_word (bytes_from s a n)
listed s a k n e f g = e ∙ ap (λ (x : ℕ). refused_word (bytes_from s a x)) (sym f ∙ g)

-- ---- a name as a primary

module _
    {s : List ℕ} {at p : ℕ} (l : Past p s word at 1) {t : Bool} (i : t ≡ refused_word (bytes_from s at (p - at)))
  where
    -- A refused word.
    pub primary_stops : t ≡ true → Leaf nothing (No unexpected at at 0 0) s primary_word at 1
    unfolding parse primary_word bare word need
    primary_stops x = leaf_stop nothing s primary_word at 1 refl (go l.is (sym i ∙ x))
      where
        go : {o : Forest} → read_at s word at ≡ got true o p → refused_word (bytes_from s at (p - at)) ≡ true
            → read_at s primary_word at ≡ trouble unexpected at at 0 0
        go w h = rw (any_mark s (suc (length s)) word 0 at at w, direct_got s (suc (length s)) word 0 at refl w, h)

    -- Another.
    pub primary_is : t ≡ false → Leaf nothing (Got p 0) s primary_word at 1
    unfolding parse primary_word bare word need
    primary_is x = leaf_done nothing s primary_word at 1 p 0 (go l.is (sym i ∙ x)) refl l.far
      where
        go : {o : Forest} → read_at s word at ≡ got true o p → refused_word (bytes_from s at (p - at)) ≡ false
            → read_at s primary_word at ≡ got true (o ⋈ nil) p
        go w h = rw (any_mark s (suc (length s)) word 0 at at w, direct_got s (suc (length s)) word 0 at refl w, h)

pub ruleset refused_steps = (
  refused_other,
  listed,
  list_begins,
  list_ends,
  list_finds,
  list_goes_on,
  primary_stops,
  primary_is,
)

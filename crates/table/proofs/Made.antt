-- A reader that writes: to close a return of one, and what its answer says.
use mathlib.Core.Path.{◌≡◌, sym, ap, ◌∙◌}
use mathlib.Core.Bool.{Bool, true}
use mathlib.Core.List.{List}
use Prim.Native.Nat.{ℕ, ◌+◌, ◌*◌, ◌-◌, ◌≤◌}
use native.Mathlib.Omega.{arith}
use lib.ListN.{length}
use lib.Seq.{sets, length-sets}
use borrow.Rule.Slice.PartMut.{put_mid, mid_of}
use Rattle.rules.specs.Forest.{Forest}
use Rattle.rules.specs.Rule.{Rule}
use Rattle.rules.specs.Parse.{Answer, got, trouble, read_at}
use Rattle.rules.specs.Record.{count}
use Rattle.rules.proofs.Run.{goes}
use Rattle.lex.specs.Contract.{view, out_of, Leaf}
use Rattle.lex.specs.Answer.{Ans, Got, No}
use Rattle.lex.proofs.Laws as Lex
use Rattle.table.specs.Slot.{Seat, rows_from}
use Rattle.table.specs.Contract.{Start}
use Rattle.table.specs.Reader.{counted, MadeOf, Made}
use Rattle.table.proofs.Laws.{lent}

-- The rule refuses, and the code hands up that refusal.
pub made_stop : {x : Answer} (s : List ℕ) (at k : ℕ) (q : Seat) (i : ℕ) (t t' : List ℕ) {r : Ans} {n a b c d : ℕ}
    → r ≡ No n a b c d
    → x ≡ trouble n a b c d
    → MadeOf r x s at k q i t t'
made_stop {x} s at k q i t t' f e = record {
  is = f ∙ sym (ap (view counted) e);
  far = λ p m h. Lex.none_got (λ p m. (2 * at + m ≤ 2 * p) × (p ≤ length s) × (at + k ≤ p)) p m (sym f ∙ h);
  wrote = λ p m h. Lex.none_got (λ p m. t' ≡ sets t i (rows_from q at (out_of x))) p m (sym f ∙ h);
}

-- The rule has read the forest w, which ends at p and has m records, and these were stored.
pub made_done : {x : Answer} (s : List ℕ) (w : Forest) (at k : ℕ) (q : Seat) (i : ℕ) (t t' : List ℕ)
    (p m : ℕ) {a : Bool}
    → x ≡ got a w p
    → m ≡ count w
    → (2 * at + m ≤ 2 * p) × (p ≤ length s) × (at + k ≤ p)
    → t' ≡ sets t i (rows_from q at w)
    → MadeOf (Got p m) x s at k q i t t'
made_done s w at k q i t t' p m e h far o = record {
  is = ap (Got p) h ∙ sym (ap (view counted) e);
  far = Lex.this_got (λ z l. (2 * at + l ≤ 2 * z) × (z ≤ length s) × (at + k ≤ z)) far;
  wrote = λ z l y. o ∙ ap (λ (v : Answer). sets t i (rows_from q at (out_of v))) (sym e);
}

module _ {r : Ans} {s : List ℕ} {g : Rule} {at j : ℕ} {q : Seat} {i : ℕ} {t t' : List ℕ}
    (l : Made r s g at j q i t t') where
  -- A reader's answer is handed up, for a rule that answers the same.
  pub made_as : (h : Rule) (k : ℕ) → read_at s g at ≡ read_at s h at → k ≤ j → Made r s h at k q i t t'
  made_as h k e f = record {
    of = record {
      is = l.of.is ∙ ap (view counted) e;
      far = λ p m x. let y = l.of.far p m x in (y.0, y.1, omega arith);
      wrote = λ p m x. l.of.wrote p m x ∙ ap (λ (v : Answer). sets t i (rows_from q at (out_of v))) e;
    };
  }

  -- Where a reader refuses, its rule does.
  pub made_no : {n a b c d : ℕ} → r ≡ No n a b c d → read_at s g at ≡ trouble n a b c d
  made_no f = Lex.view_no counted (read_at s g at) l.of.is f

  made_leaf : Leaf counted r s g at j
  made_leaf = record { is = l.of.is; far = λ p m x. let y = l.of.far p m x in (y.2, y.1) }

  -- Where a reader has got something, its rule, if it is one that goes on, read something up to the same place.
  pub made_got : {p m : ℕ} → goes g ≡ true → r ≡ Got p m → read_at s g at ≡ got true (out_of (read_at s g at)) p
  made_got h f = Lex.leaf_got h made_leaf f

  -- The number that such a reader has got is the count of the records of what its rule read.
  pub made_count : {p m : ℕ} → goes g ≡ true → r ≡ Got p m → m ≡ count (out_of (read_at s g at))
  made_count h f = Lex.leaf_number h made_leaf f

-- What a reader has made changes no length.
pub made_length : {r : Ans} {s : List ℕ} {g : Rule} {at k : ℕ} {q : Seat} {i p m : ℕ} {t t' : List ℕ}
    → Made r s g at k q i t t'
    → r ≡ Got p m
    → length t' ≡ length t
made_length {s = s} {g} {at} {q = q} {i} {t = t} l h =
    ap length (l.of.wrote _ _ h) ∙ length-sets t i (rows_from q at (out_of (read_at s g at)))

-- A refusal is handed up.
pub refused : {r : Ans} {s : List ℕ} {g : Rule} {at k : ℕ} {q : Seat} {i : ℕ} {t t' : List ℕ} {n a b c d : ℕ}
    → read_at s g at ≡ trouble n a b c d
    → r ≡ No n a b c d
    → Made r s g at k q i t t'
refused {s = s} {at = at} {k} {q} {i} {t} {t'} e f = record { of = made_stop s at k q i t t' f e }

-- A reader that was lent the part from the word k on.
pub made_lent : {r : Ans} {s : List ℕ} {g : Rule} {at j : ℕ} {q : Seat} (t : List ℕ) {t' u : List ℕ} {k a : ℕ}
    → Start (length t) k a
    → Made r s g at j q 0 (mid_of a (length t - a) t) u
    → t' ≡ put_mid a (length t - a) t u
    → Made r s g at j q k t t'
made_lent {s = s} {g} {at} {q = q} t st l e = record {
  of = record {
    is = l.of.is;
    far = l.of.far;
    wrote = λ p m y. e ∙ lent (rows_from q at (out_of (read_at s g at))) t st (l.of.wrote p m y);
  };
}

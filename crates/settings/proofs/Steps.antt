-- What each need of the functions follows from.
use mathlib.Core.Path.{◌≡◌, sym, ap, ◌∙◌}
use mathlib.Core.Bool.{false}
use mathlib.Core.List.{List}
use Prim.Native.Nat.{ℕ, ◌+◌, ◌-◌, ◌≤◌, ◌<◌}
use native.Mathlib.Omega.{arith}
use lib.ListN.{length, take, drop, length-drop, drop_of_length-le}
use lib.Seq.{drop-drop, take_all}
use borrow.Author.Rules.{rules}
use Rattle.std.specs.Prelude.{Result, Ok, Err}
use Rattle.jsx.specs.Reading as R
use Rattle.jsx.specs.Settings as Store
use Rattle.jsx.specs.Settings.{size_of, is_cut, judged, on_set, settled_from, settings}
use Rattle.jsx.proofs.Settings.{set_whole, whole_length, next_record, refused_record}
use Rattle.settings.specs.declared.Limits.{Limits}
use Rattle.settings.specs.declared.refusal.StoreRefusal.{StoreRefusal}
use Rattle.settings.specs.declared.refusal.StoreRefusal.TheVariants.{WrongMark, CutShort, UnknownKind, BadSetting}
use Rattle.settings.specs.Refusal.{refused}
use Rattle.settings.specs.Contract.{limits_of, settled_of}

-- The records up to a place were read, and the limits are l so far.
pub record Read (s : List ℕ) (l : Limits) (at : ℕ) : Type 0 where
  pub within : at ≤ length s
  pub rest : settings s ≡ settled_from at 0 (limits_of l) (drop at s)

pub read_begin : (s : List ℕ) {l : Limits} → limits_of l ≡ R.standard → Read s l 0
unfolding settings
read_begin s e = record { within = omega arith; rest = ap (λ (m : R.Limits). settled_from 0 0 m s) (sym e) }

-- The store from a place on, as a part of it.
from_place : (s : List ℕ) (at : ℕ) → take (length s - at) (drop at s) ≡ drop at s
from_place s at = let n = length-drop at s in take_all (length s - at) (drop at s) (omega arith)

module _ (s : List ℕ) {l : Limits} {at : ℕ} (v : Read s l at) where
  pub read_end : length s ≤ at → Store.set (limits_of l) ≡ settings s
  unfolding settled_from
  read_end h = sym (v.rest ∙ ap (settled_from at 0 (limits_of l)) (drop_of_length-le s h))

  module _ (h : at < length s) (r : Result Limits StoreRefusal)
      (y : settled_of r ≡ judged at (limits_of l) (take (length s - at) (drop at s))) where
    of_rest : settled_of r ≡ judged at (limits_of l) (drop at s)
    of_rest = y ∙ ap (judged at (limits_of l)) (from_place s at)

    refuses : {n a b : ℕ} → judged at (limits_of l) (drop at s) ≡ Store.unset n a b → Store.unset n a b ≡ settings s
    refuses j =
        let n = length-drop at s in
        sym (v.rest ∙ refused_record at (limits_of l) (drop at s) (omega arith) j)

    pub read_stops : {e : StoreRefusal} → r ≡ Err e → refused e ≡ settings s
    read_stops {e} is = by e (sym of_rest ∙ ap settled_of is)
      where
        by : (f : StoreRefusal) → judged at (limits_of l) (drop at s) ≡ refused f → refused f ≡ settings s
        by (WrongMark p) = refuses
        by (CutShort p) = refuses
        by (UnknownKind k) = refuses
        by (BadSetting p) = refuses

    module _ {k : Limits} (e : r ≡ Ok k) {n : ℕ} (z : n ≡ size_of (take (length s - at) (drop at s))) where
      uncut : is_cut (drop at s) ≡ false
      uncut = set_whole at (limits_of l) (drop at s) (sym of_rest ∙ ap settled_of e)

      size : n ≡ size_of (drop at s)
      size = z ∙ ap size_of (from_place s at)

      -- The record that was read is whole, so the next place is no further than the end.
      read_on : at + (4 + n) ≤ length s
      read_on =
          let m = length-drop at s in
          let w = whole_length (drop at s) uncut in
          omega (arith, size)

      pub read_again : Read s k (at + (4 + n))
      read_again = record {
        within = read_on;
        rest = v.rest
            ∙ next_record at (4 + n) (limits_of l) (drop at s) uncut (ap (λ (m : ℕ). 4 + m) size)
            ∙ ap (λ (x : Store.Settled). on_set x (λ m. settled_from (at + (4 + n)) 0 m (drop (4 + n) (drop at s))))
            (sym of_rest ∙ ap settled_of e)
            ∙ ap (settled_from (at + (4 + n)) 0 (limits_of k)) (drop-drop (4 + n) at s)
            ∙ ap (λ (p : ℕ). settled_from p 0 (limits_of k) (drop p s)) (omega arith);
      }

pub ruleset store_steps = (rules, read_begin, read_end, read_stops)

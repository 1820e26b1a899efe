-- What each need of the places follows from.
use mathlib.Core.Path.{◌≡◌, refl, sym, ap, ◌∙◌}
use mathlib.Core.Bool.{Bool, true, false, cond}
use mathlib.Core.List.{List, [], ◌∷◌}
use Prim.Native.Char.{code}
use Prim.Native.Nat.{ℕ, zero, suc, ◌+◌, ◌-◌, ◌≤◌, ◌<◌, ◌^◌}
use native.Mathlib.Omega.{arith}
use lib.ListN.{length, get_or, take, drop, length-drop}
use lib.Seq.{get_or-drop, take_all}
use Rattle.std.specs.Prelude.{Some, None}
use Rattle.std.specs.List.{position_from}
use Rattle.std.proofs.lemmas.List.Quantifiers.{position-Some}
use Rattle.std.proofs.lemmas.Iterator.Adapters.{position_from-zero}
use Rattle.rules.specs.Parse.{pick, byte_at}
use Rattle.spot.specs.declared.Place.{Place}
use Rattle.spot.specs.Spot.{ends_line, continues, spot_behind, spot_at, is_end, LineEnd}

-- ---- spots

-- The spot behind a byte.
pub spot_next : (s : List ℕ) (i : ℕ) → spot_at s (i + 1) ≡ spot_behind s i (spot_at s i)
unfolding spot_at
spot_next s i = let f : ◌≡◌ {A = ℕ} (i + 1) (suc i) = omega arith in ap (spot_at s) f

-- A line and a column are at most as many as the bytes before, and one.
spot_small : (s : List ℕ) (i : ℕ) → ((spot_at s i).line ≤ i + 1) × ((spot_at s i).column ≤ i + 1)
unfolding spot_at spot_behind
spot_small s zero = (omega arith, omega arith)
spot_small s (suc i) = by (ends_line s i) (continues (byte_at s i)) (spot_at s i) (spot_small s i)
  where
    by : (b c : Bool) (x : Place) → (x.line ≤ i + 1) × (x.column ≤ i + 1)
        → ((pick b (record { line = x.line + 1; column = 1; start = i + 1 })
        (pick c x (record { line = x.line; column = x.column + 1; start = x.start }))).line ≤ suc i + 1)
        × ((pick b (record { line = x.line + 1; column = 1; start = i + 1 })
        (pick c x (record { line = x.line; column = x.column + 1; start = x.start }))).column ≤ suc i + 1)
    by true c x h = (omega arith, omega arith)
    by false true x h = (omega arith, omega arith)
    by false false x h = (omega arith, omega arith)

module _ (s : List ℕ) (i : ℕ) {x : Place} (is : x ≡ spot_at s i) where
  -- So they fit.
  pub line_fits : i < 2 ^ 63 → x.line + 1 < 2 ^ 64
  line_fits h = let e = ap (λ (y : Place). y.line) is in let f = spot_small s i in omega arith

  pub column_fits : i < 2 ^ 63 → x.column + 1 < 2 ^ 64
  column_fits h = let e = ap (λ (y : Place). y.column) is in let f = spot_small s i in omega arith

pub ruleset next_steps = (spot_next, line_fits, column_fits)

-- A line begins at its place or before it.
start_before : (s : List ℕ) (i : ℕ) → (spot_at s i).start ≤ i
unfolding spot_at spot_behind
start_before s zero = omega arith
start_before s (suc i) = by (ends_line s i) (continues (byte_at s i)) (spot_at s i) (start_before s i)
  where
    by : (b c : Bool) (x : Place) → x.start ≤ i
        → (pick b (record { line = x.line + 1; column = 1; start = i + 1 })
        (pick c x (record { line = x.line; column = x.column + 1; start = x.start }))).start ≤ suc i
    by true c x h = omega arith
    by false true x h = omega arith
    by false false x h = omega arith

pub line_before : (s : List ℕ) {x : Place} {i : ℕ} → x ≡ spot_at s i → x.start ≤ i
line_before s {i = i} e = let f = ap (λ (y : Place). y.start) e in let g = start_before s i in omega arith

-- ---- the end of a line

-- Where none is found, no byte is one of a line's end.
no_end : (xs : List ℕ) (k j : ℕ) → position_from is_end k xs ≡ None → j < length xs → is_end (get_or xs j 256) ≡ false
no_end [] k j e h = absurd (omega arith)
no_end (x ∷ xs) k j e h = by (is_end x) refl j h e (no_end xs (k + 1))
  where
    by : (b : Bool) → is_end x ≡ b → (j : ℕ) → j < length (x ∷ xs)
        → cond b (Some k) (position_from is_end (k + 1) xs) ≡ None
        → ((j : ℕ) → position_from is_end (k + 1) xs ≡ None → j < length xs → is_end (get_or xs j 256) ≡ false)
        → is_end (get_or (x ∷ xs) j 256) ≡ false
    by true f j h e go = cc
    by false f zero h e go = f
    by false f (suc j) h e go = go j e (omega arith)

module _ (b : ℕ) where
  not_end : is_end b ≡ false → (b ≡ code "\n" → ⊥) × (b ≡ code "\r" → ⊥)
  not_end h = ((λ e. grind arith), (λ e. grind arith))

  at_end : is_end b ≡ true → (b ≡ code "\n" → ⊥) → b ≡ code "\r"
  at_end h n = grind arith

module _ (s : List ℕ) (p : ℕ) (within : p ≤ length s) where
  -- The bytes from p on, as a part of s.
  from_place : (j : ℕ) → get_or (take (length s - p) (drop p s)) j 256 ≡ byte_at s (p + j)
  from_place j =
      let n = length-drop p s in
      ap (λ (xs : List ℕ). get_or xs j 256) (take_all (length s - p) (drop p s) (omega arith)) ∙ get_or-drop p s j 256

  part_length : length (take (length s - p) (drop p s)) ≡ length s - p
  part_length = let n = length-drop p s in ap length (take_all (length s - p) (drop p s) (omega arith)) ∙ n

  clear_before : (n : ℕ) → ((j : ℕ) → j < n → is_end (get_or (take (length s - p) (drop p s)) j 256) ≡ false)
      → (i : ℕ) → p ≤ i → i < p + n → (byte_at s i ≡ code "\n" → ⊥) × (byte_at s i ≡ code "\r" → ⊥)
  clear_before n h i l u =
      let k : p + (i - p) ≡ i = omega arith in
      not_end (byte_at s i)
      (ap is_end (ap (byte_at s) (sym k) ∙ sym (from_place (i - p))) ∙ h (i - p) (omega arith))

  pub end_found : {n : ℕ} → Some n ≡ position_from is_end 0 (take (length s - p) (drop p s)) → LineEnd (p + n) s p
  end_found {n} e =
      let t = take (length s - p) (drop p s) in
      let f = position-Some is_end t n 256 (position_from-zero is_end t ∙ sym e) in
      let m = part_length in
      record {
        behind = omega arith;
        inside = omega (arith, f.0);
        clear = clear_before n f.2;
        stops = λ x y. at_end (byte_at s (p + n)) (ap is_end (sym (from_place n)) ∙ f.1) y;
      }

  pub end_missing : None ≡ position_from is_end 0 (take (length s - p) (drop p s)) → LineEnd (length s) s p
  end_missing e =
      let m = part_length in
      let k : p + (length s - p) ≡ length s = omega arith in
      record {
        behind = within;
        inside = omega arith;
        clear = λ i l u.
            clear_before (length s - p)
            (λ j h. no_end (take (length s - p) (drop p s)) 0 j (sym e) (omega arith)) i l (omega arith);
        stops = λ x y. absurd (x refl);
      }

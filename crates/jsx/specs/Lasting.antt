-- Request 14 on one page: a statement under each of its sentences, for every list of numbers. proofs/Lasting.antt
-- proves each of them.
use Rattle.std.specs.Prelude.{ℕ, ◌+◌, ◌/◌, ◌%◌, ◌≤◌, ◌<◌, ◌≡◌, List, [], ◌∷◌, ◌++◌, length, eqb}
use Rattle.rules.specs.Parse.{pick}
use Rattle.jsx.specs.Byte.{bytes_of}
use Rattle.jsx.specs.Reading.{Limits, standard}
use Rattle.jsx.specs.Settings.{cut_short, unknown_kind, Settled, set, unset, held, depth_kind, length_kind}
use Rattle.jsx.specs.Settings.{skipped_from, settled_from}
use Rattle.jsx.specs.Settings.{settings, capped}

-- ---- D2: "A settings store is a list of records, each preceded by 53 54 hex: a kind byte, a length byte, that many
-- bytes."

abbrev pub entry : (kind : ℕ) → List ℕ → List ℕ
entry k c = bytes_of "ST" ++ (k ∷ length c ∷ c)

abbrev pub depth_entry : ℕ → List ℕ
depth_entry d = entry depth_kind (d ∷ [])

-- D2: "4 bytes low byte first".
abbrev pub low_first : ℕ → List ℕ
low_first n = n % 256 ∷ n / 256 % 256 ∷ n / 65_536 % 256 ∷ n / 16_777_216 ∷ []

abbrev pub length_entry : ℕ → List ℕ
length_entry n = entry length_kind (low_first n)

-- ---- D2: "Kind 1 is the depth limit (one byte, 1 to 64), kind 2 the length limit (4 bytes low byte first, at most
-- 1,048,576)"

pub record Within (l : Limits) : Type 0 where
  pub some_depth : 1 ≤ l.depth
  pub depth : l.depth ≤ 64
  pub bytes : l.bytes ≤ 1_048_576

-- Whatever the store, the limits that hold behind it are such,
abbrev pub LimitsWithin : Type 0
LimitsWithin = (s : List ℕ) → Within (held (settings s))

-- and a reading that is given them goes by them.
abbrev pub LimitsKept : Type 0
LimitsKept = (s : List ℕ) → capped (held (settings s)) ≡ held (settings s)

-- All such limits can be set: by a record of each kind.
abbrev pub AllCanBeSet : Type 0
AllCanBeSet = (l : Limits) → Within l → settings (depth_entry l.depth ++ length_entry l.bytes) ≡ set l

-- ---- D2: "the last of a kind counts, absent means document 01's number"

-- A record behind a good store has the last word on its limit, and leaves the other.
pub record LastCounts : Type 0 where
  pub absent : settings [] ≡ set standard
  pub of_depth : (x : List ℕ) (l : Limits) (d : ℕ) → settings x ≡ set l → 1 ≤ d → d ≤ 64
      → settings (x ++ depth_entry d) ≡ set (record { bytes = l.bytes; depth = d })
  pub of_length : (x : List ℕ) (l : Limits) (n : ℕ) → settings x ≡ set l → n ≤ 1_048_576
      → settings (x ++ length_entry n) ≡ set (record { bytes = n; depth = l.depth })

-- A store behind a good one: its answer over the first's limits, at its own offsets. So records that are left out in
-- the second leave the first's limits.
abbrev pub StoresFollow : Type 0
StoresFollow = (x y : List ℕ) (l : Limits) → settings x ≡ set l → settings (x ++ y) ≡ settled_from (length x) 0 l y

-- The answer with offsets moved by so much; D2: "all but 33 at the record's offset".
abbrev pub moved_by : ℕ → Settled → Settled
moved_by n (set l) = set l
moved_by n (unset m a b) = pick (eqb m unknown_kind) (unset m a b) (unset m (a + n) (b + n))

-- Only offsets know how many bytes are in front.
abbrev pub OffsetsMove : Type 0
OffsetsMove = (n at : ℕ) (l : Limits) (s : List ℕ) → settled_from (at + n) 0 l s ≡ moved_by n (settled_from at 0 l s)

-- What is refused stays refused, the same, whatever follows; but for a record that is cut short, which may be whole
-- then.
abbrev pub RefusedStays : Type 0
RefusedStays = (x y : List ℕ) (n a b : ℕ) → settings x ≡ unset n a b → (n ≡ cut_short → ⊥)
    → settings (x ++ y) ≡ unset n a b

-- ---- D2: "An unknown kind of 128 or above is skipped; below 128 it is 33, places the kind and 0. An older reader thus
-- shows right limits or refuses, whatever a newer writer adds."

-- A record of such a kind between two records (x is whole records) changes nothing but the offsets behind it, whatever
-- its bytes are: limits are the same.
abbrev pub SkippedChangesNothing : Type 0
SkippedChangesNothing = (x y : List ℕ) (l : Limits) → settings x ≡ set l
    → (k : ℕ) (c : List ℕ) → skipped_from ≤ k
    → settings (x ++ (entry k c ++ y)) ≡ moved_by (length (entry k c)) (settings (x ++ y))

-- A record of any other kind that is not known refuses the store, whatever follows.
abbrev pub UnknownRefuses : Type 0
UnknownRefuses = (x y : List ℕ) (l : Limits) → settings x ≡ set l
    → (k : ℕ) (c : List ℕ) → k < skipped_from → (k ≡ depth_kind → ⊥) → (k ≡ length_kind → ⊥)
    → settings (x ++ (entry k c ++ y)) ≡ unset unknown_kind k 0

-- ---- D2: "31 mark, 32 cut short, 33, 34 bad length or number, all but 33 at the record's offset"

-- A refusal's number is one of 31 to 34, and its place is an offset in the store; or it is 33, at a kind below 128.
pub record Placed (s : List ℕ) (n a b : ℕ) : Type 0 where
  pub least : 31 ≤ n
  pub most : n ≤ 34
  pub offset : (n ≡ unknown_kind → ⊥) → (a < length s) × (b ≡ a)
  pub kind : n ≡ unknown_kind → (a < skipped_from) × (b ≡ 0)

abbrev pub RefusalsPlaced : Type 0
RefusalsPlaced = (s : List ℕ) (n a b : ℕ) → settings s ≡ unset n a b → Placed s n a b

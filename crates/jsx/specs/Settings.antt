-- A settings store, and the limits that it sets. Document 02, request 14, 'Settings that outlive a headset'.
use Prim.Native.Char.{code}
use Rattle.std.specs.Prelude.{ℕ, zero, suc, ◌+◌, ◌*◌, Bool, true, false, List, [], ◌∷◌, length, leb, ltb, eqb}
use Rattle.rules.specs.Rule.{Test}
use Rattle.rules.specs.Parse.{pick, byte_at}
use Rattle.jsx.specs.Byte.{end, none, ◌‥◌, ◌or◌}
use Rattle.jsx.specs.Reading.{Limits, standard}

-- ---- the refusals of a store, none of which a reading gives

-- D2: "31 mark": a byte of the mark is another one
abbrev pub wrong_mark : ℕ
wrong_mark = 31

-- D2: "32 cut short"
abbrev pub cut_short : ℕ
cut_short = 32

-- D2: "An unknown kind .. below 128 it is 33"
abbrev pub unknown_kind : ℕ
unknown_kind = 33

-- D2: "34 bad length or number"
abbrev pub bad_setting : ℕ
bad_setting = 34

-- ---- answers

-- What a store is answered: the limits that it sets, or a refusal's number and place.
pub data Settled : Type 0 where
  set : Limits → Settled
  unset : (number start end : ℕ) → Settled

-- D2: "then document 01's limits hold".
unfoldable pub held : Settled → Limits
held (set l) = l
held (unset n a b) = standard

-- ---- one record

-- D2: "A settings store is a list of records, each preceded by 53 54 hex: a kind byte, a length byte, that many bytes."
-- s: the store from a record on.

abbrev pub kind_of : List ℕ → ℕ
kind_of s = byte_at s 2

abbrev pub size_of : List ℕ → ℕ
size_of s = byte_at s 3

-- A byte stands here, and is another one.
abbrev pub other_than : ℕ → Test
other_than b = none ((λ c. eqb c b) or end)

-- A byte of the mark is another one. Where none stands, the record is cut short.
unfoldable pub marks_other : List ℕ → Bool
marks_other s = pick (other_than (code "S") (byte_at s 0)) true (other_than (code "T") (byte_at s 1))

-- The mark, the two bytes or what they announce is not whole.
unfoldable pub is_cut : List ℕ → Bool
is_cut s = ltb (length s) (4 + size_of s)

-- D2: "Kind 1 is the depth limit (one byte, 1 to 64)".
abbrev pub depth_kind : ℕ
depth_kind = 1

abbrev pub depth_in : List ℕ → ℕ
depth_in s = byte_at s 4

unfoldable pub good_depth : List ℕ → Bool
good_depth s = pick (eqb (size_of s) 1) ((1 ‥ 64) (depth_in s)) false

-- D2: "34 bad length or number".
unfoldable pub depth_set : (at : ℕ) → Limits → List ℕ → Settled
depth_set at l s =
    pick (good_depth s) (set (record { bytes = l.bytes; depth = depth_in s })) (unset bad_setting at at)

-- D2: "kind 2 the length limit (4 bytes low byte first, at most 1,048,576)".
abbrev pub length_kind : ℕ
length_kind = 2

abbrev pub length_in : List ℕ → ℕ
length_in s = byte_at s 4 + 256 * byte_at s 5 + 65_536 * byte_at s 6 + 16_777_216 * byte_at s 7

unfoldable pub good_length : List ℕ → Bool
good_length s = pick (eqb (size_of s) 4) (leb (length_in s) 1_048_576) false

unfoldable pub length_set : (at : ℕ) → Limits → List ℕ → Settled
length_set at l s =
    pick (good_length s) (set (record { bytes = length_in s; depth = l.depth })) (unset bad_setting at at)

-- D2: "An unknown kind of 128 or above is skipped; below 128 it is 33".
abbrev pub skipped_from : ℕ
skipped_from = 128

-- What the record at the offset `at` makes of the limits l. D2: "Refusals, record by record in this order: 31 mark, 32
-- cut short, 33, 34 bad length or number, all but 33 at the record's offset"; of 33, "places the kind and 0".
unfoldable pub judged : (at : ℕ) → Limits → List ℕ → Settled
judged at l s =
    pick (marks_other s) (unset wrong_mark at at)
    (pick (is_cut s) (unset cut_short at at)
    (pick (eqb (kind_of s) depth_kind) (depth_set at l s)
    (pick (eqb (kind_of s) length_kind) (length_set at l s)
    (pick (ltb (kind_of s) skipped_from) (unset unknown_kind (kind_of s) 0)
    (set l)))))

-- ---- the store

-- A refusal is the whole answer.
abbrev pub on_set : Settled → (Limits → Settled) → Settled
on_set (set l) f = f l
on_set (unset n a b) f = unset n a b

-- The store from the offset `at` on, where the limits are l so far and the next record begins behind `left` more bytes
-- (which are there: a record that is cut short is refused). D2: "the last of a kind counts".
unfoldable pub settled_from : (at left : ℕ) → Limits → List ℕ → Settled
settled_from at left l [] = set l
settled_from at (suc k) l (b ∷ s) = settled_from (at + 1) k l s
settled_from at zero l (b ∷ s) =
    on_set (judged at l (b ∷ s)) (λ l'. settled_from (at + 1) (3 + size_of (b ∷ s)) l' s)

-- D2: "absent means document 01's number".
unfoldable pub settings : List ℕ → Settled
settings = settled_from 0 0 standard

-- ---- limits that are given

-- No store sets a limit above document 01's. A reading that is given one goes by document 01's.
abbrev pub least : ℕ → ℕ → ℕ
least a b = pick (leb a b) a b

unfoldable pub capped : Limits → Limits
capped l = record { bytes = least l.bytes 1_048_576; depth = least l.depth 64 }

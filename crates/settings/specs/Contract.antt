-- What the calls on settings promise: the code's limits and answers as the definition has them.
use Rattle.std.specs.Prelude.{◌≡◌, List, ℕ, Option, Some, None, Result, Ok, Err}
use Rattle.rules.specs.Parse.{pick}
use Rattle.jsx.specs.Reading as reading
use Rattle.jsx.specs.Settings as store
use Rattle.settings.specs.declared.Limits.{Limits}
use Rattle.settings.specs.declared.refusal.StoreRefusal.{StoreRefusal}
use Rattle.settings.specs.Refusal.{refused}

abbrev pub limits_of : Limits → reading.Limits
limits_of l = record { bytes = l.bytes; depth = l.depth }

abbrev pub settled_of : Result Limits StoreRefusal → store.Settled
settled_of (Ok l) = store.set (limits_of l)
settled_of (Err e) = refused e

-- The same where n, a and b are the refusal's number and places.
abbrev pub settled_by : {E : Type 0} → (n a b : ℕ) → Result Limits E → store.Settled
settled_by n a b (Ok l) = store.set (limits_of l)
settled_by n a b (Err e) = store.unset n a b

-- The limit that the first record sets, where it is good: that of depth, and that of length.
abbrev pub depth_if_good : List ℕ → Option ℕ
depth_if_good s = pick (store.good_depth s) (Some (store.depth_in s)) None

abbrev pub length_if_good : List ℕ → Option ℕ
length_if_good s = pick (store.good_length s) (Some (store.length_in s)) None

-- D: "Show that any two results allowed by it are equal": `settings` has one answer for every store.
abbrev pub OneAnswerOfSettings : Type 0
OneAnswerOfSettings = (s : List ℕ) (r r' : Result Limits StoreRefusal) → settled_of r ≡ store.settings s
    → settled_of r' ≡ store.settings s
    → r ≡ r'

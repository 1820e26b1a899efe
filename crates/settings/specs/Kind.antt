-- The kinds of a store's records, by their bytes.
use Rattle.std.specs.Prelude.{ℕ, Result, Ok, Err, eqb, ltb}
use Rattle.rules.specs.Parse.{pick}
use Rattle.jsx.specs.Settings.{depth_kind, length_kind, skipped_from}
use Rattle.settings.specs.declared.kind.Kind.{Kind}
use Rattle.settings.specs.declared.kind.Kind.TheVariants.{Depth, Length, Skipped}
use Rattle.settings.specs.declared.refusal.StoreRefusal.{StoreRefusal}
use Rattle.settings.specs.declared.refusal.StoreRefusal.TheVariants.{UnknownKind}

-- D2: "An unknown kind of 128 or above is skipped; below 128 it is 33".
abbrev pub kind_named : ℕ → Result Kind StoreRefusal
kind_named b =
    pick (eqb b depth_kind) (Ok Depth)
    (pick (eqb b length_kind) (Ok Length)
    (pick (ltb b skipped_from) (Err (UnknownKind b))
    (Ok Skipped)))

-- Why a store is refused, as the definition says it.
use Rattle.std.specs.Prelude.{ℕ}
use Rattle.jsx.specs.Settings as store
use Rattle.settings.specs.declared.refusal.StoreRefusal.{StoreRefusal}
use Rattle.settings.specs.declared.refusal.StoreRefusal.TheVariants.{WrongMark, CutShort, UnknownKind, BadSetting}

-- The numbers of document 02.
abbrev pub number : StoreRefusal → ℕ
number (WrongMark at) = store.wrong_mark
number (CutShort at) = store.cut_short
number (UnknownKind kind) = store.unknown_kind
number (BadSetting at) = store.bad_setting

abbrev pub refused : StoreRefusal → store.Settled
refused (WrongMark at) = store.unset store.wrong_mark at at
refused (CutShort at) = store.unset store.cut_short at at
refused (UnknownKind kind) = store.unset store.unknown_kind kind 0
refused (BadSetting at) = store.unset store.bad_setting at at

-- Names as they are kept, with an index.
use Rattle.std.specs.Prelude.{ℕ, List, ◌≡◌, map, Vec}
use Rattle.std.specs.Global.{Global}
use Rattle.gang_model.specs.Source.Parsed.{Name}
use Rattle.gang_model.specs.Types.LibraryTable.{is_among}

abbrev pub names_of : List (Vec ℕ Global) → List Name
names_of kept = map (λ name. name.items) kept

-- the index has the same names
abbrev pub IsNameIndex : List (Vec ℕ Global) → List (Vec ℕ Global) → Type 0
IsNameIndex kept keys = (name : Name) → is_among name (names_of keys) ≡ is_among name (names_of kept)

-- The names of functions, with numbers.
use Rattle.std.specs.Prelude.{◌≡◌, ℕ, List, ◌++◌, map, Vec}
use Rattle.std.specs.declared.alloc.Global.{Global}
use Rattle.gang_model.specs.Texts.Text.{Bytes}

-- names that are kept
abbrev pub names_view : List (Vec ℕ Global) → List Bytes
names_view names = map (λ name. name.items) names

-- others were put behind them
abbrev pub GrowsNames : (old new : List Bytes) → Type 0
GrowsNames old new = (more : List Bytes) × (new ≡ old ++ more)

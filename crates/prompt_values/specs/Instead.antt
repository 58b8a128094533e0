-- What a name has as an expression, in the frame at a depth.
use Rattle.std.specs.Prelude.{◌≡◌, ℕ, List, Option, Some, None}
use Rattle.gang_model.specs.Debugger.Debugger.{Debugger, Setting}
use Rattle.gang_model.specs.Types.Tree.{Variable}
use Rattle.frame_values.specs.declared.values.ExpressionValue.{ExpressionValue}
use Rattle.frame_values.specs.declared.values.NoValue.{NoValue}
use Rattle.frame_values.specs.Values.{HasNoValue, IsValueOf}

-- the value of an expression, or none where it has none
abbrev pub IsValueOrNone : (text : List ℕ) → Setting → Debugger → (depth : ℕ) → Option ExpressionValue → Type 0
IsValueOrNone text s d deep None = (why : NoValue) × HasNoValue text s d deep why
IsValueOrNone text s d deep (Some value) = IsValueOf text s d deep value

-- none where the name stands for a variable, else the value that the expression has
abbrev pub IsInstead : Option Variable → (text : List ℕ) → Setting → Debugger → (depth : ℕ) → Option ExpressionValue → Type 0
IsInstead (Some variable) text s d deep found = found ≡ None
IsInstead None text s d deep found = IsValueOrNone text s d deep found

-- Arguments by how many they are.
use Rattle.std.specs.Prelude.{List, [], ◌∷◌, Option, Some, None}

-- the only argument
abbrev pub only : {A : Type 0} → List A → Option A
only [] = None
only (a ∷ []) = Some a
only (a ∷ b ∷ more) = None

-- the two arguments
abbrev pub pair : {A : Type 0} → List A → Option (A × A)
pair [] = None
pair (a ∷ []) = None
pair (a ∷ b ∷ []) = Some (a, b)
pair (a ∷ b ∷ d ∷ more) = None

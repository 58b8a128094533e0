-- `x * 3 + a[i]` on int32, and the states in which its names have some words.
use Rattle.std.specs.Prelude.{◌≡◌, ℕ, List, length}
use Rattle.gang_types.specs.declared.types.IntType.TheVariants.{Int32}
use Rattle.gang_types.specs.declared.types.Rate.TheVariants.{Varying}
use Rattle.gang_types.specs.declared.operators.BinaryOp.TheVariants.{Add, Mul}
use Rattle.gang_types.specs.declared.places.VarId.{VarId}
use Rattle.gang_types.specs.declared.places.VarId.TheVariants.{File, Local}
use Rattle.gang_model.specs.Running.State.{State, view_of, words_in}
use Rattle.gang_model.specs.Types.Tree.{Expr, Number, Read, Element, Binary}
use Rattle.gang_memory.specs.Elements.{Shows}

-- a varying int32 variable
abbrev pub variable : VarId → Expr
variable v = Read (record { id = v; type = Int32; rate = Varying })

abbrev pub sum : Expr
sum = Binary Add Int32 (Binary Mul Int32 (variable (Local 0)) (Number 3)) (Element (File 1) (variable (File 0)))

-- the words of a variable: of the file's `i`, and of the function's `x`
abbrev pub named : (x i : List ℕ) → VarId → List ℕ
named x i (File n) = i
named x i (Local n) = x

-- every variable has these words
abbrev pub HasVariables : (x i : List ℕ) → State → Type 0
HasVariables x i state = (v : VarId) → words_in state v ≡ named x i v

-- every array has these elements
abbrev pub HasElements : List ℕ → State → Type 0
HasElements a state = (array : VarId) → Shows a (record { first = 0; len = length a }) state (view_of state array)

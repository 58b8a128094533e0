-- What stands round each step of a function, and what is declared before it, computed.
use Rattle.std.proofs.Common.{ℕ, ◌≡◌, refl, [], ◌∷◌}
use Rattle.std.specs.Prelude.{map, Some, None}
use Rattle.gang_types.specs.declared.places.VarId.TheVariants.{Local}
use Rattle.gang_types.specs.declared.types.IntType.TheVariants.{Int32}
use Rattle.gang_types.specs.declared.types.Rate.TheVariants.{Varying}
use Rattle.gang_model.specs.Types.Tree.{EachLane, EachValue, ForEach, Function, If, Number, Read, Scalar, Stmt, Then, Var}
use Rattle.gang_model.specs.Types.Tree as t
use Rattle.foreach_lowering.specs.Forms.{most_nested}
use Rattle.machine_states.specs.Declared.{declared_at}
use Rattle.machine_states.specs.Nesting.{forms_about, nested_at}
use Rattle.machine_states.specs.RoundNumbers.{rounds_about}

abbrev variable : ℕ → Var
variable n = record { id = Local n; type = Int32; rate = Varying }

abbrev assigned : (number : ℕ) → Var → Stmt
assigned number x = t.Assign number (Scalar (variable 0)) (Read x)

-- a form in a form, in which an `if` stands, and a step behind them
abbrev inner : Stmt
inner = ForEach 2 (EachValue (variable 2) (Read (variable 1))) (If 3 (Number 1) (assigned 4 (variable 2)) t.Empty)

abbrev outer : Stmt
outer = ForEach 0 (EachLane (variable 1)) (Then (assigned 1 (variable 1)) inner)

abbrev two_forms : Function
two_forms = record { name = []; result = Varying; result_type = Int32; body = Then outer (assigned 7 (variable 0)); standings = [] }

-- a head stands before its form, and the rounds in it
nested_row : map (nested_at two_forms) (0 ∷ 1 ∷ 2 ∷ 3 ∷ 4 ∷ 5 ∷ 6 ∷ 7 ∷ []) ≡ 0 ∷ 1 ∷ 1 ∷ 2 ∷ 2 ∷ 2 ∷ 1 ∷ 0 ∷ []
nested_row = refl

closing_row : nested_at two_forms 8 ≡ 0
closing_row = refl

innermost_row : forms_about two_forms 5 ≡ EachValue (variable 2) (Read (variable 1)) ∷ EachLane (variable 1) ∷ []
innermost_row = refl

-- by the numbers of the rounds; rounds are those of the innermost form round them
rounds_row : map (rounds_about two_forms) (0 ∷ 1 ∷ 3 ∷ 5 ∷ 6 ∷ 7 ∷ []) ≡ None ∷ Some 6 ∷ Some 5 ∷ Some 5 ∷ Some 6 ∷ None ∷ []
rounds_row = refl

most_row : most_nested two_forms ≡ 2
most_row = refl

-- index variables are declared in the body, not at the head nor at the rounds
declared_row : declared_at (0 ∷ []) two_forms.body ≡ (0 ∷ []) ∷ (1 ∷ 0 ∷ []) ∷ (1 ∷ 0 ∷ []) ∷ (2 ∷ 1 ∷ 0 ∷ []) ∷ (2 ∷ 1 ∷ 0 ∷ []) ∷ (1 ∷ 0 ∷ []) ∷ (0 ∷ []) ∷ (0 ∷ []) ∷ []
declared_row = refl

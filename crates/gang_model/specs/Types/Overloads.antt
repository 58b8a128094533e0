-- Which function a call means: what each argument costs, and the function that wins
-- (a choice of this project: the costs and their order, what widening is, and the rule for ties). `check` decides
-- `overload`.
use Rattle.std.specs.Prelude.{ℕ, suc, Bool, true, false, not, ◌&&◌, ◌||◌, ◌==◌, nat_lt, nat_le, List, [], ◌∷◌, find, sum, Option, Some, None, is_none, if◌then◌else◌}
use Rattle.std.specs.List.{list_all}
use Rattle.gang_types.specs.declared.types.IntType.{IntType}
use Rattle.gang_types.specs.declared.places.Place.{Place}
use Rattle.gang_types.specs.declared.places.VarId.TheVariants.{Local}
use Rattle.gang_types.specs.Values.{width, is_signed, is_bool}
use Rattle.gang_model.specs.declared.refusals.RefusalNumber.TheVariants.{S9, S10}
use Rattle.gang_model.specs.Types.Tree.{Arg, Value, Array}
use Rattle.gang_model.specs.Source.Names.{same_text}
use Rattle.gang_model.specs.Source.Parsed.{Name, ParsedParam, ParsedFunction}
use Rattle.gang_model.specs.Source.Judged.{Judged, Sound, refused}
use Rattle.gang_model.specs.Types.Conversions.{Typed, same_bool, same_type, same_rate, may_become, as_type}
use Rattle.gang_model.specs.Types.Signatures.{declared_type, declared_rate}
use Rattle.gang_model.specs.Types.Typing.{Entry, Passing, Scalar, View, Reference}

-- whether a type is wider than another of the same sign; bool has no sign
abbrev pub is_wider : (from to : IntType) → Bool
is_wider from to = (not (is_bool from) && nat_lt (width from) (width to)) && same_bool (is_signed from) (is_signed to)

-- the cost of an argument: 0 same type and rate; 1 widening; 2 uniform to varying; 3 any other conversion of type at the
-- same rate; 4 widening and uniform to varying; 5 any other conversion of type and uniform to varying
abbrev pub cost_by : (same widens : Bool) → (rate_changes : Bool) → ℕ
cost_by true widens false = 0
cost_by false true false = 1
cost_by true widens true = 2
cost_by false false false = 3
cost_by false true true = 4
cost_by false false true = 5

-- the cost of a value, which varying to uniform and a `void` parameter do not have
abbrev pub value_cost : Typed → ParsedParam → Option IntType → Option ℕ
value_cost e param None = None
value_cost e param (Some type) = if not param.is_array && may_become e.rate (declared_rate param.spec.rate)
    then Some (cost_by (same_type e.type type) (is_wider e.type type) (not (same_rate e.rate (declared_rate param.spec.rate))))
    else None

-- whether an array has the element type that a parameter asks for
abbrev pub same_elements : Entry → ParsedParam → Bool
same_elements n param = same_bool n.is_void (is_none param.spec.value_type) && same_type n.variable.type (declared_type param.spec.value_type)

-- the cost of an argument, if it can be passed: an array goes to an array of the same element type, a constant one only
-- to a constant parameter
abbrev pub cost : Passing → ParsedParam → Option ℕ
cost (Scalar p e) param = value_cost e param param.spec.value_type
cost (View p n from) param = if (param.is_array && same_elements n param) && (param.spec.is_constant || not n.variable.is_constant) then Some 0 else None
cost (Reference p n) param = None

-- one more cost before others, if all are there
abbrev pub one_more : Option ℕ → Option (List ℕ) → Option (List ℕ)
one_more None more = None
one_more (Some price) None = None
one_more (Some price) (Some prices) = Some (price ∷ prices)

-- the costs of the arguments, if their number fits and each has one
abbrev pub costs : List Passing → List ParsedParam → Option (List ℕ)
costs [] [] = Some []
costs [] (param ∷ params) = None
costs (a ∷ args) [] = None
costs (a ∷ args) (param ∷ params) = one_more (cost a param) (costs args params)

-- a possible function, by its number in the source, with the costs of the arguments
pub record Candidate : Type 0 where
  pub number : ℕ
  pub function : ParsedFunction
  pub prices : List ℕ

-- one more possible function before others, if its costs are there
abbrev pub candidate : ℕ → ParsedFunction → Option (List ℕ) → List Candidate → List Candidate
candidate k f None others = others
candidate k f (Some prices) others = record { number = k; function = f; prices = prices } ∷ others

-- the possible functions of a name, from the k-th function on
abbrev pub candidates : ℕ → List ParsedFunction → Name → List Passing → List Candidate
candidates k [] name args = []
candidates k (f ∷ functions) name args =
    candidate k f (if same_text f.name name then costs args f.params else None) (candidates (suc k) functions name args)

-- whether no argument costs more than in the other function
abbrev pub no_dearer : List ℕ → List ℕ → Bool
no_dearer [] others = true
no_dearer (price ∷ prices) [] = true
no_dearer (price ∷ prices) (other ∷ others) = nat_le price other && no_dearer prices others

-- whether a function is the other one, or its sum is less and none of its arguments costs more
abbrev pub beats : Candidate → Candidate → Bool
beats c other = (c.number == other.number) || (nat_lt (sum c.prices) (sum other.prices) && no_dearer c.prices other.prices)

-- the possible function that beats every other
abbrev pub best_of : List Candidate → Option Candidate
best_of possible = find (λ c. list_all (beats c) possible) possible

-- the winner, or S10 at a call that has none
abbrev pub best_or_tie : Place → Option Candidate → Judged Candidate
best_or_tie p None = refused S10 p
best_or_tie p (Some c) = Sound c

-- the function that a call means: S9 at its name if none is possible, S10 if none beats every other
abbrev pub overload : Place → List Candidate → Judged Candidate
overload p [] = refused S9 p
overload p (c ∷ others) = best_or_tie p (best_of (c ∷ others))

-- what a call passes, in the typed tree, to the parameters from the k-th on
abbrev pub passed_args : ℕ → List Passing → List ParsedParam → List Arg
passed_args k [] params = []
passed_args k (a ∷ args) [] = []
passed_args k (Scalar p e ∷ args) (param ∷ params) =
    let type = declared_type param.spec.value_type in
    Value (record { id = Local k; type = type; rate = declared_rate param.spec.rate }) (as_type type e) ∷ passed_args (suc k) args params
passed_args k (View p n from ∷ args) (param ∷ params) = Array (Local k) n.variable.id from ∷ passed_args (suc k) args params
passed_args k (Reference p n ∷ args) (param ∷ params) = passed_args (suc k) args params

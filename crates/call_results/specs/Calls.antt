-- The calls of a program whose result a variable gets.
use Rattle.std.specs.Prelude.{ℕ, ◌==◌, List, [], ◌∷◌, ◌++◌, find, Option, Some, None, option_and_then, option_map, slice_get}
use Rattle.gang_types.specs.declared.places.Spot.{Spot}
use Rattle.gang_types.specs.declared.places.VarId.{VarId}
use Rattle.gang_model.specs.Types.Tree.{StepNumber, ResultFor, Nothing, Declares, Assigns, Returns, Stmt, Empty, Then, If, Loop, BodyFirst, Switch, Segment, ForEach, Call, Program}
use Rattle.call_results.specs.declared.calls.GivingCall as declared
use Rattle.call_results.specs.declared.given.GivenResult.{GivenResult}

-- a call whose result a variable gets: its step, the number of the function that it calls, and the variable
pub record GivingCall : Type 0 where
  pub step : StepNumber
  pub function : ℕ
  pub variable : VarId

-- a call, where its result is for a variable
abbrev pub giving : (step : StepNumber) → (function : ℕ) → ResultFor → List GivingCall
giving step function (Declares v) = record { step = step; function = function; variable = v.id } ∷ []
giving step function (Assigns v) = record { step = step; function = function; variable = v.id } ∷ []
giving step function result_for = []

-- the calls of a statement whose result a variable gets
abbrev pub givings : Stmt → List GivingCall
givings (Then first rest) = givings first ++ givings rest
givings (If number test first other) = givings first ++ givings other
givings (Loop number test update body) = givings update ++ givings body
givings (BodyFirst number test body) = givings body
givings (Switch number e segments) = givings segments
givings (Segment label body rest) = givings body ++ givings rest
givings (ForEach number form body) = givings body
givings (Call number function args result_for) = giving number function result_for
givings s = []

-- the one at a step
abbrev pub at_step : StepNumber → List GivingCall → Option GivingCall
at_step number calls = find (λ call. call.step == number) calls

-- the one at a step of a statement
abbrev pub giving_in : StepNumber → Stmt → Option GivingCall
giving_in number s = at_step number (givings s)

-- the one at a step of a program
abbrev pub giving_at : Program → Spot → Option GivingCall
giving_at p spot = option_and_then (λ f. giving_in spot.number f.body) (slice_get p.functions spot.function.0)

-- what a call gives to its variable: the result of the function that it calls
abbrev pub given_by : Program → GivingCall → Option GivenResult
given_by p call = option_map (λ f. record { variable = call.variable; value_type = f.result_type }) (slice_get p.functions call.function)

-- what the call at a step of a program gives to a variable
abbrev pub given_at : Program → Spot → Option GivenResult
given_at p spot = option_and_then (given_by p) (giving_at p spot)

-- ---- calls as they are given

abbrev pub call_view : declared.GivingCall → GivingCall
call_view call = record { step = call.step; function = call.function; variable = call.variable }

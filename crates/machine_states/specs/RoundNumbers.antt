-- Which foreach forms stand round each step of a function, by the numbers of their rounds.
use Rattle.std.specs.Prelude.{List, [], ◌∷◌, ◌++◌, Option, Some, None, slice_index_or}
use Rattle.gang_model.specs.Running.Step.{round_number}
use Rattle.gang_model.specs.Types.Tree.{StepNumber, RoundsOf, Stmt, Empty, Then, If, Loop, BodyFirst, Switch, Segment, ForEach, Function}

-- a foreach form and the number of its rounds
pub record NumberedForm : Type 0 where
  pub rounds : StepNumber
  pub form : RoundsOf

abbrev pub numbered_form : StepNumber → RoundsOf → NumberedForm
numbered_form rounds form = record { rounds = rounds; form = form }

-- for each step of a statement, in running order, the forms that it stands in, the innermost first. A form's head stands before the
-- form, and its rounds stand in it.
abbrev pub numbered_round : (outer : List NumberedForm) → Stmt → List (List NumberedForm)
numbered_round outer Empty = []
numbered_round outer (Then first rest) = numbered_round outer first ++ numbered_round outer rest
numbered_round outer (If number test first other) = outer ∷ (numbered_round outer first ++ numbered_round outer other)
numbered_round outer (Loop number test update body) = numbered_round outer body ++ (numbered_round outer update ++ outer ∷ [])
numbered_round outer (BodyFirst number test body) = numbered_round outer body ++ outer ∷ []
numbered_round outer (Switch number e segments) = outer ∷ numbered_round outer segments
numbered_round outer (Segment label body rest) = numbered_round outer body ++ numbered_round outer rest
numbered_round outer (ForEach number form body) =
    let inner = numbered_form (round_number number body) form ∷ outer in outer ∷ (numbered_round inner body ++ inner ∷ [])
numbered_round outer s = outer ∷ []

-- those round a step of a function; none round the closing brace
abbrev pub numbered_about : Function → StepNumber → List NumberedForm
numbered_about f number = slice_index_or (numbered_round [] f.body) number []

-- the number of the rounds of the innermost one
abbrev pub innermost_rounds : List NumberedForm → Option StepNumber
innermost_rounds [] = None
innermost_rounds (first ∷ outer) = Some first.rounds

abbrev pub rounds_about : Function → StepNumber → Option StepNumber
rounds_about f number = innermost_rounds (numbered_about f number)

-- The foreach forms round each step of a statement: whose rounds a step is, and how many stand in one another.
use Rattle.std.specs.Prelude.{◌≡◌, ℕ, max, List, [], ◌∷◌, ◌++◌, map, length, fold, zip, slice_get, Option, Some, None}
use Rattle.gang_model.specs.Types.Tree.{StepNumber, RoundsOf, Stmt, Empty, Then, If, Loop, BodyFirst, Switch, Segment, ForEach, Function}
use Rattle.mask_states.specs.Placed.{HasPoint}
use Rattle.mask_states.specs.Points.{Point, Begin, Turn, points_in}

-- for each step of a statement, in running order, the forms that it stands in, the innermost first. A form's head stands before the
-- form, and its rounds stand in it.
abbrev pub forms_round : (outer : List RoundsOf) → Stmt → List (List RoundsOf)
forms_round outer Empty = []
forms_round outer (Then first rest) = forms_round outer first ++ forms_round outer rest
forms_round outer (If number test first other) = outer ∷ (forms_round outer first ++ forms_round outer other)
forms_round outer (Loop number test update body) = forms_round outer body ++ (forms_round outer update ++ outer ∷ [])
forms_round outer (BodyFirst number test body) = forms_round outer body ++ outer ∷ []
forms_round outer (Switch number e segments) = outer ∷ forms_round outer segments
forms_round outer (Segment label body rest) = forms_round outer body ++ forms_round outer rest
forms_round outer (ForEach number form body) = outer ∷ (forms_round (form ∷ outer) body ++ (form ∷ outer) ∷ [])
forms_round outer s = outer ∷ []

-- the form whose rounds a point is, if it is one: the innermost of those round it
abbrev pub form_at : Point → (round : List RoundsOf) → Option RoundsOf
form_at (Turn body) (form ∷ outer) = Some form
form_at point round = None

-- for each point of a function the form whose rounds it is
abbrev pub round_forms : Function → List (Option RoundsOf)
round_forms f = map (λ at. form_at at.0 at.1) (zip (points_in f) (forms_round [] f.body))

-- the most forms round one step of a function
abbrev pub most_nested : Function → ℕ
most_nested f = fold (λ most round. max most (length round)) 0 (forms_round [] f.body)

-- of a function the forms whose rounds its points are, and how many stand in one another
pub record FormsOf : Type 0 where
  pub rounds : List (Option RoundsOf)
  pub depth : ℕ

abbrev pub function_forms : Function → FormsOf
function_forms f = record { rounds = round_forms f; depth = most_nested f }

-- the forms round the point that comes after one
abbrev pub passed : Point → (round : List RoundsOf) → List RoundsOf
passed (Begin form rounds next) round = form ∷ round
passed (Turn body) (form ∷ outer) = outer
passed point round = round

-- each form's head leads to rounds of this form, and no step of rounds is without a form
pub record HaveForms (points : List Point) (rounds : List (Option RoundsOf)) : Type 0 where
  pub heads : (n : StepNumber) (form : RoundsOf) (number next : StepNumber) → HasPoint points n (Begin form number next) → slice_get rounds number ≡ Some (Some form)
  pub turns : (n body : StepNumber) → HasPoint points n (Turn body) → (form : RoundsOf) × (slice_get rounds n ≡ Some (Some form))

-- Worked rows: entries that are judged by their conditions, and in which function a program began.
use Rattle.std.proofs.Common.{◌≡◌, refl, true, false, [], Some, None, Ok, Err}
use Rattle.gang_types.specs.declared.places.Spot.{Spot}
use Rattle.gang_model.specs.Texts.Text.{Bytes}
use Rattle.adapter_requests.specs.declared.reply.BreakpointFault.TheVariants as fault
use Rattle.adapter_requests.specs.declared.request.LineBreakpoint.{LineBreakpoint}
use Rattle.adapter_requests.specs.declared.request.Request.TheVariants as request
use Rattle.conditional_stops.specs.Tables.{nothing}
use Rattle.adapter_session.specs.Judged.{IsCondition, IsExpression, IsJudged, IsJudgedRequest, IsNoExpression, judged_by, of_line}
use Rattle.adapter_session.specs.Terms.{anew, begun_in, noted}

-- a breakpoint stands or is refused by whether it can have its condition; one without a condition stands
it_stands : (asked : LineBreakpoint) → judged_by true asked ≡ Ok asked
it_stands asked = refl

it_is_refused : (asked : LineBreakpoint) → judged_by false asked ≡ Err fault.NoExpression
it_is_refused asked = refl

without_condition : IsCondition None true
without_condition = refl

no_expression : (text : Bytes) → IsNoExpression text → IsCondition (Some text) false
no_expression text is = is

an_expression : (text : Bytes) → IsExpression text → IsCondition (Some text) true
an_expression text is = is

-- one that was refused before stays so
no_line : IsJudged of_line (Err fault.NoStep) (Err fault.NoStep)
no_line = refl

-- another request is done as it stands
another_request : IsJudgedRequest request.Next request.Next
another_request = refl

-- the function of the outermost frame, and at the end the one that was known
abbrev a_spot : Spot
a_spot = record { function = record { 0 = 3 }; number = 7 }

at_the_beginning : begun_in (Some a_spot) None ≡ Some 3
at_the_beginning = refl

at_the_end : begun_in None (Some 3) ≡ Some 3
at_the_end = refl

not_known_anew : (anew nothing [] []).entry ≡ None
not_known_anew = refl

noted_then : (noted (Some a_spot) (anew nothing [] [])).entry ≡ Some 3
noted_then = refl

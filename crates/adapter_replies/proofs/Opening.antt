-- A variable that is looked for by its name.
use Rattle.std.proofs.Common.{◌≡◌, refl, sym, ap, ◌∙◌, Bool, true, false, List, [], ◌∷◌, map, string_bytes, Option, Some, None}
use Rattle.std.specs.Prelude.{find, option_map, if◌then◌else◌}
use Rattle.gang_model.specs.Source.Names.{same_text}
use Rattle.gang_model.specs.Debugger.Debugger.{Debugger, Setting}
use Rattle.gang_model.specs.Texts.Text.{Bytes}
use Rattle.debug_answers.specs.declared.answer.Answer.{Answer}
use Rattle.debug_answers.specs.declared.answer.Answer.TheVariants as answer
use Rattle.adapter_requests.specs.declared.reply.Variable.{Variable}
use Rattle.adapter_replies.specs.declared.places.Place.{Place}
use Rattle.adapter_replies.specs.Opened.{opened_by, parts_named, unless_refused}
use Rattle.adapter_replies.specs.References.{place_of}
use Rattle.adapter_replies.specs.Variables.{variable_view}

-- the parts of the first variable of a name are those of its reference
pub parts_of_first : (name : Bytes) (variables : List Variable)
    → option_map (λ v. place_of v.reference) (find (λ v. same_text (string_bytes v.name) name) variables) ≡ parts_named name (map variable_view variables)
parts_of_first name [] = refl
parts_of_first name (v ∷ variables) =
    elim (same_text (string_bytes v.name) name) as (λ b.
    option_map (λ w. place_of w.reference) (if b then Some v else find (λ w. same_text (string_bytes w.name) name) variables)
    ≡ option_map (λ w. w.parts) (if b then Some (variable_view v) else find (λ w. same_text w.name name) (map variable_view variables))) [
      | true ↦ refl
      | false ↦ parts_of_first name variables
    ]

-- an answer that refuses opens nothing
pub refused_opens_nothing : (s : Setting) (d : Debugger) (given : Answer) → unless_refused given (opened_by s d given) ≡ opened_by s d given
refused_opens_nothing s d (answer.Refused why) = refl
refused_opens_nothing s d other = refl

use Rattle.std.proofs.Common.{◌≡◌, ◌∷◌, [], ◌∙◌, ap, decimal}
use Rattle.gang_model.specs.Texts.Text.{Bytes}
use Rattle.json_texts.specs.Json.{list_text, string_text}
use Rattle.json_texts.proofs.Listing.{ok_text}
use Rattle.run_page.specs.declared.variables.Variable.{Variable}
use Rattle.run_page.specs.RecordText.{kind_name, type_name, variable_text}
use Rattle.run_page.proofs.writing.write_variable.Goals as goal

abbrev text : Variable → (name type kind : Bytes) → Bytes
text v name type kind = list_text (decimal v.depth ∷ string_text name ∷ string_text type ∷ string_text kind ∷ decimal v.shown.count ∷ [])

same : (v : Variable) (name type kind : Bytes) → name ≡ v.name.items → type ≡ type_name v.shown.value_type → kind ≡ kind_name v.shown.is_array v.shown.rate → text v name type kind ≡ variable_text v
same v name type kind e f g =
    ap (λ t. text v t type kind) e ∙ ap (λ t. text v v.name.items t kind) f ∙ ap (λ t. text v v.name.items (type_name v.shown.value_type) t) g

pub returns-clause-written : goal.returns-clause-written
returns-clause-written g c =
    ok_text _ _ _ _ c.write_parts.result (same c.args.variable.now _ _ _ c.as_slice.ensures.value c.type_name.ensures c.kind_name.ensures) c.write_parts.ensures.written

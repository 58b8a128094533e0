-- Short words for the parts of a tree, and the text of a run.
use Rattle.std.specs.Prelude.{ℕ, Bool, List, Option, None, Result, Ok, Err}
use Rattle.gang_types.specs.declared.types.IntType.{IntType}
use Rattle.gang_types.specs.declared.types.Rate.{Rate}
use Rattle.gang_types.specs.declared.places.Place.{Place}
use Rattle.gang_model.specs.declared.forms.Spec.{Spec}
use Rattle.gang_model.specs.declared.forms.GlobalForm.{GlobalForm}
use Rattle.gang_model.specs.declared.forms.Label.{Label}
use Rattle.gang_model.specs.Source.Parsed.{Name, ParsedExpr, ParsedDim, ParsedTarget, ParsedParam, ParsedItem, ParsedFunctionItem, ParsedGlobalItem, ParsedSource, ParsedStmts}
use Rattle.gang_model.specs.Texts.RunRefusals.{RunRefusal, run_refusal_text}
use Rattle.gang_model.specs.Texts.Transcript.{Options}
use Rattle.gang_model.specs.Texts.Text.{Bytes}
use Rattle.gang_model.specs.Texts.Run.{run_of}

abbrev pub at : ℕ → ℕ → Place
at line column = record { line = line; col = column }

abbrev pub spec : (is_exported is_static is_inline is_constant : Bool) → Option Rate → Option IntType → Spec
spec is_exported is_static is_inline is_constant rate type = record {
  is_exported = is_exported;
  is_static = is_static;
  is_inline = is_inline;
  is_constant = is_constant;
  rate = rate;
  value_type = type;
}

abbrev pub target : Place → Name → Option ParsedExpr → ParsedTarget
target place name index = record { at = place; name = name; index = index }

abbrev pub dimension : Place → Name → ParsedExpr → ParsedExpr → ParsedDim
dimension place name low high = record { at = place; name = name; low = low; high = high }

abbrev pub label : Bool → ℕ → Label
label is_negative value = record { is_negative = is_negative; value = value }

abbrev pub parameter : Place → Name → Spec → Bool → ParsedParam
parameter place name spec is_array = record { at = place; name = name; spec = spec; is_array = is_array }

abbrev pub function : Place → Name → Spec → List ParsedParam → ParsedStmts → Place → ParsedItem
function place name spec params body closing =
    ParsedFunctionItem (record { at = place; name = name; spec = spec; params = params; body = body; closing = closing })

abbrev pub file_variable : Place → Name → Spec → GlobalForm → ParsedItem
file_variable place name spec form = ParsedGlobalItem (record { at = place; name = name; spec = spec; form = form })

abbrev pub options : (width history steps : ℕ) → Options
options width history steps = record { width = width; history = history; steps = steps }

-- what is written, or the line that says why the run is refused
abbrev text_of : Result Bytes RunRefusal → Bytes
text_of (Ok text) = text
text_of (Err refusal) = run_refusal_text refusal

-- the text of a run of a source, by the entry's name, the input, the options and the text of the commands
abbrev pub run_from : Option Name → ParsedSource → (input : Bytes) → Options → (commands : Bytes) → Bytes
run_from entry source input options commands = text_of (run_of source entry input options commands)

-- the same from the first exported function
abbrev pub run : ParsedSource → (input : Bytes) → Options → (commands : Bytes) → Bytes
run source input options commands = run_from None source input options commands

-- The faults S7 and S8 of declarations and signatures
-- (a choice of this project: arrays are uniform, a variable has a type, and what an exported function takes and gives is
-- uniform). `check` decides them.
use Rattle.std.specs.Prelude.{Bool, true, false, ◌&&◌, ◌||◌, List, ◌++◌, is_none, is_some}
use Rattle.std.specs.List.{flat_map}
use Rattle.gang_types.specs.declared.places.Place.{Place}
use Rattle.gang_model.specs.declared.forms.Spec.{Spec}
use Rattle.gang_model.specs.declared.forms.GlobalForm.{GlobalForm}
use Rattle.gang_model.specs.declared.forms.GlobalForm.TheVariants.{Array}
use Rattle.gang_model.specs.declared.refusals.RefusalNumber.TheVariants.{S7, S8}
use Rattle.gang_model.specs.declared.refusals.SourceRefusal.{SourceRefusal}
use Rattle.gang_model.specs.Source.Parsed.{ParsedParam, ParsedFunction, ParsedGlobal}
use Rattle.gang_model.specs.Source.Judged.{fault_if}
use Rattle.gang_model.specs.Types.Conversions.{is_varying}
use Rattle.gang_model.specs.Types.Signatures.{declared_rate}

-- whether what is declared with a spec is varying
abbrev pub is_varying_spec : Spec → Bool
is_varying_spec spec = is_varying (declared_rate spec.rate)

-- S8 at the name of a `void` variable
abbrev pub variable_faults : Place → Spec → List SourceRefusal
variable_faults at spec = fault_if (is_none spec.value_type) S8 at

-- S7 at the name of a varying array
abbrev pub array_faults : Place → Spec → (is_array : Bool) → List SourceRefusal
array_faults at spec is_array = fault_if (is_array && is_varying_spec spec) S7 at

-- a parameter of an exported function is uniform too, else S7 at its name
abbrev pub param_faults : (is_exported : Bool) → ParsedParam → List SourceRefusal
param_faults is_exported p = fault_if ((p.is_array || is_exported) && is_varying_spec p.spec) S7 p.at ++ variable_faults p.at p.spec

-- S7 at the name of an exported function with a varying result
abbrev pub result_rate_faults : ParsedFunction → List SourceRefusal
result_rate_faults f = fault_if (f.spec.is_exported && (is_some f.spec.value_type && is_varying_spec f.spec)) S7 f.at

-- the faults of a function's result and parameters
abbrev pub signature_faults : ParsedFunction → List SourceRefusal
signature_faults f = result_rate_faults f ++ flat_map (param_faults f.spec.is_exported) f.params

-- whether a file-scope variable is an array
abbrev pub is_array_form : GlobalForm → Bool
is_array_form (Array n) = true
is_array_form form = false

-- the faults of a file-scope variable
abbrev pub global_faults : ParsedGlobal → List SourceRefusal
global_faults g = array_faults g.at g.spec (is_array_form g.form) ++ variable_faults g.at g.spec

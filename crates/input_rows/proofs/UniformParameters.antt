-- The parameters of an exported function are uniform, and so are arrays of any function.
use Rattle.std.proofs.Common.{ℕ, Bool, true, false, ◌&&◌, ◌||◌, [], ◌≡◌, refl, sym, ◌∙◌, ap, subst, true≢false}
use Rattle.std.specs.Prelude.{Some, slice_get}
use Rattle.std.specs.List.{flat_map}
use Rattle.std.proofs.lemmas.Option.{same_Some}
use Rattle.gang_types.specs.declared.places.Place.{Place}
use Rattle.gang_types.specs.declared.types.Rate.{Rate}
use Rattle.gang_types.specs.declared.types.Rate.TheVariants.{Uniform, Varying}
use Rattle.gang_model.specs.declared.refusals.RefusalNumber.{RefusalNumber}
use Rattle.gang_model.specs.Types.Tree.{Variable, Function, Program}
use Rattle.gang_model.specs.Source.Parsed.{ParsedParam, ParsedFunction, ParsedSource, functions_in}
use Rattle.gang_model.specs.Source.Judged.{fault_if}
use Rattle.gang_model.specs.Types.Conversions.{is_varying}
use Rattle.gang_model.specs.Types.Signatures.{declared_rate}
use Rattle.gang_model.specs.Types.TypeFaults.{is_varying_spec, variable_faults, param_faults, result_rate_faults}
use Rattle.gang_model.specs.Types.Resolved.{program_of}
use Rattle.gang_model.specs.Types.SourceRefusals.{IsAccepted}
use Rattle.gang_model.specs.Texts.InputText.{parameters_of}
use Rattle.input_rows.proofs.Elements.{both_empty, none_given}
use Rattle.input_rows.proofs.EntryParameters.{has_parameters, param_at}

unfaulted : (b : Bool) (number : RefusalNumber) (p : Place) → fault_if b number p ≡ [] → b ≡ false
unfaulted true number p e = cc e
unfaulted false number p e = refl

not_varying : (rate : Rate) → is_varying rate ≡ false → rate ≡ Uniform
not_varying Uniform e = refl
not_varying Varying e = absurd (true≢false e)

and_false : (a b : Bool) → (a && b) ≡ false → a ≡ true → b ≡ false
and_false true b e is = e
and_false false b e is = absurd (true≢false (sym is))

or_last : (a b : Bool) → b ≡ true → (a || b) ≡ true
or_last true b e = refl
or_last false b e = e

param_uniform : (is_exported : Bool) (p : ParsedParam) → param_faults is_exported p ≡ [] → is_exported ≡ true → declared_rate p.spec.rate ≡ Uniform
param_uniform is_exported p e exported =
    let none = (both_empty (fault_if ((p.is_array || is_exported) && is_varying_spec p.spec) _ p.at) (variable_faults p.at p.spec) e).0 in
    not_varying (declared_rate p.spec.rate)
    (and_false (p.is_array || is_exported) (is_varying_spec p.spec) (unfaulted ((p.is_array || is_exported) && is_varying_spec p.spec) _ p.at none) (or_last p.is_array is_exported exported))

-- each parameter of an exported function of an accepted source is uniform
pub exported_uniform : (source : ParsedSource) (p : Program) → IsAccepted source → program_of source ≡ Some p → (n : ℕ) (g : Function) → slice_get p.functions n ≡ Some g
    → (f : ParsedFunction) → slice_get (functions_in source) n ≡ Some f → f.spec.is_exported ≡ true
    → (k : ℕ) (v : Variable) → slice_get (parameters_of (Some g)) k ≡ Some v → v.rate ≡ Uniform
exported_uniform source p accepted made n g at f found exported k v there =
    let has = has_parameters source p accepted made n g at in
    let h = has.function in
    let same : h ≡ f = same_Some h f (sym has.found ∙ found) in
    let param = param_at 0 h.params k v (subst (λ vs. slice_get vs k ≡ Some v) has.parameters there) in
    let none = none_given (param_faults h.spec.is_exported) h.params k param.0 (both_empty (result_rate_faults h) (flat_map (param_faults h.spec.is_exported) h.params) has.signature).1 param.1 in
    ap (λ (w : Variable). w.rate) param.2 ∙ param_uniform h.spec.is_exported param.0 none (ap (λ (x : ParsedFunction). x.spec.is_exported) same ∙ exported)

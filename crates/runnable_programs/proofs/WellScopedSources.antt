-- A spelled source without faults has a well-scoped program.
use Rattle.std.proofs.Common.{ℕ, zero, suc, ◌+◌, ◌≤◌, true≢false, List, [], ◌∷◌, length, ◌≡◌, refl, sym, ◌∙◌, ap, subst, arith}
use Rattle.std.proofs.lemmas.Option.{same_Some, none-some}
use Rattle.std.specs.Prelude.{is_some, map, Option, Some, None, slice_get}
use Rattle.gang_types.specs.declared.places.VarId.TheVariants.{File}
use Rattle.gang_model.specs.declared.refusals.SourceRefusal.{SourceRefusal}
use Rattle.gang_model.specs.Texts.Text.{Bytes}
use Rattle.gang_model.specs.Source.Sources.{IsProgramOf}
use Rattle.gang_model.specs.Source.Limits.{most_variables, limit_refusal}
use Rattle.gang_model.specs.Types.Tree.{Variable, Function, Program}
use Rattle.gang_model.specs.Source.Parsed.{Name, ParsedFunction, ParsedGlobal, ParsedSource, functions_in, globals_in}
use Rattle.gang_model.specs.Types.SourceRefusals.{first_refusal, refusal_of, IsAccepted}
use Rattle.gang_model.specs.Types.Resolved.{global_entry, judged_function, judged_functions, program_of, file_variables}
use Rattle.gang_model.proofs.JudgedLaws.{OnSound, on_pair}
use Rattle.machine_states.specs.Variables.{Variables, own_of}
use Rattle.machine_states.specs.WellScoped.{IsWellScopedFunction, IsWellScopedProgram}
use Rattle.runnable_programs.specs.Sources.{own_variables, source_variables}
use Rattle.runnable_programs.proofs.FewVariables.{few_variables}
use Rattle.runnable_programs.proofs.FewParameters.{HasFewParams, few_params}
use Rattle.runnable_programs.proofs.OwnParameters.{arrays_at}
use Rattle.runnable_programs.proofs.OwnVariables.{own_at, most_of, within_most}
use Rattle.runnable_programs.proofs.WellScopedFunctions.{function_well_scoped}
use Rattle.runnable_programs.proofs.ProgramParts.{program_functions}
use Rattle.runnable_programs.proofs.WellSpelled.{IsWellSpelledSource, well_spelled}

-- ---- file-scope variables

file_number : (first : ℕ) (globals : List ParsedGlobal) (k : ℕ) (v : Variable) → slice_get (file_variables first globals) k ≡ Some v → v.id ≡ File (first + k)
file_number first [] k v e = absurd (none-some v e)
file_number first (g ∷ globals) zero v e = ap (λ x. x.id) (sym (same_Some (global_entry first g).variable v e)) ∙ ap File (omega arith)
file_number first (g ∷ globals) (suc k) v e = file_number (suc first) globals k v e ∙ ap File (omega arith)

-- ---- functions

-- well-scoped functions, the first of which has the number k
abbrev AreWellScoped : Variables → ℕ → List Function → Type 0
AreWellScoped variables k [] = Unit {0}
AreWellScoped variables k (f ∷ functions) = IsWellScopedFunction variables k f × AreWellScoped variables (suc k) functions

well_scoped_at : (variables : Variables) (k : ℕ) (functions : List Function) → AreWellScoped variables k functions
    → (n : ℕ) (f : Function) → slice_get functions n ≡ Some f → IsWellScopedFunction variables (k + n) f
well_scoped_at variables k [] well_scoped n f e = absurd (none-some f e)
well_scoped_at variables k (g ∷ functions) well_scoped zero f e =
    subst (λ n. IsWellScopedFunction variables n f) (omega arith) (subst (IsWellScopedFunction variables k) (same_Some g f e) well_scoped.0)
well_scoped_at variables k (g ∷ functions) well_scoped (suc n) f e =
    subst (λ i. IsWellScopedFunction variables i f) (omega arith) (well_scoped_at variables (suc k) functions well_scoped.1 n f e)

module _ (source : ParsedSource) (spelled : IsWellSpelledSource source) (few : HasFewParams source) where
  functions_well_scoped : (k : ℕ) (later : List ParsedFunction)
      → ((i : ℕ) (f : ParsedFunction) → slice_get later i ≡ Some f → slice_get (functions_in source) (k + i) ≡ Some f)
      → OnSound (judged_functions source later) (AreWellScoped (source_variables source) k)
  functions_well_scoped k [] at = tt
  functions_well_scoped k (f ∷ later) at =
      let variables = source_variables source in
      on_pair (judged_function source f) (judged_functions source later) _ (IsWellScopedFunction variables k) (AreWellScoped variables (suc k)) (AreWellScoped variables k)
      (function_well_scoped source spelled few k f (subst (λ n. slice_get (functions_in source) n ≡ Some f) (omega arith) (at 0 f refl)))
      (functions_well_scoped (suc k) later (λ i g e. subst (λ n. slice_get (functions_in source) n ≡ Some g) (omega arith) (at (suc i) g e)))
      (λ g typed one others. (one, others))

  program_well_scoped : (p : Program) → program_of source ≡ Some p → AreWellScoped (source_variables source) 0 p.functions
  program_well_scoped p =
      program_functions source (AreWellScoped (source_variables source) 0) p
      (functions_well_scoped 0 (functions_in source) (λ i f there. subst (λ n. slice_get (functions_in source) n ≡ Some f) (omega arith) there))

-- ---- the whole source

-- a spelled source without faults of types has a well-scoped program, with any bound on the variables of its functions
pub well_scoped_program : (source : ParsedSource) (most : ℕ) (p : Program) → IsWellSpelledSource source → HasFewParams source
    → ((n : ℕ) → length (own_of (source_variables source) n) ≤ most) → program_of source ≡ Some p → IsWellScopedProgram (source_variables source) most p
well_scoped_program source most p spelled few within made =
    let all = program_well_scoped source spelled few p made in
    record {
      file = λ k v e. file_number 0 (globals_in source) k v e ∙ ap File (omega arith);
      own = own_at source;
      arrays = arrays_at source spelled;
      few = within;
      functions = λ n f e. subst (λ i. IsWellScopedFunction (source_variables source) i f) (omega arith) (well_scoped_at (source_variables source) 0 p.functions all n f e);
    }

-- an accepted source has a well-scoped program
pub well_scoped_source : (source : ParsedSource) → IsWellSpelledSource source → IsAccepted source → HasFewParams source
    → (p : Program) → program_of source ≡ Some p → (most : ℕ) × IsWellScopedProgram (source_variables source) most p
well_scoped_source source spelled accepted few p made =
    let all = map (own_variables source) (functions_in source) in
    (most_of all, well_scoped_program source (most_of all) p spelled few (within_most all) made)

pub no_refusal : (first later : Option SourceRefusal) → first_refusal first later ≡ None → (first ≡ None) × (later ≡ None)
no_refusal None later e = (refl, e)
no_refusal (Some refusal) later e = absurd (true≢false (ap is_some e))

-- the program of an accepted text is well-scoped, and no function of it has more variables than a source may have
pub well_scoped_text : (text : Bytes) (asked : Option Name) (p : Program) (entry : ℕ) (is : IsProgramOf text asked p entry)
    → IsWellScopedProgram (source_variables is.source) most_variables p
well_scoped_text text asked p entry is =
    let source = is.source in
    let reads = is.accepted.reads in
    let limits = (no_refusal (refusal_of source) (limit_refusal source) is.accepted.sound).1 in
    well_scoped_program source most_variables p (well_spelled source reads.tokens reads.tree) (few_params source reads.tokens reads.tree) (few_variables source limits) is.program_is

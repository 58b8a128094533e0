-- The typed program of an accepted text is one that a machine runs.
use Rattle.std.proofs.Common.{ℕ, suc, List, [], ◌∷◌, length, ◌≤◌, ◌≡◌, refl, sym, ◌∙◌, ap, subst, arith}
use Rattle.std.proofs.lemmas.Simd.{map-map}
use Rattle.std.specs.Prelude.{All, get_or, map, Option, Some, slice_get}
use Rattle.gang_model.specs.Texts.Text.{Bytes}
use Rattle.gang_model.specs.Types.Tree as t
use Rattle.gang_model.specs.Types.Tree.{Variable, Standing, Function}
use Rattle.gang_model.specs.Source.Parsed.{Name, ParsedFunction, ParsedGlobal, ParsedSource, functions_in, globals_in}
use Rattle.gang_model.specs.Source.Limits.{most_variables, limit_refusal}
use Rattle.gang_model.specs.Source.Sources.{IsProgramOf}
use Rattle.gang_model.specs.Source.SpellsSource.{max_params}
use Rattle.gang_model.specs.Source.Judged.{unless}
use Rattle.gang_model.specs.Types.TypeFaults.{global_faults}
use Rattle.gang_model.specs.Types.Resolved.{global_of, judged_globals, program_of, file_variables, param_variables}
use Rattle.gang_model.specs.Types.SourceRefusals.{refusal_of}
use Rattle.gang_model.proofs.JudgedLaws.{OnSound, on_pair, on_unless}
use Rattle.gang_model.proofs.VariableLaws.{program_of-right}
use Rattle.mask_states.specs.Points.{closing_number}
use Rattle.mask_states.proofs.AcceptedPrograms.{program_of-lowerable}
use Rattle.machine_states.specs.Variables.{Variables}
use Rattle.machine_states.specs.WellScoped.{IsWellScopedProgram}
use Rattle.machine_states.specs.Declared.{AreDeclaredFirst}
use Rattle.expression_code.proofs.ProgramRoom.{program_of-have_room}
use Rattle.typed_tree.specs.declared.program.Program.{Program}
use Rattle.typed_tree.specs.Views.{variable_view, global_view, program_view}
use Rattle.codegen.specs.Programs as programs
use Rattle.codegen.specs.Programs.{variables_of, IsRunnable}
use Rattle.runnable_programs.specs.Sources.{source_variables, HasVariablesOf, IsOwnName}
use Rattle.runnable_programs.proofs.DeclaredSources.{declared_text}
use Rattle.machine_states.proofs.Elements.{each_get}
use Rattle.runnable_programs.proofs.EntryFunctions.{entry_exported, typed_function}
use Rattle.runnable_programs.proofs.FewParameters.{few_params}
use Rattle.runnable_programs.proofs.OwnParameters.{parameters_among, all_parameters_counted}
use Rattle.runnable_programs.proofs.OwnVariables.{parameters_first}
use Rattle.runnable_programs.proofs.WellScopedSources.{no_refusal, well_scoped_text}
use Rattle.runnable_programs.proofs.ScopedTrees.{AreParameters}
use Rattle.runnable_programs.proofs.ProgramParts.{program_globals}
use Rattle.runnable_programs.proofs.WellSpelled.{IsWellSpelledSource, well_spelled}

-- ---- variables

-- the file-scope variables of typed globals
abbrev HasFileVariables : ℕ → List ParsedGlobal → List t.Global → Type 0
HasFileVariables k globals made = map (λ g. g.variable) made ≡ file_variables k globals

file_made : (k : ℕ) (globals : List ParsedGlobal) → OnSound (judged_globals k globals) (HasFileVariables k globals)
file_made k [] = refl
file_made k (g ∷ globals) =
    on_pair (unless (global_faults g) (global_of k g)) (judged_globals (suc k) globals) _
    (λ made. made ≡ global_of k g) (HasFileVariables (suc k) globals) (HasFileVariables k (g ∷ globals))
    (on_unless (global_faults g) (global_of k g) (λ made. made ≡ global_of k g) refl) (file_made (suc k) globals)
    (λ made later one others.
    ap (λ (x : t.Global). x.variable ∷ map (λ y. y.variable) later) one ∙ ap (λ variables. (global_of k g).variable ∷ variables) others)

file_alike : (source : ParsedSource) (program : Program) → program_of source ≡ Some (program_view program)
    → map (λ g. variable_view g.variable) program.globals.items ≡ file_variables 0 (globals_in source)
file_alike source program made =
    sym (map-map (λ (g : t.Global). g.variable) global_view program.globals.items)
    ∙ program_globals source (HasFileVariables 0 (globals_in source)) (program_view program) (file_made 0 (globals_in source)) made

parameters_alike : (source : ParsedSource) (program : Program) → IsWellSpelledSource source → HasVariablesOf source program
    → map (λ f. parameters_among (programs.own_variables f)) program.functions.items ≡ map (λ f. length f.params) (functions_in source)
parameters_alike source program spelled own =
    sym (map-map parameters_among programs.own_variables program.functions.items)
    ∙ (ap (map parameters_among) own ∙ all_parameters_counted source (functions_in source) spelled)

-- the variables with these parts
abbrev parts : List Variable → List (List Variable) → List ℕ → Variables
parts file own parameters = record { file = file; own = own; parameters = parameters }

same_parts : {file file' : List Variable} {own own' : List (List Variable)} {parameters parameters' : List ℕ} → file ≡ file' → own ≡ own' → parameters ≡ parameters'
    → parts file own parameters ≡ parts file' own' parameters'
same_parts {file} {file'} {own} {own'} {parameters} {parameters'} same_file same_own same_parameters =
    ap (λ x. parts x own parameters) same_file ∙ (ap (λ x. parts file' x parameters) same_own ∙ ap (parts file' own') same_parameters)

-- the variables of a typed program are those of its source
pub variables_alike : (source : ParsedSource) (program : Program) → IsWellSpelledSource source → HasVariablesOf source program
    → program_of source ≡ Some (program_view program) → variables_of program ≡ source_variables source
variables_alike source program spelled own made = same_parts (file_alike source program made) own (parameters_alike source program spelled own)

-- ---- names in scope

-- each function of a program that a machine runs has a standing for each step, and one for its closing brace
pub standings_runnable : (program : Program) → IsRunnable program
    → (n : ℕ) (f : Function) → slice_get (program_view program).functions n ≡ Some f → length f.standings ≡ suc (closing_number f)
standings_runnable program runs n f e = (runs.lowerable.functions n f e).standings ∙ omega arith

-- the names in scope at a step are variables of the function, by their numbers
pub scopes_runnable : (program : Program) → IsRunnable program
    → (n : ℕ) (f : Function) → slice_get (program_view program).functions n ≡ Some f
    → (number : ℕ) (there : Standing) → slice_get f.standings number ≡ Some there → All (IsOwnName (variables_of program) n) there.scope
scopes_runnable program runs n f e number there at = λ k d within.
    let name = (runs.well_scoped.functions n f e).scopes number there at k d within in
    (name.0, name.1, runs.well_scoped.own n name.0 (get_or there.scope k d) name.1)

-- ---- accepted texts

module _ (text : Bytes) (asked : Option Name) (entry : ℕ) (program : Program) (is : IsProgramOf text asked (program_view program) entry) where
  -- the entry is one of the program's functions
  pub entry_text : (f : Function) × (slice_get (program_view program).functions entry ≡ Some f)
  entry_text =
      let exported = entry_exported is.source asked entry is.entry_is in
      typed_function is.source (functions_in is.source) (program_view program).functions (program_of-right is.source (program_view program) is.program_is) entry exported.function exported.found

  module _ (own : HasVariablesOf is.source program) where
    alike : variables_of program ≡ source_variables is.source
    alike =
        let reads = is.accepted.reads in
        variables_alike is.source program (well_spelled is.source reads.tokens reads.tree) own is.program_is

    -- the typed program of an accepted text is one that a machine runs
    pub runnable_text : IsRunnable program
    runnable_text =
        let reads = is.accepted.reads in
        record {
          most = most_variables;
          well_scoped = subst (λ variables. IsWellScopedProgram variables most_variables (program_view program)) (sym alike) (well_scoped_text text asked (program_view program) entry is);
          declared = subst (λ variables. AreDeclaredFirst variables (program_view program)) (sym alike) (declared_text text asked (program_view program) entry is);
          lowerable = program_of-lowerable is.source (program_view program) (no_refusal (refusal_of is.source) (limit_refusal is.source) is.accepted.sound).0 is.program_is;
          room = program_of-have_room is.source reads.tokens (program_view program) reads.tree is.program_is;
        }

    -- the parameters of each function are its first variables, by their numbers
    pub parameters_text : (n : ℕ) (f : ParsedFunction) → slice_get (functions_in is.source) n ≡ Some f
        → AreParameters (variables_of program) n (param_variables 0 f.params)
    parameters_text n f at =
        let reads = is.accepted.reads in
        let few = each_get (λ g. length g.params ≤ max_params) (functions_in is.source) n f (few_params is.source reads.tokens reads.tree) at in
        subst (λ variables. AreParameters variables n (param_variables 0 f.params)) (sym alike) (parameters_first is.source n f at few)

    pub standings_text : (n : ℕ) (f : Function) → slice_get (program_view program).functions n ≡ Some f → length f.standings ≡ suc (closing_number f)
    standings_text = standings_runnable program runnable_text

    pub scopes_text : (n : ℕ) (f : Function) → slice_get (program_view program).functions n ≡ Some f
        → (number : ℕ) (there : Standing) → slice_get f.standings number ≡ Some there → All (IsOwnName (variables_of program) n) there.scope
    scopes_text = scopes_runnable program runnable_text

-- The typed tree of an accepted source is one that numbers stand for: its steps are numbered in running order, its control
-- statements stand where they may, it has a standing for each step, and its calls name its functions.
use Rattle.std.proofs.Common.{true≢false, ℕ, zero, suc, ◌+◌, List, [], ◌∷◌, ◌≡◌, refl, sym, ◌∙◌, ap, subst, length}
use Rattle.std.specs.Prelude.{is_some, Some, slice_get}
use Rattle.gang_model.specs.Types.Tree.{Standing, Function, Program}
use Rattle.gang_model.specs.Types.WellPlaced.{StmtPlaced, FunctionsPlaced}
use Rattle.gang_model.specs.Names.NameFaults.{in_function}
use Rattle.gang_model.specs.Source.Parsed.{Name, ParsedFunction, ParsedSource, functions_in, globals_in}
use Rattle.gang_model.specs.Names.Scope.{file_scope}
use Rattle.gang_model.specs.Source.Judged.{unless}
use Rattle.gang_model.specs.Types.Signatures.{result_of}
use Rattle.gang_model.specs.Types.Calls.{Context}
use Rattle.gang_model.specs.Types.TypeFaults.{signature_faults}
use Rattle.gang_model.specs.Types.Statements.{statements}
use Rattle.gang_model.specs.Types.Resolved.{param_entries, global_entries, judged_globals, judged_function, judged_functions, judged_program, program_of}
use Rattle.gang_model.specs.Types.SourceRefusals.{IsAccepted}
use Rattle.gang_model.proofs.JudgedLaws.{OnSound, on_any, on_pair}
use Rattle.gang_model.proofs.ScopeLaws.{standings_of-length}
use Rattle.gang_model.proofs.VariableLaws.{names_of_standings, FunctionRight, FunctionsRight, program_of-right, program_of-numbered, on_some}
use Rattle.gang_model.proofs.PlacedPrograms.{function_names_of, program_of-placed}
use Rattle.mask_states.specs.Points.{closing_number}
use Rattle.mask_states.specs.Stands.{IsWhole, AreLowerable}
use Rattle.mask_states.proofs.WholeStmts.{MadeWhole, statements_whole}
use Rattle.mask_states.proofs.CalledFunctions.{program_of-calls}
use Rattle.std.proofs.lemmas.Option.{same_Some}

-- ---- no segment outside of a switch

-- the functions of a list have segments in their switches alone
abbrev AreWhole : List Function → Type 0
AreWhole [] = Unit {0}
AreWhole (f ∷ functions) = IsWhole f.body × AreWhole functions

function_whole : (source : ParsedSource) (f : ParsedFunction) → OnSound (judged_function source f) (λ g. IsWhole g.body)
function_whole source f =
    let context : Context = record { functions = functions_in source; result = result_of f.spec } in
    let scope = param_entries 0 f.params (global_entries 0 (globals_in source)) in
    on_pair (unless (signature_faults f) f) (statements f.body context scope (length f.params) 0) _ (λ g. Unit {0}) MadeWhole (λ g. IsWhole g.body) (on_any (unless (signature_faults f) f))
    (statements_whole f.body context scope (length f.params) 0) (λ g m _ h. h)

functions_whole : (source : ParsedSource) (functions : List ParsedFunction) → OnSound (judged_functions source functions) AreWhole
functions_whole source [] = tt
functions_whole source (f ∷ functions) =
    on_pair (judged_function source f) (judged_functions source functions) _ (λ g. IsWhole g.body) AreWhole AreWhole
    (function_whole source f) (functions_whole source functions) (λ g typed h l. (h, l))

whole_at : (functions : List Function) → AreWhole functions → (n : ℕ) (f : Function) → slice_get functions n ≡ Some f → IsWhole f.body
whole_at [] h n f e = absurd (true≢false (sym (ap is_some e)))
whole_at (g ∷ functions) h zero f e = subst (λ x. IsWhole x.body) (same_Some g f e) h.0
whole_at (g ∷ functions) h (suc n) f e = whole_at functions h.1 n f e

-- in the typed tree of a source without faults of types no segment stands outside of a switch
pub program_of-whole : (source : ParsedSource) (p : Program) → program_of source ≡ Some p → (n : ℕ) (f : Function) → slice_get p.functions n ≡ Some f → IsWhole f.body
program_of-whole source p e =
    whole_at p.functions
    (on_some (judged_program source) (λ q. AreWhole q.functions) p
    (on_pair (judged_globals 0 (globals_in source)) (judged_functions source (functions_in source)) _ (λ g. Unit {0}) AreWhole (λ q. AreWhole q.functions)
    (on_any (judged_globals 0 (globals_in source))) (functions_whole source (functions_in source)) (λ g typed _ h. h)) e)

-- ---- control statements where they may stand

placed_at : (names : List Name) (functions : List Function) → FunctionsPlaced names functions
    → (n : ℕ) (f : Function) → slice_get functions n ≡ Some f → StmtPlaced (in_function names) f.body
placed_at names [] h n f e = absurd (true≢false (sym (ap is_some e)))
placed_at names (g ∷ functions) h zero f e = subst (λ x. StmtPlaced (in_function names) x.body) (same_Some g f e) h.0
placed_at names (g ∷ functions) h (suc n) f e = placed_at names functions h.1 n f e

-- ---- standings

-- each standing has its place and names
names-length : (standings : List Standing) → length (names_of_standings standings) ≡ length standings
names-length [] = refl
names-length (s ∷ standings) = ap suc (names-length standings)

function_standings : (source : ParsedSource) (f : ParsedFunction) (g : Function) → FunctionRight source f g → length g.standings ≡ closing_number g + 1
function_standings source f g right =
    sym (names-length g.standings) ∙ (ap length right.2 ∙ (standings_of-length (file_scope source) f ∙ ap (λ k. k + 1) (sym right.0)))

standings_at : (source : ParsedSource) (functions : List ParsedFunction) (typed : List Function) → FunctionsRight source functions typed
    → (n : ℕ) (g : Function) → slice_get typed n ≡ Some g → length g.standings ≡ closing_number g + 1
standings_at source [] [] right n g e = absurd (true≢false (sym (ap is_some e)))
standings_at source [] (h ∷ typed) right n g e = absurd right
standings_at source (f ∷ functions) [] right n g e = absurd right
standings_at source (f ∷ functions) (h ∷ typed) right zero g e =
    subst (λ x. length x.standings ≡ closing_number x + 1) (same_Some h g e) (function_standings source f h right.0)
standings_at source (f ∷ functions) (h ∷ typed) right (suc n) g e = standings_at source functions typed right.1 n g e

-- in the typed tree of a source without faults of types a function has a standing for each step and for its closing brace
pub program_of-standings : (source : ParsedSource) (p : Program) → program_of source ≡ Some p
    → (n : ℕ) (f : Function) → slice_get p.functions n ≡ Some f → length f.standings ≡ closing_number f + 1
program_of-standings source p e = standings_at source (functions_in source) p.functions (program_of-right source p e)

-- ---- all of it

-- numbers stand for tasks in the typed tree of an accepted source
pub program_of-lowerable : (source : ParsedSource) (p : Program) → IsAccepted source → program_of source ≡ Some p → AreLowerable p
program_of-lowerable source p accepted e = record {
  numbered = program_of-numbered source p e;
  functions = λ n f is. record {
    names = function_names_of source;
    placed = placed_at (function_names_of source) p.functions (program_of-placed source p accepted e) n f is;
    whole = program_of-whole source p e n f is;
    standings = program_of-standings source p e n f is;
  };
  calls = program_of-calls source p e;
}

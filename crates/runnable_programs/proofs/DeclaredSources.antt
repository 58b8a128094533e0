-- The program of a spelled source names nothing before it is declared.
use Rattle.std.proofs.Common.{ℕ, zero, suc, List, [], ◌∷◌, ◌++◌, length, ◌≡◌, refl, sym, ◌∙◌, ap, subst}
use Rattle.std.proofs.lemmas.Option.{same_Some, none-some}
use Rattle.std.proofs.lemmas.List.Elements.{All-nil, All-cons, All-head, All-tail}
use Rattle.std.specs.Prelude.{All, Option, Some, slice_get, slice_index_or}
use Rattle.gang_types.specs.declared.places.VarId.TheVariants.{Local}
use Rattle.gang_model.specs.Types.Tree.{Variable, Standing, Function, Program}
use Rattle.gang_model.specs.Source.Parsed.{Name, ParsedFunction, ParsedSource, functions_in}
use Rattle.gang_model.specs.Source.Sources.{IsProgramOf}
use Rattle.gang_model.specs.Texts.Text.{Bytes}
use Rattle.gang_model.specs.Types.SourceRefusals.{IsAccepted}
use Rattle.gang_model.specs.Names.Bindings.{variable_bindings}
use Rattle.gang_model.specs.Names.Scope.{NameStanding, standing, after_all, standings_in_all, before_return}
use Rattle.gang_model.proofs.JudgedLaws.{OnSound, on_pair}
use Rattle.gang_model.proofs.StandingLaws.{Each}
use Rattle.gang_model.proofs.VariableLaws.{names_of_standings, FunctionRight, FunctionsRight, program_of-right}
use Rattle.gang_model.specs.Types.Resolved.{judged_function, judged_functions, program_of}
use Rattle.machine_states.specs.Variables.{is_array_of, own_of, parameters_of}
use Rattle.machine_states.specs.Declared.{IsThere, declared_before_return, DeclaresFirst, declared_at, scalars_below, scalar_parameters, declared_at_end, declared_before, IsDeclaredName, IsDeclaredFirst, AreDeclaredFirst}
use Rattle.runnable_programs.specs.Sources.{own_variables, source_variables}
use Rattle.runnable_programs.proofs.DeclaredScalars.{first_numbers, IsNear, first_near, near_more, at_near, near_at}
use Rattle.runnable_programs.proofs.OwnNames.{IsOneOf}
use Rattle.runnable_programs.proofs.OwnVariables.{own_is, own_at, parameters_at}
use Rattle.runnable_programs.proofs.ProgramParts.{program_functions}
use Rattle.runnable_programs.proofs.ThereNames.{NamesThere, there_listed, AreListed}
use Rattle.runnable_programs.proofs.DeclaredFunctions.{body_site, IsFirstFunction, function_first}
use Rattle.runnable_programs.proofs.WellSpelled.{HasWellSpelledBody, IsWellSpelledSource, well_spelled}

-- ---- standings

-- at each step what is listed is declared before, and so it is at the closing brace after the last one
listed_at : (before : List (List ℕ)) (end : List ℕ) (standings : List NameStanding) (closing : NameStanding) → AreListed before standings → NamesThere end closing.names
    → (number : ℕ) (there : NameStanding) → slice_get (standings ++ closing ∷ []) number ≡ Some there → NamesThere (slice_index_or before number end) there.names
listed_at [] end [] closing p q zero there e = subst (λ s. NamesThere end s.names) (same_Some closing there e) q
listed_at [] end [] closing p q (suc number) there e = absurd (none-some there e)
listed_at [] end (other ∷ standings) closing p q number there e = absurd p
listed_at (x ∷ before) end [] closing p q number there e = absurd p
listed_at (x ∷ before) end (other ∷ standings) closing p q zero there e = subst (λ s. NamesThere x s.names) (same_Some other there e) p.0
listed_at (x ∷ before) end (other ∷ standings) closing p q (suc number) there e = listed_at before end standings closing p.1 q number there e

-- the names of a standing
named_at : (standings : List Standing) (number : ℕ) (there : Standing) → slice_get standings number ≡ Some there
    → slice_get (names_of_standings standings) number ≡ Some (record { place = there.place; names = variable_bindings there.scope })
named_at [] number there e = absurd (none-some there e)
named_at (s ∷ standings) zero there e = ap (λ (x : Standing). Some (record { place = x.place; names = variable_bindings x.scope })) (same_Some s there e)
named_at (s ∷ standings) (suc number) there e = named_at standings number there e

-- the scalars in scope are declared, where the names in scope are
all_declared : (own : List Variable) → ((k : ℕ) (v : Variable) → slice_get own k ≡ Some v → v.id ≡ Local k)
    → (d there : List ℕ) → IsNear own d there → (scope : List Variable) → NamesThere d (variable_bindings scope) → All (IsOneOf own) scope → All (IsDeclaredName there) scope
all_declared own numbered d there near [] names among = All-nil (IsDeclaredName there)
all_declared own numbered d there near (v ∷ scope) names among =
    let one = All-head (IsOneOf own) v scope among in
    let id = numbered one.0 v one.1 in
    All-cons (IsDeclaredName there) v scope
    (λ scalar. subst (IsThere there) (sym id) (near one.0 (subst (IsThere d) id names.0) (ap is_array_of one.1 ∙ scalar)))
    (all_declared own numbered d there near scope names.1 (All-tail (IsOneOf own) v scope among))

-- ---- functions

declared_function : (source : ParsedSource) (n : ℕ) (f : ParsedFunction) (g : Function) → slice_get (functions_in source) n ≡ Some f
    → FunctionRight source f g → IsFirstFunction source f (own_variables source f) g → IsDeclaredFirst (source_variables source) n g
declared_function source n f g at right first =
    let variables = source_variables source in
    let own = own_of variables n in
    let count = parameters_of variables n in
    let same : scalars_below (own_variables source f) (length f.params) ≡ scalar_parameters variables n =
    ap (λ vs. scalars_below vs (length f.params)) (sym (own_is source n f at)) ∙ ap (scalars_below own) (sym (parameters_at source n f at)) in
    record {
      body = subst (λ d. DeclaresFirst d g.body) same first.first;
      scopes = λ number there e.
          let closing = standing f.closing (after_all (before_return f.body) (body_site source f)) in
          let named = ap (λ names. slice_get names number) (sym right.2) ∙ named_at g.standings number there e in
          let firsts = first_numbers (length f.params) in
          let listed = listed_at (declared_at firsts g.body) (declared_before_return g.body ++ firsts)
          (standings_in_all f.body (body_site source f)) closing first.lists
          (there_listed (declared_before_return g.body ++ firsts) (after_all (before_return f.body) (body_site source f)).environment first.closing) number _ named in
          let near : IsNear own firsts (scalar_parameters variables n) =
          subst (λ m. IsNear own (first_numbers m) (scalar_parameters variables n)) (parameters_at source n f at) (first_near own count) in
          all_declared own (own_at source n) (slice_index_or (declared_at firsts g.body) number (declared_before_return g.body ++ firsts)) (declared_before variables n g number)
          (near_at own (declared_at firsts g.body) (declared_at (scalar_parameters variables n) g.body) (declared_before_return g.body ++ firsts) (declared_at_end variables n g)
          (at_near own g.body firsts (scalar_parameters variables n) near)
          (near_more own (declared_before_return g.body) firsts (scalar_parameters variables n) near) number)
          there.scope listed (subst (λ vs. All (IsOneOf vs) there.scope) (sym (own_is source n f at)) (first.scopes number there e));
    }

-- the functions of the typed tree, each for its own in the tree as written
abbrev AreFirst : ParsedSource → List ParsedFunction → List Function → Type 0
AreFirst source [] [] = Unit {0}
AreFirst source [] (g ∷ typed) = ⊥
AreFirst source (f ∷ functions) [] = ⊥
AreFirst source (f ∷ functions) (g ∷ typed) = IsFirstFunction source f (own_variables source f) g × AreFirst source functions typed

functions_first : (source : ParsedSource) (functions : List ParsedFunction) → Each HasWellSpelledBody functions
    → OnSound (judged_functions source functions) (AreFirst source functions)
functions_first source [] spelled = tt
functions_first source (f ∷ functions) spelled =
    on_pair (judged_function source f) (judged_functions source functions) _ (IsFirstFunction source f (own_variables source f)) (AreFirst source functions) (AreFirst source (f ∷ functions))
    (function_first source f spelled.0) (functions_first source functions spelled.1) (λ g typed one others. (one, others))

-- a function of the typed tree has its own in the tree as written
pub record IsOwnFunction (source : ParsedSource) (functions : List ParsedFunction) (n : ℕ) (g : Function) : Type 0 where
  pub function : ParsedFunction
  pub found : slice_get functions n ≡ Some function
  pub right : FunctionRight source function g
  pub first : IsFirstFunction source function (own_variables source function) g

own_function : (source : ParsedSource) (functions : List ParsedFunction) (typed : List Function) → FunctionsRight source functions typed → AreFirst source functions typed
    → (n : ℕ) (g : Function) → slice_get typed n ≡ Some g → IsOwnFunction source functions n g
own_function source [] [] right first n g e = absurd (none-some g e)
own_function source [] (h ∷ typed) right first n g e = absurd right
own_function source (f ∷ functions) [] right first n g e = absurd right
own_function source (f ∷ functions) (h ∷ typed) right first zero g e = record {
  function = f;
  found = refl;
  right = subst (FunctionRight source f) (same_Some h g e) right.0;
  first = subst (IsFirstFunction source f (own_variables source f)) (same_Some h g e) first.0;
}
own_function source (f ∷ functions) (h ∷ typed) right first (suc n) g e =
    let later = own_function source functions typed right.1 first.1 n g e in
    record { function = later.function; found = later.found; right = later.right; first = later.first }

-- ---- the whole source

-- a spelled source without faults of types names nothing before it is declared
pub declared_program : (source : ParsedSource) (p : Program) → IsWellSpelledSource source → program_of source ≡ Some p
    → AreDeclaredFirst (source_variables source) p
declared_program source p spelled made n g e =
    let first = program_functions source (AreFirst source (functions_in source)) p (functions_first source (functions_in source) spelled) made in
    let own = own_function source (functions_in source) p.functions (program_of-right source p made) first n g e in
    declared_function source n own.function g own.found own.right own.first

-- an accepted source names nothing before it is declared
pub declared_source : (source : ParsedSource) → IsAccepted source → IsWellSpelledSource source
    → (p : Program) → program_of source ≡ Some p → AreDeclaredFirst (source_variables source) p
declared_source source accepted spelled p made = declared_program source p spelled made

-- the same of the program of an accepted text
pub declared_text : (text : Bytes) (asked : Option Name) (p : Program) (entry : ℕ) (is : IsProgramOf text asked p entry)
    → AreDeclaredFirst (source_variables is.source) p
declared_text text asked p entry is =
    let reads = is.accepted.reads in
    declared_program is.source p (well_spelled is.source reads.tokens reads.tree) is.program_is

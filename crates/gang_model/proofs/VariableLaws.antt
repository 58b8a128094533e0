-- What follows for the variables of a function: they are numbered in the order of the source, and what is in scope at a step of
-- the typed tree is what `Scope` lists there.
use Rattle.std.proofs.Common.{true≢false, ℕ, zero, suc, ◌+◌, Bool, true, false, List, [], ◌∷◌, ◌++◌, ◌≡◌, refl, sym, ◌∙◌, ap, subst, arith, length, length-append}
use Rattle.std.specs.Prelude.{is_some, map, Some, slice_get, slice_index_or, if◌then◌else◌}
use Rattle.std.proofs.lemmas.Option.{same_Some}
use Rattle.gang_types.specs.declared.places.VarId.{VarId}
use Rattle.gang_types.specs.declared.places.VarId.TheVariants.{File, Local}
use Rattle.gang_model.specs.Types.Tree.{Variable, Standing, Function, Program}
use Rattle.gang_model.specs.Source.Parsed.{ParsedDim, ParsedStmt, ParsedEmpty, ParsedBlock, ParsedDeclare, ParsedAssign, ParsedChange, ParsedIncrement, ParsedDoCall, ParsedBreak, ParsedContinue, ParsedReturn, ParsedIf, ParsedIfElse, ParsedWhile, ParsedDo, ParsedFor, ParsedSwitch, ParsedForEach, ParsedForEachActive, ParsedForEachUnique, ParsedStmts, ParsedLast, ParsedNext, ParsedSegments, ParsedNoMore, ParsedSegment, ParsedParam, ParsedFunction, ParsedGlobal, ParsedSource, functions_in, globals_in}
use Rattle.gang_model.specs.Source.Judged.{Judged, Sound, Faulty, sound_part, unless}
use Rattle.gang_model.proofs.JudgedLaws.{OnSound, on_any, on_pair}
use Rattle.gang_model.specs.Running.Step.{steps_of}
use Rattle.gang_model.specs.Running.RunningOrder.{IsNumbered, IsNumberedProgram}
use Rattle.gang_model.specs.Running.Numbering.{steps_in_all}
use Rattle.gang_model.specs.Names.Bindings.{dim_bindings, bindings_in, bindings_in_all, bindings_in_segments, variable_bindings, param_bindings, function_bindings}
use Rattle.gang_model.specs.Names.Scope.{Binding, bound, is_local, Site, with_name, with_params, locals_in, locals_in_all, locals_in_segments, after, after_all, NameStanding, standing, standings_in_all, has_return, before_return, function_site, standings_of, file_bindings, file_scope}
use Rattle.gang_model.proofs.ScopeLaws.{after-next}
use Rattle.gang_model.proofs.NumberLaws.{two_parts, Faithful, statements_faithful}
use Rattle.gang_model.proofs.StandingLaws.{Each, each_join, each_left, each_right, Placed, Found, AllFound, after_placed, moved_all, found_listed, standings_found_all}
use Rattle.gang_model.specs.Types.Signatures.{result_of}
use Rattle.gang_model.specs.Types.Calls.{Context}
use Rattle.gang_model.specs.Types.TypeFaults.{signature_faults}
use Rattle.gang_model.specs.Types.Statements.{statements}
use Rattle.gang_model.specs.Types.Resolved.{local_at, no_variable, standing_with, param_variables, param_entries, global_entries, judged_globals, judged_function, judged_functions, judged_program, program_of}

-- ---- numbers

-- the declarations of local variables with the numbers from k on
abbrev pub Consecutive : ℕ → List Binding → Type 0
Consecutive k [] = Unit {0}
Consecutive k (b ∷ bindings) = (b.id ≡ Local k) × Consecutive (suc k) bindings

-- so many declarations with the numbers from k on
abbrev pub Numbers : (n k : ℕ) → List Binding → Type 0
Numbers n k bindings = (length bindings ≡ n) × Consecutive k bindings

consecutive_join : (k n : ℕ) (xs ys : List Binding) → length xs ≡ n → Consecutive k xs → Consecutive (k + n) ys → Consecutive k (xs ++ ys)
consecutive_join k n [] ys e p q = subst (λ m. Consecutive m ys) (omega (arith, e)) q
consecutive_join k n (x ∷ xs) ys e p q =
    (p.0, consecutive_join (suc k) (length xs) xs ys refl p.1 (subst (λ m. Consecutive m ys) (omega (arith, e)) q))

numbers_join : (m n k : ℕ) (xs ys : List Binding) → Numbers m k xs → Numbers n (k + m) ys → Numbers (m + n) k (xs ++ ys)
numbers_join m n k xs ys p q = (length-append xs ys ∙ omega (arith, p.0, q.0), consecutive_join k m xs ys p.0 p.1 q.1)

dims_numbers : (dims : List ParsedDim) (k : ℕ) → Numbers (length dims) k (dim_bindings k dims)
dims_numbers [] k = (refl, tt)
dims_numbers (d ∷ dims) k = (ap suc (dims_numbers dims (suc k)).0, (refl, (dims_numbers dims (suc k)).1))

one_more : (n k : ℕ) (b : Binding) (bindings : List Binding) → b.id ≡ Local k → Numbers n (suc k) bindings → Numbers (1 + n) k (b ∷ bindings)
one_more n k b bindings e p = (omega (arith, p.0), (e, p.1))

mutual
  -- a statement's variables have the numbers from k on
  pub bindings_numbers : (s : ParsedStmt) (k : ℕ) → Numbers (locals_in s) k (bindings_in s k)
  bindings_numbers ParsedEmpty k = (refl, tt)
  bindings_numbers (ParsedBlock ss) k = bindings_numbers_all ss k
  bindings_numbers (ParsedDeclare at spec place name e) k = (refl, (refl, tt))
  bindings_numbers (ParsedAssign at target e) k = (refl, tt)
  bindings_numbers (ParsedChange at target op e) k = (refl, tt)
  bindings_numbers (ParsedIncrement at target op) k = (refl, tt)
  bindings_numbers (ParsedDoCall at name args) k = (refl, tt)
  bindings_numbers (ParsedBreak at) k = (refl, tt)
  bindings_numbers (ParsedContinue at) k = (refl, tt)
  bindings_numbers (ParsedReturn at e) k = (refl, tt)
  bindings_numbers (ParsedIf at e a) k = bindings_numbers a k
  bindings_numbers (ParsedIfElse at e a b) k =
      numbers_join (locals_in a) (locals_in b) k (bindings_in a k) (bindings_in b (k + locals_in a)) (bindings_numbers a k) (bindings_numbers b (k + locals_in a))
  bindings_numbers (ParsedWhile at e body) k = bindings_numbers body k
  bindings_numbers (ParsedDo body at e) k = bindings_numbers body k
  bindings_numbers (ParsedFor at start e update body) k =
      let k' = k + locals_in start in
      let later = numbers_join (locals_in update) (locals_in body) k' (bindings_in update k') (bindings_in body (k' + locals_in update))
      (bindings_numbers update k') (bindings_numbers body (k' + locals_in update)) in
      let all = numbers_join (locals_in start) (locals_in update + locals_in body) k (bindings_in start k) (bindings_in update k' ++ bindings_in body (k' + locals_in update))
      (bindings_numbers start k) later in
      (omega (arith, all.0), all.1)
  bindings_numbers (ParsedSwitch at e segments) k = bindings_numbers_segments segments k
  bindings_numbers (ParsedForEach at is_tiled dims body) k =
      numbers_join (length dims) (locals_in body) k (dim_bindings k dims) (bindings_in body (k + length dims)) (dims_numbers dims k) (bindings_numbers body (k + length dims))
  bindings_numbers (ParsedForEachActive at place name body) k = one_more (locals_in body) k (bound name (Local k)) (bindings_in body (suc k)) refl (bindings_numbers body (suc k))
  bindings_numbers (ParsedForEachUnique at place name e body) k = one_more (locals_in body) k (bound name (Local k)) (bindings_in body (suc k)) refl (bindings_numbers body (suc k))

  pub bindings_numbers_all : (ss : ParsedStmts) (k : ℕ) → Numbers (locals_in_all ss) k (bindings_in_all ss k)
  bindings_numbers_all ParsedLast k = (refl, tt)
  bindings_numbers_all (ParsedNext s ss) k =
      numbers_join (locals_in s) (locals_in_all ss) k (bindings_in s k) (bindings_in_all ss (k + locals_in s)) (bindings_numbers s k) (bindings_numbers_all ss (k + locals_in s))

  pub bindings_numbers_segments : (segments : ParsedSegments) (k : ℕ) → Numbers (locals_in_segments segments) k (bindings_in_segments segments k)
  bindings_numbers_segments ParsedNoMore k = (refl, tt)
  bindings_numbers_segments (ParsedSegment at label ss rest) k =
      numbers_join (locals_in_all ss) (locals_in_segments rest) k (bindings_in_all ss k) (bindings_in_segments rest (k + locals_in_all ss))
      (bindings_numbers_all ss k) (bindings_numbers_segments rest (k + locals_in_all ss))

-- ---- a function's variables

params_numbers : (params : List ParsedParam) (k : ℕ) → Numbers (length params) k (param_bindings k params)
params_numbers [] k = (refl, tt)
params_numbers (p ∷ params) k = (ap suc (params_numbers params (suc k)).0, (refl, (params_numbers params (suc k)).1))

pub function_numbers : (f : ParsedFunction) → Consecutive 0 (function_bindings f)
function_numbers f =
    consecutive_join 0 (length f.params) (param_bindings 0 f.params) (bindings_in_all f.body (length f.params)) (params_numbers f.params 0).0 (params_numbers f.params 0).1
    (subst (λ m. Consecutive m (bindings_in_all f.body (length f.params))) (omega arith) (bindings_numbers_all f.body (length f.params)).1)

-- the number of a variable in its list
abbrev pub number_in : VarId → ℕ
number_in (File k) = k
number_in (Local k) = k

-- declarations with the numbers from k on have their places in a table in which they stand from k on
consecutive_placed : (table : List Binding) (k : ℕ) (bindings : List Binding) → Consecutive k bindings
    → ((i : ℕ) (b : Binding) → slice_get bindings i ≡ Some b → slice_get table (k + i) ≡ Some b) → Each (Placed table) bindings
consecutive_placed table k [] p at = tt
consecutive_placed table k (b ∷ bindings) p at = (
  λ j e. let same : k ≡ j = ap number_in (sym p.0 ∙ e) in subst (λ n. slice_get table n ≡ Some b) (omega (arith, same)) (at 0 b refl),
  consecutive_placed table (suc k) bindings p.1 (λ i c h. subst (λ n. slice_get table n ≡ Some c) (omega arith) (at (suc i) c h)),
)

-- a function's declarations have their places in the list of them
function_placed : (f : ParsedFunction) → Each (Placed (function_bindings f)) (function_bindings f)
function_placed f = consecutive_placed (function_bindings f) 0 (function_bindings f) (function_numbers f) (λ i b h. subst (λ n. slice_get (function_bindings f) n ≡ Some b) (omega arith) h)

-- ---- a function's steps

file_placed : (table : List Binding) (k : ℕ) (globals : List ParsedGlobal) → Each (Placed table) (file_bindings k globals)
file_placed table k [] = tt
file_placed table k (g ∷ globals) = (λ j e. absurd (true≢false (sym (ap is_local e))), file_placed table (suc k) globals)

params_placed : (table : List Binding) (params : List ParsedParam) (site : Site) → Each (Placed table) (param_bindings site.next params) → Each (Placed table) site.environment
    → Each (Placed table) (with_params params site).environment
params_placed table [] site p q = q
params_placed table (d ∷ params) site p q = params_placed table params (with_name d.name site) p.1 (p.0, q)

with_params-next : (params : List ParsedParam) (site : Site) → (with_params params site).next ≡ site.next + length params
with_params-next [] site = omega arith
with_params-next (d ∷ params) site = omega (arith, with_params-next params (with_name d.name site))

-- what a function's body finds has its place
site_placed : (source : ParsedSource) (f : ParsedFunction) → Each (Placed (function_bindings f)) (function_site (file_scope source) f.params).environment
site_placed source f =
    params_placed (function_bindings f) f.params (record { environment = file_scope source; here = []; next = 0 })
    (each_left (Placed (function_bindings f)) (param_bindings 0 f.params) (bindings_in_all f.body (length f.params)) (function_placed f))
    (file_placed (function_bindings f) 0 (globals_in source))

body_placed : (source : ParsedSource) (f : ParsedFunction)
    → Each (Placed (function_bindings f)) (bindings_in_all f.body (function_site (file_scope source) f.params).next)
body_placed source f =
    let start : Site = record { environment = file_scope source; here = []; next = 0 } in
    moved_all (function_bindings f) f.body (length f.params) (with_params f.params start).next (omega (arith, with_params-next f.params start))
    (each_right (Placed (function_bindings f)) (param_bindings 0 f.params) (bindings_in_all f.body (length f.params)) (function_placed f))

before_or : (table : List Binding) (returns : Bool) (s : ParsedStmt) (ss : ParsedStmts) (site : Site) → Each (Placed table) site.environment
    → Each (Placed table) (after_all (before_return ss) (after s site)).environment
    → Each (Placed table) (after_all (if returns then ParsedLast else ParsedNext s (before_return ss)) site).environment
before_or table true s ss site q r = q
before_or table false s ss site q r = r

-- what stands after the statements before the first `return` has its place
before_placed : (table : List Binding) (ss : ParsedStmts) (site : Site) → Each (Placed table) (bindings_in_all ss site.next) → Each (Placed table) site.environment
    → Each (Placed table) (after_all (before_return ss) site).environment
before_placed table ParsedLast site p q = q
before_placed table (ParsedNext s ss) site p q =
    let left = each_left (Placed table) (bindings_in s site.next) (bindings_in_all ss (site.next + locals_in s)) p in
    let right = each_right (Placed table) (bindings_in s site.next) (bindings_in_all ss (site.next + locals_in s)) p in
    before_or table (has_return s) s ss site q
    (before_placed table ss (after s site) (moved_all table ss (site.next + locals_in s) (after s site).next (sym (after-next s site)) right) (after_placed table s site left q))

-- at each step of a function what is listed has its place among the function's declarations
pub steps_found : (source : ParsedSource) (f : ParsedFunction) → Each (AllFound (function_bindings f)) (standings_of (file_scope source) f)
steps_found source f =
    let table = function_bindings f in
    let site = function_site (file_scope source) f.params in
    each_join (AllFound table) (standings_in_all f.body site) (standing f.closing (after_all (before_return f.body) site) ∷ [])
    (standings_found_all table f.body site (body_placed source f) (site_placed source f))
    (found_listed table (after_all (before_return f.body) site).environment (before_placed table f.body site (body_placed source f) (site_placed source f)), tt)

-- ---- the typed tree

pub params_bound : (k : ℕ) (params : List ParsedParam) → variable_bindings (param_variables k params) ≡ param_bindings k params
params_bound k [] = refl
params_bound k (p ∷ params) = ap (λ bs. bound p.name (Local k) ∷ bs) (params_bound (suc k) params)

pub params_count : (k : ℕ) (params : List ParsedParam) → length (param_variables k params) ≡ length params
params_count k [] = refl
params_count k (p ∷ params) = ap suc (params_count (suc k) params)

-- the variable with a number is the one that is declared with it
variable_found : (variables : List Variable) (k : ℕ) (b : Binding) (d : Variable) → slice_get (variable_bindings variables) k ≡ Some b
    → bound (slice_index_or variables k d).name (slice_index_or variables k d).id ≡ b
variable_found [] k b d e = absurd (true≢false (sym (ap is_some e)))
variable_found (v ∷ variables) zero b d e = same_Some (bound v.name v.id) b e
variable_found (v ∷ variables) (suc k) b d e = variable_found variables k b d e

local_found : (variables : List Variable) (table : List Binding) (b : Binding) → variable_bindings variables ≡ table → Found table b
    → bound (local_at variables b.id).name (local_at variables b.id).id ≡ b
local_found variables table b e f =
    let there : slice_get (variable_bindings variables) f.0 ≡ Some b = ap (λ bs. slice_get bs f.0) e ∙ f.2 in
    ap (λ id. bound (local_at variables id).name (local_at variables id).id) f.1 ∙ variable_found variables f.0 b no_variable there

scope_bound : (variables : List Variable) (table names : List Binding) → variable_bindings variables ≡ table → Each (Found table) names
    → variable_bindings (map (λ b. local_at variables b.id) names) ≡ names
scope_bound variables table [] e p = refl
scope_bound variables table (b ∷ names) e p =
    ap (λ c. c ∷ variable_bindings (map (λ x. local_at variables x.id) names)) (local_found variables table b e p.0)
    ∙ ap (λ cs. b ∷ cs) (scope_bound variables table names e p.1)

-- the names and places of steps in the typed tree
abbrev pub names_of_standings : List Standing → List NameStanding
names_of_standings [] = []
names_of_standings (s ∷ standings) = record { place = s.place; names = variable_bindings s.scope } ∷ names_of_standings standings

standings_bound : (variables : List Variable) (table : List Binding) (standings : List NameStanding) → variable_bindings variables ≡ table
    → Each (AllFound table) standings → names_of_standings (map (standing_with variables) standings) ≡ standings
standings_bound variables table [] e p = refl
standings_bound variables table (s ∷ standings) e p =
    ap (λ names. record { place = s.place; names = names } ∷ names_of_standings (map (standing_with variables) standings)) (scope_bound variables table s.names e p.0)
    ∙ ap (λ rest. s ∷ rest) (standings_bound variables table standings e p.1)

-- a function of the typed tree: its steps have their numbers in the order in which they run, and as many standings, whose places
-- and names are those of the tree as written
abbrev pub FunctionRight : ParsedSource → ParsedFunction → Function → Type 0
FunctionRight source f g =
    (steps_of g.body ≡ steps_in_all f.body) × IsNumbered 0 g.body × (names_of_standings g.standings ≡ standings_of (file_scope source) f)

pub function_right : (source : ParsedSource) (f : ParsedFunction) → OnSound (judged_function source f) (FunctionRight source f)
function_right source f =
    let context : Context = record { functions = functions_in source; result = result_of f.spec } in
    let scope = param_entries 0 f.params (global_entries 0 (globals_in source)) in
    let signature = unless (signature_faults f) f in
    on_pair signature (statements f.body context scope (length f.params) 0) _ (λ g. Unit {0})
    (Faithful (steps_in_all f.body) 0 (bindings_in_all f.body (length f.params))) (FunctionRight source f)
    (on_any signature)
    (statements_faithful f.body context scope (length f.params) 0)
    (λ g m _ h. (
      h.0,
      h.1,
      standings_bound (param_variables 0 f.params ++ m.variables) (function_bindings f) (standings_of (file_scope source) f)
          (two_parts (param_variables 0 f.params) m.variables (param_bindings 0 f.params) (bindings_in_all f.body (length f.params)) (params_bound 0 f.params) h.2)
          (steps_found source f),
    ))

-- the functions of the typed tree, each for its own in the tree as written
abbrev pub FunctionsRight : ParsedSource → List ParsedFunction → List Function → Type 0
FunctionsRight source [] [] = Unit {0}
FunctionsRight source [] (g ∷ typed) = ⊥
FunctionsRight source (f ∷ functions) [] = ⊥
FunctionsRight source (f ∷ functions) (g ∷ typed) = FunctionRight source f g × FunctionsRight source functions typed

functions_right : (source : ParsedSource) (functions : List ParsedFunction) → OnSound (judged_functions source functions) (FunctionsRight source functions)
functions_right source [] = tt
functions_right source (f ∷ functions) =
    on_pair (judged_function source f) (judged_functions source functions) _ (FunctionRight source f) (FunctionsRight source functions) (FunctionsRight source (f ∷ functions))
    (function_right source f) (functions_right source functions) (λ g typed first later. (first, later))

-- the typed tree of a source has its functions, in their order
abbrev pub ProgramRight : ParsedSource → Program → Type 0
ProgramRight source p = FunctionsRight source (functions_in source) p.functions

program_right : (source : ParsedSource) → OnSound (judged_program source) (ProgramRight source)
program_right source =
    on_pair (judged_globals 0 (globals_in source)) (judged_functions source (functions_in source)) _ (λ g. Unit {0}) (FunctionsRight source (functions_in source)) (ProgramRight source)
    (on_any (judged_globals 0 (globals_in source))) (functions_right source (functions_in source)) (λ g typed _ right. right)

pub on_some : {A : Type 0} (j : Judged A) (P : A → Type 0) (a : A) → OnSound j P → sound_part j ≡ Some a → P a
on_some (Sound b) P a p e = subst P (same_Some b a e) p
on_some (Faulty first others) P a p e = absurd (true≢false (sym (ap is_some e)))

-- the typed tree of a source without faults has each function's steps, numbered in running order, with the places and the
-- names in scope of the tree as written
pub program_of-right : (source : ParsedSource) (p : Program) → program_of source ≡ Some p → ProgramRight source p
program_of-right source p e = on_some (judged_program source) (ProgramRight source) p (program_right source) e

numbered_from : (source : ParsedSource) (functions : List ParsedFunction) (typed : List Function) → FunctionsRight source functions typed
    → (n : ℕ) (g : Function) → slice_get typed n ≡ Some g → IsNumbered 0 g.body
numbered_from source [] [] right n g e = absurd (true≢false (sym (ap is_some e)))
numbered_from source [] (h ∷ typed) right n g e = absurd right
numbered_from source (f ∷ functions) [] right n g e = absurd right
numbered_from source (f ∷ functions) (h ∷ typed) right zero g e = subst (λ x. IsNumbered 0 x.body) (same_Some h g e) right.0.1
numbered_from source (f ∷ functions) (h ∷ typed) right (suc n) g e = numbered_from source functions typed right.1 n g e

-- the steps of the typed tree are numbered in the order in which they run
pub program_of-numbered : (source : ParsedSource) (p : Program) → program_of source ≡ Some p → IsNumberedProgram p
program_of-numbered source p e = numbered_from source (functions_in source) p.functions (program_of-right source p e)

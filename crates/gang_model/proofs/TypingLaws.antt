-- What follows for the scopes of typing: they have the declarations that `Scope` finds, in the same order, so that a name in
-- the typed tree stands for the variable of its innermost declaration.
use Rattle.std.proofs.Common.{ℕ, suc, ◌+◌, Bool, true, false, List, [], ◌∷◌, ◌≡◌, refl, ◌∙◌, ap, arith, length}
use Rattle.std.specs.Prelude.{Option, Some, None, if◌then◌else◌}
use Rattle.gang_types.specs.declared.types.IntType.TheVariants as t
use Rattle.gang_types.specs.declared.types.Rate.TheVariants.{Varying, Uniform}
use Rattle.gang_types.specs.declared.places.VarId.{VarId}
use Rattle.gang_types.specs.declared.places.VarId.TheVariants.{File, Local}
use Rattle.gang_model.specs.Source.Names.{same_text}
use Rattle.gang_model.specs.Source.Parsed.{Name, ParsedDim, ParsedStmt, ParsedEmpty, ParsedBlock, ParsedDeclare, ParsedAssign, ParsedChange, ParsedIncrement, ParsedDoCall, ParsedBreak, ParsedContinue, ParsedReturn, ParsedIf, ParsedIfElse, ParsedWhile, ParsedDo, ParsedFor, ParsedSwitch, ParsedForEach, ParsedForEachActive, ParsedForEachUnique, ParsedParam, ParsedGlobal, ParsedSource, globals_in}
use Rattle.gang_model.specs.Names.Scope.{bound, Environment, declaration, Site, with_name, with_dims, with_params, file_bindings, after, locals_in, enclosed, in_rounds, function_site, file_scope}
use Rattle.gang_model.specs.Types.Typing.{Entry, Scope, entry_of, declared, index_entry}
use Rattle.gang_model.specs.Types.Statements.{scope_after, index_entries}
use Rattle.gang_model.specs.Types.Resolved.{global_entries, param_entries}
use Rattle.gang_types.specs.declared.types.IntType.{IntType}

-- the declarations that a scope has
abbrev pub bindings_of : Scope → Environment
bindings_of [] = []
bindings_of (n ∷ scope) = bound n.variable.name n.variable.id ∷ bindings_of scope

-- a scope and a site of the same declarations, where the next variable has the number k
abbrev pub Agree : Scope → ℕ → Site → Type 0
Agree scope k site = (bindings_of scope ≡ site.environment) × (k ≡ site.next)

abbrev pub id_of : Option Entry → Option VarId
id_of None = None
id_of (Some n) = Some n.variable.id

entry_or : (b : Bool) (n : Entry) (rest : Option Entry) (found : Option VarId) → id_of rest ≡ found
    → id_of (if b then Some n else rest) ≡ (if b then Some n.variable.id else found)
entry_or true n rest found e = refl
entry_or false n rest found e = e

-- the entry of a name has the variable of the name's innermost declaration
pub entry_of-declaration : (scope : Scope) (name : Name) → id_of (entry_of scope name) ≡ declaration (bindings_of scope) name
entry_of-declaration [] name = refl
entry_of-declaration (n ∷ scope) name =
    entry_or (same_text n.variable.name name) n (entry_of scope name) (declaration (bindings_of scope) name) (entry_of-declaration scope name)

-- the file-scope variables
pub global_entries-bindings : (k : ℕ) (globals : List ParsedGlobal) → bindings_of (global_entries k globals) ≡ file_bindings k globals
global_entries-bindings k [] = refl
global_entries-bindings k (g ∷ globals) = ap (λ xs. bound g.name (File k) ∷ xs) (global_entries-bindings (suc k) globals)

-- one more declaration
agree_with : (name : Name) (scope : Scope) (k : ℕ) (site : Site) → Agree scope k site → bound name (Local k) ∷ bindings_of scope ≡ bound name (Local site.next) ∷ site.environment
agree_with name scope k site agree = ap (λ n. bound name (Local n) ∷ bindings_of scope) agree.1 ∙ ap (λ xs. bound name (Local site.next) ∷ xs) agree.0

-- after a statement scope and site agree
pub agree-after : (s : ParsedStmt) (scope : Scope) (k : ℕ) (site : Site) → Agree scope k site → Agree (scope_after s scope k) (k + locals_in s) (after s site)
agree-after ParsedEmpty scope k site agree = (agree.0, ap (λ n. n + 0) agree.1)
agree-after (ParsedDeclare p spec at name e) scope k site agree = (agree_with name scope k site agree, omega (arith, agree.1))
agree-after (ParsedBlock ss) scope k site agree = (agree.0, ap (λ n. n + locals_in (ParsedBlock ss)) agree.1)
agree-after (ParsedAssign p target e) scope k site agree = (agree.0, ap (λ n. n + 0) agree.1)
agree-after (ParsedChange p target op e) scope k site agree = (agree.0, ap (λ n. n + 0) agree.1)
agree-after (ParsedIncrement p target op) scope k site agree = (agree.0, ap (λ n. n + 0) agree.1)
agree-after (ParsedDoCall p name args) scope k site agree = (agree.0, ap (λ n. n + 0) agree.1)
agree-after (ParsedBreak p) scope k site agree = (agree.0, ap (λ n. n + 0) agree.1)
agree-after (ParsedContinue p) scope k site agree = (agree.0, ap (λ n. n + 0) agree.1)
agree-after (ParsedReturn p e) scope k site agree = (agree.0, ap (λ n. n + 0) agree.1)
agree-after (ParsedIf p e a) scope k site agree = (agree.0, ap (λ n. n + locals_in (ParsedIf p e a)) agree.1)
agree-after (ParsedIfElse p e a b) scope k site agree = (agree.0, ap (λ n. n + locals_in (ParsedIfElse p e a b)) agree.1)
agree-after (ParsedWhile p e body) scope k site agree = (agree.0, ap (λ n. n + locals_in (ParsedWhile p e body)) agree.1)
agree-after (ParsedDo body p e) scope k site agree = (agree.0, ap (λ n. n + locals_in (ParsedDo body p e)) agree.1)
agree-after (ParsedFor p start e update body) scope k site agree = (agree.0, ap (λ n. n + locals_in (ParsedFor p start e update body)) agree.1)
agree-after (ParsedSwitch p e segments) scope k site agree = (agree.0, ap (λ n. n + locals_in (ParsedSwitch p e segments)) agree.1)
agree-after (ParsedForEach p is_tiled dims body) scope k site agree = (agree.0, ap (λ n. n + locals_in (ParsedForEach p is_tiled dims body)) agree.1)
agree-after (ParsedForEachActive p at name body) scope k site agree = (agree.0, ap (λ n. n + locals_in (ParsedForEachActive p at name body)) agree.1)
agree-after (ParsedForEachUnique p at name e body) scope k site agree = (agree.0, ap (λ n. n + locals_in (ParsedForEachUnique p at name e body)) agree.1)

-- in the body of a `foreach` they agree
pub agree-dims : (dims : List ParsedDim) (scope : Scope) (k : ℕ) (site : Site) → Agree scope k site → Agree (index_entries k dims scope) (k + length dims) (with_dims dims site)
agree-dims [] scope k site agree = (agree.0, omega (arith, agree.1))
agree-dims (d ∷ dims) scope k site agree =
    let first : Agree (index_entry d.name (Local k) t.Int32 Varying ∷ scope) (suc k) (with_name d.name site) = (agree_with d.name scope k site agree, ap suc agree.1) in
    let rest = agree-dims dims (index_entry d.name (Local k) t.Int32 Varying ∷ scope) (suc k) (with_name d.name site) first in
    (rest.0, omega (arith, rest.1))

-- in a function's body they agree
pub agree-params : (params : List ParsedParam) (scope : Scope) (k : ℕ) (site : Site) → Agree scope k site → Agree (param_entries k params scope) (k + length params) (with_params params site)
agree-params [] scope k site agree = (agree.0, omega (arith, agree.1))
agree-params (p ∷ params) scope k site agree =
    let n = declared p.name (Local k) p.spec p.is_array true in
    let first : Agree (n ∷ scope) (suc k) (with_name p.name site) = (agree_with p.name scope k site agree, ap suc agree.1) in
    let rest = agree-params params (n ∷ scope) (suc k) (with_name p.name site) first in
    (rest.0, omega (arith, rest.1))

-- in a scope inside they agree
pub agree-enclosed : (scope : Scope) (k : ℕ) (site : Site) → Agree scope k site → Agree scope k (enclosed site)
agree-enclosed scope k site agree = agree

-- in the body of `foreach_active` and `foreach_unique` they agree
pub agree-rounds : (name : Name) (type : IntType) (scope : Scope) (k : ℕ) (site : Site) → Agree scope k site
    → Agree (index_entry name (Local k) type Uniform ∷ scope) (suc k) (in_rounds name site)
agree-rounds name type scope k site agree = (agree_with name scope k site agree, ap suc agree.1)

-- where a function's body begins they agree
pub agree-function : (source : ParsedSource) (params : List ParsedParam)
    → Agree (param_entries 0 params (global_entries 0 (globals_in source))) (length params) (function_site (file_scope source) params)
agree-function source params =
    let start : Site = record { environment = file_scope source; here = []; next = 0 } in
    let all = agree-params params (global_entries 0 (globals_in source)) 0 start (global_entries-bindings 0 (globals_in source), refl) in
    (all.0, omega (arith, all.1))

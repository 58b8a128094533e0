-- What is in scope at the closing brace of a function without faults of names: its parameters by their numbers, then other variables.
use Rattle.std.proofs.Common.{ℕ, zero, suc, ◌+◌, ◌≤◌, true≢false, Bool, true, false, ◌||◌, not, List, [], ◌∷◌, ◌++◌, append-nil, append_assoc, length, ◌≡◌, refl, sym, ◌∙◌, ap, subst, arith}
use Rattle.std.specs.Prelude.{filter, Some, slice_get, if◌then◌else◌}
use Rattle.std.proofs.lemmas.Option.{same_Some, none-some}
use Rattle.gang_types.specs.declared.places.Place.{Place}
use Rattle.gang_types.specs.declared.places.VarId.TheVariants.{Local}
use Rattle.gang_model.specs.declared.refusals.RefusalNumber.{RefusalNumber}
use Rattle.gang_model.specs.Source.Names.{same_text}
use Rattle.gang_model.specs.Source.Parsed.{Name, ParsedStmt, ParsedEmpty, ParsedBlock, ParsedDeclare, ParsedAssign, ParsedChange, ParsedIncrement, ParsedDoCall, ParsedBreak, ParsedContinue, ParsedReturn, ParsedIf, ParsedIfElse, ParsedWhile, ParsedDo, ParsedFor, ParsedSwitch, ParsedForEach, ParsedForEachActive, ParsedForEachUnique, ParsedStmts, ParsedLast, ParsedNext, ParsedParam, ParsedGlobal, ParsedFunction, ParsedSource, globals_in}
use Rattle.gang_model.specs.Source.Judged.{fault_if}
use Rattle.gang_model.specs.Types.LibraryTable.{is_among}
use Rattle.gang_model.specs.Names.Bindings.{param_bindings}
use Rattle.gang_model.specs.Names.NameFaults.{Allowed, in_function, twice, right_names_of, stmt_names, stmts_names, params_twice, function_names}
use Rattle.gang_model.specs.Names.Scope.{Binding, bound, Environment, is_local, is_built_in, listed, unhidden, Site, with_name, with_params, past, locals_in, after, after_all, has_return, before_return, file_bindings, file_scope, function_site}
use Rattle.gang_model.proofs.JudgedLaws.{or_false}
use Rattle.gang_model.proofs.SameTexts.{same_text-refl, same_text-equal}
use Rattle.gang_model.proofs.StandingLaws.{Each, each_join}
use Rattle.input_rows.proofs.Elements.{all_pass, both_empty, each_follows}

-- ---- names declared once

no_fault : (b : Bool) (number : RefusalNumber) (p : Place) → fault_if b number p ≡ [] → b ≡ false
no_fault true number p e = cc e
no_fault false number p e = refl

-- a name that may be declared is not among those of its scope
fresh_name : (site : Site) (p : Place) (name : Name) → twice site p name ≡ [] → is_among name site.here ≡ false
fresh_name site p name e = (or_false (is_among name site.here) (is_built_in name) (no_fault (is_among name site.here || is_built_in name) _ p e)).0

among_first : (name : Name) (names : List Name) → is_among name (name ∷ names) ≡ true
among_first name names = ap (λ b. b || is_among name names) (same_text-refl name)

or_true : (a b : Bool) → b ≡ true → (a || b) ≡ true
or_true true b e = refl
or_true false b e = e

among_more : (name other : Name) (names : List Name) → is_among name names ≡ true → is_among name (other ∷ names) ≡ true
among_more name other names e = or_true (same_text name other) (is_among name names) e

-- ---- what is listed

-- a declaration of a name in the scope
abbrev IsNamedIn : List Name → Binding → Type 0
IsNamedIn names b = is_among b.name names ≡ true

-- a name that is in a list is no name that is not
differs : (a b : Name) (names : List Name) → is_among a names ≡ true → is_among b names ≡ false → not (same_text a b) ≡ true
differs a b names among fresh = by (same_text a b) refl
  where
    by : (t : Bool) → same_text a b ≡ t → not t ≡ true
    by true e = absurd (true≢false (sym among ∙ (ap (λ n. is_among n names) (same_text-equal a b e) ∙ fresh)))
    by false e = refl

-- a variable with a number of at least this
abbrev pub IsLater : ℕ → Binding → Type 0
IsLater least b = (k : ℕ) × (b.id ≡ Local k) × (least ≤ k)

-- what is listed at a site: these declarations, and behind them variables with later numbers; all of them have names in its scope
pub record Lists (least : ℕ) (first : List Binding) (site : Site) : Type 0 where
  pub more : List Binding
  pub names : listed site.environment ≡ first ++ more
  pub later : Each (IsLater least) more
  pub named : Each (IsNamedIn site.here) (listed site.environment)
  pub next : least ≤ site.next

-- one more name is listed behind the others
listed_behind : (name : Name) (site : Site) → is_among name site.here ≡ false → Each (IsNamedIn site.here) (listed site.environment)
    → listed (with_name name site).environment ≡ listed site.environment ++ bound name (Local site.next) ∷ []
listed_behind name site fresh named =
    ap (λ bs. bs ++ bound name (Local site.next) ∷ [])
    (all_pass (λ c. not (same_text c.name name)) (listed site.environment)
    (each_follows (IsNamedIn site.here) (λ c. not (same_text c.name name) ≡ true) (listed site.environment) (λ c among. differs c.name name site.here among fresh) named))

named_behind : (name : Name) (site : Site) → is_among name site.here ≡ false → Each (IsNamedIn site.here) (listed site.environment)
    → Each (IsNamedIn (name ∷ site.here)) (listed (with_name name site).environment)
named_behind name site fresh named =
    subst (Each (IsNamedIn (name ∷ site.here))) (sym (listed_behind name site fresh named))
    (each_join (IsNamedIn (name ∷ site.here)) (listed site.environment) (bound name (Local site.next) ∷ [])
    (each_follows (IsNamedIn site.here) (IsNamedIn (name ∷ site.here)) (listed site.environment) (λ c among. among_more c.name name site.here among) named)
    (among_first name site.here, tt))

-- ---- parameters

-- after parameters what was listed before, then the parameters
params_listed : (params : List ParsedParam) (site : Site) → params_twice params site ≡ [] → Each (IsNamedIn site.here) (listed site.environment)
    → (listed (with_params params site).environment ≡ listed site.environment ++ param_bindings site.next params)
    × Each (IsNamedIn (with_params params site).here) (listed (with_params params site).environment)
params_listed [] site e named = (sym (append-nil (listed site.environment)), named)
params_listed (p ∷ params) site e named =
    let parts = both_empty (twice site p.at p.name) (params_twice params (with_name p.name site)) e in
    let fresh = fresh_name site p.at p.name parts.0 in
    let rest = params_listed params (with_name p.name site) parts.1 (named_behind p.name site fresh named) in (
      rest.0 ∙ (ap (λ bs. bs ++ param_bindings (suc site.next) params) (listed_behind p.name site fresh named)
          ∙ append_assoc (listed site.environment) (bound p.name (Local site.next) ∷ []) (param_bindings (suc site.next) params)),
      rest.1,
    )

with_params-next : (params : List ParsedParam) (site : Site) → (with_params params site).next ≡ site.next + length params
with_params-next [] site = omega arith
with_params-next (d ∷ params) site = omega (arith, with_params-next params (with_name d.name site))

file_listed : (k : ℕ) (globals : List ParsedGlobal) → filter (λ b. is_local b.id) (file_bindings k globals) ≡ []
file_listed k [] = refl
file_listed k (g ∷ globals) = file_listed (suc k) globals

-- what the body of a function finds
site_lists : (source : ParsedSource) (f : ParsedFunction) → params_twice f.params (function_site (file_scope source) []) ≡ []
    → Lists (length f.params) (param_bindings 0 f.params) (function_site (file_scope source) f.params)
site_lists source f e =
    let start = function_site (file_scope source) [] in
    let none : listed start.environment ≡ [] = ap unhidden (file_listed 0 (globals_in source)) in
    let params = params_listed f.params start e (subst (Each (IsNamedIn [])) (sym none) tt) in
    record {
      more = [];
      names = params.0 ∙ (ap (λ bs. bs ++ param_bindings 0 f.params) none ∙ sym (append-nil (param_bindings 0 f.params)));
      later = tt;
      named = params.1;
      next = omega (arith, with_params-next f.params start);
    }

-- ---- statements

one_more : (least : ℕ) (first : List Binding) (name : Name) (site : Site) → is_among name site.here ≡ false → Lists least first site → Lists least first (with_name name site)
one_more least first name site fresh lists = record {
  more = lists.more ++ bound name (Local site.next) ∷ [];
  names =
      listed_behind name site fresh lists.named ∙ (ap (λ bs. bs ++ bound name (Local site.next) ∷ []) lists.names ∙ append_assoc first lists.more (bound name (Local site.next) ∷ []));
  later = each_join (IsLater least) lists.more (bound name (Local site.next) ∷ []) lists.later ((site.next, refl, lists.next), tt);
  named = named_behind name site fresh lists.named;
  next = let le = lists.next in omega (arith, le);
}

gone_past : (least : ℕ) (first : List Binding) (n : ℕ) (site : Site) → Lists least first site → Lists least first (past n site)
gone_past least first n site lists = record { more = lists.more; names = lists.names; later = lists.later; named = lists.named; next = let le = lists.next in omega (arith, le) }

after_lists : (least : ℕ) (first : List Binding) (s : ParsedStmt) (may : Allowed) (site : Site) → stmt_names s may site ≡ [] → Lists least first site → Lists least first (after s site)
after_lists least first (ParsedDeclare p spec at name e) may site none lists =
    one_more least first name site (fresh_name site at name (both_empty (twice site at name) (right_names_of e may.functions site.environment) none).0) lists
after_lists least first ParsedEmpty may site none lists = gone_past least first 0 site lists
after_lists least first (ParsedBlock ss) may site none lists = gone_past least first (locals_in (ParsedBlock ss)) site lists
after_lists least first (ParsedAssign p target e) may site none lists = gone_past least first 0 site lists
after_lists least first (ParsedChange p target op e) may site none lists = gone_past least first 0 site lists
after_lists least first (ParsedIncrement p target op) may site none lists = gone_past least first 0 site lists
after_lists least first (ParsedDoCall p name args) may site none lists = gone_past least first 0 site lists
after_lists least first (ParsedBreak p) may site none lists = gone_past least first 0 site lists
after_lists least first (ParsedContinue p) may site none lists = gone_past least first 0 site lists
after_lists least first (ParsedReturn p e) may site none lists = gone_past least first 0 site lists
after_lists least first (ParsedIf p e a) may site none lists = gone_past least first (locals_in (ParsedIf p e a)) site lists
after_lists least first (ParsedIfElse p e a b) may site none lists = gone_past least first (locals_in (ParsedIfElse p e a b)) site lists
after_lists least first (ParsedWhile p e body) may site none lists = gone_past least first (locals_in (ParsedWhile p e body)) site lists
after_lists least first (ParsedDo body p e) may site none lists = gone_past least first (locals_in (ParsedDo body p e)) site lists
after_lists least first (ParsedFor p start e update body) may site none lists = gone_past least first (locals_in (ParsedFor p start e update body)) site lists
after_lists least first (ParsedSwitch p e segments) may site none lists = gone_past least first (locals_in (ParsedSwitch p e segments)) site lists
after_lists least first (ParsedForEach p is_tiled dims body) may site none lists = gone_past least first (locals_in (ParsedForEach p is_tiled dims body)) site lists
after_lists least first (ParsedForEachActive p at name body) may site none lists = gone_past least first (locals_in (ParsedForEachActive p at name body)) site lists
after_lists least first (ParsedForEachUnique p at name e body) may site none lists = gone_past least first (locals_in (ParsedForEachUnique p at name e body)) site lists

-- after the statements before the first one that holds a `return`
before_lists : (least : ℕ) (first : List Binding) (ss : ParsedStmts) (may : Allowed) (site : Site) → stmts_names ss may site ≡ [] → Lists least first site
    → Lists least first (after_all (before_return ss) site)
before_lists least first ParsedLast may site none lists = lists
before_lists least first (ParsedNext s ss) may site none lists =
    let parts = both_empty (stmt_names s may site) (stmts_names ss may (after s site)) none in
    by (has_return s) (before_lists least first ss may (after s site) parts.1 (after_lists least first s may site parts.0 lists))
  where
    by : (b : Bool) → Lists least first (after_all (before_return ss) (after s site)) → Lists least first (after_all (if b then ParsedLast else ParsedNext s (before_return ss)) site)
    by true later = lists
    by false later = later

-- ---- functions

-- the faults in a function's parameters and its body
parts_of : (functions : List Name) (environment : Environment) (f : ParsedFunction) → function_names functions environment f ≡ []
    → (params_twice f.params (function_site environment []) ≡ []) × (stmts_names f.body (in_function functions) (function_site environment f.params) ≡ [])
parts_of functions environment f e =
    let own = params_twice f.params (function_site environment []) in
    let inner = stmts_names f.body (in_function functions) (function_site environment f.params) in
    both_empty own inner (both_empty (fault_if _ _ f.at) (own ++ inner) e).1

-- at the closing brace of a function without faults of names
pub closing_lists : (source : ParsedSource) (functions : List Name) (f : ParsedFunction) → function_names functions (file_scope source) f ≡ []
    → Lists (length f.params) (param_bindings 0 f.params) (after_all (before_return f.body) (function_site (file_scope source) f.params))
closing_lists source functions f e =
    let parts = parts_of functions (file_scope source) f e in
    before_lists (length f.params) (param_bindings 0 f.params) f.body (in_function functions) (function_site (file_scope source) f.params) parts.1 (site_lists source f parts.0)

-- ---- names of parameters

-- a name that is in scope is none of the parameters that follow
fresh_params : (name : Name) (params : List ParsedParam) (site : Site) → is_among name site.here ≡ true → params_twice params site ≡ []
    → (k : ℕ) (p : ParsedParam) → slice_get params k ≡ Some p → p.name ≡ name → ⊥
fresh_params name [] site among e k p at same = none-some p at
fresh_params name (q ∷ params) site among e zero p at same =
    let parts = both_empty (twice site q.at q.name) (params_twice params (with_name q.name site)) e in
    let is : q.name ≡ name = ap (λ (r : ParsedParam). r.name) (same_Some q p at) ∙ same in
    true≢false (sym among ∙ (ap (λ n. is_among n site.here) (sym is) ∙ fresh_name site q.at q.name parts.0))
fresh_params name (q ∷ params) site among e (suc k) p at same =
    let parts = both_empty (twice site q.at q.name) (params_twice params (with_name q.name site)) e in
    fresh_params name params (with_name q.name site) (among_more name q.name site.here among) parts.1 k p at same

params_apart : (params : List ParsedParam) (site : Site) → params_twice params site ≡ []
    → (i j : ℕ) (p q : ParsedParam) → slice_get params i ≡ Some p → slice_get params j ≡ Some q → p.name ≡ q.name → i ≡ j
params_apart [] site e i j p q first second same = absurd (none-some p first)
params_apart (r ∷ params) site e zero zero p q first second same = refl
params_apart (r ∷ params) site e zero (suc j) p q first second same =
    let parts = both_empty (twice site r.at r.name) (params_twice params (with_name r.name site)) e in
    let is : q.name ≡ r.name = sym same ∙ ap (λ (s : ParsedParam). s.name) (sym (same_Some r p first)) in
    absurd (fresh_params r.name params (with_name r.name site) (among_first r.name site.here) parts.1 j q second is)
params_apart (r ∷ params) site e (suc i) zero p q first second same =
    let parts = both_empty (twice site r.at r.name) (params_twice params (with_name r.name site)) e in
    let is : p.name ≡ r.name = same ∙ ap (λ (s : ParsedParam). s.name) (sym (same_Some r q second)) in
    absurd (fresh_params r.name params (with_name r.name site) (among_first r.name site.here) parts.1 i p first is)
params_apart (r ∷ params) site e (suc i) (suc j) p q first second same =
    let parts = both_empty (twice site r.at r.name) (params_twice params (with_name r.name site)) e in
    ap suc (params_apart params (with_name r.name site) parts.1 i j p q first second same)

-- the parameters of a function without faults of names have names of their own
pub own_names : (source : ParsedSource) (functions : List Name) (f : ParsedFunction) → function_names functions (file_scope source) f ≡ []
    → (i j : ℕ) (p q : ParsedParam) → slice_get f.params i ≡ Some p → slice_get f.params j ≡ Some q → p.name ≡ q.name → i ≡ j
own_names source functions f e = params_apart f.params (function_site (file_scope source) []) (parts_of functions (file_scope source) f e).0

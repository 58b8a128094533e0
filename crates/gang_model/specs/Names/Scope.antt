-- Which declaration a name stands for, and what the debugger lists at a step, as functions of the tree alone
-- (ISPC User's Guide, "Variables and types" and "Control flow"; which variables are listed at a step is a choice of this
-- project). `resolve` decides `declaration` at each name, and `standings_of`.
use Rattle.std.specs.Prelude.{ℕ, suc, ◌+◌, Bool, true, false, not, ◌||◌, List, [], ◌∷◌, ◌++◌, filter, length, Option, Some, None, codes, slice_get, if◌then◌else◌}
use Rattle.gang_types.specs.declared.places.Place.{Place}
use Rattle.gang_types.specs.declared.places.Spot.{Spot}
use Rattle.gang_types.specs.declared.places.VarId.{VarId}
use Rattle.gang_types.specs.declared.places.VarId.TheVariants.{File, Local}
use Rattle.gang_model.specs.Source.Names.{same_text}
use Rattle.gang_model.specs.Source.Parsed.{Name, ParsedDim, ParsedStmt, ParsedEmpty, ParsedBlock, ParsedDeclare, ParsedAssign, ParsedChange, ParsedIncrement, ParsedDoCall, ParsedBreak, ParsedContinue, ParsedReturn, ParsedIf, ParsedIfElse, ParsedWhile, ParsedDo, ParsedFor, ParsedSwitch, ParsedForEach, ParsedForEachActive, ParsedForEachUnique, ParsedStmts, ParsedLast, ParsedNext, ParsedSegments, ParsedNoMore, ParsedSegment, ParsedParam, ParsedFunction, ParsedGlobal, ParsedSource, functions_in, globals_in}

-- a declared name and its variable
pub record Binding : Type 0 where
  pub name : Name
  pub id : VarId

-- a name with its variable
abbrev pub bound : Name → VarId → Binding
bound name id = record { name = name; id = id }

-- the declarations whose scopes hold a place, the innermost first
abbrev pub Environment : Type 0
Environment = List Binding

-- the variable of the innermost declaration of a name
abbrev pub declaration : Environment → Name → Option VarId
declaration [] name = None
declaration (b ∷ environment) name = if same_text b.name name then Some b.id else declaration environment name

-- the names that every place knows, and that nothing declares: `programIndex` and `programCount`
abbrev pub is_built_in : Name → Bool
is_built_in name = same_text name (codes "programIndex") || same_text name (codes "programCount")

-- whether a variable is a function's, and not the file's
abbrev pub is_local : VarId → Bool
is_local (File k) = false
is_local (Local k) = true

-- the declarations in the order of the text, without those that an inner one of their name hides
abbrev pub unhidden : Environment → List Binding
unhidden [] = []
unhidden (b ∷ environment) = filter (λ c. not (same_text c.name b.name)) (unhidden environment) ++ b ∷ []

-- what the debugger lists where these declarations are in scope: the local ones
abbrev pub listed : Environment → List Binding
listed environment = unhidden (filter (λ b. is_local b.id) environment)

-- what a statement finds: the declarations in scope, the names declared so far in its own scope, and the number that the
-- function's next variable gets
pub record Site : Type 0 where
  pub environment : Environment
  pub here : List Name
  pub next : ℕ

-- after one more declaration in the same scope
abbrev pub with_name : Name → Site → Site
with_name name site = record { environment = bound name (Local site.next) ∷ site.environment; here = name ∷ site.here; next = suc site.next }

-- in a scope inside
abbrev pub enclosed : Site → Site
enclosed site = record site { here = [] }

-- after a statement that declares so many variables in scopes of its own
abbrev pub past : ℕ → Site → Site
past n site = record site { next = site.next + n }

-- in the body of a `foreach`, after its index variables
abbrev pub with_dims : List ParsedDim → Site → Site
with_dims [] site = site
with_dims (d ∷ dims) site = with_dims dims (with_name d.name site)

abbrev mutual
  -- how many variables a statement declares, in all its scopes
  pub locals_in : ParsedStmt → ℕ
  locals_in (ParsedBlock ss) = locals_in_all ss
  locals_in (ParsedDeclare p spec at name e) = 1
  locals_in (ParsedIf p e a) = locals_in a
  locals_in (ParsedIfElse p e a b) = locals_in a + locals_in b
  locals_in (ParsedWhile p e body) = locals_in body
  locals_in (ParsedDo body p e) = locals_in body
  locals_in (ParsedFor p start e update body) = locals_in start + locals_in update + locals_in body
  locals_in (ParsedSwitch p e segments) = locals_in_segments segments
  locals_in (ParsedForEach p is_tiled dims body) = length dims + locals_in body
  locals_in (ParsedForEachActive p at name body) = 1 + locals_in body
  locals_in (ParsedForEachUnique p at name e body) = 1 + locals_in body
  locals_in s = 0

  -- how many variables a list of statements declares
  pub locals_in_all : ParsedStmts → ℕ
  locals_in_all ParsedLast = 0
  locals_in_all (ParsedNext s ss) = locals_in s + locals_in_all ss

  -- how many variables the segments of a switch declare
  pub locals_in_segments : ParsedSegments → ℕ
  locals_in_segments ParsedNoMore = 0
  locals_in_segments (ParsedSegment p label ss rest) = locals_in_all ss + locals_in_segments rest

-- what the statement after this one finds: a declaration's scope begins at its end, what is declared inside another
-- statement stays inside
abbrev pub after : ParsedStmt → Site → Site
after (ParsedDeclare p spec at name e) site = with_name name site
after s site = past (locals_in s) site

-- what stands after a list of statements
abbrev pub after_all : ParsedStmts → Site → Site
after_all ParsedLast site = site
after_all (ParsedNext s ss) site = after_all ss (after s site)

-- a step's place, and what the debugger lists there
pub record NameStanding : Type 0 where
  pub place : Place
  pub names : List Binding

-- a step at this place, where this is in scope
abbrev pub standing : Place → Site → NameStanding
standing place site = record { place = place; names = listed site.environment }

-- in a `for`, after its start
abbrev pub at_test : ParsedStmt → Site → Site
at_test start site = after start (enclosed site)

-- in the body of a `for`
abbrev pub in_for : (start update : ParsedStmt) → Site → Site
in_for start update site = enclosed (past (locals_in update) (at_test start site))

-- in the body of `foreach_active` or `foreach_unique`, after its index variable
abbrev pub in_rounds : Name → Site → Site
in_rounds name site = enclosed (with_name name (enclosed site))

-- in the body of `foreach` or `foreach_tiled`
abbrev pub in_domain : List ParsedDim → Site → Site
in_domain dims site = enclosed (with_dims dims (enclosed site))

abbrev mutual
  -- the steps of a statement, by their numbers; a `for` variable is in scope at the test and the update, an index
  -- variable of a `foreach` form in the body alone
  pub standings_in : ParsedStmt → Site → List NameStanding
  standings_in ParsedEmpty site = []
  standings_in (ParsedBlock ss) site = standings_in_all ss (enclosed site)
  standings_in (ParsedDeclare p spec at name e) site = standing p site ∷ []
  standings_in (ParsedAssign p target e) site = standing p site ∷ []
  standings_in (ParsedChange p target op e) site = standing p site ∷ []
  standings_in (ParsedIncrement p target op) site = standing p site ∷ []
  standings_in (ParsedDoCall p name args) site = standing p site ∷ []
  standings_in (ParsedBreak p) site = standing p site ∷ []
  standings_in (ParsedContinue p) site = standing p site ∷ []
  standings_in (ParsedReturn p e) site = standing p site ∷ []
  standings_in (ParsedIf p e a) site = standing p site ∷ standings_in a (enclosed site)
  standings_in (ParsedIfElse p e a b) site = standing p site ∷ standings_in a (enclosed site) ++ standings_in b (enclosed (past (locals_in a) site))
  standings_in (ParsedWhile p e body) site = standings_in body (enclosed site) ++ standing p site ∷ []
  standings_in (ParsedDo body p e) site = standings_in body (enclosed site) ++ standing p site ∷ []
  standings_in (ParsedFor p start e update body) site =
      standings_in start (enclosed site) ++ (standings_in body (in_for start update site)
      ++ (standings_in update (at_test start site) ++ standing p (at_test start site) ∷ []))
  standings_in (ParsedSwitch p e segments) site = standing p site ∷ standings_in_segments segments (enclosed site)
  standings_in (ParsedForEach p is_tiled dims body) site = standing p site ∷ (standings_in body (in_domain dims site) ++ standing p site ∷ [])
  standings_in (ParsedForEachActive p at name body) site = standing p site ∷ (standings_in body (in_rounds name site) ++ standing p site ∷ [])
  standings_in (ParsedForEachUnique p at name e body) site = standing p site ∷ (standings_in body (in_rounds name site) ++ standing p site ∷ [])

  -- the steps of a list of statements
  pub standings_in_all : ParsedStmts → Site → List NameStanding
  standings_in_all ParsedLast site = []
  standings_in_all (ParsedNext s ss) site = standings_in s site ++ standings_in_all ss (after s site)

  -- the steps of the segments of a switch
  pub standings_in_segments : ParsedSegments → Site → List NameStanding
  standings_in_segments ParsedNoMore site = []
  standings_in_segments (ParsedSegment p label ss rest) site = standings_in_all ss site ++ standings_in_segments rest (after_all ss site)

abbrev mutual
  -- whether a statement holds a `return`
  pub has_return : ParsedStmt → Bool
  has_return (ParsedReturn p e) = true
  has_return (ParsedBlock ss) = one_returns ss
  has_return (ParsedIf p e a) = has_return a
  has_return (ParsedIfElse p e a b) = has_return a || has_return b
  has_return (ParsedWhile p e body) = has_return body
  has_return (ParsedDo body p e) = has_return body
  has_return (ParsedFor p start e update body) = has_return body
  has_return (ParsedSwitch p e segments) = some_segment_returns segments
  has_return (ParsedForEach p is_tiled dims body) = has_return body
  has_return (ParsedForEachActive p at name body) = has_return body
  has_return (ParsedForEachUnique p at name e body) = has_return body
  has_return s = false

  -- whether one of the statements holds a `return`
  pub one_returns : ParsedStmts → Bool
  one_returns ParsedLast = false
  one_returns (ParsedNext s ss) = has_return s || one_returns ss

  -- whether one of the segments holds a `return`
  pub some_segment_returns : ParsedSegments → Bool
  some_segment_returns ParsedNoMore = false
  some_segment_returns (ParsedSegment p label ss rest) = one_returns ss || some_segment_returns rest

-- the statements before the first one that holds a `return`
abbrev pub before_return : ParsedStmts → ParsedStmts
before_return ParsedLast = ParsedLast
before_return (ParsedNext s ss) = if has_return s then ParsedLast else ParsedNext s (before_return ss)

-- after parameters, each declared in the same scope
abbrev pub with_params : List ParsedParam → Site → Site
with_params [] site = site
with_params (p ∷ params) site = with_params params (with_name p.name site)

-- the file-scope variables, numbered in the order of the source from k on
abbrev pub file_bindings : ℕ → List ParsedGlobal → Environment
file_bindings k [] = []
file_bindings k (g ∷ globals) = bound g.name (File k) ∷ file_bindings (suc k) globals

-- what is in scope everywhere: the variables of the file
abbrev pub file_scope : ParsedSource → Environment
file_scope source = file_bindings 0 (globals_in source)

-- what the body of a function finds: its parameters and its outermost block are one scope
abbrev pub function_site : Environment → List ParsedParam → Site
function_site environment params = with_params params (record { environment = environment; here = []; next = 0 })

-- the steps of a function, the closing brace last; there the parameters and the variables of the outermost block are
-- listed that are declared before the first `return`
abbrev pub standings_of : Environment → ParsedFunction → List NameStanding
standings_of environment f =
    let site = function_site environment f.params in
    standings_in_all f.body site ++ standing f.closing (after_all (before_return f.body) site) ∷ []

-- the standings of a function, by its number
abbrev pub standings_at : ParsedSource → Option ParsedFunction → List NameStanding
standings_at source None = []
standings_at source (Some f) = standings_of (file_scope source) f

-- the names that a standing lists, if there is one
abbrev pub names_at : Option NameStanding → List Binding
names_at None = []
names_at (Some s) = s.names

-- what the debugger lists at a step
abbrev pub scope_at : ParsedSource → Spot → List Binding
scope_at source spot = names_at (slice_get (standings_at source (slice_get (functions_in source) spot.function.0)) spot.number)

-- the variable of a name at a step, else at file scope; with no step, at file scope alone
abbrev pub found_at : ParsedSource → Option Spot → Name → Option VarId
found_at source None name = declaration (file_scope source) name
found_at source (Some spot) name = declaration (scope_at source spot ++ file_scope source) name

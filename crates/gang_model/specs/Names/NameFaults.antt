-- The faults of names and of where statements and calls stand: S5 UnknownName, S6 Duplicate, S11 BadControl, S12 NestedCall
-- (ISPC User's Guide, "Control flow", for `break`, `continue`, `return` and `foreach`; which calls stand in expressions, and
-- the places of faults, are a choice of this project). `resolve` answers the least of `name_faults`.
use Rattle.std.specs.Prelude.{Bool, true, false, not, ◌&&◌, ◌||◌, ◌==◌, List, [], ◌∷◌, ◌++◌, map, Option, Some, None, is_some, if◌then◌else◌}
use Rattle.std.specs.List.{list_any, flat_map}
use Rattle.gang_types.specs.declared.places.Place.{Place}
use Rattle.gang_model.specs.declared.forms.Label.{Label}
use Rattle.gang_model.specs.declared.refusals.RefusalNumber.TheVariants.{S5, S6, S11, S12}
use Rattle.gang_model.specs.declared.refusals.SourceRefusal.{SourceRefusal}
use Rattle.gang_model.specs.Source.Parsed.{Name, ParsedExpr, ParsedNumber, ParsedBool, ParsedName, ParsedIndex, ParsedCall, ParsedParen, ParsedUnary, ParsedCast, ParsedBinary, ParsedChoice, ParsedArgs, ParsedEnd, ParsedValue, ParsedPart, ParsedPartFrom, ParsedDim, ParsedTarget, ParsedStmt, ParsedEmpty, ParsedBlock, ParsedDeclare, ParsedAssign, ParsedChange, ParsedIncrement, ParsedDoCall, ParsedBreak, ParsedContinue, ParsedReturn, ParsedIf, ParsedIfElse, ParsedWhile, ParsedDo, ParsedFor, ParsedSwitch, ParsedForEach, ParsedForEachActive, ParsedForEachUnique, ParsedStmts, ParsedLast, ParsedNext, ParsedSegments, ParsedNoMore, ParsedSegment, ParsedParam, ParsedFunction, ParsedGlobal, ParsedSource, functions_in, globals_in}
use Rattle.gang_model.specs.Source.Judged.{fault_if, or_own}
use Rattle.gang_model.specs.Types.LibraryTable.{StatementCall, Asserts, is_among, is_library_name, statement_call}
use Rattle.gang_model.specs.Types.Signatures.{same_signature}
use Rattle.gang_model.specs.Names.Scope.{Environment, declaration, is_built_in, Site, with_name, enclosed, past, locals_in, after, after_all, at_test, in_for, in_rounds, in_domain, function_site, file_scope}

-- what may stand at a place: calls of these functions, and `break`, `continue`, `return`, `foreach`
pub record Allowed : Type 0 where
  pub functions : List Name
  pub breaks : Bool
  pub continues : Bool
  pub returns : Bool
  pub domains : Bool

-- ---- expressions

-- S5 at a name that nothing declares
abbrev pub unknown_name : Environment → Place → Name → List SourceRefusal
unknown_name environment p name = fault_if (not (is_some (declaration environment name) || is_built_in name)) S5 p

-- whether a call may stand only as a statement or whole: of a user's function, `assert` or a packed call
abbrev pub stands_whole : List Name → Name → Bool
stands_whole functions name = is_among name functions || is_some (statement_call name)

-- a call inside an expression: S12 if it may not stand there, S5 if there is no such function
abbrev pub inner_call : List Name → Place → Name → List SourceRefusal
inner_call functions p name = if stands_whole functions name then fault_if true S12 p else fault_if (not (is_library_name name)) S5 p

abbrev mutual
  -- an expression; an index or a call with a fault inside has none of its own
  pub names_in : ParsedExpr → List Name → Environment → List SourceRefusal
  names_in (ParsedNumber p n is_unsigned is_long) functions environment = []
  names_in (ParsedBool p b) functions environment = []
  names_in (ParsedName p name) functions environment = unknown_name environment p name
  names_in (ParsedIndex p name e) functions environment = or_own (names_in e functions environment) (unknown_name environment p name)
  names_in (ParsedCall p name args) functions environment = or_own (names_of_args args functions environment) (inner_call functions p name)
  names_in (ParsedParen p e) functions environment = names_in e functions environment
  names_in (ParsedUnary p op e) functions environment = names_in e functions environment
  names_in (ParsedCast p rate type e) functions environment = names_in e functions environment
  names_in (ParsedBinary op a b) functions environment = names_in a functions environment ++ names_in b functions environment
  names_in (ParsedChoice c a b) functions environment = names_in c functions environment ++ (names_in a functions environment ++ names_in b functions environment)

  -- arguments; `&a[e]` is no expression, so that its name counts beside what stands in e
  pub names_of_args : ParsedArgs → List Name → Environment → List SourceRefusal
  names_of_args ParsedEnd functions environment = []
  names_of_args (ParsedValue e args) functions environment = names_in e functions environment ++ names_of_args args functions environment
  names_of_args (ParsedPart p name args) functions environment = unknown_name environment p name ++ names_of_args args functions environment
  names_of_args (ParsedPartFrom p name e args) functions environment =
      unknown_name environment p name ++ (names_in e functions environment ++ names_of_args args functions environment)

-- a call that stands whole after `=` or `return`: `assert` gives nothing, and is S12
abbrev pub whole_call_names : Option StatementCall → Place → ParsedArgs → List Name → Environment → List SourceRefusal
whole_call_names (Some Asserts) p args functions environment = or_own (names_of_args args functions environment) (fault_if true S12 p)
whole_call_names call p args functions environment = names_of_args args functions environment

-- a right side: a call that stands whole, parentheses left out, or an expression
abbrev pub right_names : ParsedExpr → List Name → Environment → List SourceRefusal
right_names (ParsedParen p e) functions environment = right_names e functions environment
right_names (ParsedCall p name args) functions environment =
    if stands_whole functions name then whole_call_names (statement_call name) p args functions environment else names_in (ParsedCall p name args) functions environment
right_names e functions environment = names_in e functions environment

-- the right side of a declaration or a `return`, if there is one
abbrev pub right_names_of : Option ParsedExpr → List Name → Environment → List SourceRefusal
right_names_of None functions environment = []
right_names_of (Some e) functions environment = right_names e functions environment

-- an expression where no call stands whole, if there is one: an index or a test
abbrev pub names_in_some : Option ParsedExpr → List Name → Environment → List SourceRefusal
names_in_some None functions environment = []
names_in_some (Some e) functions environment = names_in e functions environment

-- what is assigned
abbrev pub target_names : ParsedTarget → List Name → Environment → List SourceRefusal
target_names target functions environment = unknown_name environment target.at target.name ++ names_in_some target.index functions environment

-- what is given to a target: a call stands whole only for a variable
abbrev pub assigned_names : Option ParsedExpr → ParsedExpr → List Name → Environment → List SourceRefusal
assigned_names None e functions environment = right_names e functions environment
assigned_names (Some index) e functions environment = names_in e functions environment

-- a call as a statement: S12 for a library call that gives a value, S5 if there is no such function
abbrev pub statement_names : Place → Name → ParsedArgs → List Name → Environment → List SourceRefusal
statement_names p name args functions environment =
    or_own (names_of_args args functions environment) (if is_library_name name then fault_if true S12 p else fault_if (not (stands_whole functions name)) S5 p)

-- ---- declarations, control and labels

-- S6 at a name that its scope has already, or that nothing may declare
abbrev pub twice : Site → Place → Name → List SourceRefusal
twice site p name = fault_if (is_among name site.here || is_built_in name) S6 p

-- in a loop
abbrev pub in_loop : Allowed → Allowed
in_loop may = record may { breaks = true; continues = true }

-- in a switch
abbrev pub in_switch : Allowed → Allowed
in_switch may = record may { breaks = true }

-- in `foreach_active` and `foreach_unique`: `continue` ends the round, and `break` and `return` may not stand there
abbrev pub in_round : Allowed → Allowed
in_round may = record may { breaks = false; continues = true; returns = false }

-- in `foreach` and `foreach_tiled`, where neither stands inside
abbrev pub in_domain_round : Allowed → Allowed
in_domain_round may = record may { breaks = false; continues = true; returns = false; domains = false }

-- whether two labels have the same number, or both are `default`
abbrev pub same_label : Option Label → Option Label → Bool
same_label None None = true
same_label None (Some b) = false
same_label (Some a) None = false
same_label (Some a) (Some b) = (a.value == b.value) && ((a.value == 0) || (if a.is_negative then b.is_negative else not b.is_negative))

-- the dimensions of a `foreach`: the bounds are outside the index variables' scope
abbrev pub dims_names : List ParsedDim → List Name → Environment → Site → List SourceRefusal
dims_names [] functions outside site = []
dims_names (d ∷ dims) functions outside site =
    (twice site d.at d.name ++ (names_in d.low functions outside ++ names_in d.high functions outside)) ++ dims_names dims functions outside (with_name d.name site)

-- ---- statements

abbrev mutual
  -- a statement
  pub stmt_names : ParsedStmt → Allowed → Site → List SourceRefusal
  stmt_names ParsedEmpty may site = []
  stmt_names (ParsedBlock ss) may site = stmts_names ss may (enclosed site)
  stmt_names (ParsedDeclare p spec at name e) may site = twice site at name ++ right_names_of e may.functions site.environment
  stmt_names (ParsedAssign p target e) may site = target_names target may.functions site.environment ++ assigned_names target.index e may.functions site.environment
  stmt_names (ParsedChange p target op e) may site = target_names target may.functions site.environment ++ names_in e may.functions site.environment
  stmt_names (ParsedIncrement p target op) may site = target_names target may.functions site.environment
  stmt_names (ParsedDoCall p name args) may site = statement_names p name args may.functions site.environment
  stmt_names (ParsedBreak p) may site = fault_if (not may.breaks) S11 p
  stmt_names (ParsedContinue p) may site = fault_if (not may.continues) S11 p
  stmt_names (ParsedReturn p e) may site = fault_if (not may.returns) S11 p ++ right_names_of e may.functions site.environment
  stmt_names (ParsedIf p e a) may site = names_in e may.functions site.environment ++ stmt_names a may (enclosed site)
  stmt_names (ParsedIfElse p e a b) may site =
      names_in e may.functions site.environment ++ (stmt_names a may (enclosed site) ++ stmt_names b may (enclosed (past (locals_in a) site)))
  stmt_names (ParsedWhile p e body) may site = names_in e may.functions site.environment ++ stmt_names body (in_loop may) (enclosed site)
  stmt_names (ParsedDo body p e) may site = stmt_names body (in_loop may) (enclosed site) ++ names_in e may.functions site.environment
  stmt_names (ParsedFor p start e update body) may site =
      (stmt_names start may (enclosed site) ++ names_in_some e may.functions (at_test start site).environment)
      ++ (stmt_names update may (at_test start site) ++ stmt_names body (in_loop may) (in_for start update site))
  stmt_names (ParsedSwitch p e segments) may site = names_in e may.functions site.environment ++ segments_names segments [] (in_switch may) (enclosed site)
  stmt_names (ParsedForEach p is_tiled dims body) may site =
      fault_if (not may.domains) S11 p ++ (dims_names dims may.functions site.environment (enclosed site) ++ stmt_names body (in_domain_round may) (in_domain dims site))
  stmt_names (ParsedForEachActive p at name body) may site = twice (enclosed site) at name ++ stmt_names body (in_round may) (in_rounds name site)
  stmt_names (ParsedForEachUnique p at name e body) may site =
      twice (enclosed site) at name ++ (names_in e may.functions site.environment ++ stmt_names body (in_round may) (in_rounds name site))

  -- a list of statements, each after the ones before it
  pub stmts_names : ParsedStmts → Allowed → Site → List SourceRefusal
  stmts_names ParsedLast may site = []
  stmts_names (ParsedNext s ss) may site = stmt_names s may site ++ stmts_names ss may (after s site)

  -- the segments of a switch, after these labels: S6 at a label that stands before too
  pub segments_names : ParsedSegments → List (Option Label) → Allowed → Site → List SourceRefusal
  segments_names ParsedNoMore before may site = []
  segments_names (ParsedSegment p label ss rest) before may site =
      fault_if (list_any (same_label label) before) S6 p ++ (stmts_names ss may site ++ segments_names rest (label ∷ before) may (after_all ss site))

-- ---- the whole source

-- S6 at a parameter with the name of one before it
abbrev pub params_twice : List ParsedParam → Site → List SourceRefusal
params_twice [] site = []
params_twice (p ∷ params) site = twice site p.at p.name ++ params_twice params (with_name p.name site)

-- what may stand in a function of a source with functions of these names, outside loops and foreach forms
abbrev pub in_function : List Name → Allowed
in_function functions = record { functions = functions; breaks = false; continues = false; returns = true; domains = true }

-- a function: S6 at a name of the library's, and the faults in its parameters and its body
abbrev pub function_names : List Name → Environment → ParsedFunction → List SourceRefusal
function_names functions environment f =
    fault_if (is_library_name f.name || is_some (statement_call f.name)) S6 f.at
    ++ (params_twice f.params (function_site environment [])
    ++ stmts_names f.body (in_function functions) (function_site environment f.params))

-- the file-scope variables, after those of these names
abbrev pub globals_twice : List ParsedGlobal → List Name → List SourceRefusal
globals_twice [] before = []
globals_twice (g ∷ globals) before = fault_if (is_among g.name before || is_built_in g.name) S6 g.at ++ globals_twice globals (g.name ∷ before)

-- S6 at the name of a function, where one before has its name and the same parameter types and rates
abbrev pub functions_twice : List ParsedFunction → List ParsedFunction → List SourceRefusal
functions_twice [] before = []
functions_twice (f ∷ functions) before = fault_if (list_any (same_signature f) before) S6 f.at ++ functions_twice functions (f ∷ before)

-- the faults of names
abbrev pub name_faults : ParsedSource → List SourceRefusal
name_faults source =
    globals_twice (globals_in source) []
    ++ (functions_twice (functions_in source) []
    ++ flat_map (function_names (map (λ f. f.name) (functions_in source)) (file_scope source)) (functions_in source))

-- The variables of a function with their names, by their numbers: its parameters, then what its body declares, in the order of
-- the source (a choice of this project).
use Rattle.std.specs.Prelude.{ℕ, suc, ◌+◌, List, [], ◌∷◌, ◌++◌, length}
use Rattle.gang_types.specs.declared.places.VarId.TheVariants.{Local}
use Rattle.gang_model.specs.Types.Tree.{Variable}
use Rattle.gang_model.specs.Source.Parsed.{ParsedDim, ParsedStmt, ParsedBlock, ParsedDeclare, ParsedIf, ParsedIfElse, ParsedWhile, ParsedDo, ParsedFor, ParsedSwitch, ParsedForEach, ParsedForEachActive, ParsedForEachUnique, ParsedStmts, ParsedLast, ParsedNext, ParsedSegments, ParsedNoMore, ParsedSegment, ParsedParam, ParsedFunction}
use Rattle.gang_model.specs.Names.Scope.{Binding, bound, locals_in, locals_in_all}

-- the index variables of a `foreach`, numbered from k on
abbrev pub dim_bindings : ℕ → List ParsedDim → List Binding
dim_bindings k [] = []
dim_bindings k (d ∷ dims) = bound d.name (Local k) ∷ dim_bindings (suc k) dims

abbrev mutual
  -- the variables that a statement declares, in the order of the source, numbered from k on
  pub bindings_in : ParsedStmt → ℕ → List Binding
  bindings_in (ParsedBlock ss) k = bindings_in_all ss k
  bindings_in (ParsedDeclare p spec at name e) k = bound name (Local k) ∷ []
  bindings_in (ParsedIf p e a) k = bindings_in a k
  bindings_in (ParsedIfElse p e a b) k = bindings_in a k ++ bindings_in b (k + locals_in a)
  bindings_in (ParsedWhile p e body) k = bindings_in body k
  bindings_in (ParsedDo body p e) k = bindings_in body k
  bindings_in (ParsedFor p start e update body) k =
      bindings_in start k ++ (bindings_in update (k + locals_in start) ++ bindings_in body (k + locals_in start + locals_in update))
  bindings_in (ParsedSwitch p e segments) k = bindings_in_segments segments k
  bindings_in (ParsedForEach p is_tiled dims body) k = dim_bindings k dims ++ bindings_in body (k + length dims)
  bindings_in (ParsedForEachActive p at name body) k = bound name (Local k) ∷ bindings_in body (suc k)
  bindings_in (ParsedForEachUnique p at name e body) k = bound name (Local k) ∷ bindings_in body (suc k)
  bindings_in s k = []

  -- the variables that a list of statements declares
  pub bindings_in_all : ParsedStmts → ℕ → List Binding
  bindings_in_all ParsedLast k = []
  bindings_in_all (ParsedNext s ss) k = bindings_in s k ++ bindings_in_all ss (k + locals_in s)

  -- the variables that the segments of a switch declare
  pub bindings_in_segments : ParsedSegments → ℕ → List Binding
  bindings_in_segments ParsedNoMore k = []
  bindings_in_segments (ParsedSegment p label ss rest) k = bindings_in_all ss k ++ bindings_in_segments rest (k + locals_in_all ss)

-- the parameters, numbered from k on
abbrev pub param_bindings : ℕ → List ParsedParam → List Binding
param_bindings k [] = []
param_bindings k (p ∷ params) = bound p.name (Local k) ∷ param_bindings (suc k) params

-- the declarations of a function, by their numbers: its parameters, then what its body declares
abbrev pub function_bindings : ParsedFunction → List Binding
function_bindings f = param_bindings 0 f.params ++ bindings_in_all f.body (length f.params)

-- the names and numbers of variables
abbrev pub variable_bindings : List Variable → List Binding
variable_bindings [] = []
variable_bindings (v ∷ variables) = bound v.name v.id ∷ variable_bindings variables

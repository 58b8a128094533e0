-- Trees, without where they lie in memory.
use Rattle.std.specs.Prelude.{List, [], ◌∷◌, map, option_map}
use Rattle.gang_types.specs.declared.places.Place.{Place}
use Rattle.gang_model.specs.Source.Parsed.{ParsedExpr, ParsedDim, ParsedTarget, ParsedStmt, ParsedEmpty, ParsedBlock, ParsedDeclare, ParsedAssign, ParsedChange, ParsedIncrement, ParsedDoCall, ParsedBreak, ParsedContinue, ParsedReturn, ParsedIf, ParsedIfElse, ParsedWhile, ParsedDo, ParsedFor, ParsedSwitch, ParsedForEach, ParsedForEachActive, ParsedForEachUnique, ParsedStmts, ParsedLast, ParsedNext, ParsedSegments, ParsedNoMore, ParsedSegment, ParsedParam, ParsedFunction, ParsedGlobal, ParsedItem, ParsedFunctionItem, ParsedGlobalItem, ParsedSource}
use Rattle.source_tree.specs.Expressions.{expr_view, args_view}
use Rattle.source_tree.specs.declared.tree.Tree.{Tree}
use Rattle.source_tree.specs.declared.tree.Item.{Item}
use Rattle.source_tree.specs.declared.tree.Item.TheVariants as item
use Rattle.source_tree.specs.declared.tree.Function.{Function}
use Rattle.source_tree.specs.declared.tree.Param.{Param}
use Rattle.source_tree.specs.declared.tree.GlobalVariable.{GlobalVariable}
use Rattle.source_tree.specs.declared.tree.Target.{Target}
use Rattle.source_tree.specs.declared.tree.Dim.{Dim}
use Rattle.source_tree.specs.declared.tree.Stmt.{Stmt, Empty, Block', Declare, Assign, Change, Increment, Call, Break, Continue, Return, If', While', Do', For', Switch', ForEach', ForEachActive', ForEachUnique', Held-Stmt-If-3, None', Some', Row_of-Stmt, end_of-Stmt, more_of-Stmt, Row_of-Segment, end_of-Segment, more_of-Segment}
use Rattle.source_tree.specs.declared.tree.Segment.{Segment}

abbrev pub target_view : Target → ParsedTarget
target_view t = record { at = t.place; name = t.name.items; index = option_map expr_view t.index }

abbrev pub dim_view : Dim → ParsedDim
dim_view d = record { at = d.place; name = d.name.items; low = expr_view d.low; high = expr_view d.high }

abbrev mutual
  pub stmt_view : Stmt → ParsedStmt
  stmt_view Empty = ParsedEmpty
  stmt_view (Block' shape ss) = ParsedBlock (row_view ss)
  stmt_view (Declare at spec name_at name value) = ParsedDeclare at spec name_at name.items (option_map expr_view value)
  stmt_view (Assign at target e) = ParsedAssign at (target_view target) (expr_view e)
  stmt_view (Change at target op e) = ParsedChange at (target_view target) op (expr_view e)
  stmt_view (Increment at target op) = ParsedIncrement at (target_view target) op
  stmt_view (Call at name es) = ParsedDoCall at name.items (args_view es.items)
  stmt_view (Break at) = ParsedBreak at
  stmt_view (Continue at) = ParsedContinue at
  stmt_view (Return at e) = ParsedReturn at (option_map expr_view e)
  stmt_view (If' at e p x other) = if_view at (expr_view e) (stmt_view x) other
  stmt_view (While' at e p x) = ParsedWhile at (expr_view e) (stmt_view x)
  stmt_view (Do' p x at e) = ParsedDo (stmt_view x) at (expr_view e)
  stmt_view (For' at p start test q update r x) = ParsedFor at (stmt_view start) (option_map expr_view test) (stmt_view update) (stmt_view x)
  stmt_view (Switch' at e shape segments) = ParsedSwitch at (expr_view e) (segment_row_view segments)
  stmt_view (ForEach' at is_tiled dims p x) = ParsedForEach at is_tiled (map dim_view dims.items) (stmt_view x)
  stmt_view (ForEachActive' at name_at name p x) = ParsedForEachActive at name_at name.items (stmt_view x)
  stmt_view (ForEachUnique' at name_at name e p x) = ParsedForEachUnique at name_at name.items (expr_view e) (stmt_view x)

  pub if_view : Place → ParsedExpr → ParsedStmt → Held-Stmt-If-3 → ParsedStmt
  if_view at e x None' = ParsedIf at e x
  if_view at e x (Some' p y) = ParsedIfElse at e x (stmt_view y)

  pub row_view : {n : _} → Row_of-Stmt n → ParsedStmts
  row_view end_of-Stmt = ParsedLast
  row_view (more_of-Stmt s ss) = ParsedNext (stmt_view s) (row_view ss)

  pub segment_row_view : {n : _} → Row_of-Segment n → ParsedSegments
  segment_row_view end_of-Segment = ParsedNoMore
  segment_row_view (more_of-Segment at label shape ss segments) = ParsedSegment at label (row_view ss) (segment_row_view segments)

abbrev pub stmts_view : List Stmt → ParsedStmts
stmts_view [] = ParsedLast
stmts_view (s ∷ ss) = ParsedNext (stmt_view s) (stmts_view ss)

-- a segment, and those after it
abbrev pub with_segment : Segment → ParsedSegments → ParsedSegments
with_segment s segments = ParsedSegment s.place s.label (stmts_view s.body.items) segments

abbrev pub segments_view : List Segment → ParsedSegments
segments_view [] = ParsedNoMore
segments_view (s ∷ segments) = with_segment s (segments_view segments)

abbrev pub param_view : Param → ParsedParam
param_view p = record { at = p.place; name = p.name.items; spec = p.spec; is_array = p.is_array }

abbrev pub function_view : Function → ParsedFunction
function_view f = record { at = f.place; name = f.name.items; spec = f.spec; params = map param_view f.params.items; body = stmts_view f.body.items; closing = f.closing }

abbrev pub global_view : GlobalVariable → ParsedGlobal
global_view g = record { at = g.place; name = g.name.items; spec = g.spec; form = g.form }

abbrev pub item_view : Item → ParsedItem
item_view (item.Function f) = ParsedFunctionItem (function_view f)
item_view (item.Global g) = ParsedGlobalItem (global_view g)

abbrev pub tree_view : Tree → ParsedSource
tree_view tree = map item_view tree.items.items

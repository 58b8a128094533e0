-- Programs, without where they lie in memory.
use Rattle.std.specs.Prelude.{Box, List, [], ◌∷◌, map, option_map}
use Rattle.std.specs.declared.alloc.Global.{Global as Allocator}
use Rattle.gang_model.specs.Types.Tree as t
use Rattle.gang_model.specs.Types.Resolved.{standing_with}
use Rattle.ispc_names_table.specs.Scopes.{standings_view}
use Rattle.typed_tree.specs.declared.expressions.Var.{Var}
use Rattle.typed_tree.specs.declared.expressions.Reduction.{Reduction}
use Rattle.typed_tree.specs.declared.expressions.Reduction.TheVariants as reduction
use Rattle.typed_tree.specs.declared.expressions.Scan.{Scan}
use Rattle.typed_tree.specs.declared.expressions.Scan.TheVariants as scan
use Rattle.typed_tree.specs.declared.expressions.OneCall.{OneCall}
use Rattle.typed_tree.specs.declared.expressions.OneCall.TheVariants as one
use Rattle.typed_tree.specs.declared.expressions.TwoCall.{TwoCall}
use Rattle.typed_tree.specs.declared.expressions.TwoCall.TheVariants as two
use Rattle.typed_tree.specs.declared.expressions.Expr.{Expr, Number, ProgramIndex, ProgramCount, LaneMask, Read, Element', Unary', Binary', Convert', AndAlso', OrElse', Choice', Reduce', ScanLanes', OfOne', OfTwo', Extract', Insert', Rotate', Shift', Shuffle', ShuffleTwo', Select'}
use Rattle.typed_tree.specs.declared.statements.Target.{Target}
use Rattle.typed_tree.specs.declared.statements.Target.TheVariants as target
use Rattle.typed_tree.specs.declared.statements.Arg.{Arg}
use Rattle.typed_tree.specs.declared.statements.Arg.TheVariants as arg
use Rattle.typed_tree.specs.declared.statements.ResultFor.{ResultFor}
use Rattle.typed_tree.specs.declared.statements.ResultFor.TheVariants as result
use Rattle.typed_tree.specs.declared.statements.Dimension.{Dimension}
use Rattle.typed_tree.specs.declared.statements.Rounds.{Rounds}
use Rattle.typed_tree.specs.declared.statements.Rounds.TheVariants as rounds
use Rattle.typed_tree.specs.declared.statements.Stmt.{Stmt, Empty, Block', Then', Declare, Assign, Change, If', Loop', BodyFirst', Break, Continue, Return, Switch', ForEach', Call, Check, PackedStore, PackedLoad, Row_of-Stmt, end_of-Stmt, more_of-Stmt, Row_of-Segment, end_of-Segment, more_of-Segment}
use Rattle.typed_tree.specs.declared.statements.Segment.{Segment}
use Rattle.typed_tree.specs.declared.program.Variable.{Variable}
use Rattle.typed_tree.specs.declared.program.Function.{Function}
use Rattle.typed_tree.specs.declared.program.Global.{Global}
use Rattle.typed_tree.specs.declared.program.Program.{Program}

abbrev pub var_view : Var → t.Var
var_view v = record { id = v.id; type = v.value_type; rate = v.rate }

abbrev pub reduction_view : Reduction → t.Reduction
reduction_view reduction.AnyLane = t.AnyLane
reduction_view reduction.AllLanes = t.AllLanes
reduction_view reduction.NoLane = t.NoLane
reduction_view reduction.ReduceAdd = t.ReduceAdd
reduction_view reduction.ReduceMin = t.ReduceMin
reduction_view reduction.ReduceMax = t.ReduceMax
reduction_view reduction.ReduceEqual = t.ReduceEqual
reduction_view reduction.PopCountLanes = t.PopCountLanes
reduction_view reduction.PackMask = t.PackMask

abbrev pub scan_view : Scan → t.ScanOf
scan_view scan.Add = t.ScanAdd
scan_view scan.And = t.ScanAnd
scan_view scan.Or = t.ScanOr

abbrev pub one_view : OneCall → t.OneCall
one_view one.Absolute = t.Absolute
one_view one.PopCount = t.PopCount

abbrev pub two_view : TwoCall → t.TwoCall
two_view two.Lesser = t.Lesser
two_view two.Larger = t.Larger

abbrev pub expr_view : Expr → t.Expr
expr_view (Number n) = t.Number n
expr_view ProgramIndex = t.ProgramIndex
expr_view ProgramCount = t.ProgramCount
expr_view LaneMask = t.LaneMask
expr_view (Read v) = t.Read (var_view v)
expr_view (Element' array p e) = t.Element array (expr_view e)
expr_view (Unary' op ty p e) = t.Unary op ty (expr_view e)
expr_view (Binary' op ty p a q b) = t.Binary op ty (expr_view a) (expr_view b)
expr_view (Convert' from to p e) = t.Convert from to (expr_view e)
expr_view (AndAlso' p a q b) = t.And (expr_view a) (expr_view b)
expr_view (OrElse' p a q b) = t.Or (expr_view a) (expr_view b)
expr_view (Choice' p c q a r b) = t.Choice (expr_view c) (expr_view a) (expr_view b)
expr_view (Reduce' f ty p e) = t.Reduce (reduction_view f) ty (expr_view e)
expr_view (ScanLanes' f ty p e) = t.Scan (scan_view f) ty (expr_view e)
expr_view (OfOne' f ty p e) = t.OfOne (one_view f) ty (expr_view e)
expr_view (OfTwo' f ty p a q b) = t.OfTwo (two_view f) ty (expr_view a) (expr_view b)
expr_view (Extract' p e q i) = t.Extract (expr_view e) (expr_view i)
expr_view (Insert' p e q i r x) = t.Insert (expr_view e) (expr_view i) (expr_view x)
expr_view (Rotate' p e q i) = t.Rotate (expr_view e) (expr_view i)
expr_view (Shift' p e q i) = t.Shift (expr_view e) (expr_view i)
expr_view (Shuffle' p e q i) = t.Shuffle (expr_view e) (expr_view i)
expr_view (ShuffleTwo' p e q x r i) = t.ShuffleTwo (expr_view e) (expr_view x) (expr_view i)
expr_view (Select' p c q a r b) = t.Select (expr_view c) (expr_view a) (expr_view b)

-- an expression in a box
abbrev pub boxed_view : Box Expr Allocator → t.Expr
boxed_view place = expr_view place.value

abbrev pub target_view : Target → t.Target
target_view (target.Scalar v) = t.Scalar (var_view v)
target_view (target.Element array rate e) = t.ElementOf array rate (boxed_view e)

abbrev pub arg_view : Arg → t.Arg
arg_view (arg.Value v e) = t.Value (var_view v) (boxed_view e)
arg_view (arg.Array parameter array from) = t.Array parameter array (option_map boxed_view from)

abbrev pub result_view : ResultFor → t.ResultFor
result_view result.Nothing = t.Nothing
result_view (result.Declares v) = t.Declares (var_view v)
result_view (result.Assigns v) = t.Assigns (var_view v)
result_view result.Returns = t.Returns

abbrev pub dimension_view : Dimension → t.Dimension
dimension_view d = record { index = var_view d.index; low = boxed_view d.low; high = boxed_view d.high }

abbrev pub rounds_view : Rounds → t.RoundsOf
rounds_view (rounds.Rows dims) = t.Rows (map dimension_view dims.items)
rounds_view (rounds.Tiles dims) = t.Tiles (map dimension_view dims.items)
rounds_view (rounds.EachLane v) = t.EachLane (var_view v)
rounds_view (rounds.EachValue v e) = t.EachValue (var_view v) (boxed_view e)

abbrev mutual
  pub stmt_view : Stmt → t.Stmt
  stmt_view Empty = t.Empty
  stmt_view (Block' shape ss) = row_view ss
  stmt_view (Then' p first q rest) = t.Then (stmt_view first) (stmt_view rest)
  stmt_view (Declare n v e) = t.Declare n (var_view v) (option_map boxed_view e)
  stmt_view (Assign n target e) = t.Assign n (target_view target) (boxed_view e)
  stmt_view (Change n target ty op value_ty e) = t.Change n (target_view target) ty op value_ty (boxed_view e)
  stmt_view (If' n e p x q y) = t.If n (boxed_view e) (stmt_view x) (stmt_view y)
  stmt_view (Loop' n e p update q body) = t.Loop n (boxed_view e) (stmt_view update) (stmt_view body)
  stmt_view (BodyFirst' n e p body) = t.BodyFirst n (boxed_view e) (stmt_view body)
  stmt_view (Break n) = t.Break n
  stmt_view (Continue n) = t.Continue n
  stmt_view (Return n e) = t.Return n (option_map boxed_view e)
  stmt_view (Switch' n e shape segments) = t.Switch n (boxed_view e) (segment_row_view segments)
  stmt_view (ForEach' n r p body) = t.ForEach n (rounds_view r) (stmt_view body)
  stmt_view (Call n f args r) = t.Call n f (map arg_view args.items) (result_view r)
  stmt_view (Check n e) = t.Check n (boxed_view e)
  stmt_view (PackedStore n array from e r) = t.PackedStore n array (option_map boxed_view from) (boxed_view e) (result_view r)
  stmt_view (PackedLoad n array from v r) = t.PackedLoad n array (option_map boxed_view from) (var_view v) (result_view r)

  pub row_view : {n : _} → Row_of-Stmt n → t.Stmt
  row_view end_of-Stmt = t.Empty
  row_view (more_of-Stmt s ss) = t.Then (stmt_view s) (row_view ss)

  pub segment_row_view : {n : _} → Row_of-Segment n → t.Stmt
  segment_row_view end_of-Segment = t.Empty
  segment_row_view (more_of-Segment label shape body segments) = t.Segment label (row_view body) (segment_row_view segments)

-- statements in order
abbrev pub stmts_view : List Stmt → t.Stmt
stmts_view [] = t.Empty
stmts_view (s ∷ ss) = t.Then (stmt_view s) (stmts_view ss)

-- the segments of a switch, in order
abbrev pub segments_view : List Segment → t.Stmt
segments_view [] = t.Empty
segments_view (s ∷ ss) = t.Segment s.label (stmts_view s.body.items) (segments_view ss)

abbrev pub variable_view : Variable → t.Variable
variable_view v = record { name = v.name.items; id = v.id; type = v.value_type; rate = v.rate; is_array = v.is_array; is_parameter = v.is_parameter; is_constant = v.is_constant }

abbrev pub function_view : Function → t.Function
function_view f = record {
  name = f.name.items;
  result = f.result;
  result_type = f.result_type;
  body = stmts_view f.body.items;
  standings = map (standing_with (map variable_view f.variables.items)) (standings_view f.scopes);
}

abbrev pub global_view : Global → t.Global
global_view g = record { variable = variable_view g.variable; word = g.word; len = g.length }

abbrev pub program_view : Program → t.Program
program_view p = record { functions = map function_view p.functions.items; globals = map global_view p.globals.items }

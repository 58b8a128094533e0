-- Expressions and statements in boxes.
use Rattle.std.specs.Prelude.{Box}
use Rattle.std.specs.declared.alloc.Global.{Global as Allocator}
use Rattle.gang_model.specs.Types.Tree as t
use Rattle.typed_tree.specs.declared.expressions.Expr.{Expr}
use Rattle.typed_tree.specs.declared.statements.Stmt.{Stmt}
use Rattle.typed_tree.specs.Views.{stmt_view}

abbrev pub BoxedExpr : Type 0
BoxedExpr = Box Expr Allocator

abbrev pub BoxedStmt : Type 0
BoxedStmt = Box Stmt Allocator

abbrev pub boxed_stmt_view : BoxedStmt → t.Stmt
boxed_stmt_view place = stmt_view place.value

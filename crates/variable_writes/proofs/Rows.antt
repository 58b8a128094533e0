-- The statements of a block, as the program holds them, and statements that set nothing by themselves.
use Rattle.std.proofs.Common.{◌≡◌, ℕ, List, false, refl, ap, sym, ◌∙◌, Vec, Global, Option}
use Rattle.gang_types.specs.declared.operators.BinaryOp.{BinaryOp}
use Rattle.gang_types.specs.declared.places.VarId.{VarId}
use Rattle.gang_types.specs.declared.types.IntType.{IntType}
use Rattle.typed_tree.specs.declared.expressions.Var.{Var}
use Rattle.typed_tree.specs.declared.statements.ResultFor.{ResultFor}
use Rattle.typed_tree.specs.declared.statements.Stmt.{Stmt, Empty, Block, Block', Then', Declare, Assign, Change, If', Loop', BodyFirst', Break, Continue, Return, Switch', ForEach', Call, Check, PackedStore, PackedLoad, Row_of-Stmt, end_of-Stmt, more_of-Stmt}
use Rattle.typed_tree.specs.declared.statements.Target.{Target}
use Rattle.typed_tree.specs.Boxes.{BoxedExpr}
use Rattle.typed_tree.specs.Views.{row_view, stmt_view, stmts_view}
use Rattle.typed_tree.proofs.StatementRows.{view_block}
use Rattle.variable_writes.specs.Writes.{step_sets}

-- a block's view, from the list that is walked
pub block_is : (s : Stmt) (v : Vec Stmt Global) (items : List Stmt) → s ≡ Block v → items ≡ v.items → stmt_view s ≡ stmts_view items
block_is s v items is same = ap stmt_view is ∙ view_block v ∙ ap stmts_view (sym same)

module _ (id : VarId) (number : ℕ) where
  row_sets_nothing : {n : _} (row : Row_of-Stmt n) → false ≡ step_sets id number (row_view row)
  row_sets_nothing end_of-Stmt = refl
  row_sets_nothing (more_of-Stmt first rest) = refl

  -- what is none of the statements that set something sets nothing by itself
  pub sets_nothing : (s : Stmt)
      → ((n : ℕ) (v : Var) (e : Option BoxedExpr) → s ≡ Declare n v e → ⊥)
      → ((n : ℕ) (target : Target) (e : BoxedExpr) → s ≡ Assign n target e → ⊥)
      → ((n : ℕ) (target : Target) (ty : IntType) (op : BinaryOp) (value_ty : IntType) (e : BoxedExpr) → s ≡ Change n target ty op value_ty e → ⊥)
      → ((n : ℕ) (array : VarId) (from : Option BoxedExpr) (e : BoxedExpr) (r : ResultFor) → s ≡ PackedStore n array from e r → ⊥)
      → ((n : ℕ) (array : VarId) (from : Option BoxedExpr) (v : Var) (r : ResultFor) → s ≡ PackedLoad n array from v r → ⊥)
      → false ≡ step_sets id number (stmt_view s)
  sets_nothing Empty declare assign change store load = refl
  sets_nothing (Block' shape row) declare assign change store load = row_sets_nothing row
  sets_nothing (Then' p first q rest) declare assign change store load = refl
  sets_nothing (Declare n v e) declare assign change store load = absurd (declare n v e refl)
  sets_nothing (Assign n target e) declare assign change store load = absurd (assign n target e refl)
  sets_nothing (Change n target ty op value_ty e) declare assign change store load = absurd (change n target ty op value_ty e refl)
  sets_nothing (If' n e p first q other) declare assign change store load = refl
  sets_nothing (Loop' n e p update q body) declare assign change store load = refl
  sets_nothing (BodyFirst' n e p body) declare assign change store load = refl
  sets_nothing (Break n) declare assign change store load = refl
  sets_nothing (Continue n) declare assign change store load = refl
  sets_nothing (Return n e) declare assign change store load = refl
  sets_nothing (Switch' n e shape segments) declare assign change store load = refl
  sets_nothing (ForEach' n form p body) declare assign change store load = refl
  sets_nothing (Call n f args r) declare assign change store load = refl
  sets_nothing (Check n e) declare assign change store load = refl
  sets_nothing (PackedStore n array from e r) declare assign change store load = absurd (store n array from e r refl)
  sets_nothing (PackedLoad n array from v r) declare assign change store load = absurd (load n array from v r refl)

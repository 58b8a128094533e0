-- Parts of which the first fault is named.
use Rattle.std.proofs.Common.{◌≡◌, ℕ, ap}
use Rattle.std.specs.Prelude.{Result, Ok, Err}
use Rattle.gang_model.specs.declared.refusals.SourceRefusal.{SourceRefusal}
use Rattle.gang_model.specs.Types.Tree as tree
use Rattle.typed_tree.specs.Boxes.{BoxedStmt, boxed_stmt_view}
use Rattle.typed_tree.specs.Views.{boxed_view}
use Rattle.type_check_values.specs.declared.typed.Typed.{Typed}
use Rattle.type_check_values.specs.Views.{typed_view}
use Rattle.source_answers.specs.Apart.{in_order}
use Rattle.type_check_statement_parts.specs.Sequences.{value_rounds}
use Rattle.source_answers.specs.Apart.{seen}

abbrev value_or : {A : Type 0} → A → Result A SourceRefusal → A
value_or other (Ok a) = a
value_or other (Err fault) = other

pub rounds_in_order : (step : ℕ) (v : tree.Var) (value : Result Typed SourceRefusal) (body : Result BoxedStmt SourceRefusal) (x : Typed) (y : BoxedStmt)
    → in_order value body ≡ Ok (x, y) → value_rounds step v (seen typed_view value) (seen boxed_stmt_view body) ≡ Ok (tree.ForEach step (tree.EachValue v (boxed_view x.expr)) (boxed_stmt_view y))
rounds_in_order step v (Ok a) (Ok b) x y e =
    ap (λ (parts : Typed × BoxedStmt). Ok (tree.ForEach step (tree.EachValue v (boxed_view parts.0.expr)) (boxed_stmt_view parts.1))) (ap (value_or (x, y)) e)
rounds_in_order step v (Ok a) (Err f) x y e = absurd cc
rounds_in_order step v (Err f) b x y e = absurd cc

pub fault_in_order : (step : ℕ) (v : tree.Var) (value : Result Typed SourceRefusal) (body : Result BoxedStmt SourceRefusal) (fault : SourceRefusal)
    → in_order value body ≡ Err fault → value_rounds step v (seen typed_view value) (seen boxed_stmt_view body) ≡ Err fault
fault_in_order step v (Ok a) (Ok b) fault e = absurd cc
fault_in_order step v (Ok a) (Err f) fault e = cc
fault_in_order step v (Err f) b fault e = cc

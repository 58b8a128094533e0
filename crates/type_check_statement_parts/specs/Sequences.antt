-- Statements one after another, and the parts of a `foreach_unique`.
use Rattle.std.specs.Prelude.{ℕ, List, [], ◌∷◌, ◌++◌, Result, Ok, Err}
use Rattle.gang_types.specs.declared.types.IntType.{IntType}
use Rattle.gang_types.specs.declared.types.IntType.TheVariants.{Int32}
use Rattle.gang_model.specs.declared.refusals.SourceRefusal.{SourceRefusal}
use Rattle.gang_model.specs.Types.Tree as tree
use Rattle.gang_model.specs.Source.Judged.{both_answers, then_answer}
use Rattle.gang_model.specs.Types.Conversions as model
use Rattle.typed_tree.specs.declared.statements.Stmt.{Stmt}
use Rattle.typed_tree.specs.Boxes.{BoxedStmt}
use Rattle.type_check_values.specs.declared.typed.Typed.{Typed}

-- some statements with one more after them
abbrev pub one_more : Result (List Stmt) SourceRefusal → Result BoxedStmt SourceRefusal → Result (List Stmt) SourceRefusal
one_more first next = then_answer (both_answers first next) (λ parts. Ok (parts.0 ++ parts.1.value ∷ []))

-- the type of a value, or any where it has a fault
abbrev pub type_or_int32 : Result Typed SourceRefusal → IntType
type_or_int32 (Ok e) = e.value_type
type_or_int32 (Err fault) = Int32

-- the answer for a `foreach_unique`, where a fault of the value hides those of the body
abbrev pub value_rounds : ℕ → tree.Var → Result model.Typed SourceRefusal → Result tree.Stmt SourceRefusal → Result tree.Stmt SourceRefusal
value_rounds step v (Ok x) (Ok body) = Ok (tree.ForEach step (tree.EachValue v x.expr) body)
value_rounds step v (Ok x) (Err fault) = Err fault
value_rounds step v (Err fault) body = Err fault

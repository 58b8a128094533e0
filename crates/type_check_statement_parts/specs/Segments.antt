-- The segments of a `switch`, and the switch of them.
use Rattle.std.specs.Prelude.{ℕ, List, [], ◌∷◌, ◌++◌, Option, Vec, Result, Ok, Err}
use Rattle.std.specs.declared.alloc.Global.{Global}
use Rattle.gang_model.specs.declared.refusals.SourceRefusal.{SourceRefusal}
use Rattle.gang_model.specs.Types.Tree as tree
use Rattle.gang_model.specs.Types.Conversions as model
use Rattle.gang_model.specs.Source.Judged.{both_answers, then_answer}
use Rattle.typed_tree.specs.declared.statements.Segment.{Segment}
use Rattle.typed_tree.specs.declared.statements.Stmt.{Stmt}

-- some segments with one more after them, of its label and what follows it
abbrev pub one_more_segment : Result (List Segment) SourceRefusal → Result (Option ℕ × Vec Stmt Global) SourceRefusal → Result (List Segment) SourceRefusal
one_more_segment first next = then_answer (both_answers first next) (λ parts. Ok (parts.0 ++ record { label = parts.1.0; body = parts.1.1 } ∷ []))

-- the answer for a `switch`, where a fault of the selector hides those of the segments
abbrev pub selected : ℕ → Result model.Typed SourceRefusal → Result tree.Stmt SourceRefusal → Result tree.Stmt SourceRefusal
selected step (Ok x) (Ok segments) = Ok (tree.Switch step x.expr segments)
selected step (Ok x) (Err fault) = Err fault
selected step (Err fault) segments = Err fault

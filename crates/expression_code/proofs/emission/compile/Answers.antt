use Rattle.typed_tree.specs.Views.{expr_view}
use Rattle.expression_code.proofs.RoomOfWeight.{accepted_has_room}
use Rattle.expression_code.proofs.Whole.{computes}
use Rattle.expression_code.proofs.emission.compile.Goals as goal

pub returns-clause-computes : goal.returns-clause-computes
returns-clause-computes c = rw (c.in_ok-emit.ensures, c.new-code.ensures.items) (computes c.args.expression.now)

pub returns-clause-room : goal.returns-clause-room
returns-clause-room c = accepted_has_room (expr_view c.args.expression.now)

pub returns-in_err-emit-clause-room : goal.returns-in_err-emit-clause-room
returns-in_err-emit-clause-room c = accepted_has_room (expr_view c.args.expression.now)

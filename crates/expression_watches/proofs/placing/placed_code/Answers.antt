use Rattle.typed_tree.specs.Views.{expr_view, program_view}
use Rattle.expression_watches.proofs.Texts.{tree_here}
use Rattle.expression_watches.proofs.placing.placed_code.Goals as goal

pub returns-in-Ok : goal.returns-in-Ok
returns-in-Ok c tokens are =
    let (written, is, means) = c.in-Ok.ensures.placed in
    let placed = c.in-Ok.placed in (
      written,
      placed.value_type,
      placed.rate,
      means,
      tree_here (program_view c.args.program.now) c.args.spot c.args.text.now tokens are written (expr_view means.tree) placed.value_type placed.rate is means.is_sound,
    )

pub returns-in-Err : goal.returns-in-Err
returns-in-Err c tokens are = c.no_code.ensures (program_view c.args.program.now) c.args.spot c.args.text.now tokens are c.in-Err.ensures.refused

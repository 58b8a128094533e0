use Rattle.typed_tree.specs.Views.{program_view}
use Rattle.expression_watches.proofs.SetTexts.{placed_means, refused_is_denied}
use Rattle.expression_watches.proofs.judging.judge_text.Goals as goal

pub returns-in-Ok-clause-meant : goal.returns-in-Ok-clause-meant
returns-in-Ok-clause-meant c = placed_means (program_view c.args.program.now) c.args.spot c.args.text.now c.in-Ok.placed c.in-Ok.ensures.placed

pub returns-in-Err-clause-denied : goal.returns-in-Err-clause-denied
returns-in-Err-clause-denied c = refused_is_denied (program_view c.args.program.now) c.args.spot c.args.text.now _ c.in-Err.ensures.refused

use Rattle.std.proofs.Common.{◌∙◌, ap, sym}
use Rattle.std.specs.Prelude.{Ok}
use Rattle.gang_types.specs.Masks.{lanes_of}
use Rattle.expression_runs.proofs.Leaves.{leaf_is, one_instruction}
use Rattle.expression_runs.proofs.evaluation.evaluate.Goals as goal

pub returns-in-Push : goal.returns-in-Push
returns-in-Push g c e state computes room shows =
    leaf_is e c.args.code.now c.in-Push.leaf (lanes_of g.row.W c.args.mask) state (one_instruction c.args.code.now _ _ c.if-code-eq1.true c.in-Push.is) computes room
    ∙ ap Ok (sym (c.leaf_words.ensures state shows))

use Rattle.std.proofs.Common.{◌∙◌}
use Rattle.gang_model.proofs.SameTexts.{pointwise-same_text}
use Rattle.ispc_names_scopes.proofs.texts.is_same.Goals as goal

pub returns : goal.returns
returns c = c.eq.ensures ∙ pointwise-same_text c.args.left.now c.args.right.now

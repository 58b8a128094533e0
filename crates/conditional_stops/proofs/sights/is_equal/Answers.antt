use Rattle.std.proofs.Common.{◌∙◌}
use Rattle.gang_model.proofs.SameTexts.{pointwise-same_text}
use Rattle.conditional_stops.proofs.sights.is_equal.Goals as goal

pub returns : goal.returns
returns c = c.eq.ensures ∙ pointwise-same_text c.args.old.now c.args.new.now

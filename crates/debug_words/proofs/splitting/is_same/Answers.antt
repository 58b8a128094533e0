use Rattle.std.proofs.Common.{◌∙◌}
use Rattle.gang_model.proofs.SameTexts.{bytes_same}
use Rattle.debug_words.proofs.splitting.is_same.Goals as goal

pub returns : goal.returns
returns c = c.eq.ensures ∙ bytes_same c.args.left.now c.args.right.now

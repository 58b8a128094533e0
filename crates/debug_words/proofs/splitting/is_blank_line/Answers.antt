use Rattle.std.proofs.Common.{◌∙◌, rules, tests}
use Rattle.std.proofs.lemmas.Iterator.{YieldsList-from_slice}
use Rattle.std.proofs.lemmas.Iterator.Search.{all_from_yields_List}
use Rattle.gang_model.specs.Texts.Spellings as spelling
use Rattle.debug_words.proofs.SameBytes.{all_same}
use Rattle.debug_words.proofs.splitting.is_blank_line.Goals as goal

pub returns : goal.returns
returns c =
    all_from_yields_List spelling.is_blank _ _ _ c.all.ensures.ran (YieldsList-from_slice c.args.line.now cc) (λ x b q k. search (rules, tests))
    ∙ all_same spelling.is_blank c.args.line.now

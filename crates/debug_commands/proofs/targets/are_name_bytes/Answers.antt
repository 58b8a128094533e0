use Rattle.std.proofs.Common.{◌∙◌, ◌||◌, rules, tests}
use Rattle.std.proofs.lemmas.Iterator.{YieldsList-from_slice}
use Rattle.std.proofs.lemmas.Iterator.Search.{all_from_yields_List}
use Rattle.gang_model.specs.Texts.Spellings as spelling
use Rattle.debug_words.proofs.SameBytes.{all_same}
use Rattle.debug_commands.proofs.targets.are_name_bytes.Goals as goal

pub returns : goal.returns
returns c =
    all_from_yields_List (λ b. spelling.is_letter b || spelling.is_digit b) _ _ _ c.all.ensures.ran (YieldsList-from_slice c.args.bytes.now cc) (λ x b q k. search (rules, tests))
    ∙ all_same (λ b. spelling.is_letter b || spelling.is_digit b) c.args.bytes.now

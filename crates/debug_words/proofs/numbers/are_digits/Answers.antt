use Rattle.std.proofs.Common.{◌∙◌, rules, tests}
use Rattle.std.proofs.lemmas.Iterator.{YieldsList-from_slice}
use Rattle.std.proofs.lemmas.Iterator.Search.{all_from_yields_List}
use Rattle.debug_words.specs.Digits as spec
use Rattle.debug_words.proofs.SameBytes.{all_same}
use Rattle.debug_words.proofs.numbers.are_digits.Goals as goal

pub returns : goal.returns
returns c =
    all_from_yields_List (spec.is_digit_in c.args.radix) _ _ _ c.all.ensures.ran (YieldsList-from_slice c.args.bytes.now cc) (λ x b q k. search (rules, tests))
    ∙ all_same (spec.is_digit_in c.args.radix) c.args.bytes.now

use Rattle.std.proofs.Common.{◌∙◌, rules, tests}
use Rattle.std.specs.Prelude.{nat_le}
use Rattle.std.proofs.lemmas.Iterator.{YieldsList-from_slice, YieldsList-from_zip}
use Rattle.std.proofs.lemmas.Iterator.Search.{all_from_yields_List}
use Rattle.type_check_overloads.proofs.Possible.{no_dearer_pairs}
use Rattle.type_check_overloads.proofs.overloads.no_dearer.Goals as goal

pub returns : goal.returns
returns c =
    all_from_yields_List (λ p. nat_le p.0 p.1) c.all.new.self _ c.all.result c.all.ensures.ran (YieldsList-from_zip (YieldsList-from_slice c.args.prices.now (cc)) (YieldsList-from_slice c.args.others.now (cc)))
    (λ x b q k. search (rules, tests))
    ∙ no_dearer_pairs c.args.prices.now c.args.others.now

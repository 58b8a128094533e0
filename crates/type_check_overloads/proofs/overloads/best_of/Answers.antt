use Rattle.std.proofs.Common.{Bool, rules, tests}
use Rattle.std.specs.List.{list_all}
use Rattle.std.proofs.lemmas.Iterator.{YieldsList-from_slice}
use Rattle.std.proofs.lemmas.Iterator.Search.{find_from_yields_List}
use Rattle.gang_model.specs.Types.Overloads.{beats}
use Rattle.type_check_overloads.specs.Candidates.{candidate_view}
use Rattle.type_check_overloads.specs.declared.overloads.Candidate.{Candidate}
use Rattle.type_check_overloads.proofs.Possible.{best_image}
use Rattle.type_check_overloads.proofs.overloads.best_of.Goals as goal

pub returns : goal.returns
returns c =
    let possible = c.args.possible.now in
    let test : Candidate → Bool = λ x. list_all (λ other. beats (candidate_view x) (candidate_view other)) possible in
    best_image possible c.find.result
    (find_from_yields_List test _ _ c.find.result c.find.ensures.ran (YieldsList-from_slice possible (cc)) (λ x b q k. search (rules, tests)))

use Rattle.std.proofs.Common.{◌∙◌, sym, ap, subst}
use Rattle.lane_counts.specs.declared.counts.Counts.{Counts}
use Rattle.prompt_walks.specs.LanesTold.{IsFewSoFar, with_later}
use Rattle.prompt_walks.proofs.LanesSoFar.{from_nothing, nothing_few, of_one}
use Rattle.prompt_walks.proofs.lanes_told.SoFar.none.Goals as goal

pub returns-clause-begun : goal.returns-clause-begun
returns-clause-begun c chosen p stands = ap (λ (n : Counts). with_later p chosen (of_one n) stands) c.none-none.ensures ∙ from_nothing p chosen stands

pub returns-clause-few : goal.returns-clause-few
returns-clause-few c = subst (λ (n : Counts). IsFewSoFar 0 (of_one n)) (sym c.none-none.ensures) nothing_few

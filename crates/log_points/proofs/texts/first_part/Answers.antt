use Rattle.std.proofs.Common.{inl, rules, subst}
use Rattle.std.specs.Prelude.{MatchOption}
use Rattle.log_points.specs.Texts.{Lacks, opens}
use Rattle.log_points.proofs.Splits.{SplitsAt, part_of, split_is}
use Rattle.log_points.proofs.texts.first_part.Goals as goal

pub returns-in-Some : goal.returns-in-Some
returns-in-Some c =
    let text = c.args.text.now in
    let cut = subst (λ r. MatchOption r (Lacks opens text) (λ x. SplitsAt opens text x.0.now x.1.now)) c.in-Some.is (split_is opens text c.split_once.result (c.split_once.ensures.byte (search rules) (λ w o f. f))) in
    part_of text _ _ c.closed_part.result cut c.closed_part.ensures

pub returns-in-None : goal.returns-in-None
returns-in-None c =
    let text = c.args.text.now in
    inl (subst (λ r. MatchOption r (Lacks opens text) (λ x. SplitsAt opens text x.0.now x.1.now)) c.in-None.is (split_is opens text c.split_once.result (c.split_once.ensures.byte (search rules) (λ w o f. f))))

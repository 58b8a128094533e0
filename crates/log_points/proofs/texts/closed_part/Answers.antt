use Rattle.std.proofs.Common.{refl, rules, subst}
use Rattle.std.specs.Prelude.{MatchOption}
use Rattle.log_points.specs.Texts.{Lacks, closes}
use Rattle.log_points.proofs.Splits.{SplitsAt, split_is}
use Rattle.log_points.proofs.texts.closed_part.Goals as goal

pub returns-in-Some : goal.returns-in-Some
returns-in-Some c =
    let inside = c.args.inside.now in
    let cut = subst (λ r. MatchOption r (Lacks closes inside) (λ x. SplitsAt closes inside x.0.now x.1.now)) c.in-Some.is (split_is closes inside c.split_once.result (c.split_once.ensures.byte (search rules) (λ w o f. f))) in
    record { same = refl; is = cut.0; first = cut.1 }

pub returns-in-None : goal.returns-in-None
returns-in-None c =
    let inside = c.args.inside.now in
    subst (λ r. MatchOption r (Lacks closes inside) (λ x. SplitsAt closes inside x.0.now x.1.now)) c.in-None.is (split_is closes inside c.split_once.result (c.split_once.ensures.byte (search rules) (λ w o f. f)))

use Rattle.std.proofs.Common.{subst, Some}
use Rattle.debug_session.specs.Sessions.{bare}
use Rattle.conditional_stops.specs.Verdicts.{IsJudged}
use Rattle.conditional_stops.proofs.Judged.{verdict_of_bare}
use Rattle.log_points.proofs.writing.judge.Goals as goal

pub returns-in-Some : goal.returns-in-Some
returns-in-Some g c s d st =
    subst (λ condition. IsJudged condition s d (Some c.judge_condition.result)) c.in-Some.ensures
    (verdict_of_bare c.in-Some.text.now s d c.judge_condition.result (c.judge_condition.ensures s (bare d) st))

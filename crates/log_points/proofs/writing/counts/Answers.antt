use Rattle.log_points.proofs.writing.counts.Goals as goal

pub returns : goal.returns
returns g c s d st = record { told = c.judge-verdict.result; judged = c.judge-verdict.ensures s d st; by = c.counts_by.ensures }

use Rattle.std.proofs.Common.{◌^◌, []}
use Rattle.whole_runs.specs.NotesViews.{noted_of}
use Rattle.whole_runs.proofs.WholeLaws.{begun, same_noted}
use Rattle.whole_runs.proofs.whole_run.WholeRun.of_start.Goals as goal

pub returns-clause-stands : goal.returns-clause-stands
returns-clause-stands g c s d there none begins =
    begun g.M.RecordedMachine.stands g.M.BeginsAgain.copies c.args.inner c.args.start.items (2 ^ 62) s d there none begins
    (noted_of c.none.result) (same_noted (noted_of c.none.result) (record { pokes = []; steps = 0; kept = 0; limit = 2 ^ 62 }) c.none.ensures.pokes c.none.ensures.steps c.none.ensures.kept c.none.ensures.limit)
    c.none-2.result.all.items c.none-2.result.plan.most c.none-2.ensures.all _

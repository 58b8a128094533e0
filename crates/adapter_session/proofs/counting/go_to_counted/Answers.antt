use Rattle.std.proofs.Common.{Some, ap, map, refl, subst, sym}
use Rattle.adapter_replies.specs.Told.{MeansLast}
use Rattle.conditional_stops.specs.Going.{command_of}
use Rattle.conditional_stops.specs.Views.{table_of}
use Rattle.log_points.specs.Points.{log_of}
use Rattle.adapter_session.specs.Answered.{MayTell}
use Rattle.adapter_session.specs.Done.{most}
use Rattle.adapter_session.proofs.Counted.{ends_at}
use Rattle.adapter_session.proofs.counting.go_to_counted.Goals as goal

pub returns : goal.returns
returns g c s d there =
    let stands = g.M.RecordedMachine.stands in
    let program = c.args.program.now in
    let request = c.args.request.now in
    let wrote = c.continue_writing-wrote.result in
    let moved = wrote.moved in
    let session = c.continue_writing-wrote.new.session in
    let writes = c.continue_writing-wrote.ensures.wrote s d there in
    let goes = writes.goes in
    let ended = ends_at stands s (command_of c.args.way) most moved.passed goes.at goes.before (table_of c.continue_writing-wrote.new.conditions) moved.end session goes.ends in
    let means = subst (λ answer. MeansLast s ended.after (Some answer) ended.meant) (sym c.answer-answer.ensures) ended.means in
    record {
      wrote = wrote;
      goes = writes;
      asked = refl;
      logs = ap (λ points. map log_of points.items) c.continue_writing-wrote.ensures.points;
      functions = refl;
      entry = refl;
      written = refl;
      after = ended.after;
      there = ended.there;
      meant = ended.meant;
      means = ended.means;
      tells = subst (λ answer. MayTell s program ended.after (Some answer) ended.meant request c.told-reply.result) c.answer-answer.ensures (c.told-reply.ensures s ended.after ended.meant ended.there means);
      verdict = c.verdict_of.ensures;
    }

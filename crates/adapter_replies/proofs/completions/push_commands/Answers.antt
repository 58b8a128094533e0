use Rattle.std.proofs.Common.{length, map, take}
use Rattle.std.proofs.lemmas.List.{map_more}
use Rattle.adapter_replies.specs.Completions.{completion_view}
use Rattle.adapter_replies.proofs.Completing.{completed_next}
use Rattle.adapter_replies.proofs.completions.push_commands.Goals as goal

pub loop-name-preserved : goal.loop-name-preserved
loop-name-preserved c =
    let names = c.args.names.now in
    let i = c.loop-name.name-index in
    completed_next c.args.front.now (length c.args.front.now) (map (λ name. name.now) (take i names)) _ _ (map completion_view c.args.told.now.items)
    (map completion_view c.loop-name.told.items) (map completion_view c.push_name.new.told.items) (map_more (λ name. name.now) names i _ c.loop-name-test.true) c.loop-name.invariant c.in_ok-push_name.ensures

use Rattle.std.proofs.Common.{◌++◌, ◌∙◌, ap, length, map}
use Rattle.adapter_replies.specs.Completions.{command_names, completed, completion_view}
use Rattle.adapter_replies.proofs.completions.commands.Goals as goal

pub returns : goal.returns
returns c =
    let front = c.args.front.now in
    c.in_ok-push_commands.ensures ∙ ap (λ items. map completion_view items ++ completed front (length front) command_names) c.new-told.ensures.items

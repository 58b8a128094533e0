use Rattle.std.proofs.lemmas.Bool.Decides.{Decides-eqb}
use Rattle.std.proofs.lemmas.Slice.Eq.{strip_prefix_is}
use Rattle.prompt_lines.proofs.Prefixes.{behind_is}
use Rattle.prompt_stops.proofs.lists.behind.Goals as goal

pub returns : goal.returns
returns c =
    let prefix = c.args.prefix.now in
    let text = c.args.text.now in
    let rest = c.strip_prefix.result in
    behind_is prefix text rest (strip_prefix_is Decides-eqb text prefix rest c.strip_prefix.ensures.cases)

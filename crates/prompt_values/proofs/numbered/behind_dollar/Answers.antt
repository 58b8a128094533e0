use Rattle.std.specs.Prelude.{codes}
use Rattle.std.proofs.lemmas.Bool.Decides.{Decides-eqb}
use Rattle.std.proofs.lemmas.Slice.Eq.{strip_prefix_is}
use Rattle.prompt_lines.proofs.Prefixes.{behind_is}
use Rattle.prompt_values.proofs.numbered.behind_dollar.Goals as goal

pub returns : goal.returns
returns c =
    let text = c.args.text.now in
    let rest = c.strip_prefix.result in
    behind_is (codes "$") text rest (strip_prefix_is Decides-eqb text (codes "$") rest c.strip_prefix.ensures.cases)

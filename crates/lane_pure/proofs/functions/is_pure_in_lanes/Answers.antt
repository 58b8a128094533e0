use Rattle.std.proofs.Common.{◌≡◌, ◌∙◌, ap, get_or, true}
use Rattle.std.specs.Prelude.{unwrap_or}
use Rattle.std.proofs.lemmas.Option.{unwrap_or-slice_get}
use Rattle.source_tree.specs.Tree.{tree_view}
use Rattle.typed_tree.specs.Views.{program_view}
use Rattle.lane_alone.proofs.PurePrograms.{are_separate}
use Rattle.lane_pure.proofs.Purity.{copied_item, one_decided}
use Rattle.lane_pure.proofs.functions.is_pure_in_lanes.Goals as goal

pub returns-clause-decides : goal.returns-clause-decides
returns-clause-decides c =
    let source = tree_view c.args.tree.now in
    let answers = c.in_ok-answers.answers.items in
    let n = c.args.function.0 in
    let is : c.unwrap_or.result ≡ get_or answers n true =
    c.unwrap_or.ensures ∙ ap (λ o. unwrap_or o true) (c.copied.ensures ∙ copied_item c.deref.result.now n c.get.result c.get.ensures.lookup) ∙ unwrap_or-slice_get c.deref.result.now n true ∙ ap (λ xs. get_or xs n true) c.deref.ensures.value in
    one_decided source (program_view c.args.program.now) answers n c.requires c.in_ok-answers.ensures c.unwrap_or.result is

pub returns-clause-separate : goal.returns-clause-separate
returns-clause-separate c is =
    are_separate (tree_view c.args.tree.now) (program_view c.args.program.now) c.requires c.args.function.0 ((returns-clause-decides c).0 is)

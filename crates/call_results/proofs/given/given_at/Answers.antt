use Rattle.std.proofs.Common.{sym, ap, ◌∙◌, option_map}
use Rattle.std.specs.Prelude.{option_and_then}
use Rattle.typed_tree.specs.Views.{program_view}
use Rattle.call_results.specs.Calls.{call_view, given_by}
use Rattle.call_results.proofs.given.given_at.Goals as goal

pub returns-in-Some : goal.returns-in-Some
returns-in-Some c =
    c.given_by.ensures ∙ ap (option_and_then (given_by (program_view c.args.program.now))) (sym (ap (option_map call_view) c.in-Some.is) ∙ c.giving_at.ensures)

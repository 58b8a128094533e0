use Rattle.source_tree.proofs.StatementRows.{view_switch}
use Rattle.ispc_parser_shared.proofs.nodes.switch_of.Goals as goal

pub returns : goal.returns
returns c = view_switch c.args.place c.args.selector c.args.segments

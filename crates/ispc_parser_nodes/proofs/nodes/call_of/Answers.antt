use Rattle.source_tree.proofs.ArgumentRows.{view_call}
use Rattle.ispc_parser_nodes.proofs.nodes.call_of.Goals as goal

pub returns : goal.returns
returns c = view_call c.args.place c.args.name c.args.args

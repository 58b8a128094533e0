use Rattle.source_tree.proofs.StatementRows.{view_block}
use Rattle.ispc_parser_shared.proofs.nodes.block_of.Goals as goal

pub returns : goal.returns
returns c = view_block c.args.stmts

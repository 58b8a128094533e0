use Rattle.std.proofs.Common.{rules}
use Rattle.std.specs.Prelude.{IfErr, option_map}
use Rattle.source_tree.specs.Tree.{tree_view}
use Rattle.ispc_compiler.specs.Front.{IsRefused}
use Rattle.ispc_compiler.proofs.Fronts.{found_right}
use Rattle.ispc_compiler.proofs.OneProgram.{is_none, is_only}
use Rattle.ispc_compiler.proofs.front.compile_source.Goals as goal

pub returns-clause-compiled : goal.returns-clause-compiled
returns-clause-compiled c =
    found_right c.args.source.now (tree_view c.in_ok-tree.tree) (option_map (λ n. n.now) c.args.asked) c.compile_tree.result c.in_ok-tree.ensures.reads
    c.compile_tree.ensures.compiled

pub returns-clause-one : goal.returns-clause-one
returns-clause-one c =
    let asked = option_map (λ n. n.now) c.args.asked in
    is_only c.args.source.now asked c.compile_tree.result
    (found_right c.args.source.now (tree_view c.in_ok-tree.tree) asked c.compile_tree.result c.in_ok-tree.ensures.reads c.compile_tree.ensures.compiled)

pub returns-clause-none : goal.returns-clause-none
returns-clause-none c =
    let refused : IfErr c.compile_tree.result (IsRefused c.args.source.now) = search rules in
    is_none c.args.source.now (option_map (λ n. n.now) c.args.asked) c.compile_tree.result refused

pub returns-in_err-tree-clause-none : goal.returns-in_err-tree-clause-none
returns-in_err-tree-clause-none c =
    let refused : IfErr c.from_residual.result (IsRefused c.args.source.now) = search rules in
    is_none c.args.source.now (option_map (λ n. n.now) c.args.asked) c.from_residual.result refused

use Rattle.std.proofs.Common.{sym, subst}
use Rattle.std.proofs.lemmas.Result.{err_from_is_err_and}
use Rattle.gang_model.specs.Source.Lexes.{Lexes}
use Rattle.ispc_lexer.specs.Views.{lexemes_of}
use Rattle.ispc_compiler.proofs.Fronts.{parser_right}
use Rattle.ispc_compiler.proofs.front.read_tree.Goals as goal

pub returns-in_err-tree-clause-refused : goal.returns-in_err-tree-clause-refused
returns-in_err-tree-clause-refused c =
    let text = c.args.source.now in
    let p = err_from_is_err_and c.from_residual-in_err-tree.result c.from_residual-in_err-tree.ensures.1 in
    let found = c.in_ok-tokens.ensures.found in
    rw (p.1, p.2) (parser_right text (lexemes_of c.as_slice.result.now) c.in_err-tree.field-0.0 found.0
    (subst (λ v. Lexes text (lexemes_of v)) (sym c.as_slice.ensures.value) found.1) c.in_err-tree.ensures.none)

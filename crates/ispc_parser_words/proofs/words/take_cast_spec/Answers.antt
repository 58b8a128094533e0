use Rattle.std.proofs.Common.{ap, ◌∙◌}
use Rattle.std.proofs.lemmas.Result.{err_from_is_err_and}
use Rattle.ispc_lexer.specs.Views.{lexemes_of}
use Rattle.ispc_parser_words.proofs.SaidAll.{cast_from, cast_spec_at-said_at, cast_fails}
use Rattle.ispc_parser_words.proofs.words.take_cast_spec.Goals as goal

pub returns-in_err-spec : goal.returns-in_err-spec
returns-in_err-spec c =
    let p = err_from_is_err_and c.from_residual.result c.from_residual.ensures.1 in
    rw (p.1, p.2) (cast_fails c.in_err-spec.field-0.0 (lexemes_of c.args.tokens.now) c.in_err-spec.ensures)

pub returns : goal.returns
returns c = cast_spec_at-said_at (lexemes_of c.args.tokens.now) ∙ ap cast_from c.in_ok-spec.ensures

use Rattle.std.proofs.Common.{subst, sym}
use Rattle.std.proofs.lemmas.Result.{IfErr-weaker}
use Rattle.gang_model.specs.Source.Lexes.{Lexes}
use Rattle.ispc_lexer.specs.Views.{lexemes_of}
use Rattle.lane_report.specs.Refusals.{IsRefused}
use Rattle.lane_report.proofs.Refusing.{by_tree}
use Rattle.lane_report.proofs.judging.read_tree.Goals as goal

pub returns-clause-refused : goal.returns-clause-refused
returns-clause-refused c =
    let text = c.args.source.now in
    let found = c.in_ok-tokens.ensures.found in
    let spelled = subst (λ v. Lexes text (lexemes_of v)) (sym c.as_slice.ensures.value) found.1 in
    IfErr-weaker c.parse.result _ (IsRefused text) (λ fault h. by_tree text (lexemes_of c.as_slice.result.now) fault found.0 spelled h) c.parse.ensures.none

use Rattle.std.proofs.Common.{arith}
use Rattle.ispc_lexer.specs.Views.{lexemes_of}
use Rattle.ispc_lexer.proofs.Laws.{is_found, is_one, is_refusal}
use Rattle.ispc_lexer.proofs.source.tokens.Goals as goal

pub returns-clause-found : goal.returns-clause-found
returns-clause-found c = is_found (λ v. lexemes_of v.items) c.args.source.now (omega arith) c.read.result c.read.ensures

pub returns-clause-one : goal.returns-clause-one
returns-clause-one c = is_one (λ v. lexemes_of v.items) c.args.source.now (omega arith) c.read.result c.read.ensures

pub returns-clause-refused : goal.returns-clause-refused
returns-clause-refused c = is_refusal (λ v. lexemes_of v.items) c.args.source.now (omega arith) c.read.result c.read.ensures

use Rattle.std.proofs.Common.{sym, ◌∙◌}
use Rattle.expression_watches.proofs.Texts.{none_at}
use Rattle.expression_watches.proofs.placing.no_code.Goals as goal

pub returns-in-NoTokens : goal.returns-in-NoTokens
returns-in-NoTokens c p spot text tokens are is = none_at p spot text tokens are c.args.refusal (λ e. let other = sym c.in-NoTokens.is ∙ e in absurd cc) is

pub returns-in-NoExpression : goal.returns-in-NoExpression
returns-in-NoExpression c p spot text tokens are is = none_at p spot text tokens are c.args.refusal (λ e. let other = sym c.in-NoExpression.is ∙ e in absurd cc) is

pub returns-in-NoValue : goal.returns-in-NoValue
returns-in-NoValue c p spot text tokens are is = none_at p spot text tokens are c.args.refusal (λ e. let other = sym c.in-NoValue.is ∙ e in absurd cc) is

pub returns-in-CallsFunction : goal.returns-in-CallsFunction
returns-in-CallsFunction c p spot text tokens are is = none_at p spot text tokens are c.args.refusal (λ e. let other = sym c.in-CallsFunction.is ∙ e in absurd cc) is

use Rattle.std.proofs.Common.{rules, ap, ◌∙◌}
use Rattle.std.proofs.lemmas.Int.{to_z-of_z}
use Rattle.std.specs.Prelude.{FitsSigned}
use Rattle.std.specs.Int.{w128}
use Rattle.gang_types.specs.Values.{wrapped}
use Rattle.gang_types.specs.Ranges.{wrap-meaning}
use Rattle.gang_types.proofs.values.wrap.Goals as goal

pub returns-clause-meaning : goal.returns-clause-meaning
returns-clause-meaning c =
    let fits : FitsSigned w128 c.args.v = search rules in
    wrap-meaning c.args.ty c.args.v c.wrapped_word.result (c.wrapped_word.ensures ∙ ap (wrapped c.args.ty) (to_z-of_z w128 c.args.v fits))

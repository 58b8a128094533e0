use Rattle.std.proofs.Common.{◌∙◌, ◌++◌, ◌∷◌, [], ap}
use Rattle.gang_model.specs.declared.refusals.RefusalNumber.TheVariants.{S6}
use Rattle.gang_model.specs.Source.Judged.{fault_if, least_fault}
use Rattle.gang_model.specs.Types.LibraryTable.{is_among}
use Rattle.ispc_names_declarations.proofs.signatures.signature_fault.Goals as goal

pub returns-clause-fault : goal.returns-clause-fault
returns-clause-fault c =
    c.fault_if.ensures
    ∙ ap (λ b. least_fault (fault_if b S6 c.args.function.now.place))
    (c.contains-is_twice.ensures ∙ ap (λ key. is_among key c.args.before.now) (c.deref.ensures.value ∙ c.in_ok-key.ensures.key))

pub returns-clause-last : goal.returns-clause-last
returns-clause-last c = c.in_ok-add.ensures.last ∙ ap (λ key. c.args.before.now ++ key ∷ []) (c.deref-2.ensures.value ∙ c.in_ok-key.ensures.key)

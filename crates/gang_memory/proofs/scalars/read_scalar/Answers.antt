use Rattle.std.proofs.Common.{sym, ◌∙◌, ap, subst}
use Rattle.gang_types.specs.Masks.{lanes_of}
use Rattle.gang_types.specs.MaskLaws.{length-lanes_of_word}
use Rattle.gang_model.specs.Running.State.{seen}
use Rattle.gang_memory.specs.ScalarWords.{IsScalarAt}
use Rattle.gang_memory.proofs.ScalarWords.{uniform_seen, varying_seen}
use Rattle.gang_memory.proofs.scalars.read_scalar.Goals as goal

pub returns-in-Uniform : goal.returns-in-Uniform
returns-in-Uniform g c scalar is =
    let lanes = lanes_of g.row.W c.args.mask in
    let words = g.S.WordStore.words c.args.store.now in
    c.words_at.ensures
    ∙ uniform_seen g.row.W c.args.first lanes scalar words (length-lanes_of_word g.row.W c.args.mask.word) (subst (λ r. IsScalarAt g.row.W r c.args.first scalar words) c.in-Uniform.is is)
    ∙ ap (λ r. seen r lanes scalar) (sym c.in-Uniform.is)

pub returns-in-Varying : goal.returns-in-Varying
returns-in-Varying g c scalar is =
    let lanes = lanes_of g.row.W c.args.mask in
    let words = g.S.WordStore.words c.args.store.now in
    c.words_at-in-Varying.ensures
    ∙ varying_seen g.row.W c.args.first lanes scalar words (length-lanes_of_word g.row.W c.args.mask.word) c.consecutive.result c.consecutive.ensures (subst (λ r. IsScalarAt g.row.W r c.args.first scalar words) c.in-Varying.is is)
    ∙ ap (λ r. seen r lanes scalar) (sym c.in-Varying.is)

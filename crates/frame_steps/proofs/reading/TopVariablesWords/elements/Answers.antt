use Rattle.std.proofs.Common.{sym, ap, ◌∙◌}
use Rattle.gang_types.specs.Masks.{lanes_of}
use Rattle.gang_model.specs.Running.Lanes.{at, try_each}
use Rattle.gang_model.specs.Running.Value.{element}
use Rattle.frame_steps.proofs.reading.TopVariablesWords.elements.Goals as goal

pub returns : goal.returns
returns g c state shown =
    c.elements.ensures.read state shown.memory
    ∙ ap (λ view. try_each (lanes_of g.row.W c.args.mask) (λ k. element state view (at c.args.indices.now k))) (c.view-view.ensures ∙ sym (shown.views c.args.array))

use Rattle.std.proofs.Common.{◌∙◌, ap, ◌∷◌, [], map}
use Rattle.std.proofs.lemmas.List.{reverse-append}
use Rattle.gang_types.specs.Masks.{lanes_of}
use Rattle.expression_runs.specs.Bridge.{masks_view}
use Rattle.expression_runs.proofs.stacks.push_mask.Goals as goal

pub returns : goal.returns
returns g c = λ w.
    ap (masks_view w) c.push.ensures.items
    ∙ ap (map (λ active. lanes_of w active.mask)) (reverse-append c.args.masks.now.items (_ ∷ []))

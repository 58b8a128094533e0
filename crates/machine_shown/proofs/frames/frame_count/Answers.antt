use Rattle.std.proofs.Common.{◌∙◌, ap}
use Rattle.std.specs.Prelude.{slice_index}
use Rattle.machine_shown.proofs.frames.frame_count.Goals as goal

pub returns : goal.returns
returns g c masked shown = c.word.ensures ∙ ap (λ ws. slice_index ws 0) shown.shows.depth

use Rattle.std.proofs.Common.{◌++◌, ap, sym, ◌∙◌}
use Rattle.std.specs.Prelude.{slice_get}
use Rattle.gang_model.specs.Types.Tree.{Program}
use Rattle.prompt_texts.specs.LaneShares.{function_text, line_text}
use Rattle.lane_profile.specs.Stands.{name_of}
use Rattle.prompt_walks.specs.LanesTold.{told_of}
use Rattle.prompt_walks.proofs.lanes_told.shares_here.Goals as goal

pub returns : goal.returns
returns g c s d there few =
    let chosen = c.args.chosen in
    let so_far = c.args.so_far in
    let named = c.name_of.ensures ∙ ap (λ (p : Program). name_of (slice_get p.functions chosen.function)) (sym (c.program.ensures s d there)) in
    ap (λ x. line_text chosen.line x ++ function_text c.name_of.result.now c.share_told-in_function.result) (c.share_told-at_line.ensures few.line few.width)
    ∙ ap (λ x. line_text chosen.line (told_of so_far.line so_far.width) ++ function_text c.name_of.result.now x) (c.share_told-in_function.ensures few.function few.width)
    ∙ ap (λ name. line_text chosen.line (told_of so_far.line so_far.width) ++ function_text name (told_of so_far.function so_far.width)) named

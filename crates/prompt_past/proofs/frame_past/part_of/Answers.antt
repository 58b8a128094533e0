use Rattle.std.proofs.Common.{sym, subst, ap, ◌∙◌}
use Rattle.debug_commands.specs.Views.{target_view}
use Rattle.debug_session.specs.Sessions.{bare}
use Rattle.prompt_past.specs.FramePast.{part_named}
use Rattle.prompt_past.proofs.frame_past.part_of.Goals as goal

pub returns : goal.returns
returns g c s d st =
    c.part_named.ensures s (bare d) (subst (λ m. g.M.RecordedMachine.stands m s (bare d)) (sym c.machine.ensures) st.there)
    ∙ ap (λ n. part_named s d n (target_view c.args.target)) (c.selected_depth.ensures s d st)

use Rattle.std.proofs.Common.{sym, subst, ap, ◌∙◌}
use Rattle.std.specs.Prelude.{◌-◌}
use Rattle.debug_commands.specs.Views.{command_view}
use Rattle.debug_session.specs.Sessions.{bare}
use Rattle.prompt_values.specs.Returned.{AwaitsAt, AwaitsBy}
use Rattle.prompt_values.proofs.Bare.{bare_awaits}
use Rattle.prompt_values.proofs.returned.awaited_by.Goals as goal

pub returns-in-Finish : goal.returns-in-Finish
returns-in-Finish g c s d st =
    let machine = subst (λ machine. g.M.RecordedMachine.stands machine s (bare d)) (sym c.machine.ensures) st.there in
    subst (λ command. AwaitsBy s d (command_view command) c.awaited_at.result) (sym c.in-Finish.is)
    (subst (λ n. AwaitsAt s d n c.awaited_at.result) (c.saturating_sub.ensures ∙ ap (λ n. n - 1) (c.depth.ensures s d st)) (bare_awaits s d _ c.awaited_at.result (c.awaited_at.ensures s (bare d) machine)))

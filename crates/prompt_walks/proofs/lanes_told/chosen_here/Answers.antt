use Rattle.std.proofs.Common.{◌≡◌, ◌∙◌, true, false, sym, subst}
use Rattle.std.specs.Prelude.{◌==◌}
use Rattle.debug_session.specs.Sessions.{bare}
use Rattle.gang_model.specs.Debugger.Debugger.{now}
use Rattle.prompt_scenes.specs.Holding.{held}
use Rattle.prompt_walks.specs.LanesTold.{ChoosesAt, ChoosesBy}
use Rattle.prompt_walks.proofs.lanes_told.chosen_here.Goals as goal

pub returns-then-is_top : goal.returns-then-is_top
returns-then-is_top g c s d st =
    let h = held c.args.holding.now in
    let machine = subst (λ m. g.M.RecordedMachine.stands m s (bare d)) (sym c.machine-machine.ensures) st.there in
    let top : (h.frame == 0) ≡ true = sym c.is_top.ensures ∙ c.if-is_top.true in
    subst (λ b. ChoosesBy b s d h c.chosen_top.result) (sym top) (c.chosen_top.ensures s (bare d) machine)

pub returns-else-is_top : goal.returns-else-is_top
returns-else-is_top g c s d st =
    let h = held c.args.holding.now in
    let machine = subst (λ m. g.M.RecordedMachine.stands m s (bare d)) (sym c.machine-machine.ensures) st.there in
    let outer : (h.frame == 0) ≡ false = sym c.is_top.ensures ∙ c.if-is_top.false in
    subst (λ b. ChoosesBy b s d h c.chosen_at.result) (sym outer)
    (subst (λ n. ChoosesAt s.program n (now s d) c.chosen_at.result) (c.selected_depth.ensures s d st) (c.chosen_at.ensures s (bare d) machine))

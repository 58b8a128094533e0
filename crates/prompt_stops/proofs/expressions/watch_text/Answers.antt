use Rattle.std.proofs.Common.{◌≡◌, None, true, false, sym, subst, ap, ◌∙◌}
use Rattle.std.specs.Prelude.{nat_lt, length}
use Rattle.debug_session.specs.Sessions.{bare}
use Rattle.gang_model.specs.Debugger.Debugger.{now}
use Rattle.debug_traits.specs.Frames.{spot_at}
use Rattle.prompt_lines.specs.Conditions.{condition_in}
use Rattle.prompt_scenes.specs.Holding.{held}
use Rattle.prompt_stops.specs.Breaking.{spot_of}
use Rattle.prompt_stops.proofs.WatchedTexts.{no_room, no_step, not_watched}
use Rattle.prompt_stops.proofs.expressions.watch_text.Goals as goal

pub returns-then-not-has_room : goal.returns-then-not-has_room
returns-then-not-has_room g c s d st =
    let h = held c.args.holding.now in
    let full : nat_lt (length h.frames) 16 ≡ false = sym c.has_room.ensures ∙ c.if-not-has_room.true in
    record { refused = false; does = not_watched s d h c.args.written.now g.M.RecordedMachine.stands (condition_in c.args.text.now) c.args.session.now (no_room s d h c.args.written.now full) st }

pub returns-in-None : goal.returns-in-None
returns-in-None g c s d st =
    let stands = g.M.RecordedMachine.stands in
    let h = held c.args.holding.now in
    let there = subst (λ m. stands m s (bare d)) (sym c.machine.ensures) st.there in
    let at : spot_of s d h ≡ None = ap (λ n. spot_at s.program n (now s d)) (sym (c.selected_depth-depth.ensures s d st)) ∙ sym (c.spot.ensures s (bare d) there) ∙ c.in-None.is in
    record { refused = false; does = not_watched s d h c.args.written.now stands (condition_in c.args.text.now) c.args.session.now (no_step s d h c.args.written.now at) st }

pub returns-in-Some : goal.returns-in-Some
returns-in-Some g c s d st =
    let stands = g.M.RecordedMachine.stands in
    let h = held c.args.holding.now in
    let there = subst (λ m. stands m s (bare d)) (sym c.machine.ensures) st.there in
    let room : nat_lt (length h.frames) 16 ≡ true = sym c.has_room.ensures ∙ c.if-not-has_room.false in
    c.watch_at.ensures s d st (c.selected_depth-depth.ensures s d st) (sym (c.spot.ensures s (bare d) there) ∙ c.in-Some.is) room

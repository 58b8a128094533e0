use Rattle.std.proofs.Common.{◌≡◌, sym, ap, subst, ◌∙◌, ℕ}
use Rattle.gang_types.specs.declared.places.Spot.{Spot}
use Rattle.gang_model.specs.Debugger.Debugger.{now}
use Rattle.debug_traits.specs.Frames.{state_at}
use Rattle.frame_expressions.specs.Lanes.{made_lanes}
use Rattle.expression_watches.specs.Codes.{AreCodesOf, kept_at, step_beside}
use Rattle.expression_watches.specs.Meanings.{HasCode, meaning_at}
use Rattle.expression_watches.specs.Sights.{shown_of}
use Rattle.expression_watches.proofs.Keeping.{kept_code}
use Rattle.expression_watches.proofs.sights.sight_at.Goals as goal

pub returns-in-Some-clause-sight : goal.returns-in-Some-clause-sight
returns-in-Some-clause-sight g c s d stands at are =
    let w = c.args.watch.now in
    let spot = c.args.spot in
    let meant = λ (x : Spot). meaning_at s.program w.set_at x w.text.items in
    let here : step_beside w.set_at spot.number ≡ spot = ap (λ (n : ℕ). record { function = record { 0 = n }; number = spot.number }) c.if-watch-spot.false in
    let kept = subst (λ p. AreCodesOf p w c.args.kept.now → AreCodesOf p w c.read_at.new.kept) (sym (c.program.ensures s d stands)) c.read_at.ensures.codes are spot.number in
    let found = kept_at c.read_at.new.kept.codes.items spot.number in
    let code = kept_code s.program (step_beside w.set_at spot.number) (meant (step_beside w.set_at spot.number)) found c.in-Some.code.now (sym c.in-Some.ensures) kept in
    let (written, type, rate, means, is) = subst (λ x. HasCode s.program x (meant x) c.in-Some.code.now) here code in
    c.computed.ensures s d spot written type rate stands at means ∙ ap (λ m. shown_of m (made_lanes w.depth (now s d)) (state_at w.depth (now s d))) (sym is)

use Rattle.std.proofs.Common.{refl, sym, subst, ◌∙◌}
use Rattle.conditional_stops.specs.declared.reasons.Reason.TheVariants as reason
use Rattle.conditional_stops.specs.Reasons.{AsksOne}
use Rattle.conditional_stops.specs.Views.{table_of}
use Rattle.conditional_stops.specs.Watches.{seen, watch_number}
use Rattle.conditional_stops.proofs.Asked.{asks_one}
use Rattle.conditional_stops.proofs.Changed.{asked_changed}
use Rattle.conditional_stops.proofs.asking.ask_frame.Goals as goal

pub returns-then-differs : goal.returns-then-differs
returns-then-differs g c s began d st old new =
    let w = c.args.watch.now in
    let told = sym (c.differs.ensures (seen s began w) (seen s d w) old new) ∙ c.if-differs.true in
    asked_changed c.args.direction s began d w (table_of c.args.conditions.now) (table_of c.ask.new.conditions) c.ask.result _ told
    (asks_one s d (reason.Watch (watch_number w)) (table_of c.args.conditions.now) (table_of c.ask.new.conditions) c.ask.result
    (subst (λ n. AsksOne s d (reason.Watch n) (table_of c.args.conditions.now) c.ask.result (table_of c.ask.new.conditions)) c.number.ensures (c.ask.ensures s d st)))

pub returns-else-differs : goal.returns-else-differs
returns-else-differs g c s began d st old new =
    let w = c.args.watch.now in
    let told = sym (c.differs.ensures (seen s began w) (seen s d w) old new) ∙ c.if-differs.false in
    asked_changed c.args.direction s began d w (table_of c.args.conditions.now) (table_of c.args.conditions.now) _ _ told (refl, refl)

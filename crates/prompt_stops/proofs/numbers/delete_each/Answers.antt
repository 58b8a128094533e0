use Rattle.std.proofs.Common.{◌≡◌, ◌<◌, ◌+◌, ◌∷◌, length, get_or, drop, sym, subst, ◌∙◌, append-nil, rules}
use Rattle.std.proofs.lemmas.List.{at_drop_all, at_drop_more}
use Rattle.command_lists.specs.Lists.{HasDone}
use Rattle.prompt_scenes.specs.Holding.{held}
use Rattle.prompt_stops.proofs.Numbered.{DeletedSo, none_deleted, one_deleted}
use Rattle.prompt_stops.proofs.numbers.delete_each.Goals as goal

pub loop-number-init : goal.loop-number-init
loop-number-init g c s d st = none_deleted g.M.RecordedMachine.stands s d c.args.numbers.now (held c.args.holding.now) c.args.session.now st

pub loop-number-preserved : goal.loop-number-preserved
loop-number-preserved g c s d st =
    let stands = g.M.RecordedMachine.stands in
    let numbers = c.args.numbers.now in
    let k = c.loop-number.number-index in
    let h = held c.args.holding.now in
    let middle = c.loop-number.session in
    let new = c.delete_by.new.session in
    let now = held c.loop-number.holding in
    let later = held c.delete_by.new.holding in
    let x = get_or numbers k 0 in
    let inside : k < length numbers = search rules in
    let rest : drop k numbers ≡ x ∷ drop (k + 1) numbers = at_drop_more (λ l. l) numbers k 0 inside in
    one_deleted stands s d numbers h x (drop (k + 1) numbers) middle new now later
    (subst (λ left. DeletedSo stands s d numbers h left middle now) rest (c.loop-number.invariant s d st))
    (λ e there. c.delete_by.ensures s e there)

pub returns : goal.returns
returns g c s d st =
    let stands = g.M.RecordedMachine.stands in
    let numbers = c.args.numbers.now in
    let h = held c.args.holding.now in
    let middle = c.loop-number.session in
    let now = held c.loop-number.holding in
    let so = subst (λ left. DeletedSo stands s d numbers h left middle now) (at_drop_all (λ l. l) numbers c.loop-number.number-index c.loop-number-test.false) (c.loop-number.invariant s d st) in (
      subst (λ commands. HasDone stands s commands d middle) (sym (append-nil so.commands) ∙ so.same) so.done,
      so.held,
    )

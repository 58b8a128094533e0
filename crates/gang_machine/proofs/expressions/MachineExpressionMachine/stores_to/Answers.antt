use Rattle.std.proofs.Common.{◌∙◌, sym, ap, subst}
use Rattle.gang_types.specs.Masks.{lanes_of}
use Rattle.gang_model.specs.Running.State.{view_of}
use Rattle.debug_traits.specs.Frames.{state_at}
use Rattle.frame_expressions.specs.Stores.{elements_from, meets}
use Rattle.gang_machine.specs.Standings.{Stands}
use Rattle.gang_machine.specs.Stored.{IsNextStore, written_by}
use Rattle.gang_machine.proofs.Agreeing.{masked_now}
use Rattle.gang_machine.proofs.Seeing.{is_seen_at, shown_here}
use Rattle.gang_machine.proofs.StoringNow.{stores_now}
use Rattle.gang_machine.proofs.expressions.MachineExpressionMachine.stores_to.Goals as goal

pub returns-in-Some : goal.returns-in-Some
returns-in-Some g c s d v stands is array =
    let m = c.self.inside in
    let history = g.T.Timeline.history in
    let w = g.row.W in
    let runnable = c.self.invariant.lie.compiled_is.runnable in
    let here = subst (λ m. Stands m s d) (sym c.self.view_is) stands in
    let shown = shown_here history w m.entry m.compiled m.lines.items m.words c.self.invariant s d here in
    let seen = is_seen_at history w m.entry m.compiled m.lines.items m.words c.self.invariant s d here c.args.depth v is.there in
    let masked = masked_now w m.entry m.compiled.program m.lines.items m.words.layout (history m.words.store.timeline) runnable.lowerable s d here in
    let stored = c.in-Some.stored in
    let wanted = elements_from c.args.first c.args.count (view_of (state_at c.args.depth masked.state) v.id) in
    c.meets.ensures
    ∙ ap (λ view. meets (elements_from c.args.first c.args.count view) (lanes_of w stored.lanes) (written_by w stored))
    (c.named_view-named.ensures masked v shown seen array is.id ∙ ap (view_of (state_at c.args.depth masked.state)) (sym is.id))
    ∙ subst (λ found. IsNextStore w m.compiled masked found) c.in-Some.is (c.next_store.ensures masked shown) wanted
    ∙ sym (stores_now w m.entry m.compiled runnable m.lines.items m.words.layout (history m.words.store.timeline) s d here c.args.depth v.id c.args.first c.args.count)

pub returns-in-None : goal.returns-in-None
returns-in-None g c s d v stands is array =
    let m = c.self.inside in
    let history = g.T.Timeline.history in
    let w = g.row.W in
    let runnable = c.self.invariant.lie.compiled_is.runnable in
    let here = subst (λ m. Stands m s d) (sym c.self.view_is) stands in
    let shown = shown_here history w m.entry m.compiled m.lines.items m.words c.self.invariant s d here in
    let masked = masked_now w m.entry m.compiled.program m.lines.items m.words.layout (history m.words.store.timeline) runnable.lowerable s d here in
    let wanted = elements_from c.args.first c.args.count (view_of (state_at c.args.depth masked.state) v.id) in
    subst (λ found. IsNextStore w m.compiled masked found) c.in-None.is (c.next_store.ensures masked shown) wanted
    ∙ sym (stores_now w m.entry m.compiled runnable m.lines.items m.words.layout (history m.words.store.timeline) s d here c.args.depth v.id c.args.first c.args.count)

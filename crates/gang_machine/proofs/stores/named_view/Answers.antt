use Rattle.std.proofs.Common.{◌≡◌, ◌∙◌, sym, subst}
use Rattle.gang_model.specs.Running.State.{view_of}
use Rattle.debug_traits.specs.Frames.{state_at}
use Rattle.machine_states.specs.ArrayParts.{view_at}
use Rattle.machine_words.specs.Words.{regions_in}
use Rattle.gang_machine.proofs.NamedViews.{view_nowhere, view_there}
use Rattle.gang_machine.proofs.stores.named_view.Goals as goal

pub returns-in-Some : goal.returns-in-Some
returns-in-Some g c masked v shown seen array id =
    let history = g.T.Timeline.history in
    let w = g.row.W in
    let compiled = c.args.compiled.now in
    let words = c.args.words.now in
    let active = c.in-Some.active in
    let next = c.in-Some.ensures.step in
    c.view.ensures
    ∙ sym (subst (λ a. view_of (state_at c.args.depth masked.state) a ≡ view_at (regions_in history w words) active.frame a) id
    (view_there history w compiled c.requires.sound.lie.compiled_is.runnable words masked shown c.args.depth v array active next.0 next.1 (c.in-Some.ensures.place masked shown) seen))

pub returns-in-None : goal.returns-in-None
returns-in-None g c masked v shown seen array id =
    let history = g.T.Timeline.history in
    let w = g.row.W in
    let compiled = c.args.compiled.now in
    let words = c.args.words.now in
    c.view-in-None.ensures
    ∙ sym (subst (λ a. view_of (state_at c.args.depth masked.state) a ≡ view_at (regions_in history w words) 0 a) id
    (view_nowhere history w compiled c.requires.sound.lie.compiled_is.runnable words masked shown c.args.depth v array (c.in-None.ensures.place masked shown) seen 0))

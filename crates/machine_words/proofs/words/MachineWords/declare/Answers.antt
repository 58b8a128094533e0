use Rattle.std.proofs.Common.{◌≡◌, ◌≤◌, ◌∙◌, sym, ap, subst, arith, length}
use Rattle.gang_types.specs.Masks.{lanes_of}
use Rattle.gang_model.specs.Running.Lanes.{merged}
use Rattle.machine_states.specs.Effects.{declared_region}
use Rattle.gang_model.specs.Running.State.{words_for}
use Rattle.machine_words.specs.Views.{region_view}
use Rattle.machine_words.specs.Words.{Writes, regions_in}
use Rattle.machine_words.proofs.AllLanes.{merged_all}
use Rattle.machine_words.proofs.words.MachineWords.declare.Goals as goal

pub returns-in-Varying : goal.returns-in-Varying
returns-in-Varying g c =
    let history = g.T.Timeline.history in
    let machine = c.args.self.now in
    let region = region_view c.args.region in
    let own = regions_in history g.row.W machine region in
    let lanes = lanes_of g.row.W c.args.mask in
    let room : g.row.W ≤ length own = subst (λ r. words_for g.row.W r ≤ length own) c.in-Varying.is c.requires.room in
    let whole : length own ≡ g.row.W = omega (arith, room, c.requires.most) in
    let wide : length c.only.result ≡ g.row.W = omega arith in
    subst (λ after. Writes history g.T.Timeline.left g.row.W region after g.row.W machine c.set_lanes.new.self)
    (ap (λ all. merged all c.only.result own) c.all.ensures
    ∙ merged_all g.row.W c.only.result own wide whole
    ∙ c.only.ensures
    ∙ ap (λ r. declared_region r lanes c.args.values own) (sym c.in-Varying.is))
    c.set_lanes.ensures

-- as many of the first words as were gone through are set
use Rattle.std.proofs.Common.{take}
use Rattle.gang_model.specs.Debugger.Events.{covered}
use Rattle.machine_words.specs.Views.{region_view}
use Rattle.machine_words.specs.Words.{Writes, regions_in}
use Rattle.machine_words.proofs.words.MachineWords.fill.Given as goal

abbrev pub invariant-loop-index : goal.invariant-loop-index
invariant-loop-index g l =
    let region = region_view l.fn.region in
    Writes g.T.Timeline.history g.T.Timeline.left g.row.W region (covered (take l.index l.fn.words) (regions_in g.T.Timeline.history g.row.W l.fn.self region)) l.index l.fn.self l.self

use Rattle.std.proofs.Common.{arith}
use Rattle.gang_types.specs.Masks.{lanes_of}
use Rattle.machine_states.specs.Rounds.{lane_words}
use Rattle.machine_words.specs.Views.{region_view}
use Rattle.machine_rounds.proofs.RoundWrites.{all_declared, may_declare, none_declared, one_declared}
use Rattle.machine_rounds.proofs.rounds.declare_all.Goals as goal

pub loop-dimension-init : goal.loop-dimension-init
loop-dimension-init g c = none_declared g.T.Timeline.history g.T.Timeline.left g.row.W c.args.frame c.requires.width c.args.lanes c.args.variables.now (lane_words g.row.W c.args.indices.now) c.args.words.now c.requires.laid

pub declare_index-requires : goal.declare_index-requires
declare_index-requires g c =
    may_declare g.T.Timeline.history g.T.Timeline.left g.row.W c.args.frame c.requires.width c.args.lanes c.args.variables.now (lane_words g.row.W c.args.indices.now) c.args.words.now
    c.loop-dimension.dimension _ c.loop-dimension-test.true (c.requires.sized c.loop-dimension.dimension _ c.loop-dimension-test.true) c.loop-dimension.words c.loop-dimension.invariant
    (region_view c.region_of-region.result) c.region_of-region.ensures c.requires.few c.requires.lane c.requires.left

pub loop-dimension-preserved : goal.loop-dimension-preserved
loop-dimension-preserved g c =
    one_declared g.T.Timeline.history g.T.Timeline.left g.row.W c.args.frame c.requires.width c.args.lanes c.args.variables.now (lane_words g.row.W c.args.indices.now) c.args.words.now
    c.loop-dimension.dimension _ c.loop-dimension-test.true (c.requires.sized c.loop-dimension.dimension _ c.loop-dimension-test.true) c.loop-dimension.words c.loop-dimension.invariant
    (region_view c.region_of-region.result) c.region_of-region.ensures c.index_words-values.result c.index_words-values.ensures c.declare_index.new.words c.declare_index.ensures

pub returns : goal.returns
returns g c =
    all_declared g.T.Timeline.history g.T.Timeline.left g.row.W c.args.frame (lanes_of g.row.W c.args.lanes) c.args.variables.now (lane_words g.row.W c.args.indices.now) c.args.words.now c.loop-dimension.words
    c.loop-dimension.dimension (omega arith) (omega (arith, c.requires.few)) c.loop-dimension.invariant

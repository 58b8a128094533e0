use Rattle.std.proofs.Common.{◌≡◌, length, arith, slice_index, ◌∙◌, sym, ap}
use Rattle.std.specs.Prelude.{Ok, Err}
use Rattle.gang_types.specs.declared.faults.FaultName.TheVariants.{LaneIndex}
use Rattle.gang_types.specs.Lanes.{lowest}
use Rattle.gang_types.specs.Masks.{lanes_of}
use Rattle.gang_types.specs.MaskLaws.{length-lanes_of_word}
use Rattle.gang_model.specs.Running.Lanes.{in_lane}
use Rattle.gang_model.specs.Running.Library.{lane_value}
use Rattle.cross_lane.specs.Calls.{values_in}
use Rattle.cross_lane.specs.EachLaws.{length-each}
use Rattle.cross_lane.specs.AttemptLaws.{all_ok, lowest_err, fault_at, lane_found, lane_missing}
use Rattle.cross_lane.proofs.shuffles.extract.Goals as goal

pub returns-then-index-clause-value : goal.returns-then-index-clause-value
returns-then-index-clause-value g c =
    let long : length (values_in (lanes_of g.row.W c.args.mask) c.args.words) ≡ g.row.W = length-each (lanes_of g.row.W c.args.mask) (slice_index c.args.words) ∙ length-lanes_of_word g.row.W c.args.mask.word in
    ap (λ xs. Ok (slice_index xs c.args.index)) c.active_words-values.ensures
    ∙ sym (ap (in_lane (lowest (lanes_of g.row.W c.args.mask))) (lane_found (values_in (lanes_of g.row.W c.args.mask) c.args.words) c.args.index (omega (arith, long, c.if-index.true))))

pub returns-then-index-clause-spread : goal.returns-then-index-clause-spread
returns-then-index-clause-spread g c =
    let long : length (values_in (lanes_of g.row.W c.args.mask) c.args.words) ≡ g.row.W = length-each (lanes_of g.row.W c.args.mask) (slice_index c.args.words) ∙ length-lanes_of_word g.row.W c.args.mask.word in
    sym (all_ok g.row.W (lanes_of g.row.W c.args.mask) (λ k. lane_value (values_in (lanes_of g.row.W c.args.mask) c.args.words) c.args.index) (λ k. slice_index c.active_words-values.result c.args.index)
    (length-lanes_of_word g.row.W c.args.mask.word)
    (λ i h e. lane_found (values_in (lanes_of g.row.W c.args.mask) c.args.words) c.args.index (omega (arith, long, c.if-index.true)) ∙ sym (ap (λ xs. Ok (slice_index xs c.args.index)) c.active_words-values.ensures)))

pub returns-else-index-clause-value : goal.returns-else-index-clause-value
returns-else-index-clause-value g c =
    let long : length (values_in (lanes_of g.row.W c.args.mask) c.args.words) ≡ g.row.W = length-each (lanes_of g.row.W c.args.mask) (slice_index c.args.words) ∙ length-lanes_of_word g.row.W c.args.mask.word in
    ap (λ k. Err (fault_at k LaneIndex)) c.lowest.ensures.value
    ∙ sym (ap (in_lane (lowest (lanes_of g.row.W c.args.mask))) (lane_missing (values_in (lanes_of g.row.W c.args.mask) c.args.words) c.args.index (omega (arith, long, c.if-index.false))))

pub returns-else-index-clause-spread : goal.returns-else-index-clause-spread
returns-else-index-clause-spread g c =
    let long : length (values_in (lanes_of g.row.W c.args.mask) c.args.words) ≡ g.row.W = length-each (lanes_of g.row.W c.args.mask) (slice_index c.args.words) ∙ length-lanes_of_word g.row.W c.args.mask.word in
    ap (λ k. Err (fault_at k LaneIndex)) c.lowest.ensures.value
    ∙ sym (lowest_err (lanes_of g.row.W c.args.mask) (λ k. lane_value (values_in (lanes_of g.row.W c.args.mask) c.args.words) c.args.index) LaneIndex c.requires.lane
    (λ i. lane_missing (values_in (lanes_of g.row.W c.args.mask) c.args.words) c.args.index (omega (arith, long, c.if-index.false))))

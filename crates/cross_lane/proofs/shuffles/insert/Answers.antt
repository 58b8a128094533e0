use Rattle.std.proofs.Common.{◌≡◌, length, arith, slice_index, ◌∙◌, sym, ap, cond, nat_eq}
use Rattle.std.specs.Prelude.{Ok, Err, slice_set}
use Rattle.gang_types.specs.declared.faults.FaultName.TheVariants.{LaneIndex}
use Rattle.gang_types.specs.Masks.{lanes_of}
use Rattle.gang_types.specs.MaskLaws.{length-lanes_of_word}
use Rattle.gang_model.specs.Running.Lanes.{each, ◌>>=◌}
use Rattle.gang_model.specs.Running.Library.{lane_value}
use Rattle.cross_lane.specs.Calls.{values_in}
use Rattle.cross_lane.specs.EachLaws.{each_same, length-each, lane_set}
use Rattle.cross_lane.specs.AttemptLaws.{all_ok, lowest_err, lane_found, lane_missing, fault_at}
use Rattle.cross_lane.proofs.shuffles.insert.Goals as goal

pub returns-then-index : goal.returns-then-index
returns-then-index g c =
    let long : length (values_in (lanes_of g.row.W c.args.mask) c.args.words) ≡ g.row.W = length-each (lanes_of g.row.W c.args.mask) (slice_index c.args.words) ∙ length-lanes_of_word g.row.W c.args.mask.word in
    let words : length c.args.words ≡ g.row.W = omega arith in
    ap Ok
    (c.active_words.ensures
    ∙ each_same g.row.W (lanes_of g.row.W c.args.mask) (slice_index (slice_set c.args.words c.args.index c.args.new))
    (λ k. cond (nat_eq k c.args.index) c.args.new (slice_index (values_in (lanes_of g.row.W c.args.mask) c.args.words) k)) (length-lanes_of_word g.row.W c.args.mask.word)
    (λ i h e. lane_set (lanes_of g.row.W c.args.mask) c.args.words c.args.index c.args.new i (omega arith) e))
    ∙ sym (ap (λ r. r >>= λ found. Ok (each (lanes_of g.row.W c.args.mask) (λ k. cond (nat_eq k c.args.index) c.args.new (slice_index (values_in (lanes_of g.row.W c.args.mask) c.args.words) k))))
    (all_ok g.row.W (lanes_of g.row.W c.args.mask) (λ k. lane_value (values_in (lanes_of g.row.W c.args.mask) c.args.words) c.args.index) (λ k. slice_index (values_in (lanes_of g.row.W c.args.mask) c.args.words) c.args.index)
    (length-lanes_of_word g.row.W c.args.mask.word)
    (λ i h e. lane_found (values_in (lanes_of g.row.W c.args.mask) c.args.words) c.args.index (omega (arith, long, c.if-index.true)))))

pub returns-else-index : goal.returns-else-index
returns-else-index g c =
    let long : length (values_in (lanes_of g.row.W c.args.mask) c.args.words) ≡ g.row.W = length-each (lanes_of g.row.W c.args.mask) (slice_index c.args.words) ∙ length-lanes_of_word g.row.W c.args.mask.word in
    ap (λ k. Err (fault_at k LaneIndex)) c.lowest.ensures.value
    ∙ sym (ap (λ r. r >>= λ found. Ok (each (lanes_of g.row.W c.args.mask) (λ k. cond (nat_eq k c.args.index) c.args.new (slice_index (values_in (lanes_of g.row.W c.args.mask) c.args.words) k))))
    (lowest_err (lanes_of g.row.W c.args.mask) (λ k. lane_value (values_in (lanes_of g.row.W c.args.mask) c.args.words) c.args.index) LaneIndex c.requires.lane
    (λ i. lane_missing (values_in (lanes_of g.row.W c.args.mask) c.args.words) c.args.index (omega (arith, long, c.if-index.false)))))

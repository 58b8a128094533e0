use Rattle.std.proofs.Common.{◌∙◌, sym, ap}
use Rattle.std.specs.Prelude.{Ok, ◌==◌, if◌then◌else◌}
use Rattle.gang_types.specs.Masks.{lanes_of}
use Rattle.gang_model.specs.Running.Lanes.{◌>>=◌, each, at}
use Rattle.cross_lane.specs.Calls.{answer_of, values_in}
use Rattle.expression_instructions.proofs.Inserted.{no_fault, inserted_words}
use Rattle.expression_instructions.proofs.library.inserted.Goals as goal

pub returns-in_err-own : goal.returns-in_err-own
returns-in_err-own g c = absurd (no_fault (lanes_of g.row.W c.args.mask) c.lane_numbers.result c.args.indices c.binary.result _ c.in_err-own.was c.binary.ensures)

pub returns : goal.returns
returns g c =
    ap Ok (c.chosen.ensures ∙ inserted_words (lanes_of g.row.W c.args.mask) c.lane_numbers.result c.in_ok-own.own c.args.indices c.args.new_values c.args.values c.binary.result c.lane_numbers.ensures c.in_ok-own.was c.binary.ensures)
    ∙ ap (λ r. r >>= λ found. Ok (each (lanes_of g.row.W c.args.mask) (λ k. if k == at c.args.indices k then at c.args.new_values k else at (values_in (lanes_of g.row.W c.args.mask) c.args.values) k)))
    (sym (ap answer_of c.in_ok-_lanes_are_there.was) ∙ c.picked.ensures)

use Rattle.std.proofs.Common.{◌∙◌, ap}
use Rattle.std.specs.Prelude.{Err}
use Rattle.std.proofs.lemmas.Result.{err_from_is_err_and}
use Rattle.gang_types.specs.Masks.{lanes_of}
use Rattle.gang_types.specs.MaskLaws.{length-lanes_of_word}
use Rattle.cross_lane.specs.Calls.{fault_of}
use Rattle.gang_memory.specs.Packed.{loaded_answer}
use Rattle.gang_memory.proofs.Attempts.{ranked_elements}
use Rattle.gang_memory.proofs.Members.{count_members}
use Rattle.gang_memory.proofs.packed.packed_load.Goals as goal

pub returns-in_err-words-clause-words : goal.returns-in_err-words-clause-words
returns-in_err-words-clause-words g c state view shows =
    let p = err_from_is_err_and c.from_residual.result c.from_residual.ensures.1 in
    ap loaded_answer p.1
    ∙ ap (λ found. Err (fault_of found)) p.2
    ∙ c.in_err-words.ensures state view shows
    ∙ ranked_elements g.row.W (lanes_of g.row.W c.args.mask) state view c.ranks.result (length-lanes_of_word g.row.W c.args.mask.word) c.ranks.ensures

pub returns-clause-words : goal.returns-clause-words
returns-clause-words g c state view shows =
    c.in_ok-words.ensures state view shows
    ∙ ranked_elements g.row.W (lanes_of g.row.W c.args.mask) state view c.ranks.result (length-lanes_of_word g.row.W c.args.mask.word) c.ranks.ensures

pub returns-clause-count : goal.returns-clause-count
returns-clause-count g c = c.count.ensures.value ∙ count_members (lanes_of g.row.W c.args.mask)

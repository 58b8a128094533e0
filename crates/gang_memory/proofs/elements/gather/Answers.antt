use Rattle.std.proofs.Common.{arith, sym, ◌∙◌, ap}
use Rattle.std.specs.Prelude.{Ok, Err}
use Rattle.std.proofs.lemmas.Result.{err_from_is_err_and}
use Rattle.gang_types.specs.Masks.{lanes_of}
use Rattle.gang_types.specs.MaskLaws.{gang_width-le, length-lanes_of_word}
use Rattle.cross_lane.specs.Calls.{answer_of, fault_of}
use Rattle.gang_memory.proofs.Attempts.{all_there, first_missing, slots_within}
use Rattle.gang_memory.proofs.elements.gather.Goals as goal

pub returns-in_err-slots : goal.returns-in_err-slots
returns-in_err-slots g c state view shows =
    let p = err_from_is_err_and c.from_residual.result c.from_residual.ensures.1 in
    ap answer_of p.1
    ∙ ap (λ found. Err (fault_of found)) p.2
    ∙ sym (first_missing (g.S.WordStore.words c.args.store.now) c.args.part state view shows (lanes_of g.row.W c.args.mask) c.args.indices c.in_err-slots.field-0.0 c.in_err-slots.ensures.err)

pub words_at-requires : goal.words_at-requires
words_at-requires g c =
    let few = gang_width-le g.row.W c.requires.width in
    (omega (arith, few), (omega (arith, few), (c.requires.width, slots_within c.args.part (lanes_of g.row.W c.args.mask) c.args.indices c.in_ok-slots.slots c.in_ok-slots.ensures.ok _ c.requires.inside)))

pub returns : goal.returns
returns g c state view shows =
    ap Ok c.words_at.ensures
    ∙ sym (all_there (g.S.WordStore.words c.args.store.now) c.args.part state view shows g.row.W (lanes_of g.row.W c.args.mask) c.args.indices c.in_ok-slots.slots (length-lanes_of_word g.row.W c.args.mask.word) c.in_ok-slots.ensures.ok)

use Rattle.std.proofs.Common.{arith, sym, ◌∙◌, ap}
use Rattle.std.specs.Prelude.{Ok, Err}
use Rattle.std.proofs.lemmas.Result.{err_from_is_err_and}
use Rattle.gang_types.specs.Masks.{lanes_of}
use Rattle.gang_types.specs.MaskLaws.{gang_width-le, length-lanes_of_word}
use Rattle.gang_model.specs.Running.Lanes.{◌>>=◌}
use Rattle.cross_lane.specs.Calls.{fault_of}
use Rattle.gang_memory.specs.Elements.{stored, stored_answer}
use Rattle.gang_memory.proofs.Attempts.{all_there, first_missing, slots_within}
use Rattle.gang_memory.proofs.Stores.{words_stored, array_stored, part_kept}
use Rattle.gang_memory.proofs.elements.scatter.Goals as goal

pub returns-in_err-targets-clause-answer : goal.returns-in_err-targets-clause-answer
returns-in_err-targets-clause-answer g c state view shows =
    let words = g.S.WordStore.words c.args.store.now in
    let lanes = lanes_of g.row.W c.args.mask in
    let p = err_from_is_err_and c.from_residual.result c.from_residual.ensures.1 in
    ap (λ r. stored_answer r words) p.1
    ∙ ap (λ found. Err (fault_of found)) p.2
    ∙ sym (ap (λ r. r >>= λ old. Ok (stored c.args.part.first lanes c.args.indices c.args.values words)) (first_missing words c.args.part state view shows lanes c.args.indices c.in_err-targets.field-0.0 c.in_err-targets.ensures.err))

pub set_words-requires : goal.set_words-requires
set_words-requires g c =
    let few = gang_width-le g.row.W c.requires.width in
    (omega (arith, few), (omega (arith, few), (c.requires.width, (slots_within c.args.part (lanes_of g.row.W c.args.mask) c.args.indices c.in_ok-targets.targets c.in_ok-targets.ensures.ok _ c.requires.inside, c.requires.left))))

pub returns-clause-answer : goal.returns-clause-answer
returns-clause-answer g c state view shows =
    let words = g.S.WordStore.words c.args.store.now in
    let lanes = lanes_of g.row.W c.args.mask in
    ap Ok (words_stored c.args.part lanes c.args.indices c.in_ok-targets.targets c.args.values words (g.S.WordStore.words c.set_words.new.store) c.in_ok-targets.ensures.ok c.set_words.ensures.words)
    ∙ sym (ap (λ r. r >>= λ old. Ok (stored c.args.part.first lanes c.args.indices c.args.values words)) (all_there words c.args.part state view shows g.row.W lanes c.args.indices c.in_ok-targets.targets (length-lanes_of_word g.row.W c.args.mask.word) c.in_ok-targets.ensures.ok))

pub returns-clause-array : goal.returns-clause-array
returns-clause-array g c base first array in' stands =
    array_stored c.args.part (lanes_of g.row.W c.args.mask) c.args.indices c.in_ok-targets.targets c.args.values (g.S.WordStore.words c.args.store.now) (g.S.WordStore.words c.set_words.new.store) c.in_ok-targets.ensures.ok c.set_words.ensures.words
    base first array in' stands

pub returns-clause-only : goal.returns-clause-only
returns-clause-only g c = record {
  others = part_kept c.args.part (lanes_of g.row.W c.args.mask) c.args.indices c.in_ok-targets.targets c.args.values (g.S.WordStore.words c.args.store.now) (g.S.WordStore.words c.set_words.new.store) c.in_ok-targets.ensures.ok c.set_words.ensures.words;
  few = c.set_words.ensures.left;
  same = c.set_words.ensures.rest;
}

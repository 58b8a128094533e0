use Rattle.std.proofs.Common.{◌∙◌, ap, subst, List, ℕ}
use Rattle.std.specs.Prelude.{Ok, Err}
use Rattle.std.proofs.lemmas.Result.{err_from_is_err_and}
use Rattle.gang_types.specs.Masks.{lanes_of}
use Rattle.gang_types.specs.MaskLaws.{length-lanes_of_word}
use Rattle.gang_model.specs.Running.Lanes.{◌>>=◌}
use Rattle.gang_model.specs.Running.Library.{rank}
use Rattle.cross_lane.specs.Calls.{fault_of}
use Rattle.gang_memory.specs.Elements.{StandsAt, checked_store, stored, stored_answer}
use Rattle.gang_memory.proofs.Attempts.{ranked_elements}
use Rattle.gang_memory.proofs.Members.{count_members}
use Rattle.gang_memory.proofs.packed.packed_store.Goals as goal

pub returns-in_err-scatter-clause-answer : goal.returns-in_err-scatter-clause-answer
returns-in_err-scatter-clause-answer g c state view shows =
    let lanes = lanes_of g.row.W c.args.mask in
    let old = g.S.WordStore.words c.args.store.now in
    let p = err_from_is_err_and c.from_residual.result c.from_residual.ensures.1 in
    let ranks = c.ranks.ensures in
    ap (λ r. stored_answer r (g.S.WordStore.words c.scatter.new.store)) p.1
    ∙ ap (λ found. Err (fault_of found)) p.2
    ∙ c.in_err-scatter.ensures.answer state view shows
    ∙ ap (λ r. r >>= λ there. Ok (stored c.args.part.first lanes c.ranks.result c.args.values old)) (ranked_elements g.row.W lanes state view c.ranks.result (length-lanes_of_word g.row.W c.args.mask.word) ranks)
    ∙ ap (λ rs. checked_store state view lanes (rank lanes) (stored c.args.part.first lanes rs c.args.values old)) ranks

pub returns-clause-answer : goal.returns-clause-answer
returns-clause-answer g c state view shows =
    let lanes = lanes_of g.row.W c.args.mask in
    let old = g.S.WordStore.words c.args.store.now in
    let ranks = c.ranks.ensures in
    c.in_ok-scatter.ensures.answer state view shows
    ∙ ap (λ r. r >>= λ there. Ok (stored c.args.part.first lanes c.ranks.result c.args.values old)) (ranked_elements g.row.W lanes state view c.ranks.result (length-lanes_of_word g.row.W c.args.mask.word) ranks)
    ∙ ap (λ rs. checked_store state view lanes (rank lanes) (stored c.args.part.first lanes rs c.args.values old)) ranks

pub returns-clause-array : goal.returns-clause-array
returns-clause-array g c base first array in' stands =
    subst (λ (rs : List ℕ). StandsAt base (stored first (lanes_of g.row.W c.args.mask) rs c.args.values array) (g.S.WordStore.words c.scatter.new.store)) c.ranks.ensures
    (c.in_ok-scatter.ensures.array base first array in' stands)

pub returns-clause-count : goal.returns-clause-count
returns-clause-count g c = c.count.ensures.value ∙ count_members (lanes_of g.row.W c.args.mask)

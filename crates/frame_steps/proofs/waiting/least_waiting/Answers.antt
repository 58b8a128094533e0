use Rattle.std.proofs.Common.{◌≡◌, ◌≤◌, ◌∙◌, ap, arith, length, slice_index, sym, true}
use Rattle.std.specs.Prelude.{replicate}
use Rattle.gang_types.specs.Masks.{lanes_of}
use Rattle.gang_types.specs.MaskLaws.{length-lanes_of_word}
use Rattle.gang_memory.proofs.ScalarWords.{same_sets}
use Rattle.mask_states.specs.Masked.{waiting_for}
use Rattle.frame_steps.proofs.GangLanes.{gang_wide}
use Rattle.frame_steps.proofs.NextLanes.{least_of_same}
use Rattle.frame_steps.proofs.waiting.least_waiting.Goals as goal

pub returns-then-word-clause-number : goal.returns-then-word-clause-number
returns-then-word-clause-number g c =
    let w = g.row.W in
    let numbers = c.args.numbers.now in
    let first = slice_index c.args.numbers.now 0 in
    let lanes = lanes_of g.row.W c.waiting_for-lanes.result in
    let long : length c.args.numbers.now ≡ g.row.W = c.told-numbers in
    let wide : 4 ≤ g.row.W = gang_wide g.row.W c.requires in
    let every =
    same_sets w lanes (lanes_of g.row.W c.all.result) (length-lanes_of_word w c.waiting_for-lanes.result.word) (length-lanes_of_word w c.all.result.word)
    (sym c.word.ensures ∙ (c.if-word.true ∙ c.word-then-first-end.ensures))
    ∙ c.all.ensures in
    let same : waiting_for (slice_index c.args.numbers.now 0) c.args.numbers.now ≡ replicate (length c.args.numbers.now) true =
    sym c.waiting_for-lanes.ensures ∙ (every ∙ ap (λ n. replicate n true) (sym long)) in
    sym (least_of_same c.args.end first numbers (omega (arith, long, wide)) c.if-first-end.true same)

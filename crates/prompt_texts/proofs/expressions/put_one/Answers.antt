use Rattle.std.proofs.Common.{◌≡◌, ◌<◌, ◌∙◌, sym, ap, subst, true, false, codes, inl, inr, arith}
use Rattle.std.specs.Prelude.{if◌then◌else◌}
use Rattle.std.proofs.lemmas.Bool.{cases_lt}
use Rattle.gang_types.specs.LaneLaws.{lowest_is, some_lane}
use Rattle.gang_types.specs.Lanes.{has, lowest}
use Rattle.gang_types.specs.Masks.{lanes_of}
use Rattle.gang_types.specs.MaskLaws.{gang_width-le, length-lanes_of_word}
use Rattle.prompt_texts.specs.Forms.{lane_text}
use Rattle.prompt_texts.specs.Shown.{Puts}
use Rattle.prompt_texts.proofs.Putting.{all_wait, in_widest, puts_both, puts_none}
use Rattle.prompt_texts.proofs.expressions.put_one.Goals as goal

pub returns-then-has : goal.returns-then-has
returns-then-has g c gang =
    let given = c.args.lanes.now in
    let lanes = lanes_of given.width given.lanes in
    let lane = c.loop-lane.lane in
    let written = g.O.AnswerWriter.written in
    let old = c.args.page.now in
    let new = c.put_lane.new.page in
    let inside : lane < given.width = omega (arith, c.loop-lane-test.true, c.min-lane-end.ensures) in
    let active : has lanes lane ≡ true = sym (in_widest given.width given.lanes lane gang inside) ∙ sym c.has.ensures ∙ c.if-has.true in
    let text = lane_text c.args.digits c.args.value_type lanes given.words in
    let is = ap text (sym (lowest_is lanes lane active (c.loop-lane.invariant.1 gang))) ∙ ap (λ b. if b then codes " ." else text (lowest lanes)) (sym (some_lane lanes lane active)) in
    subst (λ t. Puts t old.has_failed new.has_failed (written old.writer) (written new.writer)) is
    (puts_both _ _ _ _ _ _ _ _ c.loop-lane.invariant.0 (c.put_lane.ensures gang inside))

pub loop-lane-init : goal.loop-lane-init
loop-lane-init g c = (puts_none _ _, λ gang k less. absurd (omega (arith, less)))

pub loop-lane-preserved : goal.loop-lane-preserved
loop-lane-preserved g c = (
  c.loop-lane.invariant.0,
  λ gang k less.
      let given = c.args.lanes.now in
      let lane = c.loop-lane.lane in
      let lanes = lanes_of given.width given.lanes in
      let inside : lane < given.width = omega (arith, c.loop-lane-test.true, c.min-lane-end.ensures) in
      let waits : has lanes lane ≡ false = sym (in_widest given.width given.lanes lane gang inside) ∙ sym c.has.ensures ∙ c.if-has.false in
      elim (cases_lt k lane) [
        | inl below ↦ c.loop-lane.invariant.1 gang k below
        | inr past ↦ let same : k ≡ lane = omega (arith, past, less) in ap (has lanes) same ∙ waits
      ],
)

pub returns : goal.returns
returns g c gang =
    let given = c.args.lanes.now in
    let lanes = lanes_of given.width given.lanes in
    let written = g.O.AnswerWriter.written in
    let old = c.args.page.now in
    let new = c.put.new.self in
    let wide = gang_width-le given.width gang in
    let all = length-lanes_of_word given.width given.lanes.word in
    let none = all_wait lanes (λ k less. c.loop-lane.invariant.1 gang k (omega (arith, less, all, wide, c.loop-lane-test.false, c.min-lane-end.ensures))) in
    let text = lane_text c.args.digits c.args.value_type lanes given.words in
    subst (λ b. Puts (if b then codes " ." else text (lowest lanes)) old.has_failed new.has_failed (written old.writer) (written new.writer)) (sym none)
    (puts_both _ _ _ _ _ _ _ _ c.loop-lane.invariant.0 c.put.ensures)

use Rattle.std.proofs.Common.{◌≡◌, ◌++◌, ◌∙◌, sym, subst, true, false, codes}
use Rattle.std.specs.Prelude.{slice_index, if◌then◌else◌}
use Rattle.gang_types.specs.Lanes.{has}
use Rattle.gang_types.specs.Masks.{lanes_of}
use Rattle.value_digits.specs.Words.{form_text}
use Rattle.prompt_texts.specs.Shown.{Puts}
use Rattle.prompt_texts.proofs.Putting.{in_widest}
use Rattle.prompt_texts.proofs.expressions.put_lane.Goals as goal

pub returns-then-has : goal.returns-then-has
returns-then-has g c gang inside =
    let given = c.args.lanes.now in
    let lane = c.args.lane in
    let written = g.O.AnswerWriter.written in
    let old = c.args.page.now in
    let new = c.put_word.new.page in
    let active : has (lanes_of given.width given.lanes) lane ≡ true = sym (in_widest given.width given.lanes lane gang inside) ∙ sym c.has.ensures ∙ c.if-has.true in
    subst (λ b. Puts (codes " " ++ (if b then form_text c.args.digits c.args.value_type (slice_index given.words lane) else codes ".")) old.has_failed new.has_failed (written old.writer) (written new.writer))
    (sym active) c.put_word.ensures

pub returns-else-has : goal.returns-else-has
returns-else-has g c gang inside =
    let given = c.args.lanes.now in
    let lane = c.args.lane in
    let written = g.O.AnswerWriter.written in
    let old = c.args.page.now in
    let new = c.put.new.self in
    let waits : has (lanes_of given.width given.lanes) lane ≡ false = sym (in_widest given.width given.lanes lane gang inside) ∙ sym c.has.ensures ∙ c.if-has.false in
    subst (λ b. Puts (codes " " ++ (if b then form_text c.args.digits c.args.value_type (slice_index given.words lane) else codes ".")) old.has_failed new.has_failed (written old.writer) (written new.writer))
    (sym waits) c.put.ensures

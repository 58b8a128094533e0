use Rattle.std.proofs.Common.{◌≡◌, ◌∙◌, ap, arith, length}
use Rattle.std.specs.Prelude.{Err}
use Rattle.std.proofs.lemmas.Result.{err_from_is_err_and}
use Rattle.frame_steps.proofs.GangLanes.{stacks_small}
use Rattle.machine_rounds.proofs.BeginMoves.{first_small, form, begins_here, form_opened, head_faults, may_open}
use Rattle.machine_rounds.proofs.beginning.begin_form.Goals as goal

pub first_words-requires : goal.first_words-requires
first_words-requires g c = (
  stacks_small g.row.W c.requires.sound.lie.gang,
  (
    first_small g.row.W c.requires.sound.lie.gang,
    (
      c.requires.sound,
      (
        form g.T.Timeline.history g.T.Timeline.left g.row.W c.args.compiled.now c.args.words.now c.requires.sound c.args.active c.args.form.now c.args.rounds c.args.next c.requires.does,
        begins_here g.T.Timeline.history g.T.Timeline.left g.row.W c.args.compiled.now c.args.words.now c.requires.sound c.args.active c.args.form.now c.args.rounds c.args.next c.requires.does,
      ),
    ),
  ),
)

pub returns-in_err-first : goal.returns-in_err-first
returns-in_err-first g c = λ masked shown.
    let history = g.T.Timeline.history in
    let left = g.T.Timeline.left in
    let compiled = c.args.compiled.now in
    let old = c.args.words.now in
    let of = form history left g.row.W compiled old c.requires.sound c.args.active c.args.form.now c.args.rounds c.args.next c.requires.does in
    let begins = begins_here history left g.row.W compiled old c.requires.sound c.args.active c.args.form.now c.args.rounds c.args.next c.requires.does in
    let p = err_from_is_err_and c.from_residual.result c.from_residual.ensures.1 in
    let fault = c.in_err-first.field-0.0 in
    head_faults history left g.row.W compiled old c.requires.sound c.args.active c.args.form.now c.args.rounds c.args.next c.requires.does
    c.from_residual.result fault (p.1 ∙ ap Err p.2) masked shown (c.in_err-first.ensures masked of shown begins)

pub open_level-requires : goal.open_level-requires
open_level-requires g c = (
  first_small g.row.W c.requires.sound.lie.gang,
  may_open g.T.Timeline.history g.T.Timeline.left g.row.W c.args.compiled.now c.args.words.now c.requires.sound c.args.active c.args.form.now c.args.rounds c.args.next c.requires.does
      c.begin.new.words c.begin.ensures,
)

pub returns : goal.returns
returns g c = λ masked shown.
    let history = g.T.Timeline.history in
    let left = g.T.Timeline.left in
    let compiled = c.args.compiled.now in
    let old = c.args.words.now in
    let of = form history left g.row.W compiled old c.requires.sound c.args.active c.args.form.now c.args.rounds c.args.next c.requires.does in
    let begins = begins_here history left g.row.W compiled old c.requires.sound c.args.active c.args.form.now c.args.rounds c.args.next c.requires.does in
    let counted : length c.in_ok-first.first.counters ≡ 9 = omega arith in
    let valued : length c.in_ok-first.first.values ≡ g.row.W = omega arith in
    form_opened history left g.row.W compiled old c.requires.sound c.args.active c.args.form.now c.args.rounds c.args.next c.requires.does
    c.begin.new.words c.begin.ensures c.in_ok-first.first c.open_level.new.words c.open_level.ensures counted valued masked shown
    (c.in_ok-first.ensures masked of shown begins)

use Rattle.std.proofs.Common.{◌≡◌, ℕ, ◌+◌, sym, subst, arith}
use Rattle.std.specs.Prelude.{flat_map}
use Rattle.std.specs.List.{range_with_len}
use Rattle.prompt_texts.specs.Shown.{Puts}
use Rattle.prompt_texts.proofs.Putting.{lanes_more, puts_both}
use Rattle.prompt_values.specs.Numbered.{kept, listed_line}
use Rattle.prompt_values.proofs.numbered.Values.put_from.Goals as goal

pub loop-place-preserved : goal.loop-place-preserved
loop-place-preserved g c =
    let text = λ (place : ℕ). listed_line (kept c.args.self.now) (c.args.first + place) in
    let place = c.loop-place.place in
    let written = g.O.AnswerWriter.written in
    let old = c.args.page.now in
    let new = c.put_listed.new.page in
    subst (λ t. Puts t old.has_failed new.has_failed (written old.writer) (written new.writer)) (sym (lanes_more text place))
    (puts_both _ _ _ _ _ _ _ _ c.loop-place.invariant c.put_listed.ensures)

pub returns : goal.returns
returns g c =
    let text = λ (place : ℕ). listed_line (kept c.args.self.now) (c.args.first + place) in
    let written = g.O.AnswerWriter.written in
    let old = c.args.page.now in
    let new = c.loop-place.page in
    let all : c.loop-place.place ≡ 10 = omega (arith, c.loop-place-test.false, c.loop-place.auto.place-end) in
    subst (λ n. Puts (flat_map text (range_with_len 0 n)) old.has_failed new.has_failed (written old.writer) (written new.writer)) all c.loop-place.invariant

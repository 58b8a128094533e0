use Rattle.std.proofs.Common.{◌≤◌, ◌-◌, false, drop, length, length-set, drop_of_length-le, sym, ap, ◌∙◌, arith}
use Rattle.std.specs.Prelude.{◌/◌}
use Rattle.std.specs.Fmt.{digits_onto}
use Rattle.prompt_texts.proofs.Spelling.{digits_are, further_digits, last_digit, spelled_before}
use Rattle.prompt_texts.proofs.forms.spell.Goals as goal

pub loop-first-init : goal.loop-first-init
loop-first-init c = (
  omega arith,
  c.told-text,
  ap (digits_onto 64 c.args.base false c.args.number) (drop_of_length-le c.args.text.now {i = 64} (omega (arith, c.told-text))) ∙ digits_are c.args.base c.args.number,
)

pub loop-first-preserved : goal.loop-first-preserved
loop-first-preserved c =
    let l = c.loop-first in
    let a = c.args in
    let within : l.first ≤ length l.text = omega (arith, l.invariant.0, l.invariant.1) in
    let kept = length-set l.text (l.first - 1) c.digit.result ∙ l.invariant.1 in
    let written = spelled_before l.text l.first a.base l.rest c.digit.result c.loop-first-test.true within c.digit.ensures in (
      omega (arith, l.invariant.0),
      kept,
      ap (digits_onto (l.first - 1) a.base false (l.rest / a.base)) written
          ∙ sym (further_digits l.first a.base l.rest (drop l.first l.text) c.loop-first-test.true c.if-rest-eq0.false)
          ∙ l.invariant.2,
    )

pub returns-then-rest-eq0 : goal.returns-then-rest-eq0
returns-then-rest-eq0 c =
    let l = c.loop-first in
    let a = c.args in
    let within : l.first ≤ length l.text = omega (arith, l.invariant.0, l.invariant.1) in
    let written = spelled_before l.text l.first a.base l.rest c.digit.result c.loop-first-test.true within c.digit.ensures in
    record {
      bound = omega (arith, l.invariant.0);
      digits = written ∙ sym (last_digit l.first a.base l.rest (drop l.first l.text) c.loop-first-test.true c.if-rest-eq0.true) ∙ l.invariant.2;
    }

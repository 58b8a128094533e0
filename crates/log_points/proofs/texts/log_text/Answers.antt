use Rattle.std.proofs.Common.{rules, ap, sym, subst, refl, suc, ◌∙◌, ◌++◌, string_bytes}
use Rattle.log_points.specs.Texts.{IsLogText, IsShown}
use Rattle.log_points.proofs.Splits.{joined, shorter}
use Rattle.log_points.proofs.texts.log_text.Goals as goal

pub loop-part-init : goal.loop-part-init
loop-part-init g c =
    (search rules, λ s d st later is. subst (λ text. IsLogText s d c.args.message.now (text ++ later)) (sym c.new-text.ensures.bytes) is)

pub loop-part-smaller : goal.loop-part-smaller
loop-part-smaller g c = shorter _ _ _ _ c.in-Some.ensures

pub loop-part-preserved : goal.loop-part-preserved
loop-part-preserved g c = (
  search rules,
  λ s d st later is.
      let part = c.in-Some.part in
      let old = string_bytes c.loop-part.text in
      let value = c.as_str.result.now in
      let shown = subst (λ text. IsShown s d part.expression.now text) (sym c.as_str.ensures.value) (c.in_ok-shown.ensures s d st) in
      let new = c.in_ok-push_str-2.ensures.bytes ∙ ap (λ text. text ++ value) c.in_ok-push_str.ensures.bytes in
      subst (λ text. IsLogText s d c.args.message.now text) (joined old part.before.now value later _ new)
      (c.loop-part.invariant.1 s d st (part.before.now ++ (value ++ later))
      (suc is.0, (part.before.now, part.expression.now, part.behind.now, value, later, c.in-Some.ensures, shown, is.1, refl))),
)

pub returns : goal.returns
returns g c s d st =
    subst (λ text. IsLogText s d c.args.message.now text) (sym c.in_ok-push_str-3.ensures.bytes)
    (c.loop-part.invariant.1 s d st c.loop-part.rest.now (0, (c.in_default.ensures, refl)))

use Rattle.std.proofs.Common.{◌+◌, ◌/◌, ◌%◌, ◌∷◌, ◌++◌, ◌∙◌, ap, decimal, arith}
use Rattle.std.proofs.lemmas.Fmt.{decimal_digit}
use Rattle.std.proofs.lemmas.Result.{IfOk-weaker}
use Rattle.value_digits.proofs.words.octal_escape.Goals as goal

pub returns : goal.returns
returns c =
    let byte = c.args.byte in
    let high = decimal_digit (byte / 64) (omega (arith, c.ranges.byte)) in
    let middle = decimal_digit (byte / 8 % 8) (omega arith) in
    let low = decimal_digit (byte % 8) (omega arith) in
    IfOk-weaker c.format.result _ _ (λ text is. is
    ∙ ap (λ d. 92 ∷ (d ++ (decimal (byte / 8 % 8) ++ decimal (byte % 8)))) high
    ∙ ap (λ d. 92 ∷ (48 + byte / 64) ∷ (d ++ decimal (byte % 8))) middle
    ∙ ap (λ d. 92 ∷ (48 + byte / 64) ∷ (48 + byte / 8 % 8) ∷ d) low) c.format.ensures.ok

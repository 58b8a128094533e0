use Rattle.std.proofs.Common.{◌++◌, ◌∙◌, sym, ap, append_assoc, codes}
use Rattle.std.specs.Fmt.{signed_decimal}
use Rattle.std.proofs.lemmas.Result.{IfOk-weaker}
use Rattle.gang_types.specs.Values.{value_of}
use Rattle.value_digits.specs.Words.{bits_of, character}
use Rattle.value_digits.proofs.words.quoted_text.Goals as goal

pub returns : goal.returns
returns c =
    let number = signed_decimal (value_of c.args.value_type c.args.word) in
    let letters = character (bits_of c.args.value_type c.args.word) in
    let counted = c.as_str-number.ensures.value ∙ c.in_ok-number.ensures in
    let shown = c.as_str-character.ensures.value ∙ c.in_ok-character.ensures ∙ ap character c.bits_of.ensures in
    IfOk-weaker c.format.result _ _ (λ text is. is
    ∙ ap (λ n. n ++ (codes " '" ++ (c.as_str-character.result.now ++ codes "'"))) counted
    ∙ ap (λ l. number ++ (codes " '" ++ (l ++ codes "'"))) shown
    ∙ sym (append_assoc number (codes " '") (letters ++ codes "'"))
    ∙ sym (append_assoc (number ++ codes " '") letters (codes "'"))) c.format.ensures.ok

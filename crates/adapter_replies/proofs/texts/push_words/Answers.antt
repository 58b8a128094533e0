use Rattle.std.proofs.Common.{◌++◌, ◌∷◌, [], ◌∙◌, sym, ap, take, get_or, string_bytes, append_assoc, arith}
use Rattle.std.specs.Prelude.{flat_map}
use Rattle.std.proofs.lemmas.List.{take_all}
use Rattle.value_digits.specs.Words.{form_text}
use Rattle.debug_texts.proofs.Pieces.{flat_more}
use Rattle.adapter_replies.specs.Variables.{behind_blank}
use Rattle.adapter_replies.proofs.texts.push_words.Goals as goal

pub loop-word-preserved : goal.loop-word-preserved
loop-word-preserved c =
    let words = c.args.words.now in
    let index = c.loop-word.word-index in
    let old = string_bytes c.args.text.now in
    let each = behind_blank c.args.digits c.args.value_type in
    let front = flat_map each (take index words) in
    let word = get_or words index 0 in
    let shown = c.as_str.ensures.value ∙ c.in_ok-shown.ensures in
    c.in_ok-push_str-2.ensures.bytes
    ∙ ap (λ t. t ++ c.as_str.result.now) (c.in_ok-push_str.ensures.bytes ∙ ap (λ t. t ++ 32 ∷ []) c.loop-word.invariant)
    ∙ ap (λ t. ((old ++ front) ++ 32 ∷ []) ++ t) shown
    ∙ append_assoc (old ++ front) (32 ∷ []) (form_text c.args.digits c.args.value_type word)
    ∙ append_assoc old front (each word)
    ∙ ap (λ t. old ++ t) (sym (flat_more each words index 0 c.loop-word-test.true))

pub returns : goal.returns
returns c =
    let words = c.args.words.now in
    let end = take_all c.loop-word.word-index words (omega (arith, c.loop-word-test.false)) in
    c.loop-word.invariant ∙ ap (λ l. string_bytes c.args.text.now ++ flat_map (behind_blank c.args.digits c.args.value_type) l) end

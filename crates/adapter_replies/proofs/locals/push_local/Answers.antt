use Rattle.std.proofs.Common.{◌++◌, ◌∷◌, [], ◌∙◌, sym, ap, codes}
use Rattle.std.specs.Prelude.{flat_map}
use Rattle.gang_types.specs.declared.types.IntType.{IntType}
use Rattle.value_digits.specs.declared.digits.Digits.TheVariants.{Decimal}
use Rattle.adapter_replies.specs.Variables.{behind_blank, words_at}
use Rattle.adapter_replies.proofs.FrameLines.{line_behind}
use Rattle.adapter_replies.proofs.locals.push_local.Goals as goal

pub returns : goal.returns
returns g c s d v st (named, shown) =
    let old = c.args.lines.now.items in
    let type = c.args.named.shown.value_type in
    let words = words_at s d c.args.depth v in
    let values = c.as_bytes.ensures.value
    ∙ c.in_ok-push_words.ensures
    ∙ ap (λ front. front ++ flat_map (behind_blank Decimal type) c.as_slice.result.now) c.new-values.ensures.bytes
    ∙ ap (flat_map (behind_blank Decimal type)) (c.as_slice.ensures.value ∙ c.in_ok-words.ensures s d v st shown)
    ∙ ap (λ (given : IntType). flat_map (behind_blank Decimal given) words) (sym shown.type) in
    c.in_ok-extend_from_slice-4.ensures.items
    ∙ ap (λ t. t ++ 10 ∷ [])
    (c.in_ok-extend_from_slice-3.ensures.items
    ∙ ap (λ t. t ++ c.as_bytes.result.now)
    (c.in_ok-extend_from_slice-2.ensures.items ∙ ap (λ t. t ++ codes " =") (c.in_ok-extend_from_slice.ensures.items ∙ ap (λ name. old ++ name) named))
    ∙ ap (λ text. ((old ++ v.name) ++ codes " =") ++ text) values)
    ∙ line_behind old v.name (codes " =") (flat_map (behind_blank Decimal v.type) words) (10 ∷ [])

-- A name or a value without its mark.
use Rattle.std.proofs.Common.{◌≡◌, ◌∙◌, sym, subst, ap, ◌-◌, true, false, None, length, take, if◌then◌else◌, arith}
use Rattle.std.specs.Str.{IsCharBoundary}
use Rattle.std.specs.Str.Pattern.{FindsTextSuffix, StripsSuffix}
use Rattle.std.proofs.lemmas.Str.Pattern.{ends_text}
use Rattle.gang_model.specs.Texts.Text.{Bytes}
use Rattle.adapter_messages.specs.Arguments.{mark, unmarked}

-- the mark is taken off
pub mark_taken : (text front : Bytes) → StripsSuffix (FindsTextSuffix mark) text front → front ≡ unmarked text
mark_taken text front (n, (same, is, boundary), front_is, lengths) =
    let ends = ends_text true mark text (n, (same, is, boundary), omega (arith, lengths), subst (λ k. IsCharBoundary text (length text - k)) (sym same) boundary) in
    front_is ∙ ap (λ k. take (length text - k) text) same ∙ ap (λ b. if b then take (length text - length mark) text else text) ends

-- there is none
pub no_mark : (text : Bytes) → FindsTextSuffix mark text None → text ≡ unmarked text
no_mark text none = ap (λ b. if b then take (length text - length mark) text else text) (ends_text false mark text none)

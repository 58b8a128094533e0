use Rattle.std.proofs.Common.{◌≡◌, ◌+◌, take, refl, sym, ap, ◌∙◌}
use Rattle.std.proofs.lemmas.List.{take_rest}
use Rattle.adapter_frames.specs.Heads.{length_said, line_says, number_of}
use Rattle.adapter_frames.specs.Places.{clipped_says}
use Rattle.adapter_frames.proofs.HeaderLines.{clipped_none, clipped_number, says_number}
use Rattle.adapter_frames.proofs.heads.length_of.Goals as goal

pub returns-in-Some-number : goal.returns-in-Some-number
returns-in-Some-number c =
    let line = c.args.line.now in
    let colon = c.in-Some.colon in
    let text = c.trim_ascii.result.now in
    let says : line_says line ≡ length_said (number_of text) =
    says_number line (take colon line) _ text colon c.in-Some.ensures refl (take_rest line (colon + 1)) (sym c.is_length.ensures ∙ c.if-not-is_length.false) c.trim_ascii.ensures.value in
    clipped_number (number_of text) c.in-Some-number.length c.in-Some-number.ensures ∙ ap clipped_says (sym says)

pub returns-in-None : goal.returns-in-None
returns-in-None c =
    let line = c.args.line.now in
    let colon = c.in-Some.colon in
    let text = c.trim_ascii.result.now in
    let says : line_says line ≡ length_said (number_of text) =
    says_number line (take colon line) _ text colon c.in-Some.ensures refl (take_rest line (colon + 1)) (sym c.is_length.ensures ∙ c.if-not-is_length.false) c.trim_ascii.ensures.value in
    clipped_none (number_of text) c.in-None.ensures ∙ ap clipped_says (sym says)

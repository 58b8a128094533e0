use Rattle.std.proofs.Common.{ap, ◌∙◌, [], ◌∷◌, map, string_bytes}
use Rattle.std.proofs.lemmas.List.{map-append}
use Rattle.log_points.proofs.texts.push_text.Goals as goal

pub returns : goal.returns
returns g c s d st =
    (string_bytes c.in_ok-text.text, c.in_ok-text.ensures s d st, ap (map string_bytes) c.in_ok-push.ensures.items ∙ map-append string_bytes c.args.texts.now.items (c.in_ok-text.text ∷ []))

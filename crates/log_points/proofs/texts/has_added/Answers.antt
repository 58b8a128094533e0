use Rattle.std.proofs.Common.{◌≡◌, rules, subst, map, string_bytes}
use Rattle.std.specs.Prelude.{MatchResult}
use Rattle.log_points.specs.Texts.{AddsText}
use Rattle.log_points.proofs.texts.has_added.Goals as goal

pub returns-in-Ok : goal.returns-in-Ok
returns-in-Ok g c s d st =
    let old = c.args.texts.now.items in
    let new = c.push_text.new.texts.items in
    (search rules, subst (λ r. MatchResult r (λ _. AddsText s d c.args.message.now (map string_bytes old) (map string_bytes new)) (λ _. new ≡ old)) c.in-Ok.is (c.push_text.ensures s d st))

pub returns-in-Err : goal.returns-in-Err
returns-in-Err g c s d st =
    let old = c.args.texts.now.items in
    let new = c.push_text.new.texts.items in
    subst (λ r. MatchResult r (λ _. AddsText s d c.args.message.now (map string_bytes old) (map string_bytes new)) (λ _. new ≡ old)) c.in-Err.is (c.push_text.ensures s d st)

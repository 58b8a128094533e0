use Rattle.std.proofs.Common.{◌≡◌, ◌<◌, ap, arith, inl, inr, length, refl, subst, map, string_bytes, true}
use Rattle.std.specs.Prelude.{MatchBool}
use Rattle.std.proofs.lemmas.List.{length-map}
use Rattle.log_points.specs.Texts.{AddsText}
use Rattle.log_points.proofs.texts.add.Goals as goal

pub returns-then-has_added : goal.returns-then-has_added
returns-then-has_added g c s d st =
    let old = c.args.written.now.texts.items in
    let new = c.has_added.new.texts.items in
    let added = subst (λ b. MatchBool b ((length old < 1000) × AddsText s d c.args.message.now (map string_bytes old) (map string_bytes new)) (new ≡ old)) c.if-has_added.true (c.has_added.ensures s d st) in
    inl (omega (arith, added.0, length-map old string_bytes), added.1, refl)

pub returns : goal.returns
returns g c s d st =
    let old = c.args.written.now.texts.items in
    let new = c.has_added.new.texts.items in
    let same = subst (λ b. MatchBool b ((length old < 1000) × AddsText s d c.args.message.now (map string_bytes old) (map string_bytes new)) (new ≡ old)) c.if-has_added.false (c.has_added.ensures s d st) in
    inr (ap (λ items. record { texts = map string_bytes items; is_cut = true }) same)

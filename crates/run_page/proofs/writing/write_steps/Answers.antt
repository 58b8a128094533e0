use Rattle.std.proofs.Common.{◌≡◌, refl, ap, subst, sym, codes, decimal, map, List, [], ◌∷◌, arith}
use Rattle.std.specs.Io.KnownBytes.{Appends}
use Rattle.gang_model.specs.Texts.Text.{Bytes}
use Rattle.json_texts.proofs.Listing.{list_more, list_whole, ok_text, written_ok}
use Rattle.json_texts.specs.Json.{list_text}
use Rattle.run_page.specs.declared.moments.Moment.{Moment}
use Rattle.run_page.specs.Moments.{steps_of}
use Rattle.run_page.proofs.writing.write_steps.Goals as goal

both_maps : (moments : List Moment) → map (λ moment. decimal moment.taken) moments ≡ map decimal (steps_of moments)
both_maps [] = refl
both_maps (moment ∷ moments) = ap (λ texts. decimal moment.taken ∷ texts) (both_maps moments)

pub returns-clause-written : goal.returns-clause-written
returns-clause-written g c =
    let moments = c.args.moments.now in
    ok_text _ _ _ _ c.write_all-2.result (ap list_text (both_maps moments))
    (list_whole (λ moment. decimal moment.taken) moments c.loop-number.number _ _ _ _ c.write_all-2.result (omega (arith, c.loop-number-test.false)) c.in_ok-write_all.ensures.0 c.loop-number.invariant.0
    (written_ok (codes "]") _ _ _ c.write_all-2.result c.write_all-2.ensures))

pub loop-number-preserved : goal.loop-number-preserved
loop-number-preserved g c =
    (list_more (λ moment. decimal moment.taken) c.args.moments.now c.loop-number.number _ _ _ _ _ c.loop-number-test.true c.loop-number.invariant.0 c.in_ok-write_comma.ensures.written c.in_ok-write_part.ensures.written, c.in_ok-write_part.ensures.failed)

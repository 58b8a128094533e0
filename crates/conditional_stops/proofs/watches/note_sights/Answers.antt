use Rattle.std.proofs.Common.{◌+◌, ◌<◌, ◌≤◌, ◌++◌, ◌∷◌, [], sym, subst, ap, ◌∙◌, length, get_or, map, drop, append_assoc, append-nil, arith}
use Rattle.std.specs.Prelude.{is_ok, if◌then◌else◌}
use Rattle.std.proofs.lemmas.List.{at_drop_all, at_drop_more, map-append}
use Rattle.conditional_stops.specs.Noted.{HasCodes}
use Rattle.conditional_stops.specs.SightViews.{seen_view, sights_view}
use Rattle.conditional_stops.specs.Watches.{seen}
use Rattle.conditional_stops.proofs.Zipped.{zip_at, zip_length, zip_set}
use Rattle.conditional_stops.proofs.watches.note_sights.Goals as goal

pub loop-place-preserved : goal.loop-place-preserved
loop-place-preserved g c s d st codes =
    let watches = c.args.watches.now in
    let k = c.loop-place.place in
    let w = c.index-watches-place.result in
    let kept = c.loop-place.codes.items in
    let own = c.index_mut.result.now in
    let new = c.shown_by.new.codes in
    let has = HasCodes s.program in
    let inside : k < length watches = omega (arith, c.loop-place-test.true, c.min-place-end.ensures) in
    let (shown, are) = c.loop-place.invariant s d st codes in
    let at = subst (has (get_or watches k w)) (sym c.index_mut.ensures.value) (zip_at has watches kept k w own are inside) in
    let its = subst (λ x. has x own) (sym c.index-watches-place.is) at in
    let rest = map (seen s d) (drop (k + 1) watches) in
    let old = c.loop-place.sights.items in
    let pushed = c.push.ensures.items ∙ ap (λ r. if is_ok r then old ++ c.in_ok-shown.shown ∷ [] else old) c.in_ok-push.was in (
      ap (λ items. sights_view items ++ rest) pushed
          ∙ ap (λ xs. xs ++ rest) (map-append seen_view old (c.in_ok-shown.shown ∷ []))
          ∙ append_assoc (sights_view old) (seen_view c.in_ok-shown.shown ∷ []) rest
          ∙ ap (λ x. sights_view old ++ x ∷ rest) (c.in_ok-shown.ensures.shown s d st its ∙ ap (seen s d) c.index-watches-place.is)
          ∙ sym (ap (λ xs. sights_view old ++ xs) (at_drop_more (map (seen s d)) watches k w inside))
          ∙ shown,
      zip_set has watches kept k w new are inside (subst (λ x. has x new) c.index-watches-place.is (c.shown_by.ensures.codes s d st its)),
    )

pub returns : goal.returns
returns g c s d st codes =
    let watches = c.args.watches.now in
    let place = c.loop-place.place in
    let noted = sights_view c.loop-place.sights.items in
    let same = zip_length (HasCodes s.program) watches c.args.codes.now.items codes in
    let past : length watches ≤ place = omega (arith, c.loop-place-test.false, c.min-place-end.ensures, c.len.ensures, same) in
    let (shown, are) = c.loop-place.invariant s d st codes in
    (sym (append-nil noted) ∙ sym (ap (λ xs. noted ++ xs) (at_drop_all (map (seen s d)) watches place past)) ∙ shown, are)

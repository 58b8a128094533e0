use Rattle.std.proofs.Common.{◌≡◌, ◌+◌, ◌++◌, ◌∷◌, [], sym, subst, ap, ◌∙◌, suc, take, arith}
use Rattle.std.specs.Prelude.{is_ok, if◌then◌else◌}
use Rattle.std.proofs.lemmas.List.{take_all}
use Rattle.conditional_stops.specs.Noted.{HasCodes, HaveCodes}
use Rattle.conditional_stops.proofs.Watched.{any_codes}
use Rattle.conditional_stops.proofs.Zipped.{zip_more}
use Rattle.conditional_stops.proofs.watches.no_codes.Goals as goal

pub loop-watch-preserved : goal.loop-watch-preserved
loop-watch-preserved c p =
    let watches = c.args.watches.now in
    let k = c.loop-watch._watch-index in
    let old = c.loop-watch.codes.items in
    let new = c.new.result in
    let pushed = c.push.ensures.items ∙ ap (λ r. if is_ok r then old ++ new ∷ [] else old) c.in_ok-push.was in
    let one : suc k ≡ k + 1 = omega arith in
    let more = zip_more (HasCodes p) watches old k new (c.loop-watch.invariant p) c.loop-watch-test.true (any_codes p new (c.new.ensures p)) in
    subst (λ items. HaveCodes p (take (k + 1) watches) items) (sym pushed) (subst (λ n. HaveCodes p (take n watches) (old ++ new ∷ [])) one more)

pub returns : goal.returns
returns c p = subst (λ watches. HaveCodes p watches c.loop-watch.codes.items) (take_all c.loop-watch._watch-index c.args.watches.now c.loop-watch-test.false) (c.loop-watch.invariant p)

use Rattle.std.proofs.Common.{drop, map, take, sym, ◌∷◌, ◌∙◌, ap, add-one, arith}
use Rattle.std.specs.Prelude.{slice_get}
use Rattle.debug_traits.specs.Machines.{file_variables}
use Rattle.adapter_replies.specs.declared.places.Place.TheVariants as place
use Rattle.adapter_replies.specs.Variables.{variable_view}
use Rattle.adapter_replies.proofs.Numbered.{taken_all, taken_at, taken_none}
use Rattle.adapter_replies.proofs.ToldVariables.{named, told_last, told_next, unnamed}
use Rattle.adapter_replies.proofs.scopes.of_file.Goals as goal

pub returns-in-None : goal.returns-in-None
returns-in-None g c s d st top =
    let number = c.loop-number.number in
    let none = unnamed s d c.args.top (slice_get (file_variables s) number) (c.in-None.ensures s d st top) in
    told_last c.args.form s d c.args.top place.OfFile _ (map variable_view c.loop-number.told.items) number (drop number (take 1000 (file_variables s))) (c.loop-number.invariant s d st top)
    (taken_none (file_variables s) number 1000 none)

pub loop-number-preserved : goal.loop-number-preserved
loop-number-preserved g c s d st top =
    let number = c.loop-number.number in
    let all = take 1000 (file_variables s) in
    let (v, is, shows) = named s d c.args.top (slice_get (file_variables s) number) c.in-Some.named (c.in-Some.ensures s d st top) in
    told_next c.args.form s d c.args.top place.OfFile _ (map variable_view c.loop-number.told.items) _ number (drop number all) _ v _ (c.loop-number.invariant s d st top)
    (taken_at (file_variables s) number 1000 v is c.loop-number-test.true ∙ ap (λ n. v ∷ drop n all) (sym (add-one number))) c.reference_of-reference.ensures
    (c.in_ok-push_found-in-Some.ensures s d v st shows)

pub returns : goal.returns
returns g c s d st top =
    let number = c.loop-number.number in
    told_last c.args.form s d c.args.top place.OfFile _ (map variable_view c.loop-number.told.items) number (drop number (take 1000 (file_variables s))) (c.loop-number.invariant s d st top)
    (taken_all (file_variables s) number 1000 (omega (arith, c.loop-number-test.false)))

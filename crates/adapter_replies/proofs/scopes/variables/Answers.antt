use Rattle.std.proofs.Common.{◌∙◌, sym, ap, map, take, Some}
use Rattle.debug_traits.specs.Machines.{file_variables}
use Rattle.adapter_replies.specs.declared.places.Place.TheVariants as place
use Rattle.adapter_replies.specs.References.{place_now}
use Rattle.adapter_replies.specs.Variables.{told_each, told_of, told_scope, variable_view}
use Rattle.adapter_replies.proofs.PageRanges.{map_named}
use Rattle.adapter_replies.proofs.scopes.variables.Goals as goal

pub returns-in_ok-named_of-in-Variables : goal.returns-in_ok-named_of-in-Variables
returns-in_ok-named_of-in-Variables g c s d st =
    let page = c.args.page in
    let at = ap (λ n. place_now n c.args.reference) (sym (c.depth_of-top.ensures s d st)) ∙ sym c.place_now.ensures ∙ c.in-Variables.is in
    let told = c.in_ok-told-in-Variables.told.items in
    ap Some
    (ap (map variable_view) c.in_ok-named_of-in-Variables.ensures
    ∙ map_named variable_view page told
    ∙ ap (told_scope page) (c.in_ok-told-in-Variables.ensures s d st))
    ∙ ap (told_of c.args.form page s d) (sym at)

pub returns-in_ok-named_of-in-File : goal.returns-in_ok-named_of-in-File
returns-in_ok-named_of-in-File g c s d st =
    let page = c.args.page in
    let top = c.depth_of-top.ensures s d st in
    let at = ap (λ n. place_now n c.args.reference) (sym top) ∙ sym c.place_now.ensures ∙ c.in-File.is in
    let told = c.in_ok-told-in-File.told.items in
    ap Some
    (ap (map variable_view) c.in_ok-named_of-in-File.ensures
    ∙ map_named variable_view page told
    ∙ ap (told_scope page) (c.in_ok-told-in-File.ensures s d st top ∙ ap (λ n. told_each c.args.form s d n place.OfFile 0 (take 1000 (file_variables s))) top))
    ∙ ap (told_of c.args.form page s d) (sym at)

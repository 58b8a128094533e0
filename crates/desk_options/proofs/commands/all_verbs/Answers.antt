use Rattle.std.proofs.Common.{◌≡◌, ◌∙◌, ap, true, codes}
use Rattle.std.proofs.lemmas.Result.{IfOk-weaker}
use Rattle.clap.specs.Simple.{App, Shape, app_of, app_of_fields, new_app, on_top}
use Rattle.desk_options.proofs.Building.{with_verb}
use Rattle.desk_options.proofs.commands.all_verbs.Goals as goal

abbrev without_name : App → App
without_name = on_top (λ (s : Shape). record s { no_binary_name = true })

abbrev of_a_version : App → App
of_a_version = on_top (λ (s : Shape). record s { has_version = true })

abbrev with_verbs : App → App
with_verbs = on_top (λ (s : Shape). record s { subcommand_required = true })

pub returns : goal.returns
returns c =
    let named : app_of c.no_binary_name.result ≡ without_name (new_app (codes "rinddecade")) =
    ap app_of_fields c.no_binary_name.ensures ∙ ap without_name c.new.ensures.app in
    let versed : app_of c.version.result ≡ of_a_version (without_name (new_app (codes "rinddecade"))) =
    ap app_of_fields c.version.ensures ∙ ap of_a_version named in
    let wanting : app_of c.subcommand_required.result ≡ with_verbs (of_a_version (without_name (new_app (codes "rinddecade")))) =
    ap app_of_fields c.subcommand_required.ensures ∙ ap with_verbs versed in
    let start = ap app_of_fields c.after_help.ensures ∙ (ap app_of_fields c.about.ensures ∙ wanting) in
    let debug = with_verb _ _ _ _ (codes "debug") c.in_ok-subcommand.ensures start c.listed.ensures.app c.listed.ensures.local in
    let picture = with_verb _ _ _ _ (codes "picture") c.in_ok-subcommand-2.ensures debug c.listed-2.ensures.app c.listed-2.ensures.local in
    let page = with_verb _ _ _ _ (codes "page") c.in_ok-subcommand-3.ensures picture c.listed-3.ensures.app c.listed-3.ensures.local in
    let profile = with_verb _ _ _ _ (codes "profile") c.in_ok-subcommand-4.ensures page c.listed-4.ensures.app c.listed-4.ensures.local in
    let adapter = with_verb _ _ _ _ (codes "adapter") c.in_ok-subcommand-5.ensures profile c.listed-5.ensures.app c.listed-5.ensures.local in
    let explain = with_verb _ _ _ _ (codes "explain") c.in_ok-subcommand-6.ensures adapter c.listed-6.ensures.app c.listed-6.ensures.local in
    IfOk-weaker c.subcommand-7.result _ _ (λ parser added. with_verb _ _ _ _ (codes "port") added explain c.listed-7.ensures.app c.listed-7.ensures.local)
    c.subcommand-7.ensures

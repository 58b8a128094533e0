use Rattle.std.proofs.Common.{◌∙◌, sym, subst, ap, true, IfOk}
use Rattle.gang_model.specs.Debugger.Debugger.{bad_part}
use Rattle.debug_commands.specs.Views.{target_view}
use Rattle.debug_traits.specs.Frames.{FindsAt}
use Rattle.adapter_replies.specs.Asking.{asking_view}
use Rattle.adapter_replies.specs.Told.{IsFoundTold, IsPartTold}
use Rattle.adapter_replies.proofs.targets.found_part.Goals as goal

pub returns-in-Some-part_refusal : goal.returns-in-Some-part_refusal
returns-in-Some-part_refusal g c s d name st finds =
    let deep = c.args.depth in
    let asking = asking_view c.args.asking in
    let target = target_view c.args.target in
    let given = c.in-Some.shown in
    let (v, is, shown) = subst (FindsAt s d deep name) c.in-Some.is finds in
    let why = c.in-Some-part_refusal.ensures.refused
    ∙ ap (λ is_array. bad_part true target.at is_array given.rate given.count) (sym shown.is_array)
    ∙ ap (λ rate. bad_part true target.at v.is_array rate given.count) (sym shown.rate)
    ∙ ap (bad_part true target.at v.is_array v.rate) (sym shown.count) in
    subst (λ found. IfOk c.unshown.result (IsFoundTold s d deep asking target found)) (sym is)
    (subst (λ refusal. IfOk c.unshown.result (IsPartTold s d deep asking target v refusal)) why (c.unshown.ensures s d target v st))

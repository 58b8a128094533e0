use Rattle.std.proofs.Common.{◌∷◌, ◌∙◌, ap, subst, sym}
use Rattle.std.specs.Prelude.{flat_map}
use Rattle.gang_model.specs.Debugger.Debugger.{now}
use Rattle.gang_model.specs.Types.Tree.{Variable}
use Rattle.gang_model.specs.Texts.Text.{Bytes, shown_line, whole}
use Rattle.debug_traits.specs.Frames.{ShowsNamedAt, state_at}
use Rattle.adapter_replies.proofs.FrameLines.{lines_end, lines_next}
use Rattle.adapter_replies.proofs.locals.local_lines.Goals as goal

pub loop-next-preserved : goal.loop-next-preserved
loop-next-preserved g c s d st =
    let deep = c.args.depth in
    let from = g.M.FramedMachine.locals_at c.args.machine.now s d deep in
    let line : Variable → Bytes = λ v. shown_line (state_at deep (now s d)) (whole v) v in
    let (v, is, shows) = c.in-Some.ensures.next s d st in
    lines_next line _ c.loop-next.lines.items _ (from c.loop-next.from) _ v (c.loop-next.invariant s d st)
    (is ∙ ap (λ n. v ∷ from n) (sym c.place_after-from.ensures))
    (c.in_ok-push_local.ensures s d v st (subst (λ named. ShowsNamedAt s d deep v named) (sym c.variable_here.ensures) shows))

pub returns : goal.returns
returns g c s d st =
    let deep = c.args.depth in
    let from = g.M.FramedMachine.locals_at c.args.machine.now s d deep in
    let line : Variable → Bytes = λ v. shown_line (state_at deep (now s d)) (whole v) v in
    lines_end line (flat_map line (from 0)) c.loop-next.lines.items (from c.loop-next.from) (c.loop-next.invariant s d st) (c.in_default.ensures.next s d st)
    ∙ ap (flat_map line) (c.in_default.ensures.all s d st)

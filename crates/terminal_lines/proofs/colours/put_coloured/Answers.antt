use Rattle.std.proofs.Common.{sym, subst}
use Rattle.std.proofs.lemmas.List.{take_all, take_more}
use Rattle.terminal_lines.specs.declared.inks.Ink.TheVariants.{Plain}
use Rattle.terminal_lines.proofs.WithoutCodes.{Adds, all_added, byte_added, code_added, none_added, on_ok}
use Rattle.terminal_lines.proofs.colours.put_coloured.Goals as goal

pub loop-at-init : goal.loop-at-init
loop-at-init c = none_added c.args.into.now.items c.args.line.now

pub loop-at-preserved : goal.loop-at-preserved
loop-at-preserved c =
    let initial = c.args.into.now.items in
    let line = c.args.line.now in
    let changed = code_added c.ink-next.result initial line _ _ _ c.loop-at.invariant c.in_ok-change.ensures in
    subst (λ front. Adds initial line front c.extend_from_slice.new.self.items) (sym (take_more line c.loop-at.at 0 c.loop-at-test.true))
    (byte_added c.loop-at.at 0 initial line _ _ _ c.loop-at-test.true changed c.in_ok-extend_from_slice.ensures.items)

pub returns : goal.returns
returns c =
    let initial = c.args.into.now.items in
    let line = c.args.line.now in
    let whole = subst (λ front. Adds initial line front c.loop-at.into.items) (take_all c.loop-at.at line c.loop-at-test.false) c.loop-at.invariant in
    on_ok c.change-2.result _ _ (λ changed. all_added initial line _ (code_added Plain initial line line _ _ whole changed)) c.change-2.ensures

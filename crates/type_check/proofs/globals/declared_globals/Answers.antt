use Rattle.std.proofs.Common.{◌≡◌, ◌+◌, ◌-◌, ◌∷◌, [], false, ◌∙◌, ap, arith, length, drop}
use Rattle.gang_types.specs.declared.places.VarId.TheVariants.{File}
use Rattle.gang_model.specs.Types.Resolved.{global_entries}
use Rattle.gang_model.specs.Types.Typing.{declared}
use Rattle.type_check_scopes.specs.Entries.{declared_view}
use Rattle.type_check.proofs.GlobalParts.{one-earlier, views}
use Rattle.type_check.proofs.globals.declared_globals.Goals as goal

pub loop-later-preserved : goal.loop-later-preserved
loop-later-preserved c =
    let gs = c.args.globals.now in
    let later = c.loop-later.later in
    let i = length gs - 1 - later in
    let g = c.index-globals-number.result in
    let d = c.declared_with-declared.result in
    let within = c.loop-later-test.true in
    let same : i ≡ length gs - (later + 1) = omega arith in
    one-earlier gs i (length gs - later) g d c.loop-later.scope.entries c.declare_in_file.new.self.entries c.loop-later.invariant (omega (arith, within)) (omega (arith, within)) c.index-globals-number.is
    (c.declared_with-declared.ensures ∙ ap (λ b. declared [] (File i) g.now.spec b false) c.is_array_form-is_array.ensures)
    (c.in_ok-declare_in_file.ensures.entries ∙ ap (λ n. declared_view n d ∷ c.loop-later.scope.entries) c.deref.ensures.value)
    ∙ ap (λ k. global_entries k (views (drop k gs))) same

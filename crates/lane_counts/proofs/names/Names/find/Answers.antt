use Rattle.std.proofs.Common.{◌∙◌, refl, sym, ap, length, Some, below_more, arith}
use Rattle.std.specs.Prelude.{option_map, slice_get}
use Rattle.std.proofs.lemmas.Option.{slice_get_read}
use Rattle.lane_counts.proofs.Named.{is_name, is_no_name, none_above, some_same}
use Rattle.lane_counts.proofs.names.Names.find.Goals as goal

pub returns-then-eq : goal.returns-then-eq
returns-then-eq c =
    let items = c.deref-known-items.result.now in
    let there = slice_get_read items (length items) c.loop-number.number c.known-item.result refl (omega (arith, c.loop-number-test.true)) c.known-item.is in
    ap (λ l. option_map (λ v. v.items) (slice_get l c.loop-number.number)) (sym c.deref-known-items.ensures.value)
    ∙ ap (option_map (λ v. v.items)) there ∙ ap Some (sym c.as_slice.ensures.value ∙ is_name c.as_slice.result.now c.args.name.now (sym c.if-eq.ensures))

pub loop-number-preserved : goal.loop-number-preserved
loop-number-preserved c =
    let items = c.deref-known-items.result.now in
    let there = slice_get_read items (length items) c.loop-number.number c.known-item.result refl (omega (arith, c.loop-number-test.true)) c.known-item.is in
    below_more _ _ c.loop-number.invariant
    (λ is. is_no_name c.as_slice.result.now c.args.name.now (sym c.if-eq.ensures) (c.as_slice.ensures.value ∙ some_same _ _ (sym (ap (option_map (λ v. v.items)) there) ∙ is)))

pub returns : goal.returns
returns c number is =
    let items = c.deref-known-items.result.now in
    none_above (λ v. v.items) items c.args.name.now c.loop-number.number (omega (arith, c.loop-number-test.false)) c.loop-number.invariant number
    (ap (λ l. option_map (λ v. v.items) (slice_get l number)) c.deref-known-items.ensures.value ∙ is)

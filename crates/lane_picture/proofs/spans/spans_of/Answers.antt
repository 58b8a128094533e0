use Rattle.std.proofs.Common.{◌≡◌, ◌∙◌, ◌+◌, refl, ap, [], ◌∷◌, ◌++◌, arith}
use Rattle.std.specs.Prelude.{min}
use Rattle.lane_picture.specs.declared.spans.Span.{Span}
use Rattle.lane_picture.proofs.RowSpans.{first_row, row_more, rows_whole}
use Rattle.lane_picture.proofs.spans.spans_of.Goals as goal

pub loop-from-init : goal.loop-from-init
loop-from-init c =
    let row : Span = record { from = 0; to = c.min-from.result } in
    record {
      inside = omega (arith, c.min-from.ensures);
      on = first_row c.args.most c.args.columns row c.push.new.self.items (c.in_ok-push.ensures.items ∙ ap (λ xs. xs ++ row ∷ []) c.new-spans.ensures.items) refl c.min-from.ensures;
    }

pub loop-from-preserved : goal.loop-from-preserved
loop-from-preserved c =
    let row : Span = record { from = c.loop-from.from; to = c.min-to.result } in
    let to : c.min-to.result ≡ min (c.loop-from.from + c.args.most) c.args.columns = omega (arith, c.min-to.ensures, c.saturating_add.ensures, c.ranges.columns.fits) in
    record {
      inside = omega (arith, to);
      on = row_more c.args.most c.args.columns row c.loop-from.spans.items c.push-in-loop-from.new.self.items c.loop-from.from c.in_ok-push-2.ensures.items refl to c.loop-from.invariant.on;
    }

pub returns : goal.returns
returns c =
    rows_whole c.args.most c.args.columns c.loop-from.spans.items c.loop-from.from (omega (arith, c.loop-from.invariant.inside, c.loop-from-test.false)) c.loop-from.invariant.on

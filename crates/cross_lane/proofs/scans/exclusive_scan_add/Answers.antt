use Rattle.std.proofs.Common.{rules, ◌≡◌, ◌<◌, ◌^◌, ℕ, arith, slice_index, ◌∙◌, sym, ap, cond}
use Rattle.gang_types.specs.Masks.{lanes_of}
use Rattle.gang_types.specs.MaskLaws.{length-lanes_of_word}
use Rattle.gang_model.specs.Running.Library.{scanned, before_lane}
use Rattle.gang_model.specs.Types.Tree.{ScanAdd}
use Rattle.cross_lane.specs.declared.folds.Fold.TheVariants.{Add, Or}
use Rattle.cross_lane.specs.Calls.{values_in}
use Rattle.cross_lane.specs.EachLaws.{each_same}
use Rattle.cross_lane.proofs.Joined.{sum_before, scan_fold}
use Rattle.cross_lane.proofs.scans.exclusive_scan_add.Goals.{then-is_bool, else-is_bool}
use Rattle.cross_lane.proofs.scans.exclusive_scan_add.Goals as goal

pub returns : goal.returns
returns g c =
    let fits : (k : ℕ) → slice_index c.args.words k < 2 ^ 64 = λ k. search rules in
    let chosen : c.if-is_bool.fold ≡ scan_fold c.args.ty =
    elim c.if-is_bool.branch [
      | then-is_bool w ↦ w.fold-is ∙ sym (ap (λ b. cond b Or Add) (sym c.is_bool.ensures ∙ w.if-is_bool.true))
      | else-is_bool w ↦ w.fold-is ∙ sym (ap (λ b. cond b Or Add) (sym c.is_bool.ensures ∙ w.if-is_bool.false))
    ] in
    c.active_words.ensures
    ∙ each_same g.row.W (lanes_of g.row.W c.args.mask) (slice_index c.convert.result)
    (λ k. scanned ScanAdd c.args.ty (before_lane k (lanes_of g.row.W c.args.mask) (values_in (lanes_of g.row.W c.args.mask) c.args.words)))
    (length-lanes_of_word g.row.W c.args.mask.word)
    (λ i h e.
    c.convert.ensures i h
    ∙ sum_before c.args.ty c.if-is_bool.fold (lanes_of g.row.W c.args.mask) (slice_index c.args.words) i (slice_index c.folds_before-sums.result i) chosen (omega (arith, length-lanes_of_word g.row.W c.args.mask.word)) fits (c.folds_before-sums.ensures i h))

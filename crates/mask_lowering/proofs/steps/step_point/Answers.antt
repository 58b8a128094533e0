use Rattle.std.proofs.Common.{inl, inr, refl}
use Rattle.mask_lowering.proofs.Rows.{block_is_row, not_both, switch_is_not_single}
use Rattle.mask_lowering.proofs.steps.step_point.Goals as goal

pub unreachable-requires : goal.unreachable-requires
unreachable-requires c = elim c.in-Empty.is [
  | inl e ↦ not_both c.args.statement.now _ e refl c.requires
  | inr (inl (v, e)) ↦ not_both c.args.statement.now _ e (block_is_row v) c.requires
  | inr (inr (inl (x, y, e))) ↦ not_both c.args.statement.now _ e refl c.requires
  | inr (inr (inr (inl (n, test, x, y, e)))) ↦ not_both c.args.statement.now _ e refl c.requires
  | inr (inr (inr (inr (inl (n, test, x, y, e))))) ↦ not_both c.args.statement.now _ e refl c.requires
  | inr (inr (inr (inr (inr (inl (n, test, x, e)))))) ↦ not_both c.args.statement.now _ e refl c.requires
  | inr (inr (inr (inr (inr (inr (inl (n, selector, v, e))))))) ↦ not_both c.args.statement.now _ e (switch_is_not_single n selector v) c.requires
  | inr (inr (inr (inr (inr (inr (inr (n, form, x, e))))))) ↦ not_both c.args.statement.now _ e refl c.requires
]

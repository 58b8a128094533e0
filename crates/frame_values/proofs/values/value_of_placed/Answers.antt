use Rattle.std.proofs.Common.{sym, subst}
use Rattle.gang_model.specs.Debugger.Debugger.{now}
use Rattle.gang_model.specs.Running.Value.{value}
use Rattle.debug_traits.specs.Frames.{state_at}
use Rattle.typed_tree.specs.Views.{expr_view}
use Rattle.frame_expressions.specs.Lanes.{IsValue, lanes_at}
use Rattle.frame_expressions.specs.Meanings.{Means, entries_at}
use Rattle.frame_values.proofs.values.value_of_placed.Goals as goal

pub returns-in-Ok-clause-value : goal.returns-in-Ok-clause-value
returns-in-Ok-clause-value g c text s d spot stands at placed =
    let means = subst (Means placed.0 (entries_at s.program spot) c.args.placed.now.value_type c.args.placed.now.rate) (sym c.deref.ensures.value) placed.2 in
    let tree = expr_view means.tree in
    let is = subst (λ r. IsValue r (lanes_at c.args.depth (now s d)) (value tree (lanes_at c.args.depth (now s d)) (state_at c.args.depth (now s d)))) c.in-Ok.is
    (c.evaluate.ensures s d spot placed.0 c.args.placed.now.value_type c.args.placed.now.rate stands at means) in
    record {
      tree = tree;
      is_tree = record { spot = spot; stands = at; written = placed.0; is_written = placed.1; means = means.is_sound };
      lanes = is.0;
      words = is.1;
    }

pub returns-in-Err-clause-none : goal.returns-in-Err-clause-none
returns-in-Err-clause-none g c text s d spot stands at placed =
    let means = subst (Means placed.0 (entries_at s.program spot) c.args.placed.now.value_type c.args.placed.now.rate) (sym c.deref.ensures.value) placed.2 in
    let tree = expr_view means.tree in
    let is = subst (λ r. IsValue r (lanes_at c.args.depth (now s d)) (value tree (lanes_at c.args.depth (now s d)) (state_at c.args.depth (now s d)))) c.in-Err.is
    (c.evaluate.ensures s d spot placed.0 c.args.placed.now.value_type c.args.placed.now.rate stands at means) in
    record {
      tree = tree;
      type = c.args.placed.now.value_type;
      rate = c.args.placed.now.rate;
      is_tree = record { spot = spot; stands = at; written = placed.0; is_written = placed.1; means = means.is_sound };
      faults = is;
    }

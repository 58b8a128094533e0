use Rattle.std.proofs.Common.{◌≡◌, ◌+◌, ◌≤◌, arith, sym, subst, length}
use Rattle.gang_types.specs.declared.types.Rate.TheVariants.{Varying}
use Rattle.gang_types.specs.Masks.{lanes_of}
use Rattle.gang_model.specs.Running.State.{declared_words, words_for}
use Rattle.gang_memory.specs.ScalarWords.{IsScalarAt}
use Rattle.gang_memory.specs.Writes.{IsKeptOutside}
use Rattle.gang_memory.proofs.ScalarWords.{run_stands, run_kept}
use Rattle.gang_memory.proofs.scalars.declare_scalar.Goals as goal

pub returns-in-Varying-clause-scalar : goal.returns-in-Varying-clause-scalar
returns-in-Varying-clause-scalar g c =
    let w = g.row.W in
    let old = g.S.WordStore.words c.args.store.now in
    let new = g.S.WordStore.words c.set_run.new.self in
    let values_long : length c.only.result ≡ w = omega arith in
    let inside = subst (λ r. c.args.first + words_for w r ≤ length old) c.in-Varying.is c.requires.writable.inside in
    subst (λ r. IsScalarAt w r c.args.first (declared_words r (lanes_of w c.args.mask) c.args.values) new) (sym c.in-Varying.is)
    (subst (λ values. IsScalarAt w Varying c.args.first values new) c.only.ensures
    (run_stands w c.args.first c.only.result old new values_long inside c.set_run.ensures.words))

pub returns-in-Varying-clause-only : goal.returns-in-Varying-clause-only
returns-in-Varying-clause-only g c =
    let w = g.row.W in
    let old = g.S.WordStore.words c.args.store.now in
    let new = g.S.WordStore.words c.set_run.new.self in
    let values_long : length c.only.result ≡ w = omega arith in
    let inside = subst (λ r. c.args.first + words_for w r ≤ length old) c.in-Varying.is c.requires.writable.inside in
    record {
      others =
          subst (λ r. IsKeptOutside c.args.first (words_for w r) old new) (sym c.in-Varying.is)
          (run_kept w c.args.first c.only.result old new values_long inside c.set_run.ensures.words);
      few = omega (arith, c.set_run.ensures.left, values_long);
      same = c.set_run.ensures.rest;
    }

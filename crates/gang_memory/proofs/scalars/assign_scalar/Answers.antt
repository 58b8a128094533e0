use Rattle.std.proofs.Common.{◌≡◌, ◌∙◌, ◌+◌, ◌≤◌, arith, sym, subst, length}
use Rattle.gang_types.specs.Masks.{lanes_of}
use Rattle.gang_types.specs.MaskLaws.{length-lanes_of_word}
use Rattle.gang_model.specs.Running.State.{assigned_words, words_for}
use Rattle.gang_memory.specs.ScalarWords.{IsScalarAt}
use Rattle.gang_memory.specs.Writes.{IsKeptOutside}
use Rattle.gang_memory.proofs.ScalarWords.{run_kept, run_set, same_sets, varying_kept, varying_set}
use Rattle.gang_memory.proofs.scalars.assign_scalar.Goals as goal

pub returns-else-word-clause-scalar : goal.returns-else-word-clause-scalar
returns-else-word-clause-scalar g c scalar is =
    let w = g.row.W in
    let lanes = lanes_of w c.args.mask in
    let old = g.S.WordStore.words c.args.store.now in
    let new = g.S.WordStore.words c.set_words.new.store in
    let slots_long : length c.consecutive.result ≡ w = omega arith in
    let values_long : length c.args.values ≡ w = omega arith in
    let inside = subst (λ r. c.args.first + words_for w r ≤ length old) c.in-Varying.is c.requires.writable.inside in
    subst (λ r. IsScalarAt w r c.args.first (assigned_words r lanes c.args.values scalar) new) (sym c.in-Varying.is)
    (varying_set w c.args.first lanes c.consecutive.result c.args.values old new (length-lanes_of_word w c.args.mask.word) slots_long values_long c.consecutive.ensures inside c.set_words.ensures.words
    scalar (subst (λ r. IsScalarAt w r c.args.first scalar old) c.in-Varying.is is))

pub returns-else-word-clause-only : goal.returns-else-word-clause-only
returns-else-word-clause-only g c =
    let w = g.row.W in
    let old = g.S.WordStore.words c.args.store.now in
    let new = g.S.WordStore.words c.set_words.new.store in
    let slots_long : length c.consecutive.result ≡ w = omega arith in
    let values_long : length c.args.values ≡ w = omega arith in
    let inside = subst (λ r. c.args.first + words_for w r ≤ length old) c.in-Varying.is c.requires.writable.inside in
    record {
      others =
          subst (λ r. IsKeptOutside c.args.first (words_for w r) old new) (sym c.in-Varying.is)
          (varying_kept w c.args.first (lanes_of w c.args.mask) c.consecutive.result c.args.values old new (length-lanes_of_word w c.args.mask.word) slots_long values_long c.consecutive.ensures inside c.set_words.ensures.words);
      few = c.set_words.ensures.left;
      same = c.set_words.ensures.rest;
    }

pub returns-then-word-clause-scalar : goal.returns-then-word-clause-scalar
returns-then-word-clause-scalar g c scalar is =
    let w = g.row.W in
    let lanes = lanes_of w c.args.mask in
    let old = g.S.WordStore.words c.args.store.now in
    let new = g.S.WordStore.words c.set_run.new.self in
    let values_long : length c.args.values ≡ w = omega arith in
    let inside = subst (λ r. c.args.first + words_for w r ≤ length old) c.in-Varying.is c.requires.writable.inside in
    let every = same_sets w lanes (lanes_of w c.all.result) (length-lanes_of_word w c.args.mask.word) (length-lanes_of_word w c.all.result.word)
    (sym c.word.ensures ∙ (c.if-word.true ∙ c.word-in-Varying.ensures))
    ∙ c.all.ensures in
    subst (λ r. IsScalarAt w r c.args.first (assigned_words r lanes c.args.values scalar) new) (sym c.in-Varying.is)
    (run_set w c.args.first c.args.values old new values_long inside c.set_run.ensures.words lanes every
    scalar (subst (λ r. IsScalarAt w r c.args.first scalar old) c.in-Varying.is is))

pub returns-then-word-clause-only : goal.returns-then-word-clause-only
returns-then-word-clause-only g c =
    let w = g.row.W in
    let old = g.S.WordStore.words c.args.store.now in
    let new = g.S.WordStore.words c.set_run.new.self in
    let values_long : length c.args.values ≡ w = omega arith in
    let inside = subst (λ r. c.args.first + words_for w r ≤ length old) c.in-Varying.is c.requires.writable.inside in
    record {
      others =
          subst (λ r. IsKeptOutside c.args.first (words_for w r) old new) (sym c.in-Varying.is)
          (run_kept w c.args.first c.args.values old new values_long inside c.set_run.ensures.words);
      few = omega (arith, c.set_run.ensures.left, values_long);
      same = c.set_run.ensures.rest;
    }

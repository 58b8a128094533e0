use Rattle.std.proofs.Common.{◌∙◌, ap, subst, sym, arith, rules}
use Rattle.std.specs.Prelude.{Err, replicate}
use Rattle.std.proofs.lemmas.Result.{err_from_is_err_and}
use Rattle.gang_types.specs.Masks.{lanes_of}
use Rattle.gang_types.specs.MaskLaws.{length-lanes_of_word}
use Rattle.debug_traits.specs.Machines.{fault_view}
use Rattle.foreach_lowering.specs.Law.{first_kept}
use Rattle.machine_words.specs.Words.{regions_in}
use Rattle.frame_steps.proofs.GangLanes.{stacks_small}
use Rattle.machine_rounds.specs.Beginning.{AreDimensionsAt, BeginsForm}
use Rattle.machine_rounds.proofs.BeginBounds.{domain_answer, domain_fails}
use Rattle.machine_rounds.proofs.BeginMoves.{some_lane_of}
use Rattle.machine_rounds.proofs.BeginValues.{dimensions_few, dimensions_long, domain_at, first_fault, lanes_first, saved_at, saved_faults, saved_first}
use Rattle.machine_rounds.proofs.beginning.first_words.Goals as goal

pub all_bounds-requires : goal.all_bounds-requires
all_bounds-requires g c =
    let regions = regions_in g.T.Timeline.history g.row.W c.args.words.now in
    let is = c.requires.sound.lie.compiled_is in
    let begins = subst (λ code. BeginsForm g.row.W c.args.compiled.now regions c.args.active code c.requires.begins.0) c.in-Domain.is c.requires.begins.1 in
    let domain = domain_at g.row.W c.args.compiled.now regions c.args.active is c.in-Domain.order c.in-Domain.dimensions c.requires.begins.0 begins in (
      stacks_small g.row.W c.requires.sound.lie.gang,
      (
        c.requires.sound,
        (
          some_lane_of g.T.Timeline.history g.row.W c.args.compiled.now c.args.words.now c.requires.sound c.args.active c.args.form.now c.requires.begins.0 c.requires.begins.1,
          (domain.ds, subst (λ codes. AreDimensionsAt g.row.W c.args.compiled.now regions c.args.active codes domain.ds) (sym c.deref.ensures.value) domain.are),
        ),
      ),
    )

pub returns-in_err-bounds-in-Domain : goal.returns-in_err-bounds-in-Domain
returns-in_err-bounds-in-Domain g c = λ masked of shown begins_of.
    let regions = regions_in g.T.Timeline.history g.row.W c.args.words.now in
    let lanes = lanes_of g.row.W c.args.active.lanes in
    let begins = subst (λ code. BeginsForm g.row.W c.args.compiled.now regions c.args.active code of) c.in-Domain.is begins_of in
    let domain = domain_at g.row.W c.args.compiled.now regions c.args.active c.requires.sound.lie.compiled_is c.in-Domain.order c.in-Domain.dimensions of begins in
    let are = subst (λ codes. AreDimensionsAt g.row.W c.args.compiled.now regions c.args.active codes domain.ds) (sym c.deref.ensures.value) domain.are in
    let p = err_from_is_err_and c.from_residual.result c.from_residual.ensures.1 in
    let fault = c.in_err-bounds-in-Domain.field-0.0 in
    first_fault g.row.W of c.from_residual.result fault lanes masked.state (p.1 ∙ ap Err p.2)
    (ap (λ form. first_kept form lanes masked.state) domain.form_is
    ∙ domain_fails g.row.W c.in-Domain.order domain.ds lanes masked.state (length-lanes_of_word g.row.W c.args.active.lanes.word) domain.few (fault_view fault)
    (c.in_err-bounds-in-Domain.ensures masked domain.ds shown are))

pub domain_counters-requires-clause-few : goal.domain_counters-requires-clause-few
domain_counters-requires-clause-few g c =
    let regions = regions_in g.T.Timeline.history g.row.W c.args.words.now in
    let is = c.requires.sound.lie.compiled_is in
    let begins = subst (λ code. BeginsForm g.row.W c.args.compiled.now regions c.args.active code c.requires.begins.0) c.in-Domain.is c.requires.begins.1 in
    let domain = domain_at g.row.W c.args.compiled.now regions c.args.active is c.in-Domain.order c.in-Domain.dimensions c.requires.begins.0 begins in
    let few = dimensions_few g.row.W c.args.compiled.now regions c.args.active is c.in-Domain.order c.in-Domain.dimensions.items c.requires.begins.0 domain in
    (omega (arith, c.len.ensures, c.in-Domain.dimensions.ok, few.0), omega (arith, c.len.ensures, c.in-Domain.dimensions.ok, few.1))

pub value_of-requires : goal.value_of-requires
value_of-requires g c =
    let regions = regions_in g.T.Timeline.history g.row.W c.args.words.now in
    let begins = subst (λ code. BeginsForm g.row.W c.args.compiled.now regions c.args.active code c.requires.begins.0) c.in-EachValue.is c.requires.begins.1 in (
      stacks_small g.row.W c.requires.sound.lie.gang,
      (
        search rules,
        (
          c.requires.sound,
          saved_at g.row.W c.args.compiled.now regions c.args.active c.requires.sound.lie.compiled_is c.in-EachValue.value c.requires.begins.0 begins c.deref-in-EachValue.result.now c.deref-in-EachValue.ensures.value,
        ),
      ),
    )

pub returns-in_err-values-in-EachValue : goal.returns-in_err-values-in-EachValue
returns-in_err-values-in-EachValue g c = λ masked of shown begins_of.
    let regions = regions_in g.T.Timeline.history g.row.W c.args.words.now in
    let lanes = lanes_of g.row.W c.args.active.lanes in
    let is = c.requires.sound.lie.compiled_is in
    let read = c.deref-in-EachValue.result.now in
    let same = c.deref-in-EachValue.ensures.value in
    let begins = subst (λ code. BeginsForm g.row.W c.args.compiled.now regions c.args.active code of) c.in-EachValue.is begins_of in
    let saved = saved_at g.row.W c.args.compiled.now regions c.args.active is c.in-EachValue.value of begins read same in
    let p = err_from_is_err_and c.from_residual-in_err-values-in-EachValue.result c.from_residual-in_err-values-in-EachValue.ensures.1 in
    let fault = c.in_err-values-in-EachValue.field-0.0 in
    first_fault g.row.W of c.from_residual-in_err-values-in-EachValue.result fault lanes masked.state (p.1 ∙ ap Err p.2)
    (saved_faults g.row.W c.args.compiled.now regions c.args.active is c.in-EachValue.value of begins read same lanes masked.state (fault_view fault)
    (c.in_err-values-in-EachValue.ensures masked saved.0 shown saved.1))

pub returns-in_ok-bounds-in-Domain : goal.returns-in_ok-bounds-in-Domain
returns-in_ok-bounds-in-Domain g c = λ masked of shown begins_of.
    let regions = regions_in g.T.Timeline.history g.row.W c.args.words.now in
    let lanes = lanes_of g.row.W c.args.active.lanes in
    let is = c.requires.sound.lie.compiled_is in
    let begins = subst (λ code. BeginsForm g.row.W c.args.compiled.now regions c.args.active code of) c.in-Domain.is begins_of in
    let domain = domain_at g.row.W c.args.compiled.now regions c.args.active is c.in-Domain.order c.in-Domain.dimensions of begins in
    let are = subst (λ codes. AreDimensionsAt g.row.W c.args.compiled.now regions c.args.active codes domain.ds) (sym c.deref.ensures.value) domain.are in
    domain_answer g.row.W c.in-Domain.order domain.ds of domain.form_is lanes masked.state (length-lanes_of_word g.row.W c.args.active.lanes.word) domain.few
    c.in_ok-bounds-in-Domain.bounds c.domain_counters.result (replicate g.row.W 0)
    (c.in_ok-bounds-in-Domain.ensures masked domain.ds shown are)
    (c.domain_counters.ensures domain.ds
    (let long = dimensions_long g.row.W c.args.compiled.now regions c.args.active is c.in-Domain.order c.in-Domain.dimensions.items of domain in
    omega (arith, long, c.len.ensures, c.in-Domain.dimensions.ok)))

pub returns-in-EachLane : goal.returns-in-EachLane
returns-in-EachLane g c = λ masked of shown begins_of.
    let regions = regions_in g.T.Timeline.history g.row.W c.args.words.now in
    let begins = subst (λ code. BeginsForm g.row.W c.args.compiled.now regions c.args.active code of) c.in-EachLane.is begins_of in
    lanes_first g.row.W c.args.compiled.now regions c.args.active of begins (lanes_of g.row.W c.args.active.lanes) masked.state c.lane_counters.result (replicate g.row.W 0) c.lane_counters.ensures

pub returns-in_ok-values-in-EachValue : goal.returns-in_ok-values-in-EachValue
returns-in_ok-values-in-EachValue g c = λ masked of shown begins_of.
    let regions = regions_in g.T.Timeline.history g.row.W c.args.words.now in
    let lanes = lanes_of g.row.W c.args.active.lanes in
    let is = c.requires.sound.lie.compiled_is in
    let read = c.deref-in-EachValue.result.now in
    let same = c.deref-in-EachValue.ensures.value in
    let begins = subst (λ code. BeginsForm g.row.W c.args.compiled.now regions c.args.active code of) c.in-EachValue.is begins_of in
    let saved = saved_at g.row.W c.args.compiled.now regions c.args.active is c.in-EachValue.value of begins read same in
    saved_first g.row.W c.args.compiled.now regions c.args.active is c.in-EachValue.value of begins read same lanes masked.state
    c.lane_counters-in-EachValue.result c.in_ok-values-in-EachValue.values c.lane_counters-in-EachValue.ensures
    (c.in_ok-values-in-EachValue.ensures masked saved.0 shown saved.1)

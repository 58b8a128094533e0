use Rattle.std.proofs.Common.{◌≡◌, ℕ, ◌∙◌, sym, ap, arith, List, Bool, true, false}
use Rattle.std.specs.Prelude.{bytes_eq}
use Rattle.gang_model.specs.Source.Names.{same_text}
use Rattle.gang_model.specs.Names.Scope.{declaration}
use Rattle.ispc_names_table.specs.Scopes.{linked}
use Rattle.ispc_names_table.proofs.Links.{below, found-past, found-here, found-outside, linked-none}
use Rattle.gang_model.proofs.SameTexts.{bytes_same}
use Rattle.ispc_names_table.proofs.look_ups.found.Goals as goal

-- the test of a name, as the model names it
same_name : (text read name : List ℕ) (b : Bool) → read ≡ text → b ≡ bytes_eq read name → same_text text name ≡ b
same_name text read name b e t = sym (bytes_same text name) ∙ ap (λ x. bytes_eq x name) (sym e) ∙ sym t

pub returns-then-number-below : goal.returns-then-number-below
returns-then-number-below c =
    let ds = c.args.declarations.now in
    let e = ap (λ i. declaration (linked (below ds c.loop-link.below) i) c.args.name.now) c.in-Some.is in
    sym (found-past ds c.loop-link.below c.in-Some.number c.args.name.now c.loop-link.invariant.within c.if-number-below.true)
    ∙ sym e ∙ c.loop-link.invariant.same

pub returns-then-eq : goal.returns-then-eq
returns-then-eq c =
    let ds = c.args.declarations.now in
    let d = c.index-declarations-number.result in
    let e = ap (λ i. declaration (linked (below ds c.loop-link.below) i) c.args.name.now) c.in-Some.is in
    let same = same_name d.name.items c.as_slice.result.now c.args.name.now true c.as_slice.ensures.value c.if-eq.ensures in
    sym (found-here ds c.loop-link.below c.in-Some.number d c.args.name.now c.loop-link.invariant.within c.if-number-below.false c.index-declarations-number.is same)
    ∙ sym e ∙ c.loop-link.invariant.same

pub loop-link-preserved : goal.loop-link-preserved
loop-link-preserved c =
    let ds = c.args.declarations.now in
    let d = c.index-declarations-number.result in
    let e = ap (λ i. declaration (linked (below ds c.loop-link.below) i) c.args.name.now) c.in-Some.is in
    let other = same_name d.name.items c.as_slice.result.now c.args.name.now false c.as_slice.ensures.value c.if-eq.ensures in
    record {
      within = omega arith;
      same = sym (found-outside ds c.loop-link.below c.in-Some.number d c.args.name.now c.loop-link.invariant.within c.if-number-below.false c.index-declarations-number.is other)
          ∙ sym e ∙ c.loop-link.invariant.same;
    }

pub returns : goal.returns
returns c =
    let ds = c.args.declarations.now in
    let e = ap (λ i. declaration (linked (below ds c.loop-link.below) i) c.args.name.now) c.in_default.is in
    sym (ap (λ xs. declaration xs c.args.name.now) (linked-none (below ds c.loop-link.below))) ∙ sym e ∙ c.loop-link.invariant.same

use Rattle.std.proofs.Common.{◌∙◌, ◌+◌, length, map, take, ap}
use Rattle.gang_types.specs.declared.types.IntType.TheVariants as t
use Rattle.gang_types.specs.declared.types.Rate.TheVariants.{Varying}
use Rattle.gang_types.specs.declared.places.VarId.TheVariants.{Local}
use Rattle.gang_model.specs.Types.Typing.{index_entry}
use Rattle.source_tree.specs.Tree.{dim_view}
use Rattle.type_check_scopes.specs.Entries.{declared_view}
use Rattle.type_check_parts.proofs.Named.{index-named, index-id}
use Rattle.type_check_parts.proofs.Indices.{AreDeclared, declared-none, declared-next, declared-as, one-more, all-taken, first-declared, at-error}
use Rattle.type_check_parts.proofs.rounds.declare_indices.Goals as goal

pub loop-dim-init : goal.loop-dim-init
loop-dim-init c = declared-none c.args.scope.now.entries c.args.scope.now.locals

pub declare-requires : goal.declare-requires
declare-requires c = record { next = index-id c.index_variable-index.result (Local c.next.result) t.Int32 Varying c.index_variable-index.ensures ∙ ap Local c.next.ensures }

pub loop-dim-preserved : goal.loop-dim-preserved
loop-dim-preserved c =
    let before = c.args.scope.now in
    let s = c.loop-dim.scope in
    let s' = c.declare.new.self in
    let dims = c.args.dims.now in
    let i = c.loop-dim.dim-index in
    let d = c.dim-item.result in
    let name = c.deref.result.now in
    declared-as before.entries s'.entries before.locals s'.locals _ (map dim_view (take (i + 1) dims))
    (declared-next before.entries s.entries s'.entries before.locals s.locals s'.locals (map dim_view (take i dims)) (dim_view d)
    (declared_view name c.index_variable-index.result) c.loop-dim.invariant
    (index-named name c.index_variable-index.result (Local c.next.result) t.Int32 Varying c.index_variable-index.ensures
    ∙ (ap (λ k. index_entry name (Local k) t.Int32 Varying) c.next.ensures ∙ ap (λ n. index_entry n (Local (length s.locals)) t.Int32 Varying) c.deref.ensures.value))
    c.in_ok-declare.ensures.entries c.in_ok-declare.ensures.locals)
    (one-more dim_view dims i d c.loop-dim-test.true c.dim-item.is)

pub returns-in_err-declare-clause-begun : goal.returns-in_err-declare-clause-begun
returns-in_err-declare-clause-begun c =
    let before = c.args.scope.now in
    let is_first : AreDeclared before.entries c.declare.new.self.entries before.locals c.declare.new.self.locals (map dim_view (take c.loop-dim.dim-index c.args.dims.now)) =
    rw c.in_err-declare.ensures.unchanged c.loop-dim.invariant in
    at-error c.from_residual.result
    (first-declared dim_view c.args.dims.now c.loop-dim.dim-index before.entries c.declare.new.self.entries before.locals c.declare.new.self.locals is_first)

pub returns-clause-entries : goal.returns-clause-entries
returns-clause-entries c =
    let before = c.args.scope.now in
    let all = declared-as before.entries c.loop-dim.scope.entries before.locals c.loop-dim.scope.locals _ _ c.loop-dim.invariant
    (all-taken dim_view c.args.dims.now c.loop-dim.dim-index c.loop-dim-test.false) in
    all.entries_are

pub returns-clause-locals : goal.returns-clause-locals
returns-clause-locals c =
    let before = c.args.scope.now in
    let all = declared-as before.entries c.loop-dim.scope.entries before.locals c.loop-dim.scope.locals _ _ c.loop-dim.invariant
    (all-taken dim_view c.args.dims.now c.loop-dim.dim-index c.loop-dim-test.false) in
    all.locals_are

use Rattle.std.proofs.Common.{◌<◌, ◌≤◌, ◌∙◌, sym, ap, arith, length, true, false}
use Rattle.std.specs.Prelude.{option_map}
use Rattle.gang_types.specs.declared.places.VarId.TheVariants.{Local}
use Rattle.ispc_names_table.specs.Scopes.{in_scope}
use Rattle.ispc_names_table.proofs.ListedNumbers.{is_listed, name_at, listed_ids, passes_first, passes_later, passes_not, passes_none, tested}
use Rattle.ispc_names_table.proofs.look_ups.nth_listed.Goals as goal
use Rattle.ispc_names_table.proofs.look_ups.nth_listed.Goals.{then-eq+else-left-eq0, else-eq}

pub returns-then-left-eq0 : goal.returns-then-left-eq0
returns-then-left-eq0 c =
    let ds = c.args.declarations.now in
    let i = c.args.innermost in
    let j = c.loop-number.number in
    let test = is_listed (name_at ds) (in_scope ds i) in
    let lt : j < length ds = omega arith in
    let is = tested ds i j c.index-declarations-number.result c.deref.result.now c.found.result true lt c.index-declarations-number.is c.deref.ensures.value c.found.ensures c.if-eq.ensures in
    ap (option_map Local) (sym (passes_first test j (length ds) c.loop-number.left lt is c.if-left-eq0.true) ∙ c.loop-number.invariant)
    ∙ sym (listed_ids ds i c.args.k)

pub loop-number-preserved : goal.loop-number-preserved
loop-number-preserved c =
    let ds = c.args.declarations.now in
    let i = c.args.innermost in
    let j = c.loop-number.number in
    let test = is_listed (name_at ds) (in_scope ds i) in
    let lt : j < length ds = omega arith in
    elim c.if-eq.branch [
      | then-eq+else-left-eq0 w ↦
          let is = tested ds i j c.index-declarations-number.result c.deref.result.now c.found.result true lt c.index-declarations-number.is c.deref.ensures.value c.found.ensures w.if-eq.ensures in
          rw w.left-is (passes_later test j (length ds) c.loop-number.left lt is w.if-left-eq0.false ∙ c.loop-number.invariant)
      | else-eq w ↦
          let is = tested ds i j c.index-declarations-number.result c.deref.result.now c.found.result false lt c.index-declarations-number.is c.deref.ensures.value c.found.ensures w.if-eq.ensures in
          rw w.left-is (passes_not test j (length ds) c.loop-number.left lt is ∙ c.loop-number.invariant)
    ]

pub returns : goal.returns
returns c =
    let ds = c.args.declarations.now in
    let i = c.args.innermost in
    let test = is_listed (name_at ds) (in_scope ds i) in
    let past : length ds ≤ c.loop-number.number = omega arith in
    sym (listed_ids ds i c.args.k ∙ ap (option_map Local) (sym c.loop-number.invariant ∙ passes_none test c.loop-number.number (length ds) c.loop-number.left past))

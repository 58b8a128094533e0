use Rattle.std.proofs.Common.{◌+◌, drop}
use Rattle.gang_model.proofs.WalkedLists.{next_item}
use Rattle.ispc_names_declarations.proofs.Keys.{key_passed}
use Rattle.ispc_names_declarations.proofs.signatures.signature_key.Goals as goal

pub loop-param-preserved : goal.loop-param-preserved
loop-param-preserved c =
    let items = c.deref-param-items.result.now in
    let i = c.loop-param.param-index in
    key_passed (drop i items) (drop (i + 1) items) c.param-item.result c.args.function.now.name.items c.loop-param.key.items _ _
    (next_item items i c.param-item.result c.loop-param-test.true c.param-item.is) c.loop-param.invariant c.in_ok-push_param.ensures.written

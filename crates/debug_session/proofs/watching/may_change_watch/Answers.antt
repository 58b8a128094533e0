use Rattle.std.proofs.Common.{sym, ◌∙◌}
use Rattle.gang_model.specs.Debugger.Debugger.{now, taken_back}
use Rattle.debug_session.specs.Sessions.{bare}
use Rattle.debug_session.proofs.Watches.{none_noted, none_there, watches_alike}
use Rattle.debug_session.proofs.watching.may_change_watch.Goals as goal

pub returns-then-not-is_empty : goal.returns-then-not-is_empty
returns-then-not-is_empty g c none s d old meant stands are same =
    watches_alike s (now s (taken_back d)) (now s d) (c.may_have_set_file.ensures none s (bare d) stands) c.args.stops.now.items meant are

pub returns-else-not-is_empty : goal.returns-else-not-is_empty
returns-else-not-is_empty g c none s d old meant stands are same =
    let nothing = none_there c.args.before.now.items c.is_empty.result c.is_empty.ensures c.if-not-is_empty.false ∙ same in
    none_noted old (now s (taken_back d)) meant nothing ∙ sym (none_noted old (now s d) meant nothing)

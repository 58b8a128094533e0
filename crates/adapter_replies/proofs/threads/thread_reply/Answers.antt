use Rattle.std.proofs.Common.{◌≡◌, ◌∙◌, sym, subst, ap, Some}
use Rattle.gang_model.specs.Debugger.Debugger.{now}
use Rattle.gang_model.specs.Debugger.Positions.{lanes_now}
use Rattle.adapter_requests.specs.declared.reply.Reply.TheVariants as reply
use Rattle.adapter_replies.specs.Threads as spec
use Rattle.adapter_replies.specs.Threads.{IsLaneTold, IsThreadTold}
use Rattle.adapter_replies.specs.Told.{told_threads}
use Rattle.adapter_replies.proofs.ActiveLanes.{lanes_given}
use Rattle.adapter_replies.proofs.threads.thread_reply.Goals as goal

pub returns-in_ok-made-in-Threads : goal.returns-in_ok-made-in-Threads
returns-in_ok-made-in-Threads g c s d st =
    let width = c.in-Lanes.width in
    let made = c.in_ok-made-in-Threads.made in
    let given = lanes_given s.program (now s d) c.position.result (c.position.ensures.place s d st) in
    let told : told_threads (reply.Threads made) ≡ Some (spec.lane_threads (lanes_now (now s d)) width) =
    ap (λ threads. Some threads) (c.in_ok-made-in-Threads.ensures ∙ ap (λ lanes. spec.lane_threads lanes width) (sym given)) in
    subst (λ seen. IsThreadTold s d seen c.args.request.now (Some (reply.Threads made))) (sym c.in-Lanes.is)
    (subst (λ asked. IsLaneTold s d width asked (Some (reply.Threads made))) (sym c.in-Threads.is) told)

-- What a launch decides, by its message.
use Rattle.std.proofs.Common.{◌≡◌, ap, sym, ◌∙◌, Bool, true, false, [], codes}
use Rattle.std.specs.Prelude.{unwrap_or}
use Rattle.serde_json.specs.View.{view}
use Rattle.gang_model.specs.Texts.Text.{Bytes}
use Rattle.adapter_requests.specs.declared.request.Launch.{Launch}
use Rattle.adapter_messages.specs.Arguments.{IsLaunch, flag_at, number_at}
use Rattle.adapter_replies.specs.declared.threads.Threads.{Threads}
use Rattle.adapter_server.specs.declared.launching.LaunchMessage.{LaunchMessage}
use Rattle.adapter_server.specs.Serving.{Setup, setup_by, setup_of}
use Rattle.adapter_server.specs.Threads.{threads_if, threads_of}

abbrev made : Bytes → Bool → Threads → Setup
made program stops seen = record { program = program; stops_on_entry = stops; threads = seen }

pub launch_setup : (message : LaunchMessage) (launch : Launch) → IsLaunch (view message.message) launch → setup_by launch ≡ setup_of message
launch_setup message launch is =
    let stops = unwrap_or (flag_at (codes "/arguments/stopOnEntry") (view message.message)) true in
    let lanes = unwrap_or (flag_at (codes "/arguments/laneThreads") (view message.message)) false in
    let seen = threads_if lanes (number_at (codes "/arguments/width") (view message.message)) in
    ap (λ stops. made launch.program.now stops (threads_of launch)) (sym is.stops_on_entry)
    ∙ ap (λ lanes. made launch.program.now stops (threads_if lanes launch.width)) (sym is.lane_threads)
    ∙ ap (λ width. made launch.program.now stops (threads_if lanes width)) (sym is.width)
    ∙ ap (λ path. made path stops seen) (sym (ap (λ text. unwrap_or text []) is.program))

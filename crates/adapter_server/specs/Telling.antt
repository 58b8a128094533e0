-- What is told to an editor for a request, and where a run begins.
use Rattle.std.specs.Prelude.{◌≡◌, ◌≢◌, ◌⊎◌, ℕ, Bool, true, false, Option, Some, None}
use Rattle.std.specs.Io.KnownBytes.{Appends}
use Rattle.serde_json.specs.Data.{Data}
use Rattle.serde_json.specs.Written.{IsInOrder}
use Rattle.gang_model.specs.Debugger.Debugger.{Debugger, Setting}
use Rattle.gang_model.specs.Texts.Text.{Bytes}
use Rattle.debug_session.specs.Sessions.{StandsFor, bare}
use Rattle.conditional_stops.specs.declared.reasons.CountedStop.{CountedStop}
use Rattle.adapter_requests.specs.declared.reply.Reply.{Reply}
use Rattle.adapter_requests.specs.declared.request.Request.{Request}
use Rattle.adapter_requests.specs.declared.request.Request.TheVariants as request
use Rattle.opened_texts.specs.Texts.{texts_of}
use Rattle.adapter_frames.specs.Frames.{frame}
use Rattle.adapter_messages.specs.Replies.{message_of}
use Rattle.adapter_replies.specs.declared.threads.Threads.{Threads}
use Rattle.adapter_session.specs.declared.answering.Answered.{Answered}
use Rattle.adapter_session.specs.declared.beginning.Beginning.{Beginning}
use Rattle.adapter_session.specs.Done.{DoesRequest}
use Rattle.adapter_server.specs.declared.connection.Connection.{Connection}
use Rattle.adapter_server.specs.declared.files.FileNumber.{FileNumber}
use Rattle.adapter_server.specs.Events.{events_at_beginning, events_behind, events_on_entry}
use Rattle.adapter_server.specs.Opening.{MayOpen}
use Rattle.adapter_server.specs.Sending.{Sends, given, number_behind}
use Rattle.adapter_server.specs.Serving.{AsksHere, Run, Setup}
use Rattle.adapter_server.specs.Spelling.{IsPathFor}
use Rattle.adapter_server.specs.Threads.{IsToldAside}

-- ---- a request

-- a message was sent as a JSON text in a frame
pub record SendsText {R O : Type 0} (contents : O → Option Bytes) (before after : Connection R O) (message : Data) : Type 0 where
  pub text : Bytes
  pub in_order : IsInOrder text message
  pub bytes : Appends (given contents before) (given contents after) (frame text)

-- a message was sent under the next number
pub record SendsReply {R O : Type 0} (contents : O → Option Bytes) (before after : Connection R O) (message : ℕ → Data) : Type 0 where
  pub sent : SendsText contents before after (message before.next)
  pub next : after.next ≡ number_behind before.next
  pub stopped : after.stopped ≡ before.stopped
  pub hears : after.hears_changes ≡ before.hears_changes

-- the message of a reply to a request, by the number and the command of this; the program's source has this path
abbrev pub reply_to : (head : ℕ × Bytes) → (program : Bytes) → Reply → (number : ℕ) → Data
reply_to head program reply number = message_of number head.0 head.1 program reply

-- a request was done, and the events behind it were sent
pub record TellsOne {M R O : Type 0} (stands : M → Setting → Debugger → Type 0) (contents : O → Option Bytes) (seen : Threads) (program : Bytes) (asked : Request) (before after : Connection R O) (old new : Run M) : Type 0 where
  pub answered : Answered
  pub does : (s : Setting) (d : Debugger) → StandsFor stands old.session s d → DoesRequest stands s program asked d old.terms answered new.session new.terms
  pub sends : (s : Setting) (d : Debugger) → StandsFor stands new.session s d → Sends contents before after (events_behind seen before.hears_changes s d asked before.stopped answered)

-- ---- where a run begins

-- behind what the breakpoints came to: nothing where one counts, and else what is told of a `continue`
abbrev pub TellsUnless : {R O : Type 0} → (first : Option CountedStop) → (Tells : Type 0) → (before after : Connection R O) → Type 0
TellsUnless (Some counted) Tells before after = after ≡ before
TellsUnless None Tells before after = Tells

pub record TellsStart {M R O : Type 0} (stands : M → Setting → Debugger → Type 0) (contents : O → Option Bytes) (seen : Threads) (program : Bytes) (before after : Connection R O) (old new : Run M) : Type 0 where
  pub beginning : Beginning
  pub middle : Run M
  pub told : Connection R O
  pub asks : AsksHere stands beginning old middle
  pub sends : (s : Setting) (d : Debugger) → StandsFor stands old.session s d → Sends contents before told (events_at_beginning seen s d beginning)
  pub goes : TellsUnless beginning.first (TellsOne stands contents seen program request.Continue told after middle new) told after

-- what is told where a run begins, by whether it stops before its first step
abbrev pub TellsBeginning : {M R O : Type 0} → (M → Setting → Debugger → Type 0) → (O → Option Bytes) → Threads → (program : Bytes) → (stops_on_entry : Bool) → (before after : Connection R O) → (old new : Run M) → Type 0
TellsBeginning stands contents seen program true before after old new = (s : Setting) (d : Debugger) → StandsFor stands old.session s d → Sends contents before after (events_on_entry seen s d)
TellsBeginning stands contents seen program false before after old new = TellsStart stands contents seen program before after old new

-- ---- all that is told for a request

-- it is told by what the threads are, by the fault of the last stop or by the lanes of a value, and no event is behind that
pub record TellsAside {M R O : Type 0} (stands : M → Setting → Debugger → Type 0) (contents : O → Option Bytes) (setup : Setup) (head : ℕ × Bytes) (asked : Request) (before after : Connection R O) (old new : Run M) : Type 0 where
  pub told : Reply
  pub aside : (s : Setting) (d : Debugger) → StandsFor stands old.session s d → IsToldAside s d setup.threads before.stopped (texts_of before.opened) asked (Some told)
  pub reply : SendsReply contents before after (reply_to head setup.program told)
  pub opened : after.opened ≡ before.opened
  pub stays : new ≡ old

-- behind `configurationDone` it is told where the run begins
abbrev pub MayTellBeginning : {M R O : Type 0} → (M → Setting → Debugger → Type 0) → (O → Option Bytes) → Setup → Request → (before after : Connection R O) → (old new : Run M) → Type 0
MayTellBeginning stands contents setup asked before after old new =
    ((asked ≢ request.ConfigurationDone) × (after ≡ before) × (new ≡ old)) ⊎ ((asked ≡ request.ConfigurationDone) × TellsBeginning stands contents setup.threads setup.program setup.stops_on_entry before after old new)

-- its reply is sent, with the reference of what opens of it, then the events behind it, and then those of the beginning
pub record TellsAnswer {M R O : Type 0} (stands : M → Setting → Debugger → Type 0) (leads : Bytes → Option FileNumber → Type 0) (contents : O → Option Bytes) (setup : Setup) (head : ℕ × Bytes) (asked : Request) (before after : Connection R O) (old new : Run M) : Type 0 where
  pub replied : Connection R O
  pub told : Connection R O
  pub middle : Run M
  pub path : Bytes
  pub is_path : IsPathFor leads setup.program asked path
  pub one : TellsOne stands contents setup.threads path asked replied told old middle
  pub given : Reply
  pub opens : (s : Setting) (d : Debugger) → StandsFor stands middle.session s d → MayOpen s (bare d) asked one.answered.reply (texts_of before.opened) given (texts_of replied.opened)
  pub reply : SendsReply contents before replied (reply_to head setup.program given)
  pub begins : MayTellBeginning stands contents setup asked told after middle new

-- a restart is not answered yet: its number is kept
pub record Waits {M R O : Type 0} (head : ℕ × Bytes) (asked : Request) (before after : Connection R O) (old new : Run M) : Type 0 where
  pub restarts : asked ≡ request.Restart
  pub kept : after ≡ record before { restart = head.0 }
  pub stays : new ≡ old

abbrev pub Tells : {M R O : Type 0} → (M → Setting → Debugger → Type 0) → (Bytes → Option FileNumber → Type 0) → (O → Option Bytes) → Setup → (head : ℕ × Bytes) → Request → (before after : Connection R O) → (old new : Run M) → Type 0
Tells stands leads contents setup head asked before after old new =
    Waits head asked before after old new ⊎ (TellsAside stands contents setup head asked before after old new ⊎ TellsAnswer stands leads contents setup head asked before after old new)

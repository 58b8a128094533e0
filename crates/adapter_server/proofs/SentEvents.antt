-- Events that are sent, some behind others.
use Rattle.std.proofs.Common.{◌≡◌, ℕ, ◌+◌, ◌<◌, List, [], ◌∷◌, ◌++◌, map, length, take, get_or, false, ◌||◌, Option, Result, OnOk, refl, sym, ap, subst, ◌∙◌, append_assoc, append-nil, add-one}
use Rattle.std.proofs.Math.Seq.{take-suc}
use Rattle.std.proofs.lemmas.List.{map-append}
use Rattle.std.specs.Io.KnownBytes.{Appends}
use Rattle.std.proofs.KnownBytes.{Appends-nil, Appends-trans}
use Rattle.serde_json.specs.Data.{Data}
use Rattle.serde_json.specs.Written.{has_float}
use Rattle.gang_model.specs.Texts.Text.{Bytes}
use Rattle.adapter_requests.specs.declared.reply.StopReason.{StopReason}
use Rattle.adapter_requests.specs.declared.reply.StopReason.TheVariants as reason
use Rattle.adapter_messages.specs.Messages.{event}
use Rattle.adapter_messages.specs.Replies.{change_body, output_body, stop_body}
use Rattle.opened_texts.specs.Texts.{texts_of}
use Rattle.adapter_frames.specs.declared.reading.FrameReader.{FrameReader}
use Rattle.adapter_server.specs.declared.connection.Connection.{Connection}
use Rattle.adapter_server.specs.declared.events.Event.{Event}
use Rattle.adapter_server.specs.Events.{ToldEvent, Says, Stops, Changes, Ends, event_view, last_stop}
use Rattle.adapter_server.proofs.ServedRequests.{on_ok_then}
use Rattle.adapter_server.specs.Sending.{SaysLines, Sends, SendsOne, event_data, events_bytes, given, left_open, message_bytes, number_behind, number_behind_all}

-- ---- no event has a float

pub output_plain : (text : Bytes) → has_float (output_body text) ≡ false
output_plain text = refl

pub change_plain : has_float change_body ≡ false
change_plain = refl

pub stop_plain : (why : StopReason) (thread : ℕ) (text : Bytes) → has_float (stop_body why thread text) ≡ false
stop_plain reason.Entry thread text = refl
stop_plain reason.Step thread text = refl
stop_plain (reason.Breakpoint number) thread text = refl
stop_plain (reason.DataBreakpoint number) thread text = refl
stop_plain (reason.Exception name lane) thread text = refl
stop_plain reason.Pause thread text = refl
stop_plain reason.Goto thread text = refl

event_plain : (number : ℕ) (name : Bytes) (body : Data) → has_float body ≡ false → has_float (event number name body) ≡ false
event_plain number name body plain = ap (λ b. b || false) plain

-- what is said of a body that has no float, said of the data that it is
pub of_body : {T E : Type 0} (result : Result T E) (Says_of : Data → Type 0) (made body : Data) → made ≡ body → has_float body ≡ false → (has_float made ≡ false → OnOk result (Says_of made)) → OnOk result (Says_of body)
of_body result Says_of made body is plain says = subst (λ it. OnOk result (Says_of it)) is (says (ap has_float is ∙ plain))

-- ---- some behind others

bytes_on : (number : ℕ) (events more : List ToldEvent) → events_bytes number (events ++ more) ≡ events_bytes number events ++ events_bytes (number_behind_all number events) more
bytes_on number [] more = refl
bytes_on number (first ∷ others) more =
    let front = message_bytes (event_data first number) in
    ap (λ bytes. front ++ bytes) (bytes_on (number_behind number) others more)
    ∙ sym (append_assoc front (events_bytes (number_behind number) others) (events_bytes (number_behind_all (number_behind number) others) more))

number_on : (number : ℕ) (events more : List ToldEvent) → number_behind_all number (events ++ more) ≡ number_behind_all (number_behind_all number events) more
number_on number [] more = refl
number_on number (first ∷ others) more = number_on (number_behind number) others more

last_on : (before : StopReason) (events more : List ToldEvent) → last_stop before (events ++ more) ≡ last_stop (last_stop before events) more
last_on before [] more = refl
last_on before (Says text ∷ others) more = last_on before others more
last_on before (Stops why thread text ∷ others) more = last_on why others more
last_on before (Changes ∷ others) more = last_on before others more
last_on before (Ends ∷ others) more = last_on before others more

open_on : (texts : List (ℕ × Bytes)) (events more : List ToldEvent) → left_open texts (events ++ more) ≡ left_open (left_open texts events) more
open_on texts [] more = refl
open_on texts (Says text ∷ others) more = open_on texts others more
open_on texts (Stops why thread text ∷ others) more = open_on [] others more
open_on texts (Changes ∷ others) more = open_on texts others more
open_on texts (Ends ∷ others) more = open_on texts others more

module _ {R O : Type 0} (contents : O → Option Bytes) where
  -- a message of a new number
  pub sent_one : {T E : Type 0} (old middle new : Connection R O) (result : Result T E) (number : ℕ) (name : Bytes) (body message : Data)
      → number ≡ old.next → middle ≡ record old { next = number_behind old.next } → new ≡ record middle { writer = new.writer } → message ≡ event number name body
      → (has_float message ≡ false → OnOk result (Appends (given contents middle) (given contents new) (message_bytes message)))
      → has_float body ≡ false → OnOk result (SendsOne contents old new (λ n. event n name body))
  sent_one old middle new result number name body message first behind left is sent plain =
      let whole = is ∙ ap (λ n. event n name body) first in
      on_ok_then result (Appends (given contents middle) (given contents new) (message_bytes message)) (SendsOne contents old new (λ n. event n name body))
      (sent (ap has_float is ∙ event_plain number name body plain))
      (λ bytes. record {
        bytes = subst (λ it. Appends (given contents old) (given contents new) (message_bytes it)) whole (subst (λ before. Appends before (given contents new) (message_bytes message)) (ap (given contents) behind) bytes);
        next = ap (λ (c : Connection R O). c.next) left ∙ ap (λ (c : Connection R O). c.next) behind;
        hears = ap (λ (c : Connection R O). c.hears_changes) left ∙ ap (λ (c : Connection R O). c.hears_changes) behind;
      })

  pub sends_none : (connection : Connection R O) → Sends contents connection connection []
  sends_none connection = record { bytes = Appends-nil (given contents connection); next = refl; stopped = refl; opened = refl; hears = refl }

  -- events are sent, and others behind them
  pub sends_on : (old middle new : Connection R O) (events more : List ToldEvent) → Sends contents old middle events → Sends contents middle new more → Sends contents old new (events ++ more)
  sends_on old middle new events more before behind = record {
    bytes = subst (λ all. Appends (given contents old) (given contents new) all)
        (ap (λ number. events_bytes old.next events ++ events_bytes number more) before.next ∙ sym (bytes_on old.next events more))
        (Appends-trans (given contents old) (given contents middle) (given contents new) (events_bytes old.next events) (events_bytes middle.next more) before.bytes behind.bytes);
    next = behind.next ∙ ap (λ number. number_behind_all number more) before.next ∙ sym (number_on old.next events more);
    stopped = behind.stopped ∙ ap (λ why. last_stop why more) before.stopped ∙ sym (last_on old.stopped events more);
    opened = behind.opened ∙ ap (λ texts. left_open texts more) before.opened ∙ sym (open_on (texts_of old.opened) events more);
    hears = behind.hears ∙ before.hears;
  }

  -- one event is sent
  pub sends_just : (old new : Connection R O) (one : ToldEvent) → SendsOne contents old new (event_data one) → new.stopped ≡ last_stop old.stopped (one ∷ []) → texts_of new.opened ≡ left_open (texts_of old.opened) (one ∷ [])
      → Sends contents old new (one ∷ [])
  sends_just old new one sent stopped opened = record {
    bytes = subst (λ all. Appends (given contents old) (given contents new) all) (sym (append-nil (message_bytes (event_data one old.next)))) sent.bytes;
    next = sent.next;
    stopped = stopped;
    opened = opened;
    hears = sent.hears;
  }

  -- the same of one more of a list, at any default
  pub sends_next : (old middle new : Connection R O) (events : List Event) (i : ℕ) (d one : Event) → i < length events → one ≡ get_or events i d → Sends contents old middle (map event_view (take i events))
      → SendsOne contents middle new (event_data (event_view one)) → new.stopped ≡ last_stop middle.stopped (event_view one ∷ [])
      → texts_of new.opened ≡ left_open (texts_of middle.opened) (event_view one ∷ []) → Sends contents old new (map event_view (take (i + 1) events))
  sends_next old middle new events i d one within is before sent stopped opened =
      let first = take i events in
      let taken = ap (λ event. first ++ event ∷ []) is ∙ sym (take-suc events i d within) ∙ ap (λ n. take n events) (sym (add-one i)) in
      subst (λ all. Sends contents old new all) (sym (map-append event_view first (one ∷ [])) ∙ ap (map event_view) taken)
      (sends_on old middle new (map event_view first) (event_view one ∷ []) before (sends_just middle new (event_view one) sent stopped opened))

  -- ---- lines of the console

  pub says_on : (old middle new : Connection R O) → SaysLines contents old middle → SaysLines contents middle new → SaysLines contents old new
  says_on old middle new before behind = record {
    texts = before.texts ++ behind.texts;
    sends = subst (λ events. Sends contents old new events) (sym (map-append Says before.texts behind.texts)) (sends_on old middle new (map Says before.texts) (map Says behind.texts) before.sends behind.sends);
  }

  -- one line is sent
  pub says_one : (old new : Connection R O) (text : Bytes) → Sends contents old new (Says text ∷ []) → SaysLines contents old new
  says_one old new text sends = record { texts = text ∷ []; sends = sends }

  -- what is read besides changes nothing of what was sent
  pub says_reading : (old new : Connection R O) (messages : FrameReader R) → SaysLines contents old new → SaysLines contents old (record new { messages = messages })
  says_reading old new messages says = record {
    texts = says.texts;
    sends = record { bytes = says.sends.bytes; next = says.sends.next; stopped = says.sends.stopped; opened = says.sends.opened; hears = says.sends.hears };
  }

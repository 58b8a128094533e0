-- How events are sent: each as the frame of its message, which has a number of its own.
use Rattle.std.specs.Prelude.{◌≡◌, ℕ, ◌+◌, ◌-◌, ◌^◌, min, List, [], ◌∷◌, ◌++◌, codes, map, Option}
use Rattle.std.specs.Io.KnownBytes.{Appends}
use Rattle.serde_json.specs.Data.{Data, no_members, object}
use Rattle.serde_json.specs.Written.{compact_text}
use Rattle.gang_model.specs.Texts.Text.{Bytes}
use Rattle.adapter_frames.specs.Frames.{frame}
use Rattle.adapter_messages.specs.Messages.{event}
use Rattle.adapter_messages.specs.Replies.{change_body, output_body, stop_body}
use Rattle.opened_texts.specs.Texts.{texts_of}
use Rattle.adapter_server.specs.declared.connection.Connection.{Connection}
use Rattle.adapter_server.specs.Events.{ToldEvent, Says, Stops, Changes, Ends, last_stop}

-- the number of the message behind one
abbrev pub number_behind : ℕ → ℕ
number_behind number = min (number + 1) (2 ^ 64 - 1)

-- the message of an event
abbrev pub event_data : ToldEvent → (number : ℕ) → Data
event_data (Says text) number = event number (codes "output") (output_body text)
event_data (Stops reason thread text) number = event number (codes "stopped") (stop_body reason thread text)
event_data Changes number = event number (codes "invalidated") change_body
event_data Ends number = event number (codes "terminated") (object no_members)

-- the texts that are open once these events are told: a stop closes them
abbrev pub left_open : (texts : List (ℕ × Bytes)) → List ToldEvent → List (ℕ × Bytes)
left_open texts [] = texts
left_open texts (Says text ∷ others) = left_open texts others
left_open texts (Stops reason thread text ∷ others) = left_open [] others
left_open texts (Changes ∷ others) = left_open texts others
left_open texts (Ends ∷ others) = left_open texts others

-- the bytes of a message
abbrev pub message_bytes : Data → Bytes
message_bytes message = frame (compact_text message)

-- the bytes of events one behind another, where the first has this number
abbrev pub events_bytes : (number : ℕ) → List ToldEvent → Bytes
events_bytes number [] = []
events_bytes number (told ∷ others) = message_bytes (event_data told number) ++ events_bytes (number_behind number) others

-- the number of the message behind them
abbrev pub number_behind_all : (number : ℕ) → List ToldEvent → ℕ
number_behind_all number [] = number
number_behind_all number (told ∷ others) = number_behind_all (number_behind number) others

-- what the writer of a connection was given, where that is known
abbrev pub given : {R O : Type 0} → (O → Option Bytes) → Connection R O → Option Bytes
given contents connection = contents connection.writer

-- a message was sent under the next number; what the editor hears of stays
pub record SendsOne {R O : Type 0} (contents : O → Option Bytes) (old new : Connection R O) (message : ℕ → Data) : Type 0 where
  pub bytes : Appends (given contents old) (given contents new) (message_bytes (message old.next))
  pub next : new.next ≡ number_behind old.next
  pub hears : new.hears_changes ≡ old.hears_changes

-- events were sent in their order, and nothing else; the last stop is kept, and it closes the texts that were open
pub record Sends {R O : Type 0} (contents : O → Option Bytes) (old new : Connection R O) (events : List ToldEvent) : Type 0 where
  pub bytes : Appends (given contents old) (given contents new) (events_bytes old.next events)
  pub next : new.next ≡ number_behind_all old.next events
  pub stopped : new.stopped ≡ last_stop old.stopped events
  pub opened : texts_of new.opened ≡ left_open (texts_of old.opened) events
  pub hears : new.hears_changes ≡ old.hears_changes

-- lines of the console were sent, and nothing else
pub record SaysLines {R O : Type 0} (contents : O → Option Bytes) (old new : Connection R O) : Type 0 where
  pub texts : List Bytes
  pub sends : Sends contents old new (map Says texts)

-- What is told for a request, and where a run begins.
use Rattle.std.proofs.Common.{◌≡◌, ℕ, Bool, true, false, List, Option, Some, None, Result, Ok, Err, OnOk, refl, subst, sym}
use Rattle.serde_json.specs.Data.{Data}
use Rattle.gang_model.specs.Debugger.Debugger.{Debugger, Setting}
use Rattle.gang_model.specs.Texts.Text.{Bytes}
use Rattle.debug_session.specs.Sessions.{StandsFor}
use Rattle.conditional_stops.specs.declared.reasons.CountedStop.{CountedStop}
use Rattle.adapter_requests.specs.declared.request.Request.{Request}
use Rattle.adapter_requests.specs.declared.request.Request.TheVariants as request
use Rattle.adapter_requests.specs.declared.reply.Reply.{Reply}
use Rattle.adapter_messages.specs.Replies.{message_of}
use Rattle.adapter_replies.specs.declared.threads.Threads.{Threads}
use Rattle.adapter_session.specs.declared.answering.Answered.{Answered}
use Rattle.adapter_session.specs.declared.beginning.Beginning.{Beginning}
use Rattle.adapter_session.specs.Done.{DoesRequest}
use Rattle.opened_texts.specs.declared.texts.OpenedTexts.{OpenedTexts}
use Rattle.adapter_server.specs.declared.connection.Connection.{Connection}
use Rattle.adapter_server.specs.Events.{events_at_beginning, events_behind, events_on_entry}
use Rattle.adapter_server.specs.Opening.{MayOpen}
use Rattle.adapter_server.specs.Sending.{Sends}
use Rattle.adapter_server.specs.Serving.{AsksHere, Run}
use Rattle.adapter_server.specs.Telling.{SendsReply, TellsBeginning, TellsOne, TellsUnless, reply_to}

module _ {M R O : Type 0} (stands : M → Setting → Debugger → Type 0) (contents : O → Option Bytes) (seen : Threads) (program : Bytes) where
  -- a request was done, and what is behind it was sent unless something failed
  pub told_one : {T E : Type 0} (asked : Request) (before after : Connection R O) (old new : Run M) (result : Result T E) (answered : Answered)
      → ((s : Setting) (d : Debugger) → StandsFor stands old.session s d → DoesRequest stands s program asked d old.terms answered new.session new.terms)
      → ((s : Setting) (d : Debugger) → StandsFor stands new.session s d → OnOk result (Sends contents before after (events_behind seen before.hears_changes s d asked before.stopped answered)))
      → OnOk result (TellsOne stands contents seen program asked before after old new)
  told_one asked before after old new (Ok x) answered does sends = record { answered = answered; does = does; sends = sends }
  told_one asked before after old new (Err e) answered does sends = tt

  -- a run begins that stops before its first step
  pub told_entry : {T E : Type 0} (stops : Bool) (before after : Connection R O) (old : Run M) (result : Result T E) → stops ≡ true
      → ((s : Setting) (d : Debugger) → StandsFor stands old.session s d → OnOk result (Sends contents before after (events_on_entry seen s d)))
      → OnOk result (TellsBeginning stands contents seen program stops before after old old)
  told_entry stops before after old (Ok x) is sends = subst (λ b. TellsBeginning stands contents seen program b before after old old) (sym is) sends
  told_entry stops before after old (Err e) is sends = tt

  -- a breakpoint counts where another run begins
  pub told_here : (stops : Bool) (beginning : Beginning) (counted : CountedStop) (before after : Connection R O) (old middle : Run M) → stops ≡ false → beginning.first ≡ Some counted → AsksHere stands beginning old middle
      → ((s : Setting) (d : Debugger) → StandsFor stands old.session s d → Sends contents before after (events_at_beginning seen s d beginning))
      → TellsBeginning stands contents seen program stops before after old middle
  told_here stops beginning counted before after old middle runs some asked sends =
      let goes = subst (λ first. TellsUnless first (TellsOne stands contents seen program request.Continue after after middle middle) after after) (sym some) refl in
      subst (λ b. TellsBeginning stands contents seen program b before after old middle) (sym runs) (record { beginning = beginning; middle = middle; told = after; asks = asked; sends = sends; goes = goes })

  -- none does
  pub told_going : (stops : Bool) (beginning : Beginning) (before told after : Connection R O) (old middle new : Run M) → stops ≡ false → beginning.first ≡ None → AsksHere stands beginning old middle
      → ((s : Setting) (d : Debugger) → StandsFor stands old.session s d → Sends contents before told (events_at_beginning seen s d beginning))
      → TellsOne stands contents seen program request.Continue told after middle new
      → TellsBeginning stands contents seen program stops before after old new
  told_going stops beginning before told after old middle new runs none asked sends one =
      let goes = subst (λ first. TellsUnless first (TellsOne stands contents seen program request.Continue told after middle new) told after) (sym none) one in
      subst (λ b. TellsBeginning stands contents seen program b before after old new) (sym runs) (record { beginning = beginning; middle = middle; told = told; asks = asked; sends = sends; goes = goes })

  -- events are sent that are those behind another answer
  pub sent_same : (asked : Request) (before after : Connection R O) (new : Run M) (given answered : Answered)
      → ((s : Setting) (d : Debugger) → events_behind seen before.hears_changes s d asked before.stopped given ≡ events_behind seen before.hears_changes s d asked before.stopped answered)
      → ((s : Setting) (d : Debugger) → StandsFor stands new.session s d → Sends contents before after (events_behind seen before.hears_changes s d asked before.stopped given))
      → (s : Setting) (d : Debugger) → StandsFor stands new.session s d → Sends contents before after (events_behind seen before.hears_changes s d asked before.stopped answered)
  sent_same asked before after new given answered same sends s d st = subst (Sends contents before after) (same s d) (sends s d st)

-- other texts that open change nothing of what was sent
pub replied_same : {R O : Type 0} (contents : O → Option Bytes) (before after : Connection R O) (opened : OpenedTexts) (message : ℕ → Data)
    → SendsReply contents (record before { opened = opened }) after message → SendsReply contents before after message
replied_same contents before after opened message sends =
    record { sent = record { text = sends.sent.text; in_order = sends.sent.in_order; bytes = sends.sent.bytes }; next = sends.next; stopped = sends.stopped; hears = sends.hears }

-- a reply is told by the number and the command of its request
pub replied_by : {R O : Type 0} (contents : O → Option Bytes) (before after : Connection R O) (program : Bytes) (reply : Reply) (number : ℕ) (command : Bytes) (head : ℕ × Bytes) → number ≡ head.0 → command ≡ head.1
    → SendsReply contents before after (λ n. message_of n number command program reply) → SendsReply contents before after (reply_to head program reply)
replied_by contents before after program reply number command head is_number is_command sends =
    subst (λ c. SendsReply contents before after (λ n. message_of n head.0 c program reply)) is_command
    (subst (λ m. SendsReply contents before after (λ n. message_of n m command program reply)) is_number sends)

-- what opens of a reply is told where the texts are the same
pub opens_same : (s : Setting) (d : Debugger) (asked : Request) (told given : Reply) (old new : List (ℕ × Bytes)) (kept : List (ℕ × Bytes)) → kept ≡ new → MayOpen s d asked told old given new → MayOpen s d asked told old given kept
opens_same s d asked told given old new kept same opens = subst (λ texts. MayOpen s d asked told old given texts) (sym same) opens

-- A reference of what opens of a reply changes no event behind it.
use Rattle.std.proofs.Common.{◌≡◌, refl, sym, subst, ℕ, Bool, Option, Some, None}
use Rattle.gang_model.specs.Debugger.Debugger.{Debugger, Setting}
use Rattle.adapter_requests.specs.declared.reply.Reply.{Reply}
use Rattle.adapter_requests.specs.declared.reply.Reply.TheVariants as reply
use Rattle.adapter_requests.specs.declared.reply.StopReason.{StopReason}
use Rattle.adapter_requests.specs.declared.request.Request.{Request}
use Rattle.adapter_replies.specs.declared.threads.Threads.{Threads}
use Rattle.adapter_replies.specs.Children.{with_reference}
use Rattle.adapter_server.specs.Events.{reply_events}
use Rattle.adapter_server.specs.Opening.{HasPlace}

module _ (seen : Threads) (hears : Bool) (s : Setting) (d : Debugger) (asked : Request) (last : StopReason) (reference : ℕ) where
  by_reference : (told : Reply) → reply_events seen hears s d asked last (with_reference reference told) ≡ reply_events seen hears s d asked last told
  by_reference reply.Done = refl
  by_reference reply.Capabilities = refl
  by_reference (reply.Breakpoints all) = refl
  by_reference (reply.Locations lines) = refl
  by_reference (reply.Targets line) = refl
  by_reference (reply.Completions names) = refl
  by_reference (reply.Watchable target) = refl
  by_reference reply.NotWatchable = refl
  by_reference (reply.Threads all) = refl
  by_reference (reply.Frames frames total) = refl
  by_reference (reply.Scopes scopes) = refl
  by_reference (reply.Variables all) = refl
  by_reference (reply.Set text old) = refl
  by_reference (reply.Evaluated text None old) = refl
  by_reference (reply.Evaluated text (Some reason) old) = refl
  by_reference (reply.Moved stop) = refl
  by_reference (reply.Exception fault) = refl
  by_reference reply.Ended = refl
  by_reference (reply.Refused text) = refl
  by_reference reply.OutOfMemory = refl

-- so does a place
pub by_place : (seen : Threads) (hears : Bool) (s : Setting) (d : Debugger) (asked : Request) (last : StopReason) (index : Option ℕ) (told given : Reply) → HasPlace index told given
    → reply_events seen hears s d asked last given ≡ reply_events seen hears s d asked last told
by_place seen hears s d asked last None told given is = subst (λ it. reply_events seen hears s d asked last it ≡ reply_events seen hears s d asked last told) (sym is) refl
by_place seen hears s d asked last (Some index) told given (reference, found, is) =
    subst (λ it. reply_events seen hears s d asked last it ≡ reply_events seen hears s d asked last told) (sym is) (by_reference seen hears s d asked last reference told)

-- Messages that are heard, one more behind others.
use Rattle.std.proofs.Common.{◌≡◌, List, [], ◌∷◌, ◌++◌, Option, Some, None, refl, subst}
use Rattle.serde_json.specs.Data.{Data}
use Rattle.gang_model.specs.Debugger.Debugger.{Debugger, Setting}
use Rattle.gang_model.specs.Texts.Text.{Bytes}
use Rattle.adapter_messages.specs.Arguments.{head_of}
use Rattle.adapter_server.specs.declared.connection.Connection.{Connection}
use Rattle.adapter_server.specs.declared.files.FileNumber.{FileNumber}
use Rattle.adapter_server.specs.declared.launching.Before.{Before}
use Rattle.adapter_server.specs.declared.launching.Before.TheVariants.{Disconnects, Goes}
use Rattle.adapter_server.specs.declared.serving.Served.{Served}
use Rattle.adapter_server.specs.Hearing.{Hears, HearsAll, HearsAllBefore, HearsBefore, HearsDisconnect, HearsEach, HearsEachBefore, HearsUntil, ReadsNext}
use Rattle.adapter_server.specs.Serving.{Run, Setup}

module _ {M R O : Type 0} (stands : M → Setting → Debugger → Type 0) (leads : Bytes → Option FileNumber → Type 0) (contents : O → Option Bytes) (setup : Setup) (left : R → Option Bytes) where
  each_more : (messages : List Data) (a b c d : Connection R O) (message : Data) (old middle new : Run M) → HearsEach stands leads left contents setup messages a b old middle → ReadsNext left contents b c message
      → Hears stands leads contents setup None message c d middle new → HearsEach stands leads left contents setup (messages ++ message ∷ []) a d old new
  each_more [] a b c d message old middle new (same, stay) reads hears =
      (c, d, new, subst (λ before. ReadsNext left contents before c message) same reads, subst (λ run. Hears stands leads contents setup None message c d run new) stay hears, (refl, refl))
  each_more (first ∷ messages) a b c d message old middle new (read, told, between, next, heard, others) reads hears =
      (read, told, between, next, heard, each_more messages told b c d message between middle new others reads hears)

  -- a message was read and heard, by a setup that is this one, and ended nothing
  pub hears_more : (a b c d : Connection R O) (by : Setup) (end : Option Served) (message : Data) (old middle new : Run M) → HearsAll stands leads left contents setup a b old middle → ReadsNext left contents b c message → by ≡ setup → end ≡ None
      → Hears stands leads contents by end message c d middle new → HearsAll stands leads left contents setup a d old new
  hears_more a b c d by end message old middle new all reads is goes hears = record {
    messages = all.messages ++ message ∷ [];
    each = each_more all.messages a b c d message old middle new all.each reads
        (subst (λ setup. Hears stands leads contents setup None message c d middle new) is (subst (λ end. Hears stands leads contents by end message c d middle new) goes hears));
  }

  -- or it ended serving
  pub hears_until : (a b c d : Connection R O) (by : Setup) (end : Option Served) (served : Served) (message : Data) (old middle new : Run M) → HearsAll stands leads left contents setup a b old middle → ReadsNext left contents b c message → by ≡ setup
      → end ≡ Some served → Hears stands leads contents by end message c d middle new → HearsUntil stands leads left contents setup served a d old new
  hears_until a b c d by end served message old middle new all reads is ends hears = record {
    told = b;
    middle = middle;
    others = all;
    read = c;
    last = message;
    reads = reads;
    hears = subst (λ setup. Hears stands leads contents setup (Some served) message c d middle new) is (subst (λ end. Hears stands leads contents by end message c d middle new) ends hears);
  }

-- ---- before a launch

module _ {R O : Type 0} (contents : O → Option Bytes) (left : R → Option Bytes) where
  each_before : (messages : List Data) (a b c d : Connection R O) (message : Data) → HearsEachBefore left contents messages a b → ReadsNext left contents b c message → HearsBefore contents Goes (head_of message) message c d
      → HearsEachBefore left contents (messages ++ message ∷ []) a d
  each_before [] a b c d message same reads hears = (c, d, subst (λ before. ReadsNext left contents before c message) same reads, hears, refl)
  each_before (first ∷ messages) a b c d message (read, told, next, heard, others) reads hears = (read, told, next, heard, each_before messages told b c d message others reads hears)

  pub more_before : (a b c d : Connection R O) (turn : Before) (message : Data) → HearsAllBefore left contents a b → ReadsNext left contents b c message → turn ≡ Goes → HearsBefore contents turn (head_of message) message c d → HearsAllBefore left contents a d
  more_before a b c d turn message all reads goes hears = record {
    messages = all.messages ++ message ∷ [];
    each = each_before all.messages a b c d message all.each reads (subst (λ turn. HearsBefore contents turn (head_of message) message c d) goes hears);
  }

  -- a message disconnects
  pub disconnects : (a b c d : Connection R O) (turn : Before) (message : Data) → HearsAllBefore left contents a b → ReadsNext left contents b c message → turn ≡ Disconnects → HearsBefore contents turn (head_of message) message c d → HearsDisconnect left contents a d
  disconnects a b c d turn message all reads ends hears = record {
    told = b;
    hears = all;
    read = c;
    last = message;
    reads = reads;
    disconnects = subst (λ turn. HearsBefore contents turn (head_of message) message c d) ends hears;
  }

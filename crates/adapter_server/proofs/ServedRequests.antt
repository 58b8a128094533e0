-- Requests that are done, and what follows them.
use Rattle.std.proofs.Common.{◌≡◌, inl, inr, Bool, true, false, Option, Some, None, Result, Ok, Err, IfOk, IfErr, OnOk, refl, ap, sym, subst, ◌∙◌}
use Rattle.gang_model.specs.Debugger.Debugger.{Debugger, Setting}
use Rattle.gang_model.specs.Texts.Text.{Bytes}
use Rattle.debug_session.specs.declared.session.Session.{Session}
use Rattle.debug_session.specs.Sessions.{StandsFor}
use Rattle.conditional_stops.specs.declared.reasons.CountedStop.{CountedStop}
use Rattle.adapter_requests.specs.declared.request.Request.{Request}
use Rattle.adapter_requests.specs.declared.request.Request.TheVariants as request
use Rattle.adapter_session.specs.declared.answering.Answered.{Answered}
use Rattle.adapter_session.specs.declared.beginning.Beginning.{Beginning}
use Rattle.adapter_session.specs.declared.terms.Terms.{Terms as GivenTerms}
use Rattle.adapter_session.specs.Done.{DoesRequest}
use Rattle.adapter_session.specs.Terms.{terms_of}
use Rattle.adapter_server.specs.declared.files.FileNumber.{FileNumber}
use Rattle.adapter_server.specs.Serving.{Answers, Asks, AsksHere, Begins, BeginsBy, DoesOne, Follows, GoesUnless, IsAsked, MayDo, MayFollow, Run, Setup, run_of}
use Rattle.adapter_server.specs.Spelling.{IsPathFor}
use Rattle.serde_json.specs.Data.{Data}

-- what holds where nothing failed, of what always holds, and of what follows from it
pub on_ok : {T E : Type 0} (result : Result T E) (P : Type 0) → P → OnOk result P
on_ok (Ok x) P p = p
on_ok (Err e) P p = tt

pub on_ok_then : {T E : Type 0} (result : Result T E) (P Q : Type 0) → OnOk result P → (P → Q) → OnOk result Q
on_ok_then (Ok x) P Q p f = f p
on_ok_then (Err e) P Q p f = tt

pub if_ok_then : {T E : Type 0} (result : Result T E) (P Q : T → Type 0) → IfOk result P → ((x : T) → P x → Q x) → IfOk result Q
if_ok_then (Ok x) P Q p f = f x p
if_ok_then (Err e) P Q p f = tt

module _ {M : Type 0} (stands : M → Setting → Debugger → Type 0) where
  same_run : (old new : Session M) (terms after : GivenTerms) → new ≡ old → after ≡ terms → run_of new after ≡ run_of old terms
  same_run old new terms after same stay = ap (λ session. run_of session after) same ∙ ap (λ t. run_of old t) stay

  -- one request is done, unless memory was wanting
  pub asks : {E : Type 0} (program : Bytes) (asked : Request) (old new : Session M) (terms after : GivenTerms) (result : Result Answered E)
      → ((s : Setting) (d : Debugger) → StandsFor stands old s d → IfOk result (λ answered. DoesRequest stands s program asked d (terms_of terms) answered new (terms_of after)))
      → IfErr result (λ _. (new ≡ old) × (after ≡ terms)) → Asks stands program asked (run_of old terms) (run_of new after) result
  asks program asked old new terms after (Ok answered) done none = record { answered = answered; does = λ s d there. done s d there }
  asks program asked old new terms after (Err error) done none = same_run old new terms after none.0 none.1

  pub may_do : {T E : Type 0} (program : Bytes) (asked : Request) (old new : Run M) (result : Result T E) → Asks stands program asked old new result → MayDo stands program asked old new
  may_do program asked old new (Ok reply) does = inr does
  may_do program asked old new (Err error) same = inl same

  pub does_one : {T E : Type 0} (program : Bytes) (asked : Request) (old new : Run M) (result : Result T E) (reply : T) → result ≡ Ok reply → Asks stands program asked old new result → DoesOne stands program asked old new
  does_one program asked old new result reply ok does = subst (λ r. Asks stands program asked old new r) ok does

  -- ---- where a run begins

  module _ (Goes : Run M → Run M → Type 0) where
    -- it is to stop before its first step
    pub begins_on_entry : (stops : Bool) (run : Run M) → stops ≡ true → BeginsBy stands stops Goes run run
    begins_on_entry stops run is = subst (λ b. BeginsBy stands b Goes run run) (sym is) refl

    -- a breakpoint counts there
    pub begins_here : (stops : Bool) (beginning : Beginning) (counted : CountedStop) (old middle : Run M) → stops ≡ false → beginning.first ≡ Some counted → AsksHere stands beginning old middle → BeginsBy stands stops Goes old middle
    begins_here stops beginning counted old middle runs some asked =
        subst (λ b. BeginsBy stands b Goes old middle) (sym runs)
        (record { beginning = beginning; middle = middle; asks = asked; goes = subst (λ f. GoesUnless f Goes middle middle) (sym some) refl })

    -- none does
    pub begins_going : (stops : Bool) (beginning : Beginning) (old middle new : Run M) → stops ≡ false → beginning.first ≡ None → AsksHere stands beginning old middle → Goes middle new → BeginsBy stands stops Goes old new
    begins_going stops beginning old middle new runs none asked goes =
        subst (λ b. BeginsBy stands b Goes old new) (sym runs)
        (record { beginning = beginning; middle = middle; asks = asked; goes = subst (λ f. GoesUnless f Goes middle new) (sym none) goes })

    goes_nowhere : (first : Option CountedStop) (run : Run M) → Goes run run → GoesUnless first Goes run run
    goes_nowhere (Some counted) run nowhere = refl
    goes_nowhere None run nowhere = nowhere

    -- they were asked, and it went no further
    pub begins_asking : (stops : Bool) (beginning : Beginning) (old middle : Run M) → stops ≡ false → AsksHere stands beginning old middle → Goes middle middle → BeginsBy stands stops Goes old middle
    begins_asking stops beginning old middle runs asked nowhere =
        subst (λ b. BeginsBy stands b Goes old middle) (sym runs)
        (record { beginning = beginning; middle = middle; asks = asked; goes = goes_nowhere beginning.first middle nowhere })

  module _ (leads : Bytes → Option FileNumber → Type 0) (setup : Setup) where
    -- ---- a request that comes to nothing, or is done

    pub follows_nothing : (asked : Request) (run : Run M) → Follows stands leads setup asked run run
    follows_nothing asked run = inl refl

    alone : (asked : Request) (run : Run M) → MayFollow stands setup asked run run
    alone (request.Initialize hears) run = refl
    alone (request.Launch launch) run = refl
    alone (request.SetBreakpoints source lines) run = refl
    alone (request.SetFunctionBreakpoints functions) run = refl
    alone (request.BreakpointLocations source first last) run = refl
    alone (request.GotoTargets source line) run = refl
    alone (request.Goto line way) run = refl
    alone request.SetExceptionBreakpoints run = refl
    alone request.ExceptionInfo run = refl
    alone (request.DataBreakpointInfo reference frame name) run = refl
    alone (request.SetDataBreakpoints targets) run = refl
    alone request.ConfigurationDone run = inl refl
    alone request.Threads run = refl
    alone (request.StackTrace thread start levels) run = refl
    alone (request.Scopes frame) run = refl
    alone (request.Variables reference page is_hexadecimal) run = refl
    alone (request.SetVariable reference name value is_hexadecimal) run = refl
    alone (request.SetExpression expression value frame is_hexadecimal) run = refl
    alone (request.Completions text column frame) run = refl
    alone (request.Evaluate expression frame context is_hexadecimal) run = refl
    alone request.Next run = refl
    alone request.StepIn run = refl
    alone request.StepOut run = refl
    alone request.Continue run = refl
    alone request.StepBack run = refl
    alone request.ReverseContinue run = refl
    alone request.Pause run = refl
    alone request.Restart run = refl
    alone request.Terminate run = refl
    alone request.Disconnect run = refl
    alone (request.Unknown name) run = refl

    pub follows_asking : {T E : Type 0} (asked : Request) (path : Bytes) (old new : Run M) (result : Result T E) → IsPathFor leads setup.program asked path → Asks stands path asked old new result → Follows stands leads setup asked old new
    follows_asking asked path old new (Ok reply) is_path does = inr (record { path = path; is_path = is_path; middle = new; does = does; follows = alone asked new })
    follows_asking asked path old new (Err error) is_path same = inl same

    -- a run that begins behind `configurationDone`
    pub follows_beginning : {T E : Type 0} (asked : Request) (path : Bytes) (old middle new : Run M) (result : Result T E) (reply : T) → asked ≡ request.ConfigurationDone → result ≡ Ok reply → IsPathFor leads setup.program asked path → Asks stands path asked old middle result
        → Begins stands setup middle new → Follows stands leads setup asked old new
    follows_beginning asked path old middle new result reply is ok is_path does begins =
        inr (record {
          path = path;
          is_path = is_path;
          middle = middle;
          does = does_one path asked old middle result reply ok does;
          follows = subst (λ a. MayFollow stands setup a middle new) (sym is) (inr begins);
        })

    -- ---- a message

    pub answers_nothing : (message : Data) (run : Run M) → Answers stands leads setup message run run
    answers_nothing message run = inl refl

    pub answers_following : (message : Data) (asked : Request) (old new : Run M) → IsAsked message asked → Follows stands leads setup asked old new → Answers stands leads setup message old new
    answers_following message asked old new is (inl same) = inl same
    answers_following message asked old new is (inr does) = inr (asked, is, does)

-- Breakpoints and watches that are made anew, one after another.
use Rattle.std.proofs.Common.{◌≡◌, refl, ap, sym, subst, ◌∙◌, ℕ, zero, suc, ◌+◌, ◌-◌, ◌<◌, ◌≤◌, Bool, List, [], ◌∷◌, length, drop, get_or, add-one, Option, Some, None, inl, arith}
use Rattle.std.specs.Prelude.{option_map}
use Rattle.std.proofs.lemmas.List.{drop_all}
use Rattle.gang_model.specs.Debugger.Debugger as model
use Rattle.gang_model.specs.Debugger.Debugger.{Command, Debugger, DoBreak, Line, MayRunOut, Reply, Setting, Stop, Watch, do_command}
use Rattle.gang_model.specs.Types.Tree.{Program}
use Rattle.gang_model.specs.Texts.Text.{Bytes}
use Rattle.debug_answers.specs.declared.answer.Answer.{Answer}
use Rattle.debug_answers.specs.declared.answer.Answer.TheVariants as answer
use Rattle.debug_answers.specs.declared.stops.NumberedStop.{NumberedStop}
use Rattle.debug_answers.specs.Meanings.{AreStops, IsStop, Means}
use Rattle.debug_session.specs.declared.session.Session.{Session}
use Rattle.debug_session.specs.Sessions.{RepliesOn, Sets, StandsFor}
use Rattle.command_lists.specs.Lists.{Leads}
use Rattle.function_lines.specs.Lines.{function_line}
use Rattle.adapter_session.specs.Restored.{command_in, commands_anew, commands_from, given_made, is_made, led, made_in, reply_anew, reply_to, restored, restored_from, stop_commands, used, used_up, with_made}
use Rattle.adapter_session.specs.Terms.{FunctionStop, name_of}
use Rattle.adapter_session.proofs.GoingTo.{one_reply}
use Rattle.adapter_session.proofs.KeptNumbers.{led_behind}

-- ---- one command

-- a command that may be there wants for no memory, and sets nothing
abbrev IsPlain : Debugger → Option Command → Type 0
IsPlain d None = Unit {0}
IsPlain d (Some command) = (MayRunOut command d → ⊥) × (Sets command → ⊥)

plain_break : (line : Option ℕ) (d : Debugger) → IsPlain d (option_map DoBreak line)
plain_break None d = tt
plain_break (Some l) d = (λ may. may, λ sets. sets)

plain : (p : Program) (name : Option Bytes) (stop : Stop) (d : Debugger) → IsPlain d (made_in p name stop)
plain p None (Line line) d = (λ may. may, λ sets. sets)
plain p None (Watch target v) d = (λ may. may, λ sets. sets)
plain p (Some name) stop d = plain_break (function_line p name) d

-- so there is one reply to it
pub reply_is : (may_want : Type 0) (s : Setting) (functions : List FunctionStop) (entry : ℕ × Stop) (d : Debugger) (command : Command) (r : Reply) → Some command ≡ command_in s.program functions entry → RepliesOn may_want s command d r
    → r ≡ reply_to s (command_in s.program functions entry) d
reply_is may_want s functions entry d command r is replies =
    let sure = subst (IsPlain d) (sym is) (plain s.program (name_of entry.0 functions) entry.1 d) in
    one_reply may_want s command d r sure.0 sure.1 replies ∙ ap (λ o. reply_to s o d) is

-- whether it made a stop, by what its answer means
pub made_is : (s : Setting) (d : Debugger) (given : Answer) (meant : model.Answer) → Means s d given meant → given_made given ≡ is_made meant
made_is s d answer.Here meant is = sym (ap is_made is)
made_is s d (answer.AtBreakpoint n) meant is = sym (ap is_made is)
made_is s d (answer.AtWatch n) meant is = sym (ap is_made is)
made_is s d (answer.AtFault fault) meant is = sym (ap is_made is)
made_is s d answer.HistoryEnd meant is = sym (ap is_made is)
made_is s d answer.StepLimit meant is = sym (ap is_made is)
made_is s d answer.UndoneStep meant is = sym (ap is_made is)
made_is s d answer.UndonePoke meant is = sym (ap is_made is)
made_is s d (answer.Shows target shown) meant (v, is, inside, found) = sym (ap is_made is)
made_is s d (answer.BreaksAt n line) meant is = sym (ap is_made is)
made_is s d (answer.Watches n target) meant is = sym (ap is_made is)
made_is s d (answer.Deleted n) meant is = sym (ap is_made is)
made_is s d answer.ListsStops meant is = sym (ap is_made is)
made_is s d answer.ListsLocals meant is = sym (ap is_made is)
made_is s d answer.ListsFrames meant is = sym (ap is_made is)
made_is s d (answer.KeepsHistory n) meant is = sym (ap is_made is)
made_is s d answer.Silent meant is = sym (ap is_made is)
made_is s d (answer.Refused r) meant is = sym (ap is_made is)

-- ---- one stop after another

-- the stop at an index, and those behind it
record StopAt (s : Setting) (given : List NumberedStop) (meant : List (ℕ × Stop)) (i : ℕ) (default : NumberedStop) : Type 0 where
  pub entry : ℕ × Stop
  pub number : (get_or given i default).number ≡ entry.0
  pub is : IsStop s (get_or given i default).stop entry.1
  pub left : drop i meant ≡ entry ∷ drop (suc i) meant

stop_at : (s : Setting) (given : List NumberedStop) (meant : List (ℕ × Stop)) (i : ℕ) (default : NumberedStop) → AreStops s given meant → i < length given → StopAt s given meant i default
stop_at s [] meant i default are within = absurd (omega arith)
stop_at s (x ∷ xs) [] i default are within = absurd are
stop_at s (x ∷ xs) (m ∷ ms) zero default (number, is, others) within = record { entry = m; number = number; is = is; left = refl }
stop_at s (x ∷ xs) (m ∷ ms) (suc i) default (number, is, others) within =
    let at = stop_at s xs ms i default others (omega arith) in
    record { entry = at.entry; number = at.number; is = at.is; left = at.left }

-- as many stops as are given
as_many : (s : Setting) (given : List NumberedStop) (meant : List (ℕ × Stop)) → AreStops s given meant → length meant ≡ length given
as_many s [] [] are = refl
as_many s [] (m ∷ ms) are = absurd are
as_many s (x ∷ xs) [] are = absurd are
as_many s (x ∷ xs) (m ∷ ms) (number, is, others) = ap suc (as_many s xs ms others)

-- none is left, once each stop was made
none_left : (s : Setting) (given : List NumberedStop) (meant : List (ℕ × Stop)) (i : ℕ) → AreStops s given meant → length given ≤ i → drop i meant ≡ []
none_left s given meant i are past = let many = as_many s given meant are in drop_all i meant (omega (arith, many, past))

-- where commands lead, of which each is replied to as the definition has it
pub leads_all : (s : Setting) (commands : List Command) (d : Debugger) → Leads s commands d (led s commands d)
leads_all s [] d = refl
leads_all s (command ∷ commands) d = (do_command s command d, inl (inl refl), leads_all s commands (do_command s command d).next)

module _ {M : Type 0} (stands : M → Setting → Debugger → Type 0) (s : Setting) where
  -- some numbers were used up, and those from one on are left: where the session stands, and where it leads
  pub record Using (next number : ℕ) (d : Debugger) (left : ℕ) (session : Session M) : Type 0 where
    pub at : Debugger
    pub there : StandsFor stands session s at
    pub leads : led s (used_up (number - left) left) at ≡ led s (used_up (number - next) next) d

  pub using_none : (next number : ℕ) (d : Debugger) (session : Session M) → StandsFor stands session s d → Using next number d next session
  using_none next number d session there = record { at = d; there = there; leads = refl }

  pub uses_more : (next number : ℕ) (d : Debugger) (left : ℕ) (old new : Session M) → left < number → (before : Using next number d left old)
      → ((e : Debugger) → StandsFor stands old s e → StandsFor stands new s (led s (used left) e)) → Using next number d (left + 1) new
  uses_more next number d left old new less before uses =
      let many : number - left ≡ suc (number - suc left) = omega (arith, less) in
      subst (λ n. Using next number d n new) (sym (add-one left))
      (record {
        at = led s (used left) before.at;
        there = uses before.at before.there;
        leads =
            sym (led_behind s (used left) (used_up (number - suc left) (suc left)) before.at)
            ∙ sym (ap (λ n. led s (used_up n left) before.at) many)
            ∙ before.leads;
      })

  pub uses_all : (next number : ℕ) (d : Debugger) (left : ℕ) (session : Session M) → number ≤ left → Using next number d left session → StandsFor stands session s (led s (used_up (number - next) next) d)
  uses_all next number d left session past before =
      let none : number - left ≡ 0 = omega (arith, past) in
      subst (λ e. StandsFor stands session s e) (sym (ap (λ n. led s (used_up n left) before.at) none) ∙ before.leads) before.there

module _ {M : Type 0} (stands : M → Setting → Debugger → Type 0) (s : Setting) (functions : List FunctionStop) where
  -- some of the stops were made, and these are left, where a number is next: where the session stands, where it leads, and which of them were made
  pub record Restoring (stops : List (ℕ × Stop)) (d : Debugger) (next : ℕ) (left : List (ℕ × Stop)) (made : List ℕ) (session : Session M) : Type 0 where
    pub at : Debugger
    pub there : StandsFor stands session s at
    pub leads : led s (commands_from s functions next left at) at ≡ led s (stop_commands s functions stops d) d
    pub made_are : restored_from s functions next left at made ≡ restored s functions stops d []

  pub restoring : (stops : List (ℕ × Stop)) (d : Debugger) (session : Session M) → StandsFor stands session s d → Restoring stops d 1 stops [] session
  restoring stops d session there = record { at = d; there = there; leads = refl; made_are = refl }

  makes_one : (stops : List (ℕ × Stop)) (d : Debugger) (next : ℕ) (left others : List (ℕ × Stop)) (entry : ℕ × Stop) (made all : List ℕ) (old new : Session M) → left ≡ entry ∷ others → (before : Restoring stops d next left made old)
      → StandsFor stands new s (led s (commands_anew s functions next entry before.at) before.at) → all ≡ with_made (is_made (reply_anew s functions next entry before.at).answer) entry.0 made
      → Restoring stops d (suc entry.0) others all new
  makes_one stops d next left others entry made all old new is before there notes =
      let commands = commands_anew s functions next entry before.at in
      let at = led s commands before.at in
      record {
        at = at;
        there = there;
        leads =
            sym (led_behind s commands (commands_from s functions (suc entry.0) others at) before.at)
            ∙ sym (ap (λ list. led s (commands_from s functions next list before.at) before.at) is)
            ∙ before.leads;
        made_are =
            ap (restored_from s functions (suc entry.0) others at) notes
            ∙ sym (ap (λ list. restored_from s functions next list before.at made) is)
            ∙ before.made_are;
      }

  -- one stop more was made, or could not be
  pub makes_more : (r : Setting) (given : List NumberedStop) (stops : List (ℕ × Stop)) (i : ℕ) (default : NumberedStop) (d : Debugger) (next after : ℕ) (made all : List ℕ) (is_one : Bool) (old new : Session M) → AreStops r given stops → i < length given
      → (before : Restoring stops d next (drop i stops) made old)
      → ((entry : ℕ × Stop) → (get_or given i default).number ≡ entry.0 → IsStop r (get_or given i default).stop entry.1 → StandsFor stands new s (led s (commands_anew s functions next entry before.at) before.at))
      → ((entry : ℕ × Stop) → (get_or given i default).number ≡ entry.0 → IsStop r (get_or given i default).stop entry.1 → is_one ≡ is_made (reply_anew s functions next entry before.at).answer)
      → all ≡ with_made is_one (get_or given i default).number made → after ≡ (get_or given i default).number + 1 → Restoring stops d after (drop (i + 1) stops) all new
  makes_more r given stops i default d next after made all is_one old new are within before there whether notes behind =
      let at = stop_at r given stops i default are within in
      let after_is : after ≡ suc at.entry.0 = behind ∙ add-one (get_or given i default).number ∙ ap suc at.number in
      subst (λ n. Restoring stops d n (drop (i + 1) stops) all new) (sym after_is)
      (subst (λ n. Restoring stops d (suc at.entry.0) (drop n stops) all new) (sym (add-one i))
      (makes_one stops d next (drop i stops) (drop (suc i) stops) at.entry made all old new at.left before (there at.entry at.number at.is)
      (notes ∙ ap (λ n. with_made is_one n made) at.number ∙ ap (λ b. with_made b at.entry.0 made) (whether at.entry at.number at.is))))

  -- all were
  pub makes_all : (r : Setting) (given : List NumberedStop) (stops : List (ℕ × Stop)) (i : ℕ) (d : Debugger) (next : ℕ) (made : List ℕ) (session : Session M) → AreStops r given stops → length given ≤ i → Restoring stops d next (drop i stops) made session
      → StandsFor stands session s (led s (stop_commands s functions stops d) d)
  makes_all r given stops i d next made session are past before =
      let end = subst (λ left. Restoring stops d next left made session) (none_left r given stops i are past) before in
      subst (λ e. StandsFor stands session s e) end.leads end.there

  pub made_all : (r : Setting) (given : List NumberedStop) (stops : List (ℕ × Stop)) (i : ℕ) (d : Debugger) (next : ℕ) (made : List ℕ) (session : Session M) → AreStops r given stops → length given ≤ i → Restoring stops d next (drop i stops) made session
      → made ≡ restored s functions stops d []
  made_all r given stops i d next made session are past before =
      let end = subst (λ left. Restoring stops d next left made session) (none_left r given stops i are past) before in
      end.made_are

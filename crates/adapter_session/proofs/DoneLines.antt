-- Lines that are done one after another.
use Rattle.std.proofs.Common.{◌≡◌, refl, ap, sym, subst, ◌∙◌, ℕ, ℤ, List, [], ◌++◌, map, Option, Some, None}
use Rattle.std.proofs.lemmas.Grind.{flat_map-append}
use Rattle.std.proofs.lemmas.List.{map-append}
use Rattle.gang_model.specs.Debugger.Debugger as model
use Rattle.gang_model.specs.Debugger.Debugger.{Command, Debugger, Setting, depth, now}
use Rattle.gang_model.specs.Texts.CommandText.{command_of}
use Rattle.gang_model.specs.Texts.Text.{Bytes}
use Rattle.debug_commands.specs.declared.command.Command as declared
use Rattle.debug_commands.specs.declared.command.Target.{Target}
use Rattle.debug_commands.specs.declared.command.Command.TheVariants as spelt
use Rattle.debug_commands.specs.Views.{command_view}
use Rattle.debug_answers.specs.declared.answer.Answer.{Answer}
use Rattle.debug_session.specs.declared.session.Session.{Session}
use Rattle.debug_session.specs.Sessions.{StandsFor}
use Rattle.adapter_requests.specs.declared.reply.Reply.{Reply}
use Rattle.adapter_requests.specs.declared.request.Request.{Request}
use Rattle.adapter_replies.specs.Told.{MeansLast}
use Rattle.command_lists.specs.Lists.{HasDone, Leads}
use Rattle.command_lists.proofs.DoneLists.{leads_on}
use Rattle.adapter_session.specs.Answered.{IsToldByLines, MayTell}
use Rattle.adapter_session.specs.Doing.{DoesIn, DoesLinesIn, MayReplyTo}
use Rattle.adapter_session.specs.Requested.{all_in_frame, command_list, commands_there, frame_of, in_frame, lines_of, only, set_at, set_there, spelled}

-- where the command of a line leads, or the refusal of one that spells none
leads_by_command : (s : Setting) (command : Option Command) (d : Debugger) (r : model.Reply) → MayReplyTo s command d r → Leads s (command_list command ++ []) d r.next
leads_by_command s None d r is = ap (λ r. r.next) is
leads_by_command s (Some command) d r is = (r, is, refl)

-- the commands of a line behind others
spelled_behind : (lines : List Bytes) (line : Bytes) → spelled (lines ++ only line) ≡ spelled lines ++ (command_list (command_of line) ++ [])
spelled_behind lines line = flat_map-append (λ line. command_list (command_of line)) lines (only line)

-- the command of a line, if there is one, in the frame at a depth
listed_there : (deep : ℕ) (command : Option Command) → map (set_at deep) (command_list command ++ []) ≡ command_list (in_frame (Some deep) command) ++ []
listed_there deep None = refl
listed_there deep (Some command) = refl

-- a line that spells no command in no frame either
pub none_there : (s : Setting) (frame : Option ℕ) (d : Debugger) → MayReplyTo s (in_frame frame None) d (model.refused model.BadCommand d)
none_there s None d = refl
none_there s (Some deep) d = refl

-- one that a line spells, in a frame
pub one_there : (frame : Option ℕ) (command : Command) → in_frame frame (Some command) ≡ Some (set_there frame command)
one_there None command = refl
one_there (Some deep) command = refl

-- a command that sets no value is the same in a frame
pub same_there : (deep : ℕ) (given : declared.Command) → ((target : Target) (value : ℤ) → given ≡ spelt.Set target value → ⊥) → set_at deep (command_view given) ≡ command_view given
same_there deep (spelt.Step n) other = refl
same_there deep (spelt.Next n) other = refl
same_there deep (spelt.ReverseStep n) other = refl
same_there deep (spelt.ReverseNext n) other = refl
same_there deep spelt.Finish other = refl
same_there deep spelt.Continue other = refl
same_there deep spelt.ReverseFinish other = refl
same_there deep spelt.ReverseContinue other = refl
same_there deep spelt.Undo other = refl
same_there deep (spelt.Print target) other = refl
same_there deep (spelt.Set target value) other = absurd (other target value refl)
same_there deep (spelt.Break line) other = refl
same_there deep (spelt.Watch target) other = refl
same_there deep (spelt.Delete n) other = refl
same_there deep (spelt.SetHistory n) other = refl
same_there deep spelt.InfoBreakpoints other = refl
same_there deep spelt.InfoLocals other = refl
same_there deep spelt.Backtrace other = refl
same_there deep spelt.Nothing other = refl
same_there deep spelt.Quit other = refl

-- the same of commands that are done in a frame
behind_there : (frame : Option ℕ) (lines : List Bytes) (line : Bytes)
    → all_in_frame frame (spelled (lines ++ only line)) ≡ all_in_frame frame (spelled lines) ++ (command_list (in_frame frame (command_of line)) ++ [])
behind_there None lines line = spelled_behind lines line
behind_there (Some deep) lines line =
    ap (map (set_at deep)) (spelled_behind lines line)
    ∙ map-append (set_at deep) (spelled lines) (command_list (command_of line) ++ [])
    ∙ ap (λ commands. map (set_at deep) (spelled lines) ++ commands) (listed_there deep (command_of line))

nothing_there : (frame : Option ℕ) → all_in_frame frame [] ≡ []
nothing_there None = refl
nothing_there (Some deep) = refl

module _ {M : Type 0} (stands : M → Setting → Debugger → Type 0) (s : Setting) (frame : Option ℕ) where
  -- lines that were done are their commands that were done
  pub has_done : (lines : List Bytes) (d : Debugger) (last : Option Answer) (session : Session M) → DoesLinesIn stands s frame lines d last session
      → HasDone stands s (all_in_frame frame (spelled lines)) d session
  has_done lines d None session (are, there) = record {
    after = d;
    leads = subst (λ lines. Leads s (all_in_frame frame (spelled lines)) d d) (sym are) (subst (λ commands. Leads s commands d d) (sym (nothing_there frame)) refl);
    there = there;
  }
  has_done lines d (Some given) session does =
      let e = does.does.reply.next in
      let one = leads_by_command s (in_frame frame (command_of does.line)) does.middle does.does.reply does.does.is_reply in
      let all = leads_on s (all_in_frame frame (spelled does.front)) (command_list (in_frame frame (command_of does.line)) ++ []) d does.middle e does.leads one in
      let spelt : Leads s (all_in_frame frame (spelled (does.front ++ only does.line))) d e = subst (λ commands. Leads s commands d e) (sym (behind_there frame does.front does.line)) all in
      record {
        after = e;
        leads = subst (λ lines. Leads s (all_in_frame frame (spelled lines)) d e) (sym does.are) spelt;
        there = does.does.replied.there;
      }

  -- one line more
  pub does_more : (lines all : List Bytes) (line : Bytes) (d : Debugger) (last : Option Answer) (given : Answer) (session new : Session M) → DoesLinesIn stands s frame lines d last session
      → ((e : Debugger) → StandsFor stands session s e → DoesIn stands s frame line e given new) → all ≡ lines ++ only line → DoesLinesIn stands s frame all d (Some given) new
  does_more lines all line d last given session new does next are =
      let done = has_done lines d last session does in
      record {
        front = lines;
        line = line;
        are = are;
        middle = done.after;
        leads = done.leads;
        does = next done.after done.there;
      }

module _ {M : Type 0} (stands : M → Setting → Debugger → Type 0) (s : Setting) where
  -- lines that were done in a frame are those of a request in its frame
  pub lines_there : (program : Bytes) (functions : List ℕ) (request : Request) (d : Debugger) (frame : Option ℕ) (lines : List Bytes) (last : Option Answer) (new : Session M)
      → frame ≡ frame_of (depth (now s d)) request → lines ≡ lines_of s.program program functions (depth (now s d)) d.stops request → DoesLinesIn stands s frame lines d last new
      → DoesLinesIn stands s (frame_of (depth (now s d)) request) (lines_of s.program program functions (depth (now s d)) d.stops request) d last new
  lines_there program functions request d frame lines last new in_it are does =
      subst (λ (f : Option ℕ). DoesLinesIn stands s f (lines_of s.program program functions (depth (now s d)) d.stops request) d last new) in_it
      (subst (λ list. DoesLinesIn stands s frame list d last new) are does)

  -- the lines of a request that were done are its commands that were done
  pub request_done : (program : Bytes) (functions : List ℕ) (request : Request) (d : Debugger) (last : Option Answer) (new : Session M)
      → DoesLinesIn stands s (frame_of (depth (now s d)) request) (lines_of s.program program functions (depth (now s d)) d.stops request) d last new
      → HasDone stands s (commands_there s.program program functions (depth (now s d)) d.stops request) d new
  request_done program functions request d last new does =
      has_done stands s (frame_of (depth (now s d)) request) (lines_of s.program program functions (depth (now s d)) d.stops request) d last new does

  -- what is told where a session stands after lines, told of the request whose lines they are
  pub request_told : (program : Bytes) (functions : List ℕ) (request : Request) (d : Debugger) (told : Reply) (last : Option Answer) (new : Session M)
      → DoesLinesIn stands s (frame_of (depth (now s d)) request) (lines_of s.program program functions (depth (now s d)) d.stops request) d last new
      → ((after : Debugger) (meant : model.Answer) → StandsFor stands new s after → MeansLast s after last meant → MayTell s program after last meant request told) → IsToldByLines stands s program functions request d told new
  request_told program functions request d told None new does tells =
      record { last = None; does = does; after = d; there = does.1; meant = model.Silent; means = tt; tells = tells d model.Silent does.1 tt }
  request_told program functions request d told (Some given) new does tells =
      let reply = does.does.reply in
      let replied = does.does.replied in
      record { last = Some given; does = does; after = reply.next; there = replied.there; meant = reply.answer; means = replied.means; tells = tells reply.next reply.answer replied.there replied.means }

-- Rows that the check computes from the definitions: two texts were written, and a third is left out; stops and changes that are told; what lines do; the bytes of events;
-- two texts open, and no third one; and paths that lead to one file, to another and to none.
use Rattle.std.proofs.Common.{◌≡◌, ◌∙◌, refl, ap, if◌then◌else◌, ℕ, Bool, true, false, List, [], ◌∷◌, ◌++◌, codes, Option, Some, None}
use Rattle.std.specs.Prelude.{◌||◌, bytes_eq}
use Rattle.std.specs.Fmt.{digits}
use Rattle.std.specs.Path.{path_components, path_names}
use Rattle.serde_json.proofs.OnLiterals.{serde_json_on_literals}
use Rattle.adapter_requests.specs.declared.reply.StopReason.TheVariants as reason
use Rattle.std.specs.Borrow.{Bor}
use Rattle.adapter_requests.specs.declared.reply.Reply.{Reply}
use Rattle.adapter_requests.specs.declared.reply.Reply.TheVariants as reply
use Rattle.adapter_requests.specs.declared.request.Request.TheVariants as request
use Rattle.adapter_paths.specs.Ways.{is_same_file}
use Rattle.adapter_server.specs.declared.effects.Effect.TheVariants as effect
use Rattle.adapter_server.specs.declared.files.FileNumber.{FileNumber}
use Rattle.adapter_server.specs.Effects.{line_effect}
use Rattle.adapter_server.specs.Events.{Says, Stops, Changes, Ends, change_events, last_stop, tells_value}
use Rattle.adapter_server.specs.Opening.{text_at}
use Rattle.adapter_server.specs.Sending.{events_bytes}
use Rattle.adapter_server.specs.Spelling.{IsFound, IsPathBy, IsPathIf, are_one}
use Rattle.adapter_server.specs.Writing.{console_line, console_lines}

two_texts : console_lines (record { texts = codes "1" ∷ codes "2" ∷ []; is_cut = false }) ≡ (49 ∷ 10 ∷ []) ∷ (50 ∷ 10 ∷ []) ∷ []
two_texts = refl

one_left_out : console_lines (record { texts = codes "1" ∷ []; is_cut = true }) ≡ (49 ∷ 10 ∷ []) ∷ console_line (codes "texts of log points are left out") ∷ []
one_left_out = refl

nothing_written : console_lines (record { texts = []; is_cut = false }) ≡ []
nothing_written = refl

-- of two stops the last one is kept, and where there is none the one before stays
the_last_of_two : last_stop reason.Entry (Stops reason.Step 1 [] ∷ Says [] ∷ Stops reason.Pause 1 [] ∷ Ends ∷ []) ≡ reason.Pause
the_last_of_two = refl

no_stop : last_stop reason.Entry (Says [] ∷ Ends ∷ []) ≡ reason.Entry
no_stop = refl

-- a value that is set, of which an editor hears or does not; one that is not told; and a move
heard : (reference : ℕ) (name value : Bor (List ℕ)) (told : Reply) → tells_value told ≡ true → change_events true (request.SetVariable reference name value false) told ≡ Changes ∷ []
heard reference name value told is = ap (λ tells. if tells then Changes ∷ [] else []) is

not_heard : (reference : ℕ) (name value : Bor (List ℕ)) (told : Reply) → change_events false (request.SetVariable reference name value false) told ≡ []
not_heard reference name value told = refl

nothing_set : (reference : ℕ) (name value : Bor (List ℕ)) → change_events true (request.SetVariable reference name value false) reply.OutOfMemory ≡ []
nothing_set reference name value = refl

behind_a_move : (told : Reply) → change_events true request.Next told ≡ []
behind_a_move told = refl

-- lines of the console that set a value and that end the session, in the debugger's words and in the prompt's, and one that does neither
sets_a_value : line_effect (codes "set var x = 3") ≡ effect.Sets
sets_a_value = refl

in_the_prompts_words : line_effect (codes "set x = 3") ≡ effect.Sets
in_the_prompts_words = refl

quits_by_a_letter : line_effect (codes "q") ≡ effect.Quits
quits_by_a_letter = refl

exits : line_effect (codes "exit") ≡ effect.Quits
exits = refl

shows_a_value : line_effect (codes "x") ≡ effect.Tells
shows_a_value = refl

-- a line of the console and the end, as messages 5 and 6
two_messages : events_bytes 5 (Says (codes "x = 1\n") ∷ Ends ∷ [])
    ≡ codes "Content-Length: 90\r\n\r\n{\"body\":{\"category\":\"console\",\"output\":\"x = 1\\n\"},\"event\":\"output\",\"seq\":5,\"type\":\"event\"}"
    ++ codes "Content-Length: 55\r\n\r\n{\"body\":{},\"event\":\"terminated\",\"seq\":6,\"type\":\"event\"}"
unfolding serde_json_on_literals digits
two_messages = refl

-- ---- `v` of the frames at depths 1 and 2

two_open : List (ℕ × List ℕ)
two_open = (1, codes "v") ∷ (2, codes "v") ∷ []

the_second : text_at 2000 two_open ≡ Some (2, codes "v")
unfolding two_open
the_second = refl

no_third : text_at 3000 two_open ≡ None
unfolding two_open
no_third = refl

no_expression : text_at 31 two_open ≡ None
unfolding two_open
no_expression = refl

-- ---- `/a` and its link `/b` lead to a file, `/c` to another one, and nothing else to any

file_of : (path : List ℕ) → Option FileNumber
file_of path = if bytes_eq path (codes "/a") || bytes_eq path (codes "/b") then Some (record { device = 1; number = 7 }) else (if bytes_eq path (codes "/c") then Some (record { device = 1; number = 8 }) else None)

found_so : (program source path : List ℕ) → IsFound (λ p file. file ≡ file_of p) program source path → path ≡ (if are_one (file_of program) (file_of source) then source else program)
found_so program source path found =
    found.path_is ∙ ap (λ file. if are_one file found.of_source then source else program) found.program_leads
    ∙ ap (λ file. if are_one (file_of program) file then source else program) found.source_leads

by_a_link : (path : List ℕ) → IsPathBy (λ p file. file ≡ file_of p) (codes "/a") (codes "/b") path → path ≡ codes "/b"
unfolding file_of path_components path_names
by_a_link path is = found_so (codes "/a") (codes "/b") path is

by_its_file : (path : List ℕ) → IsPathBy (λ p file. file ≡ file_of p) (codes "/b") (codes "/a") path → path ≡ codes "/a"
unfolding file_of path_components path_names
by_its_file path is = found_so (codes "/b") (codes "/a") path is

to_another_file : (path : List ℕ) → IsPathBy (λ p file. file ≡ file_of p) (codes "/a") (codes "/c") path → path ≡ codes "/a"
unfolding file_of path_components path_names
to_another_file path is = found_so (codes "/a") (codes "/c") path is

to_no_file : (path : List ℕ) → IsPathBy (λ p file. file ≡ file_of p) (codes "/a") (codes "/d") path → path ≡ codes "/a"
unfolding file_of path_components path_names
to_no_file path is = found_so (codes "/a") (codes "/d") path is

-- where no file is found, the spellings alone say which path it is
by_the_spellings : (is_spelled_so : Bool) (program source path : List ℕ) → IsPathIf is_spelled_so (λ p file. file ≡ None) program source path → path ≡ (if is_spelled_so then source else program)
by_the_spellings true program source path is = is
by_the_spellings false program source path found = found.path_is ∙ ap (λ file. if are_one file found.of_source then source else program) found.program_leads

nothing_found : (program source path : List ℕ) → IsPathBy (λ p file. file ≡ None) program source path → path ≡ (if is_same_file program source then source else program)
nothing_found program source path is = by_the_spellings (is_same_file program source) program source path is

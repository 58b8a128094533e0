-- Whole records of small runs, by their definitions: the moments that are told, the calls of a run up to its end, and the changes between two states.
use Rattle.std.proofs.Common.{◌≡◌, ◌∙◌, ◌⊎◌, ◌≤◌, ◌<◌, ℕ, zero, suc, ◌∷◌, [], true, false, codes, refl, ap, sym, subst, inl, inr, lit<, lit≤, List, Some, None, Bor, map, arith}
use Rattle.std.specs.Prelude.{Contains, slice_get}
use Rattle.std.specs.Fmt.{digits}
use Rattle.std.proofs.lemmas.List.Elements.{All-nil, All-push}
use Rattle.gang_types.specs.Masks.{lanes_of_word}
use Rattle.gang_types.specs.declared.masks.Mask.{Mask}
use Rattle.gang_types.specs.declared.places.VarId.TheVariants.{File}
use Rattle.gang_model.specs.Types.Tree.{Program, Variable}
use Rattle.gang_model.specs.Running.State.{State}
use Rattle.gang_model.specs.Debugger.Debugger.{Setting, fresh}
use Rattle.gang_model.specs.Texts.Text.{Bytes, where_text}
use Rattle.debug_traits.specs.declared.machine.Position.{Position}
use Rattle.lane_picture.specs.Seen.{state_after}
use Rattle.run_page.specs.declared.moments.Call.{Call}
use Rattle.run_page.specs.declared.moments.Moment.{Moment}
use Rattle.run_page.specs.declared.moments.Stand.{Stand}
use Rattle.run_page.specs.declared.page.Subject.{Subject}
use Rattle.run_page.specs.declared.record.Record.{Record}
use Rattle.run_page.specs.declared.views.Change.{Change}
use Rattle.run_page.specs.declared.views.Change.TheVariants.{Gone, Word}
use Rattle.run_page.specs.Calls.{HasCallsOf, HaveCalls}
use Rattle.run_page.specs.Changes.{Difference, Differs, HasWord, IsGone, TellDifferences, told}
use Rattle.run_page.specs.Moments.{is_near, steps_done, told_moments}
use Rattle.run_page.specs.Names.{names_view}
use Rattle.run_page.specs.Sights.{Sees, Sight, sight_of, variables_at, words_at}
use Rattle.run_page.proofs.Places.{at_place}
use Rattle.run_page.proofs.WorkedRows.{in_deeper, n, program, same_word}

-- ---- which moments are told

abbrev text : Bytes → Bor Bytes
text bytes = record { ref_ptr = (0, 0); now = bytes }

abbrev subject : (each : ℕ) → (around : List ℕ) → Subject
subject each around = record { title = text []; source = text []; first_number = 10; most_steps = 100; most_words = 8; each = each; around = record { ref_ptr = (0, 0); now = around } }

-- each of them where one of 1 or of 0 is asked for
all_told : told_moments (subject 1 []) 4 ≡ 0 ∷ 1 ∷ 2 ∷ 3 ∷ 4 ∷ []
all_told = refl

none_asked : told_moments (subject 0 []) 2 ≡ 0 ∷ 1 ∷ 2 ∷ []
none_asked = refl

-- one of three, and the last one, once
some_told : told_moments (subject 3 []) 7 ≡ 0 ∷ 3 ∷ 6 ∷ 7 ∷ []
some_told = refl

last_told : told_moments (subject 3 []) 6 ≡ 0 ∷ 3 ∷ 6 ∷ []
last_told = refl

-- those near a step that was asked for
near_told : told_moments (subject 4 (11 ∷ [])) 5 ≡ 0 ∷ 1 ∷ 2 ∷ 3 ∷ 4 ∷ 5 ∷ []
near_told = refl

near_before : is_near 11 1012 ≡ false
near_before = refl

near_from : is_near 12 1012 ≡ true
near_from = refl

near_to : is_near 2012 1012 ≡ true
near_to = refl

near_behind : is_near 2013 1012 ≡ false
near_behind = refl

-- ---- the calls of a run: in a call, back in the function that made it, and at the end

abbrev lanes : Mask
lanes = record { word = 11 }

abbrev names : List Bytes
names = codes "deeper" ∷ codes "go" ∷ []

abbrev call : Call
call = record { place = record { line = 5; col = 5 }; function = 1 }

abbrev position : (line : ℕ) → (name : Bytes) → (depth : ℕ) → Position
position line name depth = record { place = record { line = line; col = 5 }; function = text name; depth = depth; width = 4; lanes = lanes }

abbrev stand : (line function depth : ℕ) → Stand
stand line function depth = record { place = record { line = line; col = 5 }; function = function; depth = depth; lanes = lanes }

abbrev moments : List Moment
moments = record { taken = 0; stand = Some (stand 3 0 2); kept_calls = 0; first_call = 0; end_of_calls = 1; first_change = 0; end_of_changes = 0 }
    ∷ record { taken = 1; stand = Some (stand 6 1 1); kept_calls = 0; first_call = 1; end_of_calls = 1; first_change = 0; end_of_changes = 0 }
    ∷ record { taken = 2; stand = None; kept_calls = 0; first_call = 1; end_of_calls = 1; first_change = 0; end_of_changes = 0 } ∷ []

in_call : where_text program in_deeper ≡ codes "at 3:5 deeper depth 2 lanes 1101"
unfolding digits
in_call = refl

back_in_go : where_text program (state_after program 1 in_deeper) ≡ codes "at 6:5 go depth 1 lanes 1101"
unfolding digits
back_in_go = refl

at_end : where_text program (state_after program 2 in_deeper) ≡ codes "ended"
unfolding digits
at_end = refl

have_calls : HaveCalls program names [] (call ∷ []) in_deeper moments
unfolding digits lanes_of_word
have_calls = (
  record {
    stand = (position 3 (codes "deeper") 2, refl, record { place = refl; name = refl; depth = refl; lanes = refl });
    order = lit≤ tt;
    inside = lit≤ tt;
    calls = ((position 5 (codes "go") 1, refl, refl, refl), tt);
  },
  (
    record { stand = (position 6 (codes "go") 1, refl, record { place = refl; name = refl; depth = refl; lanes = refl }); order = lit≤ tt; inside = lit≤ tt; calls = tt },
    (record { stand = refl; order = lit≤ tt; inside = lit≤ tt; calls = tt }, tt),
  ),
)

abbrev setting : Setting
setting = record { program = program; first = in_deeper; limit = 1 }

-- any record with these lists has the calls of the run
whole_calls : (kept : Record) → names_view kept.functions.items ≡ names → kept.calls.items ≡ call ∷ [] → kept.moments.items ≡ moments → HasCallsOf setting (fresh 8) kept
whole_calls kept named called noted =
    subst (λ names. HaveCalls program names [] kept.calls.items in_deeper kept.moments.items) (sym named)
    (subst (λ calls. HaveCalls program names [] calls in_deeper kept.moments.items) (sym called) (subst (HaveCalls program names [] (call ∷ []) in_deeper) (sym noted) have_calls))

-- ---- the changes of a step: a variable of the file has another word

abbrev one : Program
one = record { functions = []; globals = record { variable = n; word = 7; len = 0 } ∷ [] }

abbrev with_word : (word : ℕ) → State
with_word word = record { memory = (File 0, word ∷ []) ∷ []; frames = [] }

abbrev seen : Sight
seen = sight_of 0 (with_word 7) n

only_file : (word deep : ℕ) (v : Variable) → deep ≤ 0 → Contains (variables_at one deep (with_word word)) v → (deep ≡ 0) × (v ≡ n)
only_file word zero v none (zero, within, is) = (refl, sym is)
only_file word zero v none (suc k, within, is) = absurd (omega (arith, within))
only_file word (suc deep) v none there = absurd (omega (arith, none))

-- all that is seen is `n`
only_n : (word : ℕ) (sight : Sight) (v : Variable) → Sees one (with_word word) sight v → (sight ≡ sight_of 0 (with_word word) n) × (words_at sight.depth (with_word word) v ≡ word ∷ [])
only_n word sight v sees =
    let (deep, is) = only_file word sight.depth v sees.frame sees.there in
    (sees.same ∙ ap (λ d. sight_of d (with_word word) v) deep ∙ ap (sight_of 0 (with_word word)) is, ap (λ d. words_at d (with_word word) v) deep ∙ ap (words_at 0 (with_word word)) is)

only_part : (word part other : ℕ) → slice_get (word ∷ []) part ≡ Some other → (part ≡ 0) × (other ≡ word)
only_part word zero other is = (refl, sym (same_word word other is))
only_part word (suc part) other is = absurd (cc is)

sees_n : (word : ℕ) → Sees one (with_word word) seen n
sees_n word = record { frame = lit≤ tt; there = at_place (variables_at one 0 (with_word word)) n 0 refl; same = refl }

abbrev difference : Difference
difference = HasWord seen 0 8

differs : Differs one 4 (Some (with_word 7)) (with_word 8) difference
differs = (
  (n, sees_n 8, lit< tt, refl),
  λ (v, sees, less, is).
      let (part, word) = only_part 7 0 8 (subst (λ words. slice_get words 0 ≡ Some 8) (only_n 7 seen v sees).1 is) in omega (arith, word),
)

abbrev changes : List Change
changes = Word 0 0 8 ∷ []

tell_differences : TellDifferences one 4 (Some (with_word 7)) (with_word 8) (seen ∷ []) changes
tell_differences = record { sound = All-push P [] (Word 0 0 8) (All-nil P) (difference, refl, differs); complete = complete }
  where
    P : Change → Type 0
    P it = (difference : Difference) × (told (seen ∷ []) it ≡ Some difference) × Differs one 4 (Some (with_word 7)) (with_word 8) difference

    complete : (it : Difference) → Differs one 4 (Some (with_word 7)) (with_word 8) it → Contains (map (told (seen ∷ [])) changes) (Some it)
    complete (HasWord sight part word) ((v, sees, less, is), was) =
        let (same, words) = only_n 8 sight v sees in
        let (part_is, word_is) = only_part 8 part word (subst (λ words. slice_get words part ≡ Some word) words is) in
        let first : slice_get (map (told (seen ∷ [])) changes) 0 ≡ Some (Some (HasWord seen 0 8)) = refl in
        let here : seen ≡ sight_of 0 (with_word 8) n = refl in
        at_place (map (told (seen ∷ [])) changes) (Some (HasWord sight part word)) 0
        (first ∙ ap (λ it. Some (Some (HasWord it 0 8))) (here ∙ sym same) ∙ ap (λ k. Some (Some (HasWord sight k 8))) (sym part_is) ∙ ap (λ w. Some (Some (HasWord sight part w))) (sym word_is))
    complete (IsGone sight) ((v, sees), gone) =
        let (same, words) = only_n 7 sight v sees in
        absurd (gone (n, subst (λ it. Sees one (with_word 8) it n) (sym same) (sees_n 8)))

-- nothing does not tell it
not_nothing : TellDifferences one 4 (Some (with_word 7)) (with_word 8) (seen ∷ []) [] → ⊥
not_nothing tell = let (k, within, is) = tell.complete difference differs in omega (arith, within)

use Rattle.std.proofs.Common.{◌≡◌, ◌++◌, ◌∷◌, [], ◌∙◌, Bool, true, false, List, ℕ, refl, ap, sym, subst, codes, decimal, if◌then◌else◌, map, append-nil, append_assoc}
use Rattle.std.proofs.KnownBytes.{Appends-nil}
use Rattle.std.specs.List.{concat}
use Rattle.std.specs.Prelude.{slice_range}
use Rattle.std.specs.Io.KnownBytes.{Appends}
use Rattle.gang_model.specs.Texts.Text.{Bytes}
use Rattle.json_texts.specs.Json.{list_text}
use Rattle.json_texts.proofs.Listing.{ok_appends, ok_text}
use Rattle.run_page.specs.declared.moments.Call.{Call}
use Rattle.run_page.specs.declared.moments.Moment.{Moment}
use Rattle.run_page.specs.RecordText.{call_text, calls_text, has_same_calls}
use Rattle.run_page.proofs.writing.write_calls.Goals as goal

-- the text of calls where they are not those of the moment before
abbrev other : Moment → (added : List Call) → Bytes
other moment added = concat (codes "," ∷ decimal moment.kept_calls ∷ codes "," ∷ list_text (map call_text added) ∷ [])

-- the calls of the moment before stay, and no other comes
none : (calls : List Call) (before : ℕ) (moment : Moment) → has_same_calls before moment ≡ true → [] ≡ calls_text calls before moment
none calls before moment is = sym (ap (λ (b : Bool). if b then [] else other moment (slice_range calls moment.first_call moment.end_of_calls)) is)

-- others are there
some : (calls : List Call) (before : ℕ) (moment : Moment) (added : List Call) → has_same_calls before moment ≡ false → added ≡ slice_range calls moment.first_call moment.end_of_calls
    → concat (codes "," ∷ decimal moment.kept_calls ∷ codes "," ∷ []) ++ list_text (map call_text added) ≡ calls_text calls before moment
some calls before moment added is e =
    parts (decimal moment.kept_calls) (list_text (map call_text added)) ∙ ap (other moment) e
    ∙ sym (ap (λ (b : Bool). if b then [] else other moment (slice_range calls moment.first_call moment.end_of_calls)) is)
  where
    parts : (a t : Bytes) → concat (codes "," ∷ a ∷ codes "," ∷ []) ++ t ≡ concat (codes "," ∷ a ∷ codes "," ∷ t ∷ [])
    parts a t = simp (append_assoc, append-nil) refl

pub returns-then-has_same_calls-clause-written : goal.returns-then-has_same_calls-clause-written
returns-then-has_same_calls-clause-written g c =
    let written = g.O.AnswerWriter.written c.args.writer.now in
    subst (Appends written written) (none c.args.calls.now c.args.before c.args.moment.now (sym c.has_same_calls.ensures ∙ c.if-has_same_calls.true)) (Appends-nil written)

pub returns-clause-written : goal.returns-clause-written
returns-clause-written g c =
    let moment = c.args.moment.now in
    let added = c.part_of-added.result.now in
    let r = c.write_call_list.result in
    ok_text _ _ _ _ r (some c.args.calls.now c.args.before moment added (sym c.has_same_calls.ensures ∙ c.if-has_same_calls.false) c.part_of-added.ensures)
    (ok_appends _ _ _ r (concat (codes "," ∷ decimal moment.kept_calls ∷ codes "," ∷ [])) (list_text (map call_text added)) c.in_ok-write_parts.ensures.written c.write_call_list.ensures.written)

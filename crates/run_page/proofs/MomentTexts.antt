-- The texts of moments, one after another.
use Rattle.std.proofs.Common.{◌≡◌, ℕ, suc, ◌+◌, ◌<◌, List, [], ◌∷◌, ◌++◌, length, take, get_or, Option, refl, ap, sym, subst, ◌∙◌, append_assoc, codes, arith}
use Rattle.std.proofs.lemmas.List.{length-take-le, take_more}
use Rattle.std.specs.List.{concat}
use Rattle.std.specs.Io.KnownBytes.{Appends}
use Rattle.gang_model.specs.Texts.Text.{Bytes}
use Rattle.json_texts.specs.Json.{comma_before}
use Rattle.json_texts.proofs.Listing.{item_more, joined}
use Rattle.run_page.specs.declared.moments.Call.{Call}
use Rattle.run_page.specs.declared.moments.Moment.{Moment}
use Rattle.run_page.specs.declared.record.Record.{Record}
use Rattle.run_page.specs.declared.variables.Variable.{Variable}
use Rattle.run_page.specs.declared.views.Change.{Change}
use Rattle.run_page.specs.Recording.{changes_of}
use Rattle.run_page.specs.RecordText.{call_count, calls_text, changes_text, moment_text, moment_texts, stand_text}

-- how many calls the last of moments has, where so many were there before
abbrev pub count_after : ℕ → List Moment → ℕ
count_after before [] = before
count_after before (moment ∷ moments) = count_after (call_count moment) moments

count_last : (before : ℕ) (moments : List Moment) (moment : Moment) → count_after before (moments ++ moment ∷ []) ≡ call_count moment
count_last before [] moment = refl
count_last before (first ∷ moments) moment = count_last (call_count first) moments moment

pub count_more : (before : ℕ) (moments : List Moment) (i : ℕ) (d : Moment) → i < length moments → count_after before (take (i + 1) moments) ≡ call_count (get_or moments i d)
count_more before moments i d inside = ap (count_after before) (take_more moments i d inside) ∙ count_last before (take i moments) (get_or moments i d)

module _ (kept : Record) where
  texts_last : (before : ℕ) (moments : List Moment) (moment : Moment) → moment_texts kept before (moments ++ moment ∷ []) ≡ moment_texts kept before moments ++ moment_text kept (count_after before moments) moment ∷ []
  texts_last before [] moment = refl
  texts_last before (first ∷ moments) moment = ap (λ texts. moment_text kept before first ∷ texts) (texts_last (call_count first) moments moment)

  length-texts : (before : ℕ) (moments : List Moment) → length (moment_texts kept before moments) ≡ length moments
  length-texts before [] = refl
  length-texts before (moment ∷ moments) = ap suc (length-texts (call_count moment) moments)

  -- the text of one moment more was written, where so many calls were counted before it
  pub moment_more : (before : ℕ) (moments : List Moment) (i : ℕ) (d : Moment) (counted : ℕ) (a b c e : Option Bytes) → i < length moments → counted ≡ count_after before (take i moments)
      → Appends a b (joined (moment_texts kept before (take i moments))) → Appends b c (comma_before i) → Appends c e (moment_text kept counted (get_or moments i d))
      → Appends a e (joined (moment_texts kept before (take (i + 1) moments)))
  moment_more before moments i d counted a b c e inside same first comma one =
      let long : length (moment_texts kept before (take i moments)) ≡ i = length-texts before (take i moments) ∙ length-take-le i moments (omega (arith, inside)) in
      let there = subst (λ n. Appends c e (moment_text kept n (get_or moments i d))) same one in
      subst (λ texts. Appends a e (joined texts)) (sym (ap (moment_texts kept before) (take_more moments i d inside) ∙ texts_last before (take i moments) (get_or moments i d)))
      (item_more (moment_texts kept before (take i moments)) i (moment_text kept (count_after before (take i moments)) (get_or moments i d)) a b c e long first comma there)

-- the text of a moment in four parts
pub moment_parts : (kept : Record) (before : ℕ) (moment : Moment) (changes : List Change) (variables : List Variable) (calls : List Call)
    → changes ≡ changes_of kept.changes.items moment → variables ≡ kept.variables.items → calls ≡ kept.calls.items
    → concat (codes "\n[" ∷ stand_text moment.stand ∷ codes "," ∷ []) ++ (changes_text variables changes ++ (calls_text calls before moment ++ codes "]")) ≡ moment_text kept before moment
moment_parts kept before moment changes variables calls e f g =
    rw (e, f, g) (ap (λ t. codes "\n[" ++ t) (append_assoc (stand_text moment.stand) (codes ",") (changes_text kept.variables.items (changes_of kept.changes.items moment) ++ (calls_text kept.calls.items before moment ++ codes "]"))))

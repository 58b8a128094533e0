-- The reference that a reply was given opens the text of which it told the value.
use Rattle.std.proofs.Common.{◌≡◌, ap, ◌∙◌, ℕ, List, Option, Some, None}
use Rattle.std.specs.Prelude.{option_and_then}
use Rattle.std.specs.List.{slice_get}
use Rattle.gang_model.specs.Texts.Text.{Bytes}
use Rattle.adapter_replies.specs.References.{expression_index, place_of}
use Rattle.opened_texts.specs.Texts.{place_noted}
use Rattle.opened_texts.proofs.Laws.{stands, stays}
use Rattle.adapter_server.specs.Opening.{text_at, with_opened}

module _ (text : ℕ × Bytes) (old new : List (ℕ × Bytes)) where
  pub opens_its_text : (index reference : ℕ) → place_noted text.0 text.1 old ≡ Some index → expression_index (place_of reference) ≡ Some index → new ≡ with_opened (Some text) old → text_at reference new ≡ Some text
  opens_its_text index reference has is noted =
      ap (option_and_then (slice_get new)) is ∙ ap (λ texts. slice_get texts index) noted ∙ stands text.0 text.1 old index has

  still_there : (index : Option ℕ) (other : ℕ × Bytes) → option_and_then (slice_get old) index ≡ Some other → new ≡ with_opened (Some text) old → option_and_then (slice_get new) index ≡ Some other
  still_there (Some index) other there noted = ap (λ texts. slice_get texts index) noted ∙ stays text.0 text.1 old index other there
  still_there None other there noted = absurd (cc)

  -- and a reference that was given before goes on opening its own
  pub goes_on : (reference : ℕ) (other : ℕ × Bytes) → text_at reference old ≡ Some other → new ≡ with_opened (Some text) old → text_at reference new ≡ Some other
  goes_on reference other there noted = still_there (expression_index (place_of reference)) other there noted

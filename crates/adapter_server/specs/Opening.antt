-- Expressions whose values an editor opens: the texts that have a place, and what is told of their lanes.
use Rattle.std.specs.Prelude.{◌≡◌, ◌⊎◌, ℕ, Bool, List, slice_get, Option, Some, None, option_and_then}
use Rattle.gang_model.specs.Debugger.Debugger.{Debugger, Setting}
use Rattle.gang_model.specs.Texts.Text.{Bytes}
use Rattle.adapter_requests.specs.declared.reply.Reply.{Reply}
use Rattle.adapter_requests.specs.declared.request.Page.{Page}
use Rattle.adapter_requests.specs.declared.request.Request.{Request}
use Rattle.adapter_replies.specs.Children.{AreChildrenTold, IsOpenedOf, with_reference}
use Rattle.adapter_replies.specs.Forms.{form_if}
use Rattle.adapter_replies.specs.References.{expression_index, place_of}
use Rattle.opened_texts.specs.Texts.{noted, place_noted}

-- ---- what opens of a reply

-- the place of an expression among the texts, each with the depth of its frame
abbrev pub place_opened : (opened : Option (ℕ × Bytes)) → List (ℕ × Bytes) → Option ℕ
place_opened None texts = None
place_opened (Some text) texts = place_noted text.0 text.1 texts

-- the texts with it
abbrev pub with_opened : (opened : Option (ℕ × Bytes)) → List (ℕ × Bytes) → List (ℕ × Bytes)
with_opened None texts = texts
with_opened (Some text) texts = noted text.0 text.1 texts

-- a reply was given the reference of a place, if there is one
abbrev pub HasPlace : Option ℕ → (told given : Reply) → Type 0
HasPlace None told given = given ≡ told
HasPlace (Some index) told given = (reference : ℕ) × (expression_index (place_of reference) ≡ Some index) × (given ≡ with_reference reference told)

-- what opens of a reply to a request was noted, and this is its place
pub record NotesOpened (s : Setting) (d : Debugger) (request : Request) (told : Reply) (old : List (ℕ × Bytes)) (index : Option ℕ) (new : List (ℕ × Bytes)) : Type 0 where
  pub opened : Option (ℕ × Bytes)
  pub is : IsOpenedOf s d request told opened
  pub place : index ≡ place_opened opened old
  pub texts : new ≡ with_opened opened old

-- and the reply was given its reference
pub record Opens (s : Setting) (d : Debugger) (request : Request) (told : Reply) (old : List (ℕ × Bytes)) (given : Reply) (new : List (ℕ × Bytes)) : Type 0 where
  pub index : Option ℕ
  pub notes : NotesOpened s d request told old index new
  pub has : HasPlace index told given

-- or memory was wanting to see what opens, and nothing changed
abbrev pub MayOpen : Setting → Debugger → Request → (told : Reply) → (old : List (ℕ × Bytes)) → (given : Reply) → (new : List (ℕ × Bytes)) → Type 0
MayOpen s d request told old given new = ((given ≡ told) × (new ≡ old)) ⊎ Opens s d request told old given new

-- ---- its lanes

-- the text whose value a reference opens
abbrev pub text_at : (reference : ℕ) → List (ℕ × Bytes) → Option (ℕ × Bytes)
text_at reference texts = option_and_then (slice_get texts) (expression_index (place_of reference))

-- what is told of the lanes of its value, as it is now; nothing where there is no text
abbrev pub AreChildrenAt : Setting → Debugger → (text : Option (ℕ × Bytes)) → (is_hexadecimal : Bool) → Page → (told : Option Reply) → Type 0
AreChildrenAt s d None is_hexadecimal page told = told ≡ None
AreChildrenAt s d (Some text) is_hexadecimal page None = ⊥
AreChildrenAt s d (Some text) is_hexadecimal page (Some told) = AreChildrenTold s d text.0 text.1 (form_if is_hexadecimal) page told

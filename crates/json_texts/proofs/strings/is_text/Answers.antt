use Rattle.std.proofs.Common.{◌≡◌, ◌∙◌, Bool, true, false, List, ℕ, Result, Ok, Err, is_ok, MatchResult, refl, sym}
use Rattle.std.proofs.lemmas.Str.{IsUtf8-from_is_utf8, is_utf8-from_IsUtf8}
use Rattle.std.specs.Str.{IsUtf8, is_utf8}
use Rattle.json_texts.proofs.strings.is_text.Goals as goal

decided : {A E : Type 0} (bytes : List ℕ) (read : Result A E) (P : A → Type 0) (Q : E → Type 0) → MatchResult read (λ s. P s × IsUtf8 bytes) (λ e. (¬ (IsUtf8 bytes)) × Q e) → is_ok read ≡ is_utf8 bytes
decided bytes (Ok s) P Q is = sym (is_utf8-from_IsUtf8 bytes is.1)
decided bytes (Err e) P Q is = test (is_utf8 bytes) refl
  where
    test : (b : Bool) → is_utf8 bytes ≡ b → false ≡ is_utf8 bytes
    test true text = absurd (is.0 (IsUtf8-from_is_utf8 bytes text))
    test false none = sym none

pub returns : goal.returns
returns c = c.is_ok.ensures.value ∙ decided c.args.bytes.now c.from_utf8.result _ _ c.from_utf8.ensures.cases

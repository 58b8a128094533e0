-- Names that are completed one after another.
use Rattle.std.proofs.Common.{◌≡◌, ℕ, ◌+◌, ◌-◌, ◌<◌, List, [], ◌∷◌, ◌++◌, map, drop, length, take, get_or, ap, sym, ◌∙◌, append_assoc}
use Rattle.std.specs.Prelude.{nat_eq, string_bytes}
use Rattle.std.specs.List.{filter, starts_with}
use Rattle.std.proofs.lemmas.List.{map-append, map_more}
use Rattle.std.proofs.lemmas.List.Elements.{filter-append}
use Rattle.gang_model.specs.Texts.Text.{Bytes}
use Rattle.adapter_requests.specs.declared.reply.Variable.{Variable}
use Rattle.adapter_replies.specs.Completions.{ToldCompletion, completed, in_place, names_of}
use Rattle.adapter_replies.specs.Variables.{variable_view}

-- those of names and of others
completed_then : (front : Bytes) (many : ℕ) (names others : List Bytes) → completed front many (names ++ others) ≡ completed front many names ++ completed front many others
completed_then front many names others =
    let begins = λ (name : Bytes). starts_with nat_eq name (drop (length front - many) front) in
    ap (map (in_place front many)) (filter-append begins names others)
    ∙ map-append (in_place front many) (filter begins names) (filter begins others)

-- those of some names and of one more
pub completed_next : (front : Bytes) (many : ℕ) (before after : List Bytes) (name : Bytes) (start old new : List ToldCompletion) → after ≡ before ++ name ∷ [] → old ≡ start ++ completed front many before
    → new ≡ old ++ completed front many (name ∷ []) → new ≡ start ++ completed front many after
completed_next front many before after name start old new is so more =
    more
    ∙ ap (λ made. made ++ completed front many (name ∷ [])) so
    ∙ append_assoc start (completed front many before) (completed front many (name ∷ []))
    ∙ ap (λ made. start ++ made) (sym (completed_then front many before (name ∷ [])))
    ∙ ap (λ names. start ++ completed front many names) (sym is)

-- the names of the variables up to an index and of the one there
pub names_next : (vs : List Variable) (i : ℕ) (v : Variable) → i < length vs → v ≡ get_or vs i v
    → names_of (map variable_view (take (i + 1) vs)) ≡ names_of (map variable_view (take i vs)) ++ string_bytes v.name ∷ []
names_next vs i v within is =
    ap names_of (map_more variable_view vs i v within)
    ∙ map-append (λ told. told.name) (map variable_view (take i vs)) (variable_view (get_or vs i v) ∷ [])
    ∙ ap (λ it. names_of (map variable_view (take i vs)) ++ string_bytes it.name ∷ []) (sym is)

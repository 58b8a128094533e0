-- What is read of each of a list, one after another.
use Rattle.std.proofs.Common.{◌≡◌, ℕ, ◌+◌, ◌<◌, List, [], ◌∷◌, ◌++◌, map, length, take, get_or, Result, refl, ap, sym, ◌∙◌}
use Rattle.std.proofs.lemmas.List.{map-append, map_more}
use Rattle.serde_json.specs.Data.{Data}
use Rattle.serde_json.specs.View.{items_of, view}
use Rattle.serde_json.specs.declared.value.Value.{Value}
use Rattle.adapter_requests.specs.declared.reply.BreakpointFault.{BreakpointFault}
use Rattle.adapter_messages.specs.Arguments.{each_asked}

-- one more at the end
pub asked_more : {A : Type 0} (read : Data → Result A BreakpointFault) (ds : List Data) (d : Data) → each_asked read (items_of (ds ++ d ∷ [])) ≡ each_asked read (items_of ds) ++ read d ∷ []
asked_more read [] d = refl
asked_more read (first ∷ ds) d = ap (λ others. read first ∷ others) (asked_more read ds d)

-- what the elements up to an index and the one there ask for
pub asked_next : {A : Type 0} (read : Data → Result A BreakpointFault) (vs : List Value) (i : ℕ) (v : Value) (old new : List (Result A BreakpointFault)) (one : Result A BreakpointFault) → i < length vs
    → v ≡ get_or vs i v → old ≡ each_asked read (items_of (map view (take i vs))) → one ≡ read (view v) → new ≡ old ++ one ∷ []
    → new ≡ each_asked read (items_of (map view (take (i + 1) vs)))
asked_next read vs i v old new one within is so one_is new_is =
    new_is
    ∙ ap (λ front. front ++ one ∷ []) so
    ∙ ap (λ last. each_asked read (items_of (map view (take i vs))) ++ last ∷ []) (one_is ∙ ap (λ w. read (view w)) is)
    ∙ sym (asked_more read (map view (take i vs)) (view (get_or vs i v)))
    ∙ sym (ap (λ ds. each_asked read (items_of ds)) (map_more view vs i v within))

-- what is shown for the elements up to an index and for the one there, at any default
pub shown_at : {A : Type 0} (shown : A → Data) (xs : List A) (i : ℕ) (d : A) (vs new : List Value) (v : Value) → i < length xs
    → map view vs ≡ map shown (take i xs) → view v ≡ shown (get_or xs i d) → new ≡ vs ++ v ∷ [] → map view new ≡ map shown (take (i + 1) xs)
shown_at shown xs i d vs new v within so shown_is new_is =
    ap (map view) new_is
    ∙ map-append view vs (v ∷ [])
    ∙ ap (λ ds. ds ++ view v ∷ []) so
    ∙ ap (λ y. map shown (take i xs) ++ y ∷ []) shown_is
    ∙ sym (map_more shown xs i d within)

-- the same for an element that is read
pub shown_next : {A : Type 0} (shown : A → Data) (xs : List A) (i : ℕ) (x : A) (vs new : List Value) (v : Value) → i < length xs → x ≡ get_or xs i x
    → map view vs ≡ map shown (take i xs) → view v ≡ shown x → new ≡ vs ++ v ∷ [] → map view new ≡ map shown (take (i + 1) xs)
shown_next shown xs i x vs new v within is so shown_is new_is = shown_at shown xs i x vs new v within so (shown_is ∙ ap shown is) new_is

-- What is listed where an inner declaration hides an outer one: each name keeps its declaration.
use Rattle.std.proofs.Common.{Bool, true, false, cond, List, [], ◌∷◌, ◌++◌, Option, Some, None, ◌≡◌, refl, sym, ap, ◌∙◌}
use Rattle.std.specs.Prelude.{not, filter, if◌then◌else◌}
use Rattle.gang_types.specs.declared.places.VarId.{VarId}
use Rattle.gang_model.specs.Source.Names.{same_text}
use Rattle.gang_model.specs.Source.Parsed.{Name}
use Rattle.gang_model.specs.Names.Scope.{Binding, Environment, declaration, unhidden}
use Rattle.gang_model.proofs.SameTexts.{same_text-equal}

-- the declarations that one of this name does not hide
abbrev pub others : Name → List Binding → List Binding
others name bs = filter (λ c. not (same_text c.name name)) bs

kept : (t : Bool) (b : Binding) (bs : List Binding) (name : Name) → same_text b.name name ≡ t → declaration bs name ≡ None → declaration (cond (not t) (b ∷ bs) bs) name ≡ None
kept true b bs name e h = h
kept false b bs name e h = ap (λ t. if t then Some b.id else declaration bs name) e ∙ h

-- the name itself is gone
pub declaration-others_same : (bs : List Binding) (name : Name) → declaration (others name bs) name ≡ None
declaration-others_same [] name = refl
declaration-others_same (b ∷ bs) name = kept (same_text b.name name) b (others name bs) name refl (declaration-others_same bs name)

stays : (t : Bool) (b : Binding) (bs more : List Binding) (hider name : Name) → same_text b.name hider ≡ t → same_text hider name ≡ false → declaration bs name ≡ declaration more name
    → declaration (cond (not t) (b ∷ bs) bs) name ≡ declaration (b ∷ more) name
stays true b bs more hider name e other h =
    h ∙ sym (ap (λ t. if t then Some b.id else declaration more name) (ap (λ x. same_text x name) (same_text-equal b.name hider e) ∙ other))
stays false b bs more hider name e other h = ap (λ o. if same_text b.name name then Some b.id else o) h

-- any other name keeps its declaration
pub declaration-others_apart : (bs : List Binding) (hider name : Name) → same_text hider name ≡ false → declaration (others hider bs) name ≡ declaration bs name
declaration-others_apart [] hider name other = refl
declaration-others_apart (b ∷ bs) hider name other = stays (same_text b.name hider) b (others hider bs) bs hider name refl other (declaration-others_apart bs hider name other)

-- the first declaration that there is
abbrev pub or_else : Option VarId → Option VarId → Option VarId
or_else (Some id) other = Some id
or_else None other = other

or_else-cond : (t : Bool) (id : VarId) (o other : Option VarId) → (if t then Some id else or_else o other) ≡ or_else (if t then Some id else o) other
or_else-cond true id o other = refl
or_else-cond false id o other = refl

pub declaration-append : (bs cs : List Binding) (name : Name) → declaration (bs ++ cs) name ≡ or_else (declaration bs name) (declaration cs name)
declaration-append [] cs name = refl
declaration-append (b ∷ bs) cs name =
    ap (λ o. if same_text b.name name then Some b.id else o) (declaration-append bs cs name)
    ∙ or_else-cond (same_text b.name name) b.id (declaration bs name) (declaration cs name)

or_else-none : (o : Option VarId) → or_else o None ≡ o
or_else-none (Some id) = refl
or_else-none None = refl

last_of : (t : Bool) (b : Binding) (bs : List Binding) (name : Name) → same_text b.name name ≡ t
    → or_else (declaration (others b.name bs) name) (if t then Some b.id else None) ≡ (if t then Some b.id else declaration bs name)
last_of true b bs name e =
    let gone : declaration (others b.name bs) name ≡ None = ap (λ x. declaration (others x bs) name) (same_text-equal b.name name e) ∙ declaration-others_same bs name in
    ap (λ o. or_else o (Some b.id)) gone
last_of false b bs name e = or_else-none (declaration (others b.name bs) name) ∙ declaration-others_apart bs b.name name e

-- each name keeps its innermost declaration in the list without the hidden ones
pub declaration-unhidden : (environment : Environment) (name : Name) → declaration (unhidden environment) name ≡ declaration environment name
declaration-unhidden [] name = refl
declaration-unhidden (b ∷ environment) name =
    declaration-append (others b.name (unhidden environment)) (b ∷ []) name
    ∙ last_of (same_text b.name name) b (unhidden environment) name refl
    ∙ ap (λ o. if same_text b.name name then Some b.id else o) (declaration-unhidden environment name)

-- Two functions have the same signature where they have the same text of it.
use Rattle.std.proofs.Common.{◌≡◌, ℕ, List, [], ◌∷◌, ◌++◌, Bool, true, false, ◌&&◌, map, refl, sym, ap, ◌∙◌, append_assoc}
use Rattle.std.specs.Prelude.{◌==◌, is_none, if◌then◌else◌}
use Rattle.gang_types.specs.Values.{width, is_signed}
use Rattle.gang_model.specs.Source.Names.{same_text}
use Rattle.gang_model.specs.Source.Parsed.{Name, ParsedParam, ParsedFunction}
use Rattle.gang_model.specs.Types.Conversions.{same_bool, same_rate, is_varying}
use Rattle.gang_model.specs.Types.Signatures.{declared_type, declared_rate, same_params, same_signature}
use Rattle.source_tree.specs.declared.tree.Param.{Param}
use Rattle.source_tree.specs.Tree.{param_view}
use Rattle.ispc_names_declarations.specs.SignatureKeys.{digit, key_with, param_key, signature_key}

same_digit : (a b : Bool) → (digit a == digit b) ≡ same_bool a b
same_digit true true = refl
same_digit true false = refl
same_digit false true = refl
same_digit false false = refl

abbrev void_digit : Bool → ℕ
void_digit b = if b then 2 else 1

same_void : (a b : Bool) → (void_digit a == void_digit b) ≡ same_bool a b
same_void true true = refl
same_void true false = refl
same_void false true = refl
same_void false false = refl

never_0 : (a : Bool) → (0 == void_digit a) ≡ false
never_0 true = refl
never_0 false = refl

never_0' : (a : Bool) → (void_digit a == 0) ≡ false
never_0' true = refl
never_0' false = refl

and_false : (a : Bool) → false ≡ (a && false)
and_false true = refl
and_false false = refl

and_true : (a : Bool) → a ≡ (a && true)
and_true true = refl
and_true false = refl

-- five tests in a row, then the rest
five : (t1 t2 t3 t4 t5 n r : Bool)
    → (if t1 then (if t2 then (if t3 then (if t4 then (if t5 then (n && r) else false) else false) else false) else false) else false)
    ≡ (n && (((t1 && (t2 && t3)) && (t4 && t5)) && r))
five true true true true true n r = refl
five true true true true false n r = and_false n
five true true true false t5 n r = and_false n
five true true false t4 t5 n r = and_false n
five true false t3 t4 t5 n r = and_false n
five false t2 t3 t4 t5 n r = and_false n

abbrev tests : (t1 t2 t3 t4 t5 rest : Bool) → Bool
tests t1 t2 t3 t4 t5 rest = if t1 then (if t2 then (if t3 then (if t4 then (if t5 then rest else false) else false) else false) else false) else false

pub same_key_with : (params others : List ParsedParam) (n m : Name) → same_text (key_with params n) (key_with others m) ≡ (same_text n m && same_params params others)
same_key_with [] [] n m = and_true (same_text n m)
same_key_with [] (q ∷ others) n m =
    ap (λ t. if t then same_text n (width (declared_type q.spec.value_type) ∷ digit (is_signed (declared_type q.spec.value_type)) ∷ digit (is_varying (declared_rate q.spec.rate)) ∷ digit q.is_array ∷ key_with others m) else false)
    (never_0 (is_none q.spec.value_type))
    ∙ and_false (same_text n m)
same_key_with (p ∷ params) [] n m =
    ap (λ t. if t then same_text (width (declared_type p.spec.value_type) ∷ digit (is_signed (declared_type p.spec.value_type)) ∷ digit (is_varying (declared_rate p.spec.rate)) ∷ digit p.is_array ∷ key_with params n) m else false)
    (never_0' (is_none p.spec.value_type))
    ∙ and_false (same_text n m)
same_key_with (p ∷ params) (q ∷ others) n m =
    let t1 = void_digit (is_none p.spec.value_type) == void_digit (is_none q.spec.value_type) in
    let t2 = width (declared_type p.spec.value_type) == width (declared_type q.spec.value_type) in
    let t3 = digit (is_signed (declared_type p.spec.value_type)) == digit (is_signed (declared_type q.spec.value_type)) in
    let t4 = digit (is_varying (declared_rate p.spec.rate)) == digit (is_varying (declared_rate q.spec.rate)) in
    let t5 = digit p.is_array == digit q.is_array in
    let u1 = same_bool (is_none p.spec.value_type) (is_none q.spec.value_type) in
    let u3 = same_bool (is_signed (declared_type p.spec.value_type)) (is_signed (declared_type q.spec.value_type)) in
    let u4 = same_rate (declared_rate p.spec.rate) (declared_rate q.spec.rate) in
    let u5 = same_bool p.is_array q.is_array in
    let r = same_text (key_with params n) (key_with others m) in
    ap (λ t. tests t t2 t3 t4 t5 r) (same_void (is_none p.spec.value_type) (is_none q.spec.value_type))
    ∙ (ap (λ t. tests u1 t2 t t4 t5 r) (same_digit (is_signed (declared_type p.spec.value_type)) (is_signed (declared_type q.spec.value_type)))
    ∙ (ap (λ t. tests u1 t2 u3 t t5 r) (same_digit (is_varying (declared_rate p.spec.rate)) (is_varying (declared_rate q.spec.rate)))
    ∙ (ap (λ t. tests u1 t2 u3 u4 t r) (same_digit p.is_array q.is_array)
    ∙ (ap (λ t. tests u1 t2 u3 u4 u5 t) (same_key_with params others n m)
    ∙ five u1 t2 u3 u4 u5 (same_text n m) (same_params params others)))))

pub same_key : (f g : ParsedFunction) → same_text (signature_key f) (signature_key g) ≡ same_signature f g
same_key f g = same_key_with f.params g.params f.name g.name

-- one more parameter
pub key_passed : (rest later : List Param) (p : Param) (name : Name) (found more all : List ℕ) → rest ≡ p ∷ later → found ++ key_with (map param_view rest) name ≡ all
    → more ≡ found ++ param_key (param_view p) → more ++ key_with (map param_view later) name ≡ all
key_passed rest later p name found more all split t m =
    ap (λ k. k ++ key_with (map param_view later) name) m
    ∙ (append_assoc found (param_key (param_view p)) (key_with (map param_view later) name)
    ∙ (ap (λ ps. found ++ key_with (map param_view ps) name) (sym split) ∙ t))

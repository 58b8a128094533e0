use Rattle.std.proofs.Common.{◌≡◌, ◌∙◌, ◌++◌, Bool, take, ap, subst, codes, arith}
use Rattle.std.proofs.lemmas.List.{take_all}
use Rattle.std.proofs.KnownBytes.{Appends-trans}
use Rattle.std.specs.Prelude.{flat_map}
use Rattle.std.specs.Io.KnownBytes.{Appends}
use Rattle.std.specs.Str.{is_utf8}
use Rattle.json_texts.specs.Json.{byte_text}
use Rattle.json_texts.proofs.Listing.{ok_appends, written_ok}
use Rattle.json_texts.proofs.strings.write_string.Goals as goal

pub returns-clause-written : goal.returns-clause-written
returns-clause-written g c =
    let bytes = c.args.bytes.now in
    let all : flat_map (byte_text c.is_text-is_text.result) (take c.loop-byte.byte-index bytes) ≡ flat_map (byte_text (is_utf8 bytes)) bytes =
    ap (λ (b : Bool). flat_map (byte_text b) (take c.loop-byte.byte-index bytes)) c.is_text-is_text.ensures ∙ ap (flat_map (byte_text (is_utf8 bytes))) (take_all c.loop-byte.byte-index bytes (omega (arith, c.loop-byte-test.false))) in
    ok_appends _ _ _ c.write_all-2.result (codes "\"" ++ flat_map (byte_text (is_utf8 bytes)) bytes) (codes "\"")
    (Appends-trans _ _ _ (codes "\"") _ c.in_ok-write_all.ensures.0 (subst (Appends _ _) all c.loop-byte.invariant.0)) (written_ok (codes "\"") _ _ _ c.write_all-2.result c.write_all-2.ensures)

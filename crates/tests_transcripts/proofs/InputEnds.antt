-- The ends of each type in an input, and the numbers beyond them.
use Rattle.std.specs.Prelude.{◌≡◌, refl, true, false, [], ◌∷◌, Some, None, codes}
use Rattle.std.specs.Fmt.{digits}
use Rattle.gang_types.specs.Values.{value_of, residue, word_of, value_in, wrapped, binary_of}
use Rattle.gang_types.specs.declared.types.Rate.TheVariants.{Uniform}
use Rattle.gang_types.specs.declared.types.IntType.TheVariants as t
use Rattle.gang_model.specs.declared.forms.GlobalForm.TheVariants.{Plain}
use Rattle.gang_model.specs.Source.Parsed.{ParsedLast, ParsedSource}
use Rattle.tests_transcripts.proofs.Forms.{at, spec, function, file_variable, options, run}

-- uniform bool b;
-- uniform int8 c;
-- uniform int16 s;
-- uniform int i;
-- uniform int64 l;
-- uniform uint8 d;
-- uniform uint16 t;
-- uniform uint32 j;
-- uniform uint64 m;
-- export void go() { }
abbrev pub source : ParsedSource
source =
    (file_variable (at 1 14) (codes "b") (spec false false false false (Some Uniform) (Some t.Bool)) Plain) ∷
    (file_variable (at 2 14) (codes "c") (spec false false false false (Some Uniform) (Some t.Int8)) Plain) ∷
    (file_variable (at 3 15) (codes "s") (spec false false false false (Some Uniform) (Some t.Int16)) Plain) ∷
    (file_variable (at 4 13) (codes "i") (spec false false false false (Some Uniform) (Some t.Int32)) Plain) ∷
    (file_variable (at 5 15) (codes "l") (spec false false false false (Some Uniform) (Some t.Int64)) Plain) ∷
    (file_variable (at 6 15) (codes "d") (spec false false false false (Some Uniform) (Some t.Uint8)) Plain) ∷
    (file_variable (at 7 16) (codes "t") (spec false false false false (Some Uniform) (Some t.Uint16)) Plain) ∷
    (file_variable (at 8 16) (codes "j") (spec false false false false (Some Uniform) (Some t.Uint32)) Plain) ∷
    (file_variable (at 9 16) (codes "m") (spec false false false false (Some Uniform) (Some t.Uint64)) Plain) ∷
    (function (at 10 13) (codes "go") (spec true false false false None None) ([])
    ParsedLast (at 10 20)) ∷ []

row_1 : run source (codes "b = 0\nc = -128\ns = -32768\ni = -2147483648\nl = -9223372036854775808\nd = 0\nt = 0\nj = 0\nm = 0") (options 4 64 1000000)
    (codes "print c\nprint s\nprint i\nprint l\n")
    ≡ codes "c = -128\ns = -32768\ni = -2147483648\nl = -9223372036854775808\n"
unfolding digits value_of residue word_of value_in wrapped binary_of
row_1 = refl

row_2 : run source (codes "b = 1\nc = 127\ns = 32767\ni = 2147483647\nl = 9223372036854775807\nd = 255\nt = 65535\nj = 4294967295\nm = 18446744073709551615") (options 4 64 1000000)
    (codes "print b\nprint c\nprint s\nprint i\nprint l\nprint d\nprint t\nprint j\nprint m\n")
    ≡ codes "b = true\nc = 127\ns = 32767\ni = 2147483647\nl = 9223372036854775807\nd = 255\nt = 65535\nj = 4294967295\nm = 18446744073709551615\n"
unfolding digits value_of residue word_of value_in wrapped binary_of
row_2 = refl

row_3 : run source (codes "b = 2") (options 4 64 1000000)
    (codes "")
    ≡ codes "input 1: I3 Range\n"
unfolding digits value_of residue word_of value_in wrapped binary_of
row_3 = refl

row_4 : run source (codes "b = -1") (options 4 64 1000000)
    (codes "")
    ≡ codes "input 1: I3 Range\n"
unfolding digits value_of residue word_of value_in wrapped binary_of
row_4 = refl

row_5 : run source (codes "c = 128") (options 4 64 1000000)
    (codes "")
    ≡ codes "input 1: I3 Range\n"
unfolding digits value_of residue word_of value_in wrapped binary_of
row_5 = refl

row_6 : run source (codes "c = -129") (options 4 64 1000000)
    (codes "")
    ≡ codes "input 1: I3 Range\n"
unfolding digits value_of residue word_of value_in wrapped binary_of
row_6 = refl

row_7 : run source (codes "s = 32768") (options 4 64 1000000)
    (codes "")
    ≡ codes "input 1: I3 Range\n"
unfolding digits value_of residue word_of value_in wrapped binary_of
row_7 = refl

row_8 : run source (codes "s = -32769") (options 4 64 1000000)
    (codes "")
    ≡ codes "input 1: I3 Range\n"
unfolding digits value_of residue word_of value_in wrapped binary_of
row_8 = refl

row_9 : run source (codes "i = 2147483648") (options 4 64 1000000)
    (codes "")
    ≡ codes "input 1: I3 Range\n"
unfolding digits value_of residue word_of value_in wrapped binary_of
row_9 = refl

row_10 : run source (codes "i = -2147483649") (options 4 64 1000000)
    (codes "")
    ≡ codes "input 1: I3 Range\n"
unfolding digits value_of residue word_of value_in wrapped binary_of
row_10 = refl

row_11 : run source (codes "l = 9223372036854775808") (options 4 64 1000000)
    (codes "")
    ≡ codes "input 1: I3 Range\n"
unfolding digits value_of residue word_of value_in wrapped binary_of
row_11 = refl

row_12 : run source (codes "l = -9223372036854775809") (options 4 64 1000000)
    (codes "")
    ≡ codes "input 1: I3 Range\n"
unfolding digits value_of residue word_of value_in wrapped binary_of
row_12 = refl

row_13 : run source (codes "d = 256") (options 4 64 1000000)
    (codes "")
    ≡ codes "input 1: I3 Range\n"
unfolding digits value_of residue word_of value_in wrapped binary_of
row_13 = refl

row_14 : run source (codes "d = -1") (options 4 64 1000000)
    (codes "")
    ≡ codes "input 1: I3 Range\n"
unfolding digits value_of residue word_of value_in wrapped binary_of
row_14 = refl

row_15 : run source (codes "t = 65536") (options 4 64 1000000)
    (codes "")
    ≡ codes "input 1: I3 Range\n"
unfolding digits value_of residue word_of value_in wrapped binary_of
row_15 = refl

row_16 : run source (codes "t = -1") (options 4 64 1000000)
    (codes "")
    ≡ codes "input 1: I3 Range\n"
unfolding digits value_of residue word_of value_in wrapped binary_of
row_16 = refl

row_17 : run source (codes "j = 4294967296") (options 4 64 1000000)
    (codes "")
    ≡ codes "input 1: I3 Range\n"
unfolding digits value_of residue word_of value_in wrapped binary_of
row_17 = refl

row_18 : run source (codes "j = -1") (options 4 64 1000000)
    (codes "")
    ≡ codes "input 1: I3 Range\n"
unfolding digits value_of residue word_of value_in wrapped binary_of
row_18 = refl

row_19 : run source (codes "m = 18446744073709551616") (options 4 64 1000000)
    (codes "")
    ≡ codes "input 1: I3 Range\n"
unfolding digits value_of residue word_of value_in wrapped binary_of
row_19 = refl

row_20 : run source (codes "m = -1") (options 4 64 1000000)
    (codes "")
    ≡ codes "input 1: I3 Range\n"
unfolding digits value_of residue word_of value_in wrapped binary_of
row_20 = refl

-- Heads of functions, and parts of names, computed.
use Rattle.std.proofs.Common.{◌≡◌, refl, true, false}
use Rattle.std.specs.Prelude.{None, Some, codes}
use Rattle.prompt_lines.specs.Heads.{function_head, has_part}

-- the head of a line's second function
second_row : function_head (codes "int one() { return 1; } int two(int n) {\n") (codes "two") ≡ Some (record { line = 1; text = codes "int two(int n)" })
second_row = refl

-- a head goes on up to the end of its line
parted_row : function_head (codes "int x;\nexport void go(int n,\n    int m)\n{ }\n") (codes "go") ≡ Some (record { line = 2; text = codes "export void go(int n," })
parted_row = refl

called_row : function_head (codes "void go() { two(1); }\n") (codes "two") ≡ None
called_row = refl

inside_row : has_part (codes "wi") (codes "twice") ≡ true
inside_row = refl

at_end_row : has_part (codes "ce") (codes "twice") ≡ true
at_end_row = refl

none_row : has_part (codes "wic ") (codes "twice") ≡ false
none_row = refl

every_row : has_part (codes "") (codes "twice") ≡ true
every_row = refl

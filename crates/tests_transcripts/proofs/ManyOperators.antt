-- 256 operators in one expression.
use Rattle.std.specs.Prelude.{◌≡◌, refl, true, false, [], ◌∷◌, Some, None, codes}
use Rattle.std.specs.Fmt.{digits}
use Rattle.gang_types.specs.Values.{value_of, residue, word_of, value_in, wrapped, binary_of}
use Rattle.gang_types.specs.declared.types.IntType.TheVariants as t
use Rattle.gang_types.specs.declared.operators.BinaryOp.TheVariants as op
use Rattle.gang_model.specs.declared.forms.Infix.TheVariants.{Op}
use Rattle.gang_model.specs.Source.Parsed.{ParsedNumber, ParsedBinary, ParsedDeclare, ParsedLast, ParsedNext, ParsedSource}
use Rattle.tests_transcripts.proofs.Forms.{at, spec, function, options, run}

-- export void go() { int x = 1 + 1 + 1 + 1 + 1 + 1 + 1 + 1 + 1 + 1 + 1 + 1 + 1 + 1 + 1 + 1 + 1 + 1 + 1 + 1 + 1 + 1 + 1 + 1 + 1 + 1 + 1 + 1 + 1 + 1 + 1 + 1 + 1 + 1 + 1 + 1 + 1 + 1 + 1 + 1 + 1 + 1 + 1 + 1 + 1 + 1 + 1 + 1 + 1 + 1 + 1 + 1 + 1 + 1 + 1 + 1 + 1 + 1 + 1 + 1 + 1 + 1 + 1 + 1 + 1 + 1 + 1 + 1 + 1 + 1 + 1 + 1 + 1 + 1 + 1 + 1 + 1 + 1 + 1 + 1 + 1 + 1 + 1 + 1 + 1 + 1 + 1 + 1 + 1 + 1 + 1 + 1 + 1 + 1 + 1 + 1 + 1 + 1 + 1 + 1 + 1 + 1 + 1 + 1 + 1 + 1 + 1 + 1 + 1 + 1 + 1 + 1 + 1 + 1 + 1 + 1 + 1 + 1 + 1 + 1 + 1 + 1 + 1 + 1 + 1 + 1 + 1 + 1 + 1 + 1 + 1 + 1 + 1 + 1 + 1 + 1 + 1 + 1 + 1 + 1 + 1 + 1 + 1 + 1 + 1 + 1 + 1 + 1 + 1 + 1 + 1 + 1 + 1 + 1 + 1 + 1 + 1 + 1 + 1 + 1 + 1 + 1 + 1 + 1 + 1 + 1 + 1 + 1 + 1 + 1 + 1 + 1 + 1 + 1 + 1 + 1 + 1 + 1 + 1 + 1 + 1 + 1 + 1 + 1 + 1 + 1 + 1 + 1 + 1 + 1 + 1 + 1 + 1 + 1 + 1 + 1 + 1 + 1 + 1 + 1 + 1 + 1 + 1 + 1 + 1 + 1 + 1 + 1 + 1 + 1 + 1 + 1 + 1 + 1 + 1 + 1 + 1 + 1 + 1 + 1 + 1 + 1 + 1 + 1 + 1 + 1 + 1 + 1 + 1 + 1 + 1 + 1 + 1 + 1 + 1 + 1 + 1 + 1 + 1 + 1 + 1 + 1 + 1 + 1 + 1 + 1 + 1 + 1 + 1 + 1 + 1 + 1 + 1 + 1 + 1 + 1 + 1; }
abbrev pub source : ParsedSource
source =
    (function (at 1 13) (codes "go") (spec true false false false None None) ([])
    (ParsedNext (ParsedDeclare (at 1 20) (spec false false false false None (Some t.Int32)) (at 1 24) (codes "x") (Some (ParsedBinary (Op op.Add) (ParsedBinary (Op op.Add) (ParsedBinary (Op op.Add) (ParsedBinary (Op op.Add) (ParsedBinary (Op op.Add) (ParsedBinary (Op op.Add) (ParsedBinary (Op op.Add) (ParsedBinary (Op op.Add) (ParsedBinary (Op op.Add) (ParsedBinary (Op op.Add) (ParsedBinary (Op op.Add) (ParsedBinary (Op op.Add) (ParsedBinary (Op op.Add) (ParsedBinary (Op op.Add) (ParsedBinary (Op op.Add) (ParsedBinary (Op op.Add) (ParsedBinary (Op op.Add) (ParsedBinary (Op op.Add) (ParsedBinary (Op op.Add) (ParsedBinary (Op op.Add) (ParsedBinary (Op op.Add) (ParsedBinary (Op op.Add) (ParsedBinary (Op op.Add) (ParsedBinary (Op op.Add) (ParsedBinary (Op op.Add) (ParsedBinary (Op op.Add) (ParsedBinary (Op op.Add) (ParsedBinary (Op op.Add) (ParsedBinary (Op op.Add) (ParsedBinary (Op op.Add) (ParsedBinary (Op op.Add) (ParsedBinary (Op op.Add) (ParsedBinary (Op op.Add) (ParsedBinary (Op op.Add) (ParsedBinary (Op op.Add) (ParsedBinary (Op op.Add) (ParsedBinary (Op op.Add) (ParsedBinary (Op op.Add) (ParsedBinary (Op op.Add) (ParsedBinary (Op op.Add) (ParsedBinary (Op op.Add) (ParsedBinary (Op op.Add) (ParsedBinary (Op op.Add) (ParsedBinary (Op op.Add) (ParsedBinary (Op op.Add) (ParsedBinary (Op op.Add) (ParsedBinary (Op op.Add) (ParsedBinary (Op op.Add) (ParsedBinary (Op op.Add) (ParsedBinary (Op op.Add) (ParsedBinary (Op op.Add) (ParsedBinary (Op op.Add) (ParsedBinary (Op op.Add) (ParsedBinary (Op op.Add) (ParsedBinary (Op op.Add) (ParsedBinary (Op op.Add) (ParsedBinary (Op op.Add) (ParsedBinary (Op op.Add) (ParsedBinary (Op op.Add) (ParsedBinary (Op op.Add) (ParsedBinary (Op op.Add) (ParsedBinary (Op op.Add) (ParsedBinary (Op op.Add) (ParsedBinary (Op op.Add) (ParsedBinary (Op op.Add) (ParsedBinary (Op op.Add) (ParsedBinary (Op op.Add) (ParsedBinary (Op op.Add) (ParsedBinary (Op op.Add) (ParsedBinary (Op op.Add) (ParsedBinary (Op op.Add) (ParsedBinary (Op op.Add) (ParsedBinary (Op op.Add) (ParsedBinary (Op op.Add) (ParsedBinary (Op op.Add) (ParsedBinary (Op op.Add) (ParsedBinary (Op op.Add) (ParsedBinary (Op op.Add) (ParsedBinary (Op op.Add) (ParsedBinary (Op op.Add) (ParsedBinary (Op op.Add) (ParsedBinary (Op op.Add) (ParsedBinary (Op op.Add) (ParsedBinary (Op op.Add) (ParsedBinary (Op op.Add) (ParsedBinary (Op op.Add) (ParsedBinary (Op op.Add) (ParsedBinary (Op op.Add) (ParsedBinary (Op op.Add) (ParsedBinary (Op op.Add) (ParsedBinary (Op op.Add) (ParsedBinary (Op op.Add) (ParsedBinary (Op op.Add) (ParsedBinary (Op op.Add) (ParsedBinary (Op op.Add) (ParsedBinary (Op op.Add) (ParsedBinary (Op op.Add) (ParsedBinary (Op op.Add) (ParsedBinary (Op op.Add) (ParsedBinary (Op op.Add) (ParsedBinary (Op op.Add) (ParsedBinary (Op op.Add) (ParsedBinary (Op op.Add) (ParsedBinary (Op op.Add) (ParsedBinary (Op op.Add) (ParsedBinary (Op op.Add) (ParsedBinary (Op op.Add) (ParsedBinary (Op op.Add) (ParsedBinary (Op op.Add) (ParsedBinary (Op op.Add) (ParsedBinary (Op op.Add) (ParsedBinary (Op op.Add) (ParsedBinary (Op op.Add) (ParsedBinary (Op op.Add) (ParsedBinary (Op op.Add) (ParsedBinary (Op op.Add) (ParsedBinary (Op op.Add) (ParsedBinary (Op op.Add) (ParsedBinary (Op op.Add) (ParsedBinary (Op op.Add) (ParsedBinary (Op op.Add) (ParsedBinary (Op op.Add) (ParsedBinary (Op op.Add) (ParsedBinary (Op op.Add) (ParsedBinary (Op op.Add) (ParsedBinary (Op op.Add) (ParsedBinary (Op op.Add) (ParsedBinary (Op op.Add) (ParsedBinary (Op op.Add) (ParsedBinary (Op op.Add) (ParsedBinary (Op op.Add) (ParsedBinary (Op op.Add) (ParsedBinary (Op op.Add) (ParsedBinary (Op op.Add) (ParsedBinary (Op op.Add) (ParsedBinary (Op op.Add) (ParsedBinary (Op op.Add) (ParsedBinary (Op op.Add) (ParsedBinary (Op op.Add) (ParsedBinary (Op op.Add) (ParsedBinary (Op op.Add) (ParsedBinary (Op op.Add) (ParsedBinary (Op op.Add) (ParsedBinary (Op op.Add) (ParsedBinary (Op op.Add) (ParsedBinary (Op op.Add) (ParsedBinary (Op op.Add) (ParsedBinary (Op op.Add) (ParsedBinary (Op op.Add) (ParsedBinary (Op op.Add) (ParsedBinary (Op op.Add) (ParsedBinary (Op op.Add) (ParsedBinary (Op op.Add) (ParsedBinary (Op op.Add) (ParsedBinary (Op op.Add) (ParsedBinary (Op op.Add) (ParsedBinary (Op op.Add) (ParsedBinary (Op op.Add) (ParsedBinary (Op op.Add) (ParsedBinary (Op op.Add) (ParsedBinary (Op op.Add) (ParsedBinary (Op op.Add) (ParsedBinary (Op op.Add) (ParsedBinary (Op op.Add) (ParsedBinary (Op op.Add) (ParsedBinary (Op op.Add) (ParsedBinary (Op op.Add) (ParsedBinary (Op op.Add) (ParsedBinary (Op op.Add) (ParsedBinary (Op op.Add) (ParsedBinary (Op op.Add) (ParsedBinary (Op op.Add) (ParsedBinary (Op op.Add) (ParsedBinary (Op op.Add) (ParsedBinary (Op op.Add) (ParsedBinary (Op op.Add) (ParsedBinary (Op op.Add) (ParsedBinary (Op op.Add) (ParsedBinary (Op op.Add) (ParsedBinary (Op op.Add) (ParsedBinary (Op op.Add) (ParsedBinary (Op op.Add) (ParsedBinary (Op op.Add) (ParsedBinary (Op op.Add) (ParsedBinary (Op op.Add) (ParsedBinary (Op op.Add) (ParsedBinary (Op op.Add) (ParsedBinary (Op op.Add) (ParsedBinary (Op op.Add) (ParsedBinary (Op op.Add) (ParsedBinary (Op op.Add) (ParsedBinary (Op op.Add) (ParsedBinary (Op op.Add) (ParsedBinary (Op op.Add) (ParsedBinary (Op op.Add) (ParsedBinary (Op op.Add) (ParsedBinary (Op op.Add) (ParsedBinary (Op op.Add) (ParsedBinary (Op op.Add) (ParsedBinary (Op op.Add) (ParsedBinary (Op op.Add) (ParsedBinary (Op op.Add) (ParsedBinary (Op op.Add) (ParsedBinary (Op op.Add) (ParsedBinary (Op op.Add) (ParsedBinary (Op op.Add) (ParsedBinary (Op op.Add) (ParsedBinary (Op op.Add) (ParsedBinary (Op op.Add) (ParsedBinary (Op op.Add) (ParsedBinary (Op op.Add) (ParsedBinary (Op op.Add) (ParsedBinary (Op op.Add) (ParsedBinary (Op op.Add) (ParsedBinary (Op op.Add) (ParsedBinary (Op op.Add) (ParsedBinary (Op op.Add) (ParsedBinary (Op op.Add) (ParsedBinary (Op op.Add) (ParsedBinary (Op op.Add) (ParsedBinary (Op op.Add) (ParsedBinary (Op op.Add) (ParsedBinary (Op op.Add) (ParsedBinary (Op op.Add) (ParsedBinary (Op op.Add) (ParsedBinary (Op op.Add) (ParsedBinary (Op op.Add) (ParsedBinary (Op op.Add) (ParsedBinary (Op op.Add) (ParsedBinary (Op op.Add) (ParsedBinary (Op op.Add) (ParsedBinary (Op op.Add) (ParsedBinary (Op op.Add) (ParsedBinary (Op op.Add) (ParsedBinary (Op op.Add) (ParsedBinary (Op op.Add) (ParsedBinary (Op op.Add) (ParsedBinary (Op op.Add) (ParsedBinary (Op op.Add) (ParsedBinary (Op op.Add) (ParsedBinary (Op op.Add) (ParsedBinary (Op op.Add) (ParsedBinary (Op op.Add) (ParsedBinary (Op op.Add) (ParsedBinary (Op op.Add) (ParsedBinary (Op op.Add) (ParsedBinary (Op op.Add) (ParsedBinary (Op op.Add) (ParsedBinary (Op op.Add) (ParsedBinary (Op op.Add) (ParsedBinary (Op op.Add) (ParsedBinary (Op op.Add) (ParsedBinary (Op op.Add) (ParsedBinary (Op op.Add) (ParsedBinary (Op op.Add) (ParsedBinary (Op op.Add) (ParsedNumber (at 1 28) 1 false false) (ParsedNumber (at 1 32) 1 false false)) (ParsedNumber (at 1 36) 1 false false)) (ParsedNumber (at 1 40) 1 false false)) (ParsedNumber (at 1 44) 1 false false)) (ParsedNumber (at 1 48) 1 false false)) (ParsedNumber (at 1 52) 1 false false)) (ParsedNumber (at 1 56) 1 false false)) (ParsedNumber (at 1 60) 1 false false)) (ParsedNumber (at 1 64) 1 false false)) (ParsedNumber (at 1 68) 1 false false)) (ParsedNumber (at 1 72) 1 false false)) (ParsedNumber (at 1 76) 1 false false)) (ParsedNumber (at 1 80) 1 false false)) (ParsedNumber (at 1 84) 1 false false)) (ParsedNumber (at 1 88) 1 false false)) (ParsedNumber (at 1 92) 1 false false)) (ParsedNumber (at 1 96) 1 false false)) (ParsedNumber (at 1 100) 1 false false)) (ParsedNumber (at 1 104) 1 false false)) (ParsedNumber (at 1 108) 1 false false)) (ParsedNumber (at 1 112) 1 false false)) (ParsedNumber (at 1 116) 1 false false)) (ParsedNumber (at 1 120) 1 false false)) (ParsedNumber (at 1 124) 1 false false)) (ParsedNumber (at 1 128) 1 false false)) (ParsedNumber (at 1 132) 1 false false)) (ParsedNumber (at 1 136) 1 false false)) (ParsedNumber (at 1 140) 1 false false)) (ParsedNumber (at 1 144) 1 false false)) (ParsedNumber (at 1 148) 1 false false)) (ParsedNumber (at 1 152) 1 false false)) (ParsedNumber (at 1 156) 1 false false)) (ParsedNumber (at 1 160) 1 false false)) (ParsedNumber (at 1 164) 1 false false)) (ParsedNumber (at 1 168) 1 false false)) (ParsedNumber (at 1 172) 1 false false)) (ParsedNumber (at 1 176) 1 false false)) (ParsedNumber (at 1 180) 1 false false)) (ParsedNumber (at 1 184) 1 false false)) (ParsedNumber (at 1 188) 1 false false)) (ParsedNumber (at 1 192) 1 false false)) (ParsedNumber (at 1 196) 1 false false)) (ParsedNumber (at 1 200) 1 false false)) (ParsedNumber (at 1 204) 1 false false)) (ParsedNumber (at 1 208) 1 false false)) (ParsedNumber (at 1 212) 1 false false)) (ParsedNumber (at 1 216) 1 false false)) (ParsedNumber (at 1 220) 1 false false)) (ParsedNumber (at 1 224) 1 false false)) (ParsedNumber (at 1 228) 1 false false)) (ParsedNumber (at 1 232) 1 false false)) (ParsedNumber (at 1 236) 1 false false)) (ParsedNumber (at 1 240) 1 false false)) (ParsedNumber (at 1 244) 1 false false)) (ParsedNumber (at 1 248) 1 false false)) (ParsedNumber (at 1 252) 1 false false)) (ParsedNumber (at 1 256) 1 false false)) (ParsedNumber (at 1 260) 1 false false)) (ParsedNumber (at 1 264) 1 false false)) (ParsedNumber (at 1 268) 1 false false)) (ParsedNumber (at 1 272) 1 false false)) (ParsedNumber (at 1 276) 1 false false)) (ParsedNumber (at 1 280) 1 false false)) (ParsedNumber (at 1 284) 1 false false)) (ParsedNumber (at 1 288) 1 false false)) (ParsedNumber (at 1 292) 1 false false)) (ParsedNumber (at 1 296) 1 false false)) (ParsedNumber (at 1 300) 1 false false)) (ParsedNumber (at 1 304) 1 false false)) (ParsedNumber (at 1 308) 1 false false)) (ParsedNumber (at 1 312) 1 false false)) (ParsedNumber (at 1 316) 1 false false)) (ParsedNumber (at 1 320) 1 false false)) (ParsedNumber (at 1 324) 1 false false)) (ParsedNumber (at 1 328) 1 false false)) (ParsedNumber (at 1 332) 1 false false)) (ParsedNumber (at 1 336) 1 false false)) (ParsedNumber (at 1 340) 1 false false)) (ParsedNumber (at 1 344) 1 false false)) (ParsedNumber (at 1 348) 1 false false)) (ParsedNumber (at 1 352) 1 false false)) (ParsedNumber (at 1 356) 1 false false)) (ParsedNumber (at 1 360) 1 false false)) (ParsedNumber (at 1 364) 1 false false)) (ParsedNumber (at 1 368) 1 false false)) (ParsedNumber (at 1 372) 1 false false)) (ParsedNumber (at 1 376) 1 false false)) (ParsedNumber (at 1 380) 1 false false)) (ParsedNumber (at 1 384) 1 false false)) (ParsedNumber (at 1 388) 1 false false)) (ParsedNumber (at 1 392) 1 false false)) (ParsedNumber (at 1 396) 1 false false)) (ParsedNumber (at 1 400) 1 false false)) (ParsedNumber (at 1 404) 1 false false)) (ParsedNumber (at 1 408) 1 false false)) (ParsedNumber (at 1 412) 1 false false)) (ParsedNumber (at 1 416) 1 false false)) (ParsedNumber (at 1 420) 1 false false)) (ParsedNumber (at 1 424) 1 false false)) (ParsedNumber (at 1 428) 1 false false)) (ParsedNumber (at 1 432) 1 false false)) (ParsedNumber (at 1 436) 1 false false)) (ParsedNumber (at 1 440) 1 false false)) (ParsedNumber (at 1 444) 1 false false)) (ParsedNumber (at 1 448) 1 false false)) (ParsedNumber (at 1 452) 1 false false)) (ParsedNumber (at 1 456) 1 false false)) (ParsedNumber (at 1 460) 1 false false)) (ParsedNumber (at 1 464) 1 false false)) (ParsedNumber (at 1 468) 1 false false)) (ParsedNumber (at 1 472) 1 false false)) (ParsedNumber (at 1 476) 1 false false)) (ParsedNumber (at 1 480) 1 false false)) (ParsedNumber (at 1 484) 1 false false)) (ParsedNumber (at 1 488) 1 false false)) (ParsedNumber (at 1 492) 1 false false)) (ParsedNumber (at 1 496) 1 false false)) (ParsedNumber (at 1 500) 1 false false)) (ParsedNumber (at 1 504) 1 false false)) (ParsedNumber (at 1 508) 1 false false)) (ParsedNumber (at 1 512) 1 false false)) (ParsedNumber (at 1 516) 1 false false)) (ParsedNumber (at 1 520) 1 false false)) (ParsedNumber (at 1 524) 1 false false)) (ParsedNumber (at 1 528) 1 false false)) (ParsedNumber (at 1 532) 1 false false)) (ParsedNumber (at 1 536) 1 false false)) (ParsedNumber (at 1 540) 1 false false)) (ParsedNumber (at 1 544) 1 false false)) (ParsedNumber (at 1 548) 1 false false)) (ParsedNumber (at 1 552) 1 false false)) (ParsedNumber (at 1 556) 1 false false)) (ParsedNumber (at 1 560) 1 false false)) (ParsedNumber (at 1 564) 1 false false)) (ParsedNumber (at 1 568) 1 false false)) (ParsedNumber (at 1 572) 1 false false)) (ParsedNumber (at 1 576) 1 false false)) (ParsedNumber (at 1 580) 1 false false)) (ParsedNumber (at 1 584) 1 false false)) (ParsedNumber (at 1 588) 1 false false)) (ParsedNumber (at 1 592) 1 false false)) (ParsedNumber (at 1 596) 1 false false)) (ParsedNumber (at 1 600) 1 false false)) (ParsedNumber (at 1 604) 1 false false)) (ParsedNumber (at 1 608) 1 false false)) (ParsedNumber (at 1 612) 1 false false)) (ParsedNumber (at 1 616) 1 false false)) (ParsedNumber (at 1 620) 1 false false)) (ParsedNumber (at 1 624) 1 false false)) (ParsedNumber (at 1 628) 1 false false)) (ParsedNumber (at 1 632) 1 false false)) (ParsedNumber (at 1 636) 1 false false)) (ParsedNumber (at 1 640) 1 false false)) (ParsedNumber (at 1 644) 1 false false)) (ParsedNumber (at 1 648) 1 false false)) (ParsedNumber (at 1 652) 1 false false)) (ParsedNumber (at 1 656) 1 false false)) (ParsedNumber (at 1 660) 1 false false)) (ParsedNumber (at 1 664) 1 false false)) (ParsedNumber (at 1 668) 1 false false)) (ParsedNumber (at 1 672) 1 false false)) (ParsedNumber (at 1 676) 1 false false)) (ParsedNumber (at 1 680) 1 false false)) (ParsedNumber (at 1 684) 1 false false)) (ParsedNumber (at 1 688) 1 false false)) (ParsedNumber (at 1 692) 1 false false)) (ParsedNumber (at 1 696) 1 false false)) (ParsedNumber (at 1 700) 1 false false)) (ParsedNumber (at 1 704) 1 false false)) (ParsedNumber (at 1 708) 1 false false)) (ParsedNumber (at 1 712) 1 false false)) (ParsedNumber (at 1 716) 1 false false)) (ParsedNumber (at 1 720) 1 false false)) (ParsedNumber (at 1 724) 1 false false)) (ParsedNumber (at 1 728) 1 false false)) (ParsedNumber (at 1 732) 1 false false)) (ParsedNumber (at 1 736) 1 false false)) (ParsedNumber (at 1 740) 1 false false)) (ParsedNumber (at 1 744) 1 false false)) (ParsedNumber (at 1 748) 1 false false)) (ParsedNumber (at 1 752) 1 false false)) (ParsedNumber (at 1 756) 1 false false)) (ParsedNumber (at 1 760) 1 false false)) (ParsedNumber (at 1 764) 1 false false)) (ParsedNumber (at 1 768) 1 false false)) (ParsedNumber (at 1 772) 1 false false)) (ParsedNumber (at 1 776) 1 false false)) (ParsedNumber (at 1 780) 1 false false)) (ParsedNumber (at 1 784) 1 false false)) (ParsedNumber (at 1 788) 1 false false)) (ParsedNumber (at 1 792) 1 false false)) (ParsedNumber (at 1 796) 1 false false)) (ParsedNumber (at 1 800) 1 false false)) (ParsedNumber (at 1 804) 1 false false)) (ParsedNumber (at 1 808) 1 false false)) (ParsedNumber (at 1 812) 1 false false)) (ParsedNumber (at 1 816) 1 false false)) (ParsedNumber (at 1 820) 1 false false)) (ParsedNumber (at 1 824) 1 false false)) (ParsedNumber (at 1 828) 1 false false)) (ParsedNumber (at 1 832) 1 false false)) (ParsedNumber (at 1 836) 1 false false)) (ParsedNumber (at 1 840) 1 false false)) (ParsedNumber (at 1 844) 1 false false)) (ParsedNumber (at 1 848) 1 false false)) (ParsedNumber (at 1 852) 1 false false)) (ParsedNumber (at 1 856) 1 false false)) (ParsedNumber (at 1 860) 1 false false)) (ParsedNumber (at 1 864) 1 false false)) (ParsedNumber (at 1 868) 1 false false)) (ParsedNumber (at 1 872) 1 false false)) (ParsedNumber (at 1 876) 1 false false)) (ParsedNumber (at 1 880) 1 false false)) (ParsedNumber (at 1 884) 1 false false)) (ParsedNumber (at 1 888) 1 false false)) (ParsedNumber (at 1 892) 1 false false)) (ParsedNumber (at 1 896) 1 false false)) (ParsedNumber (at 1 900) 1 false false)) (ParsedNumber (at 1 904) 1 false false)) (ParsedNumber (at 1 908) 1 false false)) (ParsedNumber (at 1 912) 1 false false)) (ParsedNumber (at 1 916) 1 false false)) (ParsedNumber (at 1 920) 1 false false)) (ParsedNumber (at 1 924) 1 false false)) (ParsedNumber (at 1 928) 1 false false)) (ParsedNumber (at 1 932) 1 false false)) (ParsedNumber (at 1 936) 1 false false)) (ParsedNumber (at 1 940) 1 false false)) (ParsedNumber (at 1 944) 1 false false)) (ParsedNumber (at 1 948) 1 false false)) (ParsedNumber (at 1 952) 1 false false)) (ParsedNumber (at 1 956) 1 false false)) (ParsedNumber (at 1 960) 1 false false)) (ParsedNumber (at 1 964) 1 false false)) (ParsedNumber (at 1 968) 1 false false)) (ParsedNumber (at 1 972) 1 false false)) (ParsedNumber (at 1 976) 1 false false)) (ParsedNumber (at 1 980) 1 false false)) (ParsedNumber (at 1 984) 1 false false)) (ParsedNumber (at 1 988) 1 false false)) (ParsedNumber (at 1 992) 1 false false)) (ParsedNumber (at 1 996) 1 false false)) (ParsedNumber (at 1 1000) 1 false false)) (ParsedNumber (at 1 1004) 1 false false)) (ParsedNumber (at 1 1008) 1 false false)) (ParsedNumber (at 1 1012) 1 false false)) (ParsedNumber (at 1 1016) 1 false false)) (ParsedNumber (at 1 1020) 1 false false)) (ParsedNumber (at 1 1024) 1 false false)) (ParsedNumber (at 1 1028) 1 false false)) (ParsedNumber (at 1 1032) 1 false false)) (ParsedNumber (at 1 1036) 1 false false)) (ParsedNumber (at 1 1040) 1 false false)) (ParsedNumber (at 1 1044) 1 false false)) (ParsedNumber (at 1 1048) 1 false false)) (ParsedNumber (at 1 1052) 1 false false))))
    ParsedLast) (at 1 1055)) ∷ []

row_1 : run source (codes "") (options 4 64 1000000)
    (codes "step\nprint x\n")
    ≡ codes "at 1:1055 go depth 1 lanes 1111\nx = 257 257 257 257\n"
unfolding digits value_of residue word_of value_in wrapped binary_of
row_1 = refl

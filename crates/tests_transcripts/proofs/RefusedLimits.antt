-- Too many words of arrays, too many variables of a function, and no entry.
use Rattle.std.specs.Prelude.{◌≡◌, refl, true, false, [], ◌∷◌, Some, None, codes}
use Rattle.std.specs.Fmt.{digits}
use Rattle.gang_types.specs.Values.{value_of, residue, word_of, value_in, wrapped, binary_of}
use Rattle.gang_types.specs.declared.types.Rate.TheVariants.{Uniform}
use Rattle.gang_types.specs.declared.types.IntType.TheVariants as t
use Rattle.gang_model.specs.declared.forms.GlobalForm.TheVariants.{Array}
use Rattle.gang_model.specs.Source.Parsed.{ParsedDeclare, ParsedLast, ParsedNext, ParsedSource}
use Rattle.tests_transcripts.proofs.Forms.{at, spec, function, file_variable, options, run}

-- uniform int a[1048577]; export void go() { }
abbrev pub source_1 : ParsedSource
source_1 =
    (file_variable (at 1 13) (codes "a") (spec false false false false (Some Uniform) (Some t.Int32)) (Array 1048577)) ∷
    (function (at 1 37) (codes "go") (spec true false false false None None) ([])
    ParsedLast (at 1 44)) ∷ []

row_1 : run source_1 (codes "") (options 4 64 1000000)
    (codes "")
    ≡ codes "1:13: S13 Limit\n"
unfolding digits value_of residue word_of value_in wrapped binary_of
row_1 = refl

-- export void go() {
-- int v1;
-- int v2;
-- int v3;
-- int v4;
-- int v5;
-- int v6;
-- int v7;
-- int v8;
-- int v9;
-- int v10;
-- int v11;
-- int v12;
-- int v13;
-- int v14;
-- int v15;
-- int v16;
-- int v17;
-- int v18;
-- int v19;
-- int v20;
-- int v21;
-- int v22;
-- int v23;
-- int v24;
-- int v25;
-- int v26;
-- int v27;
-- int v28;
-- int v29;
-- int v30;
-- int v31;
-- int v32;
-- int v33;
-- int v34;
-- int v35;
-- int v36;
-- int v37;
-- int v38;
-- int v39;
-- int v40;
-- int v41;
-- int v42;
-- int v43;
-- int v44;
-- int v45;
-- int v46;
-- int v47;
-- int v48;
-- int v49;
-- int v50;
-- int v51;
-- int v52;
-- int v53;
-- int v54;
-- int v55;
-- int v56;
-- int v57;
-- int v58;
-- int v59;
-- int v60;
-- int v61;
-- int v62;
-- int v63;
-- int v64;
-- int v65;
-- int v66;
-- int v67;
-- int v68;
-- int v69;
-- int v70;
-- int v71;
-- int v72;
-- int v73;
-- int v74;
-- int v75;
-- int v76;
-- int v77;
-- int v78;
-- int v79;
-- int v80;
-- int v81;
-- int v82;
-- int v83;
-- int v84;
-- int v85;
-- int v86;
-- int v87;
-- int v88;
-- int v89;
-- int v90;
-- int v91;
-- int v92;
-- int v93;
-- int v94;
-- int v95;
-- int v96;
-- int v97;
-- int v98;
-- int v99;
-- int v100;
-- int v101;
-- int v102;
-- int v103;
-- int v104;
-- int v105;
-- int v106;
-- int v107;
-- int v108;
-- int v109;
-- int v110;
-- int v111;
-- int v112;
-- int v113;
-- int v114;
-- int v115;
-- int v116;
-- int v117;
-- int v118;
-- int v119;
-- int v120;
-- int v121;
-- int v122;
-- int v123;
-- int v124;
-- int v125;
-- int v126;
-- int v127;
-- int v128;
-- int v129;
-- int v130;
-- int v131;
-- int v132;
-- int v133;
-- int v134;
-- int v135;
-- int v136;
-- int v137;
-- int v138;
-- int v139;
-- int v140;
-- int v141;
-- int v142;
-- int v143;
-- int v144;
-- int v145;
-- int v146;
-- int v147;
-- int v148;
-- int v149;
-- int v150;
-- int v151;
-- int v152;
-- int v153;
-- int v154;
-- int v155;
-- int v156;
-- int v157;
-- int v158;
-- int v159;
-- int v160;
-- int v161;
-- int v162;
-- int v163;
-- int v164;
-- int v165;
-- int v166;
-- int v167;
-- int v168;
-- int v169;
-- int v170;
-- int v171;
-- int v172;
-- int v173;
-- int v174;
-- int v175;
-- int v176;
-- int v177;
-- int v178;
-- int v179;
-- int v180;
-- int v181;
-- int v182;
-- int v183;
-- int v184;
-- int v185;
-- int v186;
-- int v187;
-- int v188;
-- int v189;
-- int v190;
-- int v191;
-- int v192;
-- int v193;
-- int v194;
-- int v195;
-- int v196;
-- int v197;
-- int v198;
-- int v199;
-- int v200;
-- int v201;
-- int v202;
-- int v203;
-- int v204;
-- int v205;
-- int v206;
-- int v207;
-- int v208;
-- int v209;
-- int v210;
-- int v211;
-- int v212;
-- int v213;
-- int v214;
-- int v215;
-- int v216;
-- int v217;
-- int v218;
-- int v219;
-- int v220;
-- int v221;
-- int v222;
-- int v223;
-- int v224;
-- int v225;
-- int v226;
-- int v227;
-- int v228;
-- int v229;
-- int v230;
-- int v231;
-- int v232;
-- int v233;
-- int v234;
-- int v235;
-- int v236;
-- int v237;
-- int v238;
-- int v239;
-- int v240;
-- int v241;
-- int v242;
-- int v243;
-- int v244;
-- int v245;
-- int v246;
-- int v247;
-- int v248;
-- int v249;
-- int v250;
-- int v251;
-- int v252;
-- int v253;
-- int v254;
-- int v255;
-- int v256;
-- int v257;
-- }
abbrev pub source_2 : ParsedSource
source_2 =
    (function (at 1 13) (codes "go") (spec true false false false None None) ([])
    (ParsedNext (ParsedDeclare (at 2 1) (spec false false false false None (Some t.Int32)) (at 2 5) (codes "v1") None)
    (ParsedNext (ParsedDeclare (at 3 1) (spec false false false false None (Some t.Int32)) (at 3 5) (codes "v2") None)
    (ParsedNext (ParsedDeclare (at 4 1) (spec false false false false None (Some t.Int32)) (at 4 5) (codes "v3") None)
    (ParsedNext (ParsedDeclare (at 5 1) (spec false false false false None (Some t.Int32)) (at 5 5) (codes "v4") None)
    (ParsedNext (ParsedDeclare (at 6 1) (spec false false false false None (Some t.Int32)) (at 6 5) (codes "v5") None)
    (ParsedNext (ParsedDeclare (at 7 1) (spec false false false false None (Some t.Int32)) (at 7 5) (codes "v6") None)
    (ParsedNext (ParsedDeclare (at 8 1) (spec false false false false None (Some t.Int32)) (at 8 5) (codes "v7") None)
    (ParsedNext (ParsedDeclare (at 9 1) (spec false false false false None (Some t.Int32)) (at 9 5) (codes "v8") None)
    (ParsedNext (ParsedDeclare (at 10 1) (spec false false false false None (Some t.Int32)) (at 10 5) (codes "v9") None)
    (ParsedNext (ParsedDeclare (at 11 1) (spec false false false false None (Some t.Int32)) (at 11 5) (codes "v10") None)
    (ParsedNext (ParsedDeclare (at 12 1) (spec false false false false None (Some t.Int32)) (at 12 5) (codes "v11") None)
    (ParsedNext (ParsedDeclare (at 13 1) (spec false false false false None (Some t.Int32)) (at 13 5) (codes "v12") None)
    (ParsedNext (ParsedDeclare (at 14 1) (spec false false false false None (Some t.Int32)) (at 14 5) (codes "v13") None)
    (ParsedNext (ParsedDeclare (at 15 1) (spec false false false false None (Some t.Int32)) (at 15 5) (codes "v14") None)
    (ParsedNext (ParsedDeclare (at 16 1) (spec false false false false None (Some t.Int32)) (at 16 5) (codes "v15") None)
    (ParsedNext (ParsedDeclare (at 17 1) (spec false false false false None (Some t.Int32)) (at 17 5) (codes "v16") None)
    (ParsedNext (ParsedDeclare (at 18 1) (spec false false false false None (Some t.Int32)) (at 18 5) (codes "v17") None)
    (ParsedNext (ParsedDeclare (at 19 1) (spec false false false false None (Some t.Int32)) (at 19 5) (codes "v18") None)
    (ParsedNext (ParsedDeclare (at 20 1) (spec false false false false None (Some t.Int32)) (at 20 5) (codes "v19") None)
    (ParsedNext (ParsedDeclare (at 21 1) (spec false false false false None (Some t.Int32)) (at 21 5) (codes "v20") None)
    (ParsedNext (ParsedDeclare (at 22 1) (spec false false false false None (Some t.Int32)) (at 22 5) (codes "v21") None)
    (ParsedNext (ParsedDeclare (at 23 1) (spec false false false false None (Some t.Int32)) (at 23 5) (codes "v22") None)
    (ParsedNext (ParsedDeclare (at 24 1) (spec false false false false None (Some t.Int32)) (at 24 5) (codes "v23") None)
    (ParsedNext (ParsedDeclare (at 25 1) (spec false false false false None (Some t.Int32)) (at 25 5) (codes "v24") None)
    (ParsedNext (ParsedDeclare (at 26 1) (spec false false false false None (Some t.Int32)) (at 26 5) (codes "v25") None)
    (ParsedNext (ParsedDeclare (at 27 1) (spec false false false false None (Some t.Int32)) (at 27 5) (codes "v26") None)
    (ParsedNext (ParsedDeclare (at 28 1) (spec false false false false None (Some t.Int32)) (at 28 5) (codes "v27") None)
    (ParsedNext (ParsedDeclare (at 29 1) (spec false false false false None (Some t.Int32)) (at 29 5) (codes "v28") None)
    (ParsedNext (ParsedDeclare (at 30 1) (spec false false false false None (Some t.Int32)) (at 30 5) (codes "v29") None)
    (ParsedNext (ParsedDeclare (at 31 1) (spec false false false false None (Some t.Int32)) (at 31 5) (codes "v30") None)
    (ParsedNext (ParsedDeclare (at 32 1) (spec false false false false None (Some t.Int32)) (at 32 5) (codes "v31") None)
    (ParsedNext (ParsedDeclare (at 33 1) (spec false false false false None (Some t.Int32)) (at 33 5) (codes "v32") None)
    (ParsedNext (ParsedDeclare (at 34 1) (spec false false false false None (Some t.Int32)) (at 34 5) (codes "v33") None)
    (ParsedNext (ParsedDeclare (at 35 1) (spec false false false false None (Some t.Int32)) (at 35 5) (codes "v34") None)
    (ParsedNext (ParsedDeclare (at 36 1) (spec false false false false None (Some t.Int32)) (at 36 5) (codes "v35") None)
    (ParsedNext (ParsedDeclare (at 37 1) (spec false false false false None (Some t.Int32)) (at 37 5) (codes "v36") None)
    (ParsedNext (ParsedDeclare (at 38 1) (spec false false false false None (Some t.Int32)) (at 38 5) (codes "v37") None)
    (ParsedNext (ParsedDeclare (at 39 1) (spec false false false false None (Some t.Int32)) (at 39 5) (codes "v38") None)
    (ParsedNext (ParsedDeclare (at 40 1) (spec false false false false None (Some t.Int32)) (at 40 5) (codes "v39") None)
    (ParsedNext (ParsedDeclare (at 41 1) (spec false false false false None (Some t.Int32)) (at 41 5) (codes "v40") None)
    (ParsedNext (ParsedDeclare (at 42 1) (spec false false false false None (Some t.Int32)) (at 42 5) (codes "v41") None)
    (ParsedNext (ParsedDeclare (at 43 1) (spec false false false false None (Some t.Int32)) (at 43 5) (codes "v42") None)
    (ParsedNext (ParsedDeclare (at 44 1) (spec false false false false None (Some t.Int32)) (at 44 5) (codes "v43") None)
    (ParsedNext (ParsedDeclare (at 45 1) (spec false false false false None (Some t.Int32)) (at 45 5) (codes "v44") None)
    (ParsedNext (ParsedDeclare (at 46 1) (spec false false false false None (Some t.Int32)) (at 46 5) (codes "v45") None)
    (ParsedNext (ParsedDeclare (at 47 1) (spec false false false false None (Some t.Int32)) (at 47 5) (codes "v46") None)
    (ParsedNext (ParsedDeclare (at 48 1) (spec false false false false None (Some t.Int32)) (at 48 5) (codes "v47") None)
    (ParsedNext (ParsedDeclare (at 49 1) (spec false false false false None (Some t.Int32)) (at 49 5) (codes "v48") None)
    (ParsedNext (ParsedDeclare (at 50 1) (spec false false false false None (Some t.Int32)) (at 50 5) (codes "v49") None)
    (ParsedNext (ParsedDeclare (at 51 1) (spec false false false false None (Some t.Int32)) (at 51 5) (codes "v50") None)
    (ParsedNext (ParsedDeclare (at 52 1) (spec false false false false None (Some t.Int32)) (at 52 5) (codes "v51") None)
    (ParsedNext (ParsedDeclare (at 53 1) (spec false false false false None (Some t.Int32)) (at 53 5) (codes "v52") None)
    (ParsedNext (ParsedDeclare (at 54 1) (spec false false false false None (Some t.Int32)) (at 54 5) (codes "v53") None)
    (ParsedNext (ParsedDeclare (at 55 1) (spec false false false false None (Some t.Int32)) (at 55 5) (codes "v54") None)
    (ParsedNext (ParsedDeclare (at 56 1) (spec false false false false None (Some t.Int32)) (at 56 5) (codes "v55") None)
    (ParsedNext (ParsedDeclare (at 57 1) (spec false false false false None (Some t.Int32)) (at 57 5) (codes "v56") None)
    (ParsedNext (ParsedDeclare (at 58 1) (spec false false false false None (Some t.Int32)) (at 58 5) (codes "v57") None)
    (ParsedNext (ParsedDeclare (at 59 1) (spec false false false false None (Some t.Int32)) (at 59 5) (codes "v58") None)
    (ParsedNext (ParsedDeclare (at 60 1) (spec false false false false None (Some t.Int32)) (at 60 5) (codes "v59") None)
    (ParsedNext (ParsedDeclare (at 61 1) (spec false false false false None (Some t.Int32)) (at 61 5) (codes "v60") None)
    (ParsedNext (ParsedDeclare (at 62 1) (spec false false false false None (Some t.Int32)) (at 62 5) (codes "v61") None)
    (ParsedNext (ParsedDeclare (at 63 1) (spec false false false false None (Some t.Int32)) (at 63 5) (codes "v62") None)
    (ParsedNext (ParsedDeclare (at 64 1) (spec false false false false None (Some t.Int32)) (at 64 5) (codes "v63") None)
    (ParsedNext (ParsedDeclare (at 65 1) (spec false false false false None (Some t.Int32)) (at 65 5) (codes "v64") None)
    (ParsedNext (ParsedDeclare (at 66 1) (spec false false false false None (Some t.Int32)) (at 66 5) (codes "v65") None)
    (ParsedNext (ParsedDeclare (at 67 1) (spec false false false false None (Some t.Int32)) (at 67 5) (codes "v66") None)
    (ParsedNext (ParsedDeclare (at 68 1) (spec false false false false None (Some t.Int32)) (at 68 5) (codes "v67") None)
    (ParsedNext (ParsedDeclare (at 69 1) (spec false false false false None (Some t.Int32)) (at 69 5) (codes "v68") None)
    (ParsedNext (ParsedDeclare (at 70 1) (spec false false false false None (Some t.Int32)) (at 70 5) (codes "v69") None)
    (ParsedNext (ParsedDeclare (at 71 1) (spec false false false false None (Some t.Int32)) (at 71 5) (codes "v70") None)
    (ParsedNext (ParsedDeclare (at 72 1) (spec false false false false None (Some t.Int32)) (at 72 5) (codes "v71") None)
    (ParsedNext (ParsedDeclare (at 73 1) (spec false false false false None (Some t.Int32)) (at 73 5) (codes "v72") None)
    (ParsedNext (ParsedDeclare (at 74 1) (spec false false false false None (Some t.Int32)) (at 74 5) (codes "v73") None)
    (ParsedNext (ParsedDeclare (at 75 1) (spec false false false false None (Some t.Int32)) (at 75 5) (codes "v74") None)
    (ParsedNext (ParsedDeclare (at 76 1) (spec false false false false None (Some t.Int32)) (at 76 5) (codes "v75") None)
    (ParsedNext (ParsedDeclare (at 77 1) (spec false false false false None (Some t.Int32)) (at 77 5) (codes "v76") None)
    (ParsedNext (ParsedDeclare (at 78 1) (spec false false false false None (Some t.Int32)) (at 78 5) (codes "v77") None)
    (ParsedNext (ParsedDeclare (at 79 1) (spec false false false false None (Some t.Int32)) (at 79 5) (codes "v78") None)
    (ParsedNext (ParsedDeclare (at 80 1) (spec false false false false None (Some t.Int32)) (at 80 5) (codes "v79") None)
    (ParsedNext (ParsedDeclare (at 81 1) (spec false false false false None (Some t.Int32)) (at 81 5) (codes "v80") None)
    (ParsedNext (ParsedDeclare (at 82 1) (spec false false false false None (Some t.Int32)) (at 82 5) (codes "v81") None)
    (ParsedNext (ParsedDeclare (at 83 1) (spec false false false false None (Some t.Int32)) (at 83 5) (codes "v82") None)
    (ParsedNext (ParsedDeclare (at 84 1) (spec false false false false None (Some t.Int32)) (at 84 5) (codes "v83") None)
    (ParsedNext (ParsedDeclare (at 85 1) (spec false false false false None (Some t.Int32)) (at 85 5) (codes "v84") None)
    (ParsedNext (ParsedDeclare (at 86 1) (spec false false false false None (Some t.Int32)) (at 86 5) (codes "v85") None)
    (ParsedNext (ParsedDeclare (at 87 1) (spec false false false false None (Some t.Int32)) (at 87 5) (codes "v86") None)
    (ParsedNext (ParsedDeclare (at 88 1) (spec false false false false None (Some t.Int32)) (at 88 5) (codes "v87") None)
    (ParsedNext (ParsedDeclare (at 89 1) (spec false false false false None (Some t.Int32)) (at 89 5) (codes "v88") None)
    (ParsedNext (ParsedDeclare (at 90 1) (spec false false false false None (Some t.Int32)) (at 90 5) (codes "v89") None)
    (ParsedNext (ParsedDeclare (at 91 1) (spec false false false false None (Some t.Int32)) (at 91 5) (codes "v90") None)
    (ParsedNext (ParsedDeclare (at 92 1) (spec false false false false None (Some t.Int32)) (at 92 5) (codes "v91") None)
    (ParsedNext (ParsedDeclare (at 93 1) (spec false false false false None (Some t.Int32)) (at 93 5) (codes "v92") None)
    (ParsedNext (ParsedDeclare (at 94 1) (spec false false false false None (Some t.Int32)) (at 94 5) (codes "v93") None)
    (ParsedNext (ParsedDeclare (at 95 1) (spec false false false false None (Some t.Int32)) (at 95 5) (codes "v94") None)
    (ParsedNext (ParsedDeclare (at 96 1) (spec false false false false None (Some t.Int32)) (at 96 5) (codes "v95") None)
    (ParsedNext (ParsedDeclare (at 97 1) (spec false false false false None (Some t.Int32)) (at 97 5) (codes "v96") None)
    (ParsedNext (ParsedDeclare (at 98 1) (spec false false false false None (Some t.Int32)) (at 98 5) (codes "v97") None)
    (ParsedNext (ParsedDeclare (at 99 1) (spec false false false false None (Some t.Int32)) (at 99 5) (codes "v98") None)
    (ParsedNext (ParsedDeclare (at 100 1) (spec false false false false None (Some t.Int32)) (at 100 5) (codes "v99") None)
    (ParsedNext (ParsedDeclare (at 101 1) (spec false false false false None (Some t.Int32)) (at 101 5) (codes "v100") None)
    (ParsedNext (ParsedDeclare (at 102 1) (spec false false false false None (Some t.Int32)) (at 102 5) (codes "v101") None)
    (ParsedNext (ParsedDeclare (at 103 1) (spec false false false false None (Some t.Int32)) (at 103 5) (codes "v102") None)
    (ParsedNext (ParsedDeclare (at 104 1) (spec false false false false None (Some t.Int32)) (at 104 5) (codes "v103") None)
    (ParsedNext (ParsedDeclare (at 105 1) (spec false false false false None (Some t.Int32)) (at 105 5) (codes "v104") None)
    (ParsedNext (ParsedDeclare (at 106 1) (spec false false false false None (Some t.Int32)) (at 106 5) (codes "v105") None)
    (ParsedNext (ParsedDeclare (at 107 1) (spec false false false false None (Some t.Int32)) (at 107 5) (codes "v106") None)
    (ParsedNext (ParsedDeclare (at 108 1) (spec false false false false None (Some t.Int32)) (at 108 5) (codes "v107") None)
    (ParsedNext (ParsedDeclare (at 109 1) (spec false false false false None (Some t.Int32)) (at 109 5) (codes "v108") None)
    (ParsedNext (ParsedDeclare (at 110 1) (spec false false false false None (Some t.Int32)) (at 110 5) (codes "v109") None)
    (ParsedNext (ParsedDeclare (at 111 1) (spec false false false false None (Some t.Int32)) (at 111 5) (codes "v110") None)
    (ParsedNext (ParsedDeclare (at 112 1) (spec false false false false None (Some t.Int32)) (at 112 5) (codes "v111") None)
    (ParsedNext (ParsedDeclare (at 113 1) (spec false false false false None (Some t.Int32)) (at 113 5) (codes "v112") None)
    (ParsedNext (ParsedDeclare (at 114 1) (spec false false false false None (Some t.Int32)) (at 114 5) (codes "v113") None)
    (ParsedNext (ParsedDeclare (at 115 1) (spec false false false false None (Some t.Int32)) (at 115 5) (codes "v114") None)
    (ParsedNext (ParsedDeclare (at 116 1) (spec false false false false None (Some t.Int32)) (at 116 5) (codes "v115") None)
    (ParsedNext (ParsedDeclare (at 117 1) (spec false false false false None (Some t.Int32)) (at 117 5) (codes "v116") None)
    (ParsedNext (ParsedDeclare (at 118 1) (spec false false false false None (Some t.Int32)) (at 118 5) (codes "v117") None)
    (ParsedNext (ParsedDeclare (at 119 1) (spec false false false false None (Some t.Int32)) (at 119 5) (codes "v118") None)
    (ParsedNext (ParsedDeclare (at 120 1) (spec false false false false None (Some t.Int32)) (at 120 5) (codes "v119") None)
    (ParsedNext (ParsedDeclare (at 121 1) (spec false false false false None (Some t.Int32)) (at 121 5) (codes "v120") None)
    (ParsedNext (ParsedDeclare (at 122 1) (spec false false false false None (Some t.Int32)) (at 122 5) (codes "v121") None)
    (ParsedNext (ParsedDeclare (at 123 1) (spec false false false false None (Some t.Int32)) (at 123 5) (codes "v122") None)
    (ParsedNext (ParsedDeclare (at 124 1) (spec false false false false None (Some t.Int32)) (at 124 5) (codes "v123") None)
    (ParsedNext (ParsedDeclare (at 125 1) (spec false false false false None (Some t.Int32)) (at 125 5) (codes "v124") None)
    (ParsedNext (ParsedDeclare (at 126 1) (spec false false false false None (Some t.Int32)) (at 126 5) (codes "v125") None)
    (ParsedNext (ParsedDeclare (at 127 1) (spec false false false false None (Some t.Int32)) (at 127 5) (codes "v126") None)
    (ParsedNext (ParsedDeclare (at 128 1) (spec false false false false None (Some t.Int32)) (at 128 5) (codes "v127") None)
    (ParsedNext (ParsedDeclare (at 129 1) (spec false false false false None (Some t.Int32)) (at 129 5) (codes "v128") None)
    (ParsedNext (ParsedDeclare (at 130 1) (spec false false false false None (Some t.Int32)) (at 130 5) (codes "v129") None)
    (ParsedNext (ParsedDeclare (at 131 1) (spec false false false false None (Some t.Int32)) (at 131 5) (codes "v130") None)
    (ParsedNext (ParsedDeclare (at 132 1) (spec false false false false None (Some t.Int32)) (at 132 5) (codes "v131") None)
    (ParsedNext (ParsedDeclare (at 133 1) (spec false false false false None (Some t.Int32)) (at 133 5) (codes "v132") None)
    (ParsedNext (ParsedDeclare (at 134 1) (spec false false false false None (Some t.Int32)) (at 134 5) (codes "v133") None)
    (ParsedNext (ParsedDeclare (at 135 1) (spec false false false false None (Some t.Int32)) (at 135 5) (codes "v134") None)
    (ParsedNext (ParsedDeclare (at 136 1) (spec false false false false None (Some t.Int32)) (at 136 5) (codes "v135") None)
    (ParsedNext (ParsedDeclare (at 137 1) (spec false false false false None (Some t.Int32)) (at 137 5) (codes "v136") None)
    (ParsedNext (ParsedDeclare (at 138 1) (spec false false false false None (Some t.Int32)) (at 138 5) (codes "v137") None)
    (ParsedNext (ParsedDeclare (at 139 1) (spec false false false false None (Some t.Int32)) (at 139 5) (codes "v138") None)
    (ParsedNext (ParsedDeclare (at 140 1) (spec false false false false None (Some t.Int32)) (at 140 5) (codes "v139") None)
    (ParsedNext (ParsedDeclare (at 141 1) (spec false false false false None (Some t.Int32)) (at 141 5) (codes "v140") None)
    (ParsedNext (ParsedDeclare (at 142 1) (spec false false false false None (Some t.Int32)) (at 142 5) (codes "v141") None)
    (ParsedNext (ParsedDeclare (at 143 1) (spec false false false false None (Some t.Int32)) (at 143 5) (codes "v142") None)
    (ParsedNext (ParsedDeclare (at 144 1) (spec false false false false None (Some t.Int32)) (at 144 5) (codes "v143") None)
    (ParsedNext (ParsedDeclare (at 145 1) (spec false false false false None (Some t.Int32)) (at 145 5) (codes "v144") None)
    (ParsedNext (ParsedDeclare (at 146 1) (spec false false false false None (Some t.Int32)) (at 146 5) (codes "v145") None)
    (ParsedNext (ParsedDeclare (at 147 1) (spec false false false false None (Some t.Int32)) (at 147 5) (codes "v146") None)
    (ParsedNext (ParsedDeclare (at 148 1) (spec false false false false None (Some t.Int32)) (at 148 5) (codes "v147") None)
    (ParsedNext (ParsedDeclare (at 149 1) (spec false false false false None (Some t.Int32)) (at 149 5) (codes "v148") None)
    (ParsedNext (ParsedDeclare (at 150 1) (spec false false false false None (Some t.Int32)) (at 150 5) (codes "v149") None)
    (ParsedNext (ParsedDeclare (at 151 1) (spec false false false false None (Some t.Int32)) (at 151 5) (codes "v150") None)
    (ParsedNext (ParsedDeclare (at 152 1) (spec false false false false None (Some t.Int32)) (at 152 5) (codes "v151") None)
    (ParsedNext (ParsedDeclare (at 153 1) (spec false false false false None (Some t.Int32)) (at 153 5) (codes "v152") None)
    (ParsedNext (ParsedDeclare (at 154 1) (spec false false false false None (Some t.Int32)) (at 154 5) (codes "v153") None)
    (ParsedNext (ParsedDeclare (at 155 1) (spec false false false false None (Some t.Int32)) (at 155 5) (codes "v154") None)
    (ParsedNext (ParsedDeclare (at 156 1) (spec false false false false None (Some t.Int32)) (at 156 5) (codes "v155") None)
    (ParsedNext (ParsedDeclare (at 157 1) (spec false false false false None (Some t.Int32)) (at 157 5) (codes "v156") None)
    (ParsedNext (ParsedDeclare (at 158 1) (spec false false false false None (Some t.Int32)) (at 158 5) (codes "v157") None)
    (ParsedNext (ParsedDeclare (at 159 1) (spec false false false false None (Some t.Int32)) (at 159 5) (codes "v158") None)
    (ParsedNext (ParsedDeclare (at 160 1) (spec false false false false None (Some t.Int32)) (at 160 5) (codes "v159") None)
    (ParsedNext (ParsedDeclare (at 161 1) (spec false false false false None (Some t.Int32)) (at 161 5) (codes "v160") None)
    (ParsedNext (ParsedDeclare (at 162 1) (spec false false false false None (Some t.Int32)) (at 162 5) (codes "v161") None)
    (ParsedNext (ParsedDeclare (at 163 1) (spec false false false false None (Some t.Int32)) (at 163 5) (codes "v162") None)
    (ParsedNext (ParsedDeclare (at 164 1) (spec false false false false None (Some t.Int32)) (at 164 5) (codes "v163") None)
    (ParsedNext (ParsedDeclare (at 165 1) (spec false false false false None (Some t.Int32)) (at 165 5) (codes "v164") None)
    (ParsedNext (ParsedDeclare (at 166 1) (spec false false false false None (Some t.Int32)) (at 166 5) (codes "v165") None)
    (ParsedNext (ParsedDeclare (at 167 1) (spec false false false false None (Some t.Int32)) (at 167 5) (codes "v166") None)
    (ParsedNext (ParsedDeclare (at 168 1) (spec false false false false None (Some t.Int32)) (at 168 5) (codes "v167") None)
    (ParsedNext (ParsedDeclare (at 169 1) (spec false false false false None (Some t.Int32)) (at 169 5) (codes "v168") None)
    (ParsedNext (ParsedDeclare (at 170 1) (spec false false false false None (Some t.Int32)) (at 170 5) (codes "v169") None)
    (ParsedNext (ParsedDeclare (at 171 1) (spec false false false false None (Some t.Int32)) (at 171 5) (codes "v170") None)
    (ParsedNext (ParsedDeclare (at 172 1) (spec false false false false None (Some t.Int32)) (at 172 5) (codes "v171") None)
    (ParsedNext (ParsedDeclare (at 173 1) (spec false false false false None (Some t.Int32)) (at 173 5) (codes "v172") None)
    (ParsedNext (ParsedDeclare (at 174 1) (spec false false false false None (Some t.Int32)) (at 174 5) (codes "v173") None)
    (ParsedNext (ParsedDeclare (at 175 1) (spec false false false false None (Some t.Int32)) (at 175 5) (codes "v174") None)
    (ParsedNext (ParsedDeclare (at 176 1) (spec false false false false None (Some t.Int32)) (at 176 5) (codes "v175") None)
    (ParsedNext (ParsedDeclare (at 177 1) (spec false false false false None (Some t.Int32)) (at 177 5) (codes "v176") None)
    (ParsedNext (ParsedDeclare (at 178 1) (spec false false false false None (Some t.Int32)) (at 178 5) (codes "v177") None)
    (ParsedNext (ParsedDeclare (at 179 1) (spec false false false false None (Some t.Int32)) (at 179 5) (codes "v178") None)
    (ParsedNext (ParsedDeclare (at 180 1) (spec false false false false None (Some t.Int32)) (at 180 5) (codes "v179") None)
    (ParsedNext (ParsedDeclare (at 181 1) (spec false false false false None (Some t.Int32)) (at 181 5) (codes "v180") None)
    (ParsedNext (ParsedDeclare (at 182 1) (spec false false false false None (Some t.Int32)) (at 182 5) (codes "v181") None)
    (ParsedNext (ParsedDeclare (at 183 1) (spec false false false false None (Some t.Int32)) (at 183 5) (codes "v182") None)
    (ParsedNext (ParsedDeclare (at 184 1) (spec false false false false None (Some t.Int32)) (at 184 5) (codes "v183") None)
    (ParsedNext (ParsedDeclare (at 185 1) (spec false false false false None (Some t.Int32)) (at 185 5) (codes "v184") None)
    (ParsedNext (ParsedDeclare (at 186 1) (spec false false false false None (Some t.Int32)) (at 186 5) (codes "v185") None)
    (ParsedNext (ParsedDeclare (at 187 1) (spec false false false false None (Some t.Int32)) (at 187 5) (codes "v186") None)
    (ParsedNext (ParsedDeclare (at 188 1) (spec false false false false None (Some t.Int32)) (at 188 5) (codes "v187") None)
    (ParsedNext (ParsedDeclare (at 189 1) (spec false false false false None (Some t.Int32)) (at 189 5) (codes "v188") None)
    (ParsedNext (ParsedDeclare (at 190 1) (spec false false false false None (Some t.Int32)) (at 190 5) (codes "v189") None)
    (ParsedNext (ParsedDeclare (at 191 1) (spec false false false false None (Some t.Int32)) (at 191 5) (codes "v190") None)
    (ParsedNext (ParsedDeclare (at 192 1) (spec false false false false None (Some t.Int32)) (at 192 5) (codes "v191") None)
    (ParsedNext (ParsedDeclare (at 193 1) (spec false false false false None (Some t.Int32)) (at 193 5) (codes "v192") None)
    (ParsedNext (ParsedDeclare (at 194 1) (spec false false false false None (Some t.Int32)) (at 194 5) (codes "v193") None)
    (ParsedNext (ParsedDeclare (at 195 1) (spec false false false false None (Some t.Int32)) (at 195 5) (codes "v194") None)
    (ParsedNext (ParsedDeclare (at 196 1) (spec false false false false None (Some t.Int32)) (at 196 5) (codes "v195") None)
    (ParsedNext (ParsedDeclare (at 197 1) (spec false false false false None (Some t.Int32)) (at 197 5) (codes "v196") None)
    (ParsedNext (ParsedDeclare (at 198 1) (spec false false false false None (Some t.Int32)) (at 198 5) (codes "v197") None)
    (ParsedNext (ParsedDeclare (at 199 1) (spec false false false false None (Some t.Int32)) (at 199 5) (codes "v198") None)
    (ParsedNext (ParsedDeclare (at 200 1) (spec false false false false None (Some t.Int32)) (at 200 5) (codes "v199") None)
    (ParsedNext (ParsedDeclare (at 201 1) (spec false false false false None (Some t.Int32)) (at 201 5) (codes "v200") None)
    (ParsedNext (ParsedDeclare (at 202 1) (spec false false false false None (Some t.Int32)) (at 202 5) (codes "v201") None)
    (ParsedNext (ParsedDeclare (at 203 1) (spec false false false false None (Some t.Int32)) (at 203 5) (codes "v202") None)
    (ParsedNext (ParsedDeclare (at 204 1) (spec false false false false None (Some t.Int32)) (at 204 5) (codes "v203") None)
    (ParsedNext (ParsedDeclare (at 205 1) (spec false false false false None (Some t.Int32)) (at 205 5) (codes "v204") None)
    (ParsedNext (ParsedDeclare (at 206 1) (spec false false false false None (Some t.Int32)) (at 206 5) (codes "v205") None)
    (ParsedNext (ParsedDeclare (at 207 1) (spec false false false false None (Some t.Int32)) (at 207 5) (codes "v206") None)
    (ParsedNext (ParsedDeclare (at 208 1) (spec false false false false None (Some t.Int32)) (at 208 5) (codes "v207") None)
    (ParsedNext (ParsedDeclare (at 209 1) (spec false false false false None (Some t.Int32)) (at 209 5) (codes "v208") None)
    (ParsedNext (ParsedDeclare (at 210 1) (spec false false false false None (Some t.Int32)) (at 210 5) (codes "v209") None)
    (ParsedNext (ParsedDeclare (at 211 1) (spec false false false false None (Some t.Int32)) (at 211 5) (codes "v210") None)
    (ParsedNext (ParsedDeclare (at 212 1) (spec false false false false None (Some t.Int32)) (at 212 5) (codes "v211") None)
    (ParsedNext (ParsedDeclare (at 213 1) (spec false false false false None (Some t.Int32)) (at 213 5) (codes "v212") None)
    (ParsedNext (ParsedDeclare (at 214 1) (spec false false false false None (Some t.Int32)) (at 214 5) (codes "v213") None)
    (ParsedNext (ParsedDeclare (at 215 1) (spec false false false false None (Some t.Int32)) (at 215 5) (codes "v214") None)
    (ParsedNext (ParsedDeclare (at 216 1) (spec false false false false None (Some t.Int32)) (at 216 5) (codes "v215") None)
    (ParsedNext (ParsedDeclare (at 217 1) (spec false false false false None (Some t.Int32)) (at 217 5) (codes "v216") None)
    (ParsedNext (ParsedDeclare (at 218 1) (spec false false false false None (Some t.Int32)) (at 218 5) (codes "v217") None)
    (ParsedNext (ParsedDeclare (at 219 1) (spec false false false false None (Some t.Int32)) (at 219 5) (codes "v218") None)
    (ParsedNext (ParsedDeclare (at 220 1) (spec false false false false None (Some t.Int32)) (at 220 5) (codes "v219") None)
    (ParsedNext (ParsedDeclare (at 221 1) (spec false false false false None (Some t.Int32)) (at 221 5) (codes "v220") None)
    (ParsedNext (ParsedDeclare (at 222 1) (spec false false false false None (Some t.Int32)) (at 222 5) (codes "v221") None)
    (ParsedNext (ParsedDeclare (at 223 1) (spec false false false false None (Some t.Int32)) (at 223 5) (codes "v222") None)
    (ParsedNext (ParsedDeclare (at 224 1) (spec false false false false None (Some t.Int32)) (at 224 5) (codes "v223") None)
    (ParsedNext (ParsedDeclare (at 225 1) (spec false false false false None (Some t.Int32)) (at 225 5) (codes "v224") None)
    (ParsedNext (ParsedDeclare (at 226 1) (spec false false false false None (Some t.Int32)) (at 226 5) (codes "v225") None)
    (ParsedNext (ParsedDeclare (at 227 1) (spec false false false false None (Some t.Int32)) (at 227 5) (codes "v226") None)
    (ParsedNext (ParsedDeclare (at 228 1) (spec false false false false None (Some t.Int32)) (at 228 5) (codes "v227") None)
    (ParsedNext (ParsedDeclare (at 229 1) (spec false false false false None (Some t.Int32)) (at 229 5) (codes "v228") None)
    (ParsedNext (ParsedDeclare (at 230 1) (spec false false false false None (Some t.Int32)) (at 230 5) (codes "v229") None)
    (ParsedNext (ParsedDeclare (at 231 1) (spec false false false false None (Some t.Int32)) (at 231 5) (codes "v230") None)
    (ParsedNext (ParsedDeclare (at 232 1) (spec false false false false None (Some t.Int32)) (at 232 5) (codes "v231") None)
    (ParsedNext (ParsedDeclare (at 233 1) (spec false false false false None (Some t.Int32)) (at 233 5) (codes "v232") None)
    (ParsedNext (ParsedDeclare (at 234 1) (spec false false false false None (Some t.Int32)) (at 234 5) (codes "v233") None)
    (ParsedNext (ParsedDeclare (at 235 1) (spec false false false false None (Some t.Int32)) (at 235 5) (codes "v234") None)
    (ParsedNext (ParsedDeclare (at 236 1) (spec false false false false None (Some t.Int32)) (at 236 5) (codes "v235") None)
    (ParsedNext (ParsedDeclare (at 237 1) (spec false false false false None (Some t.Int32)) (at 237 5) (codes "v236") None)
    (ParsedNext (ParsedDeclare (at 238 1) (spec false false false false None (Some t.Int32)) (at 238 5) (codes "v237") None)
    (ParsedNext (ParsedDeclare (at 239 1) (spec false false false false None (Some t.Int32)) (at 239 5) (codes "v238") None)
    (ParsedNext (ParsedDeclare (at 240 1) (spec false false false false None (Some t.Int32)) (at 240 5) (codes "v239") None)
    (ParsedNext (ParsedDeclare (at 241 1) (spec false false false false None (Some t.Int32)) (at 241 5) (codes "v240") None)
    (ParsedNext (ParsedDeclare (at 242 1) (spec false false false false None (Some t.Int32)) (at 242 5) (codes "v241") None)
    (ParsedNext (ParsedDeclare (at 243 1) (spec false false false false None (Some t.Int32)) (at 243 5) (codes "v242") None)
    (ParsedNext (ParsedDeclare (at 244 1) (spec false false false false None (Some t.Int32)) (at 244 5) (codes "v243") None)
    (ParsedNext (ParsedDeclare (at 245 1) (spec false false false false None (Some t.Int32)) (at 245 5) (codes "v244") None)
    (ParsedNext (ParsedDeclare (at 246 1) (spec false false false false None (Some t.Int32)) (at 246 5) (codes "v245") None)
    (ParsedNext (ParsedDeclare (at 247 1) (spec false false false false None (Some t.Int32)) (at 247 5) (codes "v246") None)
    (ParsedNext (ParsedDeclare (at 248 1) (spec false false false false None (Some t.Int32)) (at 248 5) (codes "v247") None)
    (ParsedNext (ParsedDeclare (at 249 1) (spec false false false false None (Some t.Int32)) (at 249 5) (codes "v248") None)
    (ParsedNext (ParsedDeclare (at 250 1) (spec false false false false None (Some t.Int32)) (at 250 5) (codes "v249") None)
    (ParsedNext (ParsedDeclare (at 251 1) (spec false false false false None (Some t.Int32)) (at 251 5) (codes "v250") None)
    (ParsedNext (ParsedDeclare (at 252 1) (spec false false false false None (Some t.Int32)) (at 252 5) (codes "v251") None)
    (ParsedNext (ParsedDeclare (at 253 1) (spec false false false false None (Some t.Int32)) (at 253 5) (codes "v252") None)
    (ParsedNext (ParsedDeclare (at 254 1) (spec false false false false None (Some t.Int32)) (at 254 5) (codes "v253") None)
    (ParsedNext (ParsedDeclare (at 255 1) (spec false false false false None (Some t.Int32)) (at 255 5) (codes "v254") None)
    (ParsedNext (ParsedDeclare (at 256 1) (spec false false false false None (Some t.Int32)) (at 256 5) (codes "v255") None)
    (ParsedNext (ParsedDeclare (at 257 1) (spec false false false false None (Some t.Int32)) (at 257 5) (codes "v256") None)
    (ParsedNext (ParsedDeclare (at 258 1) (spec false false false false None (Some t.Int32)) (at 258 5) (codes "v257") None)
    ParsedLast))))))))))))))))))))))))))))))))))))))))))))))))))))))))))))))))))))))))))))))))))))))))))))))))))))))))))))))))))))))))))))))))))))))))))))))))))))))))))))))))))))))))))))))))))))))))))))))))))))))))))))))))))))))))))))))))))))))))))))))))))))))))))))))))) (at 259 1)) ∷ []

row_2 : run source_2 (codes "") (options 4 64 1000000)
    (codes "")
    ≡ codes "258:5: S13 Limit\n"
unfolding digits value_of residue word_of value_in wrapped binary_of
row_2 = refl

-- void f() { }
abbrev pub source_3 : ParsedSource
source_3 =
    (function (at 1 6) (codes "f") (spec false false false false None None) ([])
    ParsedLast (at 1 12)) ∷ []

row_3 : run source_3 (codes "") (options 4 64 1000000)
    (codes "")
    ≡ codes "entry: E1 NoEntry\n"
unfolding digits value_of residue word_of value_in wrapped binary_of
row_3 = refl

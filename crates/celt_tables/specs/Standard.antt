-- The tables in the rows of the standard (RFC 6716, section 4.3; the window is this project's own). Each constant of the
-- code is its list, by law_tables.
use Rattle.std.specs.Prelude.{ℕ, ◌∷◌, List, [], ℤ, pos, neg_ℤ}

-- Section 4.3: where the bands begin, 0 to 20, and where the last one ends, in coefficients of a frame of 120 samples.
abbrev pub edge_list : List ℕ
edge_list =
    0 ∷ 1 ∷ 2 ∷ 3 ∷ 4 ∷ 5 ∷ 6 ∷ 7 ∷ 8 ∷ 10 ∷ 12 ∷ 14 ∷ 16 ∷ 20 ∷ 24 ∷ 28 ∷ 34 ∷ 40 ∷ 48 ∷ 60 ∷ 78 ∷ 100 ∷ []

-- Section 4.3.3: the logarithms of the widths of the bands, 0 to 20, in eighths of a bit.
abbrev pub width_logarithm_list : List ℕ
width_logarithm_list =
    0 ∷ 0 ∷ 0 ∷ 0 ∷ 0 ∷ 0 ∷ 0 ∷ 0 ∷ 8 ∷ 8 ∷ 8 ∷ 8 ∷ 16 ∷ 16 ∷ 16 ∷ 21 ∷ 21 ∷ 24 ∷ 29 ∷ 34 ∷ 36 ∷ []

-- Section 4.3.3: the eighths of a bit of a choice of one of so many bands and one more, 0 to 23.
abbrev pub band_choice_list : List ℕ
band_choice_list =
    0 ∷ 8 ∷ 13 ∷ 16 ∷ 19 ∷ 21 ∷ 23 ∷ 24 ∷ 26 ∷ 27 ∷ 28 ∷ 29 ∷ 30 ∷ 31 ∷ 32 ∷ 32 ∷ 33 ∷ 34 ∷ 34 ∷ 35 ∷ 36 ∷ 36 ∷
    37 ∷ 37 ∷ []

-- Section 4.3.2: the mean energies of the bands, 0 to 20, in 1/16 of a power of two.
abbrev pub mean_list : List ℕ
mean_list =
    103 ∷ 100 ∷ 92 ∷ 85 ∷ 81 ∷ 77 ∷ 72 ∷ 70 ∷ 78 ∷ 75 ∷ 73 ∷ 71 ∷ 78 ∷ 74 ∷ 69 ∷ 72 ∷ 70 ∷ 74 ∷ 76 ∷ 71 ∷ 60 ∷ []

-- Section 4.3.7: the rising half of the window, samples 0 to 119 (Q15).
abbrev pub window_list : List ℕ
window_list =
    2 ∷ 20 ∷ 55 ∷ 108 ∷ 178 ∷ 266 ∷ 372 ∷ 494 ∷ 635 ∷ 792 ∷ 966 ∷ 1157 ∷ 1365 ∷ 1590 ∷ 1831 ∷ 2089 ∷ 2362 ∷ 2651 ∷
    2956 ∷ 3276 ∷ 3611 ∷ 3961 ∷ 4325 ∷ 4703 ∷ 5094 ∷ 5499 ∷ 5916 ∷ 6346 ∷ 6788 ∷ 7241 ∷ 7705 ∷ 8179 ∷ 8663 ∷ 9156 ∷
    9657 ∷ 10167 ∷ 10684 ∷ 11207 ∷ 11736 ∷ 12271 ∷ 12810 ∷ 13353 ∷ 13899 ∷ 14447 ∷ 14997 ∷ 15547 ∷ 16098 ∷ 16648 ∷
    17197 ∷ 17744 ∷ 18287 ∷ 18827 ∷ 19363 ∷ 19893 ∷ 20418 ∷ 20936 ∷ 21447 ∷ 21950 ∷ 22445 ∷ 22931 ∷ 23407 ∷ 23874 ∷
    24330 ∷ 24774 ∷ 25208 ∷ 25629 ∷ 26039 ∷ 26435 ∷ 26819 ∷ 27190 ∷ 27548 ∷ 27893 ∷ 28224 ∷ 28541 ∷ 28845 ∷ 29135 ∷
    29411 ∷ 29674 ∷ 29924 ∷ 30160 ∷ 30384 ∷ 30594 ∷ 30792 ∷ 30977 ∷ 31151 ∷ 31313 ∷ 31463 ∷ 31602 ∷ 31731 ∷ 31849 ∷
    31958 ∷ 32057 ∷ 32148 ∷ 32229 ∷ 32303 ∷ 32370 ∷ 32429 ∷ 32481 ∷ 32528 ∷ 32568 ∷ 32604 ∷ 32634 ∷ 32661 ∷ 32683 ∷
    32701 ∷ 32717 ∷ 32729 ∷ 32740 ∷ 32748 ∷ 32754 ∷ 32758 ∷ 32762 ∷ 32764 ∷ 32766 ∷ 32767 ∷ 32767 ∷ 32767 ∷ 32767 ∷
    32767 ∷ 32767 ∷ []

-- Section 4.3.3: the greatest amounts, in 1/64 of a bit for each coefficient of each channel, less 64. Row 2*lm +
-- channels - 1, then the band, 0 to 20.
abbrev cap_rows_0 : List ℕ
cap_rows_0 =
    224 ∷ 224 ∷ 224 ∷ 224 ∷ 224 ∷ 224 ∷ 224 ∷ 224 ∷ 160 ∷ 160 ∷ 160 ∷ 160 ∷ 185 ∷ 185 ∷ 185 ∷ 178 ∷ 178 ∷ 168 ∷
    134 ∷ 61 ∷ 37 ∷ []

abbrev cap_rows_1 : List ℕ
cap_rows_1 =
    224 ∷ 224 ∷ 224 ∷ 224 ∷ 224 ∷ 224 ∷ 224 ∷ 224 ∷ 240 ∷ 240 ∷ 240 ∷ 240 ∷ 207 ∷ 207 ∷ 207 ∷ 198 ∷ 198 ∷ 183 ∷
    144 ∷ 66 ∷ 40 ∷ []

abbrev cap_rows_2 : List ℕ
cap_rows_2 =
    160 ∷ 160 ∷ 160 ∷ 160 ∷ 160 ∷ 160 ∷ 160 ∷ 160 ∷ 185 ∷ 185 ∷ 185 ∷ 185 ∷ 193 ∷ 193 ∷ 193 ∷ 183 ∷ 183 ∷ 172 ∷
    138 ∷ 64 ∷ 38 ∷ []

abbrev cap_rows_3 : List ℕ
cap_rows_3 =
    240 ∷ 240 ∷ 240 ∷ 240 ∷ 240 ∷ 240 ∷ 240 ∷ 240 ∷ 207 ∷ 207 ∷ 207 ∷ 207 ∷ 204 ∷ 204 ∷ 204 ∷ 193 ∷ 193 ∷ 180 ∷
    143 ∷ 66 ∷ 40 ∷ []

abbrev cap_rows_4 : List ℕ
cap_rows_4 =
    185 ∷ 185 ∷ 185 ∷ 185 ∷ 185 ∷ 185 ∷ 185 ∷ 185 ∷ 193 ∷ 193 ∷ 193 ∷ 193 ∷ 193 ∷ 193 ∷ 193 ∷ 183 ∷ 183 ∷ 172 ∷
    138 ∷ 65 ∷ 39 ∷ []

abbrev cap_rows_5 : List ℕ
cap_rows_5 =
    207 ∷ 207 ∷ 207 ∷ 207 ∷ 207 ∷ 207 ∷ 207 ∷ 207 ∷ 204 ∷ 204 ∷ 204 ∷ 204 ∷ 201 ∷ 201 ∷ 201 ∷ 188 ∷ 188 ∷ 176 ∷
    141 ∷ 66 ∷ 40 ∷ []

abbrev cap_rows_6 : List ℕ
cap_rows_6 =
    193 ∷ 193 ∷ 193 ∷ 193 ∷ 193 ∷ 193 ∷ 193 ∷ 193 ∷ 193 ∷ 193 ∷ 193 ∷ 193 ∷ 194 ∷ 194 ∷ 194 ∷ 184 ∷ 184 ∷ 173 ∷
    139 ∷ 65 ∷ 39 ∷ []

abbrev cap_rows_7 : List ℕ
cap_rows_7 =
    204 ∷ 204 ∷ 204 ∷ 204 ∷ 204 ∷ 204 ∷ 204 ∷ 204 ∷ 201 ∷ 201 ∷ 201 ∷ 201 ∷ 198 ∷ 198 ∷ 198 ∷ 187 ∷ 187 ∷ 175 ∷
    140 ∷ 66 ∷ 40 ∷ []

abbrev pub cap_rows : List (List ℕ)
cap_rows = cap_rows_0 ∷ cap_rows_1 ∷ cap_rows_2 ∷ cap_rows_3 ∷ cap_rows_4 ∷ cap_rows_5 ∷ cap_rows_6 ∷ cap_rows_7 ∷ []

-- Section 4.3.3: the usual amounts, in 1/32 of a bit for each coefficient of each channel. The quality, 0 to 10, then the
-- band, 0 to 20.
abbrev allocation_rows_0 : List ℕ
allocation_rows_0 =
    0 ∷ 0 ∷ 0 ∷ 0 ∷ 0 ∷ 0 ∷ 0 ∷ 0 ∷ 0 ∷ 0 ∷ 0 ∷ 0 ∷ 0 ∷ 0 ∷ 0 ∷ 0 ∷ 0 ∷ 0 ∷ 0 ∷ 0 ∷ 0 ∷ []

abbrev allocation_rows_1 : List ℕ
allocation_rows_1 =
    90 ∷ 80 ∷ 75 ∷ 69 ∷ 63 ∷ 56 ∷ 49 ∷ 40 ∷ 34 ∷ 29 ∷ 20 ∷ 18 ∷ 10 ∷ 0 ∷ 0 ∷ 0 ∷ 0 ∷ 0 ∷ 0 ∷ 0 ∷ 0 ∷ []

abbrev allocation_rows_2 : List ℕ
allocation_rows_2 =
    110 ∷ 100 ∷ 90 ∷ 84 ∷ 78 ∷ 71 ∷ 65 ∷ 58 ∷ 51 ∷ 45 ∷ 39 ∷ 32 ∷ 26 ∷ 20 ∷ 12 ∷ 0 ∷ 0 ∷ 0 ∷ 0 ∷ 0 ∷ 0 ∷ []

abbrev allocation_rows_3 : List ℕ
allocation_rows_3 =
    118 ∷ 110 ∷ 103 ∷ 93 ∷ 86 ∷ 80 ∷ 75 ∷ 70 ∷ 65 ∷ 59 ∷ 53 ∷ 47 ∷ 40 ∷ 31 ∷ 23 ∷ 15 ∷ 4 ∷ 0 ∷ 0 ∷ 0 ∷ 0 ∷ []

abbrev allocation_rows_4 : List ℕ
allocation_rows_4 =
    126 ∷ 119 ∷ 112 ∷ 104 ∷ 95 ∷ 89 ∷ 83 ∷ 78 ∷ 72 ∷ 66 ∷ 60 ∷ 54 ∷ 47 ∷ 39 ∷ 32 ∷ 25 ∷ 17 ∷ 12 ∷ 1 ∷ 0 ∷ 0 ∷ []

abbrev allocation_rows_5 : List ℕ
allocation_rows_5 =
    134 ∷ 127 ∷ 120 ∷ 114 ∷ 103 ∷ 97 ∷ 91 ∷ 85 ∷ 78 ∷ 72 ∷ 66 ∷ 60 ∷ 54 ∷ 47 ∷ 41 ∷ 35 ∷ 29 ∷ 23 ∷ 16 ∷ 10 ∷ 1 ∷ []

abbrev allocation_rows_6 : List ℕ
allocation_rows_6 =
    144 ∷ 137 ∷ 130 ∷ 124 ∷ 113 ∷ 107 ∷ 101 ∷ 95 ∷ 88 ∷ 82 ∷ 76 ∷ 70 ∷ 64 ∷ 57 ∷ 51 ∷ 45 ∷ 39 ∷ 33 ∷ 26 ∷ 15 ∷ 1 ∷
    []

abbrev allocation_rows_7 : List ℕ
allocation_rows_7 =
    152 ∷ 145 ∷ 138 ∷ 132 ∷ 123 ∷ 117 ∷ 111 ∷ 105 ∷ 98 ∷ 92 ∷ 86 ∷ 80 ∷ 74 ∷ 67 ∷ 61 ∷ 55 ∷ 49 ∷ 43 ∷ 36 ∷ 20 ∷ 1 ∷
    []

abbrev allocation_rows_8 : List ℕ
allocation_rows_8 =
    162 ∷ 155 ∷ 148 ∷ 142 ∷ 133 ∷ 127 ∷ 121 ∷ 115 ∷ 108 ∷ 102 ∷ 96 ∷ 90 ∷ 84 ∷ 77 ∷ 71 ∷ 65 ∷ 59 ∷ 53 ∷ 46 ∷ 30 ∷
    1 ∷ []

abbrev allocation_rows_9 : List ℕ
allocation_rows_9 =
    172 ∷ 165 ∷ 158 ∷ 152 ∷ 143 ∷ 137 ∷ 131 ∷ 125 ∷ 118 ∷ 112 ∷ 106 ∷ 100 ∷ 94 ∷ 87 ∷ 81 ∷ 75 ∷ 69 ∷ 63 ∷ 56 ∷ 45 ∷
    20 ∷ []

abbrev allocation_rows_10 : List ℕ
allocation_rows_10 =
    200 ∷ 200 ∷ 200 ∷ 200 ∷ 200 ∷ 200 ∷ 200 ∷ 200 ∷ 198 ∷ 193 ∷ 188 ∷ 183 ∷ 178 ∷ 173 ∷ 168 ∷ 163 ∷ 158 ∷ 153 ∷
    148 ∷ 129 ∷ 104 ∷ []

abbrev pub allocation_rows : List (List ℕ)
allocation_rows = allocation_rows_0 ∷ allocation_rows_1 ∷ allocation_rows_2 ∷ allocation_rows_3 ∷ allocation_rows_4 ∷ allocation_rows_5 ∷ allocation_rows_6 ∷ allocation_rows_7 ∷ allocation_rows_8 ∷ allocation_rows_9 ∷ allocation_rows_10 ∷ []

-- Section 4.3.2.1: the models of the coarse energies (Q8). The size lm, inter and intra, then for each band, 0 to 20, the
-- probability of 0 and the decay.
abbrev inter_0 : List ℕ
inter_0 =
    72 ∷ 127 ∷ 65 ∷ 129 ∷ 66 ∷ 128 ∷ 65 ∷ 128 ∷ 64 ∷ 128 ∷ 62 ∷ 128 ∷ 64 ∷ 128 ∷ 64 ∷ 128 ∷ 92 ∷ 78 ∷ 92 ∷ 79 ∷
    92 ∷ 78 ∷ 90 ∷ 79 ∷ 116 ∷ 41 ∷ 115 ∷ 40 ∷ 114 ∷ 40 ∷ 132 ∷ 26 ∷ 132 ∷ 26 ∷ 145 ∷ 17 ∷ 161 ∷ 12 ∷ 176 ∷ 10 ∷
    177 ∷ 11 ∷ []

abbrev intra_0 : List ℕ
intra_0 =
    24 ∷ 179 ∷ 48 ∷ 138 ∷ 54 ∷ 135 ∷ 54 ∷ 132 ∷ 53 ∷ 134 ∷ 56 ∷ 133 ∷ 55 ∷ 132 ∷ 55 ∷ 132 ∷ 61 ∷ 114 ∷ 70 ∷ 96 ∷
    74 ∷ 88 ∷ 75 ∷ 88 ∷ 87 ∷ 74 ∷ 89 ∷ 66 ∷ 91 ∷ 67 ∷ 100 ∷ 59 ∷ 108 ∷ 50 ∷ 120 ∷ 40 ∷ 122 ∷ 37 ∷ 97 ∷ 43 ∷ 78 ∷
    50 ∷ []

abbrev inter_1 : List ℕ
inter_1 =
    83 ∷ 78 ∷ 84 ∷ 81 ∷ 88 ∷ 75 ∷ 86 ∷ 74 ∷ 87 ∷ 71 ∷ 90 ∷ 73 ∷ 93 ∷ 74 ∷ 93 ∷ 74 ∷ 109 ∷ 40 ∷ 114 ∷ 36 ∷ 117 ∷
    34 ∷ 117 ∷ 34 ∷ 143 ∷ 17 ∷ 145 ∷ 18 ∷ 146 ∷ 19 ∷ 162 ∷ 12 ∷ 165 ∷ 10 ∷ 178 ∷ 7 ∷ 189 ∷ 6 ∷ 190 ∷ 8 ∷ 177 ∷ 9 ∷
    []

abbrev intra_1 : List ℕ
intra_1 =
    23 ∷ 178 ∷ 54 ∷ 115 ∷ 63 ∷ 102 ∷ 66 ∷ 98 ∷ 69 ∷ 99 ∷ 74 ∷ 89 ∷ 71 ∷ 91 ∷ 73 ∷ 91 ∷ 78 ∷ 89 ∷ 86 ∷ 80 ∷ 92 ∷
    66 ∷ 93 ∷ 64 ∷ 102 ∷ 59 ∷ 103 ∷ 60 ∷ 104 ∷ 60 ∷ 117 ∷ 52 ∷ 123 ∷ 44 ∷ 138 ∷ 35 ∷ 133 ∷ 31 ∷ 97 ∷ 38 ∷ 77 ∷ 45 ∷
    []

abbrev inter_2 : List ℕ
inter_2 =
    61 ∷ 90 ∷ 93 ∷ 60 ∷ 105 ∷ 42 ∷ 107 ∷ 41 ∷ 110 ∷ 45 ∷ 116 ∷ 38 ∷ 113 ∷ 38 ∷ 112 ∷ 38 ∷ 124 ∷ 26 ∷ 132 ∷ 27 ∷
    136 ∷ 19 ∷ 140 ∷ 20 ∷ 155 ∷ 14 ∷ 159 ∷ 16 ∷ 158 ∷ 18 ∷ 170 ∷ 13 ∷ 177 ∷ 10 ∷ 187 ∷ 8 ∷ 192 ∷ 6 ∷ 175 ∷ 9 ∷
    159 ∷ 10 ∷ []

abbrev intra_2 : List ℕ
intra_2 =
    21 ∷ 178 ∷ 59 ∷ 110 ∷ 71 ∷ 86 ∷ 75 ∷ 85 ∷ 84 ∷ 83 ∷ 91 ∷ 66 ∷ 88 ∷ 73 ∷ 87 ∷ 72 ∷ 92 ∷ 75 ∷ 98 ∷ 72 ∷ 105 ∷
    58 ∷ 107 ∷ 54 ∷ 115 ∷ 52 ∷ 114 ∷ 55 ∷ 112 ∷ 56 ∷ 129 ∷ 51 ∷ 132 ∷ 40 ∷ 150 ∷ 33 ∷ 140 ∷ 29 ∷ 98 ∷ 35 ∷ 77 ∷
    42 ∷ []

abbrev inter_3 : List ℕ
inter_3 =
    42 ∷ 121 ∷ 96 ∷ 66 ∷ 108 ∷ 43 ∷ 111 ∷ 40 ∷ 117 ∷ 44 ∷ 123 ∷ 32 ∷ 120 ∷ 36 ∷ 119 ∷ 33 ∷ 127 ∷ 33 ∷ 134 ∷ 34 ∷
    139 ∷ 21 ∷ 147 ∷ 23 ∷ 152 ∷ 20 ∷ 158 ∷ 25 ∷ 154 ∷ 26 ∷ 166 ∷ 21 ∷ 173 ∷ 16 ∷ 184 ∷ 13 ∷ 184 ∷ 10 ∷ 150 ∷ 13 ∷
    139 ∷ 15 ∷ []

abbrev intra_3 : List ℕ
intra_3 =
    22 ∷ 178 ∷ 63 ∷ 114 ∷ 74 ∷ 82 ∷ 84 ∷ 83 ∷ 92 ∷ 82 ∷ 103 ∷ 62 ∷ 96 ∷ 72 ∷ 96 ∷ 67 ∷ 101 ∷ 73 ∷ 107 ∷ 72 ∷ 113 ∷
    55 ∷ 118 ∷ 52 ∷ 125 ∷ 52 ∷ 118 ∷ 52 ∷ 117 ∷ 55 ∷ 135 ∷ 49 ∷ 137 ∷ 39 ∷ 157 ∷ 32 ∷ 145 ∷ 29 ∷ 97 ∷ 33 ∷ 77 ∷
    40 ∷ []

abbrev pub model_rows : List (List (List ℕ))
model_rows =
    (inter_0 ∷ intra_0 ∷ [])
    ∷ (inter_1 ∷ intra_1 ∷ [])
    ∷ (inter_2 ∷ intra_2 ∷ [])
    ∷ (inter_3 ∷ intra_3 ∷ [])
    ∷ []

-- Section 4.3.4.5: the changes of resolution, in halvings. The size lm, then 4*transient + 2*select + flag.
abbrev pub change_rows : List (List ℤ)
change_rows =
    (pos 0 ∷ neg_ℤ (pos 1) ∷ pos 0 ∷ neg_ℤ (pos 1) ∷ pos 0 ∷ neg_ℤ (pos 1) ∷ pos 0 ∷ neg_ℤ (pos 1) ∷ [])
    ∷ (pos 0 ∷ neg_ℤ (pos 1) ∷ pos 0 ∷ neg_ℤ (pos 2) ∷ pos 1 ∷ pos 0 ∷ pos 1 ∷ neg_ℤ (pos 1) ∷ [])
    ∷ (pos 0 ∷ neg_ℤ (pos 2) ∷ pos 0 ∷ neg_ℤ (pos 3) ∷ pos 2 ∷ pos 0 ∷ pos 1 ∷ neg_ℤ (pos 1) ∷ [])
    ∷ (pos 0 ∷ neg_ℤ (pos 2) ∷ pos 0 ∷ neg_ℤ (pos 3) ∷ pos 3 ∷ pos 0 ∷ pos 1 ∷ neg_ℤ (pos 1) ∷ [])
    ∷ []

-- What a level is multiplied by, at quantiser 0 to 31.
use Rattle.std.specs.Prelude.{List, [], ◌∷◌, ℕ, get_or}

-- DEQUANT_COEFF_TABLE
abbrev pub dequant_coeff_table : List ℕ
dequant_coeff_table =
    3881 ∷ 4351 ∷ 4890 ∷ 5481 ∷ 6154 ∷ 6914 ∷ 7761 ∷ 8718 ∷ 9781 ∷ 10987 ∷ 12339 ∷ 13828 ∷ 15523 ∷ 17435 ∷ 19561 ∷ 21873
    ∷ 24552 ∷ 27656 ∷ 30847 ∷ 34870 ∷ 38807 ∷ 43747 ∷ 49103 ∷ 54683 ∷ 61694 ∷ 68745 ∷ 77615 ∷ 89113 ∷ 100253 ∷ 109366 ∷ 126635 ∷ 141533
    ∷ []

-- CHROMA_QUANTISER_INDEX
abbrev pub chroma_quantiser_index_table : List ℕ
chroma_quantiser_index_table =
    0 ∷ 1 ∷ 2 ∷ 3 ∷ 4 ∷ 5 ∷ 6 ∷ 7 ∷ 8 ∷ 9 ∷ 10 ∷ 11 ∷ 12 ∷ 13 ∷ 14 ∷ 15 ∷ 16 ∷ 17
    ∷ 17 ∷ 18 ∷ 19 ∷ 20 ∷ 20 ∷ 21 ∷ 22 ∷ 22 ∷ 23 ∷ 23 ∷ 24 ∷ 24 ∷ 25 ∷ 25
    ∷ []

-- of a luma level
unfoldable pub dequant_coeff : ℕ → ℕ
dequant_coeff q = get_or dequant_coeff_table q 0

unfoldable pub chroma_quantiser_index : ℕ → ℕ
chroma_quantiser_index q = get_or chroma_quantiser_index_table q 0

-- of a chroma level
unfoldable pub chroma_coeff : ℕ → ℕ
chroma_coeff q = dequant_coeff (chroma_quantiser_index q)

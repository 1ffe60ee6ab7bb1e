-- Whether the octets of a decodable character end tokens: at most four octets from the end say it.
use Rattle.uri_ops.proofs.Common.{common_steps, ◌≡◌, ℕ, ◌<◌, ◌≤◌, ◌⊎◌, inl, inr, List, [], ◌∷◌, ◌++◌, length, map, set, refl, sym, ap, ◌∙◌, arith, ⊎_elim, encode_utf8, append-nil, length-append, encode_same, length-encode, len_utf8_bounds, TableSet, Token, Octet, EndInNoOctet, EndInNoDecodable, TokensEndInNoDecodable}

pub char_has_one_to_four_bytes : (c : ℕ) → (1 ≤ length (encode_utf8 c))
    × (length (encode_utf8 c) ≤ 4)
char_has_one_to_four_bytes c = grind (arith, len_utf8_bounds, length-encode)

pub first_char_is_only_char : (bytes rest : List ℕ) (c d : ℕ) → bytes ≡ encode_utf8 c ++ rest
    → bytes ≡ encode_utf8 d → (c ≡ d) × (rest ≡ [])
first_char_is_only_char bytes rest c d e f =
    encode_same c d rest [] (sym e ∙ f ∙ sym (append-nil (encode_utf8 d)))

same_octets_have_same_values : (bs es : List ℕ) → map Octet bs ≡ map Octet es → bs ≡ es
same_octets_have_same_values [] [] e = refl
same_octets_have_same_values [] (b ∷ es) e = cc
same_octets_have_same_values (b ∷ bs) [] e = cc
same_octets_have_same_values (b ∷ bs) (f ∷ es) e =
    grind (arith, common_steps, (same_octets_have_same_values bs es))

octets_end_octets : (before : List Token) (bs es : List ℕ)
    → map Octet bs ≡ before ++ map Octet es → (xs : List ℕ) × (bs ≡ xs ++ es)
octets_end_octets [] bs es e = ([], same_octets_have_same_values bs es e)
octets_end_octets (t ∷ before) [] es e = cc
octets_end_octets (t ∷ before) (b ∷ bs) es e =
    let tail : map Octet bs ≡ before ++ map Octet es = cc in
    let rest = octets_end_octets before bs es tail in
    (b ∷ rest.0, ap (λ t. b ∷ t) rest.1)

-- unreserved octets: the last of the tokens is an octet
abbrev EndInOctet : List Token → Type 0
EndInOctet ts = (before : List Token) × ((value : ℕ) × (ts ≡ before ++ Octet value ∷ []))

tokens_within_octets_end_in_octet : (t : Token) (ts : List Token) (bs es : List ℕ)
    → t ∷ (ts ++ map Octet bs) ≡ map Octet es → (length bs < length es) × EndInOctet (t ∷ ts)
tokens_within_octets_end_in_octet t ts bs [] e = cc
tokens_within_octets_end_in_octet t [] bs (f ∷ es) e =
    grind (arith, common_steps, same_octets_have_same_values)
tokens_within_octets_end_in_octet t (u ∷ ts) bs (f ∷ es) e =
    let tail : u ∷ (ts ++ map Octet bs) ≡ map Octet es = cc in
    let rest = tokens_within_octets_end_in_octet u ts bs es tail in
    (omega arith, (t ∷ rest.1.0, (rest.1.1.0, ap (λ us. t ∷ us) rest.1.1.1)))

octets_end_octets_or_are_more : (ts before : List Token) (bs es : List ℕ)
    → ts ++ map Octet bs ≡ before ++ map Octet es
    → ((xs : List ℕ) × (bs ≡ xs ++ es)) ⊎ ((length bs < length es) × EndInOctet ts)
octets_end_octets_or_are_more [] before bs es e = inl (octets_end_octets before bs es e)
octets_end_octets_or_are_more (t ∷ ts) [] bs es e =
    inr (tokens_within_octets_end_in_octet t ts bs es e)
octets_end_octets_or_are_more (t ∷ ts) (b ∷ before) bs es e =
    let tail : ts ++ map Octet bs ≡ before ++ map Octet es = cc in
    ⊎_elim (λ among. inl among)
    (λ more. inr (more.0, (t ∷ more.1.0, (more.1.1.0, ap (λ us. t ∷ us) more.1.1.1))))
    (octets_end_octets_or_are_more ts before bs es tail)

-- unreserved octets: if no octet is before octets, only they may be those of a last character
pub no_decodable_ends_after_no_octet : (set : TableSet) (all ts : List Token) (bs : List ℕ)
    → all ≡ ts ++ map Octet bs → EndInNoOctet ts → EndInNoDecodable set bs
    → TokensEndInNoDecodable set all
no_decodable_ends_after_no_octet set all ts bs same no_octet none before c scalar decodable e =
    ⊎_elim (λ among. none among.0 c scalar decodable among.1)
    (λ more. no_octet more.1.0 more.1.1.0 more.1.1.1)
    (octets_end_octets_or_are_more ts before bs (encode_utf8 c) (sym same ∙ e))

-- unreserved octets: only the last four octets may be those of a last character
pub no_decodable_ends_with_four_octets : (set : TableSet) (all ts : List Token) (bs : List ℕ) → all
    ≡ ts ++ map Octet bs → 4 ≤ length bs → EndInNoDecodable set bs → TokensEndInNoDecodable set all
no_decodable_ends_with_four_octets set all ts bs same four none before c scalar decodable e =
    ⊎_elim (λ among. none among.0 c scalar decodable among.1)
    (λ more. let few = char_has_one_to_four_bytes c in absurd (omega arith))
    (octets_end_octets_or_are_more ts before bs (encode_utf8 c) (sym same ∙ e))

pub none_ends_no_bytes : (set : TableSet) → EndInNoDecodable set []
none_ends_no_bytes set before c scalar decodable e =
    let some = char_has_one_to_four_bytes c in
    absurd (omega (arith, ap length e, length-append before (encode_utf8 c)))

-- One more text of a register.
use Rattle.uri_links.proofs.Common.{◌≡◌, ℕ, List, [], ◌∷◌, ◌++◌, None, sym, subst, ◌∙◌, arith, rules, bytes_eq, IsDistinct, position, map-append, IsDistinct-push, IsTextOf, uri, normal_text, Rules, meaning_under}
use Rattle.std.proofs.lemmas.Cmp.{nat_list_eq_equiv}
use Rattle.std.proofs.lemmas.List.Folds.{list_all-append}
use Rattle.std.proofs.lemmas.Str.{is_utf8-from_IsUtf8}
use Rattle.uri_links.specs.Registered.{AreNormal, AreUris}
use Rattle.uri_links.proofs.Places.{position-None-no-element-passes}

pub no-texts-are-distinct : (texts : List (List ℕ)) → texts ≡ [] → IsDistinct bytes_eq texts
unfolding IsDistinct
no-texts-are-distinct texts e = rw e tt

normal-append : (rules : Rules) (texts : List (List ℕ)) (text : List ℕ) → AreNormal rules texts
    → normal_text (meaning_under uri rules text) ≡ text → AreNormal rules (texts ++ text ∷ [])
normal-append rules texts text h e = map-append _ texts (text ∷ []) ∙ (λ i. h i ++ e i ∷ [])

uris-append : (texts : List (List ℕ)) (text : List ℕ) → AreUris texts → IsTextOf uri text
    → AreUris (texts ++ text ∷ [])
uris-append texts text h is = grind (arith, list_all-append, is_utf8-from_IsUtf8)

pub uris-after-adding : (texts after : List (List ℕ)) (text : List ℕ) → after ≡ texts ++ text ∷ []
    → AreUris texts → IsTextOf uri text → AreUris after
uris-after-adding texts after text a h is = subst AreUris (sym a) (uris-append texts text h is)

pub normal-after-adding : (rules : Rules) (texts after : List (List ℕ)) (text : List ℕ)
    → after ≡ texts ++ text ∷ [] → AreNormal rules texts
    → normal_text (meaning_under uri rules text) ≡ text → AreNormal rules after
normal-after-adding rules texts after text a h e =
    subst (AreNormal rules) (sym a) (normal-append rules texts text h e)

pub distinct-after-adding : (texts after : List (List ℕ)) (text : List ℕ) → after
    ≡ texts ++ text ∷ []
    → IsDistinct bytes_eq texts → position (bytes_eq text) texts ≡ None → IsDistinct bytes_eq after
distinct-after-adding texts after text a h e = subst (IsDistinct bytes_eq) (sym a) (IsDistinct-push
    nat_list_eq_equiv texts text h (position-None-no-element-passes (bytes_eq text) texts e))

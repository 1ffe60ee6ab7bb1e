-- Texts of two kinds, and whether each is an exception to the law of viable prefixes.
use Rattle.std.specs.Prelude.{ℕ, Bool, true, false, List, [], ◌∷◌, codes}
use Rattle.uri_parts.specs.Prelude.{Kind, uri, uri_ref}

-- texts of a kind, and whether the error of each is an exception to the law of viable prefixes: it
-- is late
abbrev pub late_error_rows : List (Kind × List ℕ × Bool)
late_error_rows =
    (uri, codes "3ab", true) ∷
    (uri, codes "ab", false) ∷
    (uri, codes "://", false) ∷
    (uri_ref, codes "//[:::1", true) ∷
    (uri_ref, codes "//[1:2:3:4:5:6:7::8", true) ∷
    (uri_ref, codes "//[::1911f", true) ∷
    (uri_ref, codes "//[::1", false) ∷
    (uri_ref, codes "//[::1911", false) ∷
    (uri_ref, codes "//[v1.a", false) ∷
    (uri, codes "//[:::1", false) ∷
    (uri, codes "a://u@[:::1", true) ∷
    (uri_ref, codes "//u@a:1:2%zz", true) ∷
    (uri_ref, codes "//[::1]a%zz", true) ∷
    (uri_ref, codes "//[::1]/a%zz", false) ∷
    (uri_ref, codes "//a:a%zz", false) ∷
    (uri_ref, codes "//u@a:1:2", false) ∷
    []

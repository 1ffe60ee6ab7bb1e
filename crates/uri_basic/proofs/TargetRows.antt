-- The examples of RFC 3986, section 5.4, by computation.
use Rattle.uri_basic.proofs.Common.{◌≡◌, ℕ, List, refl, Ok, Err, rules, codes, components, directory, NothingDeviates, remove_dot_segments, output_of, run, basic_resolution_of_texts, PathStartsWithDoubleSlash}

-- examples of targets: the reference resolves to the target against the base of section 5.4
IsTargetOf : List ℕ → List ℕ → Type 0
IsTargetOf reference target =
    basic_resolution_of_texts (codes "http://a/b/c/d;p?q") reference ≡ Ok target

-- examples of targets: the normal examples (section 5.4.1)
normal-examples : IsTargetOf (codes "g:h") (codes "g:h")
    × IsTargetOf (codes "g") (codes "http://a/b/c/g")
    × IsTargetOf (codes "./g") (codes "http://a/b/c/g")
    × IsTargetOf (codes "g/") (codes "http://a/b/c/g/")
    × IsTargetOf (codes "/g") (codes "http://a/g") × IsTargetOf (codes "//g") (codes "http://g")
    × IsTargetOf (codes "?y") (codes "http://a/b/c/d;p?y")
    × IsTargetOf (codes "g?y") (codes "http://a/b/c/g?y")
    × IsTargetOf (codes "#s") (codes "http://a/b/c/d;p?q#s")
    × IsTargetOf (codes "g#s") (codes "http://a/b/c/g#s")
    × IsTargetOf (codes "g?y#s") (codes "http://a/b/c/g?y#s")
    × IsTargetOf (codes ";x") (codes "http://a/b/c/;x")
    × IsTargetOf (codes "g;x") (codes "http://a/b/c/g;x")
    × IsTargetOf (codes "g;x?y#s") (codes "http://a/b/c/g;x?y#s")
    × IsTargetOf (codes "") (codes "http://a/b/c/d;p?q")
    × IsTargetOf (codes ".") (codes "http://a/b/c/")
    × IsTargetOf (codes "./") (codes "http://a/b/c/")
    × IsTargetOf (codes "..") (codes "http://a/b/") × IsTargetOf (codes "../") (codes "http://a/b/")
    × IsTargetOf (codes "../g") (codes "http://a/b/g")
    × IsTargetOf (codes "../..") (codes "http://a/")
    × IsTargetOf (codes "../../") (codes "http://a/")
    × IsTargetOf (codes "../../g") (codes "http://a/g")
unfolding IsTargetOf remove_dot_segments output_of run
normal-examples = search rules

-- examples of targets: the abnormal examples, for strict parsers (section 5.4.2)
abnormal-examples : IsTargetOf (codes "../../../g") (codes "http://a/g")
    × IsTargetOf (codes "../../../../g") (codes "http://a/g")
    × IsTargetOf (codes "/./g") (codes "http://a/g")
    × IsTargetOf (codes "/../g") (codes "http://a/g")
    × IsTargetOf (codes "g.") (codes "http://a/b/c/g.")
    × IsTargetOf (codes ".g") (codes "http://a/b/c/.g")
    × IsTargetOf (codes "g..") (codes "http://a/b/c/g..")
    × IsTargetOf (codes "..g") (codes "http://a/b/c/..g")
    × IsTargetOf (codes "./../g") (codes "http://a/b/g")
    × IsTargetOf (codes "./g/.") (codes "http://a/b/c/g/")
    × IsTargetOf (codes "g/./h") (codes "http://a/b/c/g/h")
    × IsTargetOf (codes "g/../h") (codes "http://a/b/c/h")
    × IsTargetOf (codes "g;x=1/./y") (codes "http://a/b/c/g;x=1/y")
    × IsTargetOf (codes "g;x=1/../y") (codes "http://a/b/c/y")
    × IsTargetOf (codes "g?y/./x") (codes "http://a/b/c/g?y/./x")
    × IsTargetOf (codes "g?y/../x") (codes "http://a/b/c/g?y/../x")
    × IsTargetOf (codes "g#s/./x") (codes "http://a/b/c/g#s/./x")
    × IsTargetOf (codes "g#s/../x") (codes "http://a/b/c/g#s/../x")
    × IsTargetOf (codes "http:g") (codes "http:g")
unfolding IsTargetOf remove_dot_segments output_of run
abnormal-examples = search rules

-- examples of targets: the two paths of section 5.2.4
removals : (remove_dot_segments (codes "/a/b/c/./../../g") ≡ codes "/a/g")
    × (remove_dot_segments (codes "mid/content=5/../6") ≡ codes "mid/6")
unfolding remove_dot_segments output_of run
removals = (refl, refl)

-- examples of targets: what the last text is for a base and a reference that `Resolver` resolves
-- otherwise, or rejects
IsBasicTarget : List ℕ → List ℕ → List ℕ → Type 0
IsBasicTarget base reference target = basic_resolution_of_texts base reference ≡ Ok target

deviating-examples : IsBasicTarget (codes "foo:bar") (codes "g") (codes "foo:g")
    × IsBasicTarget (codes "http://a/b") (codes "%2E%2E/g") (codes "http://a/%2E%2E/g")
    × IsBasicTarget (codes "http://a/b/..") (codes "g") (codes "http://a/b/g")
    × IsBasicTarget (codes "http://a/./b") (codes "?q") (codes "http://a/./b?q")
    × IsBasicTarget (codes "http://a/") (codes "foo:a/../b") (codes "foo:/b")
    × IsBasicTarget (codes "http://a/b#f") (codes "g") (codes "http://a/g")
    × (basic_resolution_of_texts (codes "foo:/a") (codes ".//b") ≡ Err PathStartsWithDoubleSlash)
unfolding IsBasicTarget remove_dot_segments output_of run
deviating-examples = (refl, refl, refl, refl, refl, refl, refl)

-- examples of targets: no difference concerns `../g` and the base of section 5.4
nothing-deviates-in-an-example :
    NothingDeviates (components (codes "http://a/b/c/d;p?q")) (components (codes "../g"))
unfolding remove_dot_segments output_of run directory
nothing-deviates-in-an-example = search rules

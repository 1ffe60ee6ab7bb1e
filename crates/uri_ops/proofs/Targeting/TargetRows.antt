-- Rows that compute: RFC 3986, section 5.4, and what is not in the RFC.
use Rattle.uri_ops.proofs.Common.{◌≡◌, ℕ, true, false, List, [], refl, Ok, Err, arith, codes, nat_tests, components, remove_dot_segments, underflows, directory, run, TargetError, BaseWithFragment, InvalidReferenceAgainstOpaqueBase, resolution_of, target_underflows}

-- examples of targets: base and reference resolve to the target, without an underflow
ResolvesTo : List ℕ → List ℕ → List ℕ → Type 0
ResolvesTo base reference target = (resolution_of (components base) (components reference)
    ≡ Ok target) × (target_underflows (components base) (components reference) ≡ false)

-- examples of targets: base and reference resolve to the target, by an underflow
UnderflowsToTarget : List ℕ → List ℕ → List ℕ → Type 0
UnderflowsToTarget base reference target = (resolution_of (components base) (components reference)
    ≡ Ok target) × (target_underflows (components base) (components reference) ≡ true)

-- examples of targets: base and reference have no target, but this error
Rejects : List ℕ → List ℕ → TargetError → Type 0
Rejects base reference refusal = resolution_of (components base) (components reference)
    ≡ Err refusal

-- examples of targets: the base of RFC 3986, section 5.4
base : List ℕ
base = codes "http://a/b/c/d;p?q"

-- examples of targets, by computation: the normal examples of RFC 3986, section 5.4.1
rfc-normal-examples-resolve : ResolvesTo base (codes "g:h") (codes "g:h")
    × ResolvesTo base (codes "g") (codes "http://a/b/c/g")
    × ResolvesTo base (codes "./g") (codes "http://a/b/c/g")
    × ResolvesTo base (codes "g/") (codes "http://a/b/c/g/")
    × ResolvesTo base (codes "/g") (codes "http://a/g")
    × ResolvesTo base (codes "//g") (codes "http://g")
    × ResolvesTo base (codes "?y") (codes "http://a/b/c/d;p?y")
    × ResolvesTo base (codes "g?y") (codes "http://a/b/c/g?y")
    × ResolvesTo base (codes "#s") (codes "http://a/b/c/d;p?q#s")
    × ResolvesTo base (codes "g#s") (codes "http://a/b/c/g#s")
    × ResolvesTo base (codes "g?y#s") (codes "http://a/b/c/g?y#s")
    × ResolvesTo base (codes ";x") (codes "http://a/b/c/;x")
    × ResolvesTo base (codes "g;x") (codes "http://a/b/c/g;x")
    × ResolvesTo base (codes "g;x?y#s") (codes "http://a/b/c/g;x?y#s")
    × ResolvesTo base [] (codes "http://a/b/c/d;p?q")
    × ResolvesTo base (codes ".") (codes "http://a/b/c/")
    × ResolvesTo base (codes "./") (codes "http://a/b/c/")
    × ResolvesTo base (codes "..") (codes "http://a/b/")
    × ResolvesTo base (codes "../") (codes "http://a/b/")
    × ResolvesTo base (codes "../g") (codes "http://a/b/g")
    × ResolvesTo base (codes "../..") (codes "http://a/")
    × ResolvesTo base (codes "../../") (codes "http://a/")
    × ResolvesTo base (codes "../../g") (codes "http://a/g")
unfolding ResolvesTo base remove_dot_segments underflows directory run
rfc-normal-examples-resolve = grind (arith, nat_tests)

-- examples of targets, by computation: the abnormal examples of RFC 3986, section 5.4.2
rfc-abnormal-examples-resolve : UnderflowsToTarget base (codes "../../../g") (codes "http://a/g")
    × UnderflowsToTarget base (codes "../../../../g") (codes "http://a/g")
    × ResolvesTo base (codes "/./g") (codes "http://a/g")
    × UnderflowsToTarget base (codes "/../g") (codes "http://a/g")
    × ResolvesTo base (codes "g.") (codes "http://a/b/c/g.")
    × ResolvesTo base (codes ".g") (codes "http://a/b/c/.g")
    × ResolvesTo base (codes "g..") (codes "http://a/b/c/g..")
    × ResolvesTo base (codes "..g") (codes "http://a/b/c/..g")
    × ResolvesTo base (codes "./../g") (codes "http://a/b/g")
    × ResolvesTo base (codes "./g/.") (codes "http://a/b/c/g/")
    × ResolvesTo base (codes "g/./h") (codes "http://a/b/c/g/h")
    × ResolvesTo base (codes "g/../h") (codes "http://a/b/c/h")
    × ResolvesTo base (codes "g;x=1/./y") (codes "http://a/b/c/g;x=1/y")
    × ResolvesTo base (codes "g;x=1/../y") (codes "http://a/b/c/y")
    × ResolvesTo base (codes "g?y/./x") (codes "http://a/b/c/g?y/./x")
    × ResolvesTo base (codes "g?y/../x") (codes "http://a/b/c/g?y/../x")
    × ResolvesTo base (codes "g#s/./x") (codes "http://a/b/c/g#s/./x")
    × ResolvesTo base (codes "g#s/../x") (codes "http://a/b/c/g#s/../x")
    × ResolvesTo base (codes "http:g") (codes "http:g")
unfolding ResolvesTo UnderflowsToTarget base remove_dot_segments underflows directory run
rfc-abnormal-examples-resolve = grind (arith, nat_tests)

-- examples of targets, by computation: encoded dots, `/.` before `//`, a base that ends in `..`, an
-- empty reference path, rootless paths
other-examples-resolve : ResolvesTo (codes "foo:/bar/..") (codes ".") (codes "foo:/")
    × ResolvesTo (codes "foo:/") (codes ".//@@") (codes "foo:/.//@@")
    × ResolvesTo (codes "http://x/") (codes "//a:80") (codes "http://a:80")
    × ResolvesTo (codes "foo:/bar/baz/.%2E/") (codes "..") (codes "foo:/")
    × ResolvesTo (codes "foo:/.") [] (codes "foo:/")
    × ResolvesTo (codes "http://a/b") (codes "foo:a/../b") (codes "foo:a/../b")
    × ResolvesTo (codes "http://a") (codes "g") (codes "http://a/g")
    × ResolvesTo (codes "foo:") (codes "#x") (codes "foo:#x")
    × UnderflowsToTarget (codes "foo:/..") (codes "?a") (codes "foo:/?a")
    × UnderflowsToTarget (codes "HTTP://A/%2e%2E/b/c") (codes "%2E./d") (codes "HTTP://A/d")
    × ResolvesTo
    (codes "http://example.com/foo/bar") (codes "?baz") (codes "http://example.com/foo/bar?baz")
    × ResolvesTo (codes "foo:bar") (codes "g:h/..") (codes "g:h/..")
    × ResolvesTo (codes "foo:bar?q") [] (codes "foo:bar?q")
unfolding ResolvesTo UnderflowsToTarget remove_dot_segments underflows directory run
other-examples-resolve = grind (arith, nat_tests)

-- examples of rejected references, by computation: the base's fragment is tested first
examples-are-rejected : Rejects (codes "foo:bar") (codes "//g") InvalidReferenceAgainstOpaqueBase
    × Rejects (codes "foo:bar#x") (codes "//g") BaseWithFragment
    × Rejects (codes "foo:") (codes "g") InvalidReferenceAgainstOpaqueBase
    × Rejects (codes "foo:bar/..") (codes "?a") InvalidReferenceAgainstOpaqueBase
    × Rejects (codes "foo:bar") (codes "/g") InvalidReferenceAgainstOpaqueBase
    × Rejects (codes "foo://a#") (codes "g") BaseWithFragment
unfolding Rejects
examples-are-rejected = (refl, refl, refl, refl, refl, refl)

-- Rows that compute.
use Rattle.uri_ops.proofs.Common.{arith, ◌≡◌, ℕ, true, false, List, [], ◌∷◌, ◌++◌, refl, codes, remove_dot_segments, underflows, directory, lacks_dot_segments, run}

-- examples of dot segments: a path is the other without its dot segments, and doesn't underflow
LosesDotsTo : List ℕ → List ℕ → Type 0
LosesDotsTo path output = (remove_dot_segments path ≡ output) × (underflows path ≡ false)

-- examples of dot segments: a path underflows, and is the other without its dot segments
UnderflowsTo : List ℕ → List ℕ → Type 0
UnderflowsTo path output = (remove_dot_segments path ≡ output) × (underflows path ≡ true)

-- example of removing dot segments, by computation: RFC 3986, section 5.2.4
rfc-example-loses-dot-segments : LosesDotsTo (codes "/a/b/c/./../../g") (codes "/a/g")
unfolding LosesDotsTo remove_dot_segments underflows run
rfc-example-loses-dot-segments = (refl, refl)

-- examples of removing dot segments, by computation: RFC 3986, section 5.4,
-- for the base's directory `/b/c/`
rfc-normal-examples-lose-dot-segments : LosesDotsTo (codes "/b/c/g") (codes "/b/c/g")
    × LosesDotsTo (codes "/b/c/./g") (codes "/b/c/g")
    × LosesDotsTo (codes "/b/c/g/") (codes "/b/c/g/")
    × LosesDotsTo (codes "/b/c/;x") (codes "/b/c/;x") × LosesDotsTo (codes "/b/c/.") (codes "/b/c/")
    × LosesDotsTo (codes "/b/c/./") (codes "/b/c/") × LosesDotsTo (codes "/b/c/..") (codes "/b/")
    × LosesDotsTo (codes "/b/c/../") (codes "/b/") × LosesDotsTo (codes "/b/c/../g") (codes "/b/g")
    × LosesDotsTo (codes "/b/c/../..") (codes "/") × LosesDotsTo (codes "/b/c/../../") (codes "/")
    × LosesDotsTo (codes "/b/c/../../g") (codes "/g")
unfolding LosesDotsTo remove_dot_segments underflows run
rfc-normal-examples-lose-dot-segments = grind arith

-- examples of dot segments: those of RFC 3986, section 5.4, by computation
rfc-abnormal-examples-lose-dot-segments : UnderflowsTo (codes "/b/c/../../../g") (codes "/g")
    × UnderflowsTo (codes "/b/c/../../../../g") (codes "/g")
    × LosesDotsTo (codes "/./g") (codes "/g")
    × UnderflowsTo (codes "/../g") (codes "/g") × LosesDotsTo (codes "/b/c/g.") (codes "/b/c/g.")
    × LosesDotsTo (codes "/b/c/.g") (codes "/b/c/.g")
    × LosesDotsTo (codes "/b/c/g..") (codes "/b/c/g..")
    × LosesDotsTo (codes "/b/c/..g") (codes "/b/c/..g")
    × LosesDotsTo (codes "/b/c/./../g") (codes "/b/g")
    × LosesDotsTo (codes "/b/c/./g/.") (codes "/b/c/g/")
    × LosesDotsTo (codes "/b/c/g/./h") (codes "/b/c/g/h")
    × LosesDotsTo (codes "/b/c/g/../h") (codes "/b/c/h")
    × LosesDotsTo (codes "/b/c/g;x=1/./y") (codes "/b/c/g;x=1/y")
    × LosesDotsTo (codes "/b/c/g;x=1/../y") (codes "/b/c/y")
unfolding LosesDotsTo UnderflowsTo remove_dot_segments underflows run
rfc-abnormal-examples-lose-dot-segments = grind arith

-- examples of removing dot segments, by computation: encoded dots, in either case and mixed
encoded-dot-segments-are-removed : LosesDotsTo (codes "/a/b/%2E%2e/c") (codes "/a/c")
    × LosesDotsTo (codes "/a/b/c/%2E/%2E./%2e%2E/d") (codes "/a/d")
    × LosesDotsTo (codes "/a/.%2e") (codes "/")
    × LosesDotsTo (codes "/a/%2e") (codes "/a/") × UnderflowsTo (codes "/%2e.") (codes "/")
    × LosesDotsTo (codes "/a/%2F../%2e%2e%2e/..%2e") (codes "/a/%2F../%2e%2e%2e/..%2e")
unfolding LosesDotsTo UnderflowsTo remove_dot_segments underflows run
encoded-dot-segments-are-removed =
    ((refl, refl), (refl, refl), (refl, refl), (refl, refl), (refl, refl), (refl, refl))

-- examples of removing dot segments, by computation: dot segments at the end, and empty segments
trailing-dots-leave-slash : LosesDotsTo (codes "/a/b/..") (codes "/a/")
    × LosesDotsTo (codes "/.") (codes "/")
    × LosesDotsTo (codes "/./") (codes "/") × UnderflowsTo (codes "/..") (codes "/")
    × UnderflowsTo (codes "/../a") (codes "/a") × LosesDotsTo (codes "//..") (codes "/")
    × UnderflowsTo (codes "//../..") (codes "/") × LosesDotsTo (codes "//../a") (codes "/a")
    × LosesDotsTo (codes "/a//../b") (codes "/a/b") × LosesDotsTo (codes "/.//a") (codes "//a")
    × LosesDotsTo (codes "/") (codes "/") × LosesDotsTo [] []
unfolding LosesDotsTo UnderflowsTo remove_dot_segments underflows run
trailing-dots-leave-slash = grind arith

-- examples of directories of paths, by computation (RFC 3986, section 5.2.3)
directories-of-example-paths : (directory [] ≡ codes "/")
    × (directory (codes "/") ≡ codes "/") × (directory (codes "/b/c/d;p") ≡ codes "/b/c/")
    × (directory (codes "/bar/..") ≡ codes "/bar/../") × (directory (codes "/bar/%2E.")
    ≡ codes "/bar/%2E./") × (directory (codes "/bar/.") ≡ codes "/bar/")
    × (directory (codes "/bar/../") ≡ codes "/bar/../") × (directory (codes "//") ≡ codes "//")
unfolding directory
directories-of-example-paths = (refl, refl, refl, refl, refl, refl, refl, refl)

lacks_dot_segments-of-example-paths : (lacks_dot_segments (codes "/a/...//b.%2e") ≡ true)
    × (lacks_dot_segments (codes "/a/./b") ≡ false)
    × (lacks_dot_segments (codes "/a/b/%2e.") ≡ false) × (lacks_dot_segments (codes "/..") ≡ false)
lacks_dot_segments-of-example-paths = (refl, refl, refl, refl)

full-width-dot-is-no-dot-segment : LosesDotsTo (codes "/a/" ++ (0xEF ∷ 0xBC ∷ 0x8E
    ∷ 0xEF ∷ 0xBC ∷ 0x8E ∷ [])) (codes "/a/" ++ (0xEF ∷ 0xBC ∷ 0x8E ∷ 0xEF ∷ 0xBC ∷ 0x8E ∷ []))
    × LosesDotsTo (codes "/a/%EF%BC%8E") (codes "/a/%EF%BC%8E")
unfolding LosesDotsTo remove_dot_segments underflows run
full-width-dot-is-no-dot-segment = ((refl, refl), (refl, refl))

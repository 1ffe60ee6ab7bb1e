-- The components of some texts, by computation.
use Rattle.uri_parts.proofs.Common.{◌≡◌, [], refl, codes, Some, None, components, recompose}

-- examples of splitting: the components of the example of RFC 3986, section 3
components-of-rfc-3986-example : components (codes "foo://example.com/over/there?name=ferret#nose")
    ≡ record {
      scheme = Some (codes "foo");
      authority = Some (codes "example.com");
      path = codes "/over/there";
      query = Some (codes "name=ferret");
      fragment = Some (codes "nose");
    }
components-of-rfc-3986-example = refl

-- examples of splitting: the components of the URN of RFC 3986, section 3
components-of-rfc-3986-urn : components (codes "urn:example:animal:ferret:nose") ≡ record {
  scheme = Some (codes "urn");
  authority = None;
  path = codes "example:animal:ferret:nose";
  query = None;
  fragment = None;
}
components-of-rfc-3986-urn = refl

-- examples of splitting: the components of the example of RFC 3986, section 3, are the text again
rfc-3986-example-recomposes : recompose
    (components (codes "foo://example.com/over/there?name=ferret#nose"))
    ≡ codes "foo://example.com/over/there?name=ferret#nose"
rfc-3986-example-recomposes = refl

empty-text-has-empty-path-alone : components []
    ≡ record { scheme = None; authority = None; path = []; query = None; fragment = None }
empty-text-has-empty-path-alone = refl

components-of-authority-alone : components (codes "//h") ≡ record {
  scheme = None;
  authority = Some (codes "h");
  path = [];
  query = None;
  fragment = None;
}
components-of-authority-alone = refl

components-of-empty-authority : components (codes "file:///a") ≡ record {
  scheme = Some (codes "file");
  authority = Some [];
  path = codes "/a";
  query = None;
  fragment = None;
}
components-of-empty-authority = refl

components-of-query-and-fragment : components (codes "?q#f") ≡ record {
  scheme = None;
  authority = None;
  path = [];
  query = Some (codes "q");
  fragment = Some (codes "f");
}
components-of-query-and-fragment = refl

components-of-empty-query-and-fragment : components (codes "?#")
    ≡ record { scheme = None; authority = None; path = []; query = Some []; fragment = Some [] }
components-of-empty-query-and-fragment = refl

fragment-may-hold-marks : components (codes "#a#b?c:d") ≡ record {
  scheme = None;
  authority = None;
  path = [];
  query = None;
  fragment = Some (codes "a#b?c:d");
}
fragment-may-hold-marks = refl

first_colon_ends_the_scheme : components (codes "a:b:c") ≡ record {
  scheme = Some (codes "a");
  authority = None;
  path = codes "b:c";
  query = None;
  fragment = None;
}
first_colon_ends_the_scheme = refl

colon-at-start-begins-no-scheme : components (codes ":x")
    ≡ record { scheme = None; authority = None; path = codes ":x"; query = None; fragment = None }
colon-at-start-begins-no-scheme = refl

double-slash-inside-path-begins-no-authority : components (codes "/a//b") ≡ record {
  scheme = None;
  authority = None;
  path = codes "/a//b";
  query = None;
  fragment = None;
}
double-slash-inside-path-begins-no-authority = refl

-- The link of an attribute of a page, such as `href`: RFC 3986, section 2.1, and the HTML standard.
use Rattle.std.specs.Prelude.{ℕ, List}
use Rattle.fluent_uri.specs.Prelude.{uri_ref}
use Rattle.uri_mend.specs.Mending.{mended_text}
use Rattle.uri_mend.specs.Trimming.{trimmed_link}

-- the URI reference of an attribute of a page: without the white space that HTML drops, and mended
abbrev pub link_of : List ℕ → List ℕ
link_of attribute = mended_text uri_ref (trimmed_link attribute)

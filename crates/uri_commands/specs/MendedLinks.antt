-- The links that `mend` of the programs writes.
use Rattle.std.specs.Prelude.{ℕ, List, if◌then◌else◌}
use Rattle.fluent_uri.specs.Prelude.{Kind}
use Rattle.uri_mend.specs.Mending.{can_be_mended, mended_text}
use Rattle.uri_mend.specs.Trimming.{trimmed_link}

-- the text of the kind that a link of a page is mended to; if it cannot be mended, the link without
-- its white space, which is no text of the kind
unfoldable pub mended_link : Kind → List ℕ → List ℕ
mended_link kind text =
    if can_be_mended kind (trimmed_link text) then mended_text kind (trimmed_link text)
    else trimmed_link text

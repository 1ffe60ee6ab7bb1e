-- Why a text is not mended.
use Rattle.std.specs.Prelude.{◌≡◌, ◌⊎◌, ℕ, List, true, false, Some}
use Rattle.std.specs.List.{list_any}
use Rattle.uri_parts.specs.Prelude.{Kind, refusal}
use Rattle.uri_mend.specs.Mending.{can_be_mended}
use Rattle.uri_pct.specs.Prelude.{is_one_of}
use Rattle.uri_mend.specs.Trimming.{tab_and_newlines, trimmed_link, without_outer_space}
use Rattle.uri_mend.specs.declared.error.MendError.{MendError}
use Rattle.uri_mend.specs.declared.error.MendError.TheVariants.{Unmendable, OutOfMemory}

-- the error is right for the text: it cannot be mended, and the parser rejects it with this error;
-- or it can be mended, and there is no memory
abbrev pub IsMendErrorOf : Kind → List ℕ → MendError → Type 0
IsMendErrorOf kind text (Unmendable error) = (can_be_mended kind text ≡ false)
    × (refusal kind text ≡ Some error)
IsMendErrorOf kind text OutOfMemory = can_be_mended kind text ≡ true

-- the error is right for the link of a page: it is right for what the link is trimmed to, or there
-- is no memory to trim it
abbrev pub IsLinkErrorOf : Kind → List ℕ → MendError → Type 0
IsLinkErrorOf kind text (Unmendable error) =
    IsMendErrorOf kind (trimmed_link text) (Unmendable error)
IsLinkErrorOf kind text OutOfMemory = (can_be_mended kind (trimmed_link text) ≡ true)
    ⊎ (list_any (is_one_of tab_and_newlines) (without_outer_space text) ≡ true)

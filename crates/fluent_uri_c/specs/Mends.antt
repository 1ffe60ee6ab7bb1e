-- What a text is mended to by a call for C: RFC 3986, sections 2.1 and 4.2.
use Rattle.std.specs.Prelude.{ℕ, Bool, ◌&&◌, ◌||◌, List, Option, None, Ok, is_none, is_some, if◌then◌else◌, option_map}
use Rattle.std.specs.List.{list_any}
use Rattle.std.specs.Result.{is_ok}
use Rattle.fluent_uri.specs.Prelude.{Kind, refusal}
use Rattle.uri_pct.specs.Prelude.{is_one_of}
use Rattle.uri_mend.specs.Mending.{can_be_mended, mended_text}
use Rattle.uri_mend.specs.Trimming.{tab_and_newlines, trimmed_link, without_outer_space}
use Rattle.fluent_uri_c.specs.declared.errors.Rejection.{Rejection}
use Rattle.fluent_uri_c.specs.Errors.{parse_rejection}
use Rattle.fluent_uri_c.specs.Kinds.{kind_numbered}
use Rattle.fluent_uri_c.specs.Results.{Returned, first_rejection, rejection_or_result, utf8_error, with_valid_number}

-- why a text cannot be mended to one of the kind, if it cannot: the error of parsing it
abbrev pub unmendable_error : Kind → List ℕ → Option Rejection
unmendable_error kind text =
    if can_be_mended kind text then None else option_map parse_rejection (refusal kind text)

-- the result of a call for C that mends bytes: the text of the kind, or why there is none
abbrev pub mended_result : Kind → List ℕ → Returned
mended_result kind bytes =
    rejection_or_result (first_rejection (utf8_error bytes) (unmendable_error kind bytes))
    (Ok (mended_text kind bytes))

-- the result of a call for C that mends bytes as a link of a page: without the white space that
-- HTML drops
abbrev pub mended_link_result : Kind → List ℕ → Returned
mended_link_result kind bytes =
    rejection_or_result
    (first_rejection (utf8_error bytes) (unmendable_error kind (trimmed_link bytes)))
    (Ok (mended_text kind (trimmed_link bytes)))

-- whether the white space of a link is dropped in a copy: bytes are a text with a tab, LF or CR
-- between other characters
abbrev pub is_link_copied : List ℕ → Bool
is_link_copied bytes =
    is_none (utf8_error bytes) && list_any (is_one_of tab_and_newlines) (without_outer_space bytes)

-- whether a call for C takes memory to mend a link: for the result, or for a copy
abbrev pub takes_memory_for_link : Kind → List ℕ → Bool
takes_memory_for_link kind bytes =
    is_ok (mended_link_result kind bytes) || is_link_copied bytes

-- the result of `fluent_uri_mend` for the kind with a number of the C header
abbrev pub mend_result : ℕ → List ℕ → Returned
mend_result n text = with_valid_number (kind_numbered n) λ kind. mended_result kind text

-- the result of `fluent_uri_mend_link` for the kind with a number of the C header
abbrev pub mend_link_result : ℕ → List ℕ → Returned
mend_link_result n text = with_valid_number (kind_numbered n) λ kind. mended_link_result kind text

-- whether `fluent_uri_mend_link` takes memory for a text; the number is that of the kind
abbrev pub mend_link_takes_memory : ℕ → List ℕ → Bool
mend_link_takes_memory n text =
    is_ok (mend_link_result n text) || (is_some (kind_numbered n) && is_link_copied text)

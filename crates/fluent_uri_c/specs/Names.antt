-- The versions of the library and of its normal forms, and the names and messages of its errors.
use Rattle.std.specs.Prelude.{ℕ, List, ◌==◌, ◌++◌, codes, Option, Some, None, Ok, if◌then◌else◌}
use Rattle.fluent_uri_c.specs.Results.{Returned, with_valid_number}

-- the version of the library, 0.1.0, as a number: a byte for each part
abbrev pub version : ℕ
version = 0x000100

-- the version of normal forms: it is another wherever one of them is
abbrev pub normal_version : ℕ
normal_version = 2

-- the name in the C header of an error with a number, if there is one
abbrev pub error_name : ℕ → Option (List ℕ)
error_name n =
    if n == 0 then Some (codes "FLUENT_URI_OK")
    else (if n == 1 then Some (codes "FLUENT_URI_INVALID_PCT_ENCODED_OCTET")
    else (if n == 2 then Some (codes "FLUENT_URI_UNEXPECTED_CHAR")
    else (if n == 3 then Some (codes "FLUENT_URI_INVALID_IPV6_ADDR")
    else (if n == 4 then Some (codes "FLUENT_URI_NOT_UTF8")
    else (if n == 5 then Some (codes "FLUENT_URI_BASE_WITH_FRAGMENT")
    else (if n == 6 then Some (codes "FLUENT_URI_INVALID_REFERENCE_AGAINST_OPAQUE_BASE")
    else (if n == 7 then Some (codes "FLUENT_URI_PATH_UNDERFLOW")
    else (if n == 8 then Some (codes "FLUENT_URI_OUT_OF_MEMORY")
    else (if n == 9 then Some (codes "FLUENT_URI_INVALID_ARGUMENT")
    else (if n == 10 then Some (codes "FLUENT_URI_FULL")
    else (if n == 11 then Some (codes "FLUENT_URI_NONEMPTY_ROOTLESS_PATH")
    else (if n == 12 then Some (codes "FLUENT_URI_PATH_STARTS_WITH_DOUBLE_SLASH")
    else (if n == 13 then Some (codes "FLUENT_URI_FIRST_PATH_SEGMENT_CONTAINS_COLON")
    else (if n == 14 then Some (codes "FLUENT_URI_MISSING_COMPONENT")
    else (if n == 15 then Some (codes "FLUENT_URI_NAME_NOT_UTF8")
    else (if n == 16 then Some (codes "FLUENT_URI_INVALID_NAME") else None))))))))))))))))

-- the result of `fluent_uri_error_name` for an error with a number of the C header
abbrev pub error_name_result : ℕ → Returned
error_name_result n = with_valid_number (error_name n) λ name. Ok name

-- the message of an error with a number of the C header
abbrev pub error_message : ℕ → List ℕ
error_message n =
    if n == 0 then codes "no error"
    else (if n == 1 then codes "invalid percent-encoded octet"
    else (if n == 2 then codes "unexpected character"
    else (if n == 3 then codes "invalid IPv6 address"
    else (if n == 4 then codes "not UTF-8"
    else (if n == 5 then codes "base should not have fragment"
    else (if n == 6
    then codes "when base has a rootless path and no authority, reference should either "
    ++ codes "have scheme, be empty or start with '#'"
    else (if n == 7 then codes "underflow occurred in path resolution"
    else (if n == 8 then codes "out of memory"
    else (if n == 9 then codes "invalid argument"
    else (if n == 10 then codes "output too small"
    else (if n == 11
    then codes "when authority is present, path should either be empty or start with '/'"
    else (if n == 12
    then codes "when authority is not present, path should not start with \"//\""
    else (if n == 13
    then codes "when neither scheme nor authority is present, first path segment should "
    ++ codes "not contain ':'"
    else (if n == 14 then codes "missing component"
    else (if n == 15 then codes "registered name does not decode to valid UTF-8"
    else (if n == 16 then codes "invalid domain name"
    else codes "unknown error"))))))))))))))))

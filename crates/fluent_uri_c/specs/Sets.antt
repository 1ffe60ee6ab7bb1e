-- The components by the numbers of the header, with their characters: RFC 3986, appendix A, and RFC
-- 3987, section 2.2.
use Rattle.std.specs.Prelude.{ℕ, ◌==◌, Option, Some, None, if◌then◌else◌}
use Rattle.fluent_uri.specs.Prelude.{TableSet, data_set, fragment_set, ifragment_set, ipath_set, iquery_set, ireg_name_set, iuserinfo_set, path_set, query_set, reg_name_set, userinfo_set}

-- the set by which the component with a number of the C header is encoded, if there is one
abbrev pub encoding_set : ℕ → Option TableSet
encoding_set n =
    if n == 0 then Some userinfo_set
    else (if n == 1 then Some reg_name_set
    else (if n == 2 then Some path_set
    else (if n == 3 then Some query_set
    else (if n == 4 then Some fragment_set else (if n == 8 then Some data_set else None)))))

-- the set for which a component with a number of the C header is valid when it is decoded, if there
-- is one
abbrev pub decoding_set : ℕ → Option TableSet
decoding_set n =
    if n == 0 then Some iuserinfo_set
    else (if n == 1 then Some ireg_name_set
    else (if n == 2 then Some ipath_set
    else (if n == 3 then Some iquery_set else (if n == 4 then Some ifragment_set else None))))

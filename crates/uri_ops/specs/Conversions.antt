-- When a value of one kind is one of another: RFC 3986, sections 3 and 4.1, and RFC 3987, section
-- 3.1.
use Rattle.std.specs.Prelude.{◌≡◌, ◌↔◌, ℕ, Bool, not, nat_lt, List, Option, Some, None, is_some, option_map, Result, IsOk, IfOk, IfErr, if◌then◌else◌}
use Rattle.std.specs.List.{position}
use Rattle.std.specs.Option.{option_or}
use Rattle.std.specs.Result.{result_err}
use Rattle.uri_parts.specs.Prelude.{IsOfKind, Kind, components}
use Rattle.uri_ops.specs.declared.convert.ConvertError.{ConvertError}
use Rattle.uri_ops.specs.declared.convert.ConvertError.TheVariants.{NoScheme, NotAscii}

-- whether a byte is one of a character past ASCII, for which a conversion fails: it is at least 128
abbrev pub is_past_ascii : ℕ → Bool
is_past_ascii b = not (nat_lt b 128)

-- the index of the first byte of a text that is past ASCII, if there is one
unfoldable pub first_past_ascii : List ℕ → Option ℕ
first_past_ascii text = position is_past_ascii text

-- the error of converting a reference to a URI or an IRI, if it has no scheme (section 4.1)
unfoldable pub missing_scheme_error : List ℕ → Option ConvertError
missing_scheme_error text = if is_some (components text).scheme then None else Some NoScheme

-- the error of converting an IRI or IRI reference to a URI or URI reference, if it has a character
-- past ASCII (RFC 3987, section 3.1)
unfoldable pub not_ascii_error : List ℕ → Option ConvertError
not_ascii_error text = option_map (λ index. NotAscii index) (first_past_ascii text)

-- the error of converting an IRI reference to a URI, if it is none: `NoScheme` comes before
-- `NotAscii`
unfoldable pub uri_conversion_error : List ℕ → Option ConvertError
uri_conversion_error text = option_or (missing_scheme_error text) (not_ascii_error text)

-- a conversion accepts a value exactly if its text is of the kind, keeps the text, and otherwise
-- returns the error `refusal`
pub record Converts {A : Type 0} (kind : Kind) (text_of : A → List ℕ) (text : List ℕ)
    (refusal : Option ConvertError) (result : Result A ConvertError) : Type 0 where
  pub accepts : IsOk result ↔ IsOfKind kind text
  pub same : IfOk result (λ value. text_of value ≡ text)
  pub refused : result_err result ≡ refusal

-- a conversion of a value that owns its text: as `Converts`, and an error has the value beside it
pub record ConvertsOwned {A B : Type 0} (kind : Kind) (text_of : A → List ℕ) (text : List ℕ)
    (refusal : Option ConvertError) (value : B)
    (result : Result A (ConvertError × B)) : Type 0 where
  pub accepts : IsOk result ↔ IsOfKind kind text
  pub same : IfOk result (λ other. text_of other ≡ text)
  pub refused : option_map (λ e. e.0) (result_err result) ≡ refusal
  pub back : IfErr result (λ e. e.1 ≡ value)

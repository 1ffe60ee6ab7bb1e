-- The components of a normal text, in the pieces that they are read in.
use Rattle.uri_ops.proofs.Common.{arith, ◌≡◌, ℕ, Bool, true, false, List, [], ◌++◌, refl, sym, ap, ◌∙◌, eqb, length, option_map, Option, is_some, str_to_ascii_lowercase, eqb-true, append-nil, nil_from_length, decode_unreserved, TableSet, print, is_some-option_map, Components, starts, Kind, host_kind, PortFunction, remove_dot_segments, components_meaning, host_meaning, host_text, normal_authority, normal_path_text, guarded, has_authority, normal_component, common_steps, codes, marked, default_port_of, normal_authority_with_delimiter, normal_part, normal_scheme, normal_text}
use Rattle.uri_ops.specs.FromEnd.Addresses.{ipv6_host_text}
use Rattle.uri_ops.proofs.FromEnd.NormalTokens.{nothing_is_left}

pub nothing_is_written : (lowers : Bool) (set : TableSet) → normal_component lowers set [] ≡ []
nothing_is_written lowers set =
    sym (append-nil (normal_component lowers set [])) ∙ nothing_is_left lowers set [] [] refl refl

pub two_pieces : (whole first second x y : List ℕ) → whole ≡ first ++ second → first ≡ x
    → second ≡ y → whole ≡ x ++ y
two_pieces whole first second x y e f h = e ∙ ap (λ t. t ++ second) f ∙ ap (λ t. x ++ t) h

-- normal texts: where nothing is read after it, a piece is all that is read
pub first_piece_alone : (whole first second text : List ℕ) → whole ≡ first ++ second → second ≡ []
    → first ≡ text → whole ≡ text
first_piece_alone whole first second text e none f =
    e ∙ ap (λ t. first ++ t) none ∙ append-nil first ∙ f

-- normal texts: where nothing is read before it, a piece is all that is read
pub second_piece_alone : (whole first second text : List ℕ) → whole ≡ first ++ second → first ≡ []
    → second ≡ text → whole ≡ text
second_piece_alone whole first second text e none f = e ∙ ap (λ t. t ++ second) none ∙ f

pub empty_if_tested : (text : List ℕ) → eqb (length text) 0 ≡ true → text ≡ []
empty_if_tested text e = nil_from_length text (eqb-true (length text) 0 e)

pub not_empty_if_tested : (text : List ℕ) → eqb (length text) 0 ≡ false → text ≡ [] → ⊥
not_empty_if_tested text e none = let same = ap (λ t. eqb (length t) 0) none in cc

-- normal paths: under a scheme a path that begins with `/` (47) is without its dot segments
pub normal_path_under_scheme : (set : TableSet) (scheme authority : Option (List ℕ))
    (path : List ℕ) → is_some scheme ≡ true → starts 47 path ≡ true
    → guarded authority (print (decode_unreserved set (remove_dot_segments path)))
    ≡ normal_path_text set scheme authority path
normal_path_under_scheme set scheme authority path e s = grind (arith, common_steps)

-- normal paths: only one that would be parsed as an authority, where there is none, is guarded
pub path_after_authority_gets_no_guard : (authority : Option (List ℕ)) (path : List ℕ)
    → is_some authority ≡ true → guarded authority path ≡ path
path_after_authority_gets_no_guard authority path none = grind (arith, common_steps)

pub path_without_two_slashes_gets_no_guard : (authority : Option (List ℕ)) (path : List ℕ)
    → has_authority path ≡ false → guarded authority path ≡ path
path_without_two_slashes_gets_no_guard authority path none = grind (arith, common_steps)

-- normal texts: the pieces, of components and sets found equal to these, are the whole text
pub pieces_are_normal_text : (kind : Kind) (ports : PortFunction) (p : Components)
    (scheme query fragment : Option (List ℕ)) (path_set query_set fragment_set : TableSet)
    → scheme ≡ p.scheme → query ≡ p.query → fragment ≡ p.fragment → path_set ≡ kind.path
    → query_set ≡ kind.query → fragment_set ≡ kind.fragment
    → marked [] (normal_scheme scheme) (codes ":")
    ++ (normal_authority_with_delimiter kind (default_port_of ports scheme) p.authority
    ++ (normal_path_text path_set p.scheme
    (option_map normal_authority (components_meaning kind ports p).authority) p.path
    ++ (marked (codes "?") (normal_part query_set query) []
    ++ marked (codes "#") (normal_part fragment_set fragment) [])))
    ≡ normal_text (components_meaning kind ports p)
pieces_are_normal_text kind ports p scheme query fragment path_set parts_set last_set s q f a b c =
    grind (arith, is_some-option_map)

-- normal hosts: a host without brackets is no IPv6 address
pub name_has_no_address : (host : List ℕ) → starts 91 host ≡ false
    → ipv6_host_text (host_kind host) ≡ []
unfolding host_kind
name_has_no_address host s = grind (arith, common_steps)

-- normal hosts: a host in brackets that is no IPv6 address is in lower case
pub host_without_address_is_lowered : (names : TableSet) (host : List ℕ) → starts 91 host ≡ true
    → ipv6_host_text (host_kind host) ≡ []
    → str_to_ascii_lowercase host ≡ host_text (host_meaning names host (host_kind host))
unfolding host_kind
host_without_address_is_lowered names host s none = grind (arith, common_steps)

pub host_with_address_is_its_text : (names : TableSet) (host : List ℕ) → starts 91 host ≡ true
    → (ipv6_host_text (host_kind host) ≡ [] → ⊥)
    → ipv6_host_text (host_kind host) ≡ host_text (host_meaning names host (host_kind host))
unfolding host_kind
host_with_address_is_its_text names host s some = grind (arith, common_steps)

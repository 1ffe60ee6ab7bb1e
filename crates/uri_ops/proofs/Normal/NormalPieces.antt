-- The pieces of a normal text, as they are appended one after the other.
use Rattle.uri_ops.proofs.Common.{◌≡◌, ℕ, true, false, ◌&&◌, List, ◌++◌, option_map, arith, codes, Option, is_some, IsUtf8, append_assoc, nat_tests, TableSet, is_absolute, decode_unreserved, IsValidFor, print, components, has_authority, starts, Kind, IsComponentSet, remove_dot_segments, meaning_of, normal_authority, normal_path, normal_path_text, PortFunction, guarded, print_decoded, is_some-option_map, common_steps}
use Rattle.uri_ops.proofs.Meanings.AllowedParts.{set-text-from-utf8}
use Rattle.uri_ops.proofs.Paths.DecodedStarts.{decoding-keeps-two-slashes}

decoded-path-keeps-two-slashes : (set : TableSet)
    → IsComponentSet (codes "?#[]") set → (path : List ℕ) → IsUtf8 path
    → IsValidFor set path → has_authority (print (decode_unreserved set path)) ≡ has_authority path
unfolding print_decoded
decoded-path-keeps-two-slashes set w path utf8 valid =
    grind (arith, nat_tests, decoding-keeps-two-slashes, set-text-from-utf8)

pub path-with-dots-is-normal-when-decoded : (set : TableSet) → IsComponentSet (codes "?#[]") set
    → (scheme authority : Option (List ℕ)) (path : List ℕ) → IsUtf8 path → IsValidFor set path
    → (is_some scheme && starts 47 path) ≡ false
    → normal_path_text set scheme authority path ≡ print (decode_unreserved set path)
path-with-dots-is-normal-when-decoded set w authority path o utf8 valid e =
    grind (arith, common_steps, decoded-path-keeps-two-slashes)

-- normal paths: if a path that begins with `/` is appended under a scheme, decoded, without its dot
-- segments and after the guard that this needs, its normal form is appended
pub pushed-path-without-dots-is-normal : (set : TableSet) (scheme authority : Option (List ℕ))
    (path old new : List ℕ) → is_some scheme ≡ true → starts 47 path ≡ true
    → new ≡ old ++ guarded authority (print (decode_unreserved set (remove_dot_segments path)))
    → new ≡ old ++ normal_path_text set scheme authority path
pushed-path-without-dots-is-normal set scheme authority path old new some absolute pushed =
    grind (arith, common_steps)

pub is_some-of-mapped-twice : {A B C : Type 0} (f : A → B) (h : B → C) (o : Option A)
    → is_some (option_map h (option_map f o)) ≡ is_some o
is_some-of-mapped-twice f h o = grind (arith, common_steps)

pub five-appended-texts-are-one : (old s a p q f o1 o2 o3 o4 new : List ℕ) → o1 ≡ old ++ s → o2 ≡ o1
    ++ a → o3 ≡ o2 ++ p → o4 ≡ o3 ++ q → new ≡ o4 ++ f → new ≡ old ++ (s ++ (a ++ (p ++ (q ++ f))))
five-appended-texts-are-one old s a p q f o1 o2 o3 o4 new e1 e2 e3 e4 e5 =
    grind (arith, nat_tests, append_assoc)

pub normal_path-by-components : (kind : Kind) (ports : PortFunction) (text : List ℕ)
    → (let p = components text in let m = meaning_of kind ports text in
    normal_path_text kind.path p.scheme (option_map normal_authority m.authority) p.path
    ≡ normal_path m)
normal_path-by-components kind ports text = grind (arith, nat_tests, is_some-option_map)

-- normal paths: beginning with `/` (47) is being absolute
pub absolute-is-leading-slash : (path : List ℕ) → starts 47 path ≡ is_absolute path
absolute-is-leading-slash path = grind (arith, common_steps)

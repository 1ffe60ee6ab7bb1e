-- What the rules of schemes make of a meaning.
use Rattle.uri_ops.proofs.Common.{◌≡◌, ℕ, ◌<◌, Bool, false, cond, List, [], ◌∷◌, ◌++◌, length, refl, arith, option_map, rules, length-encode, len_utf8_bounds, Token, print, Kind, PortFunction, is_empty, Meaning, meaning_of, Rules, has_no_token, meaning_under, only_ports, under_rules, common_steps}

-- general fact on booleans, for rules: a function of what a test chooses
pub map-cond : {A B : Type 0} (f : A → B) (b : Bool) (x y : A) → f (cond b x y) ≡ cond b (f x) (f y)
map-cond f b x y = grind (arith, common_steps)

longer-text-is-not-empty : (before rest : List ℕ) → 0 < length before
    → is_empty (before ++ rest) ≡ false
longer-text-is-not-empty [] rest h = absurd (omega (arith, h))
longer-text-is-not-empty (c ∷ before) rest h = refl

pub print-is-empty-without-tokens : (ts : List Token) → is_empty (print ts) ≡ has_no_token ts
print-is-empty-without-tokens ts =
    grind (arith, common_steps, longer-text-is-not-empty, length-encode, len_utf8_bounds)

pub under_rules-is-idempotent : (rules : Rules) (m : Meaning)
    → under_rules rules (under_rules rules m) ≡ under_rules rules m
under_rules-is-idempotent rules m = grind arith

pub meaning-under-ports-alone : (kind : Kind) (ports : PortFunction) (text : List ℕ)
    → meaning_under kind (only_ports ports) text ≡ meaning_of kind ports text
meaning-under-ports-alone kind ports text = grind (arith, rules, option_map)

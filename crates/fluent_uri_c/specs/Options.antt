-- The options of a call, bits by the numbers of the header.
use Rattle.std.specs.Prelude.{ℕ, Bool, true, false, ◌==◌, Option, Some, None, if◌then◌else◌}
use Rattle.uri_ops.specs.declared.scheme_rules.RuleSet.{RuleSet}
use Rattle.uri_ops.specs.declared.scheme_rules.RuleSet.TheVariants as Set

-- the numbers in the C header of the options: that a relative path is preferred
abbrev pub prefer_relative_path : ℕ
prefer_relative_path = 1

-- and that normalising is by the rules of schemes (section 6.2.3)
abbrev pub scheme_rules : ℕ
scheme_rules = 2

-- and that resolving is by the basic algorithm (section 5.2)
abbrev pub basic : ℕ
basic = 4

-- whether a relative path is preferred, by the options of a call that makes references, if it has
-- no other option
abbrev pub path_preference : ℕ → Option Bool
path_preference options =
    if options == 0 then Some false
    else (if options == prefer_relative_path then Some true else None)

-- the rules that normalising is by, by the options of a call that normalises, if it has no other
-- option
abbrev pub rules_choice : ℕ → Option RuleSet
rules_choice options =
    if options == 0 then Some Set.DefaultPorts
    else (if options == scheme_rules then Some Set.StandardRules else None)

-- whether resolving is by the basic algorithm, by the options of a call that resolves, if it has no
-- other option
abbrev pub basic_choice : ℕ → Option Bool
basic_choice options =
    if options == 0 then Some false
    else (if options == basic then Some true else None)

-- What proofs import from std, from lower crates and from `specs/`: the modules that three
-- files or more use.
pub use Rattle.std.proofs.Common.{◌≡◌, ◌+◌, ◌<◌, ◌≤◌, ◌++◌, ℕ, Bool, true, false, List, [], refl, ap, sym, ◌∙◌, subst, length, Option, Some, None, arith, take, take_all, ltb-true, ltb-false, ◌-◌, eqb, ◌∷◌, drop, get_or, String, string_bytes, inl, inr, append-nil, suc, map, Result, codes, append_assoc, take-append-drop, ◌↔◌, rules, OnOk}
pub use Rattle.std.proofs.KnownBytes.{Appends-kept, Appends-nil, Appends-trans, Keeps-trans}
pub use Rattle.std.proofs.lemmas.Grind.{common_steps}
pub use Rattle.std.proofs.lemmas.List.{take-append-le, length-drop, take_more, take-map, take_rest}
pub use Rattle.std.specs.Io.KnownBytes.{Appends, Keeps}
pub use Rattle.std.specs.Prelude.{nat_lt, Ok, Err, IfSome, if◌then◌else◌, MatchOption, option_map, slice_get, IfErr, IfOk, IsOk, MatchResult, is_ok}
pub use Rattle.fluent_uri.specs.Prelude.{IsOfKind, Kind, iri, iri_ref, is_of_kind, rules_of_set, uri, uri_ref, uri_ref_text, uri_text}
pub use Rattle.fluent_uri.specs.declared.normalize.RuleSet.{RuleSet}
pub use Rattle.uri_commands.specs.Commands.{Command, Parse, Normalize, Mend, Resolve, Links, output_of, texts, words_of, AreWordsOfLinks, AreWordsOfResolve, AreWordsOfTextCommand, AreWordsOfRuledLinks, AreWordsOfRuledNormalize, IsCommand, are_of_kind, kind_of_base, kind_of_references, Prints}
unfoldable pub use Rattle.uri_commands.specs.Commands.{target_text}
pub use Rattle.uri_commands.specs.Kinds.{kind_named}
unfoldable pub use Rattle.uri_commands.specs.Kinds.{normal_form_of}
pub use Rattle.uri_commands.specs.Links.{outcome_line, outcome_lines}
unfoldable pub use Rattle.uri_commands.specs.Links.{link_lines}
pub use Rattle.uri_commands.specs.Prefixes.{AppendsPrefix}
pub use Rattle.uri_commands.specs.Refusals.{IsErrorOf, IsErrorOfFirst, IsErrorOfCommand, IsErrorOfLink, IsErrorOfNormalForm, command_error_text, error_line}
pub use Rattle.uri_commands.specs.Sinks.{Call, Flushed, IsFailedFlush, IsFailedWrite, IsInterruptedFlush, IsInterruptedWrite, Wrote}
pub use Rattle.uri_commands.specs.declared.kinds.KindName.{KindName}
pub use Rattle.uri_commands.specs.declared.refusal.CommandError.{CommandError}
pub use Rattle.uri_commands.specs.declared.refusal.CommandError.TheVariants.{Text, Base, Reference, Target, OutOfMemory, OutputFailed}

-- What clauses and specifications of the crates above name, from one module.
pub use Rattle.uri_ops.specs.BuilderParts.{is_authority_text, is_scheme_text, is_text_for, no_parts}
pub use Rattle.uri_ops.specs.BuilderStates.{contents_of, parts_in_state}
pub use Rattle.uri_ops.specs.Built.{build_error_of_path}
pub use Rattle.uri_ops.specs.ComponentSets.{HasComponentSets, IsComponentSet}
pub use Rattle.uri_ops.specs.Conversions.{Converts, ConvertsOwned, missing_scheme_error, not_ascii_error, uri_conversion_error}
pub use Rattle.uri_ops.specs.Dots.{EndsInSlash, IsAbsolute, before_last_slash, has_slash, is_dot_segment, is_double_dot, is_empty, lacks_dot_segments, last_segment, or_slash, remove_dot_segments, segments, underflows, up_to_last_slash}
pub use Rattle.uri_ops.specs.Encoded.{AreEquivalent, ascii_kind, encode_past_ascii}
pub use Rattle.uri_ops.specs.Models.Places.{before_path}
pub use Rattle.uri_ops.specs.Normal.{normal_text}
pub use Rattle.uri_ops.specs.NormalTargets.{reference_kind, resolved_meaning}
pub use Rattle.uri_ops.specs.Normalizers.{IsNormalForm, scheme_rules_of}
pub use Rattle.uri_ops.specs.Resolved.{IsResolved}
pub use Rattle.uri_ops.specs.Resolving.{IsErrorWithUnderflowAllowed, components_of, with_final_path}
pub use Rattle.uri_ops.specs.RuleSets.{rules_of_set}
pub use Rattle.uri_ops.specs.SchemeRules.{Rules, default_rules, meaning_under}
pub use Rattle.uri_ops.specs.Target.{dotted_target, guarded, is_opaque, is_opaque_rejection, merged, resolution_of, resolution_of_texts, target_of, target_underflows}

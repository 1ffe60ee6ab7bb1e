use Rattle.uri_ops.proofs.Common.{ap, [], ◌+◌, ◌∙◌, codes, components, marked, slice_range-from-start}
use Rattle.uri_ops.proofs.Targeting.TextViews.{slice-of-scheme}
use Rattle.uri_ops.proofs.resolve.text_view.TextView.scheme_with_delimiter.Goals as goal

pub range-requires-clause-end_boundary : goal.range-requires-clause-end_boundary
range-requires-clause-end_boundary c = (slice-of-scheme c.as_str-text.result.now
    c.unpack.result c.as_str-text.utf8 c.unpack.ensures c.in-Some.end c.in-Some.is).cut

pub returns-in-Some : goal.returns-in-Some
returns-in-Some c = c.range.ensures.value ∙ slice_range-from-start c.as_str-text.result.now
    (c.in-Some.end + 1) ∙ (slice-of-scheme c.as_str-text.result.now
    c.unpack.result c.as_str-text.utf8 c.unpack.ensures c.in-Some.end c.in-Some.is).holds
    ∙ ap (λ t. marked [] (components t).scheme (codes ":")) c.as_str-text.ensures.text

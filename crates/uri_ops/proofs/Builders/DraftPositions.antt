-- Where the parts of a builder are in its text.
use Rattle.uri_ops.proofs.Common.{common_steps, ◌≡◌, ◌+◌, ◌≤◌, length, subst, arith, string_bytes, option_map, false, IfSome, nat_tests, positions_of, Draft, Lengths, BuilderParts, as_components, parts_text, draft_parts, lengths_of, IsHostAt, HasRightHostRange, positions_from_lengths, delimited_len}
use Rattle.uri_ops.proofs.Builders.DraftHosts.{host-range-of-some-authority}

-- building: the parts with their delimiters, up to the query, are no longer than the text
part-lengths-are-within-text : (p : BuilderParts) → delimited_len 1 (option_map length p.scheme)
    + delimited_len 2 (option_map length p.authority) + delimited_len 0 (option_map length p.path)
    + delimited_len 1 (option_map length p.query) ≤ length (parts_text p)
part-lengths-are-within-text p = grind (arith, common_steps)

module _ (d : Draft) (whole : d.failed ≡ false) (knows : HasRightHostRange d) where
  abbrev parts : BuilderParts
  parts = draft_parts d

  -- the lengths that a draft keeps are the lengths of its parts
  counted : lengths_of parts ≡ d.lengths
  counted = (d.ok whole).counted

  text-of-parts-is-draft-text : parts_text parts ≡ string_bytes d.text
  text-of-parts-is-draft-text = (d.ok whole).whole

  host : IfSome parts.authority (IsHostAt d.host)
  host = host-range-of-some-authority d.host parts.authority (knows whole)

  pub draft-positions-are-of-its-parts : positions_from_lengths d.lengths d.host
      ≡ positions_of (as_components parts)
  draft-positions-are-of-its-parts = grind arith

  pub part-lengths-fit-in-text : delimited_len 1 d.lengths.scheme
      + delimited_len 2 d.lengths.authority + delimited_len 0 d.lengths.path
      + delimited_len 1 d.lengths.query ≤ length (string_bytes d.text)
  part-lengths-fit-in-text = subst (λ (l : Lengths). delimited_len 1 l.scheme
      + delimited_len 2 l.authority + delimited_len 0 l.path + delimited_len 1 l.query ≤ length
      (string_bytes d.text)) counted (subst (λ t. delimited_len 1 (option_map length parts.scheme)
      + delimited_len 2 (option_map length parts.authority) + delimited_len 0
      (option_map length parts.path) + delimited_len 1 (option_map length parts.query)
      ≤ length t) text-of-parts-is-draft-text (part-lengths-are-within-text parts))

  pub host-start-is-in-authority : IfSome d.lengths.authority (λ n. d.host.start ≤ n)
  host-start-is-in-authority = grind (arith, nat_tests, host, counted)

  pub host-end-is-in-authority : IfSome d.lengths.authority (λ n. d.host.end ≤ n)
  host-end-is-in-authority = grind (arith, nat_tests, host, counted)

use Rattle.uri_relative.proofs.Common.{◌+◌, ap, length, sym, ◌∙◌, Some, components_of}
use Rattle.uri_relative.proofs.EndPlaces.{no-query-no-query-end, query-end-by-length}
use Rattle.uri_relative.proofs.places.query_end_after.Goals as goal

pub returns-then-has_query : goal.returns-then-has_query
returns-then-has_query c =
    ap (λ q. Some (c.args.path_len + length q)) c.query_with_delimiter.ensures
    ∙ query-end-by-length c.args.path_len (components_of c.args.target.now).query
    (sym c.has_query.ensures ∙ c.if-has_query.true)

pub returns : goal.returns
returns c = no-query-no-query-end c.args.path_len (components_of c.args.target.now).query
    (sym c.has_query.ensures ∙ c.if-has_query.false)

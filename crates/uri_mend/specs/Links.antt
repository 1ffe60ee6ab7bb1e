-- Steps of mending: where the path of a text begins, and what is before it. No RFC has this.
use Rattle.std.specs.Prelude.{◌≡◌, ℕ, List, drop, take, true}
use Rattle.std.specs.Str.{IsCharBoundary}
use Rattle.uri_parts.specs.Prelude.{packed, positions_of}
use Rattle.uri_parts.specs.declared.packed_positions.PackedPositions.{PackedPositions}
use Rattle.uri_ops.specs.Prelude.{before_path}
use Rattle.uri_mend.specs.Mending.{link_components}
use Rattle.uri_mend.specs.Tails.{IsMendedByPieces, IsPathMendedByPieces, query_of_tail}
use Rattle.uri_mend.specs.declared.link.Link.{Link}

-- the positions with these ends of a path and a query
abbrev pub with_ends_at : PackedPositions → ℕ → ℕ → PackedPositions
with_ends_at p path_end query_end = record p { path_end = path_end; query_end = query_end }

-- the text is mended as what is before this position, then `./` if the flag is true, and then what
-- is after it, mended; and the positions before it are those of what it is mended to
pub record IsLink (text : List ℕ) (link : Link) : Type 0 where
  pub boundary : IsCharBoundary text link.path_start
  pub alone : link.has_false_scheme ≡ true → link.path_start ≡ 0
  pub prefix : take link.path_start text ≡ before_path (link_components text)
  pub pieces : IsMendedByPieces text (take link.path_start text) link.has_false_scheme
      (drop link.path_start text)
  pub path : IsPathMendedByPieces (link_components text).path link.has_false_scheme
      (drop link.path_start text)
  pub query : (link_components text).query ≡ query_of_tail (drop link.path_start text)
  pub before : (path_end query_end : ℕ) → with_ends_at link.before path_end query_end
      ≡ with_ends_at (packed (positions_of (link_components text))) path_end query_end

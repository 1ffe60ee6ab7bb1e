-- A copy of a core is the core: what holds of its fields has one proof.
use Rattle.uri_parts.proofs.Common.{ℕ, List, ap, Kind, IsOfKind, ArePackedPositionsOf}
use Rattle.std.proofs.Props.{props}
use Rattle.uri_parts.specs.declared.packed_positions.PackedPositions.{PackedPositions}
use Rattle.uri_parts.proofs.core_text.CoreClone.clone.Goals as goal

held_once : (kind : Kind) (text : List ℕ) (positions : PackedPositions)
    → IsProp (IsOfKind kind text × ArePackedPositionsOf text positions)
held_once kind text positions = hlevel props

-- src/core_text.rt:55:5
pub returns : goal.returns
returns g c =
    let text = g.T.AsStr.text c.args.self.now.text in
    let packed = c.args.self.now.positions in
    record {
      cases = ap (λ (h : IsOfKind g.K.Kind.kind text × ArePackedPositionsOf text packed). record {
        text = c.args.self.now.text;
        positions = packed;
        kind = record {};
        of_kind = h.0;
        at = h.1;
      }) (held_once g.K.Kind.kind text packed (_, _) (c.args.self.now.of_kind, c.args.self.now.at));
    }

-- What a builder holds in its state (RFC 3986, section 3). Its type names, of its kind, the
-- encoders, and what holds of them.
use Rattle.uri_ops.specs.declared.build.Builder.{Builder}
use Rattle.uri_ops.specs.declared.build.state.DraftInState.{DraftInState}
use Rattle.uri_ops.specs.BuilderParts.{BuilderParts}
use Rattle.uri_ops.specs.Builders.{draft_parts}

-- the contents of a builder: its draft, in the state that the builder's type names
abbrev pub contents_of : {R S O U N P Q F K H : _} → Builder R S O U N P Q F K H → H
contents_of builder = builder.contents

-- the parts that a draft of a builder holds, in the state that its type names
abbrev pub parts_in_state : {R S O U N P Q F K : _} {r u n p q f k s : _}
    → DraftInState R S O U N P Q F K r u n p q f k s → BuilderParts
parts_in_state at = draft_parts at.draft

use Rattle.uri_ops.proofs.Common.{sym, ◌∙◌}
use Rattle.uri_ops.proofs.AsciiForms.EncodedPaths.{encoding-of-nil-is-nil}
use Rattle.uri_ops.proofs.convert.encoded.push_encoded_to_path.Goals as goal

pub push_encoded_between-requires-clause-before : goal.push_encoded_between-requires-clause-before
push_encoded_between-requires-clause-before c = c.requires.before ∙ sym encoding-of-nil-is-nil

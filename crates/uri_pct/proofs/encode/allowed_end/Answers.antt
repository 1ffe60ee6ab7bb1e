use Rattle.uri_pct.proofs.Common.{◌≡◌, ◌+◌, drop, arith, valid_prefix, set_of}
use Rattle.uri_pct.proofs.ValidTexts.UnchangedPrefixes.{set_without_octets, allowed_run_is_encoded_as_itself, char_after_allowed_run_is_not_allowed}
use Rattle.uri_pct.proofs.encode.allowed_end.Goals as goal

scanned_to : (c : goal.After-scan) → c.scan.result ≡ c.args.start + valid_prefix
    (set_without_octets (set_of c.args.table.now)) (drop c.args.start c.args.text.now)
scanned_to c = grind arith

pub returns-clause-unchanged : goal.returns-clause-unchanged
returns-clause-unchanged c = allowed_run_is_encoded_as_itself (set_of c.args.table.now)
    c.args.text.now c.args.start c.scan.result c.utf8.text c.requires (scanned_to c)

pub returns-clause-stop : goal.returns-clause-stop
returns-clause-stop c = λ ch rest joined. char_after_allowed_run_is_not_allowed
    (set_of c.args.table.now) c.args.text.now
    rest c.args.start c.scan.result ch c.utf8.text c.scan.ensures.boundary (scanned_to c) joined

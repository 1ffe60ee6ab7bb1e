use Rattle.std.proofs.Common.{rules, ◌≡◌, codes, string_bytes}
use Rattle.uri_commands.proofs.Commands.{bytes-of-four-words}
use Rattle.uri_commands.proofs.command.ruled_normalize_from_words.Goals as goal

pub returns-in_ok-kind-in-len4 : goal.returns-in_ok-kind-in-len4
returns-in_ok-kind-in-len4 c =
    let words = bytes-of-four-words _ _ _ _ _ c.in-len4.len_at_least c.in-len4.len_below
    c.option-item.is c.command-item.is c.kind-item.is c.text-item.is in
    let option : string_bytes c.option-item.result ≡ codes "--scheme-rules" = search rules in
    let command : string_bytes c.command-item.result ≡ codes "normalize" = search rules in
    cc (
      c.in_ok-kind-in-len4.ensures,
      c.as_str-in-len4.ensures.value,
      c.as_str-in-len4-2.ensures.value,
    )

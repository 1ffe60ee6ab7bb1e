use Rattle.std.proofs.Common.{rules, ◌≡◌, codes, string_bytes}
use Rattle.uri_commands.proofs.Commands.{bytes-of-four-and-others}
use Rattle.uri_commands.proofs.command.ruled_links_from_words.Goals as goal

pub returns-in-len4-up : goal.returns-in-len4-up
returns-in-len4-up c =
    let words = bytes-of-four-and-others _ _ _ _ _ c.in-len4-up.len_at_least c.option-item.is
    c.command-item.is c.base-item.is c.reference-item.is in
    let option : string_bytes c.option-item.result ≡ codes "--scheme-rules" = search rules in
    let command : string_bytes c.command-item.result ≡ codes "links" = search rules in
    cc (c.as_str-in-len4-up.ensures.value, c.as_str-in-len4-up-2.ensures.value)

use Rattle.std.proofs.Common.{◌++◌, ◌∙◌, ap, append_assoc, codes, option_map, string_bytes, sym}
use Rattle.uri_commands.proofs.Offered.{on-ok}
use Rattle.uri_streams.specs.Json.{member_before}
use Rattle.uri_streams.proofs.json.push_userinfo.Goals as goal

pub returns-in-Some : goal.returns-in-Some
returns-in-Some c =
    on-ok c.push_member.result _ _ (λ e. e ∙ ap (λ l. string_bytes c.args.out.now ++ l)
    (ap (λ l. codes "\"userinfo\":\"" ++ l)
    (sym (append_assoc c.in-Some.userinfo.now (codes "\"") (codes ",")))
    ∙ ap (λ o. member_before (codes "userinfo") (option_map (λ t. t.now) o))
    (sym c.in-Some.is)))
    c.push_member.ensures

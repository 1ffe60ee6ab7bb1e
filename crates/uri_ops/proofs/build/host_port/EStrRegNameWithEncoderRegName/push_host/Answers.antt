use Rattle.uri_ops.proofs.Common.{refl, subst, reg_name_set, IsHostText}
use Rattle.uri_ops.proofs.Builders.BuilderHosts.{valid-name-is-host}
use Rattle.uri_ops.proofs.build.host_port.EStrRegNameWithEncoderRegName.push_host.Goals as goal

pub returns-clause-host : goal.returns-clause-host
returns-clause-host c = subst (IsHostText reg_name_set) c.as_str.ensures.text (valid-name-is-host
    reg_name_set refl refl c.as_str.result.now c.as_str.utf8 c.as_str.ensures.valid)
